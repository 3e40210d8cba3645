use Rattle.tool.proofs.Prelude.{refl}
use Rattle.tool.proofs.Lined.{all_lined, lined_next}
use Rattle.tool.proofs.marking.with_lines.Goals as goal

pub loop-mark-preserved : goal.loop-mark-preserved
loop-mark-preserved c =
    lined_next c.loop-mark.lined.items c.push.new.self.items c.args.marks.now c.loop-mark.mark-index _ _ _
    c.in_ok-push.ensures.items c.loop-mark-test.true refl refl c.loop-mark.invariant

pub returns : goal.returns
returns c =
    all_lined c.loop-mark.lined.items c.args.marks.now c.loop-mark.mark-index c.loop-mark.invariant
    c.loop-mark-test.false
