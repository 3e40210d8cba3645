use Rattle.steps8080.proofs.Numbered.{writes_jump}
use Rattle.steps8080.proofs.writer.Writer.jump.Goals as goal

pub returns : goal.returns
returns c =
    let found = c.in_ok-label.ensures in
    writes_jump c.args.self.now c.label_of.new.self _ c.jump.new.self c.args.form c.args.number c.in_ok-label.label
    c.self.view_is found.items found.labels found.counted found.marked found.externals found.found
    c.in_ok-jump.ensures.ok
