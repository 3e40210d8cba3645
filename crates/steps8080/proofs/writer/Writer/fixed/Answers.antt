use Rattle.steps8080.proofs.Prelude.{refl, Item, WithWord, AtTarget, InSegment}
use Rattle.steps8080.proofs.Numbered.{writes_known}
use Rattle.steps8080.proofs.writer.Writer.fixed.Goals as goal

pub returns : goal.returns
returns c =
    let item : Item = WithWord c.args.form (AtTarget (InSegment c.args.segment) c.args.offset) in
    writes_known _ _ _ item item c.self.view_is c.in_ok-emit_fixed.ensures.ok refl refl refl refl
