use Rattle.steps8080.proofs.Prelude.{refl, Item, Address, AtTarget, InSegment}
use Rattle.steps8080.proofs.Numbered.{writes_known}
use Rattle.steps8080.proofs.writer.Writer.fixed_address.Goals as goal

pub returns : goal.returns
returns c =
    let item : Item = Address (AtTarget (InSegment c.args.segment) c.args.offset) in
    writes_known _ _ _ item item c.self.view_is c.in_ok-emit_address.ensures.ok refl refl refl refl
