use Rattle.steps8080.proofs.Prelude.{refl, Item, WithWord, AtNumber}
use Rattle.steps8080.proofs.Numbered.{writes_known}
use Rattle.steps8080.proofs.writer.Writer.word_of_number.Goals as goal

pub returns : goal.returns
returns c =
    let item : Item = WithWord c.args.form (AtNumber c.args.number) in
    writes_known _ _ _ item item c.self.view_is c.in_ok-emit_number.ensures.ok refl refl refl refl
