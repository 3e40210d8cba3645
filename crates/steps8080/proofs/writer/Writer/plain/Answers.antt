use Rattle.steps8080.proofs.Prelude.{refl, Plain}
use Rattle.steps8080.proofs.Numbered.{writes_known}
use Rattle.steps8080.proofs.writer.Writer.plain.Goals as goal

pub returns : goal.returns
returns c =
    writes_known _ _ _ (Plain c.args.instruction) (Plain c.args.instruction)
    c.self.view_is c.in_ok-emit.ensures.ok refl refl refl refl
