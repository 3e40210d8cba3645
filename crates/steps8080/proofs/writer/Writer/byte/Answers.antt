use Rattle.steps8080.proofs.Prelude.{refl, Byte}
use Rattle.steps8080.proofs.Numbered.{writes_known}
use Rattle.steps8080.proofs.writer.Writer.byte.Goals as goal

pub returns : goal.returns
returns c =
    writes_known _ _ _ (Byte c.args.value) (Byte c.args.value)
    c.self.view_is c.in_ok-emit_byte.ensures.ok refl refl refl refl
