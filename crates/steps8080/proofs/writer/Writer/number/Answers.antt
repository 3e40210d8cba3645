use Rattle.steps8080.proofs.Numbered.{writes_then}
use Rattle.steps8080.proofs.writer.Writer.number.Goals as goal

pub returns : goal.returns
returns c =
    writes_then _ _ _ _ _ c.in_ok-byte.ensures c.in_ok-byte-2.ensures
