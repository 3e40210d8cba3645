use Rattle.syntax.proofs.Prelude.{refl}
use Rattle.syntax.proofs.ReaderResults.{gives_made}
use Rattle.syntax.proofs.reader.Reader.take_string_constant.Goals as goal

pub returns : goal.returns
returns c =
    gives_made _ _ _ _ _ _ c.or_memory.ensures c.string.ensures.view
    (rw (c.in_ok-literal.ensures) refl)
