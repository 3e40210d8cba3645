use Rattle.syntax.proofs.Prelude.{refl}
use Rattle.syntax.proofs.StatementValues.{return_value_is}
use Rattle.syntax.proofs.ReaderResults.{gives_made}
use Rattle.syntax.proofs.reader.Reader.take_return.Goals as goal

pub returns : goal.returns
returns c =
    gives_made _ _ _ _ _ _ c.or_memory.ensures c.return_value.ensures.view
    (rw (return_value_is, c.in_ok-value.ensures) refl)
