use Rattle.syntax.proofs.Prelude.{refl, call}
use Rattle.syntax.proofs.ReaderResults.{gives_made}
use Rattle.syntax.proofs.reader.Reader.take_call.Goals as goal

pub returns : goal.returns
unfolding call
returns c =
    gives_made _ _ _ _ _ _ c.or_memory.ensures c.call.ensures.view
    (rw (c.in_ok-name.ensures, c.in_ok-arguments.ensures, c.in_ok-take_semicolon.ensures) refl)
