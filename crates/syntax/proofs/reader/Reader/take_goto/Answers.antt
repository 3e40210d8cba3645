use Rattle.syntax.proofs.Prelude.{refl, goto}
use Rattle.syntax.proofs.ReaderResults.{gives_made}
use Rattle.syntax.proofs.reader.Reader.take_goto.Goals as goal

pub returns : goal.returns
unfolding goto
returns c =
    gives_made _ _ _ _ _ _ c.or_memory.ensures c.goto.ensures.view
    (rw (c.in_ok-label.ensures, c.in_ok-take_semicolon.ensures) refl)
