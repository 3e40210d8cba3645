use Rattle.syntax.proofs.Prelude.{refl, assignment}
use Rattle.syntax.proofs.ReaderResults.{gives_made}
use Rattle.syntax.proofs.reader.Reader.take_assignment.Goals as goal

pub returns : goal.returns
unfolding assignment
returns c =
    gives_made _ _ _ _ _ _ c.or_memory.ensures c.assignment.ensures.view
    (rw (c.in_ok-first.ensures, c.in_ok-others.ensures, c.in_ok-take_mark.ensures, c.in_ok-value.ensures, c.in_ok-take_semicolon.ensures) refl)
