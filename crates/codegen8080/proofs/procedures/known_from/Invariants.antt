use Rattle.codegen8080.proofs.Prelude.{◌≡◌, length, known_from}
use Rattle.codegen8080.proofs.procedures.known_from.Given as goal

abbrev pub invariant-loop-left : goal.invariant-loop-left
invariant-loop-left l =
    known_from l.known l.fn.parameters l.left ≡ known_from l.fn.facts l.fn.parameters (length l.fn.parameters)

abbrev pub decreases-loop-left : goal.decreases-loop-left
decreases-loop-left l = l.left
