use Rattle.codegen8080.proofs.Prelude.{◌≡◌, ◌++◌, length}
use Rattle.codegen8080.specs.internal.Marks.{places_from}
use Rattle.codegen8080.proofs.marking.procedure_places.Given as goal

-- the places so far, and those of the procedures that are left, are all
abbrev pub invariant-loop-left : goal.invariant-loop-left
invariant-loop-left l =
    l.places.items ++ places_from l.code.bytes l.code.labels.items l.number l.left
    ≡ places_from l.code.bytes l.code.labels.items 0 l.tree.procedures.items

abbrev pub decreases-loop-left : goal.decreases-loop-left
decreases-loop-left l = length l.left
