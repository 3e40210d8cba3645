use Rattle.codegen8080.proofs.Prelude.{◌≡◌, ◌++◌, length}
use Rattle.codegen8080.specs.internal.Marks.{marks_of_parts}
use Rattle.codegen8080.proofs.marking.placed.Given as goal

-- the marks so far, and those of the parts that are left, are all
abbrev pub invariant-loop-rest : goal.invariant-loop-rest
invariant-loop-rest l =
    l.marks.items ++ marks_of_parts l.place l.end l.rest ≡ marks_of_parts l.start l.end l.parts

abbrev pub decreases-loop-rest : goal.decreases-loop-rest
decreases-loop-rest l = length l.rest
