use Rattle.explaining.proofs.{Prelude.{length}, Looked.{LookedSoFar}}
use Rattle.explaining.proofs.explanation.look_for_all.Given as goal

-- of all files those before the ones that are left were looked for
abbrev pub invariant-loop-rest : goal.invariant-loop-rest
invariant-loop-rest g l =
    LookedSoFar (length l.initial.rest) (length l.rest) (g.F.Files.files l.initial.files.inner)
    (g.F.Files.files l.files.inner) (g.F.Files.failures l.initial.files.inner)
    (g.F.Files.failures l.files.inner)

abbrev pub decreases-loop-rest : goal.decreases-loop-rest
decreases-loop-rest g l = length l.rest
