use Rattle.link_modules.proofs.Prelude.{◌≡◌, ◌++◌, length, map, starts_in}
use Rattle.link_modules.specs.internal.Views.{start_view}
use Rattle.link_modules.proofs.pieces.starts_of.Given as goal

abbrev pub invariant-loop-rest : goal.invariant-loop-rest
invariant-loop-rest g l = map start_view l.starts.items ++ starts_in l.rest ≡ starts_in l.placed

abbrev pub decreases-loop-rest : goal.decreases-loop-rest
decreases-loop-rest g l = length l.rest
