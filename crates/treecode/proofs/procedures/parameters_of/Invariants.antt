use Rattle.treecode.proofs.Prelude.{◌≡◌, ◌++◌, length, map, zip, parameter_at, nodes_of}
use Rattle.treecode.proofs.procedures.parameters_of.Given as goal

abbrev pub invariant-loop-types : goal.invariant-loop-types
invariant-loop-types l =
    l.parameters.items ++ map (parameter_at (nodes_of l.tree).homes) (zip l.types l.places)
    ≡ map (parameter_at (nodes_of l.tree).homes) (zip l.scalars l.objects)

abbrev pub decreases-loop-types : goal.decreases-loop-types
decreases-loop-types l = length l.types
