use Rattle.frames.proofs.Prelude.{◌≡◌, ◌++◌, drop, distances_from}
use Rattle.frames.proofs.frame_plan.distances_of.Given as goal

abbrev pub invariant-loop-variable : goal.invariant-loop-variable
invariant-loop-variable l =
    l.distances.items
    ++ distances_from l.variable_bytes l.parameter_count l.next (drop l.variable-index l.frame)
    ≡ distances_from l.variable_bytes l.parameter_count 0 l.frame
