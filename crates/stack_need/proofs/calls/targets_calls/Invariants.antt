use Rattle.stack_need.proofs.Prelude.{◌≡◌, ◌++◌, drop, map, target_view, calls_in_targets}
use Rattle.stack_need.proofs.calls.targets_calls.Given as goal

abbrev pub invariant-loop-target : goal.invariant-loop-target
invariant-loop-target l =
    l.calls.items ++ calls_in_targets (map target_view (drop l.target-index l.targets))
    ≡ l.fn.calls.items ++ calls_in_targets (map target_view l.targets)
