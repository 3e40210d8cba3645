use Rattle.typed_trees.proofs.Prelude.{◌≡◌, drop, map, max, min, height_of_targets, target_view}
use Rattle.typed_trees.proofs.charge.targets_height.Given as goal

abbrev pub invariant-loop-target : goal.invariant-loop-target
invariant-loop-target l =
    max l.height (min (height_of_targets (map target_view (drop l.target-index l.targets))) 4294967295)
    ≡ min (height_of_targets (map target_view l.targets)) 4294967295
