use Rattle.treecode.proofs.Prelude.{◌≡◌, drop, map, target_view, layout_view, with_item, outside, walk_of, goals_in}
use Rattle.treecode.proofs.StatementLoops.{after_targets}
use Rattle.treecode.proofs.lowering.Lowering.goals.Given as goal

abbrev pub invariant-loop-target : goal.invariant-loop-target
invariant-loop-target l =
    (outside l.self ≡ outside l.fn.self)
    × (with_item (after_targets l.added.items)
    (goals_in (layout_view l.storage) (walk_of l.self) (map target_view (drop l.target-index l.targets)))
    ≡ goals_in (layout_view l.storage) (walk_of l.fn.self) (map target_view l.targets))
