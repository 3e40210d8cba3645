use Rattle.types.proofs.Prelude.{◌≡◌, drop, block_view, progress_view, typed_item_view}
use Rattle.typing.specs.internal.ItemChecks as checks
use Rattle.types.proofs.checker.Checker.add_group.Given as goal

-- the names that are left decide
abbrev pub invariant-loop-name : goal.invariant-loop-name
invariant-loop-name l =
    checks.with_objects (block_view l.block) (typed_item_view l.item) (drop l.name-index l.names)
    (progress_view l.self)
    ≡ checks.with_objects (block_view l.block) (typed_item_view l.item) l.names (progress_view l.initial.self)
