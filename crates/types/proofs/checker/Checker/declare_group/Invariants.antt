use Rattle.types.proofs.Prelude.{◌≡◌, drop, with_names, block_view, progress_view}
use Rattle.types.proofs.checker.Checker.declare_group.Given as goal

-- the names that are left decide
abbrev pub invariant-loop-name : goal.invariant-loop-name
invariant-loop-name l =
    with_names (block_view l.block) (drop l.name-index l.names) (progress_view l.self)
    ≡ with_names (block_view l.block) l.names (progress_view l.initial.self)
