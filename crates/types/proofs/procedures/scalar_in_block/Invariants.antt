use Rattle.types.proofs.Prelude.{◌≡◌, drop, declaration_trees, scalar_in_block}
use Rattle.types.proofs.procedures.scalar_in_block.Given as goal

abbrev pub invariant-loop-declaration : goal.invariant-loop-declaration
invariant-loop-declaration l =
    scalar_in_block (declaration_trees (drop l.declaration-index l.declared)) l.name
    ≡ scalar_in_block (declaration_trees l.declared) l.name
