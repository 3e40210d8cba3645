use Rattle.types.proofs.Prelude.{◌≡◌, drop, block_view}
use Rattle.std.specs.List.{list_any}
use Rattle.trees.specs.declared.identifier.Identifier.{Identifier}
use Rattle.typing.specs.Blocks.{declares_parameter}
use Rattle.types.proofs.items.any_parameter.Given as goal

abbrev pub invariant-loop-name : goal.invariant-loop-name
invariant-loop-name l =
    list_any (λ (name : Identifier). declares_parameter (block_view l.block) name.name)
    (drop l.name-index l.names)
    ≡ list_any (λ (name : Identifier). declares_parameter (block_view l.block) name.name) l.names
