-- What the parts of the checker stand for.
use Rattle.trees.specs.internal.Views.{heading_tree}
use Rattle.typed_trees.specs.Views.{home_view, type_view}
use Rattle.types.specs.declared.blocks.Block.{Block as CodeBlock}
use Rattle.types.specs.declared.blocks.Owner.{Owner as CodeOwner}
use Rattle.types.specs.declared.blocks.Owner.TheVariants as owners
use Rattle.types.specs.declared.checker.Checker.{Checker}
use Rattle.types.specs.declared.items.TypedItem.{TypedItem as CodeItem}
use Rattle.typing.specs.Items.{TypedItem}
use Rattle.typing.specs.Blocks.{Owner, TheModule, OfProcedure, Block, Progress}
use Rattle.typed_expressions.specs.internal.Views.{known_view, constants_view}

abbrev pub owner_view : CodeOwner → Owner
owner_view owners.Module = TheModule
owner_view (owners.Procedure number heading) = OfProcedure number (heading_tree heading.now)

abbrev pub block_view : CodeBlock → Block
block_view block = record { owner = owner_view block.owner; is_own = block.is_own }

abbrev pub progress_view : Checker → Progress
progress_view checker = record {
  known = known_view checker.known;
  constants = constants_view checker.constants;
  globals = checker.globals.items;
  frame = checker.frame;
}

abbrev pub typed_item_view : CodeItem → TypedItem
typed_item_view item = record {
  dimension = item.dimension;
  object_type = type_view item.object_type;
  home = home_view item.home;
  linkage = item.linkage;
}

-- The end of `Views`.
