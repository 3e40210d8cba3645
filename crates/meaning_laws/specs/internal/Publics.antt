-- Modules that are typings of trees.
use Rattle.std.specs.Prelude.{◌≡◌, Ok}
use Rattle.trees.specs.Trees.{ModuleTree}
use Rattle.typed_trees.specs.TypedTrees.{TypedModule}
use Rattle.typing.specs.internal.Typing.{typing_of}

-- a module that is the typing of a tree
pub record HasTree (typed : TypedModule) : Type 0 where
  pub tree : ModuleTree
  pub is : typing_of tree ≡ Ok typed
