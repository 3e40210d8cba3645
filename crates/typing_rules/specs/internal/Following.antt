-- That the typing of a module by functions is the one of the rules.
use Rattle.std.specs.Prelude.{◌≡◌, ◌↔◌, Ok, Err}
use Rattle.trees.specs.Trees.{ModuleTree}
use Rattle.typed_trees.specs.TypedTrees.{TypedModule}
use Rattle.typing.specs.declared.fault.Fault.{Fault}
use Rattle.typing.specs.internal.Typing.{typing_of}
use Rattle.typing_rules.specs.Modules.{ModuleTyping}
use Rattle.typing_rules.specs.ModuleFaults.{ModuleFault}

-- The functions give a typed module exactly where the rules give it, and a fault exactly where the rules give that fault.
pub record FollowsTheRules (tree : ModuleTree) : Type 0 where
  pub typed : (found : TypedModule) → (typing_of tree ≡ Ok found) ↔ ModuleTyping tree found
  pub refused : (fault : Fault) → (typing_of tree ≡ Err fault) ↔ ModuleFault tree fault
