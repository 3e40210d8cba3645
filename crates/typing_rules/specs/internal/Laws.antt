-- That the rules judge each module, and once.
use Rattle.std.specs.Prelude.{◌≡◌, ◌⊎◌}
use Rattle.trees.specs.Trees.{ModuleTree}
use Rattle.typed_trees.specs.TypedTrees.{TypedModule}
use Rattle.typing.specs.declared.fault.Fault.{Fault}
use Rattle.typing_rules.specs.Modules.{ModuleTyping}
use Rattle.typing_rules.specs.ModuleFaults.{ModuleFault}

-- By the rules a module has one typing or one fault, and not both.
pub record IsJudgedOnce (tree : ModuleTree) : Type 0 where
  pub judged : ((found : TypedModule) × ModuleTyping tree found) ⊎ ((fault : Fault) × ModuleFault tree fault)
  pub one_typing : (one other : TypedModule) → ModuleTyping tree one → ModuleTyping tree other → one ≡ other
  pub one_fault : (one other : Fault) → ModuleFault tree one → ModuleFault tree other → one ≡ other
  pub never_both : (found : TypedModule) (fault : Fault) → ModuleTyping tree found → ¬ ModuleFault tree fault
