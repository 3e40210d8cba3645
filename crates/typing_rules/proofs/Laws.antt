-- The typing of a module is the one of the rules.
use Rattle.typing_rules.proofs.Prelude.{◌≡◌, ◌∙◌, ◌⊎◌, inl, inr, Ok, Err, refl, sym, Fault, Checked}
use Rattle.std.specs.Prelude.{Result}
use Rattle.failure.specs.declared.Failure.{Failure}
use Rattle.failure.specs.declared.Failure.TheVariants as failures
use Rattle.failure.specs.Failure.{IfFault}
use Rattle.trees.specs.Trees.{ModuleTree}
use Rattle.typed_trees.specs.TypedTrees.{TypedModule}
use Rattle.typing.specs.internal.Results.{Answers}
use Rattle.typing.specs.internal.Typing.{typing_of}
use Rattle.typing_rules.specs.internal.Following.{FollowsTheRules}
use Rattle.typing_rules.specs.internal.Laws.{IsJudgedOnce}
use Rattle.typing_rules.specs.Modules.{ModuleTyping}
use Rattle.typing_rules.specs.ModuleFaults.{ModuleFault}
use Rattle.typing_rules.proofs.ModulesJudged.{module_judged}
use Rattle.typing_rules.proofs.ModulesTyped.{module_is}
use Rattle.typing_rules.proofs.ModulesRefused.{module_fault}

pub follows_the_rules : (tree : ModuleTree) → FollowsTheRules tree
follows_the_rules tree = record {
  typed = λ found. ((module_judged tree).typed found, module_is);
  refused = λ fault. ((module_judged tree).refused fault, module_fault);
}

either : (tree : ModuleTree) (checked : Checked TypedModule)
    → typing_of tree ≡ checked
    → ((found : TypedModule) × ModuleTyping tree found) ⊎ ((fault : Fault) × ModuleFault tree fault)
either tree (Ok found) e = inl (found, (module_judged tree).typed found e)
either tree (Err fault) e = inr (fault, (module_judged tree).refused fault e)

same_typed : {one other : TypedModule} → ◌≡◌ {A = Checked TypedModule} (Ok one) (Ok other) → one ≡ other
same_typed e = cc

same_fault : {one other : Fault} → ◌≡◌ {A = Checked TypedModule} (Err one) (Err other) → one ≡ other
same_fault e = cc

not_alike : {found : TypedModule} {fault : Fault} → ¬ (◌≡◌ {A = Checked TypedModule} (Ok found) (Err fault))
not_alike e = absurd cc

pub judged_once : (tree : ModuleTree) → IsJudgedOnce tree
judged_once tree = record {
  judged = either tree (typing_of tree) refl;
  one_typing = λ one other first second. same_typed (sym (module_is first) ∙ module_is second);
  one_fault = λ one other first second. same_fault (sym (module_fault first) ∙ module_fault second);
  never_both = λ found fault typed refused. not_alike (sym (module_is typed) ∙ module_fault refused);
}

-- what a checker answers that gives the typing
pub typed_by_rules : (tree : ModuleTree) (found : TypedModule) → typing_of tree ≡ Ok found
    → ModuleTyping tree found
typed_by_rules tree = (module_judged tree).typed

pub refused_by_rules : {X : Type 0} (view : X → TypedModule)
    (result : Result X (Failure Fault)) (tree : ModuleTree)
    → Answers view result (typing_of tree)
    → IfFault result (ModuleFault tree)
refused_by_rules view (Ok x) tree e = tt
refused_by_rules view (Err (failures.Fault fault)) tree e = (module_judged tree).refused fault e
refused_by_rules view (Err failures.Memory) tree e = tt
