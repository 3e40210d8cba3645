-- The heads of loops: the steps of each loop stand, name what the module has and take its labels, and those of a loop that
-- can't end begin with an instruction.
use Rattle.codegen8080.proofs.Prelude.{◌≡◌, ℕ, ◌+◌, ◌<◌, ◌∙◌, Bool, true, false, not, if◌then◌else◌, nat_lt, List, [], ◌∷◌, Option, Some, None, refl, ap, arith, Instr, Range, Facts, Site, Body, Planned, site_of, knowing}
use Rattle.std.specs.Prelude.{◌%◌, nat_eq}
use Rattle.typed_trees.specs.TypedTrees.{TypedHead, TypedList, TypedStatements}
use Rattle.typed_trees.specs.Jumps.{labels_in_list, labels_in_statements}
use Rattle.layout.specs.Storage.{Storage}
use Rattle.treecode.specs.declared.expression.ExpressionNumber.{ExpressionNumber}
use Rattle.treecode.specs.declared.place.Place.{Place}
use Rattle.treecode.specs.declared.statement.Iteration.{Iteration}
use Rattle.treecode.specs.declared.statement.LoopHead.{LoopHead}
use Rattle.treecode.specs.internal.Known.{known_number}
use Rattle.treecode.specs.internal.Lowered.{AreStatements, IsCountHead, IsHead, IsList, IsListOf, IsWhileHead, ends_by, head_ends}
use Rattle.treecode.specs.internal.Nodes.{Nodes, nodes_of}
use Rattle.treecode.specs.internal.Traits.{KeepTraits}
use Rattle.treecode.proofs.Heads.{each_head}
use Rattle.treecode.proofs.KeptValues.{known_kept}
use Rattle.steps8080.proofs.Numbered.{not_both}
use Rattle.steps8080.proofs.SiteTraits.{number_is}
unfoldable use Rattle.steps8080.specs.internal.Queries.{number}
use Rattle.statements8080.specs.internal.Branches.{forever_steps, head_labels, head_steps, tested_while_steps, while_labels, while_steps}
use Rattle.statements8080.specs.internal.Iterations.{iteration_steps}
use Rattle.statements8080.specs.internal.Plans.{plain}
use Rattle.codegen8080.specs.internal.Standing.{ListStands, MoreStand, NoneStand, StepsStand}
use Rattle.codegen8080.proofs.{FormLabels.{FormPlan, ListFirst, NoPartFirst, NoParts, PlanOf, bare_plan, either_plan, finding_plan, holding, iteration_plan}, NamedPlans.{OwnPlan, iteration_own, own_both, own_either, own_finding, wordless}, Outlines.{bare, bare_either, bare_then}, Standing.{both_stand, either_stand, finding_stand, plain_stand}}

-- the statements and the lists in the steps of a loop
module _ {nodes : Nodes} {bound : ℕ} (list : Range) (stands : ListStands nodes bound list) where
  while_stands : (site : Site) (condition : ExpressionNumber) (first : ℕ)
      → StepsStand nodes bound (while_steps site condition list first)
  while_stands site condition first =
      finding_stand (number site condition)
      (λ found is. either_stand (nat_eq (found % 2) 1)
      (MoreStand tt (MoreStand tt (MoreStand stands (plain_stand _ refl)))) NoneStand)
      (both_stand (either_stand (nat_lt 0 list.count) (plain_stand _ refl) NoneStand)
      (MoreStand tt (MoreStand stands (plain_stand _ refl))))

  pub loop_stands : (body : Body) (site : Site) (first : ℕ)
      → ((iteration : Iteration) → StepsStand nodes bound (iteration_steps body site iteration list first))
      → (head : LoopHead)
      → StepsStand nodes bound (head_steps body site head list first)
  loop_stands body site first iterations head =
      each_head (λ (one : LoopHead). StepsStand nodes bound (head_steps body site one list first))
      (λ condition. while_stands site condition first) iterations head

-- the words in the steps of a loop are named by the module
module _ (site : Site) where
  while_own : (condition : ExpressionNumber) (list : Range) (first : ℕ)
      → OwnPlan site.tree.now (while_steps site condition list first)
  while_own condition list first =
      own_finding (number site condition)
      (λ known there. own_either (nat_eq (known % 2) 1) (wordless refl) (wordless refl))
      (own_both (own_either (nat_lt 0 list.count) (wordless refl) (wordless refl)) (wordless refl))

  pub loop_own : (body : Body) (head : LoopHead) (list : Range) (first : ℕ)
      → OwnPlan site.tree.now (head_steps body site head list first)
  loop_own body head list first =
      each_head (λ (one : LoopHead). OwnPlan site.tree.now (head_steps body site one list first))
      (λ condition. while_own condition list first) (λ iteration. iteration_own site body iteration list first) head

-- a loop takes its labels, and holds its list
module _ {nodes : Nodes} {storage : Storage} {labels : List ℕ} {bound : ℕ} {numbers : List ℕ} {first : ℕ}
    (list : Range) (trees : TypedStatements)
    (are : AreStatements nodes storage labels bound list.first list.count trees)
    (same : numbers ≡ labels_in_statements trees)
  where
    while_plan :
        (site : Site) (condition : ExpressionNumber)
        → first + while_labels site condition < 4294967295
        → PlanOf nodes storage labels bound first numbers (while_steps site condition list first)
        (while_labels site condition)
    while_plan site condition few =
        finding_plan (number site condition)
        (λ known there less. either_plan (nat_eq (known % 2) 1)
        (λ also. holding list trees are same (record { is = refl }) (omega arith, omega arith)
        (NoPartFirst tt (ListFirst are NoParts)))
        (λ also. bare_plan (bare refl))
        less)
        (λ less. holding list trees are same
        (bare_then (bare_either (nat_lt 0 list.count) (bare refl) (bare refl)) (record { is = refl }))
        (omega arith, (omega (arith, less), omega (arith, less)))
        (NoPartFirst tt (ListFirst are (NoPartFirst tt NoParts))))
        few

module _ {storage : Storage} {labels : List ℕ} {bound : ℕ} (body : Body) (site : Site) (first : ℕ) where
  pub loop_plan : {tree : TypedList} (head : LoopHead) (range : Range)
      → IsList (nodes_of body.tree.now) storage labels bound range tree
      → first + head_labels site head < 4294967295
      → FormPlan (nodes_of body.tree.now) storage labels bound (head_steps body site head range first) first
      (head_labels site head) (labels_in_list tree)
  loop_plan {tree = tree} head range (IsListOf {trees = trees} are) few =
      each_head (λ (one : LoopHead). first + head_labels site one < 4294967295
      → FormPlan (nodes_of body.tree.now) storage labels bound (head_steps body site one range first) first
      (head_labels site one) (labels_in_list tree))
      (λ condition less. while_plan range trees are refl site condition less)
      (λ iteration less. iteration_plan range trees are refl body site iteration less)
      head few

-- a loop that can't end begins with an instruction
module _ (P : List Planned → Type 0) (begins : (i : Instr) (others : List Planned) → P (plain i ∷ others)) where
  -- so does DO WHILE if its condition is known to be true
  while_begins : (site : Site) (condition : ExpressionNumber) (range : Range) (first : ℕ)
      → ends_by (number site condition) ≡ false
      → P (while_steps site condition range first)
  while_begins site condition range first none = by (number site condition) none
    where
      forever : (is : Bool) → not is ≡ false → P (if is then forever_steps range first else [])
      forever true none = begins _ _
      forever false none = absurd (not_both true refl none)

      by : (found : Option ℕ) → ends_by found ≡ false
          → P (elim found [
            | Some known ↦ if nat_eq (known % 2) 1 then forever_steps range first else []
            | None ↦ tested_while_steps condition range first
          ])
      by (Some known) none = forever (nat_eq (known % 2) 1) none
      by None none = absurd (not_both true refl none)

  pub loop_begins : (body : Body) (storage : Storage)
      → KeepTraits (nodes_of body.tree.now)
      → (facts : Facts) (first : ℕ) (range : Range) {head : LoopHead} {tree : TypedHead}
      → IsHead (nodes_of body.tree.now) storage head tree
      → head_ends (nodes_of body.tree.now).homes storage tree ≡ false
      → P (head_steps body (knowing (site_of body) facts) head range first)
  loop_begins body storage keeps facts first range (IsWhileHead {condition = condition} test) none =
      while_begins (knowing (site_of body) facts) condition range first
      (ap ends_by (number_is (knowing (site_of body) facts) condition
      ∙ ap (λ (found : Option Place). known_number found) (known_kept (nodes_of body.tree.now) storage keeps test))
      ∙ none)
  loop_begins body storage keeps facts first range (IsCountHead iteration) none = absurd (not_both true refl none)
