-- Statements one after another.
use Rattle.measure_laws.proofs.Prelude.{bound_after, bound_first, ◌≡◌, ℕ, suc, ◌+◌, ◌-◌, ◌≤◌, List, [], ◌∷◌, slice_get, Option, Some, refl, sym, subst, ◌∙◌, arith, same_Some, IsNoLabel, TypedStatement, LabelStatement, TypedStatements, NoStatements, MoreStatements, TypedList, weight_of_list, weight_of_statement, weight_of_statements, Item, Range, StatementNumber, Facts, Here, AreAllCarriedOut, AreCarriedOut, IsCarriedOut, IsListCarriedOut, ListCarriedOut, ListPlanned, StatementCarriedOut, StepCarriedOut, bytes_for, spared_by, BodyGround, ItemsMeasured, ListFootprint, MayBind, PlanFootprint, StatementFootprint, NothingThere}
use Rattle.statements8080.specs.declared.plan.Planned.TheVariants as planned
use Rattle.codegen8080.specs.internal.Generated as generated
use Rattle.measure_laws.proofs.Bounds.Fitting.{items_then, items_within, none_measured}

-- as many statements of the table of lists as `count`, from an entry on, have their footprints
pub data AllFit (at : BodyGround) : (first count : ℕ) → TypedStatements → Type 0 where
  NoneFit : {first : ℕ} → AllFit at first 0 NoStatements
  MoreFit : {first count : ℕ} {number : StatementNumber} {tree : TypedStatement} {others : TypedStatements}
      → slice_get at.body.tree.now.lists.items first ≡ Some number
      → StatementFootprint at number tree
      → AllFit at (suc first) count others
      → AllFit at first (suc count) (MoreStatements tree others)

all_measured :
    {at : BodyGround} {first count : ℕ} {trees : TypedStatements} {here last : Here} {list : List Item}
    → AllFit at first count trees
    → AreAllCarriedOut at.body at.called here first count list last
    → MayBind at list
    → ItemsMeasured at at.level list at.level (bytes_for (weight_of_statements trees))
all_measured NoneFit generated.NoStatements own =
    record { room = λ p. NothingThere; small = λ c. omega arith; goes = λ c. tt }
all_measured {at = at} (MoreFit {number = number} {tree = tree} there fit others)
    (generated.MoreStatements {here = here} {middle = middle} {number = other} {list = list} {more = more}
    found done rest) own =
    let one =
    fit.fits (subst (λ (n : StatementNumber). IsCarriedOut at.body at.called here.facts n list middle)
    (same_Some other number (sym found ∙ there)) done)
    (λ label is. own label (bound_first label list more is)) in
    items_within
    (items_then list more one.measured (all_measured others rest
    (λ label is. own label (bound_after label list more is))))
    (λ c. omega (arith, one.enough c))

pub list_measured :
    {at : BodyGround} {range : Range} {trees : TypedStatements} {before : Facts}
    {after : Here} {list : List Item}
    → AllFit at range.first range.count trees
    → IsListCarriedOut at.body at.called before range list after
    → MayBind at list
    → ItemsMeasured at at.level list at.level (bytes_for (weight_of_statements trees))
list_measured all (ListPlanned done) own = all_measured all done own

-- a list as a planned step
list_step_measured :
    {at : BodyGround} {range : Range} {tree : TypedList} {here last : Here}
    {waiting : Option Facts} {list : List Item}
    → ListFootprint at range tree
    → AreCarriedOut at.body at.called here waiting (planned.List range ∷ []) list last
    → MayBind at list
    → ItemsMeasured at at.level list at.level (bytes_for (weight_of_list tree))
list_step_measured is (ListCarriedOut {first = first} {more = more} done rest) own =
    items_within
    (items_then first more (is.fits done (λ label bound. own label (bound_first label first more bound)))
    (none_measured {most = 0} rest))
    (λ c. omega arith)
list_step_measured is (StepCarriedOut ok written rest) own = absurd ok

pub list_step_fits :
    {at : BodyGround} {range : Range} {tree : TypedList}
    → ListFootprint at range tree
    → PlanFootprint at (planned.List range ∷ []) (bytes_for (weight_of_list tree))
list_step_fits is = record { fits = λ done own. list_step_measured is done own }

-- a statement as a planned step
statement_step_measured :
    {at : BodyGround} {number : StatementNumber} {tree : TypedStatement} {most : ℕ}
    {here last : Here} {waiting : Option Facts} {list : List Item}
    → StatementFootprint at number tree
    → (at.counts → bytes_for (weight_of_statement tree) ≤ most + spared_by tree)
    → AreCarriedOut at.body at.called here waiting (planned.Statement number ∷ []) list last
    → MayBind at list
    → ItemsMeasured at at.level list at.level most
statement_step_measured is most (StatementCarriedOut {first = first} {more = more} done rest) own =
    let one = is.fits done (λ label bound. own label (bound_first label first more bound)) in
    items_within (items_then first more one.measured (none_measured {most = 0} rest))
    (λ c. omega (arith, one.enough c, most c))
statement_step_measured is most (StepCarriedOut ok written rest) own = absurd ok

pub statement_step_fits :
    {at : BodyGround} {number : StatementNumber} {tree : TypedStatement}
    → StatementFootprint at number tree
    → PlanFootprint at (planned.Statement number ∷ []) (bytes_for (weight_of_statement tree))
statement_step_fits is = record { fits = λ done own. statement_step_measured is (λ c. omega arith) done own }

-- a statement of a DO CASE is not a label, and leaves some bytes free
no_label_spares : (tree : TypedStatement) → IsNoLabel tree → spared_by tree ≡ 8
no_label_spares (LabelStatement label) none = absurd none
no_label_spares other none = refl

pub no_label_weighs : (tree : TypedStatement) → IsNoLabel tree → 1 ≤ weight_of_statement tree
no_label_weighs (LabelStatement label) none = absurd none
no_label_weighs other none = omega arith

pub case_step_fits :
    {at : BodyGround} {number : StatementNumber} {tree : TypedStatement}
    → (at.counts → IsNoLabel tree)
    → StatementFootprint at number tree
    → PlanFootprint at (planned.Statement number ∷ []) (bytes_for (weight_of_statement tree) - 8)
case_step_fits {tree = tree} none is = record {
  fits = λ done own. statement_step_measured is (λ c. omega (arith, no_label_spares tree (none c))) done own;
}
