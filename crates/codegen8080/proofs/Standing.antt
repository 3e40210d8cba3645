-- Statements and lists that are in the tables, and the steps that hold them.
use Rattle.codegen8080.proofs.Prelude.{◌≡◌, ℕ, zero, suc, ◌+◌, ◌<◌, Bool, true, false, ◌&&◌, if◌then◌else◌, nat_lt, List, [], ◌∷◌, ◌++◌, length, drop, replicate, Option, Some, None, slice_get, refl, sym, ap, subst, ◌∙◌, arith, and_parts, option_and_then, none-some, same_Some, drop_at, drop_found, lt-ltb, Instr, Range, Statement, StatementNumber, Planned}
use Rattle.std.specs.Prelude.{is_some}
use Rattle.std.proofs.lemmas.Bool.{ltb-true}
use Rattle.typed_trees.specs.TypedTrees.{TypedList, TypedStatement, TypedStatements}
use Rattle.layout.specs.Storage.{Storage}
use Rattle.treecode.specs.internal.Lowered.{AreStatements, AreMoreStatements, AreNoStatements, IsList, IsListOf, IsStatement, IsStatementNode}
use Rattle.treecode.specs.internal.Nodes.{Nodes, item_of}
use Rattle.statements8080.specs.declared.plan.Planned.TheVariants as planned
use Rattle.statements8080.specs.internal.Plans.{all, plain, steps_from}
use Rattle.codegen8080.specs.internal.Standing.{FormStands, ListStands, MoreStand, NoneStand, StatementStands, StepStands, StepsStand}

-- a step that is neither a statement nor a list
abbrev pub is_alone : Planned → Bool
is_alone (planned.Statement number) = false
is_alone (planned.List list) = false
is_alone step = true

abbrev pub are_alone : List Planned → Bool
are_alone [] = true
are_alone (step ∷ others) = is_alone step && are_alone others

-- a statement below a bound
pub statement_stands :
    {nodes : Nodes} {storage : Storage} {labels : List ℕ} {bound number : ℕ} {tree : TypedStatement}
    → IsStatement nodes storage labels bound number tree
    → (number < bound) × StatementStands nodes number
statement_stands {storage = storage} {labels = labels} {tree = tree} (IsStatementNode {statement = statement} below there form) = (
  below,
  record {
    statement = statement;
    there = there;
    form = record { storage = storage; labels = labels; tree = tree; is = form };
  },
)

module _ {nodes : Nodes} {storage : Storage} {labels : List ℕ} {bound : ℕ} where
  -- an item of a list
  row_stands :
      {first count : ℕ} {trees : TypedStatements} (index : ℕ)
      → AreStatements nodes storage labels bound first count trees
      → index < count
      → (number : StatementNumber) × (slice_get nodes.lists (first + index) ≡ Some number)
      × (number.index < bound) × StatementStands nodes number.index
  row_stands index AreNoStatements below = absurd (omega (arith, below))
  row_stands {first = first} zero (AreMoreStatements {number = number} there is others) below =
      let same : first + 0 ≡ first = omega arith in
      let stands = statement_stands is in
      (number, ap (slice_get nodes.lists) same ∙ there, stands.0, stands.1)
  row_stands {first = first} (suc index) (AreMoreStatements there is others) below =
      let same : first + suc index ≡ suc first + index = omega arith in
      let rest = row_stands index others (omega (arith, below)) in
      (rest.0, ap (slice_get nodes.lists) same ∙ rest.1, rest.2, rest.3)

module _ {nodes : Nodes} {bound : ℕ} {range : Range} (stands : ListStands nodes bound range) where
  -- each item of a list is there
  pub item_is_there : (index : ℕ) → index < range.count → is_some (item_of nodes.lists range index) ≡ true
  item_is_there index below =
      let row = row_stands index stands.are below in
      ap (λ (there : Bool). is_some (option_and_then (slice_get nodes.lists)
      (if there then Some (range.first + index) else None)))
      (lt-ltb index range.count below)
      ∙ ap (λ (found : Option StatementNumber). is_some found) row.1

  -- it is below the bound
  pub item_stands :
      (index : ℕ) (number : StatementNumber)
      → index < range.count
      → slice_get nodes.lists (range.first + index) ≡ Some number
      → (number.index < bound) × StatementStands nodes number.index
  item_stands index number below there =
      let row = row_stands index stands.are below in
      let same : row.0 ≡ number = same_Some row.0 number (sym row.1 ∙ there) in
      subst (λ (one : StatementNumber). (one.index < bound) × StatementStands nodes one.index) same
      (row.2, row.3)

  found_by :
      (index : ℕ) (number : StatementNumber) (found : Bool)
      → nat_lt index range.count ≡ found
      → option_and_then (slice_get nodes.lists) (if found then Some (range.first + index) else None) ≡ Some number
      → (number.index < bound) × StatementStands nodes number.index
  found_by index number true is there = item_stands index number (ltb-true index range.count is) there
  found_by index number false is there = absurd (none-some number there)

  pub found_stands :
      (index : ℕ) (number : StatementNumber)
      → item_of nodes.lists range index ≡ Some number
      → (number.index < bound) × StatementStands nodes number.index
  found_stands index number there = found_by index number (nat_lt index range.count) refl there

-- a list of a body
pub list_stands :
    {nodes : Nodes} {storage : Storage} {labels : List ℕ} {bound : ℕ} {range : Range} {tree : TypedList}
    → IsList nodes storage labels bound range tree
    → ListStands nodes bound range
list_stands {storage = storage} {labels = labels} (IsListOf {trees = trees} are) =
    record { storage = storage; labels = labels; trees = trees; are = are }

-- a statement is there
pub statement_is_there :
    {nodes : Nodes} {number : ℕ}
    → StatementStands nodes number
    → is_some (slice_get nodes.statements number) ≡ true
statement_is_there stands = ap (λ (found : Option Statement). is_some found) stands.there

-- its form
pub form_stands :
    {nodes : Nodes} {number : ℕ} (statement : Statement)
    → StatementStands nodes number
    → slice_get nodes.statements number ≡ Some statement
    → FormStands nodes number statement
form_stands {nodes = nodes} {number = number} statement stands there =
    subst (λ (one : Statement). FormStands nodes number one)
    (same_Some stands.statement statement (sym stands.there ∙ there)) stands.form

-- a step without a statement
alone_stands : (nodes : Nodes) (bound : ℕ) (step : Planned) → is_alone step ≡ true → StepStands nodes bound step
alone_stands nodes bound (planned.Code step) is = tt
alone_stands nodes bound (planned.LoadByte reference) is = tt
alone_stands nodes bound (planned.LoadWord reference) is = tt
alone_stands nodes bound (planned.JumpOn label) is = tt
alone_stands nodes bound (planned.Turn other end) is = tt
alone_stands nodes bound (planned.Meet label) is = tt
alone_stands nodes bound (planned.Again label facts is_entered) is = tt
alone_stands nodes bound (planned.Jumped is_the_only_one) is = tt
alone_stands nodes bound (planned.Reaches goes_on) is = tt
alone_stands nodes bound (planned.Statement number) is = let never : ⊥ = cc in absurd never
alone_stands nodes bound (planned.List list) is = let never : ⊥ = cc in absurd never

module _ {nodes : Nodes} {bound : ℕ} where
  pub both_stand :
      {first others : List Planned}
      → StepsStand nodes bound first
      → StepsStand nodes bound others
      → StepsStand nodes bound (first ++ others)
  both_stand NoneStand more = more
  both_stand (MoreStand this rest) more = MoreStand this (both_stand rest more)

  -- steps without statements
  pub plain_stand : (steps : List Planned) → are_alone steps ≡ true → StepsStand nodes bound steps
  plain_stand [] are = NoneStand
  plain_stand (step ∷ others) are =
      let parts = and_parts (is_alone step) (are_alone others) are in
      MoreStand (alone_stands nodes bound step parts.0) (plain_stand others parts.1)

  pub all_stand : (instructions : List Instr) → StepsStand nodes bound (all instructions)
  all_stand [] = NoneStand
  all_stand (first ∷ others) = MoreStand tt (all_stand others)

  pub repeated_stand : (count : ℕ) (i : Instr) → StepsStand nodes bound (replicate count (plain i))
  repeated_stand zero i = NoneStand
  repeated_stand (suc count) i = MoreStand tt (repeated_stand count i)

  pub either_stand :
      {first second : List Planned} (b : Bool)
      → StepsStand nodes bound first
      → StepsStand nodes bound second
      → StepsStand nodes bound (if b then first else second)
  either_stand true one two = one
  either_stand false one two = two

  pub finding_stand :
      {A : Type 0} {some : A → List Planned} {none : List Planned} (found : Option A)
      → ((x : A) → found ≡ Some x → StepsStand nodes bound (some x))
      → StepsStand nodes bound none
      → StepsStand nodes bound (elim found [ Some x ↦ some x | None ↦ none ])
  finding_stand (Some x) one two = one x refl
  finding_stand None one two = two

  pub each_stand :
      (steps_at : ℕ → List Planned)
      → ((index : ℕ) → StepsStand nodes bound (steps_at index))
      → (index left : ℕ)
      → StepsStand nodes bound (steps_from steps_at index left)
  each_stand steps_at at index zero = NoneStand
  each_stand steps_at at index (suc left) =
      both_stand (at index) (each_stand steps_at at (suc index) left)

  first_stands :
      {step : Planned} {others : List Planned}
      → StepsStand nodes bound (step ∷ others)
      → StepStands nodes bound step × StepsStand nodes bound others
  first_stands (MoreStand this rest) = (this, rest)

  -- the step at an index, and those after it
  pub step_there :
      (steps : List Planned) (index : ℕ) (step : Planned)
      → slice_get steps index ≡ Some step
      → StepsStand nodes bound (drop index steps)
      → StepStands nodes bound step × StepsStand nodes bound (drop (index + 1) steps)
  step_there steps index step is stand =
      first_stands (subst (λ (list : List Planned). StepsStand nodes bound list) (drop_found steps index step is) stand)

  -- steps that are planned after others
  pub planned_stand :
      (before after list : List Planned) (start : ℕ)
      → after ≡ before ++ list
      → start ≡ length before
      → StepsStand nodes bound list
      → StepsStand nodes bound (drop start after)
  planned_stand before after list start plan begins stand =
      subst (λ (steps : List Planned). StepsStand nodes bound steps)
      (sym (ap (drop start) plan ∙ drop_at before list start (sym begins))) stand
