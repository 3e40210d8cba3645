-- The words of planned steps refer only to EXTERNAL names of the module.
use Rattle.codegen8080.proofs.Prelude.{◌≡◌, ◌++◌, replicate, ℕ, zero, suc, ◌+◌, ◌-◌, Bool, true, false, nat_lt, List, [], ◌∷◌, length, take, Option, Some, None, none-some, slice_get, refl, Instr, Parameter, ProcedureKind, Range, StatementNumber, Site, LabelNumber, Body, Planned}
use Rattle.std.specs.Prelude.{if◌then◌else◌, ◌/◌, ◌%◌, ◌&&◌, is_some, nat_eq, nat_le, not}
use Rattle.isa8080.specs.declared.instr.Instr.TheVariants.{Inx, Pop, Push}
use Rattle.isa8080.specs.declared.instr.StackPair.TheVariants.{StackBc, StackDe}
use Rattle.isa8080.specs.declared.instr.Pair.TheVariants.{Sp}
use Rattle.trees.specs.declared.declaration.ScalarType.{ScalarType}
use Rattle.trees.specs.declared.declaration.ScalarType.TheVariants.{Byte, Address}
use Rattle.treecode.specs.declared.expression.ExpressionNumber.{ExpressionNumber}
use Rattle.treecode.specs.declared.place.Location.{Location}
use Rattle.treecode.specs.declared.place.Place.{Place}
use Rattle.treecode.specs.declared.procedure.ProcedureKind.TheVariants as kinds
use Rattle.treecode.specs.declared.reference.Reference.{Reference}
use Rattle.treecode.specs.declared.reference.Target.{Target}
use Rattle.treecode.specs.declared.reference.Target.TheVariants.{Sent, Stored}
use Rattle.treecode.specs.declared.statement.Iteration.{Iteration}
use Rattle.treecode.specs.internal.Queries.{item, source, target as target_at}
unfoldable use Rattle.steps8080.specs.internal.Queries.{keeps, known, location_of, number}
use Rattle.steps8080.specs.internal.Site.{scalar}
use Rattle.steps8080.specs.internal.Step.{label_of}
use Rattle.statements8080.specs.declared.plan.Planned.TheVariants as planned
use Rattle.statements8080.specs.declared.bound.Test.{Test}
use Rattle.statements8080.specs.declared.bound.Test.TheVariants as tests
use Rattle.statements8080.specs.declared.iteration.Counter.{Counter}
use Rattle.codegen8080.specs.declared.procedures.TheConstants.{PUSHED_WORDS}
use Rattle.statements8080.specs.internal.Bodies.{is_near}
use Rattle.statements8080.specs.internal.Counters.{counter_of, counter_place, counts_by_one, has_a_turn}
use Rattle.statements8080.specs.internal.Cases.{entry_of}
use Rattle.statements8080.specs.internal.Plans.{label_at}
use Rattle.statements8080.specs.internal.Plans.{nth_label}
use Rattle.statements8080.specs.internal.Assignments.{any_target, assignment_steps, byte_steps, count_of, each_at, each_steps, is_address_first, other_word_steps, several_by, single_steps, store_at, takes_byte, takes_word, together_steps, types_by, value_steps, word_steps}
use Rattle.statements8080.specs.internal.Branches.{computed_if_steps, goto_label, if_steps, statement_if_any}
use Rattle.statements8080.specs.internal.Cases.{case_steps, statement_at}
unfoldable use Rattle.statements8080.specs.internal.Cases.{cases_end_steps, choice_at_steps, into_table_steps, number_in_de_steps, statements_steps, table_at, table_steps}
use Rattle.statements8080.specs.internal.Iterations.{add_de_steps, add_steps, below_steps, count_at_hl_steps, count_steps, counts_in_place, is_byte, is_byte_type, iteration_steps, loop_labels, next_byte_steps, next_steps, step_in_de_steps, turns_if_any, turns_steps}
unfoldable use Rattle.statements8080.specs.internal.Iterations.{asked_test_steps, first_steps, first_test_steps, general_begin_steps, general_end_steps, general_steps, next_turn_steps, step_steps, sum_of_byte_steps, sum_of_word_steps, test_label_steps, to_known_steps}
use Rattle.statements8080.specs.internal.Moves.{ends_steps, move_steps}
use Rattle.statements8080.specs.internal.Tests.{less_steps}
unfoldable use Rattle.statements8080.specs.internal.Tests.{test_of, test_steps}
unfoldable use Rattle.codegen8080.specs.internal.Procedures.{below_return_steps, drop_steps, end_steps, entry_steps_by, exchanged_steps, frame_entry_steps, kept_steps, last_argument_steps, odd_byte_steps, popped_at, popped_from, pops_steps, push_loop_steps, pushed_arguments_steps, pushes_steps, return_of_frame_steps, return_over_any_steps, return_over_steps, return_steps_by, static_entry_steps, stores_steps as arguments_steps, zero_result_steps, zeros_steps}
use Rattle.codegen8080.specs.internal.Procedures.{is_address, store_argument}
unfoldable use Rattle.codegen8080.specs.internal.Statements.{return_of_steps}
use Rattle.codegen8080.specs.internal.Statements.{returned_value_steps}
use Rattle.statements8080.specs.internal.Plans.{all, plain, steps_from}
use Rattle.std.specs.List.{AllByRecursion, list_any}
use Rattle.std.specs.Prelude.{IfSome, ◌||◌}
use Rattle.asm8080.specs.declared.item.WordForm.{WordForm}
use Rattle.treecode.specs.declared.expression.Expression.{Expression}
use Rattle.treecode.specs.declared.expression.ExpressionForm.{ExpressionForm}
use Rattle.treecode.specs.declared.expression.ExpressionForm.TheVariants as forms
use Rattle.treecode.specs.declared.module.TreeModule.{TreeModule}
use Rattle.treecode.specs.declared.place.Location.TheVariants.{Frame, Static}
unfoldable use Rattle.steps8080.specs.internal.Queries.{direct}
unfoldable use Rattle.steps8080.specs.internal.Site.{expression}
use Rattle.steps8080.specs.internal.Queries.{place_in_memory as place_of_location}
use Rattle.steps8080.specs.declared.step.Step.TheVariants as steps
use Rattle.steps8080.proofs.SiteNames.{IsOwn, IsOwnLocation, after_is_own, direct_is_own, known_is_own, location_is_own, number_is_own, place_is_own}
use Rattle.exprgen8080.proofs.Ranks.Joining.{of_found}
use Rattle.statements8080.specs.internal.Branches.{computed_if_steps}
use Rattle.statements8080.specs.internal.Iterations.{turns_if_any}
use Rattle.statements8080.specs.internal.Tests.{computed_test, known_test, word_at, word_of_form, word_test_by}

-- whether a planned step is an instruction with a word
abbrev is_word : Planned → Bool
is_word (planned.Code (steps.Word form place)) = true
is_word step = false

-- its word is named by the module
abbrev pub StepIsOwn : TreeModule → Planned → Type 0
StepIsOwn tree (planned.Code (steps.Word form place)) = IsOwn tree place
StepIsOwn tree step = Unit {0}

-- so are those of planned steps
pub record OwnPlan (tree : TreeModule) (list : List Planned) : Type 0 where
  pub are : AllByRecursion (StepIsOwn tree) list

wordless_step : (tree : TreeModule) (step : Planned) → is_word step ≡ false → StepIsOwn tree step
wordless_step tree (planned.Code (steps.Word form place)) none = let bad : true ≡ false = none in cc
wordless_step tree step none = tt

neither : (one other : Bool) → (one || other) ≡ false → (one ≡ false) × (other ≡ false)
neither true other none = let bad : true ≡ false = none in cc
neither false other none = (refl, none)

wordless_all : (tree : TreeModule) (list : List Planned) → list_any is_word list ≡ false
    → AllByRecursion (StepIsOwn tree) list
wordless_all tree [] none = tt
wordless_all tree (step ∷ others) none =
    let both = neither (is_word step) (list_any is_word others) none in
    (wordless_step tree step both.0, wordless_all tree others both.1)

pub wordless : {tree : TreeModule} {list : List Planned} → list_any is_word list ≡ false → OwnPlan tree list
wordless {tree = tree} {list = list} none = record { are = wordless_all tree list none }

both_all : (tree : TreeModule) (first others : List Planned)
    → AllByRecursion (StepIsOwn tree) first
    → AllByRecursion (StepIsOwn tree) others
    → AllByRecursion (StepIsOwn tree) (first ++ others)
both_all tree [] others one two = two
both_all tree (step ∷ first) others one two = (one.0, both_all tree first others one.1 two)

pub own_both : {tree : TreeModule} {first others : List Planned} → OwnPlan tree first → OwnPlan tree others
    → OwnPlan tree (first ++ others)
own_both {tree = tree} {first = first} {others = others} one two =
    record { are = both_all tree first others one.are two.are }

own_after : {tree : TreeModule} {step : Planned} {others : List Planned}
    → is_word step ≡ false → OwnPlan tree others → OwnPlan tree (step ∷ others)
own_after {tree = tree} {step = step} none rest = record { are = (wordless_step tree step none, rest.are) }

own_word : {tree : TreeModule} {form : WordForm} {place : Place} {others : List Planned}
    → IsOwn tree place → OwnPlan tree others → OwnPlan tree (planned.Code (steps.Word form place) ∷ others)
own_word own rest = record { are = (own, rest.are) }

own_all : {tree : TreeModule} (instructions : List Instr) → OwnPlan tree (all instructions)
own_all [] = wordless refl
own_all (first ∷ others) = own_after refl (own_all others)

own_repeated : {tree : TreeModule} (count : ℕ) (i : Instr) → OwnPlan tree (replicate count (plain i))
own_repeated zero i = wordless refl
own_repeated (suc count) i = own_after refl (own_repeated count i)

pub own_either : {tree : TreeModule} {first second : List Planned} (b : Bool)
    → OwnPlan tree first → OwnPlan tree second → OwnPlan tree (if b then first else second)
own_either true one two = one
own_either false one two = two

pub own_finding : {A : Type 0} {tree : TreeModule} {some : A → List Planned} {none : List Planned} (found : Option A)
    → ((x : A) → found ≡ Some x → OwnPlan tree (some x))
    → OwnPlan tree none
    → OwnPlan tree (elim found [ Some x ↦ some x | None ↦ none ])
own_finding (Some x) one two = one x refl
own_finding None one two = two

own_each : {tree : TreeModule} (steps_at : ℕ → List Planned)
    → ((index : ℕ) → OwnPlan tree (steps_at index))
    → (index left : ℕ)
    → OwnPlan tree (steps_from steps_at index left)
own_each steps_at at index zero = wordless refl
own_each steps_at at index (suc left) = own_both (at index) (own_each steps_at at (suc index) left)

-- the locations of parameters are named by the module
abbrev pub ParametersAreOwn : TreeModule → List Parameter → Type 0
ParametersAreOwn tree parameters =
    (index : ℕ) (parameter : Parameter) → slice_get parameters index ≡ Some parameter
    → IsOwnLocation tree parameter.location

-- so is the place of a bound, and that of the variable of a loop
abbrev TestIsOwn : TreeModule → Test → Type 0
TestIsOwn tree (tests.WordWithPlace place) = IsOwn tree place
TestIsOwn tree test = Unit {0}

abbrev CounterIsOwn : TreeModule → Counter → Type 0
CounterIsOwn tree counter = IfSome (counter_place counter) (IsOwn tree)

module _ {tree : TreeModule} where
  -- assignments
  byte_assigned : (site : Site) (reference : Reference) (value : ExpressionNumber)
      → OwnPlan tree (byte_steps site reference value)
  byte_assigned site reference value =
      own_finding (number site value) (λ found is. wordless refl)
      (own_finding (count_of site reference value) (λ i is. wordless refl)
      (own_either (is_address_first site reference value) (wordless refl) (wordless refl)))

  other_word_assigned : (from : ScalarType) (target : Target) (value : ExpressionNumber)
      → OwnPlan tree (other_word_steps from target value)
  other_word_assigned Byte target value = wordless refl
  other_word_assigned Address target value = wordless refl

  word_assigned : (body : Body) (site : Site) (target : Target) (reference : Reference) (value : ExpressionNumber)
      → OwnPlan tree (word_steps body site target reference value)
  word_assigned body site target reference value =
      own_either (is_near body (location_of site reference)) (wordless refl)
      (own_finding (number site value) (λ found is. wordless refl)
      (other_word_assigned (source target) target value))

  single_own : (body : Body) (site : Site) (target : Target) (value : ExpressionNumber)
      → OwnPlan tree (single_steps body site target value)
  single_own body site (Stored from Byte reference) value = byte_assigned site reference value
  single_own body site (Stored from Address reference) value =
      word_assigned body site (Stored from Address reference) reference value
  single_own body site (Sent from port) value = wordless refl

  each_own : (body : Body) (site : Site) (targets : Range) (value : ExpressionNumber)
      → OwnPlan tree (each_steps body site targets value)
  each_own body site targets value =
      own_each (each_at body site targets value)
      (λ index. own_finding (target_at body.tree.now targets index)
      (λ found is. single_own body site found value) (wordless refl))
      0 targets.count

  value_own : (value : ExpressionNumber) (from : ScalarType) → OwnPlan tree (value_steps value from)
  value_own value Byte = wordless refl
  value_own value Address = wordless refl

  together_own : (body : Body) (targets : Range) (value : ExpressionNumber) (from : ScalarType)
      → OwnPlan tree (together_steps body targets value from)
  together_own body targets value from =
      own_both (value_own value from)
      (own_each (store_at body targets from)
      (λ index. own_finding (target_at body.tree.now targets index) (λ found is. wordless refl) (wordless refl))
      0 targets.count)

  several_own : (body : Body) (site : Site) (targets : Range) (value : ExpressionNumber) (bytes words : Bool)
      → OwnPlan tree (several_by (types_by bytes words) body site targets value)
  several_own body site targets value true false = together_own body targets value Byte
  several_own body site targets value false false = together_own body targets value Byte
  several_own body site targets value false true = together_own body targets value Address
  several_own body site targets value true true =
      own_either (is_some (number site value)) (each_own body site targets value)
      (together_own body targets value (scalar site value))

  pub assignment_own : (body : Body) (site : Site) (targets : Range) (value : ExpressionNumber)
      → OwnPlan tree (assignment_steps body site targets value)
  assignment_own body site targets value =
      own_either (nat_eq targets.count 1) (each_own body site targets value)
      (several_own body site targets value (any_target takes_byte body targets 0 targets.count)
      (any_target takes_word body targets 0 targets.count))

  -- RETURN, and the end of a procedure
  kept_own : (result : Option ScalarType) (instructions : List Instr) → OwnPlan tree (kept_steps result instructions)
  unfolding kept_steps
  kept_own (Some Address) instructions = own_after refl (own_both (own_all instructions) (wordless refl))
  kept_own (Some Byte) instructions = own_all instructions
  kept_own None instructions = own_all instructions

  pops_own : (words : ℕ) → OwnPlan tree (pops_steps words)
  unfolding pops_steps
  pops_own words = own_repeated words (Pop StackBc)

  drop_own : (bytes : ℕ) (result : Option ScalarType) → OwnPlan tree (drop_steps bytes result)
  unfolding drop_steps
  drop_own bytes result =
      own_either _ (own_both (pops_own (bytes / 2)) (own_repeated (bytes % 2) (Inx Sp))) (kept_own result _)

  return_over_own : (words : ℕ) (result : Option ScalarType) → OwnPlan tree (return_over_steps words result)
  unfolding return_over_steps
  return_over_own words (Some Address) = own_after refl (own_both (pops_own words) (wordless refl))
  return_over_own words (Some Byte) = own_after refl (own_both (pops_own words) (wordless refl))
  return_over_own words None = own_after refl (own_both (pops_own words) (wordless refl))

  return_over_any_own : (words : ℕ) (result : Option ScalarType) → OwnPlan tree (return_over_any_steps words result)
  unfolding return_over_any_steps
  return_over_any_own words result = own_either (nat_eq words 0) (wordless refl) (return_over_own words result)

  return_of_frame_own : (body : Body) → OwnPlan tree (return_of_frame_steps body)
  unfolding return_of_frame_steps
  return_of_frame_own body = own_both (drop_own _ _) (return_over_any_own _ _)

  return_by_own : (kind : ProcedureKind) (body : Body) → OwnPlan tree (return_steps_by kind body)
  unfolding return_steps_by
  return_by_own kinds.Reentrant body = return_of_frame_own body
  return_by_own kinds.Static body = wordless refl
  return_by_own (kinds.External name) body = wordless refl

  returned_value_own : (value : Option ExpressionNumber) (result : Option ScalarType)
      → OwnPlan tree (returned_value_steps value result)
  returned_value_own (Some value) (Some Byte) = wordless refl
  returned_value_own (Some value) (Some Address) = wordless refl
  returned_value_own (Some value) None = wordless refl
  returned_value_own None (Some Byte) = wordless refl
  returned_value_own None (Some Address) = wordless refl
  returned_value_own None None = wordless refl

  pub return_of_own : (body : Body) (value : Option ExpressionNumber) → OwnPlan tree (return_of_steps body value)
  unfolding return_of_steps
  return_of_own body value =
      own_both (returned_value_own value body.procedure.now.result)
      (own_both (return_by_own body.procedure.now.kind body) (wordless refl))

  zero_result_own : (result : Option ScalarType) → OwnPlan tree (zero_result_steps result)
  unfolding zero_result_steps
  zero_result_own (Some Byte) = wordless refl
  zero_result_own (Some Address) = wordless refl
  zero_result_own None = wordless refl

  pub end_own : (body : Body) → OwnPlan tree (end_steps body)
  unfolding end_steps
  end_own body =
      own_both (zero_result_own body.procedure.now.result) (return_by_own body.procedure.now.kind body)

  -- the entry of a procedure
  argument_own : (kind : ScalarType) (location : Location) → IsOwnLocation tree location
      → OwnPlan tree (store_argument kind location ∷ [])
  argument_own Byte (Static place) own = own_word (place_is_own own) (wordless refl)
  argument_own Address (Static place) own = own_word (place_is_own own) (wordless refl)
  argument_own Byte (Frame variable offset) own = own_word number_is_own (wordless refl)
  argument_own Address (Frame variable offset) own = own_word number_is_own (wordless refl)

  popped_at_own : (parameters : List Parameter) (index : ℕ) → ParametersAreOwn tree parameters
      → OwnPlan tree (popped_at parameters index)
  unfolding popped_at
  popped_at_own parameters index own =
      own_finding (slice_get parameters index)
      (λ parameter is. own_after refl (argument_own parameter.scalar parameter.location (own index parameter is)))
      (wordless refl)

  popped_from_own : (parameters : List Parameter) (count : ℕ) → ParametersAreOwn tree parameters
      → OwnPlan tree (popped_from parameters count)
  unfolding popped_from
  popped_from_own parameters zero own = wordless refl
  popped_from_own parameters (suc others) own =
      own_both (popped_at_own parameters others own) (popped_from_own parameters others own)

  pushed_arguments_own : (parameters : List Parameter) → ParametersAreOwn tree parameters
      → OwnPlan tree (pushed_arguments_steps parameters)
  unfolding pushed_arguments_steps
  pushed_arguments_own parameters own =
      own_after refl (own_both (popped_from_own parameters (length parameters) own) (wordless refl))

  exchanged_own : (parameter : Parameter) → IsOwnLocation tree parameter.location
      → OwnPlan tree (exchanged_steps parameter)
  unfolding exchanged_steps
  exchanged_own parameter own =
      own_after refl (own_after refl (argument_own parameter.scalar parameter.location own))

  below_return_own : (parameters : List Parameter) → ParametersAreOwn tree parameters
      → OwnPlan tree (below_return_steps parameters)
  unfolding below_return_steps
  below_return_own [] own = wordless refl
  below_return_own (parameter ∷ []) own =
      own_either (is_address parameter.scalar) (exchanged_own parameter (own 0 parameter refl))
      (pushed_arguments_own (parameter ∷ []) own)
  below_return_own (first ∷ next ∷ others) own = pushed_arguments_own (first ∷ next ∷ others) own

  arguments_own : (last : Parameter) (others : List Parameter)
      → IsOwnLocation tree last.location
      → ParametersAreOwn tree others
      → OwnPlan tree (arguments_steps last others)
  unfolding arguments_steps
  arguments_own last others one own =
      own_both (argument_own last.scalar last.location one) (own_both (below_return_own others own) (wordless refl))

  first_ones : (count : ℕ) (parameters : List Parameter) → ParametersAreOwn tree parameters
      → ParametersAreOwn tree (take count parameters)
  first_ones zero parameters own index parameter there = absurd (none-some parameter there)
  first_ones (suc count) [] own index parameter there = absurd (none-some parameter there)
  first_ones (suc count) (first ∷ others) own zero parameter there = own 0 parameter there
  first_ones (suc count) (first ∷ others) own (suc index) parameter there =
      first_ones count others (λ at one is. own (suc at) one is) index parameter there

  static_entry_own : (parameters : List Parameter) → ParametersAreOwn tree parameters
      → OwnPlan tree (static_entry_steps parameters)
  unfolding static_entry_steps
  static_entry_own parameters own =
      own_finding (slice_get parameters (length parameters - 1))
      (λ last is. arguments_own last (take (length parameters - 1) parameters)
      (own (length parameters - 1) last is) (first_ones (length parameters - 1) parameters own))
      (wordless refl)

  odd_byte_own : (bytes : ℕ) → OwnPlan tree (odd_byte_steps bytes)
  unfolding odd_byte_steps
  odd_byte_own bytes = own_either (nat_eq (bytes % 2) 1) (wordless refl) (wordless refl)

  last_argument_own : (parameters : List Parameter) → OwnPlan tree (last_argument_steps parameters)
  unfolding last_argument_steps
  last_argument_own parameters =
      own_finding (slice_get parameters (length parameters - 1)) (λ last is. wordless refl) (wordless refl)

  push_loop_own : (turns : ℕ) (again : LabelNumber) → OwnPlan tree (push_loop_steps turns again)
  unfolding push_loop_steps
  push_loop_own turns again =
      own_after refl (own_after refl (own_both (own_repeated 4 (Push StackDe)) (wordless refl)))

  pushes_own : (words first : ℕ) → OwnPlan tree (pushes_steps words first)
  unfolding pushes_steps
  pushes_own words first =
      own_either (nat_le words PUSHED_WORDS) (own_repeated words (Push StackDe))
      (own_both (push_loop_own _ _) (own_repeated _ (Push StackDe)))

  zeros_own : (bytes first : ℕ) → OwnPlan tree (zeros_steps bytes first)
  unfolding zeros_steps
  zeros_own bytes first =
      own_either (nat_eq bytes 0) (wordless refl)
      (own_after refl (own_both (pushes_own (bytes / 2) first) (odd_byte_own bytes)))

  frame_entry_own : (parameters : List Parameter) (bytes first : ℕ)
      → OwnPlan tree (frame_entry_steps parameters bytes first)
  unfolding frame_entry_steps
  frame_entry_own parameters bytes first =
      own_both (last_argument_own parameters) (own_both (zeros_own bytes first) (wordless refl))

  pub entry_own : (kind : ProcedureKind) (body : Body) (first : ℕ)
      → ParametersAreOwn tree body.procedure.now.parameters.items
      → OwnPlan tree (entry_steps_by kind body first)
  unfolding entry_steps_by
  entry_own kinds.Reentrant body first own =
      frame_entry_own body.procedure.now.parameters.items body.frame.now.variable_bytes first
  entry_own kinds.Static body first own = static_entry_own body.procedure.now.parameters.items own
  entry_own (kinds.External name) body first own = static_entry_own body.procedure.now.parameters.items own

  -- the tests and the steps of an iterative DO
  less_own : (limit : ℕ) → OwnPlan tree (less_steps limit)
  less_own limit = own_either (nat_eq (limit % 256) 0) (wordless refl) (wordless refl)

  test_own : (counter : Counter) (test : Test) (turn : LabelNumber) → TestIsOwn tree test
      → OwnPlan tree (test_steps counter test turn)
  unfolding test_steps
  test_own counter tests.Always turn own = wordless refl
  test_own counter (tests.ByteBelow limit) turn own = wordless refl
  test_own counter (tests.WordBelow limit) turn own = own_after refl (own_both (less_own limit) (wordless refl))
  test_own counter (tests.Byte last) turn own = wordless refl
  test_own counter (tests.ByteWithWord last) turn own = wordless refl
  test_own counter (tests.WordWithPlace place) turn own =
      own_after refl (own_word own (own_after refl (own_word (after_is_own 1 own) (wordless refl))))
  test_own counter (tests.Word last) turn own = wordless refl
  test_own counter (tests.FrameWord last) turn own = wordless refl

  below_own : (kind : ScalarType) (counter : Counter) (limit : ℕ) → OwnPlan tree (below_steps kind counter limit)
  below_own Byte counter limit = wordless refl
  below_own Address counter limit = own_after refl (less_own limit)

  first_test_own : (counter : Counter) (last : ℕ) (end : LabelNumber)
      → OwnPlan tree (first_test_steps counter last end)
  unfolding first_test_steps
  first_test_own counter last end =
      own_either (nat_le 65535 last) (wordless refl)
      (own_both (below_own counter.scalar counter (last + 1)) (wordless refl))

  asked_test_own : (counter : Counter) (last : ℕ) (is_tested : Bool) (end : LabelNumber)
      → OwnPlan tree (asked_test_steps counter last is_tested end)
  unfolding asked_test_steps
  asked_test_own counter last is_tested end =
      own_either (is_tested && not (is_byte_type counter.scalar && nat_le 255 last))
      (first_test_own counter last end) (wordless refl)

  next_byte_own : (counter : Counter) (last : ℕ) (turn : LabelNumber) → OwnPlan tree (next_byte_steps counter last turn)
  next_byte_own counter last turn = own_after refl (own_either (nat_le 255 last) (wordless refl) (wordless refl))

  next_own : (counts_byte : Bool) (place : Option Place) (counter : Counter) (last : ℕ) (turn : LabelNumber)
      → IfSome place (IsOwn tree)
      → OwnPlan tree (next_steps counts_byte place counter last turn)
  next_own false (Some place) counter last turn own =
      own_after refl (own_after refl (own_after refl (own_after refl (own_after refl (own_after refl
      (own_word own (wordless refl)))))))
  next_own false None counter last turn own = next_byte_own counter last turn
  next_own true place counter last turn own = next_byte_own counter last turn

  next_turn_own : (counter : Counter) (last : ℕ) (turn : LabelNumber) → CounterIsOwn tree counter
      → OwnPlan tree (next_turn_steps counter last turn)
  unfolding next_turn_steps
  next_turn_own counter last turn own =
      next_own (is_byte_type counter.scalar) (counter_place counter) counter last turn own

  count_at_hl_own : (kind : ScalarType) (first : ℕ) → OwnPlan tree (count_at_hl_steps kind (loop_labels first))
  count_at_hl_own Byte first = wordless refl
  count_at_hl_own Address first = wordless refl

  count_own : (counter : Counter) (first : ℕ) → OwnPlan tree (count_steps counter (loop_labels first))
  count_own counter first = own_after refl (count_at_hl_own counter.scalar first)

  sum_of_byte_own : OwnPlan tree sum_of_byte_steps
  unfolding sum_of_byte_steps
  sum_of_byte_own = wordless refl

  sum_of_word_own : OwnPlan tree sum_of_word_steps
  unfolding sum_of_word_steps
  sum_of_word_own = wordless refl

  add_de_own : (place : Option Place) (counter : Counter) (end : LabelNumber)
      → IfSome place (IsOwn tree)
      → OwnPlan tree (add_de_steps place counter end)
  add_de_own (Some place) counter end own = own_after refl (own_after refl (own_word own (wordless refl)))
  add_de_own None counter end own = own_after refl (own_both sum_of_word_own (wordless refl))

-- the steps of statements
module _ (site : Site) where
  ends_own : (source destination : ExpressionNumber) (pushed : ℕ)
      → OwnPlan site.tree.now (ends_steps site source destination pushed)
  ends_own source destination pushed =
      own_finding (known site source)
      (λ place is. own_after refl (own_word (of_found (IsOwn site.tree.now) (known_is_own site source) is)
      (wordless refl)))
      (own_either (keeps site destination).de (wordless refl) (wordless refl))

  pub move_own : (count source destination : ExpressionNumber)
      → OwnPlan site.tree.now (move_steps site count source destination)
  move_own count source destination =
      own_finding (known site count)
      (λ place is. own_both (ends_own source destination 0)
      (own_word (of_found (IsOwn site.tree.now) (known_is_own site count) is) (wordless refl)))
      (own_after refl (own_after refl (own_both (ends_own source destination 2) (wordless refl))))

  step_in_de_own : (step : ExpressionNumber) → OwnPlan site.tree.now (step_in_de_steps site step)
  step_in_de_own step =
      own_finding (known site step)
      (λ place is. own_word (of_found (IsOwn site.tree.now) (known_is_own site step) is) (wordless refl))
      (wordless refl)

  add_own : (kind : ScalarType) (counter : Counter) (step : ExpressionNumber) (end : LabelNumber)
      → CounterIsOwn site.tree.now counter
      → OwnPlan site.tree.now (add_steps kind site counter step end)
  add_own Byte counter step end own =
      own_either (is_byte site step) (wordless refl)
      (own_after refl (own_after refl (own_after refl (own_both sum_of_byte_own (wordless refl)))))
  add_own Address counter step end own =
      own_both (step_in_de_own step) (add_de_own (counter_place counter) counter end own)

  step_own : (counter : Counter) (step : Option ExpressionNumber) (first : ℕ)
      → CounterIsOwn site.tree.now counter
      → OwnPlan site.tree.now (step_steps site counter step (loop_labels first))
  unfolding step_steps
  step_own counter (Some step) first own =
      own_either (counts_by_one site (Some step)) (count_own counter first)
      (add_own counter.scalar counter step (nth_label first 2) own)
  step_own counter None first own = count_own counter first

  -- the way to test whether the variable of a loop is at most its bound
  known_test_own : (kind : ScalarType) (last : ℕ) → TestIsOwn site.tree.now (known_test kind last)
  known_test_own Byte last = by (nat_le 255 last)
    where
      by : (b : Bool) → TestIsOwn site.tree.now (if b then tests.Always else tests.ByteBelow (last + 1))
      by true = tt
      by false = tt
  known_test_own Address last = by (nat_le 65535 last)
    where
      by : (b : Bool) → TestIsOwn site.tree.now (if b then tests.Always else tests.WordBelow (last + 1))
      by true = tt
      by false = tt

  word_of_form_own : (form : ExpressionForm) (kind : ScalarType)
      → IfSome (word_of_form site form kind) (IsOwn site.tree.now)
  word_of_form_own (forms.Value reference) Address = direct_is_own site reference
  word_of_form_own (forms.Value reference) Byte = tt
  word_of_form_own form kind = tt

  word_at_own : (value : ExpressionNumber) → IfSome (word_at site value) (IsOwn site.tree.now)
  word_at_own value = by (expression site value)
    where
      by : (found : Option Expression)
          → IfSome (elim found [ Some one ↦ word_of_form site one.form one.traits.scalar | None ↦ None ])
          (IsOwn site.tree.now)
      by (Some one) = word_of_form_own one.form one.traits.scalar
      by None = tt

  word_test_own : (place last_place : Option Place) (last : ExpressionNumber)
      → IfSome last_place (IsOwn site.tree.now)
      → TestIsOwn site.tree.now (word_test_by place last_place last)
  word_test_own (Some place) (Some last_place) last own = own
  word_test_own (Some place) None last own = tt
  word_test_own None last_place last own = tt

  computed_test_own : (variable limit : ScalarType) (counter : Counter) (last : ExpressionNumber)
      → TestIsOwn site.tree.now (computed_test variable limit site counter last)
  computed_test_own Byte Byte counter last = tt
  computed_test_own Byte Address counter last = tt
  computed_test_own Address limit counter last =
      word_test_own (counter_place counter) (word_at site last) last (word_at_own last)

  test_of_own : (counter : Counter) (last : ExpressionNumber)
      → TestIsOwn site.tree.now (test_of site counter last)
  unfolding test_of
  test_of_own counter last = by (number site last)
    where
      by : (found : Option ℕ)
          → TestIsOwn site.tree.now (elim found [
            | Some known ↦ known_test counter.scalar known
            | None ↦ computed_test counter.scalar (scalar site last) site counter last
          ])
      by (Some known) = known_test_own counter.scalar known
      by None = computed_test_own counter.scalar (scalar site last) counter last

  -- an iterative DO
  to_known_own : (counter : Counter) (last : ℕ) (is_tested : Bool) (list : Range) (first : ℕ)
      → CounterIsOwn site.tree.now counter
      → OwnPlan site.tree.now (to_known_steps counter last is_tested list first)
  unfolding to_known_steps
  to_known_own counter last is_tested list first own =
      own_both (asked_test_own counter last is_tested (nth_label first 1))
      (own_after refl (own_after refl
      (own_both (next_turn_own counter last (label_of first) own)
      (own_both (own_either is_tested (wordless refl) (wordless refl)) (wordless refl)))))

  general_own : (counter : Counter) (head : Iteration) (is_tested : Bool) (list : Range) (first : ℕ)
      → CounterIsOwn site.tree.now counter
      → OwnPlan site.tree.now (general_steps site counter head is_tested list first)
  unfolding general_steps general_begin_steps general_end_steps test_label_steps
  general_own counter head is_tested list first own =
      own_both (own_both (own_either is_tested (wordless refl) (wordless refl)) (wordless refl))
      (own_both (step_own counter head.step first own)
      (own_both
      (own_either (counts_by_one site head.step && not (is_byte_type counter.scalar)) (wordless refl)
      (own_either is_tested (wordless refl) (wordless refl)))
      (own_both (test_own counter (test_of site counter head.last) (label_of first) (test_of_own counter head.last))
      (wordless refl))))

  turns_own : (counter : Counter) (head : Iteration) (is_tested : Bool) (list : Range) (first : ℕ)
      → CounterIsOwn site.tree.now counter
      → OwnPlan site.tree.now (turns_steps site counter head is_tested list first)
  turns_own counter head is_tested list first own =
      own_finding (number site head.last)
      (λ last there. own_either (counts_in_place site counter head)
      (to_known_own counter last is_tested list first own) (general_own counter head is_tested list first own))
      (general_own counter head is_tested list first own)

  turns_if_any_own : (turn : Option Bool) (counter : Counter) (head : Iteration) (list : Range) (first : ℕ)
      → CounterIsOwn site.tree.now counter
      → OwnPlan site.tree.now (turns_if_any turn site counter head list first)
  turns_if_any_own (Some false) counter head list first own = wordless refl
  turns_if_any_own (Some true) counter head list first own = turns_own counter head false list first own
  turns_if_any_own None counter head list first own = turns_own counter head true list first own

  counter_own : (head : Iteration) → IfSome (counter_place (counter_of site head)) (IsOwn site.tree.now)
  counter_own head = by (counter_of site head).location (location_is_own site (counter_of site head).reference)
    where
      by : (found : Option Location) → IfSome found (IsOwnLocation site.tree.now)
          → IfSome (place_of_location found) (IsOwn site.tree.now)
      by (Some (Static place)) is = place_is_own is
      by (Some (Frame variable offset)) is = tt
      by None is = tt

  pub iteration_own : (body : Body) (head : Iteration) (list : Range) (first : ℕ)
      → OwnPlan site.tree.now (iteration_steps body site head list first)
  unfolding first_steps
  iteration_own body head list first =
      own_both
      (single_own body site
      (Stored (scalar site head.first) (counter_of site head).scalar (counter_of site head).reference) head.first)
      (turns_if_any_own (has_a_turn site (counter_of site head) head) (counter_of site head) head list first
      (counter_own head))

  -- IF
  computed_if_own : (body : Body) (condition : ExpressionNumber) (then_part : StatementNumber)
      (else_part : Option StatementNumber) (first : ℕ)
      → OwnPlan site.tree.now (computed_if_steps body site condition then_part else_part first)
  computed_if_own body condition then_part (Some else_part) first =
      own_finding (goto_label body else_part) (λ label there. wordless refl) (wordless refl)
  computed_if_own body condition then_part None first = wordless refl

  any_statement_own : (part : Option StatementNumber) → OwnPlan site.tree.now (statement_if_any part)
  any_statement_own (Some part) = wordless refl
  any_statement_own None = wordless refl

  pub if_own : (body : Body) (condition : ExpressionNumber) (then_part : StatementNumber)
      (else_part : Option StatementNumber) (first : ℕ)
      → OwnPlan site.tree.now (if_steps body site condition then_part else_part first)
  if_own body condition then_part else_part first =
      own_finding (number site condition)
      (λ known there. own_either (nat_eq (known % 2) 1) (wordless refl) (any_statement_own else_part))
      (own_finding (goto_label body then_part)
      (λ label there. own_after refl (any_statement_own else_part))
      (computed_if_own body condition then_part else_part first))

  -- DO CASE
  number_in_de_own : (kind : ScalarType) (choice : ExpressionNumber) (count : ℕ) (end : LabelNumber)
      → OwnPlan site.tree.now (number_in_de_steps kind choice count end)
  unfolding number_in_de_steps
  number_in_de_own Byte choice count end =
      own_after refl (own_both (own_either (nat_lt count 256) (wordless refl) (wordless refl)) (wordless refl))
  number_in_de_own Address choice count end =
      own_after refl
      (own_both
      (own_either (nat_lt count 65536) (own_both (less_own count) (wordless refl)) (wordless refl)) (wordless refl))

  table_own : (body : Body) (list : Range) (own end : LabelNumber)
      → OwnPlan site.tree.now (table_steps body list own end)
  unfolding table_steps table_at
  table_own body list own end = own_each (table_at body list own end) (λ index. wordless refl) 0 list.count

  statement_at_own : (body : Body) (list : Range) (own end : LabelNumber) (index : ℕ)
      → OwnPlan site.tree.now (statement_at body list own end index)
  statement_at_own body list own end index =
      own_finding (item body.tree.now list index)
      (λ found there. own_either
      (nat_eq (entry_of body list index (label_at own index) end).index (label_at own index).index)
      (own_after refl (own_after refl (own_either (nat_lt index (list.count - 1)) (wordless refl) (wordless refl))))
      (wordless refl))
      (wordless refl)

  statements_own : (body : Body) (list : Range) (own end : LabelNumber)
      → OwnPlan site.tree.now (statements_steps body list own end)
  unfolding statements_steps
  statements_own body list own end =
      own_each (statement_at body list own end) (statement_at_own body list own end) 0 list.count

  into_table_own : (table : LabelNumber) → OwnPlan site.tree.now (into_table_steps table)
  unfolding into_table_steps
  into_table_own table = wordless refl

  cases_end_own : (end : LabelNumber) → OwnPlan site.tree.now (cases_end_steps end)
  unfolding cases_end_steps
  cases_end_own end = wordless refl

  choice_own : (body : Body) (choice : ExpressionNumber) (list : Range) (table end own : LabelNumber)
      → OwnPlan site.tree.now (choice_at_steps body site choice list table end own)
  unfolding choice_at_steps
  choice_own body choice list table end own =
      own_both (number_in_de_own (scalar site choice) choice list.count end)
      (own_both (into_table_own table)
      (own_both (table_own body list own end)
      (own_both (statements_own body list own end) (cases_end_own end))))

  pub case_own : (body : Body) (choice : ExpressionNumber) (list : Range) (first : ℕ)
      → OwnPlan site.tree.now (case_steps body site choice list first)
  case_own body choice list first =
      own_finding (number site choice)
      (λ known there. own_finding (item body.tree.now list known) (λ found is. wordless refl) (wordless refl))
      (own_either (nat_eq list.count 0) (wordless refl)
      (choice_own body choice list (label_of first) (nth_label first 1) (nth_label first 2)))
