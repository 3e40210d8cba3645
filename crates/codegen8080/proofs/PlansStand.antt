-- The statements and the lists in the steps of a statement are those of the statement, and entries and ends have none.
use Rattle.codegen8080.proofs.Prelude.{ℕ, zero, suc, ◌+◌, ◌-◌, Bool, true, false, nat_lt, List, [], ◌∷◌, length, take, Option, Some, None, slice_get, refl, Instr, Parameter, ProcedureKind, Range, Statement, StatementNumber, Site, LabelNumber, Body, Planned, entry_steps}
use Rattle.std.specs.Prelude.{◌/◌, ◌%◌, ◌&&◌, is_some, nat_eq, nat_le, not}
use Rattle.isa8080.specs.declared.instr.Instr.TheVariants.{Inx, Pop, Push}
use Rattle.isa8080.specs.declared.instr.StackPair.TheVariants.{StackBc, StackDe}
use Rattle.isa8080.specs.declared.instr.Pair.TheVariants.{Sp}
use Rattle.trees.specs.declared.declaration.ScalarType.{ScalarType}
use Rattle.trees.specs.declared.declaration.ScalarType.TheVariants.{Byte, Address}
use Rattle.typed_trees.specs.TypedTrees.{TypedElse, TypedStatement}
use Rattle.layout.specs.Storage.{Storage}
use Rattle.treecode.specs.declared.expression.ExpressionNumber.{ExpressionNumber}
use Rattle.treecode.specs.declared.place.Location.{Location}
use Rattle.treecode.specs.declared.place.Place.{Place}
use Rattle.treecode.specs.declared.procedure.ProcedureKind.TheVariants as kinds
use Rattle.treecode.specs.declared.reference.Reference.{Reference}
use Rattle.treecode.specs.declared.reference.Target.{Target}
use Rattle.treecode.specs.declared.reference.Target.TheVariants.{Sent, Stored}
use Rattle.treecode.specs.declared.statement.Iteration.{Iteration}
use Rattle.treecode.specs.declared.statement.Statement.TheVariants as statements
use Rattle.treecode.specs.internal.Lowered.{IsAssignment, IsCall, IsCase, IsDo, IsElse, IsGoto, IsHalt, IsIf, IsLabel, IsLoop, IsMove, IsNoElse, IsNull, IsReturn, IsSomeElse, IsStatementForm}
use Rattle.treecode.specs.internal.Nodes.{Nodes, nodes_of}
use Rattle.treecode.specs.internal.Queries.{item, source, target as target_at}
unfoldable use Rattle.steps8080.specs.internal.Queries.{keeps, known, location_of, number}
use Rattle.steps8080.specs.internal.Site.{scalar}
use Rattle.steps8080.specs.internal.Step.{label_of}
use Rattle.statements8080.specs.declared.plan.Planned.TheVariants as planned
use Rattle.statements8080.specs.declared.bound.Test.{Test}
use Rattle.statements8080.specs.declared.bound.Test.TheVariants as tests
use Rattle.statements8080.specs.declared.iteration.Counter.{Counter}
use Rattle.codegen8080.specs.declared.procedures.TheConstants.{PUSHED_WORDS}
use Rattle.statements8080.specs.internal.Bodies.{is_near}
use Rattle.statements8080.specs.internal.Counters.{counter_of, counter_place, counts_by_one, has_a_turn}
use Rattle.statements8080.specs.internal.Plans.{nth_label}
use Rattle.statements8080.specs.internal.Assignments.{any_target, assignment_steps, byte_steps, count_of, each_at, each_steps, is_address_first, other_word_steps, several_by, single_steps, store_at, takes_byte, takes_word, together_steps, types_by, value_steps, word_steps}
use Rattle.statements8080.specs.internal.Branches.{computed_if_steps, goto_label, if_steps, statement_if_any}
use Rattle.statements8080.specs.internal.Cases.{case_steps, statement_at}
unfoldable use Rattle.statements8080.specs.internal.Cases.{cases_end_steps, choice_at_steps, into_table_steps, number_in_de_steps, statements_steps, table_at, table_steps}
use Rattle.statements8080.specs.internal.Iterations.{add_de_steps, add_steps, below_steps, count_at_hl_steps, count_steps, counts_in_place, is_byte, is_byte_type, iteration_steps, loop_labels, next_byte_steps, next_steps, step_in_de_steps, turns_if_any, turns_steps}
unfoldable use Rattle.statements8080.specs.internal.Iterations.{asked_test_steps, first_steps, first_test_steps, general_begin_steps, general_end_steps, general_steps, next_turn_steps, step_steps, sum_of_byte_steps, sum_of_word_steps, test_label_steps, to_known_steps}
use Rattle.statements8080.specs.internal.Moves.{ends_steps, move_steps}
use Rattle.statements8080.specs.internal.Tests.{less_steps}
unfoldable use Rattle.statements8080.specs.internal.Tests.{test_of, test_steps}
unfoldable use Rattle.codegen8080.specs.internal.Procedures.{below_return_steps, drop_steps, end_steps, entry_steps_by, exchanged_steps, frame_entry_steps, kept_steps, last_argument_steps, odd_byte_steps, popped_at, popped_from, pops_steps, push_loop_steps, pushed_arguments_steps, pushes_steps, return_of_frame_steps, return_over_any_steps, return_over_steps, return_steps_by, static_entry_steps, stores_steps as arguments_steps, zero_result_steps, zeros_steps}
use Rattle.codegen8080.specs.internal.Procedures.{is_address, store_argument}
unfoldable use Rattle.codegen8080.specs.internal.Statements.{return_of_steps, statement_steps}
use Rattle.codegen8080.specs.internal.Statements.{returned_value_steps}
use Rattle.codegen8080.proofs.Heads.{loop_stands}
use Rattle.codegen8080.proofs.Standing.{all_stand, both_stand, each_stand, either_stand, finding_stand, found_stands, list_stands, plain_stand, repeated_stand, statement_stands}
use Rattle.codegen8080.specs.internal.Standing.{FormStands, ListStands, MoreStand, NoneStand, StepStands, StepsStand}

-- a statement that may be absent
abbrev AnyStands : Nodes → (bound : ℕ) → Option StatementNumber → Type 0
AnyStands nodes bound None = Unit {0}
AnyStands nodes bound (Some part) = StepStands nodes bound (planned.Statement part)

module _ {nodes : Nodes} {bound : ℕ} where
  -- an assignment
  from_byte : (target : Target) (value : ExpressionNumber)
      → StepsStand nodes bound (other_word_steps Byte target value)
  from_byte target value = plain_stand _ refl

  byte_assigned : (site : Site) (reference : Reference) (value : ExpressionNumber)
      → StepsStand nodes bound (byte_steps site reference value)
  byte_assigned site reference value =
      finding_stand (number site value) (λ found is. plain_stand _ refl)
      (finding_stand (count_of site reference value) (λ i is. plain_stand _ refl)
      (either_stand (is_address_first site reference value) (plain_stand _ refl) (plain_stand _ refl)))

  other_word_assigned : (from : ScalarType) (target : Target) (value : ExpressionNumber)
      → StepsStand nodes bound (other_word_steps from target value)
  other_word_assigned Byte target value = plain_stand _ refl
  other_word_assigned Address target value = plain_stand _ refl

  word_assigned : (body : Body) (site : Site) (target : Target) (reference : Reference) (value : ExpressionNumber)
      → StepsStand nodes bound (word_steps body site target reference value)
  word_assigned body site target reference value =
      either_stand (is_near body (location_of site reference)) (plain_stand _ refl)
      (finding_stand (number site value) (λ found is. plain_stand _ refl) (other_word_assigned (source target) target value))

  single_stands : (body : Body) (site : Site) (target : Target) (value : ExpressionNumber)
      → StepsStand nodes bound (single_steps body site target value)
  single_stands body site (Stored from Byte reference) value = byte_assigned site reference value
  single_stands body site (Stored from Address reference) value =
      word_assigned body site (Stored from Address reference) reference value
  single_stands body site (Sent from port) value = plain_stand _ refl

  each_stands : (body : Body) (site : Site) (targets : Range) (value : ExpressionNumber)
      → StepsStand nodes bound (each_steps body site targets value)
  each_stands body site targets value =
      each_stand (each_at body site targets value)
      (λ index. finding_stand (target_at body.tree.now targets index)
      (λ found is. single_stands body site found value) NoneStand)
      0 targets.count

  value_stands : (value : ExpressionNumber) (from : ScalarType)
      → StepsStand nodes bound (value_steps value from)
  value_stands value Byte = plain_stand _ refl
  value_stands value Address = plain_stand _ refl

  together_stand : (body : Body) (targets : Range) (value : ExpressionNumber) (from : ScalarType)
      → StepsStand nodes bound (together_steps body targets value from)
  together_stand body targets value from =
      both_stand (value_stands value from)
      (each_stand (store_at body targets from)
      (λ index. finding_stand (target_at body.tree.now targets index) (λ found is. plain_stand _ refl) NoneStand)
      0 targets.count)

  several_stand : (body : Body) (site : Site) (targets : Range) (value : ExpressionNumber) (bytes words : Bool)
      → StepsStand nodes bound (several_by (types_by bytes words) body site targets value)
  several_stand body site targets value true false = together_stand body targets value Byte
  several_stand body site targets value false false = together_stand body targets value Byte
  several_stand body site targets value false true = together_stand body targets value Address
  several_stand body site targets value true true =
      either_stand (is_some (number site value)) (each_stands body site targets value)
      (together_stand body targets value (scalar site value))

  assignment_stands : (body : Body) (site : Site) (targets : Range) (value : ExpressionNumber)
      → StepsStand nodes bound (assignment_steps body site targets value)
  assignment_stands body site targets value =
      either_stand (nat_eq targets.count 1) (each_stands body site targets value)
      (several_stand body site targets value (any_target takes_byte body targets 0 targets.count)
      (any_target takes_word body targets 0 targets.count))

  -- CALL MOVE
  ends_stand : (site : Site) (source destination : ExpressionNumber) (pushed : ℕ)
      → StepsStand nodes bound (ends_steps site source destination pushed)
  ends_stand site source destination pushed =
      finding_stand (known site source) (λ place is. plain_stand _ refl)
      (either_stand (keeps site destination).de (plain_stand _ refl) (plain_stand _ refl))

  move_stands : (site : Site) (count source destination : ExpressionNumber)
      → StepsStand nodes bound (move_steps site count source destination)
  move_stands site count source destination =
      finding_stand (known site count)
      (λ place is. both_stand (ends_stand site source destination 0) (plain_stand _ refl))
      (MoreStand tt (MoreStand tt (both_stand (ends_stand site source destination 2) (plain_stand _ refl))))

  -- RETURN
  kept_stand : (result : Option ScalarType) (instructions : List Instr)
      → StepsStand nodes bound (kept_steps result instructions)
  unfolding kept_steps
  kept_stand (Some Address) instructions = MoreStand tt (both_stand (all_stand instructions) (plain_stand _ refl))
  kept_stand (Some Byte) instructions = all_stand instructions
  kept_stand None instructions = all_stand instructions

  pops_stand : (words : ℕ) → StepsStand nodes bound (pops_steps words)
  unfolding pops_steps
  pops_stand words = repeated_stand words (Pop StackBc)

  drop_stands : (bytes : ℕ) (result : Option ScalarType) → StepsStand nodes bound (drop_steps bytes result)
  unfolding drop_steps
  drop_stands bytes result =
      either_stand _ (both_stand (pops_stand (bytes / 2)) (repeated_stand (bytes % 2) (Inx Sp)))
      (kept_stand result _)

  return_over_stands : (words : ℕ) (result : Option ScalarType)
      → StepsStand nodes bound (return_over_steps words result)
  unfolding return_over_steps
  return_over_stands words (Some Address) = MoreStand tt (both_stand (pops_stand words) (plain_stand _ refl))
  return_over_stands words (Some Byte) = MoreStand tt (both_stand (pops_stand words) (plain_stand _ refl))
  return_over_stands words None = MoreStand tt (both_stand (pops_stand words) (plain_stand _ refl))

  return_over_any_stands : (words : ℕ) (result : Option ScalarType)
      → StepsStand nodes bound (return_over_any_steps words result)
  unfolding return_over_any_steps
  return_over_any_stands words result =
      either_stand (nat_eq words 0) (plain_stand _ refl) (return_over_stands words result)

  return_of_frame_stands : (body : Body) → StepsStand nodes bound (return_of_frame_steps body)
  unfolding return_of_frame_steps
  return_of_frame_stands body = both_stand (drop_stands _ _) (return_over_any_stands _ _)

  return_by_stands : (kind : ProcedureKind) (body : Body) → StepsStand nodes bound (return_steps_by kind body)
  unfolding return_steps_by
  return_by_stands kinds.Reentrant body = return_of_frame_stands body
  return_by_stands kinds.Static body = plain_stand _ refl
  return_by_stands (kinds.External name) body = plain_stand _ refl

  returned_value_stands : (value : Option ExpressionNumber) (result : Option ScalarType)
      → StepsStand nodes bound (returned_value_steps value result)
  returned_value_stands (Some value) (Some Byte) = plain_stand _ refl
  returned_value_stands (Some value) (Some Address) = plain_stand _ refl
  returned_value_stands (Some value) None = NoneStand
  returned_value_stands None (Some Byte) = NoneStand
  returned_value_stands None (Some Address) = NoneStand
  returned_value_stands None None = NoneStand

  return_of_stands : (body : Body) (value : Option ExpressionNumber)
      → StepsStand nodes bound (return_of_steps body value)
  unfolding return_of_steps
  return_of_stands body value =
      both_stand (returned_value_stands value body.procedure.now.result)
      (both_stand (return_by_stands body.procedure.now.kind body) (plain_stand _ refl))

  -- the end of a procedure
  zero_result_stands : (result : Option ScalarType) → StepsStand nodes bound (zero_result_steps result)
  unfolding zero_result_steps
  zero_result_stands (Some Byte) = plain_stand _ refl
  zero_result_stands (Some Address) = plain_stand _ refl
  zero_result_stands None = NoneStand

  pub end_stands : (body : Body) → StepsStand nodes bound (end_steps body)
  unfolding end_steps
  end_stands body =
      both_stand (zero_result_stands body.procedure.now.result) (return_by_stands body.procedure.now.kind body)

  -- the entry of a procedure
  argument_by : (kind : ScalarType) (location : Location)
      → StepsStand nodes bound (store_argument kind location ∷ [])
  argument_by Byte location = plain_stand _ refl
  argument_by Address location = plain_stand _ refl

  popped_at_stands : (parameters : List Parameter) (index : ℕ)
      → StepsStand nodes bound (popped_at parameters index)
  unfolding popped_at
  popped_at_stands parameters index =
      finding_stand (slice_get parameters index)
      (λ parameter is. MoreStand tt (argument_by parameter.scalar parameter.location)) NoneStand

  popped_from_stands : (parameters : List Parameter) (count : ℕ)
      → StepsStand nodes bound (popped_from parameters count)
  unfolding popped_from
  popped_from_stands parameters zero = NoneStand
  popped_from_stands parameters (suc others) =
      both_stand (popped_at_stands parameters others) (popped_from_stands parameters others)

  pushed_arguments_stand : (parameters : List Parameter)
      → StepsStand nodes bound (pushed_arguments_steps parameters)
  unfolding pushed_arguments_steps
  pushed_arguments_stand parameters =
      MoreStand tt (both_stand (popped_from_stands parameters (length parameters)) (plain_stand _ refl))

  exchanged_stands : (parameter : Parameter) → StepsStand nodes bound (exchanged_steps parameter)
  unfolding exchanged_steps
  exchanged_stands parameter = MoreStand tt (MoreStand tt (argument_by parameter.scalar parameter.location))

  below_return_stands : (parameters : List Parameter) → StepsStand nodes bound (below_return_steps parameters)
  unfolding below_return_steps
  below_return_stands [] = NoneStand
  below_return_stands (parameter ∷ []) =
      either_stand (is_address parameter.scalar) (exchanged_stands parameter) (pushed_arguments_stand (parameter ∷ []))
  below_return_stands (first ∷ next ∷ others) = pushed_arguments_stand (first ∷ next ∷ others)

  arguments_stand : (last : Parameter) (others : List Parameter)
      → StepsStand nodes bound (arguments_steps last others)
  unfolding arguments_steps
  arguments_stand last others =
      both_stand (argument_by last.scalar last.location) (both_stand (below_return_stands others) (plain_stand _ refl))

  static_entry_stands : (parameters : List Parameter) → StepsStand nodes bound (static_entry_steps parameters)
  unfolding static_entry_steps
  static_entry_stands parameters =
      finding_stand (slice_get parameters (length parameters - 1))
      (λ last is. arguments_stand last (take (length parameters - 1) parameters)) (plain_stand _ refl)

  push_loop_stands : (turns : ℕ) (again : LabelNumber) → StepsStand nodes bound (push_loop_steps turns again)
  unfolding push_loop_steps
  push_loop_stands turns again =
      MoreStand tt (MoreStand tt (both_stand (repeated_stand 4 (Push StackDe)) (plain_stand _ refl)))

  pushes_stand : (words first : ℕ) → StepsStand nodes bound (pushes_steps words first)
  unfolding pushes_steps
  pushes_stand words first =
      either_stand (nat_le words PUSHED_WORDS) (repeated_stand words (Push StackDe))
      (both_stand (push_loop_stands _ _) (repeated_stand (words % 4) (Push StackDe)))

  odd_byte_stands : (bytes : ℕ) → StepsStand nodes bound (odd_byte_steps bytes)
  unfolding odd_byte_steps
  odd_byte_stands bytes = either_stand (nat_eq (bytes % 2) 1) (plain_stand _ refl) NoneStand

  zeros_stand : (bytes first : ℕ) → StepsStand nodes bound (zeros_steps bytes first)
  unfolding zeros_steps
  zeros_stand bytes first =
      either_stand (nat_eq bytes 0) NoneStand (MoreStand tt (both_stand (pushes_stand (bytes / 2) first) (odd_byte_stands bytes)))

  last_argument_stands : (parameters : List Parameter)
      → StepsStand nodes bound (last_argument_steps parameters)
  unfolding last_argument_steps
  last_argument_stands parameters =
      finding_stand (slice_get parameters (length parameters - 1)) (λ last is. plain_stand _ refl) NoneStand

  frame_entry_stands : (parameters : List Parameter) (bytes first : ℕ)
      → StepsStand nodes bound (frame_entry_steps parameters bytes first)
  unfolding frame_entry_steps
  frame_entry_stands parameters bytes first =
      both_stand (last_argument_stands parameters) (both_stand (zeros_stand bytes first) (plain_stand _ refl))

  entry_by_stands : (kind : ProcedureKind) (body : Body) (first : ℕ)
      → StepsStand nodes bound (entry_steps_by kind body first)
  unfolding entry_steps_by
  entry_by_stands kinds.Reentrant body first =
      frame_entry_stands body.procedure.now.parameters.items body.frame.now.variable_bytes first
  entry_by_stands kinds.Static body first = static_entry_stands body.procedure.now.parameters.items
  entry_by_stands (kinds.External name) body first = static_entry_stands body.procedure.now.parameters.items

  pub entry_stands : (body : Body) (first : ℕ) → StepsStand nodes bound (entry_steps body first)
  entry_stands body first = entry_by_stands body.procedure.now.kind body first

  -- IF
  module _ (then_part : StatementNumber) (then_stands : StepStands nodes bound (planned.Statement then_part)) where
    any_stands : (part : Option StatementNumber) → AnyStands nodes bound part
        → StepsStand nodes bound (statement_if_any part)
    any_stands None stands = NoneStand
    any_stands (Some part) stands = MoreStand stands NoneStand

    computed_if_stands : (body : Body) (site : Site) (condition : ExpressionNumber) (part : Option StatementNumber)
        (first : ℕ)
        → AnyStands nodes bound part
        → StepsStand nodes bound (computed_if_steps body site condition then_part part first)
    computed_if_stands body site condition None first stands =
        MoreStand tt (MoreStand tt (MoreStand then_stands (plain_stand _ refl)))
    computed_if_stands body site condition (Some part) first stands =
        finding_stand (goto_label body part)
        (λ label is. MoreStand tt (MoreStand then_stands NoneStand))
        (MoreStand tt (MoreStand tt (MoreStand then_stands (MoreStand tt (MoreStand stands (plain_stand _ refl))))))

    if_stands : (body : Body) (site : Site) (condition : ExpressionNumber) (part : Option StatementNumber) (first : ℕ)
        → AnyStands nodes bound part
        → StepsStand nodes bound (if_steps body site condition then_part part first)
    if_stands body site condition part first stands =
        finding_stand (number site condition)
        (λ found is. either_stand _ (MoreStand then_stands NoneStand) (any_stands part stands))
        (finding_stand (goto_label body then_part)
        (λ label is. MoreStand tt (any_stands part stands))
        (computed_if_stands body site condition part first stands))

  -- the test of an iterative DO
  less_stand : (limit : ℕ) → StepsStand nodes bound (less_steps limit)
  less_stand limit = either_stand (nat_eq (limit % 256) 0) (plain_stand _ refl) (plain_stand _ refl)

  test_stands : (counter : Counter) (test : Test) (turn : LabelNumber)
      → StepsStand nodes bound (test_steps counter test turn)
  unfolding test_steps
  test_stands counter tests.Always turn = plain_stand _ refl
  test_stands counter (tests.ByteBelow limit) turn = plain_stand _ refl
  test_stands counter (tests.WordBelow limit) turn = MoreStand tt (both_stand (less_stand limit) (plain_stand _ refl))
  test_stands counter (tests.Byte last) turn = plain_stand _ refl
  test_stands counter (tests.ByteWithWord last) turn = plain_stand _ refl
  test_stands counter (tests.WordWithPlace place) turn = plain_stand _ refl
  test_stands counter (tests.Word last) turn = plain_stand _ refl
  test_stands counter (tests.FrameWord last) turn = plain_stand _ refl

  below_stand : (kind : ScalarType) (counter : Counter) (limit : ℕ)
      → StepsStand nodes bound (below_steps kind counter limit)
  below_stand Byte counter limit = plain_stand _ refl
  below_stand Address counter limit = MoreStand tt (less_stand limit)

  first_test_stands : (counter : Counter) (last : ℕ) (end : LabelNumber)
      → StepsStand nodes bound (first_test_steps counter last end)
  unfolding first_test_steps
  first_test_stands counter last end =
      either_stand (nat_le 65535 last) NoneStand (both_stand (below_stand counter.scalar counter (last + 1)) (plain_stand _ refl))

  asked_test_stands : (counter : Counter) (last : ℕ) (is_tested : Bool) (end : LabelNumber)
      → StepsStand nodes bound (asked_test_steps counter last is_tested end)
  unfolding asked_test_steps
  asked_test_stands counter last is_tested end =
      either_stand (is_tested && not (is_byte_type counter.scalar && nat_le 255 last))
      (first_test_stands counter last end) NoneStand

  next_byte_stands : (counter : Counter) (last : ℕ) (turn : LabelNumber)
      → StepsStand nodes bound (next_byte_steps counter last turn)
  next_byte_stands counter last turn = MoreStand tt (either_stand (nat_le 255 last) (plain_stand _ refl) (plain_stand _ refl))

  next_stands : (counts_byte : Bool) (place : Option Place) (counter : Counter) (last : ℕ) (turn : LabelNumber)
      → StepsStand nodes bound (next_steps counts_byte place counter last turn)
  next_stands false (Some place) counter last turn = plain_stand _ refl
  next_stands false None counter last turn = next_byte_stands counter last turn
  next_stands true place counter last turn = next_byte_stands counter last turn

  next_turn_stands : (counter : Counter) (last : ℕ) (turn : LabelNumber)
      → StepsStand nodes bound (next_turn_steps counter last turn)
  unfolding next_turn_steps
  next_turn_stands counter last turn =
      next_stands (is_byte_type counter.scalar) (counter_place counter) counter last turn

  count_at_hl_stands : (kind : ScalarType) (first : ℕ)
      → StepsStand nodes bound (count_at_hl_steps kind (loop_labels first))
  count_at_hl_stands Byte first = plain_stand _ refl
  count_at_hl_stands Address first = plain_stand _ refl

  count_stands : (counter : Counter) (first : ℕ)
      → StepsStand nodes bound (count_steps counter (loop_labels first))
  count_stands counter first = MoreStand tt (count_at_hl_stands counter.scalar first)

  sum_of_byte_stands : StepsStand nodes bound sum_of_byte_steps
  unfolding sum_of_byte_steps
  sum_of_byte_stands = plain_stand _ refl

  sum_of_word_stands : StepsStand nodes bound sum_of_word_steps
  unfolding sum_of_word_steps
  sum_of_word_stands = plain_stand _ refl

  add_de_stands : (place : Option Place) (counter : Counter) (end : LabelNumber)
      → StepsStand nodes bound (add_de_steps place counter end)
  add_de_stands (Some place) counter end = plain_stand _ refl
  add_de_stands None counter end = MoreStand tt (both_stand sum_of_word_stands (plain_stand _ refl))

  step_in_de_stands : (site : Site) (step : ExpressionNumber)
      → StepsStand nodes bound (step_in_de_steps site step)
  step_in_de_stands site step = finding_stand (known site step) (λ place is. plain_stand _ refl) (plain_stand _ refl)

  add_stands : (kind : ScalarType) (site : Site) (counter : Counter) (step : ExpressionNumber) (end : LabelNumber)
      → StepsStand nodes bound (add_steps kind site counter step end)
  add_stands Byte site counter step end =
      either_stand (is_byte site step) (plain_stand _ refl)
      (MoreStand tt (MoreStand tt (MoreStand tt (both_stand sum_of_byte_stands (plain_stand _ refl)))))
  add_stands Address site counter step end =
      both_stand (step_in_de_stands site step) (add_de_stands (counter_place counter) counter end)

  step_stands : (site : Site) (counter : Counter) (step : Option ExpressionNumber) (first : ℕ)
      → StepsStand nodes bound (step_steps site counter step (loop_labels first))
  unfolding step_steps
  step_stands site counter (Some step) first =
      either_stand (counts_by_one site (Some step)) (count_stands counter first) (add_stands counter.scalar site counter step (nth_label first 2))
  step_stands site counter None first = count_stands counter first

  test_label_stands : (counter : Counter) (step_is_one is_entered : Bool) (test : LabelNumber)
      → StepsStand nodes bound (test_label_steps counter step_is_one is_entered test)
  unfolding test_label_steps
  test_label_stands counter step_is_one is_entered test =
      either_stand (step_is_one && not (is_byte_type counter.scalar)) (plain_stand _ refl) (either_stand is_entered (plain_stand _ refl) NoneStand)

  -- a list that is repeated
  module _ (list : Range) (stands : ListStands nodes bound list) where
    to_known_stands : (counter : Counter) (last : ℕ) (is_tested : Bool) (first : ℕ)
        → StepsStand nodes bound (to_known_steps counter last is_tested list first)
    unfolding to_known_steps
    to_known_stands counter last is_tested first =
        both_stand (asked_test_stands counter last is_tested (nth_label first 1))
        (MoreStand tt (MoreStand stands
        (both_stand (next_turn_stands counter last (label_of first))
        (both_stand (either_stand is_tested (plain_stand _ refl) NoneStand) (plain_stand _ refl)))))

    general_begin_stands : (counter : Counter) (test : Test) (is_tested : Bool) (first : ℕ)
        → StepsStand nodes bound (general_begin_steps counter test is_tested list (loop_labels first))
    unfolding general_begin_steps
    general_begin_stands counter test is_tested first =
        both_stand (either_stand is_tested (plain_stand _ refl) NoneStand) (MoreStand tt (MoreStand stands NoneStand))

    general_end_stands : (site : Site) (counter : Counter) (head : Iteration) (test : Test) (is_tested : Bool)
        (first : ℕ)
        → StepsStand nodes bound (general_end_steps site counter head test is_tested (loop_labels first))
    unfolding general_end_steps
    general_end_stands site counter head test is_tested first =
        both_stand (step_stands site counter head.step first)
        (both_stand (test_label_stands counter (counts_by_one site head.step) is_tested (nth_label first 1))
        (both_stand (test_stands counter test (label_of first)) (plain_stand _ refl)))

    general_stands : (site : Site) (counter : Counter) (head : Iteration) (is_tested : Bool) (first : ℕ)
        → StepsStand nodes bound (general_steps site counter head is_tested list first)
    unfolding general_steps
    general_stands site counter head is_tested first =
        both_stand (general_begin_stands counter (test_of site counter head.last) is_tested first)
        (general_end_stands site counter head (test_of site counter head.last) is_tested first)

    turns_stand : (site : Site) (counter : Counter) (head : Iteration) (is_tested : Bool) (first : ℕ)
        → StepsStand nodes bound (turns_steps site counter head is_tested list first)
    turns_stand site counter head is_tested first =
        finding_stand (number site head.last)
        (λ last is. either_stand (counts_in_place site counter head) (to_known_stands counter last is_tested first)
        (general_stands site counter head is_tested first))
        (general_stands site counter head is_tested first)

    turns_if_any_stand : (turn : Option Bool) (site : Site) (counter : Counter) (head : Iteration) (first : ℕ)
        → StepsStand nodes bound (turns_if_any turn site counter head list first)
    turns_if_any_stand (Some false) site counter head first = NoneStand
    turns_if_any_stand (Some true) site counter head first = turns_stand site counter head false first
    turns_if_any_stand None site counter head first = turns_stand site counter head true first

    iteration_stands : (body : Body) (site : Site) (head : Iteration) (first : ℕ)
        → StepsStand nodes bound (iteration_steps body site head list first)
    unfolding first_steps
    iteration_stands body site head first =
        both_stand (single_stands body site
        (Stored (scalar site head.first) (counter_of site head).scalar (counter_of site head).reference) head.first)
        (turns_if_any_stand (has_a_turn site (counter_of site head) head) site (counter_of site head) head first)

-- DO CASE
module _ {bound : ℕ} (body : Body) (list : Range) (stands : ListStands (nodes_of body.tree.now) bound list) where
  abbrev Stand : List Planned → Type 0
  Stand steps = StepsStand (nodes_of body.tree.now) bound steps

  number_in_de_stands : (kind : ScalarType) (choice : ExpressionNumber) (count : ℕ) (end : LabelNumber)
      → Stand (number_in_de_steps kind choice count end)
  unfolding number_in_de_steps
  number_in_de_stands Byte choice count end =
      MoreStand tt (both_stand (either_stand (nat_lt count 256) (plain_stand _ refl) NoneStand) (plain_stand _ refl))
  number_in_de_stands Address choice count end =
      MoreStand tt
      (both_stand (either_stand (nat_lt count 65536) (both_stand (less_stand count) (plain_stand _ refl)) NoneStand)
      (plain_stand _ refl))

  table_stands : (first end : LabelNumber) → Stand (table_steps body list first end)
  unfolding table_steps table_at
  table_stands first end = each_stand (table_at body list first end) (λ index. plain_stand _ refl) 0 list.count

  statements_stand : (first end : LabelNumber) → Stand (statements_steps body list first end)
  unfolding statements_steps
  statements_stand first end =
      each_stand (statement_at body list first end)
      (λ index. finding_stand (item body.tree.now list index)
      (λ found is. either_stand _
      (MoreStand tt (MoreStand (found_stands stands index found is) (either_stand (nat_lt index (list.count - 1)) (plain_stand _ refl) NoneStand)))
      NoneStand)
      NoneStand)
      0 list.count

  into_table_stands : (table : LabelNumber) → Stand (into_table_steps table)
  unfolding into_table_steps
  into_table_stands table = plain_stand _ refl

  cases_end_stands : (end : LabelNumber) → Stand (cases_end_steps end)
  unfolding cases_end_steps
  cases_end_stands end = plain_stand _ refl

  choice_stands : (site : Site) (choice : ExpressionNumber) (table end own : LabelNumber)
      → Stand (choice_at_steps body site choice list table end own)
  unfolding choice_at_steps
  choice_stands site choice table end own =
      both_stand (number_in_de_stands (scalar site choice) choice list.count end)
      (both_stand (into_table_stands table)
      (both_stand (table_stands own end) (both_stand (statements_stand own end) (cases_end_stands end))))

  case_stands : (site : Site) (choice : ExpressionNumber) (first : ℕ)
      → Stand (case_steps body site choice list first)
  case_stands site choice first =
      finding_stand (number site choice)
      (λ found is. finding_stand (item body.tree.now list found)
      (λ one there. MoreStand (found_stands stands found one there) NoneStand) NoneStand)
      (either_stand (nat_eq list.count 0) (plain_stand _ refl) (choice_stands site choice (label_of first) (nth_label first 1) (nth_label first 2)))

-- the steps of a statement of each form
module _ {storage : Storage} {labels : List ℕ} {bound : ℕ} (body : Body) where
  else_stands :
      {part : Option StatementNumber} {tree : TypedElse}
      → IsElse (nodes_of body.tree.now) storage labels bound part tree
      → AnyStands (nodes_of body.tree.now) bound part
  else_stands IsNoElse = tt
  else_stands (IsSomeElse is) = statement_stands is

  form_steps_stand :
      {statement : Statement} {tree : TypedStatement} (site : Site) (first : ℕ)
      → IsStatementForm (nodes_of body.tree.now) storage labels bound statement tree
      → StepsStand (nodes_of body.tree.now) bound (statement_steps body site statement first)
  unfolding statement_steps
  form_steps_stand site first (IsLabel is) = plain_stand _ refl
  form_steps_stand site first IsNull = NoneStand
  form_steps_stand site first (IsAssignment {range = targets} {value = value} are is) =
      assignment_stands body site targets value
  form_steps_stand site first (IsCall are) = plain_stand _ refl
  form_steps_stand site first (IsMove {count = count} {source = from} {destination = to} one other another) =
      move_stands site count from to
  form_steps_stand site first (IsReturn {value = value} is) = return_of_stands body value
  form_steps_stand site first IsHalt = plain_stand _ refl
  form_steps_stand site first (IsGoto is) = plain_stand _ refl
  form_steps_stand site first (IsIf {condition = condition} {body = then_part} {otherwise = part} is then_is else_is) =
      if_stands then_part (statement_stands then_is) body site condition part first (else_stands else_is)
  form_steps_stand site first (IsDo is) = MoreStand (list_stands is) NoneStand
  form_steps_stand site first (IsLoop {head = head} {range = range} is list_is) =
      loop_stands range (list_stands list_is) body site first
      (λ iteration. iteration_stands range (list_stands list_is) body site iteration first) head
  form_steps_stand site first (IsCase {choice = choice} {range = range} {trees = trees} is are) =
      case_stands body range (record { storage = storage; labels = labels; trees = trees; are = are }) site choice first

-- the statements and the lists in the steps of a statement
pub statement_steps_stand :
    {bound : ℕ} (body : Body) (site : Site) (statement : Statement) (first : ℕ)
    → FormStands (nodes_of body.tree.now) bound statement
    → StepsStand (nodes_of body.tree.now) bound (statement_steps body site statement first)
statement_steps_stand body site statement first stands = form_steps_stand body site first stands.is
