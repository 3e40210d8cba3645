-- Outlines of planned steps: those that mark no label and hold no statement are left out.
use Rattle.codegen8080.proofs.Prelude.{◌≡◌, ◌∙◌, ◌++◌, ap, replicate, ℕ, zero, suc, ◌+◌, ◌-◌, Bool, true, false, nat_lt, List, [], ◌∷◌, length, take, Option, Some, None, slice_get, refl, Instr, Parameter, ProcedureKind, Range, Statement, StatementNumber, Site, LabelNumber, Body, Planned, entry_steps}
use Rattle.std.specs.Prelude.{if◌then◌else◌, ◌/◌, ◌%◌, ◌&&◌, is_some, nat_eq, nat_le, not}
use Rattle.isa8080.specs.declared.instr.Instr.TheVariants.{Inx, Pop, Push}
use Rattle.isa8080.specs.declared.instr.StackPair.TheVariants.{StackBc, StackDe}
use Rattle.isa8080.specs.declared.instr.Pair.TheVariants.{Sp}
use Rattle.trees.specs.declared.declaration.ScalarType.{ScalarType}
use Rattle.trees.specs.declared.declaration.ScalarType.TheVariants.{Byte, Address}
use Rattle.typed_trees.specs.TypedTrees.{TypedElse, TypedStatement}
use Rattle.layout.specs.Storage.{Storage}
use Rattle.treecode.specs.declared.expression.ExpressionNumber.{ExpressionNumber}
use Rattle.treecode.specs.declared.place.Location.{Location}
use Rattle.treecode.specs.declared.place.Place.{Place}
use Rattle.treecode.specs.declared.procedure.ProcedureKind.TheVariants as kinds
use Rattle.treecode.specs.declared.reference.Reference.{Reference}
use Rattle.treecode.specs.declared.reference.Target.{Target}
use Rattle.treecode.specs.declared.reference.Target.TheVariants.{Sent, Stored}
use Rattle.treecode.specs.declared.statement.Iteration.{Iteration}
use Rattle.treecode.specs.declared.statement.Statement.TheVariants as statements
use Rattle.treecode.specs.internal.Nodes.{Nodes, nodes_of}
use Rattle.treecode.specs.internal.Queries.{item, source, target as target_at}
unfoldable use Rattle.steps8080.specs.internal.Queries.{keeps, known, location_of, number}
use Rattle.steps8080.specs.internal.Site.{scalar}
use Rattle.steps8080.specs.internal.Step.{label_of}
use Rattle.statements8080.specs.declared.plan.Planned.TheVariants as planned
use Rattle.statements8080.specs.declared.bound.Test.{Test}
use Rattle.statements8080.specs.declared.bound.Test.TheVariants as tests
use Rattle.statements8080.specs.declared.iteration.Counter.{Counter}
use Rattle.codegen8080.specs.declared.procedures.TheConstants.{PUSHED_WORDS}
use Rattle.statements8080.specs.internal.Bodies.{is_near}
use Rattle.statements8080.specs.internal.Counters.{counter_of, counter_place, counts_by_one, has_a_turn}
use Rattle.statements8080.specs.internal.Plans.{nth_label}
use Rattle.statements8080.specs.internal.Assignments.{any_target, assignment_steps, byte_steps, count_of, each_at, each_steps, is_address_first, other_word_steps, several_by, single_steps, store_at, takes_byte, takes_word, together_steps, types_by, value_steps, word_steps}
use Rattle.statements8080.specs.internal.Branches.{computed_if_steps, goto_label, if_steps, statement_if_any, while_steps}
use Rattle.statements8080.specs.internal.Cases.{case_steps, statement_at}
unfoldable use Rattle.statements8080.specs.internal.Cases.{cases_end_steps, choice_at_steps, into_table_steps, number_in_de_steps, statements_steps, table_at, table_steps}
use Rattle.statements8080.specs.internal.Iterations.{add_de_steps, add_steps, below_steps, count_at_hl_steps, count_steps, counts_in_place, is_byte, is_byte_type, iteration_steps, loop_labels, next_byte_steps, next_steps, step_in_de_steps, turns_if_any, turns_steps}
unfoldable use Rattle.statements8080.specs.internal.Iterations.{asked_test_steps, first_steps, first_test_steps, general_begin_steps, general_end_steps, general_steps, next_turn_steps, step_steps, sum_of_byte_steps, sum_of_word_steps, test_label_steps, to_known_steps}
use Rattle.statements8080.specs.internal.Moves.{ends_steps, move_steps}
use Rattle.statements8080.specs.internal.Tests.{less_steps}
unfoldable use Rattle.statements8080.specs.internal.Tests.{test_of, test_steps}
unfoldable use Rattle.codegen8080.specs.internal.Procedures.{below_return_steps, drop_steps, end_steps, entry_steps_by, exchanged_steps, frame_entry_steps, kept_steps, last_argument_steps, odd_byte_steps, popped_at, popped_from, pops_steps, push_loop_steps, pushed_arguments_steps, pushes_steps, return_of_frame_steps, return_over_any_steps, return_over_steps, return_steps_by, static_entry_steps, stores_steps as arguments_steps, zero_result_steps, zeros_steps}
use Rattle.codegen8080.specs.internal.Procedures.{is_address, store_argument}
unfoldable use Rattle.codegen8080.specs.internal.Statements.{return_of_steps, statement_steps}
use Rattle.codegen8080.specs.internal.Statements.{returned_value_steps}
use Rattle.statements8080.specs.internal.Plans.{all, mark, plain, steps_from}
use Rattle.codegen8080.specs.internal.Outlines.{is_outlined, outline}

-- the outline of planned steps
pub record Shows (list shown : List Planned) : Type 0 where
  pub is : outline list ≡ shown

abbrev pub Bare : List Planned → Type 0
Bare list = Shows list []

pub bare : {list : List Planned} → outline list ≡ [] → Bare list
bare is = record { is = is }

-- planned steps one after another
both_by :
    (step : Planned) (first others : List Planned) (b : Bool)
    → outline (first ++ others) ≡ outline first ++ outline others
    → (if b then step ∷ outline (first ++ others) else outline (first ++ others))
    ≡ (if b then step ∷ outline first else outline first) ++ outline others
both_by step first others true rest = ap (λ (list : List Planned). step ∷ list) rest
both_by step first others false rest = rest

outline_both : (first others : List Planned) → outline (first ++ others) ≡ outline first ++ outline others
outline_both [] others = refl
outline_both (step ∷ first) others =
    both_by step first others (is_outlined step) (outline_both first others)

pub shows_both :
    {first others shown more : List Planned}
    → Shows first shown
    → Shows others more
    → Shows (first ++ others) (shown ++ more)
shows_both {first = first} {others = others} {shown = shown} one two = record {
  is = outline_both first others
      ∙ ap (λ (list : List Planned). list ++ outline others) one.is
      ∙ ap (λ (list : List Planned). shown ++ list) two.is;
}

pub bare_both : {first others : List Planned} → Bare first → Bare others → Bare (first ++ others)
bare_both one two = shows_both one two

pub bare_then :
    {first others shown : List Planned} → Bare first → Shows others shown → Shows (first ++ others) shown
bare_then one two = shows_both one two

-- a step before others
pub shows_after :
    {step : Planned} {others shown : List Planned}
    → is_outlined step ≡ false
    → Shows others shown
    → Shows (step ∷ others) shown
shows_after {step = step} {others = others} out rest = record {
  is = ap (λ (b : Bool). if b then step ∷ outline others else outline others) out ∙ rest.is;
}

pub bare_after :
    {step : Planned} {others : List Planned} → is_outlined step ≡ false → Bare others → Bare (step ∷ others)
bare_after out rest = shows_after out rest

pub shows_put :
    {step : Planned} {others shown : List Planned}
    → is_outlined step ≡ true
    → Shows others shown
    → Shows (step ∷ others) (step ∷ shown)
shows_put {step = step} {others = others} is rest = record {
  is = ap (λ (b : Bool). if b then step ∷ outline others else outline others) is
      ∙ ap (λ (list : List Planned). step ∷ list) rest.is;
}

bare_all : (instructions : List Instr) → Bare (all instructions)
bare_all [] = bare refl
bare_all (first ∷ others) = bare_after refl (bare_all others)

pub bare_repeated : (count : ℕ) (i : Instr) → Bare (replicate count (plain i))
bare_repeated zero i = bare refl
bare_repeated (suc count) i = bare_after refl (bare_repeated count i)

pub shows_either :
    {first second shown : List Planned} (b : Bool)
    → Shows first shown
    → Shows second shown
    → Shows (if b then first else second) shown
shows_either true one two = one
shows_either false one two = two

pub bare_either :
    {first second : List Planned} (b : Bool) → Bare first → Bare second → Bare (if b then first else second)
bare_either b one two = shows_either b one two

bare_finding :
    {A : Type 0} {some : A → List Planned} {none : List Planned} (found : Option A)
    → ((x : A) → found ≡ Some x → Bare (some x))
    → Bare none
    → Bare (elim found [ Some x ↦ some x | None ↦ none ])
bare_finding (Some x) one two = one x refl
bare_finding None one two = two

pub bare_each :
    (steps_at : ℕ → List Planned)
    → ((index : ℕ) → Bare (steps_at index))
    → (index left : ℕ)
    → Bare (steps_from steps_at index left)
bare_each steps_at at index zero = bare refl
bare_each steps_at at index (suc left) = bare_both (at index) (bare_each steps_at at (suc index) left)

-- an assignment
from_byte : (target : Target) (value : ExpressionNumber)
    → Bare (other_word_steps Byte target value)
from_byte target value = bare refl

byte_assigned : (site : Site) (reference : Reference) (value : ExpressionNumber)
    → Bare (byte_steps site reference value)
byte_assigned site reference value =
    bare_finding (number site value) (λ found is. (bare refl))
    (bare_finding (count_of site reference value) (λ i is. (bare refl))
    (bare_either (is_address_first site reference value) (bare refl) (bare refl)))

other_word_assigned : (from : ScalarType) (target : Target) (value : ExpressionNumber)
    → Bare (other_word_steps from target value)
other_word_assigned Byte target value = bare refl
other_word_assigned Address target value = bare refl

word_assigned : (body : Body) (site : Site) (target : Target) (reference : Reference) (value : ExpressionNumber)
    → Bare (word_steps body site target reference value)
word_assigned body site target reference value =
    bare_either (is_near body (location_of site reference)) (bare refl)
    (bare_finding (number site value) (λ found is. (bare refl)) (other_word_assigned (source target) target value))

pub single_is_bare : (body : Body) (site : Site) (target : Target) (value : ExpressionNumber)
    → Bare (single_steps body site target value)
single_is_bare body site (Stored from Byte reference) value = byte_assigned site reference value
single_is_bare body site (Stored from Address reference) value =
    word_assigned body site (Stored from Address reference) reference value
single_is_bare body site (Sent from port) value = bare refl

each_is_bare : (body : Body) (site : Site) (targets : Range) (value : ExpressionNumber)
    → Bare (each_steps body site targets value)
each_is_bare body site targets value =
    bare_each (each_at body site targets value)
    (λ index. bare_finding (target_at body.tree.now targets index)
    (λ found is. single_is_bare body site found value) (bare refl))
    0 targets.count

value_is_bare : (value : ExpressionNumber) (from : ScalarType)
    → Bare (value_steps value from)
value_is_bare value Byte = bare refl
value_is_bare value Address = bare refl

together_is_bare : (body : Body) (targets : Range) (value : ExpressionNumber) (from : ScalarType)
    → Bare (together_steps body targets value from)
together_is_bare body targets value from =
    bare_both (value_is_bare value from)
    (bare_each (store_at body targets from)
    (λ index. bare_finding (target_at body.tree.now targets index) (λ found is. (bare refl)) (bare refl))
    0 targets.count)

several_is_bare : (body : Body) (site : Site) (targets : Range) (value : ExpressionNumber) (bytes words : Bool)
    → Bare (several_by (types_by bytes words) body site targets value)
several_is_bare body site targets value true false = together_is_bare body targets value Byte
several_is_bare body site targets value false false = together_is_bare body targets value Byte
several_is_bare body site targets value false true = together_is_bare body targets value Address
several_is_bare body site targets value true true =
    bare_either (is_some (number site value)) (each_is_bare body site targets value)
    (together_is_bare body targets value (scalar site value))

pub assignment_is_bare : (body : Body) (site : Site) (targets : Range) (value : ExpressionNumber)
    → Bare (assignment_steps body site targets value)
assignment_is_bare body site targets value =
    bare_either (nat_eq targets.count 1) (each_is_bare body site targets value)
    (several_is_bare body site targets value (any_target takes_byte body targets 0 targets.count)
    (any_target takes_word body targets 0 targets.count))

-- CALL MOVE
ends_is_bare : (site : Site) (source destination : ExpressionNumber) (pushed : ℕ)
    → Bare (ends_steps site source destination pushed)
ends_is_bare site source destination pushed =
    bare_finding (known site source) (λ place is. (bare refl))
    (bare_either (keeps site destination).de (bare refl) (bare refl))

pub move_is_bare : (site : Site) (count source destination : ExpressionNumber)
    → Bare (move_steps site count source destination)
move_is_bare site count source destination =
    bare_finding (known site count)
    (λ place is. bare_both (ends_is_bare site source destination 0) (bare refl))
    (bare_after refl (bare_after refl (bare_both (ends_is_bare site source destination 2) (bare refl))))

-- RETURN
kept_is_bare : (result : Option ScalarType) (instructions : List Instr)
    → Bare (kept_steps result instructions)
unfolding kept_steps
kept_is_bare (Some Address) instructions = bare_after refl (bare_both (bare_all instructions) (bare refl))
kept_is_bare (Some Byte) instructions = bare_all instructions
kept_is_bare None instructions = bare_all instructions

pops_is_bare : (words : ℕ) → Bare (pops_steps words)
unfolding pops_steps
pops_is_bare words = bare_repeated words (Pop StackBc)

drop_is_bare : (bytes : ℕ) (result : Option ScalarType) → Bare (drop_steps bytes result)
unfolding drop_steps
drop_is_bare bytes result =
    bare_either _ (bare_both (pops_is_bare (bytes / 2)) (bare_repeated (bytes % 2) (Inx Sp)))
    (kept_is_bare result _)

return_over_is_bare : (words : ℕ) (result : Option ScalarType)
    → Bare (return_over_steps words result)
unfolding return_over_steps
return_over_is_bare words (Some Address) = bare_after refl (bare_both (pops_is_bare words) (bare refl))
return_over_is_bare words (Some Byte) = bare_after refl (bare_both (pops_is_bare words) (bare refl))
return_over_is_bare words None = bare_after refl (bare_both (pops_is_bare words) (bare refl))

return_over_any_is_bare : (words : ℕ) (result : Option ScalarType)
    → Bare (return_over_any_steps words result)
unfolding return_over_any_steps
return_over_any_is_bare words result =
    bare_either (nat_eq words 0) (bare refl) (return_over_is_bare words result)

return_of_frame_is_bare : (body : Body) → Bare (return_of_frame_steps body)
unfolding return_of_frame_steps
return_of_frame_is_bare body = bare_both (drop_is_bare _ _) (return_over_any_is_bare _ _)

return_by_is_bare : (kind : ProcedureKind) (body : Body) → Bare (return_steps_by kind body)
unfolding return_steps_by
return_by_is_bare kinds.Reentrant body = return_of_frame_is_bare body
return_by_is_bare kinds.Static body = bare refl
return_by_is_bare (kinds.External name) body = bare refl

returned_value_is_bare : (value : Option ExpressionNumber) (result : Option ScalarType)
    → Bare (returned_value_steps value result)
returned_value_is_bare (Some value) (Some Byte) = bare refl
returned_value_is_bare (Some value) (Some Address) = bare refl
returned_value_is_bare (Some value) None = bare refl
returned_value_is_bare None (Some Byte) = bare refl
returned_value_is_bare None (Some Address) = bare refl
returned_value_is_bare None None = bare refl

pub return_of_is_bare : (body : Body) (value : Option ExpressionNumber)
    → Bare (return_of_steps body value)
unfolding return_of_steps
return_of_is_bare body value =
    bare_both (returned_value_is_bare value body.procedure.now.result)
    (bare_both (return_by_is_bare body.procedure.now.kind body) (bare refl))

-- the end of a procedure
zero_result_is_bare : (result : Option ScalarType) → Bare (zero_result_steps result)
unfolding zero_result_steps
zero_result_is_bare (Some Byte) = bare refl
zero_result_is_bare (Some Address) = bare refl
zero_result_is_bare None = bare refl

pub end_is_bare : (body : Body) → Bare (end_steps body)
unfolding end_steps
end_is_bare body =
    bare_both (zero_result_is_bare body.procedure.now.result) (return_by_is_bare body.procedure.now.kind body)

-- the entry of a procedure
argument_by : (kind : ScalarType) (location : Location)
    → Bare (store_argument kind location ∷ [])
argument_by Byte location = bare refl
argument_by Address location = bare refl

popped_at_is_bare : (parameters : List Parameter) (index : ℕ)
    → Bare (popped_at parameters index)
unfolding popped_at
popped_at_is_bare parameters index =
    bare_finding (slice_get parameters index)
    (λ parameter is. bare_after refl (argument_by parameter.scalar parameter.location)) (bare refl)

popped_from_is_bare : (parameters : List Parameter) (count : ℕ)
    → Bare (popped_from parameters count)
unfolding popped_from
popped_from_is_bare parameters zero = bare refl
popped_from_is_bare parameters (suc others) =
    bare_both (popped_at_is_bare parameters others) (popped_from_is_bare parameters others)

pushed_arguments_is_bare : (parameters : List Parameter)
    → Bare (pushed_arguments_steps parameters)
unfolding pushed_arguments_steps
pushed_arguments_is_bare parameters =
    bare_after refl (bare_both (popped_from_is_bare parameters (length parameters)) (bare refl))

exchanged_is_bare : (parameter : Parameter) → Bare (exchanged_steps parameter)
unfolding exchanged_steps
exchanged_is_bare parameter = bare_after refl (bare_after refl (argument_by parameter.scalar parameter.location))

below_return_is_bare : (parameters : List Parameter) → Bare (below_return_steps parameters)
unfolding below_return_steps
below_return_is_bare [] = bare refl
below_return_is_bare (parameter ∷ []) =
    bare_either (is_address parameter.scalar) (exchanged_is_bare parameter) (pushed_arguments_is_bare (parameter ∷ []))
below_return_is_bare (first ∷ next ∷ others) = pushed_arguments_is_bare (first ∷ next ∷ others)

arguments_is_bare : (last : Parameter) (others : List Parameter)
    → Bare (arguments_steps last others)
unfolding arguments_steps
arguments_is_bare last others =
    bare_both (argument_by last.scalar last.location) (bare_both (below_return_is_bare others) (bare refl))

pub static_entry_is_bare : (parameters : List Parameter) → Bare (static_entry_steps parameters)
unfolding static_entry_steps
static_entry_is_bare parameters =
    bare_finding (slice_get parameters (length parameters - 1))
    (λ last is. arguments_is_bare last (take (length parameters - 1) parameters)) (bare refl)

pub odd_byte_is_bare : (bytes : ℕ) → Bare (odd_byte_steps bytes)
unfolding odd_byte_steps
odd_byte_is_bare bytes = bare_either (nat_eq (bytes % 2) 1) (bare refl) (bare refl)

pub last_argument_is_bare : (parameters : List Parameter)
    → Bare (last_argument_steps parameters)
unfolding last_argument_steps
last_argument_is_bare parameters =
    bare_finding (slice_get parameters (length parameters - 1)) (λ last is. (bare refl)) (bare refl)

-- the test of an iterative DO
pub less_is_bare : (limit : ℕ) → Bare (less_steps limit)
less_is_bare limit = bare_either (nat_eq (limit % 256) 0) (bare refl) (bare refl)

pub test_is_bare : (counter : Counter) (test : Test) (turn : LabelNumber)
    → Bare (test_steps counter test turn)
unfolding test_steps
test_is_bare counter tests.Always turn = bare refl
test_is_bare counter (tests.ByteBelow limit) turn = bare refl
test_is_bare counter (tests.WordBelow limit) turn = bare_after refl (bare_both (less_is_bare limit) (bare refl))
test_is_bare counter (tests.Byte last) turn = bare refl
test_is_bare counter (tests.ByteWithWord last) turn = bare refl
test_is_bare counter (tests.WordWithPlace place) turn = bare refl
test_is_bare counter (tests.Word last) turn = bare refl
test_is_bare counter (tests.FrameWord last) turn = bare refl

below_is_bare : (kind : ScalarType) (counter : Counter) (limit : ℕ)
    → Bare (below_steps kind counter limit)
below_is_bare Byte counter limit = bare refl
below_is_bare Address counter limit = bare_after refl (less_is_bare limit)

first_test_is_bare : (counter : Counter) (last : ℕ) (end : LabelNumber)
    → Bare (first_test_steps counter last end)
unfolding first_test_steps
first_test_is_bare counter last end =
    bare_either (nat_le 65535 last) (bare refl) (bare_both (below_is_bare counter.scalar counter (last + 1)) (bare refl))

pub asked_test_is_bare : (counter : Counter) (last : ℕ) (is_tested : Bool) (end : LabelNumber)
    → Bare (asked_test_steps counter last is_tested end)
unfolding asked_test_steps
asked_test_is_bare counter last is_tested end =
    bare_either (is_tested && not (is_byte_type counter.scalar && nat_le 255 last))
    (first_test_is_bare counter last end) (bare refl)

next_byte_is_bare : (counter : Counter) (last : ℕ) (turn : LabelNumber)
    → Bare (next_byte_steps counter last turn)
next_byte_is_bare counter last turn = bare_after refl (bare_either (nat_le 255 last) (bare refl) (bare refl))

next_is_bare : (counts_byte : Bool) (place : Option Place) (counter : Counter) (last : ℕ) (turn : LabelNumber)
    → Bare (next_steps counts_byte place counter last turn)
next_is_bare false (Some place) counter last turn = bare refl
next_is_bare false None counter last turn = next_byte_is_bare counter last turn
next_is_bare true place counter last turn = next_byte_is_bare counter last turn

pub next_turn_is_bare : (counter : Counter) (last : ℕ) (turn : LabelNumber)
    → Bare (next_turn_steps counter last turn)
unfolding next_turn_steps
next_turn_is_bare counter last turn =
    next_is_bare (is_byte_type counter.scalar) (counter_place counter) counter last turn

count_at_hl_is_bare : (kind : ScalarType) (first : ℕ)
    → Bare (count_at_hl_steps kind (loop_labels first))
count_at_hl_is_bare Byte first = bare refl
count_at_hl_is_bare Address first = bare refl

count_is_bare : (counter : Counter) (first : ℕ)
    → Bare (count_steps counter (loop_labels first))
count_is_bare counter first = bare_after refl (count_at_hl_is_bare counter.scalar first)

sum_of_byte_is_bare : Bare sum_of_byte_steps
unfolding sum_of_byte_steps
sum_of_byte_is_bare = bare refl

sum_of_word_is_bare : Bare sum_of_word_steps
unfolding sum_of_word_steps
sum_of_word_is_bare = bare refl

add_de_is_bare : (place : Option Place) (counter : Counter) (end : LabelNumber)
    → Bare (add_de_steps place counter end)
add_de_is_bare (Some place) counter end = bare refl
add_de_is_bare None counter end = bare_after refl (bare_both sum_of_word_is_bare (bare refl))

step_in_de_is_bare : (site : Site) (step : ExpressionNumber)
    → Bare (step_in_de_steps site step)
step_in_de_is_bare site step = bare_finding (known site step) (λ place is. (bare refl)) (bare refl)

add_is_bare : (kind : ScalarType) (site : Site) (counter : Counter) (step : ExpressionNumber) (end : LabelNumber)
    → Bare (add_steps kind site counter step end)
add_is_bare Byte site counter step end =
    bare_either (is_byte site step) (bare refl)
    (bare_after refl (bare_after refl (bare_after refl (bare_both sum_of_byte_is_bare (bare refl)))))
add_is_bare Address site counter step end =
    bare_both (step_in_de_is_bare site step) (add_de_is_bare (counter_place counter) counter end)

pub step_is_bare : (site : Site) (counter : Counter) (step : Option ExpressionNumber) (first : ℕ)
    → Bare (step_steps site counter step (loop_labels first))
unfolding step_steps
step_is_bare site counter (Some step) first =
    bare_either (counts_by_one site (Some step)) (count_is_bare counter first) (add_is_bare counter.scalar site counter step (nth_label first 2))
step_is_bare site counter None first = count_is_bare counter first

-- the entry of a procedure: a loop that pushes zeros marks a label
pub push_loop_shows : (turns : ℕ) (again : LabelNumber) → Shows (push_loop_steps turns again) (mark again ∷ [])
unfolding push_loop_steps
push_loop_shows turns again =
    shows_after refl (shows_put refl (bare_both (bare_repeated 4 (Push StackDe)) (bare refl)))
