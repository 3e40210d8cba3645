-- The code of iterative DO.
use Rattle.std.specs.Prelude.{ℕ, ◌+◌, Bool, true, false, not, ◌&&◌, ◌||◌, if◌then◌else◌, nat_le, nat_lt, List, [], ◌∷◌, ◌++◌, Option, Some, None, is_some}
use Rattle.isa8080.specs.declared.instr.Condition.TheVariants.{Carry, NoCarry, NotZero, Zero}
use Rattle.isa8080.specs.declared.instr.Instr.TheVariants.{AccumulateImmediate, Dad, Inr, Inx, MovToMemory, Xchg}
use Rattle.isa8080.specs.declared.instr.Operand.TheVariants.{M}
use Rattle.isa8080.specs.declared.instr.Operation.TheVariants.{Add, AddWithCarry, Compare, Or, Subtract, SubtractWithBorrow}
use Rattle.isa8080.specs.declared.instr.Pair.TheVariants.{De, Hl}
use Rattle.isa8080.specs.declared.instr.Register.TheVariants.{A, D, E, H, L}
use Rattle.asm8080.specs.declared.item.WordForm.TheVariants.{Jump, JumpWhere, LoadPair, StoreHl}
use Rattle.trees.specs.declared.declaration.ScalarType.{ScalarType}
use Rattle.trees.specs.declared.declaration.ScalarType.TheVariants.{Byte, Address}
use Rattle.treecode.specs.declared.expression.ExpressionNumber.{ExpressionNumber}
use Rattle.treecode.specs.declared.lists.Range.{Range}
use Rattle.treecode.specs.declared.place.Place.{Place}
use Rattle.treecode.specs.declared.reference.Target.TheVariants.{Stored}
use Rattle.treecode.specs.declared.statement.Iteration.{Iteration}
use Rattle.steps8080.specs.declared.facts.Facts.{Facts}
use Rattle.steps8080.specs.declared.step.LabelNumber.{LabelNumber}
use Rattle.steps8080.specs.declared.step.Task.TheVariants as tasks
use Rattle.steps8080.specs.internal.Instructions.{copy, high, load, low, set, with_memory, with_register}
use Rattle.steps8080.specs.internal.Step.{label_of}
use Rattle.steps8080.specs.declared.sites.site.Site.{Site}
use Rattle.steps8080.specs.internal.Site.{scalar}
use Rattle.steps8080.specs.internal.Queries.{known, number}
use Rattle.statements8080.specs.declared.body.Body.{Body}
use Rattle.statements8080.specs.declared.bound.Test.{Test}
use Rattle.statements8080.specs.declared.iteration.Counter.{Counter}
use Rattle.statements8080.specs.declared.iteration.LoopLabels.{LoopLabels}
use Rattle.statements8080.specs.declared.plan.Planned.{Planned}
use Rattle.statements8080.specs.declared.plan.Planned.TheVariants.{Again, Jumped, List as ListOf, LoadByte, LoadWord, Meet, Reaches}
use Rattle.statements8080.specs.internal.Plans.{all, jump, mark, nth_label, part, plain, word}
use Rattle.statements8080.specs.internal.Assignments.{single_steps}
use Rattle.statements8080.specs.internal.Counters.{address_fact, counter_of, counter_place, counts_by_one, has_a_turn, word_fact}
use Rattle.statements8080.specs.internal.Tests.{facts_of_test, less_steps, test_of, test_steps}

-- the labels of the general form of a loop, from the first one
abbrev pub loop_labels : (first : ℕ) → LoopLabels
loop_labels first = record {
  turn = label_of first;
  test = nth_label first 1;
  end = nth_label first 2;
}

-- whether a type is BYTE
abbrev pub is_byte_type : ScalarType → Bool
is_byte_type Byte = true
is_byte_type Address = false

-- assigns the first value to the variable
unfoldable pub first_steps : Body → Site → Counter → (first : ExpressionNumber) → List Planned
first_steps body site counter first =
    single_steps body site (Stored (scalar site first) counter.scalar counter.reference) first

-- tests whether the variable is less than a number, by its type: the carry shows it
abbrev pub below_steps : ScalarType → Counter → (bound : ℕ) → List Planned
below_steps Byte counter bound =
    LoadByte counter.reference ∷ plain (AccumulateImmediate Compare (low bound)) ∷ []
below_steps Address counter bound = LoadWord counter.reference ∷ less_steps bound

-- the test before the first turn of a loop with a known bound, unless a first turn is known
unfoldable pub first_test_steps : Counter → (last : ℕ) → (end : LabelNumber) → List Planned
first_test_steps counter last end =
    if nat_le 65535 last then []
    else below_steps counter.scalar counter (last + 1) ++ (jump (JumpWhere NoCarry) end ∷ [])

-- counts the BYTE by 1, and begins another turn if it was less than the bound
abbrev pub next_byte_steps : Counter → (last : ℕ) → (turn : LabelNumber) → List Planned
next_byte_steps counter last turn =
    part (tasks.Address counter.reference) 0
    ∷ (if nat_le 255 last then plain (Inr M) ∷ jump (JumpWhere NotZero) turn ∷ []
    else all (load A ∷ AccumulateImmediate Compare (low last) ∷ Inr M ∷ [])
    ++ (jump (JumpWhere Carry) turn ∷ []))

-- counts the ADDRESS at a place by 1, and begins another turn if it was less than the bound
abbrev pub next_word_steps : Counter → Place → (last : ℕ) → (turn : LabelNumber) → List Planned
next_word_steps counter place last turn =
    LoadWord counter.reference
    ∷ (all
    (copy A L ∷ AccumulateImmediate Subtract (low last)
    ∷ copy A H ∷ AccumulateImmediate SubtractWithBorrow (high last)
    ∷ Inx Hl ∷ [])
    ++ (word StoreHl place ∷ jump (JumpWhere Carry) turn ∷ []))

-- counts the variable, a BYTE or an ADDRESS at a place, by 1
abbrev pub next_steps :
    (counts_byte : Bool) → (place : Option Place) → Counter → (last : ℕ) → (turn : LabelNumber) → List Planned
next_steps false (Some place) counter last turn = next_word_steps counter place last turn
next_steps counts_byte place counter last turn = next_byte_steps counter last turn

-- counts the variable by 1, by its type and its place
unfoldable pub next_turn_steps : Counter → (last : ℕ) → (turn : LabelNumber) → List Planned
next_turn_steps counter last turn =
    next_steps (is_byte_type counter.scalar) (counter_place counter) counter last turn

-- the facts at the start of a turn: HL holds the address of a BYTE or the value of an ADDRESS
unfoldable pub facts_of_turn : Counter → Facts
facts_of_turn counter = if is_byte_type counter.scalar then address_fact counter else word_fact counter

-- the test before the first turn, if asked for and not every BYTE passes it
unfoldable pub asked_test_steps :
    Counter → (last : ℕ) → (is_tested : Bool) → (end : LabelNumber) → List Planned
asked_test_steps counter last is_tested end =
    if is_tested && not (is_byte_type counter.scalar && nat_le 255 last)
    then first_test_steps counter last end
    else []

-- the place of a label, if asked for
abbrev pub asked_mark : (is_asked : Bool) → LabelNumber → List Planned
asked_mark is_asked label = if is_asked then mark label ∷ [] else []

-- counts by 1 to a known bound: the test is at the end, together with the counting
unfoldable pub to_known_steps : Counter → (last : ℕ) → (is_tested : Bool) → Range → (first : ℕ) → List Planned
to_known_steps counter last is_tested list first =
    let turn = label_of first in
    let end = nth_label first 1 in
    asked_test_steps counter last is_tested end
    ++ (Again turn (facts_of_turn counter) true
    ∷ ListOf list
    ∷ (next_turn_steps counter last turn ++ (asked_mark is_tested end ++ (Reaches true ∷ []))))

-- counts the variable of a type at the address in HL by 1; the loop ends if it becomes 0
abbrev pub count_at_hl_steps : ScalarType → LoopLabels → List Planned
count_at_hl_steps Byte labels = plain (Inr M) ∷ jump (JumpWhere Zero) labels.end ∷ []
count_at_hl_steps Address labels =
    plain (Inr M)
    ∷ jump (JumpWhere NotZero) labels.test
    ∷ plain (Inx Hl)
    ∷ plain (Inr M)
    ∷ jump (JumpWhere Zero) labels.end
    ∷ []

-- counts the variable by 1
abbrev pub count_steps : Counter → LoopLabels → List Planned
count_steps counter labels =
    part (tasks.Address counter.reference) 0 ∷ count_at_hl_steps counter.scalar labels

-- adds a BYTE to the BYTE; the loop ends on overflow
abbrev pub add_byte_steps : Counter → (step : ExpressionNumber) → (end : LabelNumber) → List Planned
add_byte_steps counter step end =
    part (tasks.Byte step) 0
    ∷ part (tasks.Address counter.reference) 0
    ∷ plain (with_memory Add)
    ∷ plain (MovToMemory A)
    ∷ jump (JumpWhere Carry) end
    ∷ []

-- adds DE to the byte at the address in HL; A and the carry show whether the sum exceeds a BYTE
unfoldable pub sum_of_byte_steps : List Planned
sum_of_byte_steps =
    all (copy A E ∷ with_memory Add ∷ MovToMemory A ∷ set A 0 ∷ with_register AddWithCarry D ∷ [])

-- adds an ADDRESS to the BYTE; the loop ends if the whole sum exceeds a BYTE
abbrev pub add_word_to_byte_steps : Counter → (step : ExpressionNumber) → (end : LabelNumber) → List Planned
add_word_to_byte_steps counter step end =
    part (tasks.Word step) 0 ∷ plain Xchg ∷ part (tasks.Address counter.reference) 0
    ∷ (sum_of_byte_steps
    ++ (jump (JumpWhere Carry) end
    ∷ plain (with_register Or A)
    ∷ jump (JumpWhere NotZero) end
    ∷ []))

-- puts the value of the step into DE
abbrev pub step_in_de_steps : Site → (step : ExpressionNumber) → List Planned
step_in_de_steps site step = elim (known site step) [
  | Some place ↦ word (LoadPair De) place ∷ []
  | None ↦ part (tasks.Word step) 0 ∷ plain Xchg ∷ []
]

-- adds DE to the word at the address in HL; the carry shows an overflow
unfoldable pub sum_of_word_steps : List Planned
sum_of_word_steps =
    all
    (load A ∷ with_register Add E ∷ MovToMemory A ∷ Inx Hl
    ∷ load A ∷ with_register AddWithCarry D ∷ MovToMemory A ∷ [])

-- adds DE to the ADDRESS in the frame
abbrev pub add_de_in_frame_steps : Counter → (end : LabelNumber) → List Planned
add_de_in_frame_steps counter end =
    part (tasks.Address counter.reference) 0 ∷ (sum_of_word_steps ++ (jump (JumpWhere Carry) end ∷ []))

-- adds DE to the ADDRESS, in memory or in the frame; the loop ends on overflow
abbrev pub add_de_steps : (place : Option Place) → Counter → (end : LabelNumber) → List Planned
add_de_steps (Some place) counter end =
    LoadWord counter.reference
    ∷ plain (Dad De)
    ∷ word StoreHl place
    ∷ jump (JumpWhere Carry) end
    ∷ []
add_de_steps None counter end = add_de_in_frame_steps counter end

-- adds the step to the ADDRESS
abbrev pub add_word_steps : Site → Counter → (step : ExpressionNumber) → (end : LabelNumber) → List Planned
add_word_steps site counter step end =
    step_in_de_steps site step ++ add_de_steps (counter_place counter) counter end

-- whether the value of an expression is known to fit a BYTE
abbrev pub is_byte : Site → ExpressionNumber → Bool
is_byte site value = elim (number site value) [
  | Some found ↦ nat_lt found 256
  | None ↦ is_byte_type (scalar site value)
]

-- adds a step to a variable of a type
abbrev pub add_steps :
    ScalarType → Site → Counter → (step : ExpressionNumber) → (end : LabelNumber) → List Planned
add_steps Byte site counter step end =
    if is_byte site step then add_byte_steps counter step end else add_word_to_byte_steps counter step end
add_steps Address site counter step end = add_word_steps site counter step end

-- adds the step to the variable; the loop ends on overflow
unfoldable pub step_steps : Site → Counter → (step : Option ExpressionNumber) → LoopLabels → List Planned
step_steps site counter (Some step) labels =
    if counts_by_one site (Some step) then count_steps counter labels
    else add_steps counter.scalar site counter step labels.end
step_steps site counter None labels = count_steps counter labels

-- the place of the test; if it `is_entered`, the code before the loop jumps to it, and so does counting an
-- ADDRESS by 1
unfoldable pub test_label_steps :
    Counter → (step_is_one is_entered : Bool) → (test : LabelNumber) → List Planned
test_label_steps counter step_is_one is_entered test =
    if step_is_one && not (is_byte_type counter.scalar) then mark test ∷ []
    else if is_entered then Meet test ∷ [] else []

-- the jump to the test, if asked for
abbrev pub asked_jump : (is_tested : Bool) → (test : LabelNumber) → List Planned
asked_jump is_tested test = if is_tested then Jumped true ∷ jump Jump test ∷ [] else []

-- the general form of a loop, up to the end of a turn
unfoldable pub general_begin_steps :
    Counter → Test → (is_tested : Bool) → Range → LoopLabels → List Planned
general_begin_steps counter test is_tested list labels =
    asked_jump is_tested labels.test
    ++ (Again labels.turn (facts_of_test counter test) (not is_tested) ∷ ListOf list ∷ [])

-- the general form from there on: the step, and the test
unfoldable pub general_end_steps :
    Site → Counter → Iteration → Test → (is_tested : Bool) → LoopLabels → List Planned
general_end_steps site counter head test is_tested labels =
    step_steps site counter head.step labels
    ++ (test_label_steps counter (counts_by_one site head.step) is_tested labels.test
    ++ (test_steps counter test labels.turn
    ++ (mark labels.end ∷ Reaches true ∷ [])))

-- the general form of a loop: the test is at the end, after the step
unfoldable pub general_steps :
    Site → Counter → Iteration → (is_tested : Bool) → Range → (first : ℕ) → List Planned
general_steps site counter head is_tested list first =
    let labels = loop_labels first in
    let test = test_of site counter head.last in
    general_begin_steps counter test is_tested list labels
    ++ general_end_steps site counter head test is_tested labels

-- whether the variable is counted in place, by 1 to a known bound: a BYTE, or an ADDRESS in memory
abbrev pub counts_in_place : Site → Counter → Iteration → Bool
counts_in_place site counter head =
    (is_byte_type counter.scalar || is_some (counter_place counter)) && counts_by_one site head.step

-- the turns of an iterative DO, unless it is known that it has no turn
abbrev pub turns_steps : Site → Counter → Iteration → (is_tested : Bool) → Range → (first : ℕ) → List Planned
turns_steps site counter head is_tested list first = elim (number site head.last) [
  | Some last ↦
      if counts_in_place site counter head then to_known_steps counter last is_tested list first
      else general_steps site counter head is_tested list first
  | None ↦ general_steps site counter head is_tested list first
]

-- the number of labels that they take
abbrev pub turns_labels : Site → Counter → Iteration → ℕ
turns_labels site counter head = elim (number site head.last) [
  | Some last ↦ if counts_in_place site counter head then 2 else 3
  | None ↦ 3
]

-- the turns, unless it is known that there are none
abbrev pub turns_if_any :
    (has_a_turn : Option Bool) → Site → Counter → Iteration → Range → (first : ℕ) → List Planned
turns_if_any (Some false) site counter head list first = []
turns_if_any (Some true) site counter head list first = turns_steps site counter head false list first
turns_if_any None site counter head list first = turns_steps site counter head true list first

-- the number of labels that they take
abbrev pub labels_if_any : (has_a_turn : Option Bool) → Site → Counter → Iteration → ℕ
labels_if_any (Some false) site counter head = 0
labels_if_any (Some true) site counter head = turns_labels site counter head
labels_if_any None site counter head = turns_labels site counter head

-- an iterative DO; the variable gets its first value even without a turn
abbrev pub iteration_steps : Body → Site → Iteration → Range → (first : ℕ) → List Planned
iteration_steps body site head list first =
    let counter = counter_of site head in
    first_steps body site counter head.first
    ++ turns_if_any (has_a_turn site counter head) site counter head list first

-- the number of labels that it takes
abbrev pub iteration_labels : Site → Iteration → ℕ
iteration_labels site head =
    let counter = counter_of site head in
    labels_if_any (has_a_turn site counter head) site counter head
