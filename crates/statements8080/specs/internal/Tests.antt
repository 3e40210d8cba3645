-- The test of an iterative DO: whether its variable is at most its bound.
use Rattle.std.specs.Prelude.{ℕ, ◌+◌, ◌%◌, if◌then◌else◌, nat_eq, nat_le, List, [], ◌∷◌, ◌++◌, Option, Some, None}
use Rattle.isa8080.specs.declared.instr.Condition.TheVariants.{Carry, NoCarry}
use Rattle.isa8080.specs.declared.instr.Instr.TheVariants.{AccumulateImmediate, Inx, Xchg}
use Rattle.isa8080.specs.declared.instr.Operation.TheVariants.{Compare, Subtract, SubtractWithBorrow}
use Rattle.isa8080.specs.declared.instr.Pair.TheVariants.{Hl}
use Rattle.isa8080.specs.declared.instr.Register.TheVariants.{A, D, E, H, L}
use Rattle.asm8080.specs.declared.item.WordForm.TheVariants.{Jump, JumpWhere, LoadA}
use Rattle.trees.specs.declared.declaration.ScalarType.{ScalarType}
use Rattle.trees.specs.declared.declaration.ScalarType.TheVariants.{Byte, Address}
use Rattle.treecode.specs.declared.expression.ExpressionForm.{ExpressionForm}
use Rattle.treecode.specs.declared.expression.ExpressionForm.TheVariants.{Value}
use Rattle.treecode.specs.declared.expression.ExpressionNumber.{ExpressionNumber}
use Rattle.treecode.specs.declared.place.Place.{Place}
use Rattle.treecode.specs.internal.Homes.{place_after}
use Rattle.steps8080.specs.declared.facts.Facts.{Facts}
use Rattle.steps8080.specs.declared.step.LabelNumber.{LabelNumber}
use Rattle.steps8080.specs.declared.step.Task.TheVariants as tasks
use Rattle.steps8080.specs.internal.Facts.{no_facts}
use Rattle.steps8080.specs.internal.Instructions.{copy, high, low, with_memory, with_register}
use Rattle.steps8080.specs.declared.sites.site.Site.{Site}
use Rattle.steps8080.specs.internal.Site.{expression, scalar}
use Rattle.steps8080.specs.internal.Queries.{direct, number}
use Rattle.statements8080.specs.declared.bound.Test.{Test}
use Rattle.statements8080.specs.declared.bound.Test.TheVariants as tests
use Rattle.statements8080.specs.declared.iteration.Counter.{Counter}
use Rattle.statements8080.specs.declared.plan.Planned.{Planned}
use Rattle.statements8080.specs.declared.plan.Planned.TheVariants.{LoadByte, LoadWord}
use Rattle.statements8080.specs.internal.Plans.{all, jump, part, plain, word}
use Rattle.statements8080.specs.internal.Counters.{address_fact, counter_place, word_fact}

-- the test for a known bound: `Always` if no value of the type is above it
abbrev pub known_test : ScalarType → (last : ℕ) → Test
known_test Byte last = if nat_le 255 last then tests.Always else tests.ByteBelow (last + 1)
known_test Address last = if nat_le 65535 last then tests.Always else tests.WordBelow (last + 1)

-- the place in memory of the ADDRESS that an expression of this form and type reads
abbrev pub word_of_form : Site → ExpressionForm → ScalarType → Option Place
word_of_form site (Value reference) Address = direct site reference
word_of_form site form other = None

-- the place in memory of the ADDRESS that an expression reads, if it reads one
abbrev pub word_at : Site → ExpressionNumber → Option Place
word_at site value = elim (expression site value) [
  | Some found ↦ word_of_form site found.form found.traits.scalar
  | None ↦ None
]

-- the test of an ADDRESS at a place, if it is not in the frame, with a bound that may be at a place too
abbrev pub word_test_by : (place last_place : Option Place) → (last : ExpressionNumber) → Test
word_test_by (Some place) (Some last_place) last = tests.WordWithPlace last_place
word_test_by (Some place) None last = tests.Word last
word_test_by None last_place last = tests.FrameWord last

-- the test of an ADDRESS with a bound that is not known
abbrev pub word_test : Site → Counter → (last : ExpressionNumber) → Test
word_test site counter last = word_test_by (counter_place counter) (word_at site last) last

-- the test for a bound that is not known, by the types of the variable and of the bound
abbrev pub computed_test : (variable bound : ScalarType) → Site → Counter → (last : ExpressionNumber) → Test
computed_test Byte Byte site counter last = tests.Byte last
computed_test Byte Address site counter last = tests.ByteWithWord last
computed_test Address bound site counter last = word_test site counter last

-- the way to test whether the variable is at most the bound
unfoldable pub test_of : Site → Counter → (last : ExpressionNumber) → Test
test_of site counter last = elim (number site last) [
  | Some known ↦ known_test counter.scalar known
  | None ↦ computed_test counter.scalar (scalar site last) site counter last
]

-- the facts at the target of the jump of the test
abbrev pub facts_of_test : Counter → Test → Facts
facts_of_test counter tests.Always = no_facts
facts_of_test counter (tests.FrameWord last) = no_facts
facts_of_test counter (tests.ByteBelow bound) = record no_facts { byte_in_a = counter.location }
facts_of_test counter (tests.Byte last) = address_fact counter
facts_of_test counter (tests.ByteWithWord last) = address_fact counter
facts_of_test counter (tests.WordBelow bound) = word_fact counter
facts_of_test counter (tests.WordWithPlace place) = word_fact counter
facts_of_test counter (tests.Word last) = word_fact counter

-- sets the carry if HL is less than a number, and clears it otherwise
abbrev pub less_steps : (bound : ℕ) → List Planned
less_steps bound =
    if nat_eq (bound % 256) 0 then all (copy A H ∷ AccumulateImmediate Compare (high bound) ∷ [])
    else all
    (copy A L ∷ AccumulateImmediate Subtract (low bound)
    ∷ copy A H ∷ AccumulateImmediate SubtractWithBorrow (high bound) ∷ [])

-- sets the carry if the word at a place is less than HL, and clears it otherwise
abbrev pub place_below_steps : Place → List Planned
place_below_steps place =
    word LoadA place ∷ plain (with_register Subtract L)
    ∷ word LoadA (place_after place 1) ∷ plain (with_register SubtractWithBorrow H) ∷ []

-- sets the carry if the bound is less than the ADDRESS in memory, and clears it otherwise
abbrev pub word_below_steps : Counter → (last : ExpressionNumber) → List Planned
word_below_steps counter last =
    part (tasks.Word last) 0 ∷ plain Xchg ∷ LoadWord counter.reference
    ∷ all
    (copy A E ∷ with_register Subtract L
    ∷ copy A D ∷ with_register SubtractWithBorrow H ∷ [])

-- sets the carry if the bound is less than the ADDRESS in the frame, and clears it otherwise
abbrev pub frame_word_below_steps : Counter → (last : ExpressionNumber) → List Planned
frame_word_below_steps counter last =
    part (tasks.Word last) 0 ∷ plain Xchg ∷ part (tasks.Address counter.reference) 0
    ∷ all
    (copy A E ∷ with_memory Subtract ∷ Inx Hl
    ∷ copy A D ∷ with_memory SubtractWithBorrow ∷ [])

-- sets the carry if the bound, an ADDRESS, is less than the BYTE, and clears it otherwise
abbrev pub byte_below_word_steps : Counter → (last : ExpressionNumber) → List Planned
byte_below_word_steps counter last =
    part (tasks.Word last) 0 ∷ plain Xchg ∷ part (tasks.Address counter.reference) 0
    ∷ all
    (copy A E ∷ with_memory Subtract
    ∷ copy A D ∷ AccumulateImmediate SubtractWithBorrow 0 ∷ [])

-- sets the carry if the bound, a BYTE, is less than the BYTE, and clears it otherwise
abbrev pub byte_below_steps : Counter → (last : ExpressionNumber) → List Planned
byte_below_steps counter last =
    part (tasks.Byte last) 0 ∷ part (tasks.Address counter.reference) 0 ∷ plain (with_memory Compare) ∷ []

-- a jump to a label if the variable is at most the bound
unfoldable pub test_steps : Counter → Test → (turn : LabelNumber) → List Planned
test_steps counter tests.Always turn = jump Jump turn ∷ []
-- the variable is less than a number
test_steps counter (tests.ByteBelow bound) turn =
    LoadByte counter.reference
    ∷ plain (AccumulateImmediate Compare (low bound))
    ∷ jump (JumpWhere Carry) turn
    ∷ []
test_steps counter (tests.WordBelow bound) turn =
    LoadWord counter.reference ∷ (less_steps bound ++ (jump (JumpWhere Carry) turn ∷ []))
-- the bound is not less than the variable
test_steps counter (tests.Byte last) turn =
    byte_below_steps counter last ++ (jump (JumpWhere NoCarry) turn ∷ [])
test_steps counter (tests.ByteWithWord last) turn =
    byte_below_word_steps counter last ++ (jump (JumpWhere NoCarry) turn ∷ [])
test_steps counter (tests.WordWithPlace place) turn =
    LoadWord counter.reference ∷ (place_below_steps place ++ (jump (JumpWhere NoCarry) turn ∷ []))
test_steps counter (tests.Word last) turn =
    word_below_steps counter last ++ (jump (JumpWhere NoCarry) turn ∷ [])
test_steps counter (tests.FrameWord last) turn =
    frame_word_below_steps counter last ++ (jump (JumpWhere NoCarry) turn ∷ [])
