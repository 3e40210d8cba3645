-- The code of assignments.
use Rattle.std.specs.Prelude.{ℕ, zero, suc, ◌-◌, Bool, true, false, not, ◌&&◌, ◌||◌, if◌then◌else◌, nat_eq, nat_lt, List, [], ◌∷◌, ◌++◌, Option, Some, None, is_some}
use Rattle.isa8080.specs.declared.instr.Instr.{Instr}
use Rattle.isa8080.specs.declared.instr.Instr.TheVariants.{Dcr, Inr, Inx, MovToMemory, Mvi}
use Rattle.isa8080.specs.declared.instr.Operand.TheVariants.{M}
use Rattle.isa8080.specs.declared.instr.Pair.TheVariants.{Hl}
use Rattle.isa8080.specs.declared.instr.Register.TheVariants.{A}
use Rattle.trees.specs.declared.declaration.ScalarType.{ScalarType}
use Rattle.trees.specs.declared.declaration.ScalarType.TheVariants.{Byte, Address}
use Rattle.trees.specs.declared.expression.BinaryOperator.{BinaryOperator}
use Rattle.trees.specs.declared.expression.BinaryOperator.TheVariants.{Add, Subtract}
use Rattle.treecode.specs.declared.expression.ExpressionForm.{ExpressionForm}
use Rattle.treecode.specs.declared.expression.ExpressionForm.TheVariants.{Binary, Value}
use Rattle.treecode.specs.declared.expression.ExpressionNumber.{ExpressionNumber}
use Rattle.treecode.specs.declared.lists.Range.{Range}
use Rattle.treecode.specs.declared.reference.Reference.{Reference}
use Rattle.treecode.specs.declared.reference.Subscript.{Subscript}
use Rattle.treecode.specs.declared.reference.Target.{Target}
use Rattle.treecode.specs.declared.reference.Target.TheVariants.{Stored, Sent}
use Rattle.treecode.specs.internal.Queries.{source, target as target_at}
use Rattle.steps8080.specs.declared.step.Task.TheVariants as tasks
use Rattle.steps8080.specs.internal.Instructions.{high, low}
use Rattle.steps8080.specs.declared.sites.site.Site.{Site}
use Rattle.steps8080.specs.internal.Site.{expression, scalar}
use Rattle.steps8080.specs.internal.Queries.{is_free, is_quiet, keeps_of_address, location_of, number}
use Rattle.statements8080.specs.declared.assignment.TargetTypes.{TargetTypes}
use Rattle.statements8080.specs.declared.assignment.TargetTypes.TheVariants.{Bytes, Words, Mixed}
use Rattle.statements8080.specs.declared.body.Body.{Body}
use Rattle.statements8080.specs.declared.plan.Planned.{Planned}
use Rattle.statements8080.specs.internal.Plans.{part, plain, steps_from}
use Rattle.statements8080.specs.internal.Bodies.{is_near}
use Rattle.statements8080.specs.internal.SamePlaces.{are_same}

-- whether a target takes a word
abbrev pub takes_word : Target → Bool
takes_word (Stored from Address reference) = true
takes_word target = false

-- the target for a value of this type
abbrev pub from_type : Target → ScalarType → Target
from_type (Stored from to reference) there = Stored there to reference
from_type (Sent from port) there = Sent there port

-- whether evaluating a subscript changes nothing
abbrev pub is_quiet_subscript : Site → Option Subscript → Bool
is_quiet_subscript site (Some subscript) = is_quiet site subscript.index
is_quiet_subscript site None = true

-- whether to compute the address of a BYTE target before its value: the code of the address does not keep A,
-- that of the value changes only A, and the order makes no difference
abbrev pub is_address_first : Site → Reference → (value : ExpressionNumber) → Bool
is_address_first site reference value =
    not (keeps_of_address site reference).a
    && is_free site value
    && is_quiet_subscript site reference.subscript
    && is_quiet_subscript site reference.member_subscript

-- whether an expression is the number 1
abbrev pub is_one : Site → ExpressionNumber → Bool
is_one site value = elim (number site value) [ Some known ↦ nat_eq known 1 | None ↦ false ]

-- whether an expression of a form is the value of a reference
abbrev pub is_value_by : Site → ExpressionForm → Reference → Bool
is_value_by site (Value other) reference = are_same site other reference
is_value_by site form reference = false

-- whether an expression is the value of a reference
abbrev pub is_value_of : Site → ExpressionNumber → Reference → Bool
is_value_of site value reference = elim (expression site value) [
  | Some found ↦ is_value_by site found.form reference
  | None ↦ false
]

-- INR M for a sum, and DCR M for a difference
abbrev pub count_by : BinaryOperator → Option Instr
count_by Add = Some (Inr M)
count_by Subtract = Some (Dcr M)
count_by operator = None

-- INR M or DCR M, if an expression of this form is the BYTE of a reference plus 1 or minus 1
abbrev pub count_of_form : Site → Reference → ExpressionForm → Option Instr
count_of_form site reference (Binary Byte operator left right) =
    if is_value_of site left reference && is_one site right then count_by operator else None
count_of_form site reference form = None

-- INR M or DCR M, if the value is the BYTE itself plus 1 or minus 1
abbrev pub count_of : Site → Reference → (value : ExpressionNumber) → Option Instr
count_of site reference value = elim (expression site value) [
  | Some found ↦ count_of_form site reference found.form
  | None ↦ None
]

-- stores the low byte of a value in a target
abbrev pub from_byte_steps : Target → (value : ExpressionNumber) → List Planned
from_byte_steps target value =
    part (tasks.Byte value) 0 ∷ part (tasks.Store (from_type target Byte) false) 0 ∷ []

-- stores a value in a target as a word
abbrev pub from_word_steps : Target → (value : ExpressionNumber) → List Planned
from_word_steps target value =
    part (tasks.Word value) 0 ∷ part (tasks.Store (from_type target Address) false) 0 ∷ []

-- assigns the low byte of a value to a BYTE; the value is not a number and does not count the BYTE by 1
abbrev pub other_byte_steps : Site → Reference → (value : ExpressionNumber) → List Planned
other_byte_steps site reference value =
    if is_address_first site reference value
    then part (tasks.Address reference) 0 ∷ part (tasks.Byte value) 0 ∷ plain (MovToMemory A) ∷ []
    else from_byte_steps (Stored Byte Byte reference) value

-- assigns the low byte of a value to a BYTE: a number, the BYTE itself plus 1 or minus 1, or any other value
abbrev pub byte_steps : Site → Reference → (value : ExpressionNumber) → List Planned
byte_steps site reference value = elim (number site value) [
  | Some known ↦ part (tasks.Address reference) 0 ∷ plain (Mvi M (low known)) ∷ []
  | None ↦ elim (count_of site reference value) [
    | Some instruction ↦ part (tasks.Address reference) 0 ∷ plain instruction ∷ []
    | None ↦ other_byte_steps site reference value
  ]
]

-- stores a number in an ADDRESS, byte by byte
abbrev pub number_steps : Reference → (known : ℕ) → List Planned
number_steps reference known =
    part (tasks.Address reference) 0
    ∷ plain (Mvi M (low known)) ∷ plain (Inx Hl) ∷ plain (Mvi M (high known)) ∷ []

-- assigns a value that is not a number to an ADDRESS, by the type of the value
abbrev pub other_word_steps : ScalarType → Target → (value : ExpressionNumber) → List Planned
other_word_steps Byte target value = from_byte_steps target value
other_word_steps Address target value = from_word_steps target value

-- assigns a value to an ADDRESS: without its address in HL, as a number, or through HL
abbrev pub word_steps : Body → Site → Target → Reference → (value : ExpressionNumber) → List Planned
word_steps body site target reference value =
    if is_near body (location_of site reference) then from_word_steps target value
    else elim (number site value) [
      | Some known ↦ number_steps reference known
      | None ↦ other_word_steps (source target) target value
    ]

-- assigns a value to one target
abbrev pub single_steps : Body → Site → Target → (value : ExpressionNumber) → List Planned
single_steps body site (Stored from Byte reference) value = byte_steps site reference value
single_steps body site (Stored from Address reference) value =
    word_steps body site (Stored from Address reference) reference value
single_steps body site (Sent from port) value = from_byte_steps (Sent from port) value

-- whether a target takes a byte
abbrev pub takes_byte : Target → Bool
takes_byte target = not (takes_word target)

-- whether one of the `left` targets from an index on passes a test
abbrev pub any_target : (test : Target → Bool) → Body → Range → (index left : ℕ) → Bool
any_target test body targets index zero = false
any_target test body targets index (suc left) =
    (elim (target_at body.tree.now targets index) [ Some found ↦ test found | None ↦ false ])
    || any_target test body targets (suc index) left

-- the types of targets, by whether some take bytes and some take words
abbrev pub types_by : (takes_bytes takes_words : Bool) → TargetTypes
types_by takes_bytes false = Bytes
types_by false true = Words
types_by true true = Mixed

-- the types of the targets
abbrev pub types_of : Body → Range → TargetTypes
types_of body targets =
    types_by
    (any_target takes_byte body targets 0 targets.count)
    (any_target takes_word body targets 0 targets.count)

-- assigns a value to the target at an index, as if it were the only one
abbrev pub each_at : Body → Site → Range → (value : ExpressionNumber) → (index : ℕ) → List Planned
each_at body site targets value index = elim (target_at body.tree.now targets index) [
  | Some found ↦ single_steps body site found value
  | None ↦ []
]

-- assigns a value to each target, as if it were the only one
abbrev pub each_steps : Body → Site → Range → (value : ExpressionNumber) → List Planned
each_steps body site targets value = steps_from (each_at body site targets value) 0 targets.count

-- stores a value that is in A or HL, by its type, in the target at an index; it is wanted after each but the
-- last
abbrev pub store_at : Body → Range → (from : ScalarType) → (index : ℕ) → List Planned
store_at body targets from index = elim (target_at body.tree.now targets index) [
  | Some found ↦ part (tasks.Store (from_type found from) (nat_lt index (targets.count - 1))) 0 ∷ []
  | None ↦ []
]

-- stores a value that is in A or HL, by its type, in all targets
abbrev pub stores_steps : Body → Range → (from : ScalarType) → List Planned
stores_steps body targets from = steps_from (store_at body targets from) 0 targets.count

-- puts a value into A or HL, by the wanted type
abbrev pub value_steps : (value : ExpressionNumber) → (from : ScalarType) → List Planned
value_steps value Byte = part (tasks.Byte value) 0 ∷ []
value_steps value Address = part (tasks.Word value) 0 ∷ []

-- assigns a value, which is evaluated once, to several targets
abbrev pub together_steps : Body → Range → (value : ExpressionNumber) → (from : ScalarType) → List Planned
together_steps body targets value from = value_steps value from ++ stores_steps body targets from

-- assigns a value to several targets, by their types: a number is assigned to mixed ones one by one
abbrev pub several_by : TargetTypes → Body → Site → Range → (value : ExpressionNumber) → List Planned
several_by Bytes body site targets value = together_steps body targets value Byte
several_by Words body site targets value = together_steps body targets value Address
several_by Mixed body site targets value =
    if is_some (number site value) then each_steps body site targets value
    else together_steps body targets value (scalar site value)

-- assigns a value to several targets
abbrev pub several_steps : Body → Site → Range → (value : ExpressionNumber) → List Planned
several_steps body site targets value = several_by (types_of body targets) body site targets value

-- an assignment
abbrev pub assignment_steps : Body → Site → Range → (value : ExpressionNumber) → List Planned
assignment_steps body site targets value =
    if nat_eq targets.count 1 then each_steps body site targets value
    else several_steps body site targets value
