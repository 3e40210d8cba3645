-- The code of operators with the result in HL.
use Rattle.std.specs.Prelude.{ℕ, ◌+◌, ◌-◌, ◌%◌, ◌==◌, nat_lt, Bool, false, ◌&&◌, ◌||◌, List, [], ◌∷◌, ◌++◌, Option, Some, None, if◌then◌else◌}
use Rattle.isa8080.specs.declared.instr.Instr.TheVariants.{AccumulateImmediate, Cma, Dad, Xchg}
use Rattle.isa8080.specs.declared.instr.Operation.{Operation}
use Rattle.isa8080.specs.declared.instr.Operation.TheVariants.{And, ExclusiveOr, Or, Subtract, SubtractWithBorrow}
use Rattle.isa8080.specs.declared.instr.Pair.TheVariants.{De}
use Rattle.isa8080.specs.declared.instr.Register.{Register}
use Rattle.isa8080.specs.declared.instr.Register.TheVariants.{A, D, E, H, L}
use Rattle.asm8080.specs.declared.item.WordForm.TheVariants.{LoadA}
use Rattle.trees.specs.declared.expression.BinaryOperator.{BinaryOperator}
use Rattle.trees.specs.declared.expression.BinaryOperator.TheVariants as operators
use Rattle.treecode.specs.declared.expression.ExpressionNumber.{ExpressionNumber}
use Rattle.treecode.specs.declared.place.Place.{Place}
use Rattle.treecode.specs.declared.place.Place.TheVariants.{Number}
use Rattle.treecode.specs.internal.Homes.{place_after}
use Rattle.steps8080.specs.declared.step.Step.{Step}
use Rattle.steps8080.specs.declared.step.Step.TheVariants.{Plain, Word}
use Rattle.steps8080.specs.declared.step.Task.TheVariants as tasks
use Rattle.steps8080.specs.internal.Instructions.{clear_a, copy, high, low, set, with_register}
use Rattle.steps8080.specs.internal.Step.{extension_steps, part, plain}
use Rattle.steps8080.specs.declared.sites.site.Site.{Site}
use Rattle.steps8080.specs.internal.Queries.{is_free, known, may_exchange, number as number_of}
use Rattle.steps8080.specs.internal.Widths.{direct_word, fits_byte, is_word_in_hl, power}
use Rattle.operands8080.specs.declared.pairs.PairOrder.{PairOrder}
use Rattle.operands8080.specs.declared.pairs.PairOrder.TheVariants.{LeftInHl, RightInHl}
use Rattle.operands8080.specs.internal.Addresses.{addition_steps}
use Rattle.operands8080.specs.internal.Pairs.{pair_order, pair_steps}
use Rattle.operands8080.specs.internal.Products.{product_steps}
use Rattle.exprgen8080.specs.declared.byte_operators.Operands.{Operands}
use Rattle.exprgen8080.specs.declared.word_operators.Simple.{Simple}
use Rattle.exprgen8080.specs.declared.word_operators.Simple.TheVariants as simple
use Rattle.exprgen8080.specs.internal.Halves.{high_byte_steps}
use Rattle.exprgen8080.specs.internal.ByteOperators.{byte_operation_steps, number_of_two, with_number_steps}
use Rattle.exprgen8080.specs.internal.Routines.{computed_product_steps, division_steps}
use Rattle.exprgen8080.specs.internal.WordShifts.{word_shifted_right_steps}

-- puts a sum into HL: a known operand is added last; else one operand is put into DE
unfoldable pub sum_steps : Site → Operands → (pushed : ℕ) → List Step
sum_steps site operands pushed = elim (known site operands.right) [
  | Some place ↦ part (tasks.Word operands.left) pushed ∷ addition_steps place
  | None ↦ elim (known site operands.left) [
    | Some place ↦ part (tasks.Word operands.right) pushed ∷ addition_steps place
    | None ↦ pair_steps site operands.left operands.right false pushed ++ (Plain (Dad De) ∷ [])
  ]
]

-- subtracts HL from a number, with the result in HL
unfoldable pub taken_from_number_steps : (number : ℕ) → List Step
taken_from_number_steps number =
    (if low number == 0 then Plain clear_a else Plain (set A (low number)))
    ∷ plain (
    with_register Subtract L ∷ copy L A
    ∷ set A (high number) ∷ with_register SubtractWithBorrow H ∷ copy H A ∷ [])

-- puts the result of an operation with a word in memory on the left and HL on the right into HL
unfoldable pub with_word_steps : Place → (on_low on_high : Operation) → List Step
with_word_steps place on_low on_high =
    Word LoadA place ∷ Plain (with_register on_low L) ∷ Plain (copy L A)
    ∷ Word LoadA (place_after place 1) ∷ Plain (with_register on_high H) ∷ Plain (copy H A) ∷ []

-- puts the result of an operation with HL and DE into HL; the order is which operand is in HL
unfoldable pub with_pair_steps : PairOrder → (on_low on_high : Operation) → List Step
with_pair_steps LeftInHl on_low on_high = plain (
    copy A L ∷ with_register on_low E ∷ copy L A ∷ copy A H ∷ with_register on_high D ∷ copy H A ∷ [])
with_pair_steps RightInHl on_low on_high = plain (
    copy A E ∷ with_register on_low L ∷ copy L A ∷ copy A D ∷ with_register on_high H ∷ copy H A ∷ [])

-- puts two operands into HL and DE, and the result of an operation with both into HL
unfoldable pub paired_steps : Site → Operands → (on_low on_high : Operation) → (pushed : ℕ) → List Step
paired_steps site operands on_low on_high pushed =
    pair_steps site operands.left operands.right false pushed
    ++ with_pair_steps (pair_order site operands.left operands.right false) on_low on_high

-- the place of the left operand, if it is a word in memory, and may come second
unfoldable pub left_word : Site → Operands → Option Place
left_word site operands = elim (direct_word site operands.left) [
  | Some place ↦ if may_exchange site operands.left operands.right then Some place else None
  | None ↦ None
]

-- puts a difference into HL: a number on the right is added as 65536 minus that number
unfoldable pub difference_steps : Site → Operands → (pushed : ℕ) → List Step
difference_steps site operands pushed = elim (number_of site operands.right) [
  | Some number ↦ part (tasks.Word operands.left) pushed ∷ addition_steps (Number ((65536 - number) % 65536))
  | None ↦ elim (number_of site operands.left) [
    | Some number ↦ part (tasks.Word operands.right) pushed ∷ taken_from_number_steps number
    | None ↦ elim (left_word site operands) [
      | Some place ↦
          part (tasks.Word operands.right) pushed ∷ with_word_steps place Subtract SubtractWithBorrow
      | None ↦ paired_steps site operands Subtract SubtractWithBorrow pushed
    ]
  ]
]

-- an operation on a register of HL with a number, through A
unfoldable pub half_through_a_steps : Operation → Register → (number : ℕ) → List Step
half_through_a_steps operation register number =
    plain (copy A register ∷ AccumulateImmediate operation number ∷ copy register A ∷ [])

-- an operation on a byte of HL with a number, in the shortest form
unfoldable pub half_steps : Operation → Register → (number : ℕ) → List Step
half_steps And register number =
    if number == 255 then []
    else if number == 0 then Plain (set register 0) ∷ []
    else half_through_a_steps And register number
half_steps Or register number =
    if number == 0 then []
    else if number == 255 then Plain (set register 255) ∷ []
    else half_through_a_steps Or register number
half_steps ExclusiveOr register number =
    if number == 0 then []
    else if number == 255 then plain (copy A register ∷ Cma ∷ copy register A ∷ [])
    else half_through_a_steps ExclusiveOr register number
half_steps operation register number = half_through_a_steps operation register number

-- ANDs the high byte of a value with a number, as the high byte of HL, with the low byte 0
unfoldable pub high_half_steps : Site → ExpressionNumber → (number pushed : ℕ) → List Step
high_half_steps site value number pushed =
    high_byte_steps site value pushed
    ++ (if number == 255 then [] else Plain (AccumulateImmediate And number) ∷ [])
    ++ plain (copy H A ∷ set L 0 ∷ [])

-- puts the result of an operation with both bytes of a value and a number into HL
unfoldable pub both_halves_steps : Operation → ExpressionNumber → (number pushed : ℕ) → List Step
both_halves_steps operation value number pushed =
    part (tasks.Word value) pushed
    ∷ half_steps operation L (low number)
    ++ half_steps operation H (high number)

-- puts AND of a value and a number into HL: a byte of the number that is 0 clears that byte of the value
unfoldable pub and_with_number_steps : Site → ExpressionNumber → (number pushed : ℕ) → List Step
and_with_number_steps site value number pushed =
    if nat_lt number 256 then with_number_steps And value (low number) pushed ++ extension_steps
    else if low number == 0 then high_half_steps site value (high number) pushed
    else both_halves_steps And value number pushed

-- puts AND, OR or XOR of a value and a number into HL
unfoldable pub logic_with_number_steps : Site → Operation → ExpressionNumber → (number pushed : ℕ) → List Step
logic_with_number_steps site And value number pushed = and_with_number_steps site value number pushed
logic_with_number_steps site operation value number pushed = both_halves_steps operation value number pushed

-- puts OR or XOR of a value and a byte, with code that changes only A, into HL
unfoldable pub logic_with_byte_steps : Operation → (value byte : ExpressionNumber) → (pushed : ℕ) → List Step
logic_with_byte_steps operation value byte pushed =
    part (tasks.Word value) pushed ∷ part (tasks.Byte byte) pushed
    ∷ Plain (with_register operation L) ∷ Plain (copy L A) ∷ []

-- the operand as one with code that does not change HL, if it is
unfoldable pub simple_operand : Site → ExpressionNumber → Option Simple
simple_operand site expression =
    if fits_byte site expression && is_free site expression then Some (simple.Byte expression)
    else elim (direct_word site expression) [
      | Some place ↦ Some (simple.Word place)
      | None ↦ None
    ]

-- puts AND, OR or XOR of a value and a simple operand into HL
unfoldable pub logic_with_simple_steps : Operation → ExpressionNumber → Simple → (pushed : ℕ) → List Step
logic_with_simple_steps operation value (simple.Byte byte) pushed =
    logic_with_byte_steps operation value byte pushed
logic_with_simple_steps operation value (simple.Word place) pushed =
    part (tasks.Word value) pushed ∷ with_word_steps place operation operation

-- the left operand, if it is simple, and may come second
unfoldable pub exchanged_operand : Site → Operands → Option Simple
exchanged_operand site operands =
    if may_exchange site operands.left operands.right then simple_operand site operands.left else None

-- the operand that is evaluated first, and the other one, by which of them is simple
unfoldable pub first_and_simple :
    Site → Operands → (right exchanged : Option Simple) → Option (ExpressionNumber × Simple)
first_and_simple site operands (Some operand) (Some exchanged) =
    if is_word_in_hl site operands.right then Some (operands.right, exchanged)
    else Some (operands.left, operand)
first_and_simple site operands (Some operand) None = Some (operands.left, operand)
first_and_simple site operands None (Some exchanged) = Some (operands.right, exchanged)
first_and_simple site operands None None = None

-- the operand of AND, OR or XOR that is evaluated first, and the other one, which is simple
unfoldable pub with_simple : Site → Operands → Option (ExpressionNumber × Simple)
with_simple site operands =
    first_and_simple site operands (simple_operand site operands.right) (exchanged_operand site operands)

-- whether AND, OR or XOR of two operands fits a byte
unfoldable pub is_of_bytes : Site → Operation → Operands → Bool
is_of_bytes site And operands = fits_byte site operands.left || fits_byte site operands.right
is_of_bytes site operation operands = false

-- puts AND, OR or XOR of operands that are not numbers into HL
unfoldable pub computed_logic_steps : Site → Operation → Operands → (pushed : ℕ) → List Step
computed_logic_steps site operation operands pushed =
    if is_of_bytes site operation operands
    then byte_operation_steps site operation operands pushed ++ extension_steps
    else elim (with_simple site operands) [
      | Some chosen ↦ logic_with_simple_steps operation chosen.0 chosen.1 pushed
      | None ↦ paired_steps site operands operation operation pushed
    ]

-- puts AND, OR or XOR into HL
unfoldable pub logic_steps : Site → Operation → Operands → (pushed : ℕ) → List Step
logic_steps site operation operands pushed = elim (number_of site operands.right) [
  | Some number ↦ logic_with_number_steps site operation operands.left number pushed
  | None ↦ elim (number_of site operands.left) [
    | Some number ↦ logic_with_number_steps site operation operands.right number pushed
    | None ↦ computed_logic_steps site operation operands pushed
  ]
]

-- puts a product into HL
unfoldable pub product_word_steps : Site → Operands → (pushed : ℕ) → List Step
product_word_steps site operands pushed = elim (number_of site operands.right) [
  | Some number ↦ product_steps operands.left number pushed
  | None ↦ elim (number_of site operands.left) [
    | Some number ↦ product_steps operands.right number pushed
    | None ↦ computed_product_steps site operands pushed
  ]
]

-- puts a quotient into HL
unfoldable pub quotient_steps : Site → Operands → (pushed : ℕ) → List Step
quotient_steps site operands pushed = elim (power site operands.right) [
  | Some count ↦ word_shifted_right_steps site operands.left count pushed
  | None ↦ division_steps site operands pushed
]

-- puts a remainder into HL; for a power of 2, masks the bits below it
unfoldable pub remainder_steps : Site → Operands → (pushed : ℕ) → List Step
remainder_steps site operands pushed = elim (number_of_two site operands.right) [
  | Some number ↦ logic_with_number_steps site And operands.left ((number + 65535) % 65536) pushed
  | None ↦ division_steps site operands pushed ++ (Plain Xchg ∷ [])
]

-- puts the result of an operator with two ADDRESS operands into HL; the other operators give a BYTE
unfoldable pub word_binary_steps : Site → BinaryOperator → Operands → (pushed : ℕ) → List Step
word_binary_steps site operators.Add operands pushed = sum_steps site operands pushed
word_binary_steps site operators.Subtract operands pushed = difference_steps site operands pushed
word_binary_steps site operators.And operands pushed = logic_steps site And operands pushed
word_binary_steps site operators.Or operands pushed = logic_steps site Or operands pushed
word_binary_steps site operators.Xor operands pushed = logic_steps site ExclusiveOr operands pushed
word_binary_steps site operators.Multiply operands pushed = product_word_steps site operands pushed
word_binary_steps site operators.Divide operands pushed = quotient_steps site operands pushed
word_binary_steps site operators.Modulo operands pushed = remainder_steps site operands pushed
word_binary_steps site operator operands pushed = []
