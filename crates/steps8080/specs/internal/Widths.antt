-- Values that fit a byte, and values that are in a register already.
use Rattle.std.specs.Prelude.{ℕ, suc, zero, ◌^◌, ◌+◌, ◌==◌, nat_le, nat_lt, Bool, true, false, ◌||◌, if◌then◌else◌, Option, Some, None, option_map, option_and_then}
use Rattle.trees.specs.declared.declaration.ScalarType.{ScalarType}
use Rattle.trees.specs.declared.declaration.ScalarType.TheVariants as scalars
use Rattle.trees.specs.declared.expression.BinaryOperator.{BinaryOperator}
use Rattle.trees.specs.declared.expression.BinaryOperator.TheVariants.{And, Modulo}
use Rattle.typed_trees.specs.declared.parts.ShiftFunction.{ShiftFunction}
use Rattle.typed_trees.specs.declared.parts.ShiftFunction.TheVariants.{ShiftRight}
use Rattle.treecode.specs.declared.expression.Expression.{Expression}
use Rattle.treecode.specs.declared.expression.ExpressionForm.{ExpressionForm}
use Rattle.treecode.specs.declared.expression.ExpressionForm.TheVariants.{Binary, Conversion, Function, Shift, Value}
use Rattle.treecode.specs.declared.expression.ExpressionNumber.{ExpressionNumber}
use Rattle.treecode.specs.declared.place.Place.{Place}
use Rattle.treecode.specs.declared.reference.Reference.{Reference}
use Rattle.steps8080.specs.internal.Facts.{holds_byte, is_at, no_facts}
use Rattle.steps8080.specs.internal.Instructions.{low}
use Rattle.steps8080.specs.declared.sites.site.Site.{Site}
use Rattle.steps8080.specs.internal.Site.{expression, scalar}
use Rattle.steps8080.specs.internal.Queries.{direct, keeps_of_address, location_of, memory, number, reference_after}

-- the exponent of a number that is one of `count` powers of 2, from the exponent `power` on
abbrev pub power_from : (count power number : ℕ) → Option ℕ
power_from zero power number = None
power_from (suc others) power number =
    if number == 2 ^ power then Some power else power_from others (power + 1) number

-- the exponent of a power of 2, if the number is one
unfoldable pub power_of_two : (number : ℕ) → Option ℕ
power_of_two number = power_from 16 0 number

-- whether a value is known to be a number below `bound`
unfoldable pub is_number_below : Site → ExpressionNumber → (bound : ℕ) → Bool
is_number_below site of bound = elim (number site of) [
  | Some value ↦ nat_lt value bound
  | None ↦ false
]

-- whether one operand shows that an operator on ADDRESS operands gives a value below 256
unfoldable pub result_fits_byte : Site → BinaryOperator → (left right : ExpressionNumber) → Bool
result_fits_byte site And left right = is_number_below site left 256 || is_number_below site right 256
result_fits_byte site Modulo left right = is_number_below site right 257
result_fits_byte site operator left right = false

-- whether a shift of an ADDRESS by a number gives a value below 256
abbrev pub shift_by_fits_byte : ShiftFunction → (count : Option ℕ) → Bool
shift_by_fits_byte ShiftRight (Some count) = nat_le 8 count
shift_by_fits_byte function count = false

-- whether its count shows that a shift of an ADDRESS gives a value below 256
unfoldable pub shift_fits_byte : Site → ShiftFunction → (count : ExpressionNumber) → Bool
shift_fits_byte site function count = shift_by_fits_byte function (number site count)

abbrev pub is_byte : ScalarType → Bool
is_byte scalars.Byte = true
is_byte scalars.Address = false

-- whether its form shows that an ADDRESS expression has a value below 256
unfoldable pub form_fits_byte : Site → ExpressionForm → Bool
form_fits_byte site (Conversion inner) = is_byte (scalar site inner)
form_fits_byte site (Function function operand) = is_byte (scalar site operand)
form_fits_byte site (Binary operands operator left right) = result_fits_byte site operator left right
form_fits_byte site (Shift function value count) = shift_fits_byte site function count
form_fits_byte site form = false

abbrev pub fits_byte_by : Site → ExpressionNumber → ScalarType → ExpressionForm → Bool
fits_byte_by site number scalars.Byte form = true
fits_byte_by site number scalars.Address form =
    is_number_below site number 256 || form_fits_byte site form

-- whether its form shows that an expression has a value below 256, so that its low byte is the whole value
unfoldable pub fits_byte : Site → ExpressionNumber → Bool
fits_byte site number = elim (expression site number) [
  | Some found ↦ fits_byte_by site number found.traits.scalar found.form
  | None ↦ false
]

abbrev pub word_of : ExpressionForm → ScalarType → Option Reference
word_of (Value reference) scalars.Address = Some reference
word_of form scalar = None

-- the part of memory that holds the value of an ADDRESS expression, if it is a reference
unfoldable pub word_in_memory : Site → ExpressionNumber → Option Reference
word_in_memory site number =
    option_and_then (λ (found : Expression). word_of found.form found.traits.scalar) (expression site number)

-- the part of memory that holds the high byte of an ADDRESS expression, if it is a reference
unfoldable pub high_byte_in_memory : Site → ExpressionNumber → Option Reference
high_byte_in_memory site number =
    option_map (λ reference. reference_after reference 1) (word_in_memory site number)

-- the place in memory of the word that an expression refers to, if that place is known
unfoldable pub direct_word : Site → ExpressionNumber → Option Place
direct_word site number = option_and_then (direct site) (word_in_memory site number)

-- the part of memory that holds the low byte of an expression, if the code for its address keeps A
unfoldable pub operand_in_memory : Site → ExpressionNumber → Option Reference
operand_in_memory site number =
    option_and_then
    (λ reference. if (keeps_of_address site reference).a then Some reference else None)
    (memory site number)

-- whether HL holds the word that an expression refers to
unfoldable pub is_word_in_hl : Site → ExpressionNumber → Bool
is_word_in_hl site number = elim (option_and_then (location_of site) (word_in_memory site number)) [
  | Some location ↦ is_at site.facts.word_in_hl location
  | None ↦ false
]

-- whether A, H or L holds the low byte of an expression
unfoldable pub is_byte_in_register : Site → ExpressionNumber → Bool
is_byte_in_register site number = elim (option_and_then (location_of site) (memory site number)) [
  | Some location ↦ holds_byte site.facts location
  | None ↦ false
]

-- the low byte of the value of an expression, if that is known as a number
unfoldable pub low_number : Site → ExpressionNumber → Option ℕ
low_number site of = option_map low (number site of)

-- the exponent, if the value of an expression is known as a power of 2
unfoldable pub power : Site → ExpressionNumber → Option ℕ
power site of = option_and_then power_of_two (number site of)

-- the same site without facts about the registers
abbrev pub unknown : Site → Site
unknown site = record site { facts = no_facts }
