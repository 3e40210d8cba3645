-- Values of expressions in A and in HL.
use Rattle.measure_laws.proofs.Prelude.{ap, arith, refl, true, ℕ, ◌*◌, ◌+◌, ◌≡◌, ScalarType, Negate, Not, nodes_of, place_number, source_of, Expression, ExpressionForm, ExpressionNumber, Range, Static, Place, Reference, low, known, memory, expression, scalar, byte_in_memory_steps, extended_byte_in_memory_steps, byte_form_steps, byte_function_steps, byte_of_two_steps, byte_steps, byte_unary_steps, called_byte_steps, known_byte_steps, low_of_value_steps, computed_word_steps, extended_byte_steps, word_form_steps, word_of_two_steps, word_steps, weight_in_target, beside_at, beside, given, indices, more_for_byte, more_for_word, type_at, byte_taken}
use Rattle.trees.proofs.TakenBytes.{by_byte}
use Rattle.trees.specs.declared.declaration.ScalarType.TheVariants as scalars
use Rattle.treecode.specs.declared.expression.ExpressionForm.TheVariants as forms
use Rattle.measure_laws.specs.internal.Footprints.{AreGiven, Footprint, Ground, HasParts, IsOperand}
use Rattle.measure_laws.proofs.{Footprints.Addresses.{byte_in_memory_footprint, extended_byte_in_memory_footprint, location_address_footprint, word_in_memory_footprint}, Footprints.Bytes.{byte_binary_footprint, byte_number_footprint, byte_shift_footprint, high_byte_footprint}, Footprints.Calls.{call_footprint, embedded_footprint}, Footprints.Found.{IsInMemory, is_in_memory, of_found}, Footprints.Joining.{after_part, by_finding, counted, joined, operand_from_below, within}, Footprints.Trees.{has_parts}, Footprints.Words.{word_binary_footprint, word_shift_footprint, word_unary_footprint}, Footprints.Weights.{type_found}}

known_byte_footprint :
    {at : Ground} {free : ℕ} (place : Place)
    → Footprint at free (known_byte_steps place) free 4
unfolding known_byte_steps
known_byte_footprint place =
    by_finding (place_number place)
    (λ number there. within 2 (byte_number_footprint (low number)) (omega arith))
    (λ none. counted refl (omega arith))

low_value_footprint :
    {at : Ground} {free : ℕ} (scalar : ScalarType)
    → Footprint at free (low_of_value_steps scalar) free 1
unfolding low_of_value_steps
low_value_footprint scalars.Byte = counted refl (omega arith)
low_value_footprint scalars.Address = counted refl (omega arith)

called_footprint :
    {at : Ground} {free : ℕ} (number : ExpressionNumber) (procedure : ℕ) (arguments : Range) (pushed : ℕ)
    → AreGiven at free procedure arguments
    → Footprint at free (called_byte_steps at.site number procedure arguments pushed) free
    (4 + 128 * given at.site arguments)
unfolding called_byte_steps
called_footprint {at = at} number procedure arguments pushed are =
    joined (3 + 128 * given at.site arguments) 1 (call_footprint procedure arguments pushed are)
    (low_value_footprint (scalar at.site number)) (omega arith)

byte_form_footprint :
    {at : Ground} {free : ℕ} (number : ExpressionNumber) (form : ExpressionForm) (pushed : ℕ)
    → IsOperand at free number → HasParts at free number form
    → Footprint at free (byte_form_steps at.site number form pushed) free
    (72 + more_for_byte (type_at at.site number) + 128 * beside at.site number)
unfolding byte_form_steps byte_function_steps byte_unary_steps byte_of_two_steps
byte_form_footprint number (forms.Conversion inner) pushed is has =
    counted (has.one, refl) (omega (arith, has.same))
byte_form_footprint {at = at} {free = free} number (forms.Function function operand) pushed is has =
    by_byte
    (λ steps. Footprint at free steps free
    (72 + more_for_byte (type_at at.site number) + 128 * beside at.site number))
    (byte_taken function) _ _
    (λ _. counted (operand_from_below has.one, refl) (omega (arith, has.same)))
    (λ _. within (77 + 128 * beside at.site operand) (high_byte_footprint operand pushed has.one)
    (omega (arith, has.same)))
byte_form_footprint number (forms.Unary Not operand) pushed is has =
    counted (operand_from_below has.one, refl) (omega (arith, has.same))
byte_form_footprint number (forms.Unary Negate operand) pushed is has =
    counted (operand_from_below has.one, refl) (omega (arith, has.same))
byte_form_footprint {at = at} number (forms.Binary operands operator left right) pushed is has =
    byte_binary_footprint number operator (record { left = left; right = right }) pushed is has
byte_form_footprint number (forms.Shift function value count) pushed is has =
    byte_shift_footprint number (record { function = function; value = value; count = count }) pushed is has
byte_form_footprint {at = at} number (forms.Assignment target value) pushed is has =
    joined
    (140 + 128 * weight_in_target (beside_at (nodes_of at.site.tree.now)) target + 128 * beside at.site value)
    1 (embedded_footprint target value true pushed has.to has.one) (low_value_footprint (source_of target))
    (omega (arith, has.same))
byte_form_footprint {at = at} number (forms.Call procedure arguments) pushed is has =
    within (4 + 128 * given at.site arguments) (called_footprint number procedure arguments pushed has.are)
    (omega (arith, has.same))
byte_form_footprint number (forms.Input port) pushed is has = counted refl (omega arith)
byte_form_footprint number (forms.Location reference) pushed is has =
    counted (has.place, refl) (omega (arith, has.same))
byte_form_footprint number form pushed is has = counted refl (omega arith)

-- the low byte of an expression in A
pub byte_footprint :
    {at : Ground} {free : ℕ} (number : ExpressionNumber) (pushed : ℕ)
    → IsOperand at free number
    → Footprint at free (byte_steps at.site number pushed) free
    (72 + more_for_byte (type_at at.site number) + 128 * beside at.site number)
unfolding byte_steps
byte_footprint {at = at} {free = free} number pushed is =
    by_finding (known at.site number) (λ place there. within 4 (known_byte_footprint place) (omega arith))
    (λ unknown. by_finding (memory at.site number)
    (λ reference there. in_memory reference
    (of_found (IsInMemory at free number) (is_in_memory at free number is) there))
    (λ elsewhere. by_finding (expression at.site number)
    (λ found there. byte_form_footprint number found.form pushed is (has_parts at is there))
    (λ none. counted refl (omega arith))))
  where
    in_memory :
        (reference : Reference)
        → IsInMemory at free number reference
        → Footprint at free (byte_in_memory_steps at.site reference pushed) free
        (72 + more_for_byte (type_at at.site number) + 128 * beside at.site number)
    in_memory reference has =
        within (33 + 128 * indices at.site reference) (byte_in_memory_footprint reference pushed has.place)
        (omega (arith, has.small))

extended_footprint :
    {at : Ground} {free : ℕ} (number : ExpressionNumber) (pushed : ℕ)
    → IsOperand at free number → type_at at.site number ≡ scalars.Byte
    → Footprint at free (extended_byte_steps at.site number pushed) free (75 + 128 * beside at.site number)
unfolding extended_byte_steps
extended_footprint {at = at} {free = free} number pushed is byte =
    by_finding (memory at.site number)
    (λ reference there. in_memory reference
    (of_found (IsInMemory at free number) (is_in_memory at free number is) there))
    (λ none. counted (is, refl) (omega (arith, ap more_for_byte byte)))
  where
    in_memory :
        (reference : Reference)
        → IsInMemory at free number reference
        → Footprint at free (extended_byte_in_memory_steps at.site reference pushed) free
        (75 + 128 * beside at.site number)
    in_memory reference has =
        within (35 + 128 * indices at.site reference)
        (extended_byte_in_memory_footprint reference pushed has.place) (omega (arith, has.small))

word_form_footprint :
    {at : Ground} {free : ℕ} (number : ExpressionNumber) (form : ExpressionForm) (pushed : ℕ)
    → HasParts at free number form
    → Footprint at free (word_form_steps at.site form pushed) free (72 + 128 * beside at.site number)
unfolding word_form_steps word_of_two_steps
word_form_footprint {at = at} number (forms.Value reference) pushed has =
    within (36 + 128 * indices at.site reference) (word_in_memory_footprint reference pushed has.place)
    (omega (arith, has.same))
word_form_footprint number (forms.Location reference) pushed has =
    counted (has.place, refl) (omega (arith, has.same))
word_form_footprint number (forms.Conversion inner) pushed has =
    counted (has.one, refl) (omega (arith, has.same))
word_form_footprint number (forms.Function function operand) pushed has =
    counted (operand_from_below has.one, refl) (omega (arith, has.same))
word_form_footprint number (forms.Unary operator operand) pushed has =
    after_part 7 (operand_from_below has.one) (word_unary_footprint operator) (omega (arith, has.same))
word_form_footprint {at = at} number (forms.Binary operands operator left right) pushed has =
    within (162 + 128 * beside at.site left + 128 * beside at.site right)
    (word_binary_footprint operator (record { left = left; right = right }) pushed has.one has.two)
    (omega (arith, has.same))
word_form_footprint {at = at} number (forms.Shift function value count) pushed has =
    within (157 + 128 * beside at.site value + 128 * beside at.site count)
    (word_shift_footprint (record { function = function; value = value; count = count })
    pushed has.one has.two)
    (omega (arith, has.same))
word_form_footprint {at = at} number (forms.Assignment target value) pushed has =
    within
    (140 + 128 * weight_in_target (beside_at (nodes_of at.site.tree.now)) target + 128 * beside at.site value)
    (embedded_footprint target value true pushed has.to has.one) (omega (arith, has.same))
word_form_footprint {at = at} number (forms.Call procedure arguments) pushed has =
    within (3 + 128 * given at.site arguments) (call_footprint procedure arguments pushed has.are)
    (omega (arith, has.same))
word_form_footprint number form pushed has = counted refl (omega arith)

computed_word_footprint :
    {at : Ground} {free : ℕ} (number : ExpressionNumber) (found : Expression) (pushed : ℕ)
    → IsOperand at free number → HasParts at free number found.form
    → type_at at.site number ≡ found.traits.scalar
    → Footprint at free (computed_word_steps at.site number found pushed) free
    (72 + more_for_word (type_at at.site number) + 128 * beside at.site number)
unfolding computed_word_steps
computed_word_footprint {at = at} {free = free} number found pushed is has same = by found.traits.scalar same
  where
    by : (scalar : ScalarType) → type_at at.site number ≡ scalar
        → Footprint at free (elim scalar [
          | scalars.Byte ↦ extended_byte_steps at.site number pushed
          | scalars.Address ↦ word_form_steps at.site found.form pushed
        ]) free (72 + more_for_word (type_at at.site number) + 128 * beside at.site number)
    by scalars.Byte byte =
        within (75 + 128 * beside at.site number) (extended_footprint number pushed is byte)
        (omega (arith, ap more_for_word byte))
    by scalars.Address address =
        within (72 + 128 * beside at.site number) (word_form_footprint number found.form pushed has)
        (omega arith)

-- the value of an expression in HL
pub word_footprint :
    {at : Ground} {free : ℕ} (number : ExpressionNumber) (pushed : ℕ)
    → IsOperand at free number
    → Footprint at free (word_steps at.site number pushed) free
    (72 + more_for_word (type_at at.site number) + 128 * beside at.site number)
unfolding word_steps
word_footprint {at = at} number pushed is =
    by_finding (known at.site number)
    (λ place there. within 4 (location_address_footprint at.site (Static place) pushed) (omega arith))
    (λ unknown. by_finding (expression at.site number)
    (λ found there. computed_word_footprint number found pushed is (has_parts at is there)
    (type_found at.site number found there)) (λ none. counted refl (omega arith)))
