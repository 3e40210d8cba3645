-- Values of expressions in A and in HL.
use Rattle.exprgen8080.proofs.Prelude.{◌≡◌, ◌<◌, ◌∙◌, Expression, ExpressionForm, ExpressionNumber, Negate, None, Not, Option, Place, Range, Reference, ScalarType, Site, Some, Static, ap, byte_form_steps, byte_function_steps, byte_in_memory_steps, byte_of_two_steps, byte_steps, byte_taken, byte_unary_steps, called_byte_steps, computed_word_steps, expression, extended_byte_in_memory_steps, extended_byte_steps, known, known_byte_steps, low, low_of_value_steps, memory, place_number, rank, refl, scalar, source, true, word_form_steps, word_of_two_steps, word_steps, ℕ}
use Rattle.trees.proofs.TakenBytes.{by_byte}
use Rattle.trees.specs.declared.declaration.ScalarType.TheVariants as scalars
use Rattle.treecode.specs.declared.expression.ExpressionForm.TheVariants as forms
use Rattle.steps8080.specs.declared.step.Task.TheVariants as tasks
use Rattle.steps8080.proofs.SiteNames.{IsOwn, known_is_own, static_is_own}
use Rattle.exprgen8080.proofs.Ranks.{Joining.{Falls, HasLowParts, IsPlaced, after_part, by_finding, falls, joined, of_found}, Trees.{AreGiven, HasParts, has_parts}, Found.{is_in_memory}, Addresses.{byte_in_memory_fall, extended_byte_in_memory_fall, location_address_fall, word_in_memory_fall}, Bytes.{byte_binary_fall, byte_number_fall, byte_shift_fall, high_byte_fall}, Words.{word_binary_fall, word_shift_fall, word_unary_fall}, Calls.{call_fall, embedded_fall}}

known_byte_fall :
    {site : Site} {limit : ℕ} (place : Place)
    → IsOwn site.tree.now place
    → Falls site limit (known_byte_steps place)
unfolding known_byte_steps
known_byte_fall place own =
    by_finding (place_number place)
    (λ number there. (byte_number_fall (low number)))
    (λ none. falls (own, tt))

low_value_fall :
    {site : Site} {limit : ℕ} (scalar : ScalarType)
    → Falls site limit (low_of_value_steps scalar)
unfolding low_of_value_steps
low_value_fall scalars.Byte = falls tt
low_value_fall scalars.Address = falls tt

called_fall :
    {site : Site} {limit : ℕ} (number : ExpressionNumber)
    (procedure : ℕ) (arguments : Range) (pushed : ℕ)
    → AreGiven site.tree.now limit arguments
    → Falls site limit (called_byte_steps site number procedure arguments pushed)
unfolding called_byte_steps
called_fall {site = site} number procedure arguments pushed are =
    joined (call_fall procedure arguments pushed are) (low_value_fall (scalar site number))

byte_form_fall :
    {site : Site} {limit : ℕ} (number : ExpressionNumber)
    (form : ExpressionForm) (pushed : ℕ)
    → HasLowParts site.tree.now limit number
    → (scalar site number ≡ scalars.Address → rank site.tree.now (tasks.Word number) < limit)
    → HasParts site.tree.now limit form
    → Falls site limit (byte_form_steps site number form pushed)
unfolding byte_form_steps byte_function_steps byte_unary_steps byte_of_two_steps
byte_form_fall number (forms.Conversion inner) pushed is own has = falls (has, tt)
byte_form_fall {site = site} {limit = limit} number (forms.Function function operand) pushed is own has =
    by_byte (λ steps. Falls site limit steps) (byte_taken function) _ _ (λ _. falls (has, tt))
    (λ _. high_byte_fall operand pushed has)
byte_form_fall number (forms.Unary Not operand) pushed is own has = falls (has, tt)
byte_form_fall number (forms.Unary Negate operand) pushed is own has = falls (has, tt)
byte_form_fall {site = site} number (forms.Binary operands operator left right) pushed is own has =
    byte_binary_fall number operator (record { left = left; right = right }) pushed is has
byte_form_fall number (forms.Shift function value count) pushed is own has =
    byte_shift_fall number (record { function = function; value = value; count = count })
    pushed own has.0 has.1
byte_form_fall {site = site} number (forms.Assignment target value) pushed is own has =
    joined (embedded_fall target value true pushed has.0 has.1) (low_value_fall (source target))
byte_form_fall {site = site} number (forms.Call procedure arguments) pushed is own has =
    called_fall number procedure arguments pushed has
byte_form_fall number (forms.Input port) pushed is own has = falls tt
byte_form_fall number (forms.Number value) pushed is own has = falls tt
byte_form_fall number (forms.List offset) pushed is own has = falls tt
byte_form_fall number (forms.Value reference) pushed is own has = falls tt
byte_form_fall number (forms.Location reference) pushed is own has = falls (has, tt)

-- the low byte of an expression in A
pub byte_fall :
    {site : Site} {limit : ℕ} (number : ExpressionNumber) (pushed : ℕ)
    → HasLowParts site.tree.now limit number
    → (scalar site number ≡ scalars.Address → rank site.tree.now (tasks.Word number) < limit)
    → Falls site limit (byte_steps site number pushed)
unfolding byte_steps
byte_fall {site = site} {limit = limit} number pushed is own =
    by_finding (known site number)
    (λ place there. known_byte_fall place (of_found (IsOwn site.tree.now) (known_is_own site number) there))
    (λ unknown. by_finding (memory site number)
    (λ reference there. in_memory reference
    (of_found (IsPlaced site.tree.now limit) (is_in_memory site limit number is) there))
    (λ elsewhere. by_finding (expression site number)
    (λ found there. byte_form_fall number found.form pushed is own (has_parts site is there))
    (λ none. falls tt)))
  where
    in_memory : (reference : Reference) → IsPlaced site.tree.now limit reference
        → Falls site limit (byte_in_memory_steps site reference pushed)
    in_memory reference has =
        byte_in_memory_fall reference pushed has

extended_fall :
    {site : Site} {limit : ℕ} (number : ExpressionNumber) (pushed : ℕ)
    → HasLowParts site.tree.now limit number
    → rank site.tree.now (tasks.Byte number) < limit
    → Falls site limit (extended_byte_steps site number pushed)
unfolding extended_byte_steps
extended_fall {site = site} {limit = limit} number pushed is own =
    by_finding (memory site number)
    (λ reference there. in_memory reference
    (of_found (IsPlaced site.tree.now limit) (is_in_memory site limit number is) there))
    (λ none. record { below = (own, tt); unmarked = refl; named = λ names. tt })
  where
    in_memory : (reference : Reference) → IsPlaced site.tree.now limit reference
        → Falls site limit (extended_byte_in_memory_steps site reference pushed)
    in_memory reference has =
        extended_byte_in_memory_fall reference pushed has

word_form_fall :
    {site : Site} {limit : ℕ} (number : ExpressionNumber)
    (form : ExpressionForm) (pushed : ℕ)
    → HasParts site.tree.now limit form
    → Falls site limit (word_form_steps site form pushed)
unfolding word_form_steps word_of_two_steps
word_form_fall {site = site} number (forms.Value reference) pushed has =
    word_in_memory_fall reference pushed has
word_form_fall number (forms.Location reference) pushed has = falls (has, tt)
word_form_fall number (forms.Conversion inner) pushed has = falls (has, tt)
word_form_fall number (forms.Function function operand) pushed has = falls (has, tt)
word_form_fall number (forms.Unary operator operand) pushed has =
    after_part has (word_unary_fall operator)
word_form_fall {site = site} number (forms.Binary operands operator left right) pushed has =
    word_binary_fall operator (record { left = left; right = right }) pushed has.0 has.1
word_form_fall {site = site} number (forms.Shift function value count) pushed has =
    word_shift_fall (record { function = function; value = value; count = count }) pushed has.0 has.1
word_form_fall {site = site} number (forms.Assignment target value) pushed has =
    embedded_fall target value true pushed has.0 has.1
word_form_fall {site = site} number (forms.Call procedure arguments) pushed has =
    call_fall procedure arguments pushed has
word_form_fall number form pushed has = falls tt

computed_word_fall :
    {site : Site} {limit : ℕ} (number : ExpressionNumber)
    (found : Expression) (pushed : ℕ)
    → HasLowParts site.tree.now limit number
    → (found.traits.scalar ≡ scalars.Byte → rank site.tree.now (tasks.Byte number) < limit)
    → HasParts site.tree.now limit found.form
    → Falls site limit (computed_word_steps site number found pushed)
unfolding computed_word_steps
computed_word_fall {site = site} {limit = limit} number found pushed is own has = by found.traits.scalar refl
  where
    by : (scalar : ScalarType) → found.traits.scalar ≡ scalar
        → Falls site limit (elim scalar [
          | scalars.Byte ↦ extended_byte_steps site number pushed
          | scalars.Address ↦ word_form_steps site found.form pushed
        ])
    by scalars.Byte same = extended_fall number pushed is (own same)
    by scalars.Address same =
        word_form_fall number found.form pushed has

type_found :
    (site : Site) (number : ExpressionNumber) (found : Expression)
    → expression site number ≡ Some found → scalar site number ≡ found.traits.scalar
unfolding scalar
type_found site number found there =
    ap (λ (of : Option Expression). elim of [ Some one ↦ one.traits.scalar | None ↦ scalars.Byte ]) there

-- the value of an expression in HL
pub word_fall :
    {site : Site} {limit : ℕ} (number : ExpressionNumber) (pushed : ℕ)
    → HasLowParts site.tree.now limit number
    → (scalar site number ≡ scalars.Byte → rank site.tree.now (tasks.Byte number) < limit)
    → Falls site limit (word_steps site number pushed)
unfolding word_steps
word_fall {site = site} number pushed is own =
    by_finding (known site number)
    (λ place there. location_address_fall site (Static place) pushed
    (static_is_own (of_found (IsOwn site.tree.now) (known_is_own site number) there)))
    (λ unknown. by_finding (expression site number)
    (λ found there. computed_word_fall number found pushed is
    (λ byte. own (type_found site number found there ∙ byte)) (has_parts site is there))
    (λ none. falls tt))
