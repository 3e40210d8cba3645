-- AND, OR and XOR of an operand in HL and one with code that does not change HL.
use Rattle.task_laws.proofs.Prelude.{◌≡◌, ℕ, ◌+◌, ◌*◌, ◌/◌, ◌%◌, ◌<◌, ◌≤◌, max, Bool, true, false, ◌&&◌, List, [], ◌∷◌, Option, Some, None, if◌then◌else◌, refl, sym, ap, ◌∙◌, subst, arith, Address, height_of, type_of, TypedExpression, SourceState, Gave, then_do, Operation, ExclusiveOr, Or, A, L, Registers, ExpressionNumber, Place, keeps_none, Does, loaded_of, at_place, Arrives, HasRoom, Facts, copy, with_register, Site, is_free, keeps, may_exchange, direct_word, fits_byte, is_word_in_hl, Operands, Simple, knowing, exchanged_operand, first_and_simple, logic_with_byte_steps, logic_with_simple_steps, simple_operand, with_simple, Context, IsSound, StepsStand, PartThere, PartDoes, WordIsGiven, high_is_byte, byte_is_low}
use Rattle.exprgen8080.specs.declared.word_operators.Simple.TheVariants as simple
use Rattle.task_laws.proofs.Bytes.BytesAsked.{WordAtPlace, WordsAtPlaces}
use Rattle.task_laws.proofs.Loads.DirectWords.{with_word_then}
use Rattle.task_laws.proofs.Words.LogicNumbers.{IsLogic, bits, bits_high, bits_low, bits_small, or_none, xor_none}
use Rattle.task_laws.proofs.Words.LogicPairs.{IsEither, LogicGiven, bits_turned, either_logic, logic_makes}
use Rattle.task_laws.proofs.Words.PairedWords.{kept_none}
use Rattle.task_laws.proofs.Words.Pairs.{IsOperand, free_same, same_rest}
use Rattle.task_laws.proofs.Relations.PlaceComparisons.{read_then}
use Rattle.task_laws.proofs.Ranges.Ranges.{fits_means, ready_fits, value_fits}
use Rattle.task_laws.proofs.Machine.RegisterCode.{effect, registers_then}
use Rattle.task_laws.proofs.Machine.Rules.{GoesOn}
use Rattle.task_laws.proofs.Machine.SiteNodes.{does_exchanged, value_in}
use Rattle.task_laws.proofs.Machine.Values.{HasWord, byte_then, word_ends, word_then}
use Rattle.task_laws.proofs.Words.WordSums.{TwoWords, less_high, one_high}
use Rattle.task_laws.proofs.Numbers.{address_is_word, no_high_byte}

-- a simple operand
pub data IsSimple (site : Site) (of : ExpressionNumber) : Simple → Type 0 where
  IsFreeByte : fits_byte site of ≡ true → is_free site of ≡ true → IsSimple site of (simple.Byte of)
  IsDirectWord : {place : Place} → direct_word site of ≡ Some place → IsSimple site of (simple.Word place)

-- OR and XOR with 0 leave a byte as it is
nothing_more : (operation : Operation) (h : ℕ) → IsEither operation → h < 256 → bits operation h 0 ≡ h
nothing_more Or h is small = or_none h small
nothing_more ExclusiveOr h is small = xor_none h small
nothing_more operation h is small = absurd is

high_stays : (operation : Operation) (h x y : ℕ) → IsEither operation → h ≡ x / 256 → x < 65536 → y < 256
    → h ≡ bits operation x y / 256
high_stays operation h x y is same small byte =
    same ∙ sym (nothing_more operation (x / 256) is (high_is_byte x small))
    ∙ ap (bits operation (x / 256)) (no_high_byte y byte)
    ∙ bits_high operation x y (either_logic operation is)

low_made : (operation : Operation) (a l x y : ℕ) → IsEither operation → a ≡ y → l ≡ x % 256 → y < 256
    → bits operation a l ≡ bits operation x y % 256
low_made operation a l x y is same low byte =
    ap (λ m. bits operation m l) (same ∙ byte_is_low y byte) ∙ ap (bits operation (y % 256)) low
    ∙ bits_turned operation (y % 256) (x % 256) ∙ bits_low operation x y (either_logic operation is)

byte_makes :
    (operation : Operation) (x y : ℕ) (now : Registers) → IsEither operation → x < 65536 → y < 256
    → HasWord x now → now.a ≡ y
    → HasWord (bits operation x y) (effect (with_register operation L ∷ copy L A ∷ []) now)
byte_makes Or x y now is one two has a =
    record { h = high_stays Or now.h x y tt has.h one two; l = low_made Or now.a now.l x y tt a has.l two }
byte_makes ExclusiveOr x y now is one two has a =
    record { h = high_stays ExclusiveOr now.h x y tt has.h one two; l = low_made ExclusiveOr now.a now.l x y tt a has.l two }
byte_makes operation x y now is one two has a = absurd is

-- one operand in HL, and then a simple one
simple_then :
    {context : Context} {pushed top need to : ℕ} {base : List ℕ} {facts last : Facts}
    {one other : ExpressionNumber}
    {first second : TypedExpression} {chosen : Simple} (operation : Operation)
    (number : ExpressionNumber) (from : ℕ)
    (s : SourceState) (r : Registers) (memory : List ℕ) (sound : IsSound context)
    → WordsAtPlaces context
    → IsLogic operation
    → (fits_byte (knowing context.site facts) other ≡ true → IsEither operation)
    → IsSimple (knowing context.site facts) other chosen
    → IsOperand context one first
    → IsOperand context other second
    → type_of first ≡ Address
    → type_of second ≡ Address
    → keeps context.site number ≡ keeps_none
    → s.budget < context.number
    → HasRoom context.activation top pushed need
    → 2 * height_of first ≤ need
    → 2 * height_of second ≤ need
    → StepsStand context (PartDoes context) facts from
    (logic_with_simple_steps operation one chosen pushed) last to
    → GoesOn context facts top base s.memory s.frame r memory
    → LogicGiven context operation from s r memory first second last number top base to
unfolding logic_with_simple_steps logic_with_byte_steps
simple_then {context = context} {need = need} {facts = facts} {other = other} {first = first}
    {second = second} operation number from s r memory sound places logic either (IsFreeByte fits free) one
    two one_is two_is none less room high higher (PartThere part (PartThere byte_part rest)) going =
    word_then from s r memory part one.is one.types less room high going
    (λ x t now ended same fewer going_on given.
    byte_then _ t now ended byte_part two.is two.types (omega (arith, less, fewer)) room higher going_on
    (λ y u after after_memory also fewer_still going_still byte.
    let only = byte.free (sym (free_same context sound facts other) ∙ free) in
    let x_small = address_is_word x (type_of first) one_is given.small in
    let y_small : y < 256 =
    fits_means context sound facts t two.is two.types fits (ready_fits context t going_on.ready) also in
    registers_then (with_register operation L ∷ copy L A ∷ []) [] after sound (tt, (tt, tt)) rest going_still
    (λ end end_found ends going_last.
    word_ends u ends
    (bits_small operation x y logic x_small (address_is_word y (type_of second) two_is byte.small))
    (byte_makes operation x y after (either fits) x_small y_small
    (record { h = only.h ∙ given.h; l = only.l ∙ given.l }) (byte.a ∙ sym (byte_is_low y y_small)))
    (kept_none context number r _ none) going_last)))
simple_then {context = context} {top = top} {need = need} {to = to} {base = base} {facts = facts}
    {last = last} {other = other} {first = first} {second = second} operation number from s r memory sound
    places logic either (IsDirectWord {place = place} direct) one two one_is two_is none less room high higher
    (PartThere {middle = middle} part rest) going =
    word_then from s r memory part one.is one.types less room high going
    (λ x t now ended same fewer going_on given.
    read_then (value_in context second t) (λ y u. Gave (bits operation x y) u)
    (places facts other place two.bound top second base t now ended two.is two.types direct going_on.ready)
    (λ (read : WordAtPlace context place ended t (value_in context second t)).
    let x_small = address_is_word x (type_of first) one_is given.small in
    let y_small = address_is_word read.found (type_of second) two_is
    (value_fits t sound two.is two.types (ready_fits context t going_on.ready) read.is) in
    subst (λ (n : ℕ). Does (loaded_of context.activation) t.budget 0
    (at_place middle now ended t.events) (Gave n t)
    (Arrives context.activation top base to (WordIsGiven context last number Address r memory)))
    (bits_turned operation read.found x)
    (with_word_then operation operation (bits operation) number sound (logic_makes operation logic) none
    place read.found x t r now memory ended y_small x_small
    (bits_small operation read.found x logic y_small x_small)
    read.low read.high read.low_steady read.high_steady (record { h = given.h; l = given.l }) rest
    (record { below = omega (arith, less, fewer); room = room; ready = going_on.ready; known = going_on.known }))))

-- the operand that is evaluated first, and the other one, which is simple
pub data IsChosen (site : Site) (operands : Operands) : ExpressionNumber × Simple → Type 0 where
  RightIsSimple : {operand : Simple} → IsSimple site operands.right operand
      → IsChosen site operands (operands.left, operand)
  LeftIsSimple : {operand : Simple} → may_exchange site operands.left operands.right ≡ true
      → IsSimple site operands.left operand → IsChosen site operands (operands.right, operand)

abbrev OperandFits : Site → ExpressionNumber → Option Simple → Type 0
OperandFits site of None = Unit {0}
OperandFits site of (Some operand) = IsSimple site of operand

abbrev ExchangedFits : Site → Operands → Option Simple → Type 0
ExchangedFits site operands None = Unit {0}
ExchangedFits site operands (Some operand) =
    (may_exchange site operands.left operands.right ≡ true) × IsSimple site operands.left operand

abbrev ChosenFits : Site → Operands → Option (ExpressionNumber × Simple) → Type 0
ChosenFits site operands None = Unit {0}
ChosenFits site operands (Some chosen) = IsChosen site operands chosen

operand_fits : (site : Site) (of : ExpressionNumber) → OperandFits site of (simple_operand site of)
unfolding simple_operand
operand_fits site of = by (fits_byte site of) (is_free site of) (direct_word site of) refl refl refl
  where
    by : (fits free : Bool) (found : Option Place)
        → fits_byte site of ≡ fits → is_free site of ≡ free → direct_word site of ≡ found
        → OperandFits site of
        (if fits && free then Some (simple.Byte of)
        else elim found [
          | Some place ↦ Some (simple.Word place)
          | None ↦ None
        ])
    by true true found one two three = IsFreeByte one two
    by true false (Some place) one two three = IsDirectWord three
    by true false None one two three = tt
    by false free (Some place) one two three = IsDirectWord three
    by false free None one two three = tt

exchanged_fits : (site : Site) (operands : Operands)
    → ExchangedFits site operands (exchanged_operand site operands)
unfolding exchanged_operand
exchanged_fits site operands =
    by (may_exchange site operands.left operands.right) refl (simple_operand site operands.left)
    (operand_fits site operands.left)
  where
    by : (may : Bool) → may_exchange site operands.left operands.right ≡ may
        → (found : Option Simple) → OperandFits site operands.left found
        → ExchangedFits site operands (if may then found else None)
    by true is (Some operand) fits = (is, fits)
    by true is None fits = tt
    by false is found fits = tt

chosen_fits : (site : Site) (operands : Operands) → ChosenFits site operands (with_simple site operands)
unfolding with_simple first_and_simple
chosen_fits site operands =
    by (simple_operand site operands.right) (operand_fits site operands.right)
    (exchanged_operand site operands) (exchanged_fits site operands)
  where
    by_hl : (one other : Simple) (in_hl : Bool) → IsSimple site operands.right one
        → ExchangedFits site operands (Some other)
        → ChosenFits site operands (if in_hl then Some (operands.right, other) else Some (operands.left, one))
    by_hl one other true fits also = LeftIsSimple also.0 also.1
    by_hl one other false fits also = RightIsSimple fits

    by : (one : Option Simple) → OperandFits site operands.right one
        → (other : Option Simple) → ExchangedFits site operands other
        → ChosenFits site operands (first_and_simple site operands one other)
    by (Some one) fits (Some other) also = by_hl one other (is_word_in_hl site operands.right) fits also
    by (Some one) fits None also = RightIsSimple fits
    by None fits (Some other) also = LeftIsSimple also.0 also.1
    by None fits None also = tt

-- AND, OR or XOR with one simple operand
pub with_simple_does :
    {context : Context} {pushed top need to : ℕ} {base : List ℕ} {facts last : Facts}
    {first second : TypedExpression} (operation : Operation) (operands : Operands)
    (chosen : ExpressionNumber × Simple)
    (number : ExpressionNumber) (from : ℕ) (s : SourceState) (r : Registers) (memory : List ℕ)
    (sound : IsSound context)
    → WordsAtPlaces context
    → IsLogic operation
    → (fits_byte (knowing context.site facts) operands.left ≡ true → IsEither operation)
    → (fits_byte (knowing context.site facts) operands.right ≡ true → IsEither operation)
    → TwoWords context operands first second
    → with_simple (knowing context.site facts) operands ≡ Some chosen
    → keeps context.site number ≡ keeps_none
    → s.budget < context.number
    → HasRoom context.activation top pushed need
    → 2 * (1 + max (height_of first) (height_of second)) ≤ need
    → StepsStand context (PartDoes context) facts from
    (logic_with_simple_steps operation chosen.0 chosen.1 pushed) last to
    → GoesOn context facts top base s.memory s.frame r memory
    → LogicGiven context operation from s r memory first second last number top base to
with_simple_does {context = context} {pushed = pushed} {top = top} {need = need} {to = to} {base = base}
    {facts = facts} {last = last} {first = first} {second = second} operation operands chosen number from s r
    memory sound places logic left_either right_either words is none less room height stand going =
    by (subst (λ found. ChosenFits (knowing context.site facts) operands found) is
    (chosen_fits (knowing context.site facts) operands)) stand
  where
    by : {of : ExpressionNumber × Simple} → IsChosen (knowing context.site facts) operands of
        → StepsStand context (PartDoes context) facts from
        (logic_with_simple_steps operation of.0 of.1 pushed) last to
        → LogicGiven context operation from s r memory first second last number top base to
    by (RightIsSimple simple_is) stand =
        simple_then operation number from s r memory sound places logic right_either simple_is words.one
        words.two words.one_is words.two_is
        none less room (one_high (height_of first) (height_of second) need height)
        (less_high (height_of first) (height_of second) need height) stand going
    by (LeftIsSimple may simple_is) stand =
        does_exchanged facts (λ x y u. Gave (bits operation x y) u) s sound words.one.is
        words.two.is words.one.types may
        (subst (λ outcome. Does (loaded_of context.activation) s.budget 0
        (at_place from r memory s.events) outcome
        (Arrives context.activation top base to (WordIsGiven context last number Address r memory)))
        (same_rest (value_in context second s)
        (λ y t. then_do (value_in context first t) (λ x u. Gave (bits operation y x) u))
        (λ y t. then_do (value_in context first t) (λ x u. Gave (bits operation x y) u))
        (λ y t. same_rest (value_in context first t) (λ x u. Gave (bits operation y x) u)
        (λ x u. Gave (bits operation x y) u)
        (λ x u. ap (λ m. Gave m u) (bits_turned operation y x))))
        (simple_then operation number from s r memory sound places logic left_either simple_is words.two
        words.one words.two_is words.one_is
        none less room (less_high (height_of first) (height_of second) need height)
        (one_high (height_of first) (height_of second) need height) stand going))
