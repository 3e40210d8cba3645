-- AND of two ADDRESSes in HL.
use Rattle.task_laws.proofs.Prelude.{◌≡◌, ℕ, ◌+◌, ◌*◌, ◌<◌, ◌≤◌, max, ◌||◌, Bool, true, false, if◌then◌else◌, List, ◌++◌, Option, Some, None, refl, sym, ap, ◌∙◌, subst, false≢true, Address, height_of, type_of, TypedExpression, value, SourceState, Gave, And, Registers, ExpressionNumber, Number, keeps_none, Does, loaded_of, at_place, Arrives, HasRoom, Facts, keeps, number_of, pair_order, pair_steps, Operands, Simple, knowing, computed_logic_steps, is_of_bytes, logic_steps, logic_with_number_steps, logic_with_simple_steps, paired_steps, with_simple, Context, IsSound, StepsStand, PartDoes, WordIsGiven, extension_steps, fits_byte, byte_operation_steps}
use Rattle.task_laws.proofs.Machine.Rules.{GoesOn}
use Rattle.task_laws.proofs.Machine.KnownOperands.{number_known, number_small}
use Rattle.task_laws.proofs.Words.Pairs.{same_rest}
use Rattle.task_laws.proofs.Words.PairedWords.{byte_instructions, paired_does}
use Rattle.task_laws.proofs.Words.WordSums.{TwoWords, first_known, less_high, one_high, second_known, two_high}
use Rattle.task_laws.proofs.Words.WordBinaries.{bytes_on, pairs_same}
use Rattle.task_laws.proofs.Words.LogicPairs.{LogicGiven, bits_turned, logic_makes}
use Rattle.task_laws.proofs.Words.AndBytes.{of_bytes_does}
use Rattle.task_laws.proofs.Words.AndNumbers.{HighHalvesGiven, and_number_does}
use Rattle.task_laws.proofs.Bytes.BytesAsked.{BytesAsked}
use Rattle.task_laws.proofs.Words.LogicNumbers.{bits, bits_small}
use Rattle.task_laws.proofs.Words.SimpleLogic.{with_simple_does}
use Rattle.task_laws.proofs.Numbers.{address_is_word}

-- if AND does not fit a byte, no operand does
no_byte_left : (one other : Bool) → (one || other) ≡ false → one ≡ true → ⊥
no_byte_left true other none is = false≢true (sym none)
no_byte_left false other none is = false≢true is

no_byte_right : (one other : Bool) → (one || other) ≡ false → other ≡ true → ⊥
no_byte_right true other none is = false≢true (sym none)
no_byte_right false other none is = false≢true (sym none ∙ is)

pub and_does :
    {context : Context} {pushed top need to : ℕ} {base : List ℕ} {facts last : Facts}
    {first second : TypedExpression} (operands : Operands) (number : ExpressionNumber) (from : ℕ)
    (s : SourceState) (r : Registers) (memory : List ℕ) (sound : IsSound context)
    → BytesAsked context
    → HighHalvesGiven context
    → TwoWords context operands first second
    → keeps context.site number ≡ keeps_none
    → s.budget < context.number
    → HasRoom context.activation top pushed need
    → 2 * (1 + max (height_of first) (height_of second)) ≤ need
    → StepsStand context (PartDoes context) facts from
    (logic_steps (knowing context.site facts) And operands pushed) last to
    → GoesOn context facts top base s.memory s.frame r memory
    → LogicGiven context And from s r memory first second last number top base to
unfolding logic_steps computed_logic_steps paired_steps is_of_bytes
and_does {context = context} {pushed = pushed} {top = top} {need = need} {to = to} {base = base}
    {facts = facts} {last = last} {first = first} {second = second} operands number from s r memory sound
    asked highs words none less room height stand going =
    by_right (number_of (knowing context.site facts) operands.right) refl stand
  where
    by_simple : (found : Option (ExpressionNumber × Simple))
        → with_simple (knowing context.site facts) operands ≡ found
        → is_of_bytes (knowing context.site facts) And operands ≡ false
        → StepsStand context (PartDoes context) facts from (elim found [
          | Some chosen ↦ logic_with_simple_steps And chosen.0 chosen.1 pushed
          | None ↦ paired_steps (knowing context.site facts) operands And And pushed
        ]) last to
        → LogicGiven context And from s r memory first second last number top base to
    by_simple (Some chosen) here no_bytes stand =
        with_simple_does And operands chosen number from s r memory sound asked.places tt
        (no_byte_left (fits_byte (knowing context.site facts) operands.left)
        (fits_byte (knowing context.site facts) operands.right) no_bytes)
        (no_byte_right (fits_byte (knowing context.site facts) operands.left)
        (fits_byte (knowing context.site facts) operands.right) no_bytes)
        words here none less room height stand going
    by_simple None here no_bytes stand =
        paired_does (byte_instructions And And) (bits And) number None from s r memory sound
        (bytes_on And And) (logic_makes And tt)
        (λ x y one two. bits_small And x y tt one two) words.one words.two none
        less room (one_high (height_of first) (height_of second) need height)
        (two_high (height_of first) (height_of second) need height)
        (subst (λ steps. StepsStand context (PartDoes context) facts from
        (pair_steps (knowing context.site facts) operands.left operands.right false pushed ++ steps) last to)
        (pairs_same And And (pair_order (knowing context.site facts) operands.left operands.right false))
        stand)
        going

    by_bytes : (test : Bool) → is_of_bytes (knowing context.site facts) And operands ≡ test
        → number_of (knowing context.site facts) operands.right ≡ None
        → number_of (knowing context.site facts) operands.left ≡ None
        → StepsStand context (PartDoes context) facts from
        (if test then byte_operation_steps (knowing context.site facts) And operands pushed ++ extension_steps
        else elim (with_simple (knowing context.site facts) operands) [
          | Some chosen ↦ logic_with_simple_steps And chosen.0 chosen.1 pushed
          | None ↦ paired_steps (knowing context.site facts) operands And And pushed
        ]) last to
        → LogicGiven context And from s r memory first second last number top base to
    by_bytes true here right_none left_none stand =
        of_bytes_does operands number from s r memory sound asked words here right_none left_none none less
        room height stand going
    by_bytes false here right_none left_none stand =
        by_simple (with_simple (knowing context.site facts) operands) refl here stand

    by_left : (found : Option ℕ) → number_of (knowing context.site facts) operands.left ≡ found
        → number_of (knowing context.site facts) operands.right ≡ None
        → StepsStand context (PartDoes context) facts from (elim found [
          | Some n ↦ logic_with_number_steps (knowing context.site facts) And operands.right n pushed
          | None ↦ computed_logic_steps (knowing context.site facts) And operands pushed
        ]) last to
        → LogicGiven context And from s r memory first second last number top base to
    by_left (Some n) here right_none stand =
        subst (λ outcome. Does (loaded_of context.activation) s.budget 0
        (at_place from r memory s.events) outcome
        (Arrives context.activation top base to (WordIsGiven context last number Address r memory)))
        (sym (first_known second facts (Number n) (λ x y u. Gave (bits And x y) u) s sound words.one
        (number_known context facts operands.left n here)
        ∙ same_rest (value context.later context.activation.around second s)
        (λ y u. Gave (bits And n y) u) (λ y u. Gave (bits And y n) u)
        (λ y u. ap (λ m. Gave m u) (bits_turned And n y))))
        (and_number_does number sound none words.two n from s r memory highs words.two_is
        (address_is_word n (type_of first) words.one_is
        (number_small facts n sound words.one.is words.one.types here))
        less room (less_high (height_of first) (height_of second) need height) stand going)
    by_left None here right_none stand =
        by_bytes (is_of_bytes (knowing context.site facts) And operands) refl right_none here stand

    by_right : (found : Option ℕ) → number_of (knowing context.site facts) operands.right ≡ found
        → StepsStand context (PartDoes context) facts from (elim found [
          | Some n ↦ logic_with_number_steps (knowing context.site facts) And operands.left n pushed
          | None ↦ elim (number_of (knowing context.site facts) operands.left) [
            | Some n ↦ logic_with_number_steps (knowing context.site facts) And operands.right n pushed
            | None ↦ computed_logic_steps (knowing context.site facts) And operands pushed
          ]
        ]) last to
        → LogicGiven context And from s r memory first second last number top base to
    by_right (Some n) here stand =
        subst (λ outcome. Does (loaded_of context.activation) s.budget 0
        (at_place from r memory s.events) outcome
        (Arrives context.activation top base to (WordIsGiven context last number Address r memory)))
        (sym (second_known first facts (Number n) (λ x y u. Gave (bits And x y) u) s sound words.two
        (number_known context facts operands.right n here)))
        (and_number_does number sound none words.one n from s r memory highs words.one_is
        (address_is_word n (type_of second) words.two_is
        (number_small facts n sound words.two.is words.two.types here))
        less room (one_high (height_of first) (height_of second) need height) stand going)
    by_right None here stand = by_left (number_of (knowing context.site facts) operands.left) refl here stand
