-- OR and XOR of two ADDRESSes in HL.
use Rattle.task_laws.proofs.Prelude.{◌≡◌, ℕ, ◌+◌, ◌*◌, ◌<◌, ◌≤◌, max, Bool, false, if◌then◌else◌, List, ◌++◌, Option, Some, None, refl, sym, ap, ◌∙◌, subst, and_comm, or_comm, xor_comm, Address, height_of, type_of, TypedExpression, value, SourceState, Gave, then_do, Operation, And, ExclusiveOr, Or, Registers, ExpressionNumber, Number, keeps_none, Does, loaded_of, at_place, Arrives, HasRoom, Facts, Site, keeps, number_of, pair_order, pair_steps, Operands, Simple, knowing, both_halves_steps, computed_logic_steps, is_of_bytes, logic_steps, logic_with_number_steps, logic_with_simple_steps, paired_steps, with_simple, Context, IsSound, StepsStand, PartDoes, WordIsGiven}
use Rattle.task_laws.proofs.Machine.Rules.{GoesOn}
use Rattle.task_laws.proofs.Machine.KnownOperands.{number_known, number_small}
use Rattle.task_laws.proofs.Words.Pairs.{same_rest}
use Rattle.task_laws.proofs.Words.PairedWords.{Makes, and_makes, byte_instructions, or_makes, paired_does, xor_makes}
use Rattle.task_laws.proofs.Words.WordSums.{TwoWords, first_known, less_high, one_high, second_known, two_high}
use Rattle.task_laws.proofs.Words.WordBinaries.{bytes_on, pairs_same}
use Rattle.task_laws.proofs.Words.LogicNumbers.{IsLogic, bits, bits_small, halves_do}
use Rattle.task_laws.proofs.Numbers.{address_is_word}

-- OR or XOR
abbrev pub IsEither : Operation → Type 0
IsEither Or = Unit {0}
IsEither ExclusiveOr = Unit {0}
IsEither operation = ⊥

pub either_logic : (operation : Operation) → IsEither operation → IsLogic operation
either_logic Or is = tt
either_logic ExclusiveOr is = tt
either_logic operation is = absurd is

pub bits_turned : (operation : Operation) (x y : ℕ) → bits operation x y ≡ bits operation y x
bits_turned And x y = and_comm x y
bits_turned Or x y = or_comm x y
bits_turned ExclusiveOr x y = xor_comm x y
bits_turned operation x y = refl

pub logic_makes : (operation : Operation) → IsLogic operation
    → Makes (byte_instructions operation operation) (bits operation)
logic_makes And is = and_makes
logic_makes Or is = or_makes
logic_makes ExclusiveOr is = xor_makes
logic_makes operation is = absurd is

with_number_is : (site : Site) (operation : Operation) (of : ExpressionNumber) (n pushed : ℕ)
    → IsEither operation
    → logic_with_number_steps site operation of n pushed ≡ both_halves_steps operation of n pushed
unfolding logic_with_number_steps
with_number_is site Or of n pushed is = refl
with_number_is site ExclusiveOr of n pushed is = refl
with_number_is site operation of n pushed is = absurd is

no_bytes : (site : Site) (operation : Operation) (operands : Operands) → IsEither operation
    → is_of_bytes site operation operands ≡ false
unfolding is_of_bytes
no_bytes site Or operands is = refl
no_bytes site ExclusiveOr operands is = refl
no_bytes site operation operands is = absurd is

abbrev pub LogicGiven :
    Context → Operation → (from : ℕ) → SourceState → Registers → (memory : List ℕ)
    → (first second : TypedExpression)
    → (last : Facts) → (number : ExpressionNumber) → (top : ℕ) → (base : List ℕ) → (to : ℕ) → Type 0
LogicGiven context operation from s r memory first second last number top base to =
    Does (loaded_of context.activation) s.budget 0 (at_place from r memory s.events)
    (then_do (value context.later context.activation.around first s)
    (λ x t. then_do (value context.later context.activation.around second t)
    (λ y u. Gave (bits operation x y) u)))
    (Arrives context.activation top base to (WordIsGiven context last number Address r memory))

pub either_does :
    {context : Context} {pushed top need to : ℕ} {base : List ℕ} {facts last : Facts}
    {first second : TypedExpression} (operation : Operation) (operands : Operands)
    (number : ExpressionNumber) (from : ℕ)
    (s : SourceState) (r : Registers) (memory : List ℕ) (sound : IsSound context)
    → IsEither operation
    → TwoWords context operands first second
    → keeps context.site number ≡ keeps_none
    → s.budget < context.number
    → HasRoom context.activation top pushed need
    → 2 * (1 + max (height_of first) (height_of second)) ≤ need
    → StepsStand context (PartDoes context) facts from
    (logic_steps (knowing context.site facts) operation operands pushed) last to
    → GoesOn context facts top base s.memory s.frame r memory
    → ((chosen : ExpressionNumber × Simple) → with_simple (knowing context.site facts) operands ≡ Some chosen
    → StepsStand context (PartDoes context) facts from
    (logic_with_simple_steps operation chosen.0 chosen.1 pushed) last to
    → LogicGiven context operation from s r memory first second last number top base to)
    → LogicGiven context operation from s r memory first second last number top base to
unfolding logic_steps computed_logic_steps paired_steps
either_does {context = context} {pushed = pushed} {top = top} {need = need} {to = to} {base = base}
    {facts = facts} {last = last} {first = first} {second = second} operation operands number from s r memory
    sound is words none less room height stand going simple =
    by_right (number_of (knowing context.site facts) operands.right) refl stand
  where
    by_simple : (found : Option (ExpressionNumber × Simple))
        → with_simple (knowing context.site facts) operands ≡ found
        → StepsStand context (PartDoes context) facts from (elim found [
          | Some chosen ↦ logic_with_simple_steps operation chosen.0 chosen.1 pushed
          | None ↦ paired_steps (knowing context.site facts) operands operation operation pushed
        ]) last to
        → LogicGiven context operation from s r memory first second last number top base to
    by_simple (Some chosen) here stand = simple chosen here stand
    by_simple None here stand =
        paired_does (byte_instructions operation operation) (bits operation) number None from s r memory sound
        (bytes_on operation operation) (logic_makes operation (either_logic operation is))
        (λ x y one two. bits_small operation x y (either_logic operation is) one two) words.one words.two none
        less room (one_high (height_of first) (height_of second) need height)
        (two_high (height_of first) (height_of second) need height)
        (subst (λ steps. StepsStand context (PartDoes context) facts from
        (pair_steps (knowing context.site facts) operands.left operands.right false pushed ++ steps) last to)
        (pairs_same operation operation (pair_order (knowing context.site facts) operands.left
        operands.right false)) stand)
        going

    by_left : (found : Option ℕ) → number_of (knowing context.site facts) operands.left ≡ found
        → StepsStand context (PartDoes context) facts from (elim found [
          | Some n ↦ logic_with_number_steps (knowing context.site facts) operation operands.right n pushed
          | None ↦ computed_logic_steps (knowing context.site facts) operation operands pushed
        ]) last to
        → LogicGiven context operation from s r memory first second last number top base to
    by_left (Some n) here stand =
        subst (λ outcome. Does (loaded_of context.activation) s.budget 0
        (at_place from r memory s.events) outcome
        (Arrives context.activation top base to (WordIsGiven context last number Address r memory)))
        (sym (first_known second facts (Number n) (λ x y u. Gave (bits operation x y) u) s sound words.one
        (number_known context facts operands.left n here)
        ∙ same_rest (value context.later context.activation.around second s)
        (λ y u. Gave (bits operation n y) u) (λ y u. Gave (bits operation y n) u)
        (λ y u. ap (λ m. Gave m u) (bits_turned operation n y))))
        (halves_do operation n number from s r memory sound (either_logic operation is)
        (address_is_word n (type_of first) words.one_is
        (number_small facts n sound words.one.is words.one.types here))
        words.two none less room (less_high (height_of first) (height_of second) need height)
        (subst (λ steps. StepsStand context (PartDoes context) facts from steps last to)
        (with_number_is (knowing context.site facts) operation operands.right n pushed is) stand) going)
    by_left None here stand =
        by_simple (with_simple (knowing context.site facts) operands) refl
        (subst (λ (test : Bool). StepsStand context (PartDoes context) facts from
        (if test then Rattle.exprgen8080.specs.internal.ByteOperators.byte_operation_steps
        (knowing context.site facts) operation operands pushed
        ++ Rattle.steps8080.specs.internal.Step.extension_steps
        else elim (with_simple (knowing context.site facts) operands) [
          | Some chosen ↦ logic_with_simple_steps operation chosen.0 chosen.1 pushed
          | None ↦ paired_steps (knowing context.site facts) operands operation operation pushed
        ]) last to) (no_bytes (knowing context.site facts) operation operands is) stand)

    by_right : (found : Option ℕ) → number_of (knowing context.site facts) operands.right ≡ found
        → StepsStand context (PartDoes context) facts from (elim found [
          | Some n ↦ logic_with_number_steps (knowing context.site facts) operation operands.left n pushed
          | None ↦ elim (number_of (knowing context.site facts) operands.left) [
            | Some n ↦ logic_with_number_steps (knowing context.site facts) operation operands.right n pushed
            | None ↦ computed_logic_steps (knowing context.site facts) operation operands pushed
          ]
        ]) last to
        → LogicGiven context operation from s r memory first second last number top base to
    by_right (Some n) here stand =
        subst (λ outcome. Does (loaded_of context.activation) s.budget 0
        (at_place from r memory s.events) outcome
        (Arrives context.activation top base to (WordIsGiven context last number Address r memory)))
        (sym (second_known first facts (Number n) (λ x y u. Gave (bits operation x y) u) s sound words.two
        (number_known context facts operands.right n here)))
        (halves_do operation n number from s r memory sound (either_logic operation is)
        (address_is_word n (type_of second) words.two_is
        (number_small facts n sound words.two.is words.two.types here))
        words.one none less room (one_high (height_of first) (height_of second) need height)
        (subst (λ steps. StepsStand context (PartDoes context) facts from steps last to)
        (with_number_is (knowing context.site facts) operation operands.left n pushed is) stand) going)
    by_right None here stand = by_left (number_of (knowing context.site facts) operands.left) refl stand
