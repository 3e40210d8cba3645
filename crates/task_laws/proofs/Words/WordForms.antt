-- Values in HL of one operand, and straight-line code.
use Rattle.task_laws.proofs.Prelude.{◌≡◌, ℕ, ◌+◌, ◌-◌, ◌*◌, ◌/◌, ◌%◌, ◌<◌, ◌≤◌, ◌==◌, Bool, true, false, not, nat_lt, if◌then◌else◌, List, [], ◌∷◌, append-nil, bit_xor, refl, sym, ap, ◌∙◌, subst, arith, xor_self, eqb-true, ScalarType, Byte, Address, UnaryOperator, Not, Negate, height_of, type_of, TypedExpression, value, SourceState, Gave, then_do, result_of_one, values_of, Instr, Cma, Subtract, SubtractWithBorrow, A, H, L, bit, Registers, ExpressionNumber, keeps_none, Does, loaded_of, at_place, Arrives, HasRoom, Facts, Step, Plain, clear_a, copy, high, low, set, with_register, extension_steps, part_of, plain, keeps, taken_from_number_steps, word_unary_steps, Context, IsSound, StepsStand, PartThere, PartDoes, WordIsGiven}
use Rattle.steps8080.specs.declared.step.Task.TheVariants as tasks
use Rattle.task_laws.proofs.Machine.Rules.{GoesOn}
use Rattle.task_laws.proofs.Machine.RegisterCode.{AreOnRegisters, effect, registers_then}
use Rattle.task_laws.proofs.Machine.Values.{HasWord, byte_then, word_ends, word_then}
use Rattle.task_laws.proofs.Words.Pairs.{IsOperand}
use Rattle.task_laws.proofs.Words.PairedWords.{kept_none}
use Rattle.task_laws.proofs.Words.WordArithmetic.{word_below, high_of_difference}
use Rattle.task_laws.proofs.Numbers.{no_high_byte}

-- a value into HL, and then straight code that makes another one of it
pub straight_does :
    {context : Context} {pushed top need to : ℕ} {base : List ℕ} {facts last : Facts}
    {other : ExpressionNumber} {tree : TypedExpression} (instructions : List Instr) (f : ℕ → ℕ)
    (number : ExpressionNumber) (from : ℕ) (s : SourceState) (r : Registers) (memory : List ℕ)
    (sound : IsSound context)
    → AreOnRegisters instructions
    → ((x : ℕ) (now : Registers) → x < 65536 → HasWord x now → HasWord (f x) (effect instructions now))
    → ((x : ℕ) → x < 65536 → f x < 65536)
    → IsOperand context other tree
    → keeps context.site number ≡ keeps_none
    → s.budget < context.number
    → HasRoom context.activation top pushed need
    → 2 * height_of tree ≤ need
    → StepsStand context (PartDoes context) facts from
    (part_of (tasks.Word other) pushed ∷ plain instructions) last to
    → GoesOn context facts top base s.memory s.frame r memory
    → Does (loaded_of context.activation) s.budget 0 (at_place from r memory s.events)
    (then_do (value context.later context.activation.around tree s) (λ x t. Gave (f x) t))
    (Arrives context.activation top base to (WordIsGiven context last number Address r memory))
straight_does {context = context} {to = to} {last = last} instructions f number from s r memory sound on makes
    small operand none less room height (PartThere {found = found} {middle = middle} part rest) going =
    word_then from s r memory part operand.is operand.types less room height going
    (λ x t now ended same fewer going_on given.
    let below = word_below x now.h now.l given.h going_on.ready.registers.h in
    registers_then instructions [] now sound on
    (subst (λ (steps : List Step). StepsStand context (PartDoes context) found middle steps last to)
    (sym (append-nil (plain instructions))) rest)
    going_on
    (λ after after_found ends going_last.
    word_ends t ends (small x below) (makes x now below (record { h = given.h; l = given.l }))
    (kept_none context number r (effect instructions now) none) going_last))

-- NOT
not_high : (h x : ℕ) → h ≡ x / 256 → x < 65536 → 255 - h ≡ (65536 - 1 - x) / 256
not_high h x same small = omega (arith, same, small)

not_low : (l x : ℕ) → l ≡ x % 256 → x < 65536 → 255 - l ≡ (65536 - 1 - x) % 256
not_low l x same small = omega (arith, same, small)

abbrev pub not_instructions : List Instr
not_instructions = copy A L ∷ Cma ∷ copy L A ∷ copy A H ∷ Cma ∷ copy H A ∷ []

not_makes : (x : ℕ) (now : Registers) → x < 65536 → HasWord x now
    → HasWord (result_of_one Address Not x) (effect not_instructions now)
not_makes x now small has = record { h = not_high now.h x has.h small; l = not_low now.l x has.l small }

taken_high : (n a h l x : ℕ) → a ≡ n % 256 → h ≡ x / 256 → l ≡ x % 256 → n < 65536 → x < 65536
    → (n / 256 + (255 - h) + bit (not (nat_lt (a + (255 - l) + 1) 256))) % 256
    ≡ ((n + (65536 - x)) % 65536) / 256
taken_high n a h l x zero one two fits small =
    rw zero (rw one (rw two (high_of_difference n x
    (nat_lt (n % 256 + (255 - x % 256) + 1) 256) refl fits small)))

taken_low : (n a l x : ℕ) → a ≡ n % 256 → l ≡ x % 256 → x < 65536
    → (a + (255 - l) + 1) % 256 ≡ ((n + (65536 - x)) % 65536) % 256
taken_low n a l x zero two small = omega (arith, zero, two, small)

abbrev clear_instructions : (n : ℕ) → List Instr
clear_instructions n =
    clear_a ∷ with_register Subtract L ∷ copy L A ∷ set A (high n)
    ∷ with_register SubtractWithBorrow H ∷ copy H A ∷ []

abbrev set_instructions : (n : ℕ) → List Instr
set_instructions n =
    set A (low n) ∷ with_register Subtract L ∷ copy L A ∷ set A (high n) ∷ with_register SubtractWithBorrow H
    ∷ copy H A ∷ []

clear_makes : (n x : ℕ) (now : Registers) → n % 256 ≡ 0 → n < 65536 → x < 65536 → HasWord x now
    → HasWord ((n + (65536 - x)) % 65536) (effect (clear_instructions n) now)
clear_makes n x now none fits small has = record {
  h = taken_high n (bit_xor now.a now.a) now.h now.l x (xor_self now.a ∙ sym none) has.h has.l fits small;
  l = taken_low n (bit_xor now.a now.a) now.l x (xor_self now.a ∙ sym none) has.l small;
}

set_makes : (n x : ℕ) (now : Registers) → n < 65536 → x < 65536 → HasWord x now
    → HasWord ((n + (65536 - x)) % 65536) (effect (set_instructions n) now)
set_makes n x now fits small has = record {
  h = taken_high n (n % 256) now.h now.l x refl has.h has.l fits small;
  l = taken_low n (n % 256) now.l x refl has.l small;
}

pub difference_small : (x y : ℕ) → (x + (65536 - y)) % 65536 < 65536
difference_small x y = omega arith

-- a value taken from a number
pub taken_does :
    {context : Context} {pushed top need to : ℕ} {base : List ℕ} {facts last : Facts}
    {other : ExpressionNumber} {tree : TypedExpression} (n : ℕ)
    (number : ExpressionNumber) (from : ℕ) (s : SourceState) (r : Registers) (memory : List ℕ)
    (sound : IsSound context)
    → n < 65536
    → IsOperand context other tree
    → keeps context.site number ≡ keeps_none
    → s.budget < context.number
    → HasRoom context.activation top pushed need
    → 2 * height_of tree ≤ need
    → StepsStand context (PartDoes context) facts from
    (part_of (tasks.Word other) pushed ∷ taken_from_number_steps n) last to
    → GoesOn context facts top base s.memory s.frame r memory
    → Does (loaded_of context.activation) s.budget 0 (at_place from r memory s.events)
    (then_do (value context.later context.activation.around tree s)
    (λ x t. Gave ((n + (65536 - x)) % 65536) t))
    (Arrives context.activation top base to (WordIsGiven context last number Address r memory))
unfolding taken_from_number_steps
taken_does {context = context} {pushed = pushed} {top = top} {to = to} {base = base} {facts = facts}
    {last = last} {other = other} {tree = tree} n number from s r memory sound fits operand none less room
    height stand going =
    by_low (low n == 0) refl stand
  where
    by_low : (test : Bool) → (low n == 0) ≡ test
        → StepsStand context (PartDoes context) facts from
        (part_of (tasks.Word other) pushed ∷ (if test then Plain clear_a else Plain (set A (low n)))
        ∷ plain (
        with_register Subtract L ∷ copy L A
        ∷ set A (high n) ∷ with_register SubtractWithBorrow H ∷ copy H A ∷ [])) last to
        → Does (loaded_of context.activation) s.budget 0 (at_place from r memory s.events)
        (then_do (value context.later context.activation.around tree s)
        (λ x t. Gave ((n + (65536 - x)) % 65536) t))
        (Arrives context.activation top base to (WordIsGiven context last number Address r memory))
    by_low true is stand =
        straight_does (clear_instructions n) (λ x. (n + (65536 - x)) % 65536) number from s r memory sound
        (tt, (tt, (tt, (tt, (tt, (tt, tt))))))
        (λ x now small has. clear_makes n x now (eqb-true (low n) 0 is) fits small has)
        (λ x small. difference_small n x) operand none less room height stand going
    by_low false is stand =
        straight_does (set_instructions n) (λ x. (n + (65536 - x)) % 65536) number from s r memory sound
        (tt, (tt, (tt, (tt, (tt, (tt, tt)))))) (λ x now small has. set_makes n x now fits small has)
        (λ x small. difference_small n x) operand none less room height stand going

abbrev negate_instructions : List Instr
negate_instructions =
    clear_a ∷ with_register Subtract L ∷ copy L A ∷ set A 0
    ∷ with_register SubtractWithBorrow H ∷ copy H A ∷ []

negated_is : (x : ℕ) → (0 + (65536 - x)) % 65536 ≡ (65536 - x) % 65536
negated_is x = omega arith

negate_makes : (x : ℕ) (now : Registers) → x < 65536 → HasWord x now
    → HasWord (result_of_one Address Negate x) (effect negate_instructions now)
negate_makes x now small has =
    let made : HasWord ((0 + (65536 - x)) % 65536) (effect (clear_instructions 0) now)
    = clear_makes 0 x now refl (omega arith) small has in
    record { h = made.h ∙ ap (λ n. n / 256) (negated_is x); l = made.l ∙ ap (λ n. n % 256) (negated_is x) }

one_small : (operator : UnaryOperator) (x : ℕ) → result_of_one Address operator x < 65536
one_small Not x = omega arith
one_small Negate x = omega arith

-- NOT and `-`
pub unary_does :
    {context : Context} {pushed top need to : ℕ} {base : List ℕ} {facts last : Facts}
    {other : ExpressionNumber} {tree : TypedExpression} (operator : UnaryOperator)
    (number : ExpressionNumber) (from : ℕ) (s : SourceState) (r : Registers) (memory : List ℕ)
    (sound : IsSound context)
    → IsOperand context other tree
    → keeps context.site number ≡ keeps_none
    → s.budget < context.number
    → HasRoom context.activation top pushed need
    → 2 * height_of tree ≤ need
    → StepsStand context (PartDoes context) facts from
    (part_of (tasks.Word other) pushed ∷ word_unary_steps operator) last to
    → GoesOn context facts top base s.memory s.frame r memory
    → Does (loaded_of context.activation) s.budget 0 (at_place from r memory s.events)
    (then_do (value context.later context.activation.around tree s)
    (λ x t. Gave (result_of_one Address operator x) t))
    (Arrives context.activation top base to (WordIsGiven context last number Address r memory))
unfolding word_unary_steps
unary_does Not number from s r memory sound operand none less room height stand going =
    straight_does not_instructions (result_of_one Address Not) number from s r memory sound
    (tt, (tt, (tt, (tt, (tt, (tt, tt)))))) not_makes (λ x small. one_small Not x) operand none less
    room height stand going
unary_does Negate number from s r memory sound operand none less room height stand going =
    straight_does negate_instructions (result_of_one Address Negate) number from s r memory sound
    (tt, (tt, (tt, (tt, (tt, (tt, tt)))))) negate_makes (λ x small. one_small Negate x) operand none less
    room height stand going

-- a BYTE with zeros added
pub extended_does :
    {context : Context} {pushed top need to : ℕ} {base : List ℕ} {facts last : Facts}
    {tree : TypedExpression} (number : ExpressionNumber) (from : ℕ) (s : SourceState)
    (r : Registers) (memory : List ℕ)
    (sound : IsSound context)
    → IsOperand context number tree
    → type_of tree ≡ Byte
    → keeps context.site number ≡ keeps_none
    → s.budget < context.number
    → HasRoom context.activation top pushed need
    → 2 * height_of tree ≤ need
    → StepsStand context (PartDoes context) facts from
    (part_of (tasks.Byte number) pushed ∷ extension_steps) last to
    → GoesOn context facts top base s.memory s.frame r memory
    → Does (loaded_of context.activation) s.budget 0 (at_place from r memory s.events)
    (then_do (value context.later context.activation.around tree s) (λ x t. Gave x t))
    (Arrives context.activation top base to (WordIsGiven context last number Byte r memory))
extended_does {context = context} {tree = tree} number from s r memory sound operand byte none less room
    height (PartThere part rest) going =
    byte_then from s r memory part operand.is operand.types less room height going
    (λ x t now ended same fewer going_on given.
    let small : x < 256 = subst (λ (scalar : ScalarType). x < values_of scalar) byte given.small in
    registers_then (copy L A ∷ set H 0 ∷ []) [] now sound (tt, (tt, tt)) rest going_on
    (λ after after_found ends going_last.
    word_ends t ends small (record { h = no_high_byte x small; l = given.a })
    (kept_none context number r (effect (copy L A ∷ set H 0 ∷ []) now) none) going_last))
