-- Shifts of an ADDRESS left by a number.
use Rattle.task_laws.proofs.Prelude.{◌≡◌, ℕ, ◌+◌, ◌-◌, ◌*◌, ◌/◌, ◌%◌, ◌^◌, ◌<◌, ◌≤◌, Bool, true, false, nat_le, if◌then◌else◌, List, [], ◌∷◌, ◌++◌, replicate, Some, pow-add, refl, sym, ap, ◌∙◌, subst, arith, leb-true, leb-false, lt-ltb, le-ltb, Address, ShiftLeft, height_of, TypedExpression, value, SourceState, Gave, then_do, shifted, Instr, Dad, Hl, A, H, L, Registers, LoadPair, ExpressionNumber, Number, keeps_at, keeps_none, keeps_of_shift, Does, loaded_of, at_place, Arrives, HasRoom, Facts, Step, copy, set, part_of, plain, repeat_steps, keeps, Context, IsSound, nodes_in, StepsStand, PartThere, WordThere, PartDoes, WordIsGiven, left_far_number}
use Rattle.steps8080.specs.declared.step.Task.TheVariants as tasks
use Rattle.exprgen8080.specs.internal.WordShifts.{shifted_left_steps, zero_steps}
use Rattle.task_laws.proofs.Machine.Addresses.{registers_end}
use Rattle.task_laws.proofs.Machine.Rules.{GoesOn, ready_with_registers, word_goes}
use Rattle.task_laws.proofs.Machine.RegisterCode.{effect, registers_then}
use Rattle.task_laws.proofs.Machine.Values.{byte_then, effects_then, word_ends, word_given, word_then}
use Rattle.task_laws.proofs.Words.Pairs.{IsOperand}
use Rattle.task_laws.proofs.Words.PairedWords.{kept_none}
use Rattle.task_laws.proofs.Words.WordArithmetic.{word_below}
use Rattle.task_laws.proofs.Words.WordSums.{kept_as, kept_beside}
use Rattle.task_laws.proofs.Words.Multiples.{by_high_byte, doubled_is, low_word_small, repeated, repeated_on}
use Rattle.task_laws.proofs.Numbers.{high_of_shifted, low_of_shifted, product_is_word}

by_eight_bits : (x count : ℕ) → 8 ≤ count
    → (256 * (x % 256) * 2 ^ (count - 8)) % 65536 ≡ (x * 2 ^ count) % 65536
by_eight_bits x count most =
    let more : 8 + (count - 8) ≡ count = omega (arith, most) in
    by_high_byte x (2 ^ (count - 8))
    ∙ ap (λ p. (x * p) % 65536) (sym (pow-add 2 8 (count - 8)) ∙ ap (λ n. 2 ^ n) more)

-- 0, after the effects of an expression
pub zero_does :
    {context : Context} {pushed top need to : ℕ} {base : List ℕ} {facts last : Facts}
    {other : ExpressionNumber} {tree : TypedExpression} (f : ℕ → ℕ) (number : ExpressionNumber) (from : ℕ)
    (s : SourceState) (r : Registers) (memory : List ℕ) (sound : IsSound context)
    → ((x : ℕ) (t : SourceState) → value context.later context.activation.around tree s ≡ Gave x t → f x ≡ 0)
    → IsOperand context other tree
    → keeps context.site number ≡ keeps_none
    → s.budget < context.number
    → HasRoom context.activation top pushed need
    → 2 * height_of tree ≤ need
    → StepsStand context (PartDoes context) facts from (zero_steps other pushed) last to
    → GoesOn context facts top base s.memory s.frame r memory
    → Does (loaded_of context.activation) s.budget 0 (at_place from r memory s.events)
    (then_do (value context.later context.activation.around tree s) (λ x t. Gave (f x) t))
    (Arrives context.activation top base to (WordIsGiven context last number Address r memory))
unfolding zero_steps
zero_does {context = context} f number from s r memory sound none operand kept less room height
    (PartThere {middle = middle} part (WordThere there rest)) going =
    effects_then from s r memory part operand.is operand.types less room height going
    (λ x t now ended same fewer going_on given.
    let cleared : Registers = record now { h = 0; l = 0 } in
    let bytes = going_on.ready.registers in
    let is : f x ≡ 0 = none x t same in
    word_goes (LoadPair Hl) (Number 0) now cleared ended sound there going_on tt refl
    (λ known_now.
    word_ends t rest (subst (λ (n : ℕ). n < 65536) (sym is) (omega arith))
    (record { h = ap (λ n. n / 256) (sym is); l = ap (λ n. n % 256) (sym is) })
    (kept_none context number r cleared kept)
    (record {
      ready = ready_with_registers refl
          (record { a = bytes.a; b = bytes.b; c = bytes.c; d = bytes.d; e = bytes.e; h = omega arith; l = omega arith })
          going_on.ready;
      known = known_now;
    })))

-- a shift to the left by a number
pub left_does :
    {context : Context} {pushed top need to : ℕ} {base : List ℕ} {facts last : Facts}
    {other : ExpressionNumber} {tree : TypedExpression} (count : ℕ) (number : ExpressionNumber) (from : ℕ)
    (s : SourceState) (r : Registers) (memory : List ℕ) (sound : IsSound context)
    → IsOperand context other tree
    → keeps context.site number ≡ keeps_of_shift (nodes_in context) ShiftLeft other (Some count)
    → s.budget < context.number
    → HasRoom context.activation top pushed need
    → 2 * height_of tree ≤ need
    → StepsStand context (PartDoes context) facts from (shifted_left_steps other count pushed) last to
    → GoesOn context facts top base s.memory s.frame r memory
    → Does (loaded_of context.activation) s.budget 0 (at_place from r memory s.events)
    (then_do (value context.later context.activation.around tree s)
    (λ x t. Gave (shifted Address ShiftLeft x count) t))
    (Arrives context.activation top base to (WordIsGiven context last number Address r memory))
unfolding shifted_left_steps
left_does {context = context} {pushed = pushed} {top = top} {need = need} {to = to} {base = base}
    {facts = facts} {last = last} {other = other} {tree = tree} count number from s r memory sound operand
    kept less room height stand going =
    by_word (nat_le 16 count) refl stand
  where
    none_kept : 8 ≤ count → keeps context.site number ≡ keeps_none
    none_kept most =
        kept ∙ ap (λ (test : Bool). if test then keeps_at (nodes_in context) other else keeps_none)
        (le-ltb count 8 most)

    by_byte : (test : Bool) → nat_le 8 count ≡ test
        → StepsStand context (PartDoes context) facts from
        (if test
        then part_of (tasks.Byte other) pushed ∷ plain (copy H A ∷ set L 0 ∷ [])
        ++ repeat_steps (Dad Hl) (count - 8)
        else part_of (tasks.Word other) pushed ∷ repeat_steps (Dad Hl) count) last to
        → Does (loaded_of context.activation) s.budget 0 (at_place from r memory s.events)
        (then_do (value context.later context.activation.around tree s)
        (λ x t. Gave (shifted Address ShiftLeft x count) t))
        (Arrives context.activation top base to (WordIsGiven context last number Address r memory))
    by_byte false is (PartThere {found = found} {middle = middle} part rest) =
        word_then from s r memory part operand.is operand.types less room height going
        (λ x t now ended same fewer going_on given.
        let doubled : List Instr = replicate count (Dad Hl) in
        let beside =
        doubled_is count x now (word_below x now.h now.l given.h going_on.ready.registers.h)
        (record { h = given.h; l = given.l }) in
        registers_end doubled now sound (repeated_on (Dad Hl) count tt)
        (subst (λ (steps : List Step). StepsStand context (PartDoes context) found middle steps last to)
        (repeated (Dad Hl) count) rest)
        going_on
        (λ going_last.
        word_given t (product_is_word x (2 ^ count)) (record { h = beside.h; l = beside.l })
        (kept_as context number other r (effect doubled now)
        (kept ∙ ap (λ (test : Bool). if test then keeps_at (nodes_in context) other else keeps_none)
        (lt-ltb count 8 (leb-false 8 count is)))
        (kept_beside (effect doubled now) given beside.a beside.d beside.e)) going_last))
    by_byte true is (PartThere part rest) =
        byte_then from s r memory part operand.is operand.types less room height going
        (λ x t now ended same fewer going_on given.
        let begun : Registers = effect (copy H A ∷ set L 0 ∷ []) now in
        let doubled : List Instr = replicate (count - 8) (Dad Hl) in
        let beside = doubled_is (count - 8) (256 * (x % 256)) begun (low_word_small x)
        (record { h = high_of_shifted now.a x given.a; l = low_of_shifted x }) in
        let most = leb-true 8 count is in
        registers_then (copy H A ∷ set L 0 ∷ []) (repeat_steps (Dad Hl) (count - 8)) now sound
        (tt, (tt, tt)) rest going_on
        (λ after after_found stand_on going_still.
        registers_end doubled begun sound (repeated_on (Dad Hl) (count - 8) tt)
        (subst (λ (steps : List Step). StepsStand context (PartDoes context) after_found after steps last to)
        (repeated (Dad Hl) (count - 8)) stand_on)
        going_still
        (λ going_last.
        word_given t (product_is_word x (2 ^ count))
        (record {
          h = beside.h ∙ ap (λ n. n / 256) (by_eight_bits x count most);
          l = beside.l ∙ ap (λ n. n % 256) (by_eight_bits x count most);
        })
        (kept_none context number r (effect doubled begun) (none_kept most)) going_last)))

    by_word : (test : Bool) → nat_le 16 count ≡ test
        → StepsStand context (PartDoes context) facts from
        (if test then zero_steps other pushed
        else if nat_le 8 count
        then part_of (tasks.Byte other) pushed ∷ plain (copy H A ∷ set L 0 ∷ [])
        ++ repeat_steps (Dad Hl) (count - 8)
        else part_of (tasks.Word other) pushed ∷ repeat_steps (Dad Hl) count) last to
        → Does (loaded_of context.activation) s.budget 0 (at_place from r memory s.events)
        (then_do (value context.later context.activation.around tree s)
        (λ x t. Gave (shifted Address ShiftLeft x count) t))
        (Arrives context.activation top base to (WordIsGiven context last number Address r memory))
    by_word true is given =
        let most = leb-true 16 count is in
        zero_does (λ x. (x * 2 ^ count) % 65536) number from s r memory sound
        (λ x t same. left_far_number x count most) operand
        (none_kept (omega (arith, most))) less room height given going
    by_word false is given = by_byte (nat_le 8 count) refl given
