-- AND of an ADDRESS and a number in HL; a byte of the number may be 0.
use Rattle.task_laws.proofs.Prelude.{◌≡◌, ℕ, ◌*◌, ◌/◌, ◌%◌, ◌<◌, ◌≤◌, ◌==◌, nat_lt, Bool, true, false, if◌then◌else◌, List, [], ◌∷◌, ◌++◌, bit_and, refl, sym, ap, ◌∙◌, subst, arith, eqb-true, ltb-true, append_assoc, and_le_r, xor_self, and_zero_r, Address, height_of, type_of, TypedExpression, TypesHold, SourceState, Gave, then_do, AccumulateImmediate, And, A, H, L, Registers, ExpressionNumber, IsExpression, keeps_none, Does, at_place, Arrives, HasRoom, Facts, Step, Plain, clear_a, copy, high, low, set, extension_steps, part_of, plain, keeps, immediate_steps, with_number_steps, knowing, high_byte_steps, and_with_number_steps, both_halves_steps, high_half_steps, logic_with_number_steps, Context, IsSound, nodes_in, StepsStand, PartThere, Carries, Nothing, PartDoes, WordIsGiven, byte_is_low}
use Rattle.steps8080.specs.declared.step.Task.TheVariants as tasks
use Rattle.task_laws.proofs.Bytes.BytesAsked.{HighIsGiven}
use Rattle.task_laws.proofs.Words.LogicNumbers.{and_full, bits_high, bits_low, halves_do}
use Rattle.task_laws.proofs.Words.PairedWords.{kept_none}
use Rattle.task_laws.proofs.Words.Pairs.{IsOperand}
use Rattle.task_laws.proofs.Machine.RegisterCode.{effect}
use Rattle.task_laws.proofs.Machine.Rules.{GoesOn, steps_split}
use Rattle.task_laws.proofs.Machine.SiteNodes.{value_in}
use Rattle.task_laws.proofs.Machine.Stages.{Stage, at_byte, at_carried, at_effects, at_end, at_instructions, loaded_in}
use Rattle.task_laws.proofs.Machine.Values.{HasWord, word_given}
use Rattle.task_laws.proofs.Bytes.Zeros.{low_mask}
use Rattle.task_laws.proofs.Numbers.{byte_is_word, no_high_byte}

-- the high byte of a value, 0 for a BYTE, is put into A
abbrev pub HighHalvesGiven : Context → Type 0
HighHalvesGiven context =
    (facts last : Facts) (number : ExpressionNumber) (pushed from to bound : ℕ) (tree : TypedExpression)
    → IsExpression (nodes_in context) context.storage bound number.index tree
    → TypesHold context.typed context.within tree
    → StepsStand context (PartDoes context) facts from
    (high_byte_steps (knowing context.site facts) number pushed) last to
    → Carries context facts pushed (2 * height_of tree) 0 from to Nothing (value_in context tree)
    (HighIsGiven context last)

nothing_left : (x n : ℕ) → n < 256 → n % 256 ≡ 0 → bit_and x n ≡ 0
nothing_left x n small none = ap (bit_and x) (zero_is n small none) ∙ and_zero_r x
  where
    zero_is : (n : ℕ) → n < 256 → n % 256 ≡ 0 → n ≡ 0
    zero_is n small none = omega (arith, small, none)

and_under : (x n limit : ℕ) → n < limit → bit_and x n < limit
and_under x n limit small = let less : bit_and x n ≤ n = and_le_r x n in omega (arith, less, small)

-- a byte in A is put into HL
pub extended : (n : ℕ) (now : Registers) → n < 256 → now.a ≡ n
    → HasWord n (effect (copy L A ∷ set H 0 ∷ []) now)
extended n now small same = record { h = no_high_byte n small; l = same ∙ byte_is_low n small }

module _
    {context : Context} {top pushed need to : ℕ} {base : List ℕ} {last : Facts} (number : ExpressionNumber)
    (sound : IsSound context) (none : keeps context.site number ≡ keeps_none) where
  -- A holds a value below 256
  pub extended_then :
      {facts : Facts} {from : ℕ} (n : ℕ) (t : SourceState) (r now : Registers) (memory ended : List ℕ)
      → n < 256
      → now.a ≡ n
      → StepsStand context (PartDoes context) facts from extension_steps last to
      → Stage context top pushed need base t facts now ended
      → Does (loaded_in context) t.budget 0 (at_place from now ended t.events) (Gave n t)
      (Arrives context.activation top base to (WordIsGiven context last number Address r memory))
  extended_then n t r now memory ended small same stand stage =
      at_instructions (copy L A ∷ set H 0 ∷ []) [] sound (tt, (tt, tt)) stand stage
      (λ middle found ends next. at_end ends next
      (λ final. word_given t (byte_is_word n small) (extended n now small same)
      (kept_none context number r _ none)
      (record { ready = final.ready; known = final.known })))

  module _ {facts : Facts} {other : ExpressionNumber} {tree : TypedExpression}
      (operand : IsOperand context other tree) where
    -- the low byte AND a number below 256
    low_half_does :
        (n from : ℕ) (s : SourceState) (r : Registers) (memory : List ℕ)
        → n < 256
        → s.budget < context.number
        → HasRoom context.activation top pushed need
        → 2 * height_of tree ≤ need
        → StepsStand context (PartDoes context) facts from
        (with_number_steps And other (low n) pushed ++ extension_steps) last to
        → GoesOn context facts top base s.memory s.frame r memory
        → Does (loaded_in context) s.budget 0 (at_place from r memory s.events)
        (then_do (value_in context tree s) (λ x t. Gave (bit_and x n) t))
        (Arrives context.activation top base to (WordIsGiven context last number Address r memory))
    unfolding with_number_steps immediate_steps
    low_half_does n from s r memory small less room height stand going =
        by (low n == 0) refl stand
      where
        stage : Stage context top pushed need base s facts r memory
        stage = record { below = less; room = room; ready = going.ready; known = going.known }

        Comes : Type 0
        Comes = Does (loaded_in context) s.budget 0 (at_place from r memory s.events)
            (then_do (value_in context tree s) (λ x t. Gave (bit_and x n) t))
            (Arrives context.activation top base to (WordIsGiven context last number Address r memory))

        by_full : (full : Bool) → (low n == 255) ≡ full
            → StepsStand context (PartDoes context) facts from
            (part_of (tasks.Byte other) pushed
            ∷ (if full then [] else Plain (AccumulateImmediate And (low n)) ∷ []) ++ extension_steps) last to
            → Comes
        by_full true is (PartThere part stand) =
            at_byte _ _ _ part operand.is operand.types height stage
            (λ x t now ended same given next.
            extended_then (bit_and x n) t r now memory ended (and_under x n 256 small)
            (given.a ∙ sym (and_full (x % 256) (omega arith))
            ∙ ap (bit_and (x % 256)) (sym (eqb-true (low n) 255 is)) ∙ low_mask x n small)
            stand next)
        by_full false is (PartThere part stand) =
            at_byte _ _ _ part operand.is operand.types height stage
            (λ x t now ended same given next.
            at_instructions (AccumulateImmediate And (low n) ∷ []) extension_steps sound (tt, tt) stand next
            (λ middle found rest after.
            extended_then (bit_and x n) t r _ memory ended (and_under x n 256 small)
            (ap (λ a. bit_and a (low n)) given.a ∙ low_mask x n small) rest after))

        by : (zero_test : Bool) → (low n == 0) ≡ zero_test
            → StepsStand context (PartDoes context) facts from
            ((if zero_test then part_of (tasks.Effects other) pushed ∷ Plain clear_a ∷ []
            else part_of (tasks.Byte other) pushed ∷ immediate_steps And (low n)) ++ extension_steps) last to
            → Comes
        by true is (PartThere part stand) =
            at_effects _ _ _ part operand.is operand.types height stage
            (λ x t now ended same next.
            at_instructions (clear_a ∷ []) extension_steps sound (tt, tt) stand next
            (λ middle found rest after.
            extended_then (bit_and x n) t r _ memory ended (and_under x n 256 small)
            (xor_self now.a ∙ sym (nothing_left x n small (eqb-true (low n) 0 is))) rest after))
        by false is given = by_full (low n == 255) refl given

    -- the high byte AND that of a number with the low byte 0
    high_half_does :
        (n from : ℕ) (s : SourceState) (r : Registers) (memory : List ℕ)
        → HighHalvesGiven context
        → type_of tree ≡ Address
        → n < 65536
        → n % 256 ≡ 0
        → s.budget < context.number
        → HasRoom context.activation top pushed need
        → 2 * height_of tree ≤ need
        → StepsStand context (PartDoes context) facts from
        (high_half_steps (knowing context.site facts) other (high n) pushed) last to
        → GoesOn context facts top base s.memory s.frame r memory
        → Does (loaded_in context) s.budget 0 (at_place from r memory s.events)
        (then_do (value_in context tree s) (λ x t. Gave (bit_and x n) t))
        (Arrives context.activation top base to (WordIsGiven context last number Address r memory))
    unfolding high_half_steps
    high_half_does n from s r memory highs address fits even less room height stand going =
        let parts = steps_split (high_byte_steps (knowing context.site facts) other pushed)
        ((if high n == 255 then [] else Plain (AccumulateImmediate And (high n)) ∷ [])
        ++ plain (copy H A ∷ set L 0 ∷ []))
        (subst (λ (steps : List Step). StepsStand context (PartDoes context) facts from steps last to)
        (append_assoc (high_byte_steps (knowing context.site facts) other pushed)
        (if high n == 255 then [] else Plain (AccumulateImmediate And (high n)) ∷ [])
        (plain (copy H A ∷ set L 0 ∷ []))) stand) in
        at_carried from parts.middle parts.found
        (highs facts parts.found other pushed from parts.middle operand.bound tree operand.is
        operand.types parts.first)
        height tt
        (λ x now ended (given : HighIsGiven context parts.found r memory x now ended). given.known)
        (record { below = less; room = room; ready = going.ready; known = going.known })
        (λ x t now ended same given next. masked x t now ended given.a (high n == 255) refl parts.second next)
      where
        made : (x a : ℕ) → a ≡ bit_and (x / 256) (n / 256) → (now : Registers) → now.h ≡ a → now.l ≡ 0
            → HasWord (bit_and x n) now
        made x a is now h l = record {
          h = h ∙ is ∙ bits_high And x n tt;
          l = l ∙ sym (and_zero_r (x % 256)) ∙ ap (bit_and (x % 256)) (sym even) ∙ bits_low And x n tt;
        }

        high_small : (x a : ℕ) → a ≡ x / 256 → a < 256 → x / 256 < 256
        high_small x a same small = omega (arith, same, small)

        masked :
            {found : Facts} {middle : ℕ} (x : ℕ) (t : SourceState) (now : Registers) (ended : List ℕ)
            → now.a ≡ x / 256
            → (full : Bool) → (high n == 255) ≡ full
            → StepsStand context (PartDoes context) found middle
            ((if full then [] else Plain (AccumulateImmediate And (high n)) ∷ [])
            ++ plain (copy H A ∷ set L 0 ∷ [])) last to
            → Stage context top pushed need base t found now ended
            → Does (loaded_in context) t.budget 0 (at_place middle now ended t.events) (Gave (bit_and x n) t)
            (Arrives context.activation top base to (WordIsGiven context last number Address r memory))
        masked x t now ended a true is given next =
            let a_small = next.ready.registers.a in
            at_instructions (copy H A ∷ set L 0 ∷ []) [] sound (tt, (tt, tt)) given next
            (λ middle found ends after. at_end ends after
            (λ final.
            word_given t (and_under x n 65536 fits)
            (made x now.a
            (a ∙ sym (and_full (x / 256) (high_small x now.a a a_small))
            ∙ ap (bit_and (x / 256)) (sym (eqb-true (high n) 255 is)))
            (effect (copy H A ∷ set L 0 ∷ []) now) refl refl)
            (kept_none context number r _ none) (record { ready = final.ready; known = final.known })))
        masked x t now ended a false is given next =
            at_instructions (AccumulateImmediate And (high n) ∷ copy H A ∷ set L 0 ∷ []) [] sound
            (tt, (tt, (tt, tt))) given next
            (λ middle found ends after. at_end ends after
            (λ final.
            word_given t (and_under x n 65536 fits)
            (made x (bit_and now.a (high n)) (ap (λ b. bit_and b (high n)) a)
            (effect (AccumulateImmediate And (high n) ∷ copy H A ∷ set L 0 ∷ []) now) refl refl)
            (kept_none context number r _ none) (record { ready = final.ready; known = final.known })))

    -- AND with a number
    pub and_number_does :
        (n from : ℕ) (s : SourceState) (r : Registers) (memory : List ℕ)
        → HighHalvesGiven context
        → type_of tree ≡ Address
        → n < 65536
        → s.budget < context.number
        → HasRoom context.activation top pushed need
        → 2 * height_of tree ≤ need
        → StepsStand context (PartDoes context) facts from
        (logic_with_number_steps (knowing context.site facts) And other n pushed) last to
        → GoesOn context facts top base s.memory s.frame r memory
        → Does (loaded_in context) s.budget 0 (at_place from r memory s.events)
        (then_do (value_in context tree s) (λ x t. Gave (bit_and x n) t))
        (Arrives context.activation top base to (WordIsGiven context last number Address r memory))
    unfolding logic_with_number_steps and_with_number_steps
    and_number_does n from s r memory highs address fits less room height stand going =
        by (nat_lt n 256) (low n == 0) refl refl stand
      where
        by : (is_byte is_high : Bool) → nat_lt n 256 ≡ is_byte → (low n == 0) ≡ is_high
            → StepsStand context (PartDoes context) facts from
            (if is_byte then with_number_steps And other (low n) pushed ++ extension_steps
            else if is_high then high_half_steps (knowing context.site facts) other (high n) pushed
            else both_halves_steps And other n pushed) last to
            → Does (loaded_in context) s.budget 0 (at_place from r memory s.events)
            (then_do (value_in context tree s) (λ x t. Gave (bit_and x n) t))
            (Arrives context.activation top base to (WordIsGiven context last number Address r memory))
        by true is_high here there given =
            low_half_does n from s r memory (ltb-true n 256 here) less room height given going
        by false true here there given =
            high_half_does n from s r memory highs address fits (eqb-true (low n) 0 there) less
            room height given going
        by false false here there given =
            halves_do And n number from s r memory sound tt fits operand none less room height given going
