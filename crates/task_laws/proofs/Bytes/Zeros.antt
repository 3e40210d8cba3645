-- Tests whether an ADDRESS is 0: by its value in HL, or by the byte that a mask keeps.
use Rattle.task_laws.proofs.Prelude.{◌≡◌, ℕ, ◌*◌, ◌/◌, ◌%◌, ◌<◌, ◌≤◌, ◌==◌, Bool, true, false, ◌||◌, nat_lt, bit_and, List, [], ◌∷◌, ◌++◌, refl, sym, ap, ◌∙◌, subst, arith, if◌then◌else◌, ltb-true, eqb-true, eqb-false, eq-eqb, ne_eqb, and_le_l, and_le_r, and_mod, and_shr, height_of, type_of, TypedExpression, TypesHold, SourceState, Gave, then_do, values_of, AccumulateImmediate, And, operate, Registers, ExpressionNumber, IsExpression, Facts, Plain, high, low, part, Arrives, Does, at_place, does_without_step, same_test, Is, Purpose, Branch, Value, Setting, number_in_a_steps, masked_steps, zero_by_hl_steps, knowing, Context, IsSound, nodes_in, StepsStand, PartThere, PlainThere, Carries, Nothing, PartDoes, low_of_byte}
use lib.Bits.{and_zero_r}
use Rattle.trees.specs.declared.declaration.ScalarType.TheVariants as scalars
use Rattle.steps8080.specs.declared.step.Task.TheVariants as tasks
use Rattle.operands8080.specs.internal.WordRelations.{high_byte_steps}
use Rattle.task_laws.proofs.Relations.Answers.{ZeroShows}
use Rattle.task_laws.proofs.Branches.Branches.{given_itself}
use Rattle.task_laws.proofs.Bytes.BytesAsked.{HighBytesGiven, HighIsGiven, ZeroIsShown}
use Rattle.task_laws.proofs.Relations.NumberComparisons.{number_in_a}
use Rattle.task_laws.proofs.Machine.Rules.{steps_split}
use Rattle.task_laws.proofs.Machine.SiteNodes.{value_in}
use Rattle.task_laws.proofs.Machine.Stages.{Stage, stage_with_a, at_byte, at_carried, at_end, at_word, does_same, loaded_in}
use Rattle.task_laws.proofs.Relations.WordNumbers.{word_is}

abbrev IsBranch : Purpose → Type 0
IsBranch Branch = Unit {0}
IsBranch Value = ⊥

abbrev IsValue : Purpose → Type 0
IsValue Branch = ⊥
IsValue Value = Unit {0}

shown_zero :
    (context : Context) (last : Facts) (purpose : Purpose) (r now : Registers)
    (memory memory_now : List ℕ) (found : ℕ)
    → ZeroShows purpose (found == 0) now
    → Rattle.task_laws.specs.internal.Tasks.Know context last now memory_now
    → ZeroIsShown context last purpose r memory found now memory_now
shown_zero context last Branch r now memory memory_now found shows known =
    record { flag = λ same. shows; value = λ same. absurd (differ same); known = known }
  where
    differ : Branch ≡ Value → ⊥
    differ same = subst IsBranch same tt
shown_zero context last Value r now memory memory_now found shows known =
    record { flag = λ same. absurd (differ same); value = λ same. shows; known = known }
  where
    differ : Value ≡ Branch → ⊥
    differ same = subst IsValue same tt

pub low_mask : (v n : ℕ) → n < 256 → bit_and (v % 256) (n % 256) ≡ bit_and v n
low_mask v n small =
    let less = and_le_r v n in
    sym (and_mod v n 8) ∙ low_of_byte (bit_and v n) (omega (arith, less, small))

high_mask : (v n : ℕ) → n % 256 ≡ 0 → (bit_and (v / 256) (n / 256) == 0) ≡ (bit_and v n == 0)
high_mask v n is =
    let highs : bit_and v n / 256 ≡ bit_and (v / 256) (n / 256) = and_shr v n 8 in
    let lows : bit_and v n % 256 ≡ 0 =
    and_mod v n 8 ∙ (ap (λ m. bit_and (v % 256) m) is ∙ and_zero_r (v % 256)) in
    same_test (bit_and (v / 256) (n / 256) == 0) (bit_and v n == 0)
    (λ here. eq-eqb (bit_and v n) 0 (omega
    (arith, highs, lows, eqb-true (bit_and (v / 256) (n / 256)) 0 here)))
    (λ here. ne_eqb (bit_and v n) 0 (λ same. eqb-false (bit_and (v / 256) (n / 256)) 0 here
    (omega (arith, highs, same))))

module _
    (context : Context) (facts last : Facts) (setting : Setting) (from to bound : ℕ)
    (sound : IsSound context) (highs : HighBytesGiven context) where
  -- by the value in HL
  pub zero_by_hl :
      (operand : ExpressionNumber) (tree : TypedExpression)
      → IsExpression (nodes_in context) context.storage bound operand.index tree
      → TypesHold context.typed context.within tree
      → type_of tree ≡ scalars.Address
      → StepsStand context (PartDoes context) facts from (zero_by_hl_steps operand setting.pushed) last to
      → Carries context facts setting.pushed (2 * height_of tree) 0 from to Nothing (value_in context tree)
      (ZeroIsShown context last setting.purpose)
  zero_by_hl operand tree node types is_address (PartThere does stand) top base s r memory below room
      ready known nothing =
      does_same _ (given_itself (value_in context tree s))
      (at_word _ _ _ does node types (omega arith)
      (record { below = below; room = room; ready = ready; known = known })
      (λ v u now memory_now is given next.
      word_is sound v 0 given.h given.l (subst (λ scalar. v < values_of scalar) is_address given.small)
      (omega arith) stand next
      (λ end flag zero final.
      does_without_step (record {
        r = end;
        memory = memory_now;
        is_at = refl;
        ready = final.ready;
        holds = record { flag = λ same. flag; value = λ same. zero; known = final.known };
      }))))

  -- by the byte that a mask leaves
  pub zero_by_mask :
      (inner : ExpressionNumber) (tree inside : TypedExpression) (mask : ℕ)
      → IsExpression (nodes_in context) context.storage bound inner.index inside
      → TypesHold context.typed context.within inside
      → type_of inside ≡ scalars.Address
      → height_of inside ≤ height_of tree
      → ((t : SourceState) → value_in context tree t
      ≡ then_do (value_in context inside t) (λ v u. Gave (bit_and v mask) u))
      → (nat_lt mask 256 || (mask % 256 == 0)) ≡ true
      → StepsStand context (PartDoes context) facts from
      (masked_steps (knowing context.site facts) inner mask setting.pushed
      ++ number_in_a_steps (Is 0) setting) last to
      → Carries context facts setting.pushed (2 * height_of tree) 0 from to Nothing (value_in context tree)
      (ZeroIsShown context last setting.purpose)
  zero_by_mask inner tree inside mask node types is_address less means one_byte stand top base s r memory
      below room ready known nothing =
      does_same _ (means s)
      (by (nat_lt mask 256) refl (steps_split
      (masked_steps (knowing context.site facts) inner mask setting.pushed)
      (number_in_a_steps (Is 0) setting) stand).first)
    where
      parts : Rattle.task_laws.proofs.Machine.Rules.Parted context (PartDoes context) facts from
          (masked_steps (knowing context.site facts) inner mask setting.pushed)
          (number_in_a_steps (Is 0) setting) last to
      parts = steps_split (masked_steps (knowing context.site facts) inner mask setting.pushed)
          (number_in_a_steps (Is 0) setting) stand

      stage : Stage context top setting.pushed (2 * height_of tree) base s facts r memory
      stage = record { below = below; room = room; ready = ready; known = known }

      arrived :
          (v byte : ℕ) (u : SourceState) (now : Registers) (memory_now : List ℕ)
          → now.a ≡ byte
          → byte < 256
          → (byte == 0) ≡ (bit_and v mask == 0)
          → Stage context top setting.pushed (2 * height_of tree) base u parts.found now memory_now
          → Does (loaded_in context) u.budget 0 (at_place parts.middle now memory_now u.events)
          (Gave (bit_and v mask) u)
          (Arrives context.activation top base to (ZeroIsShown context last setting.purpose r memory))
      arrived v byte u now memory_now a small same next =
          number_in_a sound (Is 0) setting byte a small parts.second next
          (λ end shows final.
          does_without_step (record {
            r = end;
            memory = memory_now;
            is_at = refl;
            ready = final.ready;
            holds = shown_zero context last setting.purpose r end memory memory_now (bit_and v mask)
                (subst (λ b. ZeroShows setting.purpose b end) same shows) final.known;
          }))

      by : (is_low : Bool) → nat_lt mask 256 ≡ is_low
          → StepsStand context (PartDoes context) facts from
          (if is_low then part (tasks.Byte inner) setting.pushed
          ∷ Plain (AccumulateImmediate And (low mask)) ∷ []
          else high_byte_steps (knowing context.site facts) inner setting.pushed
          ++ (Plain (AccumulateImmediate And (high mask)) ∷ []))
          parts.found parts.middle
          → Does (loaded_in context) s.budget 0 (at_place from r memory s.events)
          (then_do (value_in context inside s) (λ v u. Gave (bit_and v mask) u))
          (Arrives context.activation top base to (ZeroIsShown context last setting.purpose r memory))
      by true is (PartThere does (PlainThere there ends)) =
          at_byte _ _ _ does node types (omega (arith, less)) stage
          (λ v u now memory_now equal given next.
          let smaller = and_le_l now.a (low mask) in
          let a_small = next.ready.registers.a in
          stage_with_a (bit_and now.a (low mask)) (operate And now.a (low mask) now.flags).flags sound next
          there refl (omega (arith, smaller, a_small)) tt
          (λ masked. at_end ends masked
          (λ final.
          let mask_small = ltb-true mask 256 is in
          let all = low_mask v mask mask_small in
          let bounded = and_le_r v mask in
          arrived v (bit_and v mask) u _ memory_now (ap (λ n. bit_and n (low mask)) given.a ∙ all)
          (omega (arith, bounded, mask_small)) refl final)))
      by false is stands =
          let inner_parts =
          steps_split (high_byte_steps (knowing context.site facts) inner setting.pushed)
          (Plain (AccumulateImmediate And (high mask)) ∷ []) stands in
          at_carried {top = top} {need = 2 * height_of tree} {base = base} _ _ _
          (highs facts inner_parts.found inner setting.pushed from inner_parts.middle bound inside node types
          is_address inner_parts.first)
          (omega (arith, less)) tt
          (λ v now memory_now (given : HighIsGiven context inner_parts.found r memory v now memory_now). given.known) stage
          (λ v u now memory_now equal given next. after_high v u now memory_now given.a
          inner_parts.second next)
        where
          even : mask % 256 ≡ 0
          even = eqb-true (mask % 256) 0 (sym (ap (λ b. b || (mask % 256 == 0)) is) ∙ one_byte)

          after_high :
              (v : ℕ) (u : SourceState) (now : Registers) (memory_now : List ℕ) {found : Facts} {middle : ℕ}
              → now.a ≡ v / 256
              → StepsStand context (PartDoes context) found middle
              (Plain (AccumulateImmediate And (high mask)) ∷ []) parts.found parts.middle
              → Stage context top setting.pushed (2 * height_of tree) base u found now memory_now
              → Does (loaded_in context) u.budget 0 (at_place middle now memory_now u.events)
              (Gave (bit_and v mask) u)
              (Arrives context.activation top base to (ZeroIsShown context last setting.purpose r memory))
          after_high v u now memory_now a (PlainThere there ends) next =
              let smaller = and_le_l now.a (high mask) in
              let a_small = next.ready.registers.a in
              stage_with_a (bit_and now.a (high mask)) (operate And now.a (high mask) now.flags).flags sound
              next there refl (omega (arith, smaller, a_small)) tt
              (λ masked. at_end ends masked
              (λ final.
              arrived v (bit_and now.a (high mask)) u _ memory_now refl (omega (arith, smaller, a_small))
              (ap (λ n. bit_and n (high mask) == 0) a ∙ high_mask v mask even) final))
