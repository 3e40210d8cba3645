-- Shifts of an ADDRESS right by a number, in HL.
use Rattle.task_laws.proofs.Prelude.{◌≡◌, ℕ, ◌+◌, ◌-◌, ◌*◌, ◌/◌, ◌%◌, ◌^◌, ◌<◌, ◌≤◌, ◌==◌, nat_le, Bool, true, false, if◌then◌else◌, List, [], ◌∷◌, ◌++◌, refl, sym, ap, ◌∙◌, subst, arith, eqb-true, leb-true, leb-false, append_assoc, xor_self, Address, ShiftRight, height_of, type_of, TypedExpression, SourceState, Gave, then_do, Instr, AccumulateImmediate, Rar, Rrc, And, ExclusiveOr, Or, A, H, L, Registers, by_eight, half_small, halves, none_left, quarter_high_small, quarter_low_small, quarters, none_right, ExpressionNumber, keeps_none, Does, at_place, Arrives, HasRoom, Facts, Step, CallRoutine, Plain, clear_a, copy, set, with_register, extension_steps, part_of, plain, keeps, fits_byte, byte_shifted_right_steps, right_shift_steps, byte_zero_steps, knowing, high_byte_steps, quarter_steps, shifted_right_little_steps, word_routine, word_shifted_right_steps, Context, IsSound, StepsStand, PartThere, PartDoes, WordIsGiven, word_from_halves, low_is_byte}
use Rattle.runtime8080.specs.declared.routine.Routine.TheVariants as routines
use Rattle.steps8080.specs.declared.step.Task.TheVariants as tasks
use Rattle.exprgen8080.specs.internal.WordShifts.{half_steps, zero_steps}
use Rattle.task_laws.proofs.Words.AndNumbers.{HighHalvesGiven, extended, extended_then}
use Rattle.task_laws.proofs.Bytes.ByteCode.{CodeOfA, at_last_instructions}
use Rattle.task_laws.proofs.Bytes.ByteShiftNumbers.{both_straight, shifted_code}
use Rattle.task_laws.proofs.Bytes.BytesAsked.{HighIsGiven}
use Rattle.task_laws.proofs.Machine.KnownOperands.{quotient_less}
use Rattle.task_laws.proofs.Words.LeftShifts.{zero_does}
use Rattle.task_laws.proofs.Words.Multiples.{effect_on, plain_on}
use Rattle.task_laws.proofs.Words.PairedWords.{kept_none}
use Rattle.task_laws.proofs.Words.Pairs.{IsOperand}
use Rattle.task_laws.proofs.Ranges.Ranges.{fits_means, ready_fits, value_fits}
use Rattle.task_laws.proofs.Machine.RegisterCode.{AreOnRegisters, effect, registers_then}
use Rattle.task_laws.proofs.Machine.Rules.{GoesOn, steps_split}
use Rattle.task_laws.proofs.Machine.SiteNodes.{value_in}
use Rattle.task_laws.proofs.Machine.Stages.{Stage, at_byte, at_carried, at_effects, at_instructions, loaded_in}
use Rattle.task_laws.proofs.Machine.Values.{HasWord, word_given, word_then}
use Rattle.task_laws.proofs.Words.WordArithmetic.{has_word}
use Rattle.task_laws.proofs.Words.WordForms.{straight_does}
use Rattle.task_laws.proofs.Words.WordRoutines.{shift_then}
use Rattle.task_laws.proofs.Numbers.{address_is_word, byte_is_word, equals_byte, half_is_byte}
use Rattle.task_laws.proofs.Heights.{some_height}

no_shift : (a count : ℕ) → count ≡ 0 → a ≡ a / 2 ^ count
no_shift a count none = sym (ap (λ n. a / 2 ^ n) none ∙ whole a)
  where
    whole : (a : ℕ) → a / 2 ^ 0 ≡ a
    whole a = omega arith

-- code that makes a byte in A, and then that with zeros added in HL
coded_then :
    {context : Context} {top pushed need from to : ℕ} {base : List ℕ} {facts last : Facts}
    {steps : List Step} {f : ℕ → ℕ}
    (code : CodeOfA steps f) (number : ExpressionNumber) (n : ℕ) (t : SourceState) (r now : Registers)
    (memory ended : List ℕ) (sound : IsSound context)
    → keeps context.site number ≡ keeps_none
    → n < 256
    → f now.a ≡ n
    → StepsStand context (PartDoes context) facts from (steps ++ extension_steps) last to
    → Stage context top pushed need base t facts now ended
    → Does (loaded_in context) t.budget 0 (at_place from now ended t.events) (Gave n t)
    (Arrives context.activation top base to (WordIsGiven context last number Address r memory))
coded_then {context = context} {from = from} {to = to} {facts = facts} {last = last} code number n t r now
    memory ended sound none small is stand stage =
    let extension : List Instr = copy L A ∷ set H 0 ∷ [] in
    at_last_instructions (code.instructions ++ extension) sound
    (both_straight code.instructions extension code.on (tt, (tt, tt)))
    (subst (λ (list : List Step). StepsStand context (PartDoes context) facts from list last to)
    (ap (λ (list : List Step). list ++ extension_steps) code.same
    ∙ sym (plain_on code.instructions extension)) stand) stage
    (λ final.
    word_given t (byte_is_word n small)
    (subst (λ (after : Registers). HasWord n after) (sym (effect_on code.instructions extension now))
    (extended n (effect code.instructions now) small (code.makes now stage.ready.registers.a ∙ is)))
    (kept_none context number r _ none) (record { ready = final.ready; known = final.known }))

-- HL shifted by 1 and by 2
abbrev half_instructions : List Instr
half_instructions = with_register Or A ∷ copy A H ∷ Rar ∷ copy H A ∷ copy A L ∷ Rar ∷ copy L A ∷ []

abbrev quarter_instructions : List Instr
quarter_instructions =
    copy A L ∷ with_register ExclusiveOr H ∷ AccumulateImmediate And 0xfc ∷ with_register ExclusiveOr H
    ∷ Rrc ∷ Rrc ∷ copy L A
    ∷ copy A H ∷ AccumulateImmediate And 0xfc
    ∷ Rrc ∷ Rrc ∷ copy H A ∷ []

half_makes : (x : ℕ) (now : Registers) → x < 65536 → HasWord x now
    → HasWord (x / 2) (effect half_instructions now)
half_makes x now small has =
    let after : Registers = effect half_instructions now in
    let h_small = half_is_byte now.h x has.h small in
    let l_small = low_is_byte now.l x has.l in
    let is =
    has_word (x / 2) after.h after.l (half_small now.h false h_small)
    (half_small now.l (now.h % 2 == 1) l_small)
    (halves now.h now.l false refl ∙ ap (λ n. n / 2) (word_from_halves x now.h now.l has.h has.l)) in
    record { h = is.0; l = is.1 }

quarter_makes : (x : ℕ) (now : Registers) → x < 65536 → HasWord x now
    → HasWord (x / 4) (effect quarter_instructions now)
quarter_makes x now small has =
    let after : Registers = effect quarter_instructions now in
    let h_small = half_is_byte now.h x has.h small in
    let l_small = low_is_byte now.l x has.l in
    let is =
    has_word (x / 4) after.h after.l (quarter_high_small now.h h_small)
    (quarter_low_small now.h now.l h_small l_small)
    (quarters now.h now.l h_small l_small ∙ ap (λ n. n / 4) (word_from_halves x now.h now.l has.h has.l)) in
    record { h = is.0; l = is.1 }

less_shifted : (x count limit : ℕ) → x < limit → x / 2 ^ count < limit
less_shifted x count limit small =
    let less : x / 2 ^ count ≤ x = quotient_less x (2 ^ count) in omega (arith, less, small)

low_count : (count : ℕ) → count < 8 → count % 256 ≡ count
low_count count few = omega (arith, few)

eight_back : (count : ℕ) → 8 ≤ count → count ≡ 8 + (count - 8)
eight_back count most = omega (arith, most)

few_more : (count : ℕ) → count < 16 → 8 ≤ count → count - 8 < 8
few_more count few most = omega (arith, few, most)

module _
    {context : Context} {pushed top need to : ℕ} {base : List ℕ} {facts last : Facts}
    {other : ExpressionNumber}
    {tree : TypedExpression} (count : ℕ) (number : ExpressionNumber) (from : ℕ)
    (s : SourceState) (r : Registers)
    (memory : List ℕ) (sound : IsSound context) (operand : IsOperand context other tree)
    (address : type_of tree ≡ Address)
    (none : keeps context.site number ≡ keeps_none) (less : s.budget < context.number)
    (room : HasRoom context.activation top pushed need) (height : 2 * height_of tree ≤ need)
    (going : GoesOn context facts top base s.memory s.frame r memory) where
  -- by a number below 8
  little_does :
      count < 8
      → StepsStand context (PartDoes context) facts from
      (shifted_right_little_steps other count pushed) last to
      → Does (loaded_in context) s.budget 0 (at_place from r memory s.events)
      (then_do (value_in context tree s) (λ x t. Gave (x / 2 ^ count) t))
      (Arrives context.activation top base to (WordIsGiven context last number Address r memory))
  unfolding shifted_right_little_steps half_steps quarter_steps word_routine
  little_does few stand = by (count == 0) (count == 1) (count == 2) refl refl refl stand
    where
      straight :
          (instructions : List Instr) (f : ℕ → ℕ)
          → AreOnRegisters instructions
          → ((x : ℕ) (now : Registers) → x < 65536 → HasWord x now → HasWord (f x) (effect instructions now))
          → ((x : ℕ) → x / 2 ^ count ≡ f x)
          → StepsStand context (PartDoes context) facts from
          (part_of (tasks.Word other) pushed ∷ plain instructions) last to
          → Does (loaded_in context) s.budget 0 (at_place from r memory s.events)
          (then_do (value_in context tree s) (λ x t. Gave (x / 2 ^ count) t))
          (Arrives context.activation top base to (WordIsGiven context last number Address r memory))
      straight instructions f on makes is stand =
          straight_does instructions (λ x. x / 2 ^ count) number from s r memory sound on
          (λ x now small has. subst (λ (n : ℕ). HasWord n (effect instructions now)) (sym (is x))
          (makes x now small has))
          (λ x small. less_shifted x count 65536 small) operand none less room height stand going

      by : (zero_test one two : Bool) → (count == 0) ≡ zero_test → (count == 1) ≡ one → (count == 2) ≡ two
          → StepsStand context (PartDoes context) facts from
          (part_of (tasks.Word other) pushed
          ∷ (if zero_test then []
          else if one then plain half_instructions
          else if two then plain quarter_instructions
          else Plain (set A (count % 256)) ∷ CallRoutine routines.ShiftRightAddress ∷ [])) last to
          → Does (loaded_in context) s.budget 0 (at_place from r memory s.events)
          (then_do (value_in context tree s) (λ x t. Gave (x / 2 ^ count) t))
          (Arrives context.activation top base to (WordIsGiven context last number Address r memory))
      by true one two zero_is one_is two_is given =
          straight [] (λ x. x) tt (λ x now small has. has)
          (λ x. sym (no_shift x count (eqb-true count 0 zero_is))) given
      by false true two zero_is one_is two_is given =
          straight half_instructions (λ x. x / 2) (tt, (tt, (tt, (tt, (tt, (tt, (tt, tt))))))) half_makes
          (λ x. ap (λ n. x / 2 ^ n) (eqb-true count 1 one_is)) given
      by false false true zero_is one_is two_is given =
          straight quarter_instructions (λ x. x / 4)
          (tt, (tt, (tt, (tt, (tt, (tt, (tt, (tt, (tt, (tt, (tt, (tt, tt)))))))))))) quarter_makes
          (λ x. ap (λ n. x / 2 ^ n) (eqb-true count 2 two_is)) given
      by false false false zero_is one_is two_is (PartThere part rest) =
          word_then from s r memory part operand.is operand.types less room height going
          (λ x t now ended same fewer going_on given.
          registers_then (set A (count % 256) ∷ []) (CallRoutine routines.ShiftRightAddress ∷ []) now sound
          (tt, tt) rest going_on
          (λ middle found stand_on going_last.
          let some = some_height tree in
          shift_then ShiftRight x count number t r _ memory ended sound tt room
          (omega (arith, some, height)) none
          (record { h = given.h; l = given.l }) (low_count count few) stand_on going_last))

  -- of a value below 256
  byte_shift_does :
      fits_byte (knowing context.site facts) other ≡ true
      → StepsStand context (PartDoes context) facts from
      (byte_shifted_right_steps other count pushed ++ extension_steps) last to
      → Does (loaded_in context) s.budget 0 (at_place from r memory s.events)
      (then_do (value_in context tree s) (λ x t. Gave (x / 2 ^ count) t))
      (Arrives context.activation top base to (WordIsGiven context last number Address r memory))
  unfolding byte_shifted_right_steps byte_zero_steps
  byte_shift_does fits stand = by (nat_le 8 count) refl stand
    where
      stage : Stage context top pushed need base s facts r memory
      stage = record { below = less; room = room; ready = going.ready; known = going.known }

      below : (x : ℕ) (t : SourceState) → value_in context tree s ≡ Gave x t → x < 256
      below x t same =
          fits_means context sound facts s operand.is operand.types fits
          (ready_fits context s going.ready) same

      by : (most : Bool) → nat_le 8 count ≡ most
          → StepsStand context (PartDoes context) facts from
          ((if most then part_of (tasks.Effects other) pushed ∷ Plain clear_a ∷ []
          else part_of (tasks.Byte other) pushed ∷ right_shift_steps count) ++ extension_steps) last to
          → Does (loaded_in context) s.budget 0 (at_place from r memory s.events)
          (then_do (value_in context tree s) (λ x t. Gave (x / 2 ^ count) t))
          (Arrives context.activation top base to (WordIsGiven context last number Address r memory))
      by true is (PartThere part stand) =
          at_effects _ _ _ part operand.is operand.types height stage
          (λ x t now ended same next.
          at_instructions (clear_a ∷ []) extension_steps sound (tt, tt) stand next
          (λ middle found rest after.
          extended_then number sound none (x / 2 ^ count) t r _ memory ended
          (less_shifted x count 256 (below x t same))
          (xor_self now.a ∙ sym (none_right count x (leb-true 8 count is) (below x t same))) rest after))
      by false is (PartThere part stand) =
          at_byte _ _ _ part operand.is operand.types height stage
          (λ x t now ended same given next.
          coded_then (shifted_code count (leb-false 8 count is)) number (x / 2 ^ count) t r now
          memory ended sound none
          (less_shifted x count 256 (below x t same))
          (ap (λ n. n / 2 ^ count) (equals_byte now.a x given.a (below x t same))) stand next)

  -- of the high byte
  high_shift_does :
      HighHalvesGiven context
      → 8 ≤ count
      → count < 16
      → StepsStand context (PartDoes context) facts from
      (high_byte_steps (knowing context.site facts) other pushed ++ right_shift_steps (count - 8)
      ++ extension_steps) last to
      → Does (loaded_in context) s.budget 0 (at_place from r memory s.events)
      (then_do (value_in context tree s) (λ x t. Gave (x / 2 ^ count) t))
      (Arrives context.activation top base to (WordIsGiven context last number Address r memory))
  high_shift_does highs most few stand =
      let parts =
      steps_split (high_byte_steps (knowing context.site facts) other pushed)
      (right_shift_steps (count - 8) ++ extension_steps)
      (subst (λ (steps : List Step). StepsStand context (PartDoes context) facts from steps last to)
      (append_assoc (high_byte_steps (knowing context.site facts) other pushed)
      (right_shift_steps (count - 8)) extension_steps) stand) in
      at_carried from parts.middle parts.found
      (highs facts parts.found other pushed from parts.middle operand.bound tree operand.is
      operand.types parts.first)
      height tt
      (λ x now ended (given : HighIsGiven context parts.found r memory x now ended). given.known)
      (record { below = less; room = room; ready = going.ready; known = going.known })
      (λ x t now ended same given next.
      let is = ap (λ n. n / 2 ^ (count - 8)) given.a ∙ by_eight x count (count - 8) (eight_back count most) in
      let a_small = next.ready.registers.a in
      coded_then (shifted_code (count - 8) (few_more count few most)) number (x / 2 ^ count) t r now
      memory ended sound none
      (subst (λ (n : ℕ). n < 256) is (less_shifted now.a (count - 8) 256 a_small)) is parts.second next)

  -- a shift to the right by a number
  pub right_does :
      HighHalvesGiven context
      → StepsStand context (PartDoes context) facts from
      (word_shifted_right_steps (knowing context.site facts) other count pushed) last to
      → Does (loaded_in context) s.budget 0 (at_place from r memory s.events)
      (then_do (value_in context tree s) (λ x t. Gave (x / 2 ^ count) t))
      (Arrives context.activation top base to (WordIsGiven context last number Address r memory))
  unfolding word_shifted_right_steps
  right_does highs stand =
      by_none (count == 0) (nat_le 16 count) (fits_byte (knowing context.site facts) other) (nat_le 8 count)
      refl refl refl refl stand
    where
      by_none : (zero_test most fits more : Bool)
          → (count == 0) ≡ zero_test → nat_le 16 count ≡ most
          → fits_byte (knowing context.site facts) other ≡ fits → nat_le 8 count ≡ more
          → StepsStand context (PartDoes context) facts from
          (if zero_test then part_of (tasks.Word other) pushed ∷ []
          else if most then zero_steps other pushed
          else if fits then byte_shifted_right_steps other count pushed ++ extension_steps
          else if more
          then high_byte_steps (knowing context.site facts) other pushed
          ++ right_shift_steps (count - 8) ++ extension_steps
          else shifted_right_little_steps other count pushed) last to
          → Does (loaded_in context) s.budget 0 (at_place from r memory s.events)
          (then_do (value_in context tree s) (λ x t. Gave (x / 2 ^ count) t))
          (Arrives context.activation top base to (WordIsGiven context last number Address r memory))
      by_none true most fits more zero_is most_is fits_is more_is given =
          straight_does [] (λ x. x / 2 ^ count) number from s r memory sound tt
          (λ x now small has. subst (λ (n : ℕ). HasWord n now)
          (no_shift x count (eqb-true count 0 zero_is)) has)
          (λ x small. less_shifted x count 65536 small) operand none less room height given going
      by_none false true fits more zero_is most_is fits_is more_is given =
          zero_does (λ x. x / 2 ^ count) number from s r memory sound
          (λ x t same. none_left x count (leb-true 16 count most_is)
          (address_is_word x (type_of tree) address
          (value_fits s sound operand.is operand.types (ready_fits context s going.ready) same))) operand
          none less room height given going
      by_none false false true more zero_is most_is fits_is more_is given = byte_shift_does fits_is given
      by_none false false false true zero_is most_is fits_is more_is given =
          high_shift_does highs (leb-true 8 count more_is) (leb-false 16 count most_is) given
      by_none false false false false zero_is most_is fits_is more_is given =
          little_does (leb-false 8 count more_is) given
