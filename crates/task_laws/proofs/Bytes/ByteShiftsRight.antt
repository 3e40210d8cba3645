-- The low byte of any value shifted right by a number.
use Rattle.task_laws.proofs.Prelude.{◌≡◌, ℕ, zero, suc, ◌+◌, ◌-◌, ◌*◌, ◌/◌, ◌%◌, ◌^◌, ◌<◌, ◌≤◌, ◌==◌, Bool, true, false, nat_le, List, [], ◌∷◌, ◌++◌, replicate, pow-add, refl, sym, ap, ◌∙◌, subst, arith, if◌then◌else◌, eqb-true, eqb-false, leb-true, leb-false, false≢true, div-div-eq-div-mul, ScalarType, type_of, TypedExpression, values_of, Instr, Dad, Rar, Or, Hl, A, H, L, bit, Registers, ExpressionNumber, Facts, Plain, clear_a, copy, with_register, part, plain, repeat_steps, is_free, fits_byte, byte_shifted_right_steps, low_byte_shifted_right_steps, middle_byte_steps, right_shift_steps, zero_steps, knowing, high_byte_steps, Context, IsSound, StepsStand, PartDoes, halves_joined, high_is_byte, value_is_word, none_left}
use Rattle.trees.specs.declared.declaration.ScalarType.TheVariants as scalars
use Rattle.steps8080.specs.declared.step.Task.TheVariants as tasks
use Rattle.task_laws.proofs.Bytes.ByteCode.{ByteCarried, OfOne, all_straight, at_last_instructions, beside_itself, byte_makes, byte_of_word}
use Rattle.task_laws.proofs.Bytes.ByteForms.{byte_given}
use Rattle.task_laws.proofs.Bytes.ByteNumbers.{zero_after}
use Rattle.task_laws.proofs.Bytes.ByteShiftNumbers.{quotient_byte, right_by_number, shifted_code}
use Rattle.task_laws.proofs.Bytes.BytesAsked.{HighIsGiven}
use Rattle.task_laws.proofs.Bytes.HighHalves.{high_byte_law}
use Rattle.task_laws.proofs.Words.Multiples.{both_on, doubled_is, effect_on, plain_on, repeated, repeated_on}
use Rattle.task_laws.proofs.Ranges.Ranges.{fits_means, ready_fits}
use Rattle.task_laws.proofs.Machine.Rules.{steps_split}
use Rattle.task_laws.proofs.Machine.Stages.{at_carried, does_same}

-- by the high byte alone
by_high : (v count : ℕ) → 8 ≤ count → v / 256 / 2 ^ (count - 8) ≡ v / 2 ^ count
by_high v count most =
    div-div-eq-div-mul v 256 (2 ^ (count - 8))
    ∙ ap (λ p. v / p) (sym (pow-add 2 8 (count - 8)))
    ∙ ap (λ n. v / 2 ^ n) (omega (arith, most))

first_half : (v h l : ℕ) → h ≡ v / 256 → l ≡ v % 256 → l / 2 + 128 * (h % 2) ≡ v / 2 % 256
first_half v h l one two = omega (arith, one, two)

-- the middle byte of a word, from the word shifted left by 8 minus the count
middle : (count v : ℕ) → 1 ≤ count → count < 8 → v < 65536
    → (v * 2 ^ (8 - count)) % 65536 / 256 ≡ v / 2 ^ count % 256
middle zero v some few small = absurd (omega (arith, some))
middle (suc zero) v some few small = omega (arith, small)
middle (suc (suc zero)) v some few small = omega (arith, small)
middle (suc (suc (suc zero))) v some few small = omega (arith, small)
middle (suc (suc (suc (suc zero)))) v some few small = omega (arith, small)
middle (suc (suc (suc (suc (suc zero))))) v some few small = omega (arith, small)
middle (suc (suc (suc (suc (suc (suc zero)))))) v some few small = omega (arith, small)
middle (suc (suc (suc (suc (suc (suc (suc zero))))))) v some few small = omega (arith, small)
middle (suc (suc (suc (suc (suc (suc (suc (suc count)))))))) v some few small = absurd (omega (arith, few))

at_least : (scalar : ScalarType) → 256 ≤ values_of scalar
at_least scalars.Byte = omega arith
at_least scalars.Address = omega arith

byte_at_least : (scalar : ScalarType) (v : ℕ) → v < 256 → v < values_of scalar
byte_at_least scalar v small = let least = at_least scalar in omega (arith, least, small)

some_count : (count : ℕ) → (count == 0) ≡ false → 1 ≤ count
some_count zero none = absurd (false≢true (sym none))
some_count (suc count) none = omega arith

carried : (h l : ℕ) → l / 2 + 128 * bit (h % 2 == 1) ≡ l / 2 + 128 * (h % 2)
carried h l = by (h % 2 == 1) refl
  where
    by : (odd : Bool) → (h % 2 == 1) ≡ odd → l / 2 + 128 * bit odd ≡ l / 2 + 128 * (h % 2)
    by true is = let one = eqb-true (h % 2) 1 is in omega (arith, one)
    by false is = let other = eqb-false (h % 2) 1 is in omega (arith, other)

word_small : (h l : ℕ) → h < 256 → l < 256 → 256 * h + l < 65536
word_small h l one two = omega (arith, one, two)

high_there : (h l : ℕ) → l < 256 → h ≡ (256 * h + l) / 256
high_there h l small = omega (arith, small)

low_there : (h l : ℕ) → l < 256 → l ≡ (256 * h + l) % 256
low_there h l small = omega (arith, small)

module _
    (context : Context) {facts last : Facts} {from to pushed : ℕ} {number inner : ExpressionNumber}
    {tree inside : TypedExpression} (sound : IsSound context) where
  -- the middle byte
  middle_by_number :
      (count : ℕ) → 1 ≤ count → count < 8
      → OfOne context number inner tree inside (λ v. v / 2 ^ count) (values_of (type_of inside))
      → (is_free context.site number ≡ true → ⊥)
      → StepsStand context (PartDoes context) facts from (middle_byte_steps inner count pushed) last to
      → ByteCarried context facts number tree pushed from last to
  unfolding middle_byte_steps
  middle_by_number count some few one not_free stand = by (count == 1) refl stand
    where
      by : (single : Bool) → (count == 1) ≡ single
          → StepsStand context (PartDoes context) facts from
          (if single
          then part (tasks.Word inner) pushed
          ∷ plain (with_register Or A ∷ copy A H ∷ Rar ∷ copy A L ∷ Rar ∷ [])
          else part (tasks.Word inner) pushed ∷ repeat_steps (Dad Hl) (8 - count)
          ++ (Plain (copy A H) ∷ [])) last to
          → ByteCarried context facts number tree pushed from last to
      by true is given =
          byte_of_word context sound one (with_register Or A ∷ copy A H ∷ Rar ∷ copy A L ∷ Rar ∷ [])
          (λ h l. l / 2 + 128 * (h % 2)) (tt, (tt, (tt, (tt, (tt, tt)))))
          (λ r h_small l_small. carried r.h r.l)
          not_free
          (λ v fits. first_half v (v / 256) (v % 256) refl refl
          ∙ ap (λ n. v / 2 ^ n % 256) (sym (eqb-true count 1 is)))
          given
      by false is given =
          let turns : List Instr = replicate (8 - count) (Dad Hl) in
          byte_of_word context sound one (turns ++ (copy A H ∷ []))
          (λ h l. ((256 * h + l) * 2 ^ (8 - count)) % 65536 / 256)
          (all_straight (turns ++ (copy A H ∷ []))
          (both_on turns (copy A H ∷ []) (repeated_on (Dad Hl) (8 - count) tt) (tt, tt)))
          (λ r h_small l_small.
          ap (λ (now : Registers). now.a) (effect_on turns (copy A H ∷ []) r)
          ∙ (doubled_is (8 - count) (256 * r.h + r.l) r (word_small r.h r.l h_small l_small)
          (record { h = high_there r.h r.l l_small; l = low_there r.h r.l l_small })).h)
          not_free
          (λ v fits.
          ap (λ n. (n * 2 ^ (8 - count)) % 65536 / 256) (halves_joined v)
          ∙ middle count v some few (value_is_word (type_of inside) v fits))
          (subst (λ steps. StepsStand context (PartDoes context) facts from
          (part (tasks.Word inner) pushed ∷ steps) last to)
          (ap (λ steps. steps ++ (Plain (copy A H) ∷ [])) (repeated (Dad Hl) (8 - count))
          ∙ sym (plain_on turns (copy A H ∷ [])))
          given)

  -- the low byte of a value of any type
  pub right_shifted :
      (count : ℕ)
      → OfOne context number inner tree inside (λ v. v / 2 ^ count) (values_of (type_of inside))
      → (fits_byte (knowing context.site facts) inner ≡ false → is_free context.site number ≡ true → ⊥)
      → StepsStand context (PartDoes context) facts from
      (low_byte_shifted_right_steps (knowing context.site facts) inner count pushed) last to
      → ByteCarried context facts number tree pushed from last to
  unfolding low_byte_shifted_right_steps zero_steps
  right_shifted count one not_free stand = by_fits (fits_byte (knowing context.site facts) inner) refl stand
    where
      by_none : (none : Bool) → (count == 0) ≡ none → count < 8
          → fits_byte (knowing context.site facts) inner ≡ false
          → StepsStand context (PartDoes context) facts from
          (if none then part (tasks.Byte inner) pushed ∷ [] else middle_byte_steps inner count pushed) last to
          → ByteCarried context facts number tree pushed from last to
      by_none true is few wide given =
          byte_makes context sound one [] (λ x. x) tt (λ r small. refl) (λ free r. beside_itself r)
          (λ v fits. whole v ∙ ap (λ n. v / 2 ^ n % 256) (sym (eqb-true count 0 is))) given
        where
          whole : (v : ℕ) → v % 256 ≡ v / 2 ^ 0 % 256
          whole v = omega arith
      by_none false is few wide given =
          middle_by_number count (some_count count is) few one (not_free wide) given

      by_byte : (many : Bool) → nat_le 8 count ≡ many
          → fits_byte (knowing context.site facts) inner ≡ false
          → StepsStand context (PartDoes context) facts from
          (if many then high_byte_steps (knowing context.site facts) inner pushed ++ right_shift_steps
          (count - 8)
          else if count == 0 then part (tasks.Byte inner) pushed
          ∷ [] else middle_byte_steps inner count pushed) last to
          → (nat_le 16 count ≡ false)
          → ByteCarried context facts number tree pushed from last to
      by_byte false is wide given less = by_none (count == 0) refl (leb-false 8 count is) wide given
      by_byte true is wide given less = λ top base s r memory below room ready known nothing.
          let most = leb-true 8 count is in
          let few = leb-false 16 count less in
          let parts =
          steps_split (high_byte_steps (knowing context.site facts) inner pushed)
          (right_shift_steps (count - 8)) given in
          let code = shifted_code (count - 8) (omega (arith, few)) in
          does_same _ (one.means s)
          (at_carried _ _ _ (high_byte_law sound one.node one.types parts.first) one.fewer tt
          (λ v now memory_now (high : HighIsGiven context parts.found r memory v now memory_now). high.known)
          (record { below = below; room = room; ready = ready; known = known })
          (λ v u now memory_now same high next.
          let fits = one.fits s u v (ready_fits context s ready) same in
          let small = value_is_word (type_of inside) v fits in
          at_last_instructions code.instructions sound code.on
          (subst (λ steps. StepsStand context (PartDoes context) parts.found parts.middle steps last to)
          code.same parts.second) next
          (λ final.
          byte_given to number (v / 2 ^ count)
          (code.makes now next.ready.registers.a ∙ ap (λ n. n / 2 ^ (count - 8)) high.a
          ∙ quotient_byte (v / 256) (2 ^ (count - 8)) (high_is_byte v small)
          ∙ ap (λ n. n % 256) (by_high v count most))
          (one.small v fits) (λ free. absurd (not_free wide free)) final)))

      by_word : (all : Bool) → nat_le 16 count ≡ all
          → fits_byte (knowing context.site facts) inner ≡ false
          → StepsStand context (PartDoes context) facts from
          (if all then part (tasks.Effects inner) pushed ∷ Plain clear_a ∷ []
          else if nat_le 8 count
          then high_byte_steps (knowing context.site facts) inner pushed ++ right_shift_steps (count - 8)
          else if count == 0 then part (tasks.Byte inner) pushed
          ∷ [] else middle_byte_steps inner count pushed) last to
          → ByteCarried context facts number tree pushed from last to
      by_word true is wide given =
          zero_after context sound one
          (λ v fits. sym (ap (λ n. n % 256)
          (none_left v count (leb-true 16 count is) (value_is_word (type_of inside) v fits)))) given
      by_word false is wide given = by_byte (nat_le 8 count) refl wide given is

      by_fits : (fits : Bool) → fits_byte (knowing context.site facts) inner ≡ fits
          → StepsStand context (PartDoes context) facts from
          (if fits then byte_shifted_right_steps inner count pushed
          else if nat_le 16 count then part (tasks.Effects inner) pushed ∷ Plain clear_a ∷ []
          else if nat_le 8 count
          then high_byte_steps (knowing context.site facts) inner pushed ++ right_shift_steps (count - 8)
          else if count == 0 then part (tasks.Byte inner) pushed
          ∷ [] else middle_byte_steps inner count pushed) last to
          → ByteCarried context facts number tree pushed from last to
      by_fits true is given =
          right_by_number context {number = number} {inner = inner} {tree = tree}
          {inside = inside} sound count
          (record {
            bound = one.bound;
            node = one.node;
            types = one.types;
            fewer = one.fewer;
            means = one.means;
            fits = λ s u v source same. fits_means context sound facts s one.node one.types is source same;
            small = λ v fits. one.small v (byte_at_least (type_of inside) v fits);
            free = one.free;
          }) given
      by_fits false is given = by_word (nat_le 16 count) refl is given
