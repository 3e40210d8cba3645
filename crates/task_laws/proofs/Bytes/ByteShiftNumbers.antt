-- The low byte of shifts and rotations by a number.
use Rattle.task_laws.proofs.Prelude.{◌≡◌, ℕ, zero, suc, ◌+◌, ◌-◌, ◌*◌, ◌/◌, ◌%◌, ◌^◌, ◌<◌, ◌==◌, Bool, true, false, nat_le, nat_lt, bit_and, bit_or, List, [], ◌∷◌, ◌++◌, replicate, refl, sym, ap, ◌∙◌, subst, arith, if◌then◌else◌, eqb-true, leb-true, leb-false, lt-ltb, or_self, ScalarType, TypedExpression, turned, values_of, Instr, AccumulateImmediate, Rar, Rlc, Rrc, Add, And, Or, A, Registers, equal_below, none_right, shift_left, shifted_left, times, turn_left, turn_right, turned_left, turned_right, ExpressionNumber, Facts, Step, Plain, clear_a, with_register, part, plain, repeat_steps, byte_shifted_right_steps, kept_bits, right_shift_steps, rotation_steps, shifted_left_steps, turned_right_steps, zero_steps, Context, IsSound, StepsStand, PartDoes, low_of_byte}
use Rattle.trees.specs.declared.declaration.ScalarType.TheVariants as scalars
use Rattle.runtime8080.proofs.Bits.{none_left}
use Rattle.steps8080.specs.declared.step.Task.TheVariants as tasks
use Rattle.task_laws.proofs.Bytes.ByteCode.{AreStraight, ByteCarried, CodeOfA, IsBeside, OfOne, all_straight, beside_a, beside_itself, beside_on, byte_by_code, repeats_on_a}
use Rattle.task_laws.proofs.Bytes.ByteNumbers.{zero_after}
use Rattle.task_laws.proofs.Machine.KnownOperands.{quotient_less, turned_fits}
use Rattle.task_laws.proofs.Words.Multiples.{effect_on, plain_on, repeated, repeated_on}
use Rattle.task_laws.proofs.Machine.RegisterCode.{IsOnRegisters, does_to, effect}

-- code that makes the same
pub code_same :
    {steps : List Step} {f g : ℕ → ℕ}
    → CodeOfA steps f
    → ((x : ℕ) → x < 256 → f x ≡ g x)
    → CodeOfA steps g
code_same code same = record {
  instructions = code.instructions;
  same = code.same;
  on = code.on;
  makes = λ r small. code.makes r small ∙ same r.a small;
  beside = code.beside;
}

-- an instruction `count` times
pub repeated_code :
    (i : Instr) (f : ℕ → ℕ) (count : ℕ)
    → IsOnRegisters i
    → ((now : Registers) → ((does_to i now).a ≡ f now.a) × IsBeside now (does_to i now))
    → CodeOfA (repeat_steps i count) (times f count)
repeated_code i f count on does = record {
  instructions = replicate count i;
  same = repeated i count;
  on = all_straight (replicate count i) (repeated_on i count on);
  makes = λ r small. (repeats_on_a i f count r does).0;
  beside = λ r. (repeats_on_a i f count r does).1;
}

pub both_straight : (one other : List Instr) → AreStraight one → AreStraight other
    → AreStraight (one ++ other)
both_straight [] other first second = second
both_straight (i ∷ one) other first second = (first.0, both_straight one other first.1 second)

-- one code after another
pub code_on :
    {one other : List Step} {f g : ℕ → ℕ}
    → CodeOfA one f
    → CodeOfA other g
    → ((x : ℕ) → x < 256 → f x < 256)
    → CodeOfA (one ++ other) (λ x. g (f x))
code_on {other = other} {g = g} first second small = record {
  instructions = first.instructions ++ second.instructions;
  same = ap (λ (steps : List Step). steps ++ other) first.same
      ∙ ap (λ (steps : List Step). plain first.instructions ++ steps) second.same
      ∙ sym (plain_on first.instructions second.instructions);
  on = both_straight first.instructions second.instructions first.on second.on;
  makes = λ r a_small.
      let made = first.makes r a_small in
      ap (λ (now : Registers). now.a) (effect_on first.instructions second.instructions r)
      ∙ second.makes (effect first.instructions r) (subst (λ (n : ℕ). n < 256) (sym made) (small r.a a_small))
      ∙ ap g made;
  beside = λ r.
      subst (λ (now : Registers). IsBeside r now) (sym (effect_on first.instructions second.instructions r))
      (beside_on (first.beside r) (second.beside (effect first.instructions r)));
}

-- A doubled `count` times
pub doubled_code : (count : ℕ) → count < 8
    → CodeOfA (repeat_steps (with_register Add A) count) (λ x. (x * 2 ^ count) % 256)
doubled_code count few =
    code_same
    (repeated_code (with_register Add A) shift_left count tt (λ now. (omega arith, beside_a _ _ now)))
    (λ x small. shifted_left count x few small)

left_turns : (count : ℕ) → CodeOfA (repeat_steps Rlc count) (times turn_left count)
left_turns count = repeated_code Rlc turn_left count tt (λ now. (refl, beside_a _ _ now))

right_turns : (count : ℕ) → CodeOfA (repeat_steps Rrc count) (times turn_right count)
right_turns count = repeated_code Rrc turn_right count tt (λ now. (refl, beside_a _ _ now))

turned_back : (count : ℕ) → count < 8 → 4 < count → (8 - (8 - count)) % 8 ≡ count
turned_back count few more = omega (arith, few, more)

less_turns : (count : ℕ) → 4 < count → 8 - count < 8
less_turns count more = omega (arith, more)

less_right : (count : ℕ) → 4 < count → count < 8 → 8 - count ≡ (8 - count) % 8
less_right count more few = omega (arith, more, few)

-- A rotated to the left by a count
pub rotation_code : (count : ℕ) → count < 8 → CodeOfA (rotation_steps count) (λ x. turned x count)
unfolding rotation_steps
rotation_code count few = by (nat_le count 4) refl
  where
    by : (short : Bool) → nat_le count 4 ≡ short
        → CodeOfA (if short then repeat_steps Rlc count else repeat_steps Rrc (8 - count))
        (λ x. turned x count)
    by true is = code_same (left_turns count) (λ x small. turned_left count x few small)
    by false is =
        let more = leb-false count 4 is in
        code_same (right_turns (8 - count))
        (λ x small.
        turned_right (8 - count) x (less_turns count more) small
        ∙ ap (λ n. turned x n) (turned_back count few more))

-- A rotated to the right by a count
right_code : (count : ℕ) → count < 8 → CodeOfA (turned_right_steps count) (λ x. turned x ((8 - count) % 8))
unfolding turned_right_steps
right_code count few = by (nat_le count 4) refl
  where
    by : (short : Bool) → nat_le count 4 ≡ short
        → CodeOfA (if short then repeat_steps Rrc count else repeat_steps Rlc (8 - count))
        (λ x. turned x ((8 - count) % 8))
    by true is = code_same (right_turns count) (λ x small. turned_right count x few small)
    by false is =
        let more = leb-false count 4 is in
        code_same (left_turns (8 - count))
        (λ x small.
        turned_left (8 - count) x (less_turns count more) small
        ∙ ap (λ n. turned x n) (less_right count more few))

-- the bits that a rotation to the right brings in are masked
masked : (count x : ℕ) → count < 8 → x < 256
    → bit_and (turned x ((8 - count) % 8)) (255 / 2 ^ count) ≡ x / 2 ^ count
masked zero x few small =
    equal_below (λ k. bit_and (turned k ((8 - 0) % 8)) (255 / 2 ^ 0)) (λ k. k / 2 ^ 0) 256 x refl small
masked (suc zero) x few small =
    equal_below (λ k. bit_and (turned k ((8 - 1) % 8)) (255 / 2 ^ 1)) (λ k. k / 2 ^ 1) 256 x refl small
masked (suc (suc zero)) x few small =
    equal_below (λ k. bit_and (turned k ((8 - 2) % 8)) (255 / 2 ^ 2)) (λ k. k / 2 ^ 2) 256 x refl small
masked (suc (suc (suc zero))) x few small =
    equal_below (λ k. bit_and (turned k ((8 - 3) % 8)) (255 / 2 ^ 3)) (λ k. k / 2 ^ 3) 256 x refl small
masked (suc (suc (suc (suc zero)))) x few small =
    equal_below (λ k. bit_and (turned k ((8 - 4) % 8)) (255 / 2 ^ 4)) (λ k. k / 2 ^ 4) 256 x refl small
masked (suc (suc (suc (suc (suc zero))))) x few small =
    equal_below (λ k. bit_and (turned k ((8 - 5) % 8)) (255 / 2 ^ 5)) (λ k. k / 2 ^ 5) 256 x refl small
masked (suc (suc (suc (suc (suc (suc zero)))))) x few small =
    equal_below (λ k. bit_and (turned k ((8 - 6) % 8)) (255 / 2 ^ 6)) (λ k. k / 2 ^ 6) 256 x refl small
masked (suc (suc (suc (suc (suc (suc (suc zero))))))) x few small =
    equal_below (λ k. bit_and (turned k ((8 - 7) % 8)) (255 / 2 ^ 7)) (λ k. k / 2 ^ 7) 256 x refl small
masked (suc (suc (suc (suc (suc (suc (suc (suc count)))))))) x few small = absurd (omega (arith, few))

half_of_or : (a : ℕ) → bit_or a a / 2 + 128 * 0 ≡ a / 2
half_of_or a = let same = or_self a in omega (arith, same)

-- A shifted to the right by a count
pub shifted_code : (count : ℕ) → count < 8 → CodeOfA (right_shift_steps count) (λ x. x / 2 ^ count)
unfolding right_shift_steps kept_bits
shifted_code count few = by (count == 0) (count == 1) refl refl
  where
    by : (none one : Bool) → (count == 0) ≡ none → (count == 1) ≡ one
        → CodeOfA
        (if none then []
        else if one then plain (with_register Or A ∷ Rar ∷ [])
        else turned_right_steps count
        ++ (Plain (AccumulateImmediate And (if nat_lt count 8 then 255 / 2 ^ count else 0)) ∷ []))
        (λ x. x / 2 ^ count)
    by true one here there =
        code_same
        (record { instructions = []; same = refl; on = tt; makes = λ r small. refl; beside = beside_itself })
        (λ x small. whole x ∙ ap (λ n. x / 2 ^ n) (sym (eqb-true count 0 here)))
      where
        whole : (x : ℕ) → x ≡ x / 2 ^ 0
        whole x = omega arith
    by false true here there =
        code_same
        (record {
          instructions = with_register Or A ∷ Rar ∷ [];
          same = refl;
          on = (tt, (tt, tt));
          makes = λ r small. half_of_or r.a;
          beside = λ r. beside_a _ _ r;
        })
        (λ x small. ap (λ n. x / 2 ^ n) (sym (eqb-true count 1 there)))
    by false false here there =
        code_same
        (code_on {f = λ x. turned x ((8 - count) % 8)}
        {g = λ x. bit_and x (if nat_lt count 8 then 255 / 2 ^ count else 0)}
        (right_code count few)
        (record {
          instructions = AccumulateImmediate And (if nat_lt count 8 then 255 / 2 ^ count else 0) ∷ [];
          same = refl;
          on = (tt, tt);
          makes = λ r small. refl;
          beside = λ r. beside_a _ _ r;
        })
        (λ x small. turned_fits x ((8 - count) % 8) small (omega arith)))
        (λ x small.
        ap (λ (test : Bool). bit_and (turned x ((8 - count) % 8)) (if test then 255 / 2 ^ count else 0))
        (lt-ltb count 8 few)
        ∙ masked count x few small)

-- the low byte of a multiple is that of the low byte's
pub low_times : (v p : ℕ) → ((v % 256) * p) % 256 ≡ (v * p) % 256
low_times v p = by v (v / 256) (v % 256) (omega arith)
  where
    by_parts : (q l : ℕ) → (l * p) % 256 ≡ ((256 * q + l) * p) % 256
    by_parts q l = omega arith

    by : (n q l : ℕ) → n ≡ 256 * q + l → (l * p) % 256 ≡ (n * p) % 256
    by n q l same = by_parts q l ∙ ap (λ k. (k * p) % 256) (sym same)

pub low_of_type : (scalar : ScalarType) (n : ℕ) → n % 256 ≡ n % values_of scalar % 256
low_of_type scalars.Byte n = omega arith
low_of_type scalars.Address n = omega arith

pub quotient_byte : (v p : ℕ) → v < 256 → v / p ≡ v / p % 256
quotient_byte v p small = let less = quotient_less v p in omega (arith, small, less)

none_of_type : (scalar : ScalarType) (n : ℕ) → n % 256 ≡ 0 → 0 ≡ n % values_of scalar % 256
none_of_type scalar n none = sym none ∙ low_of_type scalar n

module _
    (context : Context) {facts last : Facts} {from to pushed : ℕ} {number inner : ExpressionNumber}
    {tree inside : TypedExpression} (sound : IsSound context) where
  -- a shift to the left by a number
  pub left_by_number :
      {limit : ℕ} (scalar : ScalarType) (count : ℕ)
      → OfOne context number inner tree inside (λ v. (v * 2 ^ count) % values_of scalar) limit
      → StepsStand context (PartDoes context) facts from (shifted_left_steps inner count pushed) last to
      → ByteCarried context facts number tree pushed from last to
  unfolding shifted_left_steps zero_steps
  left_by_number scalar count one stand = by (nat_le 8 count) refl stand
    where
      by : (many : Bool) → nat_le 8 count ≡ many
          → StepsStand context (PartDoes context) facts from
          (if many then part (tasks.Effects inner) pushed ∷ Plain clear_a ∷ []
          else part (tasks.Byte inner) pushed ∷ repeat_steps (with_register Add A) count) last to
          → ByteCarried context facts number tree pushed from last to
      by true is given =
          zero_after context sound one
          (λ v fits. none_of_type scalar (v * 2 ^ count) (none_left count v (leb-true 8 count is))) given
      by false is given =
          byte_by_code context sound one (doubled_code count (leb-false 8 count is))
          (λ v fits. low_times v (2 ^ count) ∙ low_of_type scalar (v * 2 ^ count)) given

  -- a value below 256 shifted to the right by a number
  pub right_by_number :
      (count : ℕ)
      → OfOne context number inner tree inside (λ v. v / 2 ^ count) 256
      → StepsStand context (PartDoes context) facts from (byte_shifted_right_steps inner count pushed) last to
      → ByteCarried context facts number tree pushed from last to
  unfolding byte_shifted_right_steps zero_steps
  right_by_number count one stand = by (nat_le 8 count) refl stand
    where
      by : (many : Bool) → nat_le 8 count ≡ many
          → StepsStand context (PartDoes context) facts from
          (if many then part (tasks.Effects inner) pushed ∷ Plain clear_a ∷ []
          else part (tasks.Byte inner) pushed ∷ right_shift_steps count) last to
          → ByteCarried context facts number tree pushed from last to
      by true is given =
          zero_after context sound one
          (λ v fits. sym (ap (λ n. n % 256) (none_right count v (leb-true 8 count is) fits))) given
      by false is given =
          byte_by_code context sound one (shifted_code count (leb-false 8 count is))
          (λ v fits. ap (λ n. n / 2 ^ count) (low_of_byte v fits) ∙ quotient_byte v (2 ^ count) fits) given

  -- a rotation of a BYTE by a number below 8
  pub turned_by_number :
      (count : ℕ) → count < 8
      → OfOne context number inner tree inside (λ v. turned (v % 256) count) 256
      → StepsStand context (PartDoes context) facts from
      (part (tasks.Byte inner) pushed ∷ rotation_steps count) last to
      → ByteCarried context facts number tree pushed from last to
  turned_by_number count few one stand =
      byte_by_code context sound one (rotation_code count few)
      (λ v fits. sym (low_of_byte (turned (v % 256) count) (turned_fits (v % 256) count (omega arith) few)))
      stand
