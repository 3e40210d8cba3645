-- The low byte of products with a number.
use Rattle.task_laws.proofs.Prelude.{◌≡◌, ℕ, zero, suc, ◌+◌, ◌*◌, ◌/◌, ◌%◌, ◌^◌, ◌<◌, ◌≤◌, ◌==◌, ◌||◌, Bool, true, false, nat_le, List, [], ◌∷◌, Option, Some, None, refl, sym, ap, ◌∙◌, subst, arith, if◌then◌else◌, eqb-true, eqb-false, leb-true, leb-false, false≢true, mul-mod, pow-le-pow_right, ScalarType, TypedExpression, values_of, Instr, Add, A, B, Registers, ExpressionNumber, Facts, Step, Plain, clear_a, copy, with_register, part, repeat_steps, is_free, power_of_two, byte_multiple_steps, byte_product_steps, chain_steps, has_bit, Context, IsSound, StepsStand, PartDoes}
use Rattle.steps8080.specs.declared.step.Task.TheVariants as tasks
use Rattle.task_laws.proofs.Bytes.ByteCode.{ByteCarried, OfOne, all_straight, byte_by_code, byte_makes}
use Rattle.task_laws.proofs.Bytes.ByteNumbers.{zero_after}
use Rattle.task_laws.proofs.Bytes.ByteShiftNumbers.{doubled_code, low_of_type}
use Rattle.task_laws.proofs.Words.Multiples.{bit_clear, bit_instructions, bit_is, bit_set, chain_instructions, chain_on, chain_same, effect_on, factor, fewer_bits, first_quotient, last_quotient, less_bits, next_quotient, power_is}
use Rattle.task_laws.proofs.Machine.RegisterCode.{effect}
use Rattle.task_laws.proofs.Numbers.{one_alone, twice_none}

-- after the bits from one on: A is the multiple by them, or unchanged if all are 0
record Gone (below : Bool) (x gone : ℕ) (now : Registers) : Type 0 where
  nothing : below ≡ false → gone ≡ 0
  a : now.a ≡ (x * factor below gone) % 256
  b : now.b ≡ x

twice : (a x q : ℕ) → a ≡ (x * q) % 256 → (a + a + 0) % 256 ≡ (x * (2 * q)) % 256
twice a x q same = omega (arith, same)

once_more : (a b x q : ℕ) → a ≡ (x * q) % 256 → b ≡ x → (a + b + 0) % 256 ≡ (x * (q + 1)) % 256
once_more a b x q same other = omega (arith, same, other)

abbrev byte_instructions : (below set : Bool) → List Instr
byte_instructions below set = bit_instructions (with_register Add A) (with_register Add B) below set

-- one bit more
gone_on :
    (below set : Bool) (x half q : ℕ) (now : Registers)
    → q / 2 ≡ half → (q % 2 == 1) ≡ set
    → Gone below x half now
    → Gone (below || set) x q (effect (byte_instructions below set) now)
gone_on false false x half q now same is gone = record {
  nothing = λ _. bit_clear q half same is ∙ twice_none half (gone.nothing refl);
  a = gone.a;
  b = gone.b;
}
gone_on false true x half q now same is gone = record {
  nothing = λ bad. absurd (false≢true (sym bad));
  a = gone.a ∙ ap (λ (n : ℕ). (x * n) % 256)
      (sym (bit_set q half same is ∙ one_alone half (gone.nothing refl)));
  b = gone.b;
}
gone_on true false x half q now same is gone = record {
  nothing = λ bad. absurd (false≢true (sym bad));
  a = twice now.a x half gone.a ∙ ap (λ (n : ℕ). (x * n) % 256) (sym (bit_clear q half same is));
  b = gone.b;
}
gone_on true true x half q now same is gone = record {
  nothing = λ bad. absurd (false≢true (sym bad));
  a = once_more ((now.a + now.a + 0) % 256) now.b x (2 * half) (twice now.a x half gone.a) gone.b
      ∙ ap (λ (n : ℕ). (x * n) % 256) (sym (bit_set q half same is));
  b = gone.b;
}

-- all bits that are left
chain_is :
    (bits number x : ℕ) (below : Bool) (now : Registers)
    → bits ≤ 16
    → Gone below x (number / 2 ^ bits) now
    → (last : Bool) × Gone last x (number / 2 ^ 0)
    (effect (chain_instructions bits number (with_register Add A) (with_register Add B) below) now)
chain_is zero number x below now few gone = (below, gone)
chain_is (suc bit) number x below now few gone =
    let set : Bool = has_bit number bit in
    let first : List Instr = byte_instructions below set in
    let rest : List Instr =
    chain_instructions bit number (with_register Add A) (with_register Add B) (below || set) in
    let next = gone_on below set x (number / 2 ^ suc bit) (number / 2 ^ bit) now (next_quotient number bit)
    (sym (bit_is number bit (less_bits bit few))) gone in
    let last = chain_is bit number x (below || set) (effect first now) (fewer_bits bit few) next in
    (last.0, subst (λ (after : Registers). Gone last.0 x (number / 2 ^ 0) after) (sym (effect_on first rest now)) last.1)

-- where a bit was 1 A is the product
all_gone : (below : Bool) (x number : ℕ) (now : Registers) → (number ≡ 0 → ⊥) → Gone below x number now
    → now.a ≡ (x * number) % 256
all_gone true x number now some gone = gone.a
all_gone false x number now some gone = absurd (some (gone.nothing refl))

once : (x : ℕ) → x < 256 → x ≡ (x * 1) % 256
once x small = omega (arith, small)

small_power : (power number : ℕ) → number ≡ 2 ^ power → number < 256 → power < 8
small_power power number same small = by (nat_le 8 power) refl
  where
    by : (many : Bool) → nat_le 8 power ≡ many → power < 8
    by false is = leb-false 8 power is
    by true is =
        let more : 2 ^ 8 ≤ 2 ^ power = pow-le-pow_right (omega arith) (leb-true 8 power is) in
        absurd (omega (arith, more, same, small))

low_product : (scalar : ScalarType) (v k n : ℕ) → n ≡ k % 256
    → ((v % 256) * n) % 256 ≡ (v * k) % values_of scalar % 256
low_product scalar v k n same =
    ap (λ m. ((v % 256) * m) % 256) same ∙ sym (mul-mod v k 256) ∙ low_of_type scalar (v * k)

module _
    (context : Context) {facts last : Facts} {from to pushed : ℕ} {number inner : ExpressionNumber}
    {tree inside : TypedExpression} {limit : ℕ} (sound : IsSound context) where
  -- the low byte of a product with a number, by that of the number
  pub product_by_number :
      (scalar : ScalarType) (k n : ℕ)
      → n ≡ k % 256
      → OfOne context number inner tree inside (λ v. (v * k) % values_of scalar) limit
      → (is_free context.site number ≡ true → ⊥)
      → StepsStand context (PartDoes context) facts from (byte_product_steps inner n pushed) last to
      → ByteCarried context facts number tree pushed from last to
  unfolding power_of_two
  product_by_number scalar k n same one not_free stand = by_none (n == 0) refl stand
    where
      small : n < 256
      small = omega (arith, same)

      by_power : (found : Option ℕ) → power_of_two n ≡ found
          → (n ≡ 0 → ⊥)
          → StepsStand context (PartDoes context) facts from
          (part (tasks.Byte inner) pushed ∷ elim found [
            | Some power ↦ repeat_steps (with_register Add A) power
            | None ↦ Plain (copy B A) ∷ chain_steps n (with_register Add A) (with_register Add B)
          ]) last to
          → ByteCarried context facts number tree pushed from last to
      by_power (Some power) is some given =
          let power_there = power_is 16 0 n power is in
          byte_by_code context sound one (doubled_code power (small_power power n power_there small))
          (λ v fits. ap (λ p. ((v % 256) * p) % 256) (sym power_there) ∙ low_product scalar v k n same) given
      by_power None is some given =
          let chain : List Instr =
          chain_instructions 16 n (with_register Add A) (with_register Add B) false in
          byte_makes context sound one (copy B A ∷ chain) (λ x. (x * n) % 256)
          (tt, all_straight chain (chain_on 16 n (with_register Add A) (with_register Add B) false tt tt))
          (λ r a_small.
          let begun : Registers = record r { b = r.a } in
          let ends = chain_is 16 n r.a false begun (omega arith)
          (record {
            nothing = λ _. first_quotient n (omega (arith, small));
            a = once r.a a_small;
            b = refl;
          }) in
          all_gone ends.0 r.a n (effect chain begun) some
          (subst (λ (m : ℕ). Gone ends.0 r.a m (effect chain begun)) (last_quotient n) ends.1))
          (λ free. absurd (not_free free))
          (λ v fits. low_product scalar v k n same)
          (subst (λ (steps : List Step). StepsStand context (PartDoes context) facts from
          (part (tasks.Byte inner) pushed ∷ Plain (copy B A) ∷ steps) last to)
          (chain_same 16 n (with_register Add A) (with_register Add B) false) given)

      by_none : (none : Bool) → (n == 0) ≡ none
          → StepsStand context (PartDoes context) facts from
          (if none then part (tasks.Effects inner) pushed ∷ Plain clear_a ∷ []
          else part (tasks.Byte inner) pushed ∷ byte_multiple_steps n) last to
          → ByteCarried context facts number tree pushed from last to
      by_none true is given =
          zero_after context sound one
          (λ v fits. nothing v ∙ ap (λ m. ((v % 256) * m) % 256) (sym (eqb-true n 0 is))
          ∙ low_product scalar v k n same) given
        where
          nothing : (v : ℕ) → 0 ≡ ((v % 256) * 0) % 256
          nothing v = omega arith
      by_none false is given = by_power (power_of_two n) refl (eqb-false n 0 is) given
