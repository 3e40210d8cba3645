-- Division bit by bit, in numbers: a remainder and a dividend stand side by side, both are doubled, and where
-- the divisor fits into the remainder it is taken away and the quotient gains a bit.
use Rattle.runtime8080.proofs.Prelude.{◌≡◌, ℕ, zero, suc, ◌+◌, ◌*◌, ◌/◌, ◌%◌, ◌^◌, ◌<◌, ◌≤◌, sym, ap, ◌∙◌, arith, pow-suc, div-mul-add, mod-mul-add}

-- one number becomes another by so many doublings, and gives so many bits of a quotient
pub record Quotient (divisor count from to : ℕ) : Type 0 where
  pub bits : ℕ
  pub small : bits < 2 ^ count
  pub same : to + divisor * bits ≡ 2 ^ count * from + bits

-- one bit of it
pub record QuotientBit (divisor from to : ℕ) : Type 0 where
  pub bit : ℕ
  pub small : bit ≤ 1
  pub same : to + divisor * bit ≡ 2 * from + bit

bits_joined :
    (d p q b z z1 to : ℕ)
    → to + d * q ≡ p * z1 + q
    → p * (z1 + d * b) ≡ p * (2 * z + b)
    → to + d * (q + p * b) ≡ p * 2 * z + (q + p * b)
bits_joined d p q b z z1 to h g = omega arith

bits_small : (p q b : ℕ) → q < p → p * b ≤ p * 1 → q + p * b < p * 2
bits_small p q b h g = omega arith

times_bit : (p b : ℕ) → b ≤ 1 → p * b ≤ p * 1
times_bit p zero h = omega arith
times_bit p (suc b) h = let none : b ≡ 0 = omega arith in times_one p b none
  where
    times_one : (p b : ℕ) → b ≡ 0 → p * suc b ≤ p * 1
    times_one p b e = rw e (omega arith)

pub no_bits : (divisor z : ℕ) → Quotient divisor 0 z z
no_bits divisor z = record { bits = 0; small = omega arith; same = omega arith }

pub one_bit_more :
    (divisor count z z1 to : ℕ)
    → QuotientBit divisor z z1
    → Quotient divisor count z1 to
    → Quotient divisor (suc count) z to
one_bit_more divisor count z z1 to first rest =
    let p = 2 ^ count in
    record {
      bits = rest.bits + p * first.bit;
      small = rw (pow-suc 2 count)
          (bits_small p rest.bits first.bit rest.small (times_bit p first.bit first.small));
      same =
          rw (pow-suc 2 count)
          (bits_joined divisor p rest.bits first.bit z z1 to rest.same (ap (λ n. p * n) first.same));
    }

-- the quotient and the remainder that all bits of a dividend give
split_low : (rest low x v q : ℕ) → low < 65536 → q < 65536
    → 65536 * rest + low + 65536 * x ≡ 65536 * v + q → low ≡ q
split_low rest low x v q small_low small_q h = omega arith

split_high : (rest low x v q : ℕ) → low < 65536 → q < 65536
    → 65536 * rest + low + 65536 * x ≡ 65536 * v + q → x + rest ≡ v
split_high rest low x v q small_low small_q h = omega arith

pub quotient_is : (e q rest v : ℕ) → rest < e → q * e + rest ≡ v → v / e ≡ q
quotient_is e q rest v small h = ap (λ n. n / e) (sym h) ∙ div-mul-add q e rest small

pub remainder_is : (e q rest v : ℕ) → rest < e → q * e + rest ≡ v → v % e ≡ rest
remainder_is e q rest v small h = ap (λ n. n % e) (sym h) ∙ mod-mul-add q e rest small

regrouped : (rest low e q : ℕ) → 65536 * rest + low + e * 65536 * q ≡ 65536 * rest + low + 65536 * (q * e)
regrouped rest low e q = omega arith

dividend_alone : (v q : ℕ) → 65536 * (65536 * 0 + v) + q ≡ 65536 * v + q
dividend_alone v q = omega arith

-- after sixteen bits of a dividend the lower word is the quotient, and the higher one the remainder
pub sixteen_bits :
    (e rest low v : ℕ)
    → low < 65536
    → rest < e
    → Quotient (e * 65536) 16 (65536 * 0 + v) (65536 * rest + low)
    → (v / e ≡ low) × (v % e ≡ rest)
sixteen_bits e rest low v small less is =
    let q = is.bits in
    let sum = sym (regrouped rest low e q) ∙ (is.same ∙ dividend_alone v q) in
    let low_is = split_low rest low (q * e) v q small is.small sum in
    let all = split_high rest low (q * e) v q small is.small sum in
    (quotient_is e q rest v less all ∙ sym low_is, remainder_is e q rest v less all)

split_low_byte : (rest low x v q : ℕ) → low < 256 → q < 256
    → 256 * rest + low + 256 * x ≡ 256 * v + q → low ≡ q
split_low_byte rest low x v q small_low small_q h = omega arith

split_high_byte : (rest low x v q : ℕ) → low < 256 → q < 256
    → 256 * rest + low + 256 * x ≡ 256 * v + q → x + rest ≡ v
split_high_byte rest low x v q small_low small_q h = omega arith

regrouped_byte : (rest low e q : ℕ) → 256 * rest + low + e * 256 * q ≡ 256 * rest + low + 256 * (q * e)
regrouped_byte rest low e q = omega arith

-- after eight bits of a dividend the lower byte is the quotient, and what is higher the remainder
pub eight_bits :
    (e rest low v : ℕ)
    → low < 256
    → rest < e
    → Quotient (e * 256) 8 v (256 * rest + low)
    → (v / e ≡ low) × (v % e ≡ rest)
eight_bits e rest low v small less is =
    let q = is.bits in
    let sum = sym (regrouped_byte rest low e q) ∙ is.same in
    let low_is = split_low_byte rest low (q * e) v q small is.small sum in
    let all = split_high_byte rest low (q * e) v q small is.small sum in
    (quotient_is e q rest v less all ∙ sym low_is, remainder_is e q rest v less all)
