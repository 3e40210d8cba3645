-- Bytes, bit by bit: what holds of each byte is computed over all of them.
use Rattle.runtime8080.proofs.Prelude.{◌≡◌, ℕ, zero, suc, ◌+◌, ◌-◌, ◌*◌, ◌/◌, ◌%◌, ◌^◌, ◌<◌, ◌≤◌, ◌==◌, true, refl, sym, ap, ◌∙◌, arith, pow-add, bit_and, agree_below, agree_below_at, eqb-true, div-eq_of_lt, pow-le-pow_right, turned, high_of_pair}

pub equal_below :
    (f g : ℕ → ℕ) (limit n : ℕ)
    → agree_below (λ k. f k == g k) (λ k. true) limit ≡ true
    → n < limit
    → f n ≡ g n
equal_below f g limit n h small =
    eqb-true (f n) (g n) (agree_below_at (λ k. f k == g k) (λ k. true) limit n h small)

-- the lowest three bits
pub low_three : (byte : ℕ) → byte < 256 → bit_and byte 7 ≡ byte % 8
low_three byte h = equal_below (λ k. bit_and k 7) (λ k. k % 8) 256 byte refl h

-- so many turns of a function
abbrev pub times : (f : ℕ → ℕ) → (count byte : ℕ) → ℕ
times f zero byte = byte
times f (suc count) byte = times f count (f byte)

index_low : (count byte : ℕ) → byte < 256 → (256 * count + byte) % 256 ≡ byte
index_low count byte h = omega arith

index_small : (count byte : ℕ) → count < 8 → byte < 256 → 256 * count + byte < 2048
index_small count byte h g = omega arith

-- two functions of a count below 8 and a byte agree where they do in all 2048 cases
by_table :
    (f g : ℕ → ℕ → ℕ)
    → agree_below (λ k. f (k / 256) (k % 256) == g (k / 256) (k % 256)) (λ k. true) 2048 ≡ true
    → (count byte : ℕ)
    → count < 8
    → byte < 256
    → f count byte ≡ g count byte
by_table f g agree count byte few small =
    ap (λ k. f k byte) (sym (high_of_pair count byte small))
    ∙ (ap (f ((256 * count + byte) / 256)) (sym (index_low count byte small))
    ∙ (equal_below (λ k. f (k / 256) (k % 256)) (λ k. g (k / 256) (k % 256)) 2048 (256 * count + byte) agree
    (index_small count byte few small)
    ∙ (ap (λ k. g k ((256 * count + byte) % 256)) (high_of_pair count byte small)
    ∙ ap (g count) (index_low count byte small))))

-- a byte turned once to the left, and to the right
abbrev pub turn_left : ℕ → ℕ
turn_left byte = byte * 2 % 256 + byte / 128

abbrev pub turn_right : ℕ → ℕ
turn_right byte = byte / 2 + 128 * (byte % 2)

-- a byte shifted once to the left, and to the right
abbrev pub shift_left : ℕ → ℕ
shift_left byte = (byte + byte) % 256

abbrev pub shift_right : ℕ → ℕ
shift_right byte = byte / 2

pub turned_left :
    (count byte : ℕ) → count < 8 → byte < 256 → times turn_left count byte ≡ turned byte count
turned_left = by_table (times turn_left) (λ count byte. turned byte count) refl

pub turned_right :
    (count byte : ℕ) → count < 8 → byte < 256 → times turn_right count byte ≡ turned byte ((8 - count) % 8)
turned_right = by_table (times turn_right) (λ count byte. turned byte ((8 - count) % 8)) refl

pub shifted_left :
    (count byte : ℕ) → count < 8 → byte < 256 → times shift_left count byte ≡ (byte * 2 ^ count) % 256
shifted_left = by_table (times shift_left) (λ count byte. (byte * 2 ^ count) % 256) refl

pub shifted_right :
    (count byte : ℕ) → count < 8 → byte < 256 → times shift_right count byte ≡ byte / 2 ^ count
shifted_right = by_table (times shift_right) (λ count byte. byte / 2 ^ count) refl

count_again : (count : ℕ) → 8 ≤ count → count ≡ count - 8 + 8
count_again count h = omega arith

shifted_past : (byte x : ℕ) → (byte * (x * 256)) % 256 ≡ 0
shifted_past byte x = omega arith

-- by 8 bits or more nothing is left
pub none_left : (count byte : ℕ) → 8 ≤ count → (byte * 2 ^ count) % 256 ≡ 0
none_left count byte h =
    ap (λ k. (byte * 2 ^ k) % 256) (count_again count h)
    ∙ (ap (λ p. (byte * p) % 256) (pow-add 2 (count - 8) 8) ∙ shifted_past byte (2 ^ (count - 8)))

below_power : (count byte : ℕ) → 8 ≤ count → byte < 256 → byte < 2 ^ count
below_power count byte h small =
    let more : 2 ^ 8 ≤ 2 ^ count = pow-le-pow_right (omega arith) h in omega arith

pub none_right : (count byte : ℕ) → 8 ≤ count → byte < 256 → byte / 2 ^ count ≡ 0
none_right count byte h small = div-eq_of_lt (below_power count byte h small)
