-- Digits, bytes in two digits, and the bytes of a line.
use Rattle.hex80.proofs.Prelude.{◌≡◌, ℕ, ◌+◌, ◌-◌, ◌*◌, ◌/◌, ◌%◌, ◌<◌, ◌≤◌, Bool, true, false, cond, ◌&&◌, nat_lt, nat_le, List, [], ◌∷◌, ◌++◌, flat_map, Some, None, option_map, option_and_then, refl, ap, sym, subst, ◌∙◌, arith, leb-true, le-leb, lt-leb, ltb-true, ltb-false, lt-ltb, le-ltb, none-some, same_Some, option_and_then_some, digit_of, digits_of, digit_value, bytes_in, and_parts, option_map_some}
pub use Rattle.mem80.proofs.ByteLists.{IsBytes}

-- a character stands for a number below 16, whose digit it is
abbrev pub IsDigit : (character value : ℕ) → Type 0
IsDigit character value = (character ≡ digit_of value) × (value < 16)

low_digit : (character value : ℕ) → 48 ≤ character → character ≤ 57 → character - 48 ≡ value
    → IsDigit character value
low_digit character value a b e =
    let sum : 48 + value ≡ character = omega arith in
    (sym (ap (λ t. cond t (48 + value) (55 + value)) (lt-ltb value 10 (omega arith)) ∙ sum), omega arith)

high_digit : (character value : ℕ) → 65 ≤ character → character ≤ 70 → character - 55 ≡ value
    → IsDigit character value
high_digit character value a b e =
    let sum : 55 + value ≡ character = omega arith in
    (sym (ap (λ t. cond t (48 + value) (55 + value)) (le-ltb value 10 (omega arith)) ∙ sum), omega arith)

pub digit_back : (character value : ℕ) → digit_value character ≡ Some value → IsDigit character value
digit_back character value h =
    go (nat_le 48 character && nat_le character 57) refl (nat_le 65 character && nat_le character 70) refl h
  where
    go : (low : Bool) → (nat_le 48 character && nat_le character 57) ≡ low
        → (high : Bool) → (nat_le 65 character && nat_le character 70) ≡ high
        → cond low (Some (character - 48)) (cond high (Some (character - 55)) None) ≡ Some value
        → IsDigit character value
    go true e high f is =
        let t = and_parts (nat_le 48 character) (nat_le character 57) e in
        low_digit character value (leb-true 48 character t.0) (leb-true character 57 t.1)
        (same_Some (character - 48) value is)
    go false e true f is =
        let t = and_parts (nat_le 65 character) (nat_le character 70) f in
        high_digit character value (leb-true 65 character t.0) (leb-true character 70 t.1)
        (same_Some (character - 55) value is)
    go false e false f is = absurd (none-some value is)

pub digit_again : (value : ℕ) → value < 16 → digit_value (digit_of value) ≡ Some value
digit_again value h = go (nat_lt value 10) refl
  where
    low : value < 10 → digit_value (48 + value) ≡ Some value
    low small =
        ap (λ a. cond (a && nat_le (48 + value) 57) (Some (48 + value - 48))
        (cond (nat_le 65 (48 + value) && nat_le (48 + value) 70) (Some (48 + value - 55)) None))
        (le-leb 48 (48 + value) (omega arith))
        ∙ ap (λ b. cond b (Some (48 + value - 48))
        (cond (nat_le 65 (48 + value) && nat_le (48 + value) 70) (Some (48 + value - 55)) None))
        (le-leb (48 + value) 57 (omega arith))
        ∙ ap Some (let e : 48 + value - 48 ≡ value = omega arith in e)

    high : 10 ≤ value → digit_value (55 + value) ≡ Some value
    high large =
        ap (λ a. cond (a && nat_le (55 + value) 57) (Some (55 + value - 48))
        (cond (nat_le 65 (55 + value) && nat_le (55 + value) 70) (Some (55 + value - 55)) None))
        (le-leb 48 (55 + value) (omega arith))
        ∙ ap (λ b. cond b (Some (55 + value - 48))
        (cond (nat_le 65 (55 + value) && nat_le (55 + value) 70) (Some (55 + value - 55)) None))
        (lt-leb (55 + value) 57 (omega arith))
        ∙ ap (λ a. cond (a && nat_le (55 + value) 70) (Some (55 + value - 55)) None)
        (le-leb 65 (55 + value) (omega arith))
        ∙ ap (λ b. cond b (Some (55 + value - 55)) None) (le-leb (55 + value) 70 (omega arith))
        ∙ ap Some (let e : 55 + value - 55 ≡ value = omega arith in e)

    go : (small : Bool) → nat_lt value 10 ≡ small → digit_value (digit_of value) ≡ Some value
    go true e =
        ap (λ t. digit_value (cond t (48 + value) (55 + value))) e ∙ low (omega (arith, ltb-true value 10 e))
    go false e =
        ap (λ t. digit_value (cond t (48 + value) (55 + value))) e
        ∙ high (omega (arith, ltb-false value 10 e))

-- bytes that are read of characters are spelled by them
pub bytes_back :
    (characters bytes : List ℕ) → bytes_in characters ≡ Some bytes
    → (characters ≡ flat_map digits_of bytes) × IsBytes bytes
bytes_back [] bytes h =
    let e : [] ≡ bytes = same_Some [] bytes h in
    subst (λ b. ([] ≡ flat_map digits_of b) × IsBytes b) e (refl, tt)
bytes_back (character ∷ []) bytes h = absurd (none-some bytes h)
bytes_back (high ∷ low ∷ rest) bytes h =
    option_and_then_some _ (digit_value high) bytes h
    (λ a first later.
    option_and_then_some _ (digit_value low) bytes later
    (λ b second last.
    option_map_some (λ (others : List ℕ). (16 * a + b) ∷ others) (bytes_in rest) bytes last
    (λ others third is.
    let x = digit_back high a first in
    let y = digit_back low b second in
    let below : b < 16 = y.1 in
    let above : a < 16 = x.1 in
    let r = bytes_back rest others third in
    let top : (16 * a + b) / 16 ≡ a = omega arith in
    let bottom : (16 * a + b) % 16 ≡ b = omega arith in
    subst (λ c. (high ∷ low ∷ rest ≡ flat_map digits_of c) × IsBytes c) is (
      ap (λ c. c ∷ low ∷ rest) (x.0 ∙ ap digit_of (sym top))
          ∙ ap (λ c. digit_of ((16 * a + b) / 16) ∷ c ∷ rest) (y.0 ∙ ap digit_of (sym bottom))
          ∙ ap (λ c. digits_of (16 * a + b) ++ c) r.0,
      (let z : 16 * a + b < 256 = omega arith in z, r.1),
    ))))

pub bytes_again : (bytes : List ℕ) → IsBytes bytes → bytes_in (flat_map digits_of bytes) ≡ Some bytes
bytes_again [] all = refl
bytes_again (byte ∷ others) all =
    let small : byte < 256 = all.0 in
    let whole : 16 * (byte / 16) + byte % 16 ≡ byte = omega arith in
    ap (option_and_then
    (λ (h : ℕ).
    option_and_then
    (λ (l : ℕ). option_map (λ (rest : List ℕ). (16 * h + l) ∷ rest) (bytes_in (flat_map digits_of others)))
    (digit_value (digit_of (byte % 16))))) (digit_again (byte / 16) (omega arith))
    ∙ ap (option_and_then
    (λ (l : ℕ).
    option_map (λ (rest : List ℕ). (16 * (byte / 16) + l) ∷ rest) (bytes_in (flat_map digits_of others))))
    (digit_again (byte % 16) (omega arith))
    ∙ ap (option_map (λ (rest : List ℕ). (16 * (byte / 16) + byte % 16) ∷ rest)) (bytes_again others all.1)
    ∙ ap (λ b. Some (b ∷ others)) whole
