-- Numbers that texts write.
use Rattle.command_line.proofs.Prelude.{◌≡◌, ℕ, ◌<◌, ◌≤◌, ◌^◌, List, [], ◌∷◌, Bool, true, false, Ok, Err, length, slice_index, refl, sym, ◌∙◌, ap, arith, ◌==◌, ◌&&◌, nat_le, nat_lt, if◌then◌else◌, digit_value, is_digit, list_all, AllDigits, IsNumeral, digits_value, without_leading_plus, ltb-true, leb-true, lt-ltb, eqb-true, le-leb, Read, is_decimal, number_to, and_parts, and_right}

all_digits : (t : List ℕ) → AllDigits 10 t → list_all (λ c. is_digit c 10) t ≡ true
all_digits [] d = refl
all_digits (c ∷ rest) d = rw (lt-ltb (digit_value c) 10 d.0) (all_digits rest d.1)

digits_all : (t : List ℕ) → list_all (λ c. is_digit c 10) t ≡ true → AllDigits 10 t
digits_all [] e = tt
digits_all (c ∷ rest) e =
    let parts = and_parts (is_digit c 10) (list_all (λ c. is_digit c 10) rest) e in
    (ltb-true (digit_value c) 10 parts.0, digits_all rest parts.1)

decimal_of : (t : List ℕ) → IsNumeral 10 t → is_decimal t ≡ true
decimal_of t n = rw (lt-ltb 0 (length t) n.0) (all_digits t n.1)

numeral_of : (t : List ℕ) → is_decimal t ≡ true → IsNumeral 10 t
numeral_of t e =
    let parts = and_parts (nat_lt 0 (length t)) (list_all (λ c. is_digit c 10) t) e in
    (ltb-true 0 (length t) parts.0, digits_all t parts.1)

no_plus : (t : List ℕ) → (slice_index t 0 == 43) ≡ false → without_leading_plus t ≡ t
no_plus t e = rw e refl

number_by : (most : ℕ) (t : List ℕ) (a b : Bool) → is_decimal t ≡ a → nat_le (digits_value 10 t) most ≡ b
    → number_to most t ≡ (if a && b then Ok (digits_value 10 t) else Err t)
number_by most t a b e f = rw (e, f) refl

-- a numeral that is not too great is read
pub number_read : (k most : ℕ) (t : List ℕ) (n : ℕ) → (slice_index t 0 == 43) ≡ false
    → ((IsNumeral 10 (without_leading_plus t) × (digits_value 10 (without_leading_plus t) < 2 ^ k))
    × (n ≡ digits_value 10 (without_leading_plus t)))
    → n ≤ most → number_to most t ≡ Ok n
number_read k most t n plus ((numeral, fits), is) small =
    let same = no_plus t plus in
    let value : digits_value 10 t ≡ n = sym (is ∙ ap (digits_value 10) same) in
    let low : nat_le (digits_value 10 t) most ≡ true = le-leb (digits_value 10 t) most (rw value small) in
    number_by most t true true (decimal_of t (rw same at numeral)) low ∙ ap (λ (m : ℕ). Ok m) value

never_both : (a : Bool) (t : List ℕ)
    → (let answer : Read ℕ = if a && false then Ok (digits_value 10 t) else Err t in answer) ≡ Err t
never_both true t = refl
never_both false t = refl

-- one that is too great is refused
pub number_too_great : (k most : ℕ) (t : List ℕ) (n : ℕ) → (slice_index t 0 == 43) ≡ false
    → ((IsNumeral 10 (without_leading_plus t) × (digits_value 10 (without_leading_plus t) < 2 ^ k))
    × (n ≡ digits_value 10 (without_leading_plus t)))
    → most < n → number_to most t ≡ Err t
number_too_great k most t n plus ((numeral, fits), is) great =
    let value : digits_value 10 t ≡ n = sym (is ∙ ap (digits_value 10) (no_plus t plus)) in
    go (nat_le (digits_value 10 t) most) refl value
  where
    go : (b : Bool) → nat_le (digits_value 10 t) most ≡ b → digits_value 10 t ≡ n → number_to most t ≡ Err t
    go true e value = let low = leb-true (digits_value 10 t) most e in absurd (omega arith)
    go false e value = number_by most t (is_decimal t) false refl e ∙ never_both (is_decimal t) t

-- what is no numeral, or does not fit, is refused
pub number_refused : (k most : ℕ) (t : List ℕ) → (slice_index t 0 == 43) ≡ false
    → (IsNumeral 10 (without_leading_plus t) × (digits_value 10 (without_leading_plus t) < 2 ^ k) → ⊥)
    → most < 2 ^ k → number_to most t ≡ Err t
number_refused k most t plus none fits = go (is_decimal t) (nat_le (digits_value 10 t) most) refl refl
  where
    go : (a b : Bool) → is_decimal t ≡ a → nat_le (digits_value 10 t) most ≡ b → number_to most t ≡ Err t
    go true true e f =
        let low = leb-true (digits_value 10 t) most f in
        let small : digits_value 10 t < 2 ^ k = omega arith in
        let same = no_plus t plus in
        absurd (none (rw same (numeral_of t e), rw same small))
    go true false e f = number_by most t true false e f
    go false b e f = number_by most t false b e f

not_decimal : (c : ℕ) (rest : List ℕ) → (c == 43) ≡ true → is_decimal (c ∷ rest) ≡ false
not_decimal c rest e =
    let is : c ≡ 43 = eqb-true c 43 e in
    rw is (and_right (nat_lt 0 (length (43 ∷ rest))) false refl)

-- a text with a plus sign in front is refused
pub plus_refused : (most : ℕ) (t : List ℕ) → (slice_index t 0 == 43) ≡ true → number_to most t ≡ Err t
plus_refused most [] e = let bad : false ≡ true = e in cc
plus_refused most (c ∷ rest) e = number_by most (c ∷ rest) false (nat_le (digits_value 10 (c ∷ rest)) most) (not_decimal c rest e) refl
