-- Values of digits, and the base letter at the end.
use Rattle.words.proofs.Prelude.{◌≡◌, ◌≢◌, ℕ, ◌+◌, ◌-◌, ◌*◌, ◌<◌, ◌≤◌, List, [], ◌∷◌, ◌++◌, length, get_or, take, None, Some, refl, sym, ap, ◌∙◌, arith, fold, Bool, true, false, cond, ◌&&◌, to_ascii_uppercase, list_all, nat_lt, nat_le, GREATEST_NUMBER, name_of, digit_value, value_of, number_in, number_of, number_with, base_of, take_more, take_all, take_at, get_or_at, length_push, nat_tests, le-mul_of_pos_right}
use Rattle.words.proofs.NamesLemmas.{name_of-append, name_of-character}

-- more digits make no value smaller
pub value_grows : (base value : ℕ) (digits : List ℕ)
    → 0 < base
    → value ≤ fold (λ value digit. value * base + digit_value digit) value digits
value_grows base value [] positive = omega arith
value_grows base value (digit ∷ digits) positive =
    let rest = value_grows base (value * base + digit_value digit) digits positive in
    let grown : value ≤ value * base = le-mul_of_pos_right value positive in
    omega arith

-- a conjunction with a test that fails takes the other branch
and_fails : {X : Type 0} (a b : Bool) (x y : X) → b ≡ false → cond (a && b) x y ≡ y
and_fails true b x y fails = ap (λ b. cond b x y) fails
and_fails false b x y fails = refl

pub number_in_too_great : (base : ℕ) (digits : List ℕ)
    → GREATEST_NUMBER < value_of base digits
    → number_in base digits ≡ None
number_in_too_great base digits great =
    let fails : nat_le (value_of base digits) GREATEST_NUMBER ≡ false = grind (arith, nat_tests) in
    and_fails (list_all (λ digit. nat_lt (digit_value digit) base) digits)
    (nat_le (value_of base digits) GREATEST_NUMBER) _ _ fails

-- the last of the characters says the base
number_of-push : (front : List ℕ) (last : ℕ)
    → number_of (front ++ last ∷ []) ≡ number_with (base_of last) (front ++ last ∷ [])
number_of-push front last =
    let at_last : get_or (front ++ last ∷ []) (length (front ++ last ∷ []) - 1) 0 ≡ last =
    get_or_at front last [] 0 _ (omega (arith, length_push front last)) in
    ap (λ c. number_with (base_of c) (front ++ last ∷ [])) at_last

-- a word and its last character, which is no `$`
module _ (text : List ℕ) (some : 0 < length text) (significant : get_or text (length text - 1) 0 ≢ 36) where
  name_of-last : name_of text ≡ name_of (take (length text - 1) text)
      ++ to_ascii_uppercase (get_or text (length text - 1) 0) ∷ []
  name_of-last =
      let split : text ≡ take (length text - 1) text ++ get_or text (length text - 1) 0 ∷ [] =
      sym (take_all (length text - 1 + 1) text (omega arith))
      ∙ take_more text (length text - 1) 0 (omega arith) in
      ap name_of split ∙ name_of-append (take (length text - 1) text) (get_or text (length text - 1) 0 ∷ [])
      ∙ ap (λ back. name_of (take (length text - 1) text) ++ back) (name_of-character _ significant)

  -- with a letter of a base
  pub number_of-based : (base : ℕ)
      → base_of (to_ascii_uppercase (get_or text (length text - 1) 0)) ≡ Some base
      → number_of (name_of text) ≡ number_in base (name_of (take (length text - 1) text))
  number_of-based base is =
      let front = name_of (take (length text - 1) text) in
      let last = to_ascii_uppercase (get_or text (length text - 1) 0) in
      let cut : take (length (front ++ last ∷ []) - 1) (front ++ last ∷ []) ≡ front =
      take_at front (last ∷ []) _ (omega (arith, length_push front last)) in
      ap number_of name_of-last ∙ number_of-push front last ∙ ap (λ b. number_with b (front ++ last ∷ [])) is
      ∙ ap (number_in base) cut

  -- with none
  pub number_of-decimal : base_of (to_ascii_uppercase (get_or text (length text - 1) 0)) ≡ None
      → number_of (name_of text) ≡ number_in 10 (name_of text)
  number_of-decimal is =
      let front = name_of (take (length text - 1) text) in
      let last = to_ascii_uppercase (get_or text (length text - 1) 0) in
      ap number_of name_of-last ∙ number_of-push front last ∙ ap (λ b. number_with b (front ++ last ∷ [])) is ∙ ap (number_in 10) (sym name_of-last)
