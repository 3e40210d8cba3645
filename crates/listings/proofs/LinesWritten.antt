-- Lines as they are formatted.
use Rattle.listings.proofs.Prelude.{◌≡◌, ℕ, ◌+◌, ◌-◌, ◌/◌, ◌%◌, ◌^◌, ◌<◌, ◌≤◌, true, List, [], ◌∷◌, ◌++◌, Option, Some, Result, OnOk, decimal, length, replicate, ⊎_elim, ap, sym, subst, ◌∙◌, arith, cases_lt, decimal_digit, decimal_step, length-append, digits_output, format_spec, styled_digits_output, ◌++?◌, Appends, digits, hole_is, address_digits}
use Rattle.std.proofs.Common.{IfSome}

-- an address after a space
pub address_written : {E : Type 0} (result : Result (Unit {0}) E) (d : _) (spec : _)
    (n : ℕ) (old new : List ℕ)
    → digits_output d ≡ Some (digits 16 true n) → spec ≡ format_spec 32 0 4 4 (2 ^ 64 - 1) → n < 65536
    → OnOk result (IfSome (Some (32 ∷ []) ++? styled_digits_output d spec) (Appends (Some old) (Some new)))
    → OnOk result (new ≡ old ++ 32 ∷ address_digits n)
address_written result d spec n old new shown is small wrote =
    subst (λ (o : Option (List ℕ)). OnOk result
    (IfSome (Some (32 ∷ []) ++? o) (Appends (Some old) (Some new))))
    (hole_is d spec n shown is small) wrote

-- how many digits a number has
one_more : (n : ℕ) → 10 ≤ n → n < 18446744073709551616 → length (decimal n) ≡ length (decimal (n / 10)) + 1
one_more n large fits =
    ap length (decimal_step n large fits) ∙ length-append (decimal (n / 10)) ((48 + n % 10) ∷ [])

pub one_digit : (n : ℕ) → n < 10 → length (decimal n) ≡ 1
one_digit n small = ap length (decimal_digit n small)

pub two_digits : (n : ℕ) → 10 ≤ n → n < 100 → length (decimal n) ≡ 2
two_digits n large small =
    let more = one_more n large (omega arith) in
    let rest = one_digit (n / 10) (omega arith) in
    omega (arith, more, rest)

pub three_digits : (n : ℕ) → 100 ≤ n → n < 1000 → length (decimal n) ≡ 3
three_digits n large small =
    let more = one_more n (omega arith) (omega arith) in
    let rest = two_digits (n / 10) (omega arith) (omega arith) in
    omega (arith, more, rest)

pub four_digits : (n : ℕ) → 1000 ≤ n → n < 10000 → length (decimal n) ≡ 4
four_digits n large small =
    let more = one_more n (omega arith) (omega arith) in
    let rest = three_digits (n / 10) (omega arith) (omega arith) in
    omega (arith, more, rest)

some_digits : (n : ℕ) → n < 18446744073709551616 → 1 ≤ length (decimal n)
some_digits n fits = ⊎_elim
    (λ (small : n < 10). let e = one_digit n small in omega (arith, e))
    (λ (large : 10 ≤ n). let e = one_more n large fits in omega (arith, e))
    (cases_lt n 10)

pub five_digits : (n : ℕ) → 10000 ≤ n → n < 4294967296 → 5 ≤ length (decimal n)
five_digits n large fits =
    let first = one_more n (omega arith) (omega arith) in
    let second = one_more (n / 10) (omega arith) (omega arith) in
    let third = one_more (n / 10 / 10) (omega arith) (omega arith) in
    let fourth = one_more (n / 10 / 10 / 10) (omega arith) (omega arith) in
    let last = some_digits (n / 10 / 10 / 10 / 10) (omega arith) in
    omega (arith, first, second, third, fourth, last)

pub room_is : (n room : ℕ) → 5 - length (decimal n) ≡ room
    → replicate {A = ℕ} room 32 ≡ replicate {A = ℕ} (5 - length (decimal n)) 32
room_is n room e = ap (λ (k : ℕ). replicate {A = ℕ} k 32) (sym e)
