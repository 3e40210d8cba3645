-- Numbers in lists, each at most once.
use Rattle.codegen8080.proofs.Prelude.{◌≡◌, inl, inr, ℕ, zero, suc, ◌+◌, ◌<◌, ◌≤◌, List, [], ◌∷◌, ◌++◌, length, refl, sym, ap, subst, ◌∙◌, arith, append-nil}
use Rattle.std.proofs.Common.{◌≢◌, ◌⊎◌, slice_index_or}
use Rattle.std.specs.Prelude.{AllPairs, flat_map}
use Rattle.exprgen8080.specs.internal.Marks.{Differ, IsIn}

pub in_first : (number : ℕ) (first others : List ℕ) → IsIn number first → IsIn number (first ++ others)
in_first number [] others is = absurd is
in_first number (one ∷ first) others (inl same) = inl same
in_first number (one ∷ first) others (inr is) = inr (in_first number first others is)

pub in_later : (number : ℕ) (first others : List ℕ) → IsIn number others → IsIn number (first ++ others)
in_later number [] others is = is
in_later number (one ∷ first) others is = inr (in_later number first others is)

pub in_either : (number : ℕ) (first others : List ℕ) → IsIn number (first ++ others)
    → IsIn number first ⊎ IsIn number others
in_either number [] others is = inr is
in_either number (one ∷ first) others (inl same) = inl (inl same)
in_either number (one ∷ first) others (inr is) = elim (in_either number first others is) [
  | inl here ↦ inl (inr here)
  | inr later ↦ inr later
]

pub differ_first : (first others : List ℕ) → Differ (first ++ others) → Differ first
differ_first [] others differ = tt
differ_first (one ∷ first) others differ =
    (λ is. differ.0 (in_first one first others is), differ_first first others differ.1)

pub differ_later : (first others : List ℕ) → Differ (first ++ others) → Differ others
differ_later [] others differ = differ
differ_later (one ∷ first) others differ = differ_later first others differ.1

pub differ_apart : (number : ℕ) (first others : List ℕ)
    → Differ (first ++ others) → IsIn number first → IsIn number others → ⊥
differ_apart number [] others differ here later = here
differ_apart number (one ∷ first) others differ (inl same) later =
    differ.0 (in_later one first others (subst (λ (n : ℕ). IsIn n others) same later))
differ_apart number (one ∷ first) others differ (inr here) later =
    differ_apart number first others differ.1 here later

pub differ_both : (first others : List ℕ)
    → Differ first → Differ others → ((number : ℕ) → IsIn number first → IsIn number others → ⊥)
    → Differ (first ++ others)
differ_both [] others one two apart = two
differ_both (number ∷ first) others one two apart = (
  λ is. elim (in_either number first others is) [
    | inl here ↦ one.0 here
    | inr later ↦ apart number (inl refl) later
  ],
  differ_both first others one.1 two (λ other here later. apart other (inr here) later),
)

-- with nothing after them
pub in_alone : (number : ℕ) (list : List ℕ) → IsIn number (list ++ []) → IsIn number list
in_alone number list is = subst (IsIn number) (append-nil list) is

pub differ_alone : (list : List ℕ) → Differ list → Differ (list ++ [])
differ_alone list differ = subst Differ (sym (append-nil list)) differ

-- numbers that rise from one on, and are below another
abbrev pub Rising : (low : ℕ) → List ℕ → (high : ℕ) → Type 0
Rising low [] high = low ≤ high
Rising low (first ∷ others) high = (low ≤ first) × Rising (suc first) others high

pub rising_fits : (low : ℕ) (list : List ℕ) (high : ℕ) → Rising low list high → low ≤ high
rising_fits low [] high rising = rising
rising_fits low (first ∷ others) high rising =
    let rest = rising_fits (suc first) others high rising.1 in omega (arith, rising.0, rest)

pub rising_in : (low : ℕ) (list : List ℕ) (high one : ℕ) → Rising low list high → IsIn one list
    → (low ≤ one) × (one < high)
rising_in low [] high one rising is = absurd is
rising_in low (first ∷ others) high one rising (inl same) =
    let rest = rising_fits (suc first) others high rising.1 in
    (omega (arith, same, rising.0), omega (arith, same, rest))
rising_in low (first ∷ others) high one rising (inr is) =
    let rest = rising_in (suc first) others high one rising.1 is in
    (omega (arith, rest.0, rising.0), rest.1)

pub rising_differ : (low : ℕ) (list : List ℕ) (high : ℕ) → Rising low list high → Differ list
rising_differ low [] high rising = tt
rising_differ low (first ∷ others) high rising = (
  λ is. let after = rising_in (suc first) others high first rising.1 is in omega (arith, after.0),
  rising_differ (suc first) others high rising.1,
)

-- numbers that differ pair by pair
in_at : (number : ℕ) (list : List ℕ) → IsIn number list
    → (index : ℕ) × (index < length list) × ((d : ℕ) → slice_index_or list index d ≡ number)
in_at number [] is = absurd is
in_at number (first ∷ others) (inl same) = (0, omega arith, λ d. sym same)
in_at number (first ∷ others) (inr is) =
    let rest = in_at number others is in (suc rest.0, omega (arith, rest.1), λ d. rest.2 d)

pub differ_pairs : (list : List ℕ) → AllPairs (λ (one other : ℕ). one ≢ other) list → Differ list
differ_pairs [] differ = tt
differ_pairs (first ∷ others) differ = (
  λ is.
      let at = in_at first others is in
      differ 0 (suc at.0) 0 (omega arith) (omega (arith, at.1)) (sym (at.2 0)),
  differ_pairs others (λ i j d before within.
      differ (suc i) (suc j) d (omega (arith, before)) (omega (arith, within))),
)

-- they rise from a lower one on too
pub rising_lower : (low from : ℕ) (list : List ℕ) (high : ℕ) → low ≤ from → Rising from list high
    → Rising low list high
rising_lower low from [] high less rising = omega (arith, less, rising)
rising_lower low from (first ∷ others) high less rising = (omega (arith, less, rising.0), rising.1)
