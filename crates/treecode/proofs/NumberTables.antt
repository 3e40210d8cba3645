-- A number that is put into a table.
use Rattle.treecode.proofs.Prelude.{◌≡◌, ℕ, zero, suc, ◌+◌, ◌-◌, ◌≤◌, List, [], ◌∷◌, ◌++◌, length, replicate, take, Option, Some, None, slice_set, refl, ap, ◌∙◌, arith, append-nil, reaching, with_number, take_whole}

pub reached : (entries now : List (Option ℕ)) (index count : ℕ) → count ≡ length entries → count ≤ index
    → now ≡ take (index + 1) entries ++ replicate (index + 1 - count) None
    → now ≡ reaching entries index
reached entries now index count counted past is =
    is
    ∙ ap (λ (front : List (Option ℕ)). front ++ replicate (index + 1 - count) None)
    (take_whole entries (index + 1) (up count (length entries) counted past))
    ∙ ap (λ (gap : ℕ). entries ++ replicate gap None) (same_gap count (length entries) counted)
  where
    up : (count total : ℕ) → count ≡ total → count ≤ index → total ≤ index + 1
    up count total e within = omega arith

    same_gap : (count total : ℕ) → count ≡ total → index + 1 - count ≡ suc index - total
    same_gap count total e = omega arith

first_put : (index number : ℕ) → slice_set (replicate (suc index) None) index (Some number)
    ≡ with_number [] index number
first_put zero number = refl
first_put (suc index) number = ap (λ (more : List (Option ℕ)). None ∷ more) (first_put index number)

placed : (entries : List (Option ℕ)) (index number gap : ℕ) → gap ≡ suc index - length entries
    → slice_set (entries ++ replicate gap None) index (Some number) ≡ with_number entries index number
placed [] index number gap e =
    let all : gap ≡ suc index = omega arith in
    ap (λ (count : ℕ). slice_set (replicate count None) index (Some number)) all ∙ first_put index number
placed (entry ∷ entries) zero number gap e =
    let none : gap ≡ 0 = omega arith in
    ap (λ (count : ℕ). Some number ∷ (entries ++ replicate count None)) none
    ∙ ap (λ (more : List (Option ℕ)). Some number ∷ more) (append-nil entries)
placed (entry ∷ entries) (suc index) number gap e =
    ap (λ (more : List (Option ℕ)). entry ∷ more) (placed entries index number gap (omega arith))

pub number_put : (entries reached now : List (Option ℕ)) (index number : ℕ) → reached ≡ reaching entries index
    → now ≡ slice_set reached index (Some number) → now ≡ with_number entries index number
number_put entries reached now index number is put =
    put ∙ ap (λ (all : List (Option ℕ)). slice_set all index (Some number)) is
    ∙ placed entries index number (suc index - length entries) refl
