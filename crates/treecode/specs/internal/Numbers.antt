-- Tables of numbers by other numbers, as lists.
use Rattle.std.specs.Prelude.{ℕ, zero, suc, ◌-◌, List, [], ◌∷◌, ◌++◌, length, replicate, Option, Some, None, slice_index_or}

-- the number for an index, if known
abbrev pub number_in : List (Option ℕ) → (index : ℕ) → Option ℕ
number_in entries index = slice_index_or entries index None

-- a table in which the number for an index is set
abbrev pub with_number : List (Option ℕ) → (index number : ℕ) → List (Option ℕ)
with_number [] zero number = Some number ∷ []
with_number [] (suc index) number = None ∷ with_number [] index number
with_number (entry ∷ entries) zero number = Some number ∷ entries
with_number (entry ∷ entries) (suc index) number = entry ∷ with_number entries index number

-- a table with entries added up to this index
abbrev pub reaching : List (Option ℕ) → (index : ℕ) → List (Option ℕ)
reaching entries index = entries ++ replicate (suc index - length entries) None
