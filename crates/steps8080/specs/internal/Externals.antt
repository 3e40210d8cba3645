-- Tables of numbers by other numbers, for the labels and the EXTERNAL names in code.
use Rattle.std.specs.Prelude.{◌≡◌, ◌<◌, ◌⊎◌, ℕ, suc, List, [], ◌∷◌, slice_index_or, Option, Some, None}

-- the entry of a table for a number, if any
abbrev pub entry : List (Option ℕ) → (number : ℕ) → Option ℕ
entry table number = slice_index_or table number None

-- the table `after` has all entries of `before`
abbrev pub Extends : (before after : List (Option ℕ)) → Type 0
Extends before after =
    (number found : ℕ) → entry before number ≡ Some found → entry after number ≡ Some found

-- the table `after` has no entries beside those of `before`, except for the number `added`
abbrev pub AddsOnly : (added : ℕ) → (before after : List (Option ℕ)) → Type 0
AddsOnly added before after =
    (number found : ℕ) → entry after number ≡ Some found → (entry before number ≡ Some found) ⊎ (number ≡ added)

-- no number is in a table twice
abbrev pub AreDifferent : List (Option ℕ) → Type 0
AreDifferent table =
    (name other number : ℕ) → entry table name ≡ Some number → entry table other ≡ Some number → name ≡ other

-- how many entries a table has
abbrev pub entries : List (Option ℕ) → ℕ
entries [] = 0
entries (None ∷ others) = entries others
entries (Some number ∷ others) = suc (entries others)

-- a table numbers `count` names: each has a number of its own, below that
pub record IsNumbering (count : ℕ) (table : List (Option ℕ)) : Type 0 where
  pub counted : entries table ≡ count
  pub below : (name number : ℕ) → entry table name ≡ Some number → number < count
  pub different : AreDifferent table
