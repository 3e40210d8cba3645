-- The labels of a module in its code, and those of them that have their places.
use Rattle.std.specs.Prelude.{◌≡◌, ◌<◌, ◌≤◌, ℕ, Bool, false, List, slice_index_or, length, Option, Some}
use Rattle.asm8080.specs.Items.{Assembly, is_bound}
use Rattle.steps8080.specs.internal.Externals.{AreDifferent, entry}

-- each label in a table is one of the code
abbrev pub AreOfCode : (labels : List (Option ℕ)) → Assembly → Type 0
AreOfCode labels code = (number label : ℕ) → entry labels number ≡ Some label → label < code.labels

-- flags of the labels that may have a place in code: no other label in the table has one
abbrev pub AreMarked : (labels : List (Option ℕ)) → (flags : List Bool) → Assembly → Type 0
AreMarked labels flags code =
    (number label : ℕ)
    → entry labels number ≡ Some label
    → slice_index_or flags number false ≡ false
    → is_bound label code.items ≡ false

-- the labels that a writer keeps, with a flag for each
pub record AreKept (labels : List (Option ℕ)) (flags : List Bool) (code : Assembly) : Type 0 where
  pub of_code : AreOfCode labels code
  pub different : AreDifferent labels
  pub marked : AreMarked labels flags code
  pub long : length labels ≤ length flags
