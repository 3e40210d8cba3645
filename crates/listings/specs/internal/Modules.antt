-- Listings of modules.
use Rattle.std.specs.Prelude.{ℕ, suc, ◌==◌, if◌then◌else◌, List, [], ◌∷◌, ◌++◌, length, Option}
use Rattle.object_modules.specs.Image.{Symbol}
use Rattle.listings.specs.Listing.{Part, listed_from, parts_beside, parts_text}

-- how many bytes come before the first line feed (10)
abbrev pub first_length : List ℕ → ℕ
first_length [] = 0
first_length (c ∷ text) = if c == 10 then 0 else suc (first_length text)

-- lines, each with the parts that stand below it, and then the parts that stand below none
abbrev pub code_text : (name_at : ℕ → Option Symbol) → (lines : List (List ℕ)) → List (ℕ × Part) → List ℕ
code_text name_at lines parts =
    listed_from 1 name_at lines parts ++ parts_text name_at (parts_beside (length lines) parts)
