-- Bytes that lie one after another, cut into pieces.
use Rattle.std.specs.Prelude.{ℕ, ◌+◌, List, [], ◌∷◌, take, drop}

-- a piece for each size
abbrev pub cut : (sizes bytes : List ℕ) → List (List ℕ)
cut [] bytes = []
cut (size ∷ sizes) bytes = take size bytes ∷ cut sizes (drop size bytes)

abbrev pub total : (sizes : List ℕ) → ℕ
total [] = 0
total (size ∷ sizes) = size + total sizes
