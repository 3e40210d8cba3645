-- How much of a text an item takes.
use Rattle.std.specs.Prelude.{ℕ, ◌<◌, ◌≤◌}
use Rattle.words.specs.declared.items.Item.{Item}
use Rattle.words.specs.declared.items.Item.TheVariants.{Blank, Spelled}

-- an item takes at least one byte of a text of this size, and none past its end
abbrev pub FitsIn : ℕ → Item → Type 0
FitsIn size (Blank length) = (0 < length) × (length ≤ size)
FitsIn size (Spelled kind length) = (0 < length) × (length ≤ size)
FitsIn size item = Unit {0}
