-- Texts of punched cards.
use Rattle.std.specs.Prelude.{ℕ, List, ◌++◌, map, take}
use Rattle.std.specs.List.{join_with_byte}
use Rattle.convert.specs.Columns.{body}
use Rattle.convert.specs.Lines.{lines_of, plain, return_of}

-- a line of a card has text in 72 columns; its return stays
abbrev pub card : List ℕ → List ℕ
card line = take 72 (body line) ++ return_of line

-- a source on cards
abbrev pub carded : List ℕ → List ℕ
carded source = join_with_byte 10 (map card (lines_of (plain source)))
