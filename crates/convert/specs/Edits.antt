-- Changes of a text.
use Rattle.std.specs.Prelude.{ℕ, ◌-◌, ◌&&◌, if◌then◌else◌, List, [], ◌∷◌, ◌++◌, length, map, get_or}
use Rattle.words.specs.Characters.{is_word_byte}
use Rattle.convert.specs.declared.edit.Edit.{Edit}
use Rattle.convert.specs.Texts.{between}

-- a change: the bytes from a place up to another are replaced by a text
pub record Change : Type 0 where
  pub from : ℕ
  pub to : ℕ
  pub text : List ℕ

abbrev pub change_of : Edit → Change
change_of edit = record { from = edit.from; to = edit.to; text = edit.text.items }

abbrev pub changes_of : List Edit → List Change
changes_of edits = map change_of edits

-- a blank (32) between two bytes that would be of one word
abbrev pub gap : ℕ → ℕ → List ℕ
gap before after = if is_word_byte before && is_word_byte after then 32 ∷ [] else []

-- a piece of a text after a byte, apart from that if both would be of one word
abbrev pub apart : ℕ → List ℕ → List ℕ
apart last [] = []
apart last (c ∷ piece) = gap last c ++ (c ∷ piece)

-- the last byte of a piece, or the one before it if it has none
abbrev pub last_after : ℕ → List ℕ → ℕ
last_after last piece = get_or piece (length piece - 1) last

-- pieces of a text, one after another, after a byte
abbrev pub joined : ℕ → List (List ℕ) → List ℕ
joined last [] = []
joined last (piece ∷ pieces) = apart last piece ++ joined (last_after last piece) pieces

-- the pieces of a text from a place on: what the changes write, and what stays before, between and after these
abbrev pub pieces : ℕ → List ℕ → List Change → List (List ℕ)
pieces place source [] = between source place (length source) ∷ []
pieces place source (change ∷ changes) =
    between source place change.from ∷ change.text ∷ pieces change.to source changes

-- a text with the changes made: all else stays, in its order
abbrev pub spliced : List ℕ → List Change → List ℕ
spliced source changes = joined 32 (pieces 0 source changes)
