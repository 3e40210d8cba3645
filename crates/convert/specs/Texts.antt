-- Texts of words.
use Rattle.std.specs.Prelude.{ℕ, ◌+◌, nat_le, ◌&&◌, if◌then◌else◌}
use Rattle.std.specs.Prelude.{List, [], ◌∷◌, length}
use Rattle.std.specs.List.{slice_range}
use Rattle.convert.specs.declared.class.Seen.{Seen}

-- the bytes of a text between two places, none if they are no such
abbrev pub between : List ℕ → ℕ → ℕ → List ℕ
between source from to = if nat_le from to && nat_le to (length source) then slice_range source from to else []

-- where the first of words begins
abbrev pub start_of : List Seen → ℕ
start_of [] = 0
start_of (seen ∷ words) = seen.word.start

-- where the last of words ends, after a word that ends at a place
abbrev pub end_after : ℕ → List Seen → ℕ
end_after place [] = place
end_after place (seen ∷ words) = end_after (seen.word.start + length seen.word.text.now) words

-- the text from the first of words to the last, with what is between them
abbrev pub text_of : List ℕ → List Seen → List ℕ
text_of source words = between source (start_of words) (end_after 0 words)
