-- Strings and comments (PL/M-80 Programming Manual, on string constants and on comments).
use Rattle.std.specs.Prelude.{ℕ, ◌+◌, Bool, true, false, not, ◌==◌, ◌&&◌, if◌then◌else◌}
use Rattle.std.specs.Prelude.{List, [], ◌∷◌, drop, Result, Ok, Err}
use Rattle.words.specs.declared.items.Cause.{Cause}
use Rattle.words.specs.declared.items.Cause.TheVariants.{BadCharacter, NotClosed}
use Rattle.words.specs.declared.items.Item.{Item}
use Rattle.words.specs.declared.items.Item.TheVariants.{Blank, Spelled, Wrong}
use Rattle.words.specs.declared.vocabulary.Kind.TheVariants.{String}
use Rattle.words.specs.Characters.{is_printable, is_comment_byte}

-- an end, counted from a number of bytes before
abbrev pub further : ℕ → Result ℕ Cause → Result ℕ Cause
further count (Ok length) = Ok (count + length)
further count (Err cause) = Err cause

-- How many bytes of the text the rest of a string takes. `quoted` says that a quote stands just before the text:
-- it closes the string, unless another quote follows, which makes the two one quote of the string.
abbrev pub string_end : Bool → List ℕ → Result ℕ Cause
string_end quoted [] = if quoted then Ok 0 else Err NotClosed
string_end quoted (b ∷ text) =
    if b == 39 then further 1 (string_end (not quoted) text)
    else (if quoted then Ok 0
    else (if is_printable b then further 1 (string_end false text)
    else Err BadCharacter))

-- How many bytes of the text the rest of a comment takes. `starred` says that a `*` of the comment stands
-- just before the text.
abbrev pub comment_end : Bool → List ℕ → Result ℕ Cause
comment_end starred [] = Err NotClosed
comment_end starred (b ∷ text) =
    if starred && (b == 47) then Ok 1
    else (if is_comment_byte b then further 1 (comment_end (b == 42) text)
    else Err BadCharacter)

-- a string, whose opening quote stands before the text
abbrev pub string_item : Result ℕ Cause → Item
string_item (Ok length) = Spelled String (1 + length)
string_item (Err cause) = Wrong cause

-- a comment, whose opening `/*` stands before the text
abbrev pub comment_item : Result ℕ Cause → Item
comment_item (Ok length) = Blank (2 + length)
comment_item (Err cause) = Wrong cause

-- the bytes between the quotes of a string, where `quoted` says that a quote stands just before: of two quotes
-- in a row one stays
abbrev pub unquoted : Bool → List ℕ → List ℕ
unquoted quoted [] = []
unquoted quoted (b ∷ text) =
    if b == 39 then (if quoted then b ∷ unquoted false text else unquoted true text)
    else b ∷ unquoted false text

-- the bytes that a string stands for, from the text of its word
abbrev pub characters_of : List ℕ → List ℕ
characters_of text = unquoted false (drop 1 text)
