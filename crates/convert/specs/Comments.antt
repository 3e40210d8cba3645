-- Comments in which another begins. Strings and comments are those of words, but that a string ends with its line at last.
use Rattle.std.specs.Prelude.{ℕ, ◌+◌, Bool, true, false, not, ◌==◌, ◌&&◌, ◌||◌, if◌then◌else◌, None}
use Rattle.std.specs.Prelude.{List, [], ◌∷◌, ◌++◌}
use Rattle.convert.specs.declared.advice.Advice.{Advice}
use Rattle.convert.specs.declared.assembly.Place.{Place}
use Rattle.convert.specs.declared.assembly.PlacedNote.{PlacedNote}
use Rattle.convert.specs.declared.comments.Within.{Within}
use Rattle.convert.specs.declared.comments.Within.TheVariants.{Program, Slash, Quotes, Comment, Asterisk, InnerSlash, Inner}
use Rattle.convert.specs.Lines.{is_control, lines_of}

-- after a byte outside of strings and comments: a slash (47) may begin a comment, and a quote (39) begins a string
abbrev pub after_outside : ℕ → Within
after_outside c = if c == 47 then Slash else (if c == 39 then Quotes else Program)

-- after a byte of a comment that does not end it: an asterisk (42) may begin its end, and a slash another comment
abbrev pub after_inside : ℕ → Within
after_inside c = if c == 42 then Asterisk else (if c == 47 then InnerSlash else Comment)

-- after a byte
abbrev pub after_byte : Within → ℕ → Within
after_byte Program c = after_outside c
after_byte Slash c = if c == 42 then Comment else after_outside c
after_byte Quotes c = if c == 39 then Program else Quotes
after_byte Comment c = after_inside c
after_byte Asterisk c = if c == 47 then Program else after_inside c
after_byte InnerSlash c = if c == 42 then Inner else after_inside c
after_byte Inner c = if c == 47 then Program else after_inside c

-- after the end of a line
abbrev pub after_end : Within → Within
after_end Program = Program
after_end Slash = Program
after_end Quotes = Program
after_end Comment = Comment
after_end Asterisk = Comment
after_end InnerSlash = Comment
after_end Inner = Comment

abbrev pub is_inner : Within → Bool
is_inner Inner = true
is_inner within = false

-- whether a comment begins in another on a line, or right before it: by `/*`, without a slash after it, which ends the other
abbrev pub begins_inner : Within → List ℕ → Bool
begins_inner within [] = is_inner within
begins_inner within (c ∷ line) = (is_inner within && not (c == 47)) || begins_inner (after_byte within c) line

-- after the bytes of a line and its end
abbrev pub after_bytes : Within → List ℕ → Within
after_bytes within [] = after_end within
after_bytes within (c ∷ line) = after_bytes (after_byte within c) line

-- after a line, where one with controls is passed over
abbrev pub after_line : Within → List ℕ → Within
after_line within line = if is_control line then within else after_bytes within line

-- what is told of a line
abbrev pub comment_note : Advice → Place → Within → List ℕ → List PlacedNote
comment_note advice place within line =
    if not (is_control line) && begins_inner within line
    then record { place = place; text = advice.inner_comment; number = None } ∷ [] else []

-- what is told of the lines of a file, numbered from `number`
abbrev pub comment_notes_from : Advice → (file number : ℕ) → Within → List (List ℕ) → List PlacedNote
comment_notes_from advice file number within [] = []
comment_notes_from advice file number within (line ∷ lines) =
    comment_note advice (record { file = file; line = number }) within line
    ++ comment_notes_from advice file (number + 1) (after_line within line) lines

-- what is told of the text of a file
abbrev pub comment_notes : Advice → ℕ → List ℕ → List PlacedNote
comment_notes advice file text = comment_notes_from advice file 1 Program (lines_of text)
