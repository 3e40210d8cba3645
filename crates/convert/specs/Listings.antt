-- Listings that a compiler of PL/M-80 printed.
use Rattle.std.specs.Prelude.{ℕ, ◌+◌, Bool, true, false, ◌==◌, ◌&&◌, ◌||◌, if◌then◌else◌, nat_eq, codes, None}
use Rattle.std.specs.Prelude.{List, [], ◌∷◌, ◌++◌, drop, take}
use Rattle.std.specs.Char.{is_ascii_digit}
use Rattle.std.specs.List.{list_all, list_any, starts_with}
use Rattle.convert.specs.declared.advice.Advice.{Advice}
use Rattle.convert.specs.declared.assembly.PlacedNote.{PlacedNote}
use Rattle.convert.specs.declared.listings.Listed.{Listed}
use Rattle.convert.specs.declared.listings.Listed.TheVariants.{Source, Rest, Printed, Unknown}
use Rattle.convert.specs.Assembly.{line_of_source}
use Rattle.convert.specs.Columns.{body}
use Rattle.convert.specs.Lines.{lines_of, plain, return_of}

-- a line begins with a text
abbrev pub begins : (text line : List ℕ) → Bool
begins text line = starts_with nat_eq line text

-- a line that the compiler printed of its own
abbrev pub is_printed : List ℕ → Bool
is_printed line =
    begins (codes "PL/M-80 COMPILER") line
    || (begins (codes "ISIS-II PL/M-80 ") line
    || (begins (codes "OBJECT MODULE PLACED IN ") line
    || (begins (codes "NO OBJECT MODULE ") line
    || (begins (codes "COMPILER INVOKED BY:") line
    || begins (codes "*** ") line))))

-- a line that ends the source: there is no source from it on
unfoldable pub is_end : List ℕ → Bool
is_end line =
    begins (codes "MODULE INFORMATION:") line
    || (begins (codes "CROSS-REFERENCE LISTING") line
    || begins (codes "SYMBOL LISTING") line)

-- a byte of the columns 1 to 8, in which numbers stand: a blank (32), a hyphen (45) or a digit
abbrev pub is_number : ℕ → Bool
is_number c = (c == 32) || ((c == 45) || is_ascii_digit c)

-- a byte of the columns 9 to 14: a blank, a hyphen, an equals sign (61), or a digit that follows one
abbrev pub is_mark : (included : Bool) → ℕ → Bool
is_mark included c = (c == 32) || ((c == 45) || ((c == 61) || (included && is_ascii_digit c)))

abbrev pub has_marks : (included : Bool) → List ℕ → Bool
has_marks included [] = true
has_marks included (c ∷ columns) = is_mark included c && has_marks (c == 61) columns

-- a line has in its first 14 columns what a compiler prints there; a shorter one has blanks there
abbrev pub has_columns : List ℕ → Bool
has_columns line = list_all is_number (take 8 line) && has_marks false (drop 8 (take 14 line))

-- what a line is, which has no return at its end: with a hyphen in its first columns it is the rest of the line before
abbrev pub form_of : List ℕ → Listed
form_of line =
    if is_printed line then Printed
    else (if has_columns line then (if list_any (λ c. c == 45) (take 14 line) then Rest else Source) else Unknown)

-- the source in a line
abbrev pub listed_body : Listed → List ℕ → List ℕ
listed_body Source line = drop 14 line
listed_body Rest line = drop 14 line
listed_body Printed line = []
listed_body Unknown line = line

-- the text that a line gives
unfoldable pub listed : List ℕ → List ℕ
listed line = listed_body (form_of (body line)) (body line) ++ return_of line

-- the text that lines give, with line feeds (10) between them: nothing from the first line on that ends the source
abbrev pub listed_text : List (List ℕ) → List ℕ
listed_text [] = []
listed_text (line ∷ []) = if is_end line then [] else listed line
listed_text (line ∷ next ∷ lines) = if is_end line then [] else listed line ++ 10 ∷ listed_text (next ∷ lines)

-- the source of a listing
abbrev pub unlisted : List ℕ → List ℕ
unlisted listing = listed_text (lines_of (plain listing))

-- what is told of a line of a number
abbrev pub listing_note : Advice → ℕ → Listed → List PlacedNote
listing_note advice number Source = []
listing_note advice number Rest = record { place = line_of_source number; text = advice.goes_on; number = None } ∷ []
listing_note advice number Printed = []
listing_note advice number Unknown = record { place = line_of_source number; text = advice.no_line; number = None } ∷ []

-- what is told of lines, numbered from `number`
abbrev pub listing_notes_from : Advice → ℕ → List (List ℕ) → List PlacedNote
listing_notes_from advice number [] = []
listing_notes_from advice number (line ∷ lines) =
    if is_end line then []
    else listing_note advice number (form_of (body line)) ++ listing_notes_from advice (number + 1) lines

-- what is told of the lines of a listing, counted from 1
abbrev pub listing_notes : Advice → List ℕ → List PlacedNote
listing_notes advice listing = listing_notes_from advice 1 (lines_of (plain listing))
