-- The conversion of a source.
use Rattle.std.specs.Prelude.{◌≡◌, ℕ, ◌-◌, nat_le, ◌&&◌, if◌then◌else◌, Option, None, Some}
use Rattle.std.specs.Prelude.{List, [], ◌∷◌, ◌++◌, codes, decimal, get_or, length, map}
use Rattle.std.specs.List.{flat_map}
use Rattle.convert.specs.declared.assembly.Place.{Place}
use Rattle.convert.specs.declared.assembly.PlacedNote.{PlacedNote}
use Rattle.convert.specs.declared.converting.Note.{Note}
use Rattle.convert.specs.declared.includes.Entry.{Entry}
use Rattle.convert.specs.declared.rule.Rule.{Rule}
use Rattle.convert.specs.Assembly.{Parts}
use Rattle.convert.specs.Conversion.{IsConversion}
use Rattle.convert.specs.Edits.{Change}
use Rattle.convert.specs.Includes.{name_of_file}

-- no line, of the source
abbrev pub nowhere : Place
nowhere = record { file = 0; line = 0 }

-- where a line stands, counted from 1, of a text whose lines stand at these places
abbrev pub place_at : List Place → ℕ → Place
place_at places line =
    if nat_le 1 line && nat_le line (length places) then get_or places (line - 1) nowhere else nowhere

-- a note at the place of its line
abbrev pub placed : List Place → Note → PlacedNote
placed places note = record { place = place_at places note.line; text = note.text; number = note.number }

-- What was put together is converted to a text by these changes, and this is told: first of lines with controls, and then of
-- words, which are changed by the rules.
pub record IsConverted (rules : List Rule) (parts : Parts) (changes : List Change) (text : List ℕ) (notes : List PlacedNote)
    : Type 0 where
  pub told : List Note
  pub conversion : IsConversion rules parts.text text changes told
  pub notes_are : notes ≡ parts.notes ++ map (placed parts.places) told

-- the number that ends a note, after a blank
abbrev pub number_text : Option ℕ → List ℕ
number_text None = []
number_text (Some number) = 32 ∷ decimal number

-- the line that tells a note, with the name of its file; that of the source is this
abbrev pub note_line : (name : List ℕ) → List Entry → PlacedNote → List ℕ
note_line name entries note =
    name_of_file name entries note.place.file
    ++ (32 ∷ (decimal note.place.line ++ (codes ": " ++ (note.text.now ++ (number_text note.number ++ 10 ∷ [])))))

abbrev pub note_lines : (name : List ℕ) → List Entry → List PlacedNote → List ℕ
note_lines name entries notes = flat_map (note_line name entries) notes
