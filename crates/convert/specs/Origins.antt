-- From which lines those of a converted text come.
use Rattle.std.specs.Prelude.{◌≡◌, ◌<◌, ◌≤◌, ℕ, ◌+◌, ◌-◌, min, Bool, ◌==◌, if◌then◌else◌}
use Rattle.std.specs.Prelude.{List, [], ◌∷◌, ◌++◌, decimal, get_or, length, take}
use Rattle.std.specs.List.{flat_map}
use Rattle.convert.specs.declared.assembly.Place.{Place}
use Rattle.convert.specs.declared.includes.Entry.{Entry}
use Rattle.convert.specs.Assembly.{Parts}
use Rattle.convert.specs.Edits.{Change, spliced}
use Rattle.convert.specs.Includes.{name_of_file}
use Rattle.convert.specs.Sources.{place_at}
use Rattle.convert.specs.Texts.{between}

-- how many line feeds (10) a text has
abbrev pub line_feeds : List ℕ → ℕ
line_feeds [] = 0
line_feeds (c ∷ text) = if c == 10 then 1 + line_feeds text else line_feeds text

-- the line of a place in a text, counted from 1: one more than the line feeds before it
abbrev pub line_at : List ℕ → ℕ → ℕ
line_at source place = 1 + line_feeds (take place source)

-- The lines that follow the line feeds of a piece, which begins on a line: each is the next one, but none comes after the
-- last.
abbrev pub lines_in : (line last : ℕ) → List ℕ → List ℕ
lines_in line last [] = []
lines_in line last (c ∷ piece) =
    if c == 10 then min (line + 1) last ∷ lines_in (min (line + 1) last) last piece else lines_in line last piece

-- the same of a piece that stands for the bytes of a text from a place up to another
abbrev pub lines_for : List ℕ → (from to : ℕ) → List ℕ → List ℕ
lines_for source from to piece = lines_in (line_at source from) (line_at source to) piece

-- the same of the pieces of a text from a place on: what stays stands for itself, and what a change writes for what it
-- replaces
abbrev pub lines_after : ℕ → List ℕ → List Change → List ℕ
lines_after place source [] = lines_for source place (length source) (between source place (length source))
lines_after place source (change ∷ changes) =
    lines_for source place change.from (between source place change.from)
    ++ (lines_for source change.from change.to change.text ++ lines_after change.to source changes)

-- nothing follows the last line feed of a text
abbrev pub ends_a_line : List ℕ → Bool
ends_a_line text = get_or text (length text - 1) 10 == 10

-- the lines of a text, without the last if that is empty
abbrev pub counted : List ℕ → List ℕ → List ℕ
counted text lines = if ends_a_line text then take (length lines - 1) lines else lines

-- the lines from which those of a text come that was made of another by these changes
abbrev pub lines_from : List ℕ → List Change → List ℕ → List ℕ
lines_from source changes text = counted text (1 ∷ lines_after 0 source changes)

-- the row of a line: its file and its number there; `name` is the name of the file of the source
abbrev pub row : (name : List ℕ) → List Entry → Place → List ℕ
row name entries place = name_of_file name entries place.file ++ (32 ∷ (decimal place.line ++ 10 ∷ []))

abbrev pub rows : (name : List ℕ) → List Entry → List Place → List ℕ → List ℕ
rows name entries places lines = flat_map (λ line. row name entries (place_at places line)) lines

-- the table of lines of a text that was made by these changes of what was put together: a row for each of its lines
abbrev pub line_table : (name : List ℕ) → List Entry → Parts → List Change → List ℕ → List ℕ
line_table name entries parts changes text = rows name entries parts.places (lines_from parts.text changes text)

-- how many lines a text has, without the last if that is empty
abbrev pub line_count : List ℕ → ℕ
line_count text = if ends_a_line text then line_feeds text else 1 + line_feeds text

-- each of these is the number of a line of a text
abbrev pub AreLinesOf : List ℕ → List ℕ → Type 0
AreLinesOf source [] = Unit {0}
AreLinesOf source (line ∷ lines) = (0 < line) × (line ≤ 1 + line_feeds source) × AreLinesOf source lines

-- A table has exactly one row for each line of a text, in their order. Each row has the place of a line of what was put
-- together.
pub record HasOneRowEach (name : List ℕ) (entries : List Entry) (parts : Parts) (text table : List ℕ) : Type 0 where
  pub lines : List ℕ
  pub table_is : table ≡ rows name entries parts.places lines
  pub one_each : length lines ≡ line_count text
  pub of_source : AreLinesOf parts.text lines

-- so has a table if the text is what these changes make of what was put together
unfoldable pub HasOneRowEachOf :
    (name : List ℕ) → List Entry → Parts → List Change → (text table : List ℕ) → Type 0
HasOneRowEachOf name entries parts changes text table =
    text ≡ spliced parts.text changes → HasOneRowEach name entries parts text table
