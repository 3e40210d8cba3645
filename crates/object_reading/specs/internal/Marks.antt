-- Which bytes of a content belong to a fix: a mark for each byte.
use Rattle.std.specs.Prelude.{◌≡◌, ℕ, ◌+◌, ◌-◌, ◌<◌, ◌≤◌, Bool, true, false, not, ◌&&◌, ◌||◌, nat_lt, nat_le, if◌then◌else◌, List, [], ◌∷◌, length, get_or, set, Option, Some, None, option_map, replicate}
use Rattle.std.specs.List.{list_any}
use Rattle.object_modules.specs.declared.segment.Fix.{Fix}
use Rattle.object_modules.specs.Module.{width_of}
use Rattle.object_modules.specs.Parts.{Content}
use Rattle.object_modules.specs.Rules.{fix_end, is_within, share_a_byte}

-- a fix has a byte at a place
abbrev pub covers : (place : ℕ) → Fix → Bool
covers place fix = nat_le fix.offset place && nat_lt place (fix_end fix)

-- each byte of a content is marked where one of the fixes has it
pub record AreMarked (marks : List Bool) (content : Content) (fixes : List Fix) : Type 0 where
  pub long : length content.bytes ≤ length marks
  pub marked :
      (k : ℕ) → k < length content.bytes
      → get_or marks k false ≡ list_any (covers (content.offset + k)) fixes

-- the marks of the first and the last byte of a fix
abbrev pub first_mark : Content → Fix → ℕ
first_mark content fix = fix.offset - content.offset

abbrev pub last_mark : Content → Fix → ℕ
last_mark content fix = first_mark content fix + width_of fix.kind - 1

abbrev pub with_marks : List Bool → Content → Fix → List Bool
with_marks marks content fix = set (set marks (first_mark content fix) true) (last_mark content fix) true

-- the fixes lie within the content, and none shares a byte with another or with those that are there already
abbrev pub are_placed : Content → List Fix → (others : List Fix) → Bool
are_placed content [] others = true
are_placed content (fix ∷ rest) others =
    (is_within content fix && not (list_any (share_a_byte fix) others)) && are_placed content rest (fix ∷ others)

-- the first or the last byte of a fix is marked
abbrev pub is_marked : List Bool → Content → Fix → Bool
is_marked marks content fix =
    get_or marks (first_mark content fix) false || get_or marks (last_mark content fix) false

-- the marks once the fixes are placed one after another, where each lies within the content and shares no byte
abbrev pub marks_after : Content → List Fix → List Bool → Option (List Bool)
marks_after content [] marks = Some marks
marks_after content (fix ∷ rest) marks =
    if is_within content fix && not (is_marked marks content fix) then marks_after content rest (with_marks marks content fix)
    else None

-- the fixes before others, the latest first
abbrev pub onto : List Fix → (others : List Fix) → List Fix
onto [] others = others
onto (fix ∷ rest) others = onto rest (fix ∷ others)

-- a content, and a mark for each of its bytes
pub record Marked : Type 0 where
  pub content : Content
  pub marks : List Bool

unfoldable pub no_marks : List Bool
no_marks = replicate 1024 false

abbrev pub unmarked : Content → Marked
unmarked content = record { content = content; marks = no_marks }

abbrev pub marked_with : Content → List Bool → Marked
marked_with content marks = record { content = content; marks = marks }

abbrev pub marked_after : Marked → List Fix → Option Marked
marked_after marked fixes = option_map (marked_with marked.content) (marks_after marked.content fixes marked.marks)
