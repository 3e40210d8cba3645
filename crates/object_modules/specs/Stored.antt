-- Segments as they are kept: the longest runs of bytes that are set, and the fixes, both by their places.
use Rattle.std.specs.Prelude.{ℕ, ◌+◌, Bool, true, not, ◌&&◌, IsTrue, nat_lt, nat_le, List, [], ◌∷◌, length, map}
use Rattle.std.specs.List.{list_all, list_any}
use Rattle.object_modules.specs.declared.segment.Alignment.{Alignment}
use Rattle.object_modules.specs.declared.segment.Fix.{Fix}
use Rattle.object_modules.specs.declared.segment.Segment.{Segment}
use Rattle.object_modules.specs.Before.{is_empty}
use Rattle.object_modules.specs.Module.{Places}
use Rattle.object_modules.specs.Parts.{Content}
use Rattle.object_modules.specs.Rules.{fix_end, is_within}
use Rattle.object_modules.specs.Text.{Run}
use Rattle.object_modules.specs.Walking.{places_by}

-- a segment by its size, its alignment, the runs of its set bytes, and their fixes
pub record StoredSegment : Type 0 where
  pub size : ℕ
  pub alignment : Alignment
  pub runs : List (Run ℕ)
  pub fixes : List Fix

abbrev pub content_of_run : Segment → Run ℕ → Content
content_of_run segment run = record { segment = segment; offset = run.offset; bytes = run.items }

-- the places of a segment, which are those that its runs would set as contents of a file
abbrev pub places_stored : Segment → StoredSegment → Places
places_stored segment stored =
    places_by
    (map
    (λ (run : Run ℕ). record { content = content_of_run segment run; fixes = stored.fixes })
    stored.runs)
    segment stored.alignment stored.size

-- each run has bytes, ends before the place where the next one begins, and lies within the segment
abbrev pub are_longest : (size : ℕ) → List (Run ℕ) → Bool
are_longest size [] = true
are_longest size (run ∷ []) = not (is_empty run.items) && nat_le (run.offset + length run.items) size
are_longest size (run ∷ next ∷ others) =
    not (is_empty run.items) && nat_lt (run.offset + length run.items) next.offset
    && are_longest size (next ∷ others)

-- no fix begins before the one before it ends
abbrev pub fixes_ascend : List Fix → Bool
fixes_ascend [] = true
fixes_ascend (fix ∷ []) = true
fixes_ascend (fix ∷ next ∷ others) = nat_le (fix_end fix) next.offset && fixes_ascend (next ∷ others)

-- all bytes of a fix are bytes of one run
abbrev pub is_in_a_run : Segment → List (Run ℕ) → Fix → Bool
is_in_a_run segment runs fix = list_any (λ (run : Run ℕ). is_within (content_of_run segment run) fix) runs

-- the rules that each stored segment follows
pub record IsStored (segment : Segment) (stored : StoredSegment) : Type 0 where
  pub runs : IsTrue (are_longest stored.size stored.runs)
  pub ascending : IsTrue (fixes_ascend stored.fixes)
  pub fixes : IsTrue (list_all (is_in_a_run segment stored.runs) stored.fixes)
