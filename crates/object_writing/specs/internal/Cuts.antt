-- Runs, cut into contents by the fixes that they have.
use Rattle.std.specs.Prelude.{◌≡◌, ℕ, suc, ◌+◌, ◌-◌, ◌==◌, Bool, false, ◌&&◌, nat_lt, if◌then◌else◌, List, [], ◌∷◌, slice_get, flat_map}
use Rattle.std.specs.Option.{option_map_or}
use Rattle.object_modules.specs.declared.segment.Fix.{Fix}
use Rattle.object_modules.specs.declared.segment.Segment.{Segment}
use Rattle.object_modules.specs.Module.{SetByte, is_both}
use Rattle.object_modules.specs.Parts.{part_bytes}
use Rattle.object_modules.specs.Text.{content_limit, bytes_wanted, groups_of, placed_from, fixes_from, content_parts}
use Rattle.object_modules.specs.Runs.{fixed_bytes}

-- how many of fixes, from the front on, begin before a place
abbrev pub count_before : List Fix → (place : ℕ) → ℕ
count_before [] place = 0
count_before (fix ∷ others) place = if nat_lt fix.offset place then suc (count_before others place) else 0

-- a word that is fixed begins at a place, by fixes that ascend
abbrev pub word_at : List Fix → (place : ℕ) → Bool
word_at fixes place =
    option_map_or (λ (fix : Fix). is_both fix.kind && fix.offset == place) (slice_get fixes (count_before fixes place)) false

-- how many bytes the next content takes of those that are left
abbrev pub cut_by : List Fix → (place left : ℕ) → ℕ
cut_by fixes place left =
    if nat_lt left content_limit then left
    else if word_at fixes (place + content_limit - 1) then content_limit - 1
    else content_limit

-- the records of the contents of bytes in a row
unfoldable pub row_text : Segment → (offset : ℕ) → List SetByte → List ℕ
row_text segment offset items =
    flat_map part_bytes
    (flat_map (content_parts segment) (placed_from offset (groups_of bytes_wanted (λ here. 1) content_limit items)))

-- fixes are those of bytes from an offset on
abbrev pub AreFixesOf : (offset : ℕ) → (bytes : List ℕ) → List Fix → Type 0
AreFixesOf offset bytes fixes = fixes ≡ fixes_from offset (fixed_bytes fixes offset bytes)

-- the records of the contents of a run
abbrev pub run_text : Segment → (offset : ℕ) → (bytes : List ℕ) → List Fix → List ℕ
run_text segment offset bytes fixes = row_text segment offset (fixed_bytes fixes offset bytes)
