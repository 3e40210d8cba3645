-- The runs and the fixes of a segment of an object module, as writing, linking and placing go over them.
use Rattle.std.specs.Prelude.{ℕ, ◌+◌, ◌==◌, if◌then◌else◌, List, [], ◌∷◌, ◌++◌, length, map, flat_map, find, Option, option_map}
use Rattle.object_modules.specs.declared.segment.Fix.{Fix}
use Rattle.object_modules.specs.declared.segment.Segment.{Segment}
use Rattle.object_modules.specs.Module.{Fixup, SetByte, ObjectModule, places_of}
use Rattle.object_modules.specs.Text.{Run, runs_from, fixes_from}

-- the bytes of a run without their fixes
abbrev pub bytes_of_run : Run SetByte → Run ℕ
bytes_of_run run =
    record { offset = run.offset; items = map (λ (here : SetByte). here.value) run.items }

-- the fixes of a run, by their places
abbrev pub fixes_of_run : Run SetByte → List Fix
fixes_of_run run = fixes_from run.offset run.items

-- the longest runs of bytes that are set in a segment
unfoldable pub runs_of : ObjectModule → Segment → List (Run ℕ)
runs_of object segment = map bytes_of_run (runs_from 0 (places_of object segment))

-- the fixes of a segment, by their places
unfoldable pub fixes_in : ObjectModule → Segment → List Fix
fixes_in object segment = flat_map fixes_of_run (runs_from 0 (places_of object segment))

-- the fix that begins at a place
abbrev pub fixup_at : List Fix → (offset : ℕ) → Option Fixup
fixup_at fixes offset =
    option_map (λ (fix : Fix). record { kind = fix.kind; target = fix.target })
    (find (λ (fix : Fix). fix.offset == offset) fixes)

-- bytes from a place on, each with the fix that begins there
abbrev pub fixed_bytes : List Fix → (offset : ℕ) → List ℕ → List SetByte
fixed_bytes fixes offset [] = []
fixed_bytes fixes offset (value ∷ others) =
    record { value = value; fixup = fixup_at fixes offset } ∷ fixed_bytes fixes (offset + 1) others

-- a run with the fixes of its bytes
abbrev pub fixed_run : List Fix → Run ℕ → Run SetByte
fixed_run fixes run = record { offset = run.offset; items = fixed_bytes fixes run.offset run.items }

-- a run after others, which continues the last of them if it begins at its end
abbrev pub with_run : {A : Type 0} → List (Run A) → Run A → List (Run A)
with_run [] run = run ∷ []
with_run (last ∷ []) run =
    if run.offset == last.offset + length last.items
    then record { offset = last.offset; items = last.items ++ run.items } ∷ []
    else last ∷ run ∷ []
with_run (first ∷ next ∷ others) run = first ∷ with_run (next ∷ others) run
