-- Runs of bytes and fixes of segments that are joined one after another, as linking makes them.
use Rattle.std.specs.Prelude.{ℕ, ◌+◌, ◌-◌, nat_lt, if◌then◌else◌, List, [], ◌∷◌, length, slice_index, slice_set, Option, Some, None, option_map}
use Rattle.object_modules.specs.declared.segment.Fix.{Fix}
use Rattle.object_modules.specs.declared.segment.FixKind.{FixKind}
use Rattle.object_modules.specs.declared.segment.FixKind.TheVariants.{Low, High, Both}
use Rattle.object_modules.specs.declared.segment.Target.{Target}
use Rattle.object_modules.specs.Module.{Fixup, SetByte}
use Rattle.object_modules.specs.Moving.{first_byte_moved, second_byte_moved, byte_moved}
use Rattle.object_modules.specs.Runs.{with_run}
use Rattle.object_modules.specs.Text.{Run}

-- items one after another from a place on
abbrev pub run_at : {A : Type 0} → (offset : ℕ) → List A → Run A
run_at offset items = record { offset = offset; items = items }

-- runs one after another after others
abbrev pub with_runs : {A : Type 0} → List (Run A) → List (Run A) → List (Run A)
with_runs runs [] = runs
with_runs runs (run ∷ others) = with_runs (with_run runs run) others

-- a run that begins by a number of places later
abbrev pub run_displaced : {A : Type 0} → (by : ℕ) → Run A → Run A
run_displaced by run = record { offset = by + run.offset; items = run.items }

-- the fix that begins at a place, if one does, before others
abbrev pub before_fixes : (offset : ℕ) → Option Fixup → List Fix → List Fix
before_fixes offset None fixes = fixes
before_fixes offset (Some fixup) fixes =
    record { kind = fixup.kind; target = fixup.target; offset = offset } ∷ fixes

-- the fixes of a row of places, which begins at a place
abbrev pub place_fixes : (offset : ℕ) → List (Option SetByte) → List Fix
place_fixes offset [] = []
place_fixes offset (None ∷ others) = place_fixes (offset + 1) others
place_fixes offset (Some here ∷ others) = before_fixes offset here.fixup (place_fixes (offset + 1) others)

-- a fix by a number of places later, with the target to which it stays fixed, if it does
abbrev pub fix_kept : (by : ℕ) → (kept : Target → Option Target) → Fix → Option Fix
fix_kept by kept fix =
    option_map (λ (target : Target). record { kind = fix.kind; target = target; offset = by + fix.offset })
    (kept fix.target)

-- bytes after the one before them, where targets gain numbers and some stay targets
abbrev pub items_moved :
    (gain_of : Target → ℕ) → (kept : Target → Option Target) → (before : Option SetByte) → List SetByte
    → List SetByte
items_moved gain_of kept before [] = []
items_moved gain_of kept before (here ∷ others) =
    byte_moved gain_of kept before here ∷ items_moved gain_of kept (Some here) others

abbrev pub run_moved : (gain_of : Target → ℕ) → (kept : Target → Option Target) → Run SetByte → Run SetByte
run_moved gain_of kept run =
    record { offset = run.offset; items = items_moved gain_of kept None run.items }

-- bytes, with a number added to the one at an index, or to the word that begins with it
abbrev pub bytes_fixed : FixKind → (index gain : ℕ) → List ℕ → List ℕ
bytes_fixed Low index gain bytes =
    slice_set bytes index (first_byte_moved Low (slice_index bytes index) gain)
bytes_fixed High index gain bytes =
    slice_set bytes index (first_byte_moved High (slice_index bytes index) gain)
bytes_fixed Both index gain bytes =
    slice_set (slice_set bytes index (first_byte_moved Both (slice_index bytes index) gain)) (index + 1)
    (second_byte_moved (slice_index bytes index) (slice_index bytes (index + 1)) gain)

-- bytes from a place on after fixes of some of them, one after another
abbrev pub bytes_after : (gain_of : Target → ℕ) → (offset : ℕ) → List Fix → List ℕ → List ℕ
bytes_after gain_of offset [] bytes = bytes
bytes_after gain_of offset (fix ∷ others) bytes =
    bytes_after gain_of offset others
    (bytes_fixed fix.kind (fix.offset - offset) (gain_of fix.target) bytes)

-- the fixes in front that begin before a place, and the others
abbrev pub fixes_below : (end : ℕ) → List Fix → List Fix
fixes_below end [] = []
fixes_below end (fix ∷ others) = if nat_lt fix.offset end then fix ∷ fixes_below end others else []

abbrev pub fixes_past : (end : ℕ) → List Fix → List Fix
fixes_past end [] = []
fixes_past end (fix ∷ others) = if nat_lt fix.offset end then fixes_past end others else fix ∷ others

abbrev pub run_end : Run ℕ → ℕ
run_end run = run.offset + length run.items

-- a run at its place in a merge, with its bytes after fixes
abbrev pub run_fixed : (start : ℕ) → (gain_of : Target → ℕ) → List Fix → Run ℕ → Run ℕ
run_fixed start gain_of fixes run =
    record { offset = start + run.offset; items = bytes_after gain_of run.offset fixes run.items }

-- runs that each take the fixes within it from the front
abbrev pub runs_fixed : (start : ℕ) → (gain_of : Target → ℕ) → List Fix → List (Run ℕ) → List (Run ℕ)
runs_fixed start gain_of fixes [] = []
runs_fixed start gain_of fixes (run ∷ others) =
    run_fixed start gain_of (fixes_below (run_end run) fixes) run
    ∷ runs_fixed start gain_of (fixes_past (run_end run) fixes) others
