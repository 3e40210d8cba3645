-- A segment that is joined piece by piece: the runs and the fixes of what is made so far and of the next
-- piece are those of both, so one pass over the modules makes the segment of their merge.
use Rattle.object_laws.proofs.Prelude.{◌≡◌, ℕ, ◌+◌, ◌-◌, ◌≤◌, List, [], ◌∷◌, ◌++◌, length, map, filter_map, replicate, Option, None, refl, ap, sym, ◌∙◌, arith, append_assoc, Target, SetByte, moved, Run, runs_from, bytes_of_run, joined_after, with_runs, run_displaced, place_fixes, fix_kept, run_moved}
use Rattle.object_laws.proofs.Merges.RunsJoined.{runs_append, runs_after_gap, runs_displaced, bytes_with_runs}
use Rattle.object_laws.proofs.Merges.FixesOfPlaces.{fixes_append, fixes_after_gap, fixes_moved}
use Rattle.object_laws.proofs.Merges.RunsMoved.{moved_runs}

-- what is made so far, the gap before a piece, and the piece
abbrev pub with_piece : (start : ℕ) → (made piece : List (Option SetByte)) → List (Option SetByte)
with_piece start made piece = made ++ (replicate (start - length made) None ++ piece)

pub joined_step :
    (start : ℕ) (made piece : List (Option SetByte)) (others : List (ℕ × List (Option SetByte)))
    → made ++ joined_after (length made) ((start, piece) ∷ others)
    ≡ with_piece start made piece ++ joined_after (start + length piece) others
joined_step start made piece others =
    sym (append_assoc made (replicate (start - length made) None ++ piece)
    (joined_after (start + length piece) others))

-- the runs of a piece as they are pushed: later by its start, with its bytes moved
abbrev pub run_placed :
    (start : ℕ) → (gain_of : Target → ℕ) → (kept : Target → Option Target) → Run SetByte → Run ℕ
run_placed start gain_of kept run = run_displaced start (bytes_of_run (run_moved gain_of kept run))

displaced_bytes :
    (start : ℕ) (runs : List (Run SetByte))
    → map bytes_of_run (map (run_displaced start) runs)
    ≡ map (λ (run : Run SetByte). run_displaced start (bytes_of_run run)) runs
displaced_bytes start [] = refl
displaced_bytes start (run ∷ others) =
    ap (λ r. run_displaced start (bytes_of_run run) ∷ r) (displaced_bytes start others)

placed_runs :
    (start : ℕ) (gain_of : Target → ℕ) (kept : Target → Option Target) (runs : List (Run SetByte))
    → map (λ (run : Run SetByte). run_displaced start (bytes_of_run run)) (map (run_moved gain_of kept) runs)
    ≡ map (run_placed start gain_of kept) runs
placed_runs start gain_of kept [] = refl
placed_runs start gain_of kept (run ∷ others) =
    ap (λ r. run_placed start gain_of kept run ∷ r) (placed_runs start gain_of kept others)

piece_runs :
    (start : ℕ) (gain_of : Target → ℕ) (kept : Target → Option Target) (places : List (Option SetByte))
    → map bytes_of_run (runs_from start (moved gain_of kept places))
    ≡ map (run_placed start gain_of kept) (runs_from 0 places)
piece_runs start gain_of kept places =
    let same : start ≡ start + 0 = omega arith in
    ap (λ n. map bytes_of_run (runs_from n (moved gain_of kept places))) same
    ∙ ap (map bytes_of_run) (runs_displaced start 0 (moved gain_of kept places))
    ∙ displaced_bytes start (runs_from 0 (moved gain_of kept places))
    ∙ ap (map (λ (run : Run SetByte). run_displaced start (bytes_of_run run)))
    (moved_runs gain_of kept 0 places)
    ∙ placed_runs start gain_of kept (runs_from 0 places)

-- the runs after a piece: those before, and then those of the piece, each pushed
pub runs_with_piece :
    (start : ℕ) (gain_of : Target → ℕ) (kept : Target → Option Target) (made places : List (Option SetByte))
    → length made ≤ start
    → map bytes_of_run (runs_from 0 (with_piece start made (moved gain_of kept places)))
    ≡ with_runs (map bytes_of_run (runs_from 0 made))
    (map (run_placed start gain_of kept) (runs_from 0 places))
runs_with_piece start gain_of kept made places h =
    let piece : List (Option SetByte) = moved gain_of kept places in
    let same : (0 + length made) + (start - length made) ≡ start = omega arith in
    ap (map bytes_of_run) (runs_append 0 made (replicate (start - length made) None ++ piece))
    ∙ bytes_with_runs (runs_from 0 made)
    (runs_from (0 + length made) (replicate (start - length made) None ++ piece))
    ∙ ap (λ r. with_runs (map bytes_of_run (runs_from 0 made)) (map bytes_of_run r))
    (runs_after_gap (0 + length made) (start - length made) piece)
    ∙ ap (λ n. with_runs (map bytes_of_run (runs_from 0 made)) (map bytes_of_run (runs_from n piece))) same
    ∙ ap (with_runs (map bytes_of_run (runs_from 0 made))) (piece_runs start gain_of kept places)

-- the fixes after a piece: those before, and then those of the piece that stay
pub fixes_with_piece :
    (start : ℕ) (gain_of : Target → ℕ) (kept : Target → Option Target) (made places : List (Option SetByte))
    → length made ≤ start
    → place_fixes 0 (with_piece start made (moved gain_of kept places))
    ≡ place_fixes 0 made ++ filter_map (fix_kept start kept) (place_fixes 0 places)
fixes_with_piece start gain_of kept made places h =
    let piece : List (Option SetByte) = moved gain_of kept places in
    let same : (0 + length made) + (start - length made) ≡ start + 0 = omega arith in
    fixes_append 0 made (replicate (start - length made) None ++ piece)
    ∙ ap (λ f. place_fixes 0 made ++ f) (fixes_after_gap (0 + length made) (start - length made) piece)
    ∙ ap (λ n. place_fixes 0 made ++ place_fixes n piece) same
    ∙ ap (λ f. place_fixes 0 made ++ f) (fixes_moved gain_of kept None start 0 places)
