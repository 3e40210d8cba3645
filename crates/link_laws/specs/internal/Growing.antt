-- A segment of a merge, content by content.
use Rattle.std.specs.Prelude.{◌≡◌, ℕ, ◌+◌, ◌%◌, ◌≤◌, ◌==◌, Bool, true, false, not, ◌||◌, if◌then◌else◌, List, [], ◌∷◌, ◌++◌, map, filter_map, slice_get, Option, Some}
use Rattle.std.specs.List.{list_all, list_any}
use Rattle.std.specs.Option.{option_map_or, option_and_then, option_flatten}
use Rattle.object_modules.specs.declared.segment.Fix.{Fix}
use Rattle.object_modules.specs.declared.segment.FixKind.{FixKind}
use Rattle.object_modules.specs.declared.segment.FixKind.TheVariants.{Low, High, Both}
use Rattle.object_modules.specs.declared.segment.Segment.{Segment}
use Rattle.object_modules.specs.declared.segment.Target.{Target}
use Rattle.object_modules.specs.declared.segment.Target.TheVariants.{InSegment, External}
use Rattle.object_modules.specs.Before.{content_end, is_empty}
use Rattle.object_modules.specs.Displacements.{Start, Linked, public_named, start_of, target_of_public}
use Rattle.object_modules.specs.Module.{ObjectModule, Public}
use Rattle.object_modules.specs.Rules.{is_within}
use Rattle.object_modules.specs.Runs.{fixes_in, runs_of, with_run}
use Rattle.object_modules.specs.Spelling.{FixedContent}
use Rattle.object_modules.specs.Text.{Run}
use Rattle.object_modules.specs.internal.Joining.{run_at, with_runs, fix_kept, fixes_below, fixes_past, run_end, run_fixed, runs_fixed}
use Rattle.object_laws.proofs.Merges.HighBytes.{high_byte_moves}
use Rattle.link_laws.specs.internal.Building.{piece_runs, piece_fixes}
use Rattle.objmod.specs.internal.Keeping.{fixes_by_place, is_in}

abbrev pub public_name : Public → List ℕ
public_name public = public.name

-- where the pieces of a module begin, and the publics that its external names stand for
pub record Resolved : Type 0 where
  pub start : Start
  pub meant : List (Option Public)

abbrev pub resolved_in : List Public → Linked → Resolved
resolved_in publics one =
    record { start = one.start; meant = map (public_named publics) (one.object).externals }

abbrev pub meant_at : Resolved → (number : ℕ) → Option Public
meant_at resolved number = option_flatten (slice_get resolved.meant number)

-- the gain of a place that is fixed to a target, and the target to which it stays fixed
abbrev pub gain_by : Resolved → Target → ℕ
gain_by resolved (InSegment segment) = start_of resolved.start segment
gain_by resolved (External number) =
    option_map_or (λ (public : Public). public.offset) (meant_at resolved number) 0

abbrev pub kept_by : Resolved → Target → Option Target
kept_by resolved (InSegment segment) = Some (InSegment segment)
kept_by resolved (External number) = option_and_then target_of_public (meant_at resolved number)

-- a high byte is fixed to a target that gains a number that is not a multiple of 256
abbrev pub part_moves : Resolved → FixKind → Target → Bool
part_moves resolved Low target = false
part_moves resolved High target = not (gain_by resolved target % 256 == 0)
part_moves resolved Both target = false

abbrev pub moves_by : Resolved → Fix → Bool
moves_by resolved fix = part_moves resolved fix.kind fix.target

-- a segment so far: its runs, its fixes, and whether a high byte moves
pub record Grown : Type 0 where
  pub runs : List (Run ℕ)
  pub fixes : List Fix
  pub moves : Bool

abbrev pub nothing_grown : Grown
nothing_grown = record { runs = []; fixes = []; moves = false }

-- runs, and the bytes of a content after its fixes; a content has bytes
abbrev pub runs_with : Resolved → Segment → List (Run ℕ) → (offset : ℕ) → List ℕ → List Fix → List (Run ℕ)
runs_with resolved segment runs offset bytes fixes =
    if is_empty bytes then runs
    else with_run runs
    (run_fixed (start_of resolved.start segment) (gain_by resolved) fixes (run_at offset bytes))

abbrev pub grown_with : Resolved → Segment → Grown → (offset : ℕ) → List ℕ → List Fix → Grown
grown_with resolved segment grown offset bytes fixes = record {
  runs = runs_with resolved segment grown.runs offset bytes fixes;
  fixes = grown.fixes ++ filter_map (fix_kept (start_of resolved.start segment) (kept_by resolved)) fixes;
  moves = grown.moves || list_any (moves_by resolved) fixes;
}

-- with a content and its fixes by their places
abbrev pub with_content : Resolved → Segment → Grown → FixedContent → Grown
with_content resolved segment grown fixed =
    grown_with resolved segment grown (fixed.content).offset (fixed.content).bytes (fixes_by_place fixed)

-- a segment after those contents that are in it
abbrev pub grown_in : Resolved → Segment → Grown → List FixedContent → Grown
grown_in resolved segment grown [] = grown
grown_in resolved segment grown (fixed ∷ others) =
    grown_in resolved segment (if is_in segment fixed then with_content resolved segment grown fixed else grown)
    others

-- a segment after the runs of a piece, each with the fixes in front that begin before its end
abbrev pub grown_over : Resolved → Segment → Grown → List Fix → List (Run ℕ) → Grown
grown_over resolved segment grown fixes [] = grown
grown_over resolved segment grown fixes (run ∷ others) =
    grown_over resolved segment
    (grown_with resolved segment grown run.offset run.items (fixes_below (run_end run) fixes))
    (fixes_past (run_end run) fixes) others

-- a segment after a piece of a module whose targets are resolved
abbrev pub grown_from : Resolved → Segment → Grown → ObjectModule → Grown
grown_from resolved segment grown object = record {
  runs =
      with_runs grown.runs
      (runs_fixed (start_of resolved.start segment) (gain_by resolved) (fixes_in object segment)
      (runs_of object segment));
  fixes =
      grown.fixes
      ++ filter_map (fix_kept (start_of resolved.start segment) (kept_by resolved)) (fixes_in object segment);
  moves = grown.moves || list_any (moves_by resolved) (fixes_in object segment);
}

-- the same by the publics of the merge, and a segment after the pieces of several modules
abbrev pub grown_by : List Public → Segment → Grown → Linked → Grown
grown_by publics segment grown one = record {
  runs = with_runs grown.runs (piece_runs publics segment one);
  fixes = grown.fixes ++ piece_fixes publics segment one;
  moves = grown.moves || list_any (high_byte_moves publics one) (fixes_in one.object segment);
}

abbrev pub all_grown : List Public → Segment → Grown → List Linked → Grown
all_grown publics segment grown [] = grown
all_grown publics segment grown (one ∷ others) =
    all_grown publics segment (grown_by publics segment grown one) others

-- a content ends within its segment at its place, and its fixes are within it
pub record FitsAt (resolved : Resolved) (segment : Segment) (fixed : FixedContent) : Type 0 where
  pub room : start_of resolved.start segment + content_end fixed.content ≤ 65535
  pub within : list_all (is_within fixed.content) fixed.fixes ≡ true

abbrev pub AllFitAt : Resolved → Segment → List FixedContent → Type 0
AllFitAt resolved segment [] = Unit {0}
AllFitAt resolved segment (fixed ∷ others) =
    (is_in segment fixed ≡ true → FitsAt resolved segment fixed) × AllFitAt resolved segment others
