-- A segment of a merge, piece by piece.
use Rattle.std.specs.Prelude.{◌≡◌, ℕ, ◌+◌, ◌≤◌, Bool, false, if◌then◌else◌, List, [], ◌∷◌, length, map, flat_map, filter_map, Some}
use Rattle.std.specs.List.{list_any, AllByRecursion}
use Rattle.object_modules.specs.declared.object.ModuleParts.{ModuleParts}
use Rattle.object_modules.specs.declared.segment.Alignment.{Alignment}
use Rattle.object_modules.specs.declared.segment.Alignment.TheVariants.{Byte, Page}
use Rattle.object_modules.specs.declared.segment.Fix.{Fix}
use Rattle.object_modules.specs.declared.segment.Segment.{Segment}
use Rattle.object_modules.specs.declared.segment.Segment.TheVariants.{Code, Data}
use Rattle.object_modules.specs.Before.{is_empty}
use Rattle.object_modules.specs.Displacements.{Start, Linked, code_end, data_end, displacement_in, gain_in, target_kept}
use Rattle.object_modules.specs.Module.{Public, IsObjectModule, alignment_of, is_page, length_of}
use Rattle.object_modules.specs.Rules.{fix_end}
use Rattle.object_modules.specs.Runs.{runs_of, fixes_in}
use Rattle.object_modules.specs.Stored.{StoredSegment}
use Rattle.object_modules.specs.Text.{Run}
use Rattle.object_modules.specs.internal.Views.{owned_public_view}
use Rattle.object_modules.specs.internal.Joining.{with_runs, fix_kept, fixes_below, fixes_past, run_end, runs_fixed}

-- a module is valid, and its pieces end within segments
pub record Fits (one : Linked) : Type 0 where
  pub valid : IsObjectModule one.object
  pub code : code_end one ≤ 65535
  pub data_bytes : data_end one ≤ 65535

-- where the pieces of modules begin
abbrev pub starts_in : List Linked → List Start
starts_in linked = map (λ (one : Linked). one.start) linked

-- fixes whose bytes are among the `size` bytes from a place on
abbrev pub AreWithin : (offset size : ℕ) → List Fix → Type 0
AreWithin offset size fixes =
    AllByRecursion (λ (fix : Fix). (offset ≤ fix.offset) × (fix_end fix ≤ offset + size)) fixes

-- runs that have bytes, within a size, each with the fixes in front that begin before its end; no fix is left
abbrev pub HaveTheirFixes : (size : ℕ) → List Fix → List (Run ℕ) → Type 0
HaveTheirFixes size fixes [] = fixes ≡ []
HaveTheirFixes size fixes (run ∷ others) =
    (run_end run ≤ size)
    × (is_empty run.items ≡ false)
    × AreWithin run.offset (length run.items) (fixes_below (run_end run) fixes)
    × HaveTheirFixes size (fixes_past (run_end run) fixes) others

-- the runs of a piece of a module, moved to its place
abbrev pub piece_runs : List Public → Segment → Linked → List (Run ℕ)
piece_runs publics segment one =
    runs_fixed (displacement_in one segment) (gain_in publics one) (fixes_in one.object segment)
    (runs_of one.object segment)

-- its fixes that stay
abbrev pub piece_fixes : List Public → Segment → Linked → List Fix
piece_fixes publics segment one =
    filter_map (fix_kept (displacement_in one segment) (target_kept publics one)) (fixes_in one.object segment)

-- runs, and those of pieces after them
abbrev pub runs_joined : List Public → Segment → List (Run ℕ) → List Linked → List (Run ℕ)
runs_joined publics segment runs [] = runs
runs_joined publics segment runs (one ∷ others) =
    runs_joined publics segment (with_runs runs (piece_runs publics segment one)) others

-- where a piece ends
abbrev pub end_in : Segment → Linked → ℕ
end_in segment one = displacement_in one segment + length_of one.object segment

-- where the last of pieces after an end ends
abbrev pub end_joined : (end_of : Linked → ℕ) → (end : ℕ) → List Linked → ℕ
end_joined end_of end [] = end
end_joined end_of end (one ∷ others) = end_joined end_of (end_of one) others

abbrev pub begins_a_page : Segment → Linked → Bool
begins_a_page segment one = is_page (alignment_of one.object segment)

abbrev pub alignment_joined : Segment → List Linked → Alignment
alignment_joined segment linked = if list_any (begins_a_page segment) linked then Page else Byte

-- a segment that is joined of pieces
abbrev pub stored_joined : List Public → Segment → List Linked → StoredSegment
stored_joined publics segment linked = record {
  size = end_joined (end_in segment) 0 linked;
  alignment = alignment_joined segment linked;
  runs = runs_joined publics segment [] linked;
  fixes = flat_map (piece_fixes publics segment) linked;
}

-- parts that are made of modules at their places, with these publics, length of the stack, and main module
pub record AreJoined
    (named : List Public) (linked : List Linked) (stack : ℕ) (main : List ℕ × ℕ) (parts : ModuleParts) : Type 0 where
  pub name : parts.name ≡ main.0
  pub code : parts.code ≡ stored_joined named Code linked
  pub data_bytes : parts.data_bytes ≡ stored_joined named Data linked
  pub stack_length : parts.stack_length ≡ stack
  pub publics : map owned_public_view parts.publics.items ≡ named
  pub externals : parts.externals.items ≡ []
  pub start : parts.start ≡ Some main.1
