-- Entries of fix records, judged by their references.
use Rattle.std.specs.Prelude.{ℕ, Bool, true, not, ◌&&◌, nat_lt, List, Option, Some, None, is_some}
use Rattle.std.specs.List.{list_all}
use Rattle.omf80.specs.declared.kind.RecordKind.{RecordKind}
use Rattle.omf80.specs.declared.kind.RecordKind.TheVariants as kinds
use Rattle.object_modules.specs.declared.segment.Fix.{Fix}
use Rattle.object_modules.specs.declared.segment.FixKind.{FixKind}
use Rattle.object_modules.specs.declared.segment.Segment.{Segment}
use Rattle.object_modules.specs.declared.segment.Target.{Target}
use Rattle.object_modules.specs.declared.segment.Target.TheVariants.{InSegment, External}
use Rattle.object_modules.specs.Before.{same_segment}
use Rattle.object_modules.specs.Module.{is_movable}
use Rattle.object_modules.specs.Reading.{references_in, words_in}
use Rattle.object_reading.specs.internal.Fixes.{fixes_in}

-- a target is a segment, or an external name with a number below `external_count`
abbrev pub is_known : (external_count : ℕ) → Target → Bool
is_known external_count (InSegment segment) = true
is_known external_count (External number) = nat_lt number external_count

-- bytes are entries of a fix record
abbrev pub are_entries : Option Segment → List ℕ → Bool
are_entries None entries = is_some (references_in entries)
are_entries (Some target) entries = is_some (words_in entries)

abbrev pub entries_fit : (external_count : ℕ) → Option Segment → FixKind → (entries : List ℕ) → Bool
entries_fit external_count target kind entries =
    are_entries target entries
    && list_all (λ (fix : Fix). is_known external_count fix.target) (fixes_in target kind entries)

-- the target of a fix record whose content is in this segment: an intersegment reference has another segment
abbrev pub target_fits : (own : Segment) → RecordKind → Option Segment → Bool
target_fits own kinds.IntersegmentReferences (Some target) = is_movable target && not (same_segment target own)
target_fits own kind target = true
