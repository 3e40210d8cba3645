-- Fix records and the fixes that they list.
use Rattle.std.specs.Prelude.{ℕ, ◌+◌, ◌*◌, IsTrue, List, [], ◌∷◌, ◌++◌, Option, Some, None, is_some, option_map, option_and_then, unwrap_or}
use Rattle.omf80.specs.declared.kind.RecordKind.{RecordKind}
use Rattle.omf80.specs.declared.kind.RecordKind.TheVariants as kinds
use Rattle.object_modules.specs.declared.segment.Fix.{Fix}
use Rattle.object_modules.specs.declared.segment.FixKind.{FixKind}
use Rattle.object_modules.specs.declared.segment.Segment.{Segment}
use Rattle.object_modules.specs.declared.segment.Segment.TheVariants.{Absolute}
use Rattle.object_modules.specs.declared.segment.Target.TheVariants.{InSegment, External}
use Rattle.object_modules.specs.Before.{fixes_of, leading_fixes}
use Rattle.object_modules.specs.Parts.{ExternalReferencesPart, RelocationPart}
use Rattle.object_modules.specs.Reading.{Front, segment_of, fix_kind_of, references_in, words_in}
use Rattle.object_modules.specs.internal.Walks.{parts_from}

-- the fixes of the entries that are left of a fix record: with a target that is a segment, or with the external
-- name that each entry has
abbrev pub fixes_in : Option Segment → FixKind → (entries : List ℕ) → List Fix
fixes_in None kind entries = fixes_of Absolute (ExternalReferencesPart kind (unwrap_or (references_in entries) []))
fixes_in (Some target) kind entries = fixes_of target (RelocationPart kind (unwrap_or (words_in entries) []))

-- bytes that are entries of a fix record: with a target that is a segment, or with an external name in each
abbrev pub AreFixEntries : Option Segment → List ℕ → Type 0
AreFixEntries None entries = IsTrue (is_some (references_in entries))
AreFixEntries (Some target) entries = IsTrue (is_some (words_in entries))

abbrev pub external_fix : FixKind → (external offset : ℕ) → Fix
external_fix kind external offset = record { kind = kind; target = External external; offset = offset }

abbrev pub segment_fix : FixKind → Segment → (offset : ℕ) → Fix
segment_fix kind segment offset = record { kind = kind; target = InSegment segment; offset = offset }

-- the fix that entries begin with, and the bytes after it
abbrev pub fix_in_front : Option Segment → FixKind → (entries : List ℕ) → Front Fix
fix_in_front None kind (low ∷ high ∷ offset_low ∷ offset_high ∷ rest) =
    Some (external_fix kind (low + 256 * high) (offset_low + 256 * offset_high), rest)
fix_in_front None kind entries = None
fix_in_front (Some target) kind (low ∷ high ∷ rest) = Some (segment_fix kind target (low + 256 * high), rest)
fix_in_front (Some target) kind entries = None

-- the target that is a segment, the kind and the bytes of the entries, if a record is a fix record
abbrev pub FixHead : Type 0
FixHead = Option Segment × FixKind × List ℕ

abbrev pub fix_head : Option Segment → (entries : List ℕ) → FixKind → FixHead
fix_head target entries kind = (target, kind, entries)

abbrev pub fix_where : (own : Segment) → RecordKind → (body : List ℕ) → Option FixHead
fix_where own kinds.ExternalReferences (number ∷ entries) =
    option_map (fix_head None entries) (fix_kind_of number)
fix_where own kinds.Relocation (number ∷ entries) =
    option_map (fix_head (Some own) entries) (fix_kind_of number)
fix_where own kinds.IntersegmentReferences (target ∷ number ∷ entries) =
    option_and_then (λ (segment : Segment). option_map (fix_head (Some segment) entries) (fix_kind_of number))
    (segment_of target)
fix_where own kind body = None

-- the fixes that are left from a record on, where these bytes follow it
abbrev pub fixes_after : (own : Segment) → Option FixHead → (after : List ℕ) → List Fix
fixes_after own None after = []
fixes_after own (Some (target, kind, entries)) after =
    fixes_in target kind entries ++ leading_fixes own (parts_from after)

abbrev pub AreHeadEntries : Option FixHead → Type 0
AreHeadEntries None = Unit {0}
AreHeadEntries (Some (target, kind, entries)) = AreFixEntries target entries
