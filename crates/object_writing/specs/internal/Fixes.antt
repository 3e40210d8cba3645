-- The entries of fixes, and the records of those of a content.
use Rattle.std.specs.Prelude.{ℕ, Bool, false, if◌then◌else◌, List, [], ◌∷◌, ◌++◌, map, Option, Some, None}
use Rattle.omf80.specs.declared.kind.RecordKind.TheVariants as kinds
use Rattle.omf80.specs.Records.{word_bytes}
use Rattle.object_modules.specs.declared.segment.Fix.{Fix}
use Rattle.object_modules.specs.declared.segment.FixKind.{FixKind}
use Rattle.object_modules.specs.declared.segment.FixKind.TheVariants.{Low, High, Both}
use Rattle.object_modules.specs.declared.segment.Segment.{Segment}
use Rattle.object_modules.specs.declared.segment.Segment.TheVariants.{Code, Data, Stack}
use Rattle.object_modules.specs.declared.segment.Target.{Target}
use Rattle.object_modules.specs.declared.segment.Target.TheVariants.{InSegment, External}
use Rattle.object_modules.specs.Parts.{Part, ContentPart, segment_number, fix_kind_number, reference_bytes}
use Rattle.object_modules.specs.Before.{same_segment}
use Rattle.object_modules.specs.Text.{has_kind}
use Rattle.object_writing.specs.internal.Groups.{Group, empty_group, records_of}
use Rattle.object_writing.specs.declared.records.content.Referred.{Referred}
use Rattle.object_writing.specs.declared.records.content.Referred.TheVariants.{Names, Own, Other}

abbrev pub group_for : Referred → FixKind → Group
group_for Names kind = empty_group kinds.ExternalReferences (fix_kind_number kind ∷ [])
group_for (Own own) kind = empty_group kinds.Relocation (fix_kind_number kind ∷ [])
group_for (Other target) kind =
    empty_group kinds.IntersegmentReferences (segment_number target ∷ fix_kind_number kind ∷ [])

-- the entry of a place that refers to an external name
abbrev pub name_entry : Referred → (external offset : ℕ) → Option (List ℕ)
name_entry Names external offset = Some (reference_bytes (record { external = external; offset = offset }))
name_entry (Own own) external offset = None
name_entry (Other other) external offset = None

-- the fixes to a segment are among those listed
abbrev pub lists_segment : Referred → Segment → Bool
lists_segment Names target = false
lists_segment (Own own) target = same_segment target own
lists_segment (Other other) target = same_segment target other

abbrev pub place_entry : Referred → Segment → (offset : ℕ) → Option (List ℕ)
place_entry referred target offset = if lists_segment referred target then Some (word_bytes offset) else None

abbrev pub target_entry : Referred → Target → (offset : ℕ) → Option (List ℕ)
target_entry referred (InSegment segment) offset = place_entry referred segment offset
target_entry referred (External number) offset = name_entry referred number offset

abbrev pub fix_entry : Referred → FixKind → Fix → Option (List ℕ)
fix_entry referred kind fix = if has_kind kind fix then target_entry referred fix.target fix.offset else None

-- what is written for fixes of a kind, and for those of all kinds
abbrev pub kind_text : Referred → List Fix → FixKind → List ℕ
kind_text referred fixes kind = records_of (group_for referred kind) (map (fix_entry referred kind) fixes)

abbrev pub fixes_to : Referred → List Fix → List ℕ
fixes_to referred fixes =
    kind_text referred fixes Low ++ (kind_text referred fixes High ++ kind_text referred fixes Both)

-- what is written for fixes to another segment
abbrev pub other_text : (own : Segment) → List Fix → Segment → List ℕ
other_text own fixes target = if same_segment target own then [] else fixes_to (Other target) fixes

abbrev pub others_text : (own : Segment) → List Fix → List ℕ
others_text own fixes = other_text own fixes Code ++ (other_text own fixes Data ++ other_text own fixes Stack)

abbrev pub fixes_text : (own : Segment) → List Fix → List ℕ
fixes_text own fixes = fixes_to Names fixes ++ (fixes_to (Own own) fixes ++ others_text own fixes)

abbrev pub content_part : Segment → (offset : ℕ) → (bytes : List ℕ) → Part
content_part segment offset bytes =
    ContentPart (record { segment = segment; offset = offset; bytes = bytes })
