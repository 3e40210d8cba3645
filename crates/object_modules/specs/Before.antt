-- What the records before a place in an object file say of the file. A list of those records has the latest one
-- first.
use Rattle.std.specs.Prelude.{ℕ, ◌+◌, ◌==◌, Bool, true, false, not, ◌&&◌, ◌||◌, nat_le, if◌then◌else◌, List, [], ◌∷◌, length, map, flat_map, find, take_while, Option, Some, None}
use Rattle.std.specs.Option.{option_or, option_map_or}
use Rattle.omf80.specs.declared.kind.RecordKind.{RecordKind}
use Rattle.omf80.specs.declared.kind.RecordKind.TheVariants as kinds
use Rattle.object_modules.specs.declared.segment.Fix.{Fix}
use Rattle.object_modules.specs.declared.segment.Segment.{Segment}
use Rattle.object_modules.specs.declared.segment.Target.TheVariants.{InSegment, External}
use Rattle.object_modules.specs.Parts.{SegmentEntry, Definition, Reference, Content, Part, HeaderPart, ExternalNamesPart, PublicsPart, ContentPart, ExternalReferencesPart, RelocationPart, IntersegmentPart, kind_of_part, segment_number}

abbrev pub is_empty : {A : Type 0} → List A → Bool
is_empty [] = true
is_empty (first ∷ others) = false

abbrev pub same_segment : Segment → Segment → Bool
same_segment left right = segment_number left == segment_number right

-- Order. A number for each kind of record: no record comes after one with a greater number.
abbrev pub rank_of : RecordKind → ℕ
rank_of kinds.Header = 0
rank_of kinds.ExternalNames = 1
rank_of kinds.Publics = 2
rank_of kinds.Content = 3
rank_of kinds.ExternalReferences = 3
rank_of kinds.Relocation = 3
rank_of kinds.IntersegmentReferences = 3
rank_of kinds.ModuleEnd = 4
rank_of kinds.EndOfFile = 5

abbrev pub is_fix_record : RecordKind → Bool
is_fix_record kinds.ExternalReferences = true
is_fix_record kinds.Relocation = true
is_fix_record kinds.IntersegmentReferences = true
is_fix_record kind = false

-- whether a record may come right after one of a kind: a fix record only if there is a content that it belongs
-- to, and the end of the file only after the one end of the module
abbrev pub may_come_after : (latest : RecordKind) → RecordKind → Bool
may_come_after latest kinds.Header = false
may_come_after latest kinds.EndOfFile = rank_of latest == 4
may_come_after latest kinds.ModuleEnd = nat_le (rank_of latest) 3
may_come_after latest kind =
    nat_le (rank_of latest) (rank_of kind) && (not (is_fix_record kind) || rank_of latest == 3)

abbrev pub is_header : RecordKind → Bool
is_header kinds.Header = true
is_header kind = false

abbrev pub may_follow : (before : List Part) → RecordKind → Bool
may_follow [] kind = is_header kind
may_follow (latest ∷ others) kind = may_come_after (kind_of_part latest) kind

abbrev pub is_ended : (before : List Part) → Bool
is_ended [] = false
is_ended (latest ∷ others) = rank_of (kind_of_part latest) == 5

-- What the records before say.
abbrev pub entries_of : Part → List SegmentEntry
entries_of (HeaderPart name translator version entries) = entries
entries_of part = []

abbrev pub externals_of : Part → List (List ℕ)
externals_of (ExternalNamesPart names) = names
externals_of part = []

abbrev pub definition_names : List Definition → List (List ℕ)
definition_names definitions = map (λ (definition : Definition). definition.name) definitions

-- the external and public names of a part
abbrev pub names_of : Part → List (List ℕ)
names_of (PublicsPart segment definitions) = definition_names definitions
names_of part = externals_of part

abbrev pub content_of : Part → Option Content
content_of (ContentPart content) = Some content
content_of part = None

-- the entry of a segment
abbrev pub entry_in : List SegmentEntry → Segment → Option SegmentEntry
entry_in entries segment = find (λ (entry : SegmentEntry). same_segment entry.segment segment) entries

-- the stated length of a segment; one that is left out has none
abbrev pub length_in : List SegmentEntry → Segment → ℕ
length_in entries segment =
    option_map_or (λ (entry : SegmentEntry). entry.length) (entry_in entries segment) 0

abbrev pub stated_length_of : Segment → List Part → ℕ
stated_length_of segment before = length_in (flat_map entries_of before) segment

-- the latest of the contents
abbrev pub latest_content : (before : List Part) → Option Content
latest_content [] = None
latest_content (latest ∷ others) = option_or (content_of latest) (latest_content others)

abbrev pub content_end : Content → ℕ
content_end content = content.offset + length content.bytes

-- where the latest content of a segment ends, and 0 without one
abbrev pub end_by_content : Segment → Option Content → (end_before : ℕ) → ℕ
end_by_content segment None end_before = end_before
end_by_content segment (Some content) end_before =
    if same_segment content.segment segment then content_end content else end_before

abbrev pub filled_to : Segment → (before : List Part) → ℕ
filled_to segment [] = 0
filled_to segment (latest ∷ others) = end_by_content segment (content_of latest) (filled_to segment others)

-- the fixes that a fix record lists, where its content is in a segment
abbrev pub fixes_of : (own : Segment) → Part → List Fix
fixes_of own (ExternalReferencesPart kind references) =
    map
    (λ (reference : Reference).
    record { kind = kind; target = External reference.external; offset = reference.offset })
    references
fixes_of own (RelocationPart kind offsets) =
    map (λ offset. record { kind = kind; target = InSegment own; offset = offset }) offsets
fixes_of own (IntersegmentPart target kind offsets) =
    map (λ offset. record { kind = kind; target = InSegment target; offset = offset }) offsets
fixes_of own part = []

-- the fixes in the fix records that stand before the first other record
abbrev pub leading_fixes : (own : Segment) → List Part → List Fix
leading_fixes own parts =
    flat_map (fixes_of own) (take_while (λ part. is_fix_record (kind_of_part part)) parts)
