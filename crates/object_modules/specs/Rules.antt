-- The rules of an object file, record by record, and the fault of breaking each of them. A record is judged
-- by the records before it, the latest first.
use Rattle.std.specs.Prelude.{ℕ, ◌+◌, ◌==◌, Bool, true, false, not, ◌&&◌, ◌||◌, nat_lt, nat_le, if◌then◌else◌, List, [], ◌∷◌, length, flat_map, slice_index, Option, Some, None, option_map}
use Rattle.std.specs.List.{list_all, list_any}
use Rattle.std.specs.Option.{option_or, option_map_or, option_and_then}
use Rattle.omf80.specs.declared.fault.Fault.{Fault as RecordFault}
use Rattle.omf80.specs.declared.fault.Fault.TheVariants as record_faults
use Rattle.omf80.specs.declared.kind.RecordKind.{RecordKind}
use Rattle.omf80.specs.declared.kind.TheConstants.{BODY_LIMIT}
use Rattle.omf80.specs.Records.{kind_of_type, first_body, record_fault, first_that_holds}
use Rattle.object_modules.specs.declared.fault.Fault.{Fault}
use Rattle.object_modules.specs.declared.fault.Fault.TheVariants.{Truncated, WrongSum, WrongLength, UnknownType, OutOfOrder, WrongBody, ContentMisplaced, FixMisplaced, WrongAlignment}
use Rattle.object_modules.specs.declared.segment.Fix.{Fix}
use Rattle.object_modules.specs.declared.segment.Segment.{Segment}
use Rattle.symbols.specs.Names.{is_name}
use Rattle.object_modules.specs.Module.{holds_bytes, is_movable, may_have_publics, are_new, width_of}
use Rattle.object_modules.specs.Parts.{SegmentEntry, Reference, Content, Part, HeaderPart, ExternalNamesPart, PublicsPart, ContentPart, ExternalReferencesPart, RelocationPart, IntersegmentPart, kind_of_part, body_of, segment_number}
use Rattle.object_modules.specs.Reading.{part_in}
use Rattle.object_modules.specs.Before.{is_empty, same_segment, is_ended, may_follow, entries_of, externals_of, definition_names, names_of, content_of, stated_length_of, latest_content, content_end, filled_to, fixes_of, leading_fixes}

-- What a body may be: each rule that is broken is a wrong body.
-- segments 1 to 3, each after one with a lower number
abbrev pub ascend_from : ℕ → List SegmentEntry → Bool
ascend_from number [] = true
ascend_from number (entry ∷ others) =
    nat_lt number (segment_number entry.segment) && ascend_from (segment_number entry.segment) others

abbrev pub are_names : List (List ℕ) → (before : List Part) → Bool
are_names names before = list_all is_name names && are_new names (flat_map names_of before)

-- a segment of bytes other than that of the latest content, or the stack
abbrev pub is_other_segment : Segment → Option Content → Bool
is_other_segment target latest =
    is_movable target
    && option_map_or (λ (content : Content). not (same_segment target content.segment)) latest false

abbrev pub is_body : (before : List Part) → Part → Bool
is_body before (HeaderPart name translator version entries) = is_name name && ascend_from 0 entries
is_body before (ExternalNamesPart names) = not (is_empty names) && are_names names before
is_body before (PublicsPart segment definitions) =
    may_have_publics segment && not (is_empty definitions) && are_names (definition_names definitions) before
is_body before (ContentPart content) = holds_bytes content.segment && not (is_empty content.bytes)
is_body before (ExternalReferencesPart kind references) =
    not (is_empty references)
    && list_all
    (λ (reference : Reference). nat_lt reference.external (length (flat_map externals_of before)))
    references
is_body before (RelocationPart kind offsets) = not (is_empty offsets)
is_body before (IntersegmentPart target kind offsets) =
    not (is_empty offsets) && is_other_segment target (latest_content before)
is_body before part = true

-- Alignment 3 is byte, and alignment 1 is page, which only code and data may have.
abbrev pub is_served : SegmentEntry → Bool
is_served entry = entry.alignment == 3 || (entry.alignment == 1 && holds_bytes entry.segment)

-- a content ends within its segment, and begins where the one before it there ends or after that
abbrev pub fits_segment : (before : List Part) → Content → Bool
fits_segment before content =
    nat_le (content_end content) (stated_length_of content.segment before)
    && nat_le (filled_to content.segment before) content.offset

abbrev pub fix_end : Fix → ℕ
fix_end fix = fix.offset + width_of fix.kind

-- all bytes of a fix are bytes of a content
abbrev pub is_within : Content → Fix → Bool
is_within content fix = nat_le content.offset fix.offset && nat_le (fix_end fix) (content_end content)

-- two fixes have a byte in common
abbrev pub share_a_byte : Fix → Fix → Bool
share_a_byte left right = nat_lt left.offset (fix_end right) && nat_lt right.offset (fix_end left)

-- no fix shares a byte with another, nor with those that are there already
abbrev pub are_apart : List Fix → (others : List Fix) → Bool
are_apart [] others = true
are_apart (fix ∷ rest) others = not (list_any (share_a_byte fix) others) && are_apart rest (fix ∷ others)

-- the fixes of a part belong to the latest content
abbrev pub fit_content : (before : List Part) → Part → Option Content → Bool
fit_content before part None = true
fit_content before part (Some content) =
    list_all (is_within content) (fixes_of content.segment part)
    && are_apart (fixes_of content.segment part) (leading_fixes content.segment before)

-- What can be wrong with a part that may stand here, each with its fault, in the order in which it is
-- judged.
abbrev pub part_faults : (before : List Part) → Part → List (Bool × Fault)
part_faults before part =
    (not (is_body before part), WrongBody)
    ∷ (not (list_all is_served (entries_of part)), WrongAlignment)
    ∷ (option_map_or (λ content. not (fits_segment before content)) (content_of part) false, ContentMisplaced)
    ∷ (not (fit_content before part (latest_content before)), FixMisplaced)
    ∷ []

abbrev pub part_fault : (before : List Part) → Part → Option Fault
part_fault before part = first_that_holds (part_faults before part)

-- a part may stand after these
abbrev pub is_accepted : (before : List Part) → Part → Bool
is_accepted before part =
    nat_le (length (body_of part)) BODY_LIMIT && may_follow before (kind_of_part part)
    && option_map_or (λ fault. false) (part_fault before part) true

-- each part may stand after those before it
abbrev pub are_accepted : (before : List Part) → List Part → Bool
are_accepted before [] = true
are_accepted before (part ∷ others) = is_accepted before part && are_accepted (part ∷ before) others

-- the fault of a record of a kind with a body
abbrev pub fault_of_record : (before : List Part) → RecordKind → (body : List ℕ) → Option Fault
fault_of_record before kind body =
    if may_follow before kind then option_map_or (part_fault before) (part_in kind body) (Some WrongBody)
    else Some OutOfOrder

abbrev pub fault_from_record : RecordFault → Fault
fault_from_record record_faults.Truncated = Truncated
fault_from_record record_faults.WrongSum = WrongSum
fault_from_record record_faults.WrongLength = WrongLength
fault_from_record record_faults.UnknownType = UnknownType

-- The fault at the front of bytes that stand after these records, if there is one: a record is judged as such
-- first. After the end of the file there are no records, and any byte is out of order.
unfoldable pub fault_at : (before : List Part) → (bytes : List ℕ) → Option Fault
fault_at before bytes =
    if is_ended before then (if is_empty bytes then None else Some OutOfOrder)
    else option_or (option_map fault_from_record (record_fault bytes))
    (option_and_then (λ kind. fault_of_record before kind (first_body bytes))
    (kind_of_type (slice_index bytes 0)))
