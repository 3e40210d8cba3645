-- What the body of a record says, read from its bytes, or none if no part has that body.
use Rattle.std.specs.Prelude.{ℕ, zero, suc, ◌+◌, ◌*◌, ◌==◌, nat_le, ◌&&◌, if◌then◌else◌, List, [], ◌∷◌, length, take, drop, find, slice_index, Option, Some, None, option_map, option_and_then}
use Rattle.omf80.specs.declared.kind.RecordKind.{RecordKind}
use Rattle.omf80.specs.declared.kind.RecordKind.TheVariants as kinds
use Rattle.omf80.specs.Records.{kind_of_type, first_body}
use Rattle.object_modules.specs.declared.segment.Segment.{Segment}
use Rattle.object_modules.specs.declared.segment.Segment.TheVariants.{Absolute, Code, Data, Stack}
use Rattle.object_modules.specs.declared.segment.FixKind.{FixKind}
use Rattle.object_modules.specs.declared.segment.FixKind.TheVariants.{Low, High, Both}
use Rattle.object_modules.specs.Parts.{SegmentEntry, Definition, Reference, Part, HeaderPart, ExternalNamesPart, PublicsPart, ContentPart, ExternalReferencesPart, RelocationPart, IntersegmentPart, ModuleEndPart, EndOfFilePart, segment_number, fix_kind_number}

-- the segment with a number
abbrev pub segment_of : (number : ℕ) → Option Segment
segment_of number =
    find (λ segment. segment_number segment == number) (Absolute ∷ Code ∷ Data ∷ Stack ∷ [])

-- the kind of fix with a number
abbrev pub fix_kind_of : (number : ℕ) → Option FixKind
fix_kind_of number = find (λ kind. fix_kind_number kind == number) (Low ∷ High ∷ Both ∷ [])

-- the value at the front of bytes, and the bytes after it
abbrev pub Front : Type 0 → Type 0
Front A = Option (A × List ℕ)

abbrev pub word_in_front : List ℕ → Front ℕ
word_in_front (low ∷ high ∷ rest) = Some (low + 256 * high, rest)
word_in_front bytes = None

-- a length, and a name of that length
abbrev pub name_in_front : List ℕ → Front (List ℕ)
name_in_front [] = None
name_in_front (size ∷ rest) =
    if nat_le size (length rest) then Some (take size rest, drop size rest) else None

-- a name, and the bytes after it without a byte of 0 in front
abbrev pub ended_name : List ℕ → List ℕ → Front (List ℕ)
ended_name name [] = None
ended_name name (last ∷ rest) = if last == 0 then Some (name, rest) else None

-- a name that a byte of 0 ends
abbrev pub listed_name_in_front : List ℕ → Front (List ℕ)
listed_name_in_front bytes =
    option_and_then (λ (named : List ℕ × List ℕ). ended_name named.0 named.1) (name_in_front bytes)

abbrev pub definition_in_front : List ℕ → Front Definition
definition_in_front bytes =
    option_and_then
    (λ (placed : ℕ × List ℕ).
    option_map
    (λ (named : List ℕ × List ℕ). (record { offset = placed.0; name = named.0 }, named.1))
    (listed_name_in_front placed.1))
    (word_in_front bytes)

-- Words, references and entries of segments, each of as many bytes as the next, to the end of the bytes.
abbrev pub words_in : List ℕ → Option (List ℕ)
words_in [] = Some []
words_in (low ∷ high ∷ rest) = option_map (λ (others : List ℕ). (low + 256 * high) ∷ others) (words_in rest)
words_in bytes = None

abbrev pub references_in : List ℕ → Option (List Reference)
references_in [] = Some []
references_in (low ∷ high ∷ offset_low ∷ offset_high ∷ rest) =
    option_map
    (λ (others : List Reference).
    record { external = low + 256 * high; offset = offset_low + 256 * offset_high } ∷ others)
    (references_in rest)
references_in bytes = None

abbrev pub segment_entries_in : List ℕ → Option (List SegmentEntry)
segment_entries_in [] = Some []
segment_entries_in (number ∷ low ∷ high ∷ alignment ∷ rest) =
    option_and_then
    (λ (segment : Segment).
    option_map
    (λ (others : List SegmentEntry).
    record { segment = segment; length = low + 256 * high; alignment = alignment } ∷ others)
    (segment_entries_in rest))
    (segment_of number)
segment_entries_in bytes = None

-- values one after another to the end of the bytes, at most `count` of them
abbrev pub at_most : {A : Type 0} → (count : ℕ) → (List ℕ → Front A) → List ℕ → Option (List A)
at_most count front [] = Some []
at_most zero front (byte ∷ rest) = None
at_most {A} (suc count) front (byte ∷ rest) =
    option_and_then
    (λ (read : A × List ℕ). option_map (λ (others : List A). read.0 ∷ others) (at_most count front read.1))
    (front (byte ∷ rest))

-- values one after another to the end of the bytes, each with at least one byte
abbrev pub all_in : {A : Type 0} → (List ℕ → Front A) → List ℕ → Option (List A)
all_in front bytes = at_most (length bytes) front bytes

abbrev pub header_after_name : List ℕ → List ℕ → Option Part
header_after_name name (translator ∷ version ∷ rest) =
    option_map (HeaderPart name translator version) (segment_entries_in rest)
header_after_name name bytes = None

abbrev pub header_in : List ℕ → Option Part
header_in body =
    option_and_then (λ (named : List ℕ × List ℕ). header_after_name named.0 named.1) (name_in_front body)

abbrev pub publics_in : List ℕ → Option Part
publics_in [] = None
publics_in (number ∷ rest) =
    option_and_then
    (λ (segment : Segment). option_map (PublicsPart segment) (all_in definition_in_front rest))
    (segment_of number)

abbrev pub content_in : List ℕ → Option Part
content_in (number ∷ low ∷ high ∷ bytes) =
    option_map
    (λ (segment : Segment).
    ContentPart (record { segment = segment; offset = low + 256 * high; bytes = bytes }))
    (segment_of number)
content_in body = None

abbrev pub external_references_in : List ℕ → Option Part
external_references_in [] = None
external_references_in (number ∷ rest) =
    option_and_then
    (λ (kind : FixKind). option_map (ExternalReferencesPart kind) (references_in rest))
    (fix_kind_of number)

abbrev pub relocation_in : List ℕ → Option Part
relocation_in [] = None
relocation_in (number ∷ rest) =
    option_and_then (λ (kind : FixKind). option_map (RelocationPart kind) (words_in rest))
    (fix_kind_of number)

abbrev pub intersegment_in : List ℕ → Option Part
intersegment_in (target ∷ number ∷ rest) =
    option_and_then
    (λ (segment : Segment).
    option_and_then
    (λ (kind : FixKind). option_map (IntersegmentPart segment kind) (words_in rest))
    (fix_kind_of number))
    (segment_of target)
intersegment_in body = None

-- the flag of a main module, a segment, and an offset in two bytes
abbrev pub module_end_by : (flag segment offset : ℕ) → Option Part
module_end_by flag segment offset =
    if flag == 0 && segment == 0 && offset == 0 then Some (ModuleEndPart None)
    else if flag == 1 && segment == 1 then Some (ModuleEndPart (Some offset))
    else None

abbrev pub module_end_in : List ℕ → Option Part
module_end_in (flag ∷ segment ∷ low ∷ high ∷ []) = module_end_by flag segment (low + 256 * high)
module_end_in body = None

abbrev pub end_of_file_in : List ℕ → Option Part
end_of_file_in [] = Some EndOfFilePart
end_of_file_in body = None

-- the part that a record of a kind with this body is
unfoldable pub part_in : RecordKind → (body : List ℕ) → Option Part
part_in kinds.Header body = header_in body
part_in kinds.ExternalNames body = option_map ExternalNamesPart (all_in listed_name_in_front body)
part_in kinds.Publics body = publics_in body
part_in kinds.Content body = content_in body
part_in kinds.ExternalReferences body = external_references_in body
part_in kinds.Relocation body = relocation_in body
part_in kinds.IntersegmentReferences body = intersegment_in body
part_in kinds.ModuleEnd body = module_end_in body
part_in kinds.EndOfFile body = end_of_file_in body

-- the part that bytes begin with, if they begin with a record
abbrev pub first_part : List ℕ → Option Part
first_part bytes =
    option_and_then (λ kind. part_in kind (first_body bytes)) (kind_of_type (slice_index bytes 0))
