-- Worked files that are accepted, and files with two faults, where one fault counts before the other.
use Rattle.std.specs.Prelude.{◌≡◌, ℕ, List, [], ◌∷◌, ◌++◌, codes, flat_map, replicate, Option, Some, None, Result, Ok, Err, refl}
use Rattle.omf80.specs.Records.{record_bytes, record_fault}
use Rattle.object_modules.specs.declared.fault.Fault.{Fault}
use Rattle.object_modules.specs.declared.fault.Fault.TheVariants.{WrongLength, WrongBody}
use Rattle.object_modules.specs.declared.segment.Alignment.TheVariants.{Byte}
use Rattle.object_modules.specs.declared.segment.FixKind.TheVariants.{Low, High, Both}
use Rattle.object_modules.specs.declared.segment.Segment.{Segment}
use Rattle.object_modules.specs.declared.segment.Segment.TheVariants.{Absolute, Code, Data, Stack}
use Rattle.object_modules.specs.Parts.{SegmentEntry, Part, HeaderPart, ExternalNamesPart, PublicsPart, ContentPart, ExternalReferencesPart, RelocationPart, IntersegmentPart, ModuleEndPart, EndOfFilePart, part_bytes}
use Rattle.object_modules.specs.Reading.{part_in}
use Rattle.object_modules.specs.Rules.{fault_at}
use Rattle.object_modules.specs.Spelling.{module_of}
use Rattle.object_modules.specs.internal.Judgement.{parts_of}

abbrev pub entry_of : Segment → (size alignment : ℕ) → SegmentEntry
entry_of segment size alignment = record { segment = segment; length = size; alignment = alignment }

-- a file of the module M with these parts between its header and its end
abbrev pub file_of : List SegmentEntry → List Part → Option ℕ → List Part
file_of entries parts start =
    HeaderPart (codes "M") 0 0 entries ∷ parts ++ ModuleEndPart start ∷ EndOfFilePart ∷ []

abbrev pub content_at : Segment → ℕ → List ℕ → Part
content_at segment offset bytes = ContentPart (record { segment = segment; offset = offset; bytes = bytes })

-- the judgement of the bytes of parts
abbrev pub judged : List Part → Result (List Part) Fault
judged parts = parts_of (flat_map part_bytes parts)

-- fix records in any order
abbrev pub fixes_mixed : List Part
fixes_mixed = file_of (entry_of Code 8 3 ∷ []) (
    ExternalNamesPart (codes "S" ∷ [])
    ∷ content_at Code 0 (replicate 8 0)
    ∷ IntersegmentPart Stack Both (6 ∷ [])
    ∷ RelocationPart High (4 ∷ 5 ∷ [])
    ∷ ExternalReferencesPart Low (record { external = 0; offset = 3 } ∷ [])
    ∷ RelocationPart Both (0 ∷ [])
    ∷ [])
    None

pub fixes_mixed_accepted : judged fixes_mixed ≡ Ok fixes_mixed
unfolding record_bytes record_fault part_in fault_at parts_of
fixes_mixed_accepted = refl

-- publics of the segments in any order, one of them with the name of the module, past the segment's end
abbrev pub publics_mixed : List Part
publics_mixed = file_of (entry_of Code 1 3 ∷ []) (
    PublicsPart Data (record { offset = 7; name = codes "A" } ∷ [])
    ∷ PublicsPart Absolute (record { offset = 65535; name = codes "M" } ∷ [])
    ∷ PublicsPart Data (record { offset = 0; name = codes "B" } ∷ [])
    ∷ [])
    None

pub publics_mixed_accepted : judged publics_mixed ≡ Ok publics_mixed
unfolding record_bytes record_fault part_in fault_at parts_of
publics_mixed_accepted = refl

-- contents of both segments in turn; a segment entry of length 0; a start past the code
abbrev pub contents_mixed : List Part
contents_mixed = file_of (entry_of Code 4 3 ∷ entry_of Data 2 1 ∷ entry_of Stack 0 3 ∷ []) (
    content_at Code 0 (1 ∷ [])
    ∷ content_at Data 1 (2 ∷ [])
    ∷ content_at Code 3 (3 ∷ [])
    ∷ [])
    (Some 500)

pub contents_mixed_accepted : judged contents_mixed ≡ Ok contents_mixed
unfolding record_bytes record_fault part_in fault_at parts_of
contents_mixed_accepted = refl

-- an entry of length 0 with the alignment of a page counts as one that may begin anywhere
abbrev pub empty_page : List Part
empty_page = file_of (entry_of Code 0 1 ∷ []) [] None

pub empty_page_accepted : judged empty_page ≡ Ok empty_page
unfolding record_bytes record_fault part_in fault_at parts_of
empty_page_accepted = refl

pub empty_page_anywhere : (module_of empty_page).code ≡ record { alignment = Byte; places = [] }
unfolding module_of
empty_page_anywhere = refl

-- the longest record: 1024 bytes of content, and a length of 1028
abbrev pub longest : List Part
longest = file_of (entry_of Code 1024 3 ∷ []) (content_at Code 0 (replicate 1024 0xA5) ∷ []) None

pub longest_accepted : judged longest ≡ Ok longest
unfolding record_bytes record_fault part_in fault_at parts_of
longest_accepted = refl

-- a length of 0, and one of 1029
pub length_0 : parts_of (0x02 ∷ 0x00 ∷ 0x00 ∷ []) ≡ Err WrongLength
unfolding record_fault part_in fault_at parts_of
length_0 = refl

pub length_1029 : parts_of (0x02 ∷ 0x05 ∷ 0x04 ∷ []) ≡ Err WrongLength
unfolding record_fault part_in fault_at parts_of
length_1029 = refl

-- a wrong name counts before a wrong alignment
pub body_before_alignment :
    judged (HeaderPart (codes "m") 0 0 (entry_of Code 4 2 ∷ []) ∷ []) ≡ Err WrongBody
unfolding record_bytes record_fault part_in fault_at parts_of
body_before_alignment = refl
