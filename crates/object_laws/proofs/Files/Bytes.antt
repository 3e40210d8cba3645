-- What numbers a part of a file has: each is one that the bytes of its record can say.
use Rattle.object_laws.proofs.Prelude.{ℕ, zero, suc, ◌<◌, List, [], ◌∷◌, ◌++◌, flat_map, get_or, IfSome, Option, Some, None, arith, AllByRecursion, record_bytes, without_checksum, IsBytes, SegmentEntry, Definition, Reference, Part, HeaderPart, ExternalNamesPart, PublicsPart, ContentPart, ExternalReferencesPart, RelocationPart, IntersegmentPart, ModuleEndPart, EndOfFilePart, name_bytes, segment_entry_bytes, definition_bytes, reference_bytes, body_of, part_bytes, word_of_high}
use Rattle.mem80.specs.Sums.{checksum_of}

-- each number of the part is a byte, or a word
abbrev pub InRange : Part → Type 0
InRange (HeaderPart name translator version entries) =
    AllByRecursion (λ (entry : SegmentEntry). entry.length < 65536) entries
InRange (ExternalNamesPart names) = Unit {0}
InRange (PublicsPart segment definitions) =
    AllByRecursion (λ (definition : Definition). definition.offset < 65536) definitions
InRange (ContentPart content) = IsBytes content.bytes
InRange (ExternalReferencesPart kind references) =
    AllByRecursion (λ (reference : Reference). reference.external < 65536) references
InRange (RelocationPart kind offsets) = Unit {0}
InRange (IntersegmentPart target kind offsets) = Unit {0}
InRange (ModuleEndPart start) = IfSome start (λ offset. offset < 65536)
InRange EndOfFilePart = Unit {0}

bytes_parts : (xs ys : List ℕ) → IsBytes (xs ++ ys) → IsBytes xs × IsBytes ys
bytes_parts [] ys all = (tt, all)
bytes_parts (x ∷ xs) ys all = let others = bytes_parts xs ys all.1 in ((all.0, others.0), others.1)

-- a byte of a list of bytes; there are zeros after it
pub byte_at : (bytes : List ℕ) (i : ℕ) → IsBytes bytes → get_or bytes i 0 < 256
byte_at [] i all = omega arith
byte_at (byte ∷ others) zero all = all.0
byte_at (byte ∷ others) (suc i) all = byte_at others i all.1

entries_range :
    (entries : List SegmentEntry) → IsBytes (flat_map segment_entry_bytes entries)
    → AllByRecursion (λ (entry : SegmentEntry). entry.length < 65536) entries
entries_range [] all = tt
entries_range (entry ∷ others) all =
    (word_of_high entry.length all.1.1.0, entries_range others all.1.1.1.1)

definitions_range :
    (definitions : List Definition) → IsBytes (flat_map definition_bytes definitions)
    → AllByRecursion (λ (definition : Definition). definition.offset < 65536) definitions
definitions_range [] all = tt
definitions_range (definition ∷ others) all =
    let cut = bytes_parts (definition_bytes definition) (flat_map definition_bytes others) all in
    (word_of_high definition.offset cut.0.1.0, definitions_range others cut.1)

references_range :
    (references : List Reference) → IsBytes (flat_map reference_bytes references)
    → AllByRecursion (λ (reference : Reference). reference.external < 65536) references
references_range [] all = tt
references_range (reference ∷ others) all =
    (word_of_high reference.external all.1.0, references_range others all.1.1.1.1)

start_range : (start : Option ℕ) → IsBytes (body_of (ModuleEndPart start))
    → IfSome start (λ offset. offset < 65536)
start_range None all = tt
start_range (Some offset) all = word_of_high offset all.1.1.1.0

body_range : (part : Part) → IsBytes (body_of part) → InRange part
body_range (HeaderPart name translator version entries) all =
    let cut =
    bytes_parts (name_bytes name) (translator ∷ version ∷ flat_map segment_entry_bytes entries) all in
    entries_range entries cut.1.1.1
body_range (ExternalNamesPart names) all = tt
body_range (PublicsPart segment definitions) all = definitions_range definitions all.1
body_range (ContentPart content) all = all.1.1.1
body_range (ExternalReferencesPart kind references) all = references_range references all.1
body_range (RelocationPart kind offsets) all = tt
body_range (IntersegmentPart target kind offsets) all = tt
body_range (ModuleEndPart start) all = start_range start all
body_range EndOfFilePart all = tt

body_bytes : (type : ℕ) (body : List ℕ) → IsBytes (record_bytes type body) → IsBytes body
unfolding record_bytes
body_bytes type body all =
    (bytes_parts body (checksum_of (without_checksum type body) ∷ []) all.1.1.1).0

-- so of each part of a file
pub parts_range : (parts : List Part) → IsBytes (flat_map part_bytes parts) → AllByRecursion InRange parts
parts_range [] all = tt
parts_range (part ∷ others) all =
    let cut = bytes_parts (part_bytes part) (flat_map part_bytes others) all in
    (body_range part (body_bytes _ (body_of part) cut.0), parts_range others cut.1)
