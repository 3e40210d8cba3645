-- What each record of an object file says, and the body that says it (Intel's 8080 relocatable object module
-- format, "Record formats").
use Rattle.std.specs.Prelude.{ℕ, List, [], ◌∷◌, ◌++◌, length, flat_map, Option, Some, None}
use Rattle.omf80.specs.declared.kind.RecordKind.{RecordKind}
use Rattle.omf80.specs.declared.kind.RecordKind.TheVariants as kinds
use Rattle.omf80.specs.Records.{Record, word_bytes, bytes_of}
use Rattle.object_modules.specs.declared.segment.Segment.{Segment}
use Rattle.object_modules.specs.declared.segment.Segment.TheVariants.{Absolute, Code, Data, Stack}
use Rattle.object_modules.specs.declared.segment.FixKind.{FixKind}
use Rattle.object_modules.specs.declared.segment.FixKind.TheVariants.{Low, High, Both}

-- the length of a segment, and the number of its alignment
pub record SegmentEntry : Type 0 where
  pub segment : Segment
  pub length : ℕ
  pub alignment : ℕ

-- a public name and its offset
pub record Definition : Type 0 where
  pub offset : ℕ
  pub name : List ℕ

-- the number of an external name, and the offset of a place that refers to it
pub record Reference : Type 0 where
  pub external : ℕ
  pub offset : ℕ

-- bytes of a segment, from an offset on
pub record Content : Type 0 where
  pub segment : Segment
  pub offset : ℕ
  pub bytes : List ℕ

-- the contents of a record; the two bytes after a module's name describe its translator, and nothing here looks at
-- them
pub data Part : Type 0 where
  HeaderPart : (name : List ℕ) → (translator version : ℕ) → List SegmentEntry → Part
  ExternalNamesPart : List (List ℕ) → Part
  PublicsPart : Segment → List Definition → Part
  ContentPart : Content → Part
  ExternalReferencesPart : FixKind → List Reference → Part
  RelocationPart : FixKind → (offsets : List ℕ) → Part
  IntersegmentPart : (target : Segment) → FixKind → (offsets : List ℕ) → Part
  ModuleEndPart : (start : Option ℕ) → Part
  EndOfFilePart : Part

abbrev pub kind_of_part : Part → RecordKind
kind_of_part (HeaderPart name translator version entries) = kinds.Header
kind_of_part (ExternalNamesPart names) = kinds.ExternalNames
kind_of_part (PublicsPart segment definitions) = kinds.Publics
kind_of_part (ContentPart content) = kinds.Content
kind_of_part (ExternalReferencesPart kind references) = kinds.ExternalReferences
kind_of_part (RelocationPart kind offsets) = kinds.Relocation
kind_of_part (IntersegmentPart target kind offsets) = kinds.IntersegmentReferences
kind_of_part (ModuleEndPart start) = kinds.ModuleEnd
kind_of_part EndOfFilePart = kinds.EndOfFile

abbrev pub segment_number : Segment → ℕ
segment_number Absolute = 0
segment_number Code = 1
segment_number Data = 2
segment_number Stack = 3

abbrev pub fix_kind_number : FixKind → ℕ
fix_kind_number Low = 1
fix_kind_number High = 2
fix_kind_number Both = 3

-- a name after its length
abbrev pub name_bytes : List ℕ → List ℕ
name_bytes name = length name ∷ name

-- a name in a list of names ends with a byte of 0
abbrev pub listed_name_bytes : List ℕ → List ℕ
listed_name_bytes name = name_bytes name ++ 0 ∷ []

abbrev pub segment_entry_bytes : SegmentEntry → List ℕ
segment_entry_bytes entry = segment_number entry.segment ∷ word_bytes entry.length ++ entry.alignment ∷ []

abbrev pub definition_bytes : Definition → List ℕ
definition_bytes definition = word_bytes definition.offset ++ listed_name_bytes definition.name

abbrev pub reference_bytes : Reference → List ℕ
reference_bytes reference = word_bytes reference.external ++ word_bytes reference.offset

-- a main module has the flag 1 and starts in its code; another has four bytes of 0
abbrev pub module_end_bytes : (start : Option ℕ) → List ℕ
module_end_bytes None = 0 ∷ 0 ∷ 0 ∷ 0 ∷ []
module_end_bytes (Some offset) = 1 ∷ segment_number Code ∷ word_bytes offset

abbrev pub body_of : Part → List ℕ
body_of (HeaderPart name translator version entries) =
    name_bytes name ++ translator ∷ version ∷ flat_map segment_entry_bytes entries
body_of (ExternalNamesPart names) = flat_map listed_name_bytes names
body_of (PublicsPart segment definitions) = segment_number segment ∷ flat_map definition_bytes definitions
body_of (ContentPart content) =
    segment_number content.segment ∷ word_bytes content.offset ++ content.bytes
body_of (ExternalReferencesPart kind references) = fix_kind_number kind ∷ flat_map reference_bytes references
body_of (RelocationPart kind offsets) = fix_kind_number kind ∷ flat_map word_bytes offsets
body_of (IntersegmentPart target kind offsets) =
    segment_number target ∷ fix_kind_number kind ∷ flat_map word_bytes offsets
body_of (ModuleEndPart start) = module_end_bytes start
body_of EndOfFilePart = []

-- the record that says this
abbrev pub record_of : Part → Record
record_of part = record { kind = kind_of_part part; body = body_of part }

-- its bytes
abbrev pub part_bytes : Part → List ℕ
part_bytes part = bytes_of (record_of part)
