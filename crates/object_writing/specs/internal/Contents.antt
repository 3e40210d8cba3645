-- What is written for a header, a content and the end of a module.
use Rattle.std.specs.Prelude.{ℕ, ◌==◌, if◌then◌else◌, List, [], ◌∷◌, flat_map, filter_map, Option, Some, None}
use Rattle.object_modules.specs.declared.segment.Fix.{Fix}
use Rattle.object_modules.specs.declared.segment.Segment.{Segment}
use Rattle.object_modules.specs.Parts.{SegmentEntry, HeaderPart, ContentPart, ModuleEndPart, EndOfFilePart, segment_entry_bytes, part_bytes}
use Rattle.object_modules.specs.Text.{alignment_number, fix_parts}
use Rattle.object_writing.specs.declared.records.header.SegmentEntry.{SegmentEntry as CodeEntry}

-- the entry of a segment that has bytes
abbrev pub listed_entry : CodeEntry → Option SegmentEntry
listed_entry entry =
    if entry.size == 0 then None
    else Some (record {
      segment = entry.segment;
      length = entry.size;
      alignment = alignment_number entry.alignment;
    })

abbrev pub bytes_of_entry : Option SegmentEntry → List ℕ
bytes_of_entry None = []
bytes_of_entry (Some entry) = segment_entry_bytes entry

abbrev pub listed_bytes : CodeEntry → List ℕ
listed_bytes entry = bytes_of_entry (listed_entry entry)

-- the record of a module's name and of its segments that have bytes
abbrev pub header_text : (name : List ℕ) → List CodeEntry → List ℕ
header_text name entries = part_bytes (HeaderPart name 0 0 (filter_map listed_entry entries))

-- the records of a content and of its fixes
abbrev pub content_text : Segment → (offset : ℕ) → (bytes : List ℕ) → List Fix → List ℕ
content_text segment offset bytes fixes =
    flat_map part_bytes
    (ContentPart (record { segment = segment; offset = offset; bytes = bytes }) ∷ fix_parts segment fixes)

-- the record that ends a module
abbrev pub module_end_text : (start : Option ℕ) → List ℕ
module_end_text start = part_bytes (ModuleEndPart start)

-- the records that end a module and its file
abbrev pub end_text : (start : Option ℕ) → List ℕ
end_text start = flat_map part_bytes (ModuleEndPart start ∷ EndOfFilePart ∷ [])
