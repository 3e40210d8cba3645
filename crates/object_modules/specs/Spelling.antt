-- The object module that a file spells, and the first fault of another file.
use Rattle.std.specs.Prelude.{◌≡◌, ℕ, ◌-◌, ◌==◌, Bool, ◌&&◌, IsTrue, nat_lt, nat_le, if◌then◌else◌, List, [], ◌∷◌, ◌++◌, map, flat_map, filter_map, find, reverse, slice_get, slice_index, Option, Some, None, option_map}
use Rattle.std.specs.List.{range_with_len}
use Rattle.std.specs.Option.{option_map_or}
use Rattle.object_modules.specs.declared.fault.Fault.{Fault}
use Rattle.object_modules.specs.declared.segment.Alignment.{Alignment}
use Rattle.object_modules.specs.declared.segment.Alignment.TheVariants.{Byte, Page}
use Rattle.object_modules.specs.declared.segment.Fix.{Fix}
use Rattle.object_modules.specs.declared.segment.Segment.{Segment}
use Rattle.object_modules.specs.declared.segment.Segment.TheVariants.{Code, Data, Stack}
use Rattle.object_modules.specs.Module.{SetByte, Places, Public, ObjectModule}
use Rattle.object_modules.specs.Parts.{SegmentEntry, Definition, Content, Part, HeaderPart, PublicsPart, ContentPart, ModuleEndPart, part_bytes}
use Rattle.object_modules.specs.Before.{same_segment, entries_of, entry_in, externals_of, stated_length_of, content_end, leading_fixes, is_ended}
use Rattle.object_modules.specs.Rules.{are_accepted, fault_at}

-- a content and the fixes that stand after it
pub record FixedContent : Type 0 where
  pub content : Content
  pub fixes : List Fix

abbrev pub fixed_contents : List Part → List FixedContent
fixed_contents [] = []
fixed_contents (ContentPart content ∷ others) =
    record { content = content; fixes = leading_fixes content.segment others } ∷ fixed_contents others
fixed_contents (part ∷ others) = fixed_contents others

-- a content has a byte at a place
abbrev pub holds_place : Segment → (offset : ℕ) → FixedContent → Bool
holds_place segment offset fixed =
    same_segment (fixed.content).segment segment
    && nat_le (fixed.content).offset offset && nat_lt offset (content_end fixed.content)

-- the byte of a content at a place that it has, and the fix that begins there
abbrev pub set_at : (offset : ℕ) → FixedContent → SetByte
set_at offset fixed = record {
  value = slice_index (fixed.content).bytes (offset - (fixed.content).offset);
  fixup =
      option_map (λ (fix : Fix). record { kind = fix.kind; target = fix.target })
      (find (λ (fix : Fix). fix.offset == offset) fixed.fixes);
}

-- the byte that is set at a place of a segment
abbrev pub set_in : List FixedContent → Segment → (offset : ℕ) → Option SetByte
set_in contents segment offset = option_map (set_at offset) (find (holds_place segment offset) contents)

-- a segment may begin anywhere if the header says so or doesn't name it, or if it has no bytes
abbrev pub alignment_with : SegmentEntry → Alignment
alignment_with entry = if entry.alignment == 1 && nat_lt 0 entry.length then Page else Byte

abbrev pub alignment_in : List SegmentEntry → Segment → Alignment
alignment_in entries segment = option_map_or alignment_with (entry_in entries segment) Byte

abbrev pub places_in : List Part → Segment → Places
places_in parts segment = record {
  alignment = alignment_in (flat_map entries_of parts) segment;
  places =
      map (set_in (fixed_contents parts) segment) (range_with_len 0 (stated_length_of segment parts));
}

abbrev pub publics_of : Part → List Public
publics_of (PublicsPart segment definitions) =
    map
    (λ (definition : Definition).
    record { segment = segment; offset = definition.offset; name = definition.name })
    definitions
publics_of part = []

abbrev pub name_of_header : Part → Option (List ℕ)
name_of_header (HeaderPart name translator version entries) = Some name
name_of_header part = None

abbrev pub start_of_end : Part → Option ℕ
start_of_end (ModuleEndPart start) = start
start_of_end part = None

abbrev pub first_in : {A : Type 0} → List A → Option A
first_in found = slice_get found 0

-- the name of the module, and where it starts
abbrev pub name_in : List Part → List ℕ
name_in parts = option_map_or (λ name. name) (first_in (filter_map name_of_header parts)) []

abbrev pub start_in : List Part → Option ℕ
start_in parts = first_in (filter_map start_of_end parts)

-- the module that the parts of a file are
unfoldable pub module_of : List Part → ObjectModule
module_of parts = record {
  name = name_in parts;
  code = places_in parts Code;
  data_places = places_in parts Data;
  stack_length = stated_length_of Stack parts;
  publics = flat_map publics_of parts;
  externals = flat_map externals_of parts;
  start = start_in parts;
}

-- A file has these parts: it is their bytes, each may stand at its place, and the last one ends the file.
pub record IsFileOf (bytes : List ℕ) (parts : List Part) : Type 0 where
  pub accepted : IsTrue (are_accepted [] parts)
  pub ended : IsTrue (is_ended (reverse parts))
  pub spelled : bytes ≡ flat_map part_bytes parts

-- A file spells an object module: it has parts, and the module is what they say.
pub record Spells (bytes : List ℕ) (object : ObjectModule) : Type 0 where
  pub parts : List Part
  pub file : IsFileOf bytes parts
  pub said : object ≡ module_of parts

-- A file has a fault, its first: it is at the front of the bytes after parts that may stand at their
-- places.
pub record HasFirstFault (bytes : List ℕ) (fault : Fault) : Type 0 where
  pub before : List Part
  pub rest : List ℕ
  pub accepted : IsTrue (are_accepted [] before)
  pub spelled : bytes ≡ flat_map part_bytes before ++ rest
  pub at_rest : fault_at (reverse before) rest ≡ Some fault
