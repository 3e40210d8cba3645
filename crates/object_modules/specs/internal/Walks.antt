-- How a walk over a file hands out its parts, and what is left of them by the bytes.
use Rattle.std.specs.Prelude.{◌≡◌, ℕ, zero, suc, List, [], ◌∷◌, ◌++◌, length, drop, flat_map, Option, Some, None, unwrap_or}
use Rattle.omf80.specs.Records.{record_fault, record_end}
use Rattle.omf80.specs.declared.fault.Fault.{Fault as RecordFault}
use Rattle.object_modules.specs.declared.segment.Alignment.{Alignment}
use Rattle.object_modules.specs.declared.segment.Alignment.TheVariants.{Byte}
use Rattle.object_modules.specs.declared.segment.Segment.{Segment}
use Rattle.object_modules.specs.declared.segment.Segment.TheVariants.{Absolute, Code, Data, Stack}
use Rattle.object_modules.specs.Before.{entries_of, externals_of, stated_length_of}
use Rattle.object_modules.specs.Module.{Public, ObjectModule}
use Rattle.object_modules.specs.Parts.{Content, Part, PublicsPart}
use Rattle.object_modules.specs.Reading.{Front, listed_name_in_front, definition_in_front, all_in, first_part}
use Rattle.object_modules.specs.Spelling.{FixedContent, IsFileOf, fixed_contents, alignment_in, name_in, publics_of, start_in}
use Rattle.object_modules.specs.Walking.{Walking, places_by}

-- a walk over parts, before anything was handed out
unfoldable pub walk_over : List Part → Walking
walk_over parts = record {
  name = name_in parts;
  code_length = stated_length_of Code parts;
  code_alignment = alignment_in (flat_map entries_of parts) Code;
  data_length = stated_length_of Data parts;
  data_alignment = alignment_in (flat_map entries_of parts) Data;
  stack_length = stated_length_of Stack parts;
  start = start_in parts;
  externals = flat_map externals_of parts;
  publics = flat_map publics_of parts;
  contents = fixed_contents parts;
  fixes = [];
}

-- how many bytes a segment has, and where it may begin
abbrev pub length_by : Walking → Segment → ℕ
length_by walking Absolute = 0
length_by walking Code = walking.code_length
length_by walking Data = walking.data_length
length_by walking Stack = walking.stack_length

abbrev pub alignment_by : Walking → Segment → Alignment
alignment_by walking Absolute = Byte
alignment_by walking Code = walking.code_alignment
alignment_by walking Data = walking.data_alignment
alignment_by walking Stack = Byte

-- a walk is one over the parts of a file
pub record WalksOver (bytes : List ℕ) (walking : Walking) : Type 0 where
  pub parts : List Part
  pub file : IsFileOf bytes parts
  pub from_the_front : walking ≡ walk_over parts

-- the module that a walk gives, before anything was handed out
unfoldable pub module_by : Walking → ObjectModule
module_by walking = record {
  name = walking.name;
  code = places_by walking.contents Code walking.code_alignment walking.code_length;
  data_places = places_by walking.contents Data walking.data_alignment walking.data_length;
  stack_length = walking.stack_length;
  publics = walking.publics;
  externals = walking.externals;
  start = walking.start;
}

-- Parts read from bytes alone, as far as each record has no fault of its own and a body of its kind. Of a
-- file without a fault they are the parts, so a walk needs no more than the bytes that it has not passed.
abbrev pub sound_part : List ℕ → Option RecordFault → Option Part
sound_part bytes None = first_part bytes
sound_part bytes (Some fault) = None

abbrev pub before_parts : Option Part → (later : List Part) → List Part
before_parts None later = []
before_parts (Some part) later = part ∷ later

-- at most `count` of these parts
abbrev pub parts_within : (count : ℕ) → List ℕ → List Part
parts_within zero bytes = []
parts_within (suc count) bytes =
    before_parts (sound_part bytes (record_fault bytes)) (parts_within count (drop (record_end bytes) bytes))

unfoldable pub parts_from : List ℕ → List Part
parts_from bytes = parts_within (length bytes) bytes

-- the entries that are left of a record; each was read before
abbrev pub entries_left : {A : Type 0} → (List ℕ → Front A) → List ℕ → List A
entries_left front bytes = unwrap_or (all_in front bytes) []

-- What is left to be handed out, by the bytes of entries that are left of a record and the bytes after it.
abbrev pub externals_left : (entries rest : List ℕ) → List (List ℕ)
externals_left entries rest =
    entries_left listed_name_in_front entries ++ flat_map externals_of (parts_from rest)

abbrev pub publics_left : Segment → (entries rest : List ℕ) → List Public
publics_left segment entries rest =
    publics_of (PublicsPart segment (entries_left definition_in_front entries))
    ++ flat_map publics_of (parts_from rest)

abbrev pub contents_left : (rest : List ℕ) → List FixedContent
contents_left rest = fixed_contents (parts_from rest)

-- a list without its first item, which is this one; or an empty list, which stays so
abbrev pub HandsOut : {A : Type 0} → (old new : List A) → Option A → Type 0
HandsOut old new (Some first) = old ≡ first ∷ new
HandsOut old new None = (old ≡ []) × (new ≡ [])

-- the next content is handed out, and its fixes are those to be handed out; if no content is left, nothing
-- changes
abbrev pub HandsOutContent : (old new : Walking) → Option Content → Type 0
HandsOutContent old new (Some content) =
    (old.contents ≡ record { content = content; fixes = new.fixes } ∷ new.contents)
    × (new ≡ record old { contents = new.contents; fixes = new.fixes })
HandsOutContent old new None = (old.contents ≡ []) × (new ≡ old)
