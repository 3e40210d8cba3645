-- Object modules: what a linker and a loader know of a module, whatever file spells it.
use Rattle.std.specs.Prelude.{ℕ, ◌<◌, ◌≤◌, Bool, true, false, not, ◌&&◌, ◌||◌, IsTrue, nat_lt, nat_le, List, [], ◌∷◌, ◌++◌, length, map, slice_get, Option, Some, None, IfSome}
use Rattle.std.specs.List.{list_all, list_any}
use Rattle.std.specs.Option.{option_map_or, option_flatten}
use Rattle.std.specs.Str.{bytes_eq}
use Rattle.mem80.specs.declared.memory.TheConstants.{MEMORY_SIZE}
use Rattle.symbols.specs.Names.{is_name}
use Rattle.object_modules.specs.declared.segment.Segment.{Segment}
use Rattle.object_modules.specs.declared.segment.Segment.TheVariants.{Absolute, Code, Data, Stack}
use Rattle.object_modules.specs.declared.segment.Alignment.{Alignment}
use Rattle.object_modules.specs.declared.segment.Alignment.TheVariants.{Byte, Page}
use Rattle.object_modules.specs.declared.segment.FixKind.{FixKind}
use Rattle.object_modules.specs.declared.segment.FixKind.TheVariants.{Low, High, Both}
use Rattle.object_modules.specs.declared.segment.Target.{Target}
use Rattle.object_modules.specs.declared.segment.Target.TheVariants.{InSegment, External}
use Rattle.object_modules.specs.declared.segment.TheConstants.{SEGMENT_LIMIT}

-- that a byte, or the word that begins with it, depends on where its target lies
pub record Fixup : Type 0 where
  pub kind : FixKind
  pub target : Target

-- a byte that a module sets, and the fix that begins at it, if one does
pub record SetByte : Type 0 where
  pub value : ℕ
  pub fixup : Option Fixup

-- a segment, place by place from offset 0 on: the byte that is set there, or none; there are as many places
-- as the segment is long
pub record Places : Type 0 where
  pub alignment : Alignment
  pub places : List (Option SetByte)

-- a place that other modules may refer to by its name
pub record Public : Type 0 where
  pub segment : Segment
  pub offset : ℕ
  pub name : List ℕ

-- An object module. External names have their numbers by their order, from 0. A main module has a start, an
-- offset in its code.
pub record ObjectModule : Type 0 where
  pub name : List ℕ
  pub code : Places
  pub data_places : Places
  pub stack_length : ℕ
  pub publics : List Public
  pub externals : List (List ℕ)
  pub start : Option ℕ

-- the places of a segment; the others than code and data hold no bytes
abbrev pub places_of : ObjectModule → Segment → List (Option SetByte)
places_of object Code = object.code.places
places_of object Data = object.data_places.places
places_of object segment = []

-- how many bytes a segment has
abbrev pub length_of : ObjectModule → Segment → ℕ
length_of object Stack = object.stack_length
length_of object segment = length (places_of object segment)

abbrev pub alignment_of : ObjectModule → Segment → Alignment
alignment_of object Code = object.code.alignment
alignment_of object Data = object.data_places.alignment
alignment_of object segment = Byte

-- how many bytes a fix takes
abbrev pub width_of : FixKind → ℕ
width_of Low = 1
width_of High = 1
width_of Both = 2

abbrev pub is_both : FixKind → Bool
is_both Low = false
is_both High = false
is_both Both = true

-- a word that is fixed begins at this place
abbrev pub begins_word : Option SetByte → Bool
begins_word None = false
begins_word (Some here) = option_map_or (λ (fixup : Fixup). is_both fixup.kind) here.fixup false

-- a byte is set at this place, and no fix begins there
abbrev pub is_plain : Option SetByte → Bool
is_plain None = false
is_plain (Some here) = option_map_or (λ (fixup : Fixup). false) here.fixup true

-- each word that is fixed has its second byte at the next place, where no other fix begins
abbrev pub words_are_whole : List (Option SetByte) → Bool
words_are_whole [] = true
words_are_whole (here ∷ others) =
    (not (begins_word here) || is_plain (option_flatten (slice_get others 0))) && words_are_whole others

-- one of the names
abbrev pub is_among : (name : List ℕ) → List (List ℕ) → Bool
is_among name names = list_any (bytes_eq name) names

-- none of the names is known already, nor stands among them twice
abbrev pub are_new : List (List ℕ) → (known : List (List ℕ)) → Bool
are_new [] known = true
are_new (name ∷ others) known = not (is_among name known) && are_new others (name ∷ known)

abbrev pub holds_bytes : Segment → Bool
holds_bytes Absolute = false
holds_bytes Code = true
holds_bytes Data = true
holds_bytes Stack = false

-- what has a place that is not known before linking and placing
abbrev pub is_movable : Segment → Bool
is_movable Absolute = false
is_movable Code = true
is_movable Data = true
is_movable Stack = true

-- where a public name may be
abbrev pub may_have_publics : Segment → Bool
may_have_publics Absolute = true
may_have_publics Code = true
may_have_publics Data = true
may_have_publics Stack = false

-- a module with `external_count` external names may have this target; the number of a name fits two bytes
abbrev pub is_target : (external_count : ℕ) → Target → Bool
is_target external_count (InSegment segment) = is_movable segment
is_target external_count (External number) = nat_lt number external_count && nat_lt number 65536

abbrev pub is_valid_byte : (external_count : ℕ) → SetByte → Bool
is_valid_byte external_count here =
    nat_lt here.value 256
    && option_map_or (λ (fixup : Fixup). is_target external_count fixup.target) here.fixup true

abbrev pub is_page : Alignment → Bool
is_page Byte = false
is_page Page = true

-- a segment that a module may have; one without bytes may begin anywhere
abbrev pub is_valid_segment : (external_count : ℕ) → Places → Bool
is_valid_segment external_count segment =
    nat_le (length segment.places) SEGMENT_LIMIT
    && list_all (λ place. option_map_or (is_valid_byte external_count) place true) segment.places
    && words_are_whole segment.places
    && (not (is_page segment.alignment) || nat_lt 0 (length segment.places))

abbrev pub is_valid_public : Public → Bool
is_valid_public public = may_have_publics public.segment && nat_lt public.offset MEMORY_SIZE

-- all names of a module but its own
abbrev pub linkage_names : ObjectModule → List (List ℕ)
linkage_names object = object.externals ++ map (λ (public : Public). public.name) object.publics

-- a module that has a file
pub record IsObjectModule (object : ObjectModule) : Type 0 where
  pub name : IsTrue (is_name object.name)
  pub code : IsTrue (is_valid_segment (length object.externals) object.code)
  pub data_places : IsTrue (is_valid_segment (length object.externals) object.data_places)
  pub stack : object.stack_length ≤ SEGMENT_LIMIT
  pub publics : IsTrue (list_all is_valid_public object.publics)
  pub names : IsTrue (list_all is_name (linkage_names object))
  pub different : IsTrue (are_new (linkage_names object) [])
  pub start : IfSome object.start (λ offset. offset < MEMORY_SIZE)
