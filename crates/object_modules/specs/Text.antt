-- The one file that is written for an object module.
use Rattle.std.specs.Prelude.{ℕ, ◌+◌, ◌-◌, ◌==◌, Bool, not, nat_lt, if◌then◌else◌, List, [], ◌∷◌, ◌++◌, length, map, flat_map, filter, filter_map, Option, Some, None}
use Rattle.std.specs.List.{onto_first}
use Rattle.omf80.specs.declared.kind.TheConstants.{BODY_LIMIT}
use Rattle.object_modules.specs.declared.segment.Alignment.{Alignment}
use Rattle.object_modules.specs.declared.segment.Alignment.TheVariants.{Byte, Page}
use Rattle.object_modules.specs.declared.segment.Fix.{Fix}
use Rattle.object_modules.specs.declared.segment.FixKind.{FixKind}
use Rattle.object_modules.specs.declared.segment.FixKind.TheVariants.{Low, High, Both}
use Rattle.object_modules.specs.declared.segment.Segment.{Segment}
use Rattle.object_modules.specs.declared.segment.Segment.TheVariants.{Absolute, Code, Data, Stack}
use Rattle.object_modules.specs.declared.segment.Target.{Target}
use Rattle.object_modules.specs.declared.segment.Target.TheVariants.{InSegment, External}
use Rattle.object_modules.specs.Module.{Fixup, SetByte, Public, ObjectModule, places_of, length_of, alignment_of, begins_word}
use Rattle.object_modules.specs.Parts.{SegmentEntry, Definition, Reference, Part, HeaderPart, ExternalNamesPart, PublicsPart, ContentPart, ExternalReferencesPart, RelocationPart, IntersegmentPart, ModuleEndPart, EndOfFilePart, part_bytes, fix_kind_number, listed_name_bytes, definition_bytes}
use Rattle.object_modules.specs.Before.{same_segment}

-- how many data bytes a content has at most
abbrev pub content_limit : ℕ
content_limit = BODY_LIMIT - 3

-- Lists cut into groups, each as long as there is room: an item goes into the group before it if the room
-- left there is at least what it needs, and takes room from it. The first of the groups continues one
-- that is begun.
abbrev pub groups_after : {A : Type 0} → (needs takes : A → ℕ) → (limit room : ℕ) → List A → List (List A)
groups_after needs takes limit room [] = [] ∷ []
groups_after needs takes limit room (item ∷ others) =
    if nat_lt room (needs item)
    then [] ∷ onto_first item (groups_after needs takes limit (limit - takes item) others)
    else onto_first item (groups_after needs takes limit (room - takes item) others)

-- a list cut into groups within a limit; an empty list gives none
abbrev pub groups_of : {A : Type 0} → (needs takes : A → ℕ) → (limit : ℕ) → List A → List (List A)
groups_of needs takes limit [] = []
groups_of needs takes limit (item ∷ others) = groups_after needs takes limit limit (item ∷ others)

-- groups of items, where each item takes the room that it needs
abbrev pub packed : {A : Type 0} → (size : A → ℕ) → (limit : ℕ) → List A → List (List A)
packed size limit items = groups_of size size limit items

-- The header lists the segments that have bytes, in order.
abbrev pub alignment_number : Alignment → ℕ
alignment_number Byte = 3
alignment_number Page = 1

abbrev pub entry_for : ObjectModule → Segment → Option SegmentEntry
entry_for object segment =
    if length_of object segment == 0 then None
    else Some (record {
      segment = segment;
      length = length_of object segment;
      alignment = alignment_number (alignment_of object segment);
    })

abbrev pub header_for : ObjectModule → Part
header_for object = HeaderPart object.name 0 0 (filter_map (entry_for object) (Code ∷ Data ∷ Stack ∷ []))

-- Names fill records as far as whole entries fit.
abbrev pub external_parts : List (List ℕ) → List Part
external_parts names =
    map ExternalNamesPart (packed (λ name. length (listed_name_bytes name)) BODY_LIMIT names)

-- the publics of a segment, in their order
abbrev pub publics_in_segment : Segment → List Public → List Public
publics_in_segment segment publics =
    filter (λ (public : Public). same_segment public.segment segment) publics

abbrev pub definition_of : Public → Definition
definition_of public = record { offset = public.offset; name = public.name }

abbrev pub public_parts : List Public → Segment → List Part
public_parts publics segment =
    map (PublicsPart segment)
    (packed (λ definition. length (definition_bytes definition)) (BODY_LIMIT - 1)
    (map definition_of (publics_in_segment segment publics)))

-- The longest runs of items in a row of places, each with the place where it begins.
pub record Run (A : Type 0) : Type 0 where
  pub offset : ℕ
  pub items : List A

-- an item at a place, and then the runs after it: it begins the first one, if that is at the next place
abbrev pub before_runs : {A : Type 0} → (offset : ℕ) → A → List (Run A) → List (Run A)
before_runs offset item [] = record { offset = offset; items = item ∷ [] } ∷ []
before_runs offset item (next ∷ others) =
    if next.offset == offset + 1
    then record { offset = offset; items = item ∷ next.items } ∷ others
    else record { offset = offset; items = item ∷ [] } ∷ next ∷ others

abbrev pub runs_from : {A : Type 0} → (offset : ℕ) → List (Option A) → List (Run A)
runs_from offset [] = []
runs_from offset (None ∷ others) = runs_from (offset + 1) others
runs_from offset (Some item ∷ others) = before_runs offset item (runs_from (offset + 1) others)

-- A content takes as many bytes of a run as it may have, but a word that is fixed is not split.
abbrev pub bytes_wanted : SetByte → ℕ
bytes_wanted here = if begins_word (Some here) then 2 else 1

-- groups of a run, each with the place where it begins
abbrev pub placed_from : {A : Type 0} → (offset : ℕ) → List (List A) → List (Run A)
placed_from offset [] = []
placed_from offset (items ∷ others) =
    record { offset = offset; items = items } ∷ placed_from (offset + length items) others

abbrev pub contents_of_run : Run SetByte → List (Run SetByte)
contents_of_run run = placed_from run.offset (groups_of bytes_wanted (λ here. 1) content_limit run.items)

-- The fixes of a content, by their places.
abbrev pub fixes_from : (offset : ℕ) → List SetByte → List Fix
fixes_from offset [] = []
fixes_from offset (here ∷ others) = before here.fixup (fixes_from (offset + 1) others)
  where
    before : Option Fixup → List Fix → List Fix
    before None fixes = fixes
    before (Some fixup) fixes =
        record { kind = fixup.kind; target = fixup.target; offset = offset } ∷ fixes

abbrev pub fix_kinds : List FixKind
fix_kinds = Low ∷ High ∷ Both ∷ []

abbrev pub has_kind : FixKind → Fix → Bool
has_kind kind fix = fix_kind_number fix.kind == fix_kind_number kind

-- the external reference that a fix of a kind is
abbrev pub reference_for : FixKind → Fix → Option Reference
reference_for kind fix = if has_kind kind fix then by_target fix.target else None
  where
    by_target : Target → Option Reference
    by_target (InSegment segment) = None
    by_target (External number) = Some (record { external = number; offset = fix.offset })

-- the offset of a fix of a kind to a segment
abbrev pub offset_for : Segment → FixKind → Fix → Option ℕ
offset_for segment kind fix = if has_kind kind fix then by_target fix.target else None
  where
    by_target : Target → Option ℕ
    by_target (InSegment target) = if same_segment target segment then Some fix.offset else None
    by_target (External number) = None

abbrev pub external_fix_parts : List Fix → FixKind → List Part
external_fix_parts fixes kind =
    map (ExternalReferencesPart kind)
    (packed (λ (reference : Reference). 4) (BODY_LIMIT - 1) (filter_map (reference_for kind) fixes))

abbrev pub relocation_parts : Segment → List Fix → FixKind → List Part
relocation_parts own fixes kind =
    map (RelocationPart kind)
    (packed (λ (offset : ℕ). 2) (BODY_LIMIT - 1) (filter_map (offset_for own kind) fixes))

abbrev pub intersegment_parts : List Fix → Segment → FixKind → List Part
intersegment_parts fixes target kind =
    map (IntersegmentPart target kind)
    (packed (λ (offset : ℕ). 2) (BODY_LIMIT - 2) (filter_map (offset_for target kind) fixes))

-- the segments that a fix can go to from another one
abbrev pub other_segments : (own : Segment) → List Segment
other_segments own = filter (λ target. not (same_segment target own)) (Code ∷ Data ∷ Stack ∷ [])

-- external references, relocation, and references to other segments by their numbers, each by kind
abbrev pub fix_parts : (own : Segment) → List Fix → List Part
fix_parts own fixes =
    flat_map (external_fix_parts fixes) fix_kinds
    ++ flat_map (relocation_parts own fixes) fix_kinds
    ++ flat_map (λ target. flat_map (intersegment_parts fixes target) fix_kinds) (other_segments own)

-- a content, and its fixes after it
abbrev pub content_parts : Segment → Run SetByte → List Part
content_parts segment run =
    ContentPart (record {
      segment = segment;
      offset = run.offset;
      bytes = map (λ (here : SetByte). here.value) run.items;
    })
    ∷ fix_parts segment (fixes_from run.offset run.items)

abbrev pub segment_parts : ObjectModule → Segment → List Part
segment_parts object segment =
    flat_map (content_parts segment) (flat_map contents_of_run (runs_from 0 (places_of object segment)))

-- the records that are written for a module
unfoldable pub written_parts : ObjectModule → List Part
written_parts object =
    header_for object
    ∷ external_parts object.externals
    ++ flat_map (public_parts object.publics) (Absolute ∷ Code ∷ Data ∷ [])
    ++ flat_map (segment_parts object) (Code ∷ Data ∷ [])
    ++ ModuleEndPart object.start
    ∷ EndOfFilePart
    ∷ []

abbrev pub text_of : ObjectModule → List ℕ
text_of object = flat_map part_bytes (written_parts object)

-- a module with its publics in the order in which they are written, which is how its text gives it back
abbrev pub with_publics_in_order : ObjectModule → ObjectModule
with_publics_in_order object = record object {
  publics =
      flat_map (λ segment. publics_in_segment segment object.publics) (Absolute ∷ Code ∷ Data ∷ []);
}
