-- Where the pieces of modules begin in their merge, and what their publics and their fixed places become
-- there.
use Rattle.std.specs.Prelude.{ℕ, ◌+◌, ◌*◌, ◌/◌, ◌%◌, if◌then◌else◌, List, [], ◌∷◌, length, map, flat_map, find, slice_get, Option, Some, None}
use Rattle.std.specs.Option.{option_map_or, option_and_then}
use Rattle.std.specs.Str.{bytes_eq}
use Rattle.mem80.specs.declared.memory.TheConstants.{MEMORY_SIZE}
use Rattle.object_modules.specs.declared.segment.Alignment.{Alignment}
use Rattle.object_modules.specs.declared.segment.Alignment.TheVariants.{Byte, Page}
use Rattle.object_modules.specs.declared.segment.Segment.{Segment}
use Rattle.object_modules.specs.declared.segment.Segment.TheVariants.{Absolute, Code, Data, Stack}
use Rattle.object_modules.specs.declared.segment.Target.{Target}
use Rattle.object_modules.specs.declared.segment.Target.TheVariants.{InSegment, External}
use Rattle.object_modules.specs.Module.{Public, ObjectModule, is_movable}

-- a page begins at the next multiple of 256
abbrev pub start_after : (end : ℕ) → Alignment → ℕ
start_after end Byte = end
start_after end Page = (end + 255) / 256 * 256

-- where the pieces of the code and of the data of a module begin in those of the merge
pub record Start : Type 0 where
  pub code : ℕ
  pub data_start : ℕ

-- a module, and where its pieces begin
pub record Linked : Type 0 where
  pub object : ObjectModule
  pub start : Start

abbrev pub code_end : Linked → ℕ
code_end linked = (linked.start).code + length (linked.object).code.places

abbrev pub data_end : Linked → ℕ
data_end linked = (linked.start).data_start + length (linked.object).data_places.places

-- a module whose pieces come after what ends here
abbrev pub linked_after : (code_before data_before : ℕ) → ObjectModule → Linked
linked_after code_before data_before object = record {
  object = object;
  start = record {
    code = start_after code_before object.code.alignment;
    data_start = start_after data_before object.data_places.alignment;
  };
}

-- each piece begins where the one before it ends, or at the page after that
abbrev pub linked_from : (code_before data_before : ℕ) → List ObjectModule → List Linked
linked_from code_before data_before [] = []
linked_from code_before data_before (object ∷ others) =
    linked_after code_before data_before object
    ∷ linked_from (code_end (linked_after code_before data_before object))
    (data_end (linked_after code_before data_before object)) others

abbrev pub linked_modules : List ObjectModule → List Linked
linked_modules objects = linked_from 0 0 objects

-- by how much the offsets of a segment grow; absolute addresses and those fixed to the stack stay
abbrev pub start_of : Start → Segment → ℕ
start_of start Absolute = 0
start_of start Code = start.code
start_of start Data = start.data_start
start_of start Stack = 0

abbrev pub displacement_in : Linked → Segment → ℕ
displacement_in linked segment = start_of linked.start segment

-- where the pieces of each module begin
abbrev pub starts_of : List ObjectModule → List Start
starts_of objects = map (λ (one : Linked). one.start) (linked_modules objects)

-- where the piece of a segment of the module with this number begins
abbrev pub start_in : List Start → (number : ℕ) → Segment → ℕ
start_in starts number segment = option_map_or (λ start. start_of start segment) (slice_get starts number) 0

abbrev pub public_moved : Linked → Public → Public
public_moved linked public =
    record public { offset = (public.offset + displacement_in linked public.segment) % MEMORY_SIZE }

abbrev pub publics_moved : Linked → List Public
publics_moved linked = map (public_moved linked) (linked.object).publics

-- the publics of the merge, module by module
abbrev pub all_publics : List Linked → List Public
all_publics linked = flat_map publics_moved linked

-- the public with a name
abbrev pub public_named : List Public → (name : List ℕ) → Option Public
public_named publics name = find (λ (public : Public). bytes_eq name public.name) publics

-- the public that an external name of a module stands for
abbrev pub public_meant : List Public → ObjectModule → (number : ℕ) → Option Public
public_meant publics object number =
    option_and_then (public_named publics) (slice_get object.externals number)

-- the gain of a fixed place of a module: how far its target moves, or the merged address of the public
abbrev pub gain_in : List Public → Linked → Target → ℕ
gain_in publics linked (InSegment segment) = displacement_in linked segment
gain_in publics linked (External number) =
    option_map_or (λ (public : Public). public.offset) (public_meant publics linked.object number) 0

-- a place that is fixed to a public stays fixed to its segment, unless that address is absolute
abbrev pub target_of_public : Public → Option Target
target_of_public public = if is_movable public.segment then Some (InSegment public.segment) else None

abbrev pub target_kept : List Public → Linked → Target → Option Target
target_kept publics linked (InSegment segment) = Some (InSegment segment)
target_kept publics linked (External number) =
    option_and_then target_of_public (public_meant publics linked.object number)
