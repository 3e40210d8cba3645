-- The segments in an object module of a module, and the requirements of linking and placing.
use Rattle.std.specs.Prelude.{◌≡◌, [], length}
use Rattle.object_modules.specs.declared.segment.Alignment.TheVariants.{Byte}
use Rattle.object_modules.specs.declared.segment.Segment.{Segment}
use Rattle.object_modules.specs.declared.segment.Segment.TheVariants.{Code, Data}
use Rattle.object_modules.specs.Module.{ObjectModule}
use Rattle.object_modules.specs.Moving.{high_targets}
use Rattle.typed_trees.specs.TypedTrees.{TypedModule}
use Rattle.layout.specs.declared.slot.Segment.{Segment as SlotSegment}
use Rattle.layout.specs.declared.slot.Segment.TheVariants as slots
use Rattle.layout.specs.Storage.{data_bytes}

-- An object module of a module: its data segment holds the variables, neither segment asks for a page, no
-- high byte is fixed alone, and it asks for no stack.
pub record IsObjectOf (typed : TypedModule) (object : ObjectModule) : Type 0 where
  pub code_alignment : object.code.alignment ≡ Byte
  pub data_alignment : object.data_places.alignment ≡ Byte
  pub data_size : length object.data_places.places ≡ data_bytes typed.objects
  pub highs : high_targets object ≡ []
  pub stack : object.stack_length ≡ 0

-- the segment of object modules that a segment of the storage is
abbrev pub segment_of : SlotSegment → Segment
segment_of slots.Code = Code
segment_of slots.Data = Data
