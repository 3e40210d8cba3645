-- A module placed in memory by a plan, or why it can't be.
use Rattle.std.specs.Prelude.{ℕ, ◌+◌, ◌-◌, ◌%◌, ◌==◌, Bool, not, ◌&&◌, ◌||◌, nat_lt, if◌then◌else◌, List, [], ◌∷◌, codes, map, slice_get, Option, None, unwrap_or, Result}
use Rattle.std.specs.List.{list_any}
use Rattle.std.specs.Option.{option_or, option_flatten, is_none}
use Rattle.mem80.specs.declared.memory.TheConstants.{MEMORY_SIZE}
use Rattle.mem80.specs.declared.range.Range.{Range}
use Rattle.mem80.specs.Range.{ranges_meet, address_past}
use Rattle.omf80.specs.Records.{first_that_holds}
use Rattle.object_modules.specs.declared.segment.Segment.{Segment}
use Rattle.object_modules.specs.declared.segment.Segment.TheVariants.{Absolute, Code, Data, Stack}
use Rattle.object_modules.specs.declared.segment.Target.{Target}
use Rattle.object_modules.specs.declared.segment.Target.TheVariants.{InSegment, External}
use Rattle.object_modules.specs.Module.{Public, ObjectModule, places_of, length_of, alignment_of, is_page}
use Rattle.object_modules.specs.Moving.{bytes_resolved, high_targets}
use Rattle.object_modules.specs.Before.{is_empty}
use Rattle.object_modules.specs.Merge.{unless_refused}

-- where code, data and stack begin, and the size of the stack, whatever the module says of that
pub record Plan : Type 0 where
  pub code_base : ℕ
  pub data_base : ℕ
  pub stack_base : ℕ
  pub stack_size : ℕ

-- why a module can't be placed
pub data PlacementRefusal : Type 0 where
  -- an external name is left
  ExternalLeft : PlacementRefusal
  -- it is not a main module
  NoStart : PlacementRefusal
  -- code, data or stack passes the end of memory
  PassesMemory : PlacementRefusal
  -- two of code, data and stack have an address in common
  SegmentsMeet : PlacementRefusal
  -- a page-aligned segment would begin within a page
  PageBroken : PlacementRefusal
  -- a high byte is fixed to a segment that would begin within a page
  HighByteBroken : PlacementRefusal

abbrev pub range_at : (base size : ℕ) → Range
range_at base size = record { start = base; len = size }

abbrev pub stack_range : Plan → Range
stack_range plan = range_at plan.stack_base plan.stack_size

-- the number of a refusal
abbrev pub placement_number : PlacementRefusal → List ℕ
placement_number ExternalLeft = codes "P3"
placement_number NoStart = codes "P4"
placement_number PassesMemory = codes "P2"
placement_number SegmentsMeet = codes "P1"
placement_number PageBroken = codes "P6"
placement_number HighByteBroken = codes "P5"

-- the origin of the offsets of a segment; for the stack the address just past it
abbrev pub base_of : Plan → Segment → ℕ
base_of plan Absolute = 0
base_of plan Code = plan.code_base
base_of plan Data = plan.data_base
base_of plan Stack = address_past (stack_range plan)

abbrev pub gain_at : Plan → Target → ℕ
gain_at plan (InSegment segment) = base_of plan segment
gain_at plan (External number) = 0

-- the bytes of a segment with all fixes applied
abbrev pub placed_bytes : Plan → ObjectModule → Segment → List (Option ℕ)
placed_bytes plan object segment = bytes_resolved (gain_at plan) (places_of object segment)

-- the byte at an address, of bytes that are placed from a base on
abbrev pub at_address : (base : ℕ) → List (Option ℕ) → (address : ℕ) → Option ℕ
at_address base bytes address =
    if nat_lt address base then None else option_flatten (slice_get bytes (address - base))

-- the byte that a placed module has at an address, if it sets one there
unfoldable pub image_at : Plan → ObjectModule → (address : ℕ) → Option ℕ
image_at plan object address =
    option_or (at_address plan.code_base (placed_bytes plan object Code) address)
    (at_address plan.data_base (placed_bytes plan object Data) address)

-- a public name with its address
pub record Symbol : Type 0 where
  pub name : List ℕ
  pub address : ℕ

abbrev pub symbol_at : Plan → Public → Symbol
symbol_at plan public = record {
  name = public.name;
  address = (public.offset + base_of plan public.segment) % MEMORY_SIZE;
}

-- a placed module
pub record Image : Type 0 where
  pub byte_at : (address : ℕ) → Option ℕ
  pub start : ℕ
  pub symbols : List Symbol

abbrev pub placed : Plan → ObjectModule → Image
placed plan object = record {
  byte_at = image_at plan object;
  start = (unwrap_or object.start 0 + plan.code_base) % MEMORY_SIZE;
  symbols = map (symbol_at plan) object.publics;
}

abbrev pub code_range : Plan → ObjectModule → Range
code_range plan object = range_at plan.code_base (length_of object Code)

abbrev pub data_range : Plan → ObjectModule → Range
data_range plan object = range_at plan.data_base (length_of object Data)

abbrev pub passes_memory : Range → Bool
passes_memory range = nat_lt MEMORY_SIZE (range.start + range.len)

-- a segment is page-aligned, and its base is not a multiple of 256
abbrev pub breaks_page : Plan → ObjectModule → Segment → Bool
breaks_page plan object segment =
    is_page (alignment_of object segment) && not (base_of plan segment % 256 == 0)

-- What can be wrong with a module at a plan, in the order in which it is judged.
abbrev pub placement_refusals : Plan → ObjectModule → List (Bool × PlacementRefusal)
placement_refusals plan object =
    (not (is_empty object.externals), ExternalLeft)
    ∷ (is_none object.start, NoStart)
    ∷ (
      passes_memory (code_range plan object) || passes_memory (data_range plan object)
          || passes_memory (stack_range plan),
      PassesMemory,
    )
    ∷ (
      ranges_meet (code_range plan object) (data_range plan object)
          || ranges_meet (code_range plan object) (stack_range plan)
          || ranges_meet (data_range plan object) (stack_range plan),
      SegmentsMeet,
    )
    ∷ (breaks_page plan object Code || breaks_page plan object Data, PageBroken)
    ∷ (list_any (λ target. not (gain_at plan target % 256 == 0)) (high_targets object), HighByteBroken)
    ∷ []

unfoldable pub placement_refusal : Plan → ObjectModule → Option PlacementRefusal
placement_refusal plan object = first_that_holds (placement_refusals plan object)

-- the image of a module at a plan
abbrev pub image_of : Plan → ObjectModule → Result Image PlacementRefusal
image_of plan object = unless_refused (placed plan object) (placement_refusal plan object)
