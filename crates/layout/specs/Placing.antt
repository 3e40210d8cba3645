-- The placement of a joined program that a plan gives, and why a program can't be placed by it. CODE holds
-- the code segments of the modules one after another, DATA their data segments.
use Rattle.std.specs.Prelude.{ℕ, ◌+◌, min, max, Bool, true, false, ◌&&◌, ◌||◌, List, [], ◌∷◌, ◌++◌, map, flat_map, zip, find, sum, sum_by, Option, Some, None, option_map, nat_lt, if◌then◌else◌}
use Rattle.std.specs.Option.{option_or}
use Rattle.mem80.specs.declared.memory.TheConstants.{MEMORY_SIZE}
use Rattle.mem80.specs.declared.range.Range.{Range}
use Rattle.typed_trees.specs.TypedTrees.{Home, Placed, TypedObject, TypedModule}
use Rattle.typed_trees.specs.Sizes.{size_of_object}
use Rattle.layout.specs.declared.slot.Slot.{Slot}
use Rattle.layout.specs.declared.slot.TheConstants.{SEGMENT_LIMIT}
use Rattle.layout.specs.Storage.{Storage, data_bytes, storage_with}
use Rattle.layout.specs.Placement.{ModulePlacement, Placement, range_of, address_at}
use Rattle.layout.specs.Following.{Bases, address_of_slot}

-- where CODE, DATA and STACK begin, and how many bytes STACK has
pub record Plan : Type 0 where
  pub code_base : ℕ
  pub data_base : ℕ
  pub stack_base : ℕ
  pub stack_size : ℕ

-- the ranges of a program, with a code segment of a given length for each module, its constants first
abbrev pub code_range : Plan → (code_lengths : List ℕ) → Range
code_range plan code_lengths = range_of plan.code_base (sum code_lengths)

abbrev pub data_range : Plan → List TypedModule → Range
data_range plan modules =
    range_of plan.data_base (sum_by (λ (typed : TypedModule). data_bytes typed.objects) modules)

abbrev pub stack_range : Plan → Range
stack_range plan = range_of plan.stack_base plan.stack_size

-- where the segments of each module begin, from the first on
abbrev pub bases_from : (code_base data_base : ℕ) → List TypedModule → (code_lengths : List ℕ) → List Bases
bases_from code_base data_base (typed ∷ others) (length ∷ lengths) =
    record { code_base = code_base; data_base = data_base }
    ∷ bases_from (code_base + length) (data_base + data_bytes typed.objects) others lengths
bases_from code_base data_base modules code_lengths = []

-- The address of an object: by its slot, or where AT says, which looks at objects before it. An object with
-- neither has no address, and 0 stands for it.
abbrev pub address_by_home : Bases → (before : List ℕ) → Option Slot → Home → ℕ
address_by_home bases before (Some slot) home = address_of_slot bases slot
address_by_home bases before None (Placed at) = address_at before at
address_by_home bases before None home = 0

-- the addresses of objects, after those before them
abbrev pub addresses_after : Bases → (before : List ℕ) → List (TypedObject × Option Slot) → List ℕ
addresses_after bases before [] = before
addresses_after bases before (object ∷ others) =
    addresses_after bases (before ++ (address_by_home bases before object.1 (object.0).home ∷ [])) others

abbrev pub module_placement_by : Bases → TypedModule → Storage → ModulePlacement
module_placement_by bases typed storage = record {
  objects = addresses_after bases [] (zip typed.objects storage.objects);
  lists = map (address_of_slot bases) storage.lists;
}

unfoldable pub placement_by : Plan → List TypedModule → (code_lengths : List ℕ) → Placement
placement_by plan modules code_lengths = record {
  modules = map
      (λ (based : TypedModule × Bases). module_placement_by based.1 based.0 (storage_with based.0))
      (zip modules (bases_from plan.code_base plan.data_base modules code_lengths));
  code = code_range plan code_lengths;
  stack = stack_range plan;
}

-- why a program can't be placed by a plan
pub data PlacingRefusal : Type 0 where
  -- CODE or DATA has more bytes than a segment may have
  SegmentTooLarge : PlacingRefusal
  -- CODE, DATA or STACK passes the end of memory
  PassesMemory : PlacingRefusal
  -- two of CODE, DATA and STACK have an address in common
  RangesOverlap : PlacingRefusal
  -- an object with AT meets CODE or STACK or passes the end of memory: with its name
  ObjectMisplaced : (name : List ℕ) → PlacingRefusal

abbrev pub passes_memory : Range → Bool
passes_memory range = nat_lt MEMORY_SIZE (range.start + range.len)

-- whether an address lies in both ranges; an empty range meets nothing
abbrev pub overlaps : Range → Range → Bool
overlaps left right =
    nat_lt (max left.start right.start) (min (left.start + left.len) (right.start + right.len))

abbrev pub segment_too_large : (code variables : Range) → Option PlacingRefusal
segment_too_large code variables =
    if nat_lt SEGMENT_LIMIT code.len || nat_lt SEGMENT_LIMIT variables.len then Some SegmentTooLarge else None

abbrev pub past_memory : (code variables stack : Range) → Option PlacingRefusal
past_memory code variables stack =
    if passes_memory code || passes_memory variables || passes_memory stack then Some PassesMemory else None

abbrev pub overlapping : (code variables stack : Range) → Option PlacingRefusal
overlapping code variables stack =
    if overlaps code variables || overlaps code stack || overlaps variables stack then Some RangesOverlap
    else None

-- whether an object, with its address, has AT and may not lie there
abbrev pub has_at : Home → Bool
has_at (Placed at) = true
has_at home = false

abbrev pub may_not_lie : (code stack object : Range) → Bool
may_not_lie code stack object = passes_memory object || overlaps object code || overlaps object stack

abbrev pub is_misplaced : (code stack : Range) → TypedObject × ℕ → Bool
is_misplaced code stack placed =
    has_at (placed.0).home && may_not_lie code stack (range_of placed.1 (size_of_object placed.0))

-- the objects of a program with their addresses, in the order of the modules and in that of each text
abbrev pub placed_objects : List TypedModule → List ModulePlacement → List (TypedObject × ℕ)
placed_objects modules placements =
    flat_map (λ (placed : TypedModule × ModulePlacement). zip (placed.0).objects (placed.1).objects)
    (zip modules placements)

abbrev pub first_misplaced : List TypedModule → Placement → Option PlacingRefusal
first_misplaced modules placement =
    option_map (λ (placed : TypedObject × ℕ). ObjectMisplaced (placed.0).name)
    (find (is_misplaced placement.code placement.stack) (placed_objects modules placement.modules))

-- the first of these that holds
unfoldable pub placing_refusal : Plan → List TypedModule → (code_lengths : List ℕ) → Option PlacingRefusal
placing_refusal plan modules code_lengths =
    option_or (segment_too_large (code_range plan code_lengths) (data_range plan modules))
    (option_or
    (past_memory (code_range plan code_lengths) (data_range plan modules) (stack_range plan))
    (option_or
    (overlapping (code_range plan code_lengths) (data_range plan modules) (stack_range plan))
    (first_misplaced modules (placement_by plan modules code_lengths))))
