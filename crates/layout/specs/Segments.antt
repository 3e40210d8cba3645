-- The contents of the segments of a module before it is placed in memory: where its objects lie, and the
-- bytes of its constants and of its variables. An address that is not known yet is counted from where a
-- segment of the module begins, or from what an EXTERNAL name stands for.
use Rattle.std.specs.Prelude.{ℕ, ◌+◌, ◌-◌, ◌*◌, ◌/◌, ◌%◌, List, [], ◌∷◌, ◌++◌, length, map, flat_map, replicate, Option, Some, None, option_map, slice_get}
use Rattle.std.specs.Option.{option_map_or}
use Rattle.mem80.specs.declared.memory.TheConstants.{MEMORY_SIZE}
use Rattle.typed_trees.specs.declared.parts.AtAddress.TheVariants.{AtNumber, AtObject}
use Rattle.typed_trees.specs.declared.parts.AtAddress.{AtAddress}
use Rattle.typed_trees.specs.declared.parts.ConstantItem.TheVariants.{ConstantObject, ConstantList}
use Rattle.typed_trees.specs.declared.parts.ConstantItem.{ConstantItem}
use Rattle.typed_trees.specs.declared.parts.InitialValue.TheVariants.{ByteValue, WordValue, LocationValue}
use Rattle.typed_trees.specs.declared.parts.InitialValue.{InitialValue}
use Rattle.typed_trees.specs.Sizes.{size_of_object}
use Rattle.typed_trees.specs.Storable.{bytes_filled}
use Rattle.typed_trees.specs.TypedTrees.{Home, InData, Placed, Elsewhere, TypedObject, TypedModule}
use Rattle.layout.specs.declared.slot.Segment.{Segment}
use Rattle.layout.specs.declared.slot.Segment.TheVariants.{Code, Data}
use Rattle.layout.specs.declared.slot.Slot.{Slot}
use Rattle.layout.specs.StartingMemory.{bytes_of_word, values_in}
use Rattle.layout.specs.Storage.{slot_of_object}

-- the origin of an address that is not known yet
pub data Target : Type 0 where
  -- the beginning of a segment of the module
  SegmentStart : Segment → Target
  -- what an EXTERNAL name stands for
  ExternalName : (name : List ℕ) → Target

-- where something lies before the module has its place
pub data Location : Type 0 where
  -- at a number
  Absolute : (address : ℕ) → Location
  -- an offset from a target, modulo the size of memory
  After : Target → (offset : ℕ) → Location

-- the location at a distance from another
abbrev pub further_on : Location → (distance : ℕ) → Location
further_on (Absolute address) distance = Absolute ((address + distance) % MEMORY_SIZE)
further_on (After target offset) distance = After target ((offset + distance) % MEMORY_SIZE)

-- the address of a location, where targets have theirs
abbrev pub address_of_location : (address_of : Target → ℕ) → Location → ℕ
address_of_location address_of (Absolute address) = address
address_of_location address_of (After target offset) = (address_of target + offset) % MEMORY_SIZE

-- the location of an object of a list; 0 if the list has no such object
abbrev pub location_in : List Location → (number : ℕ) → Location
location_in locations number =
    option_map_or (λ (location : Location). location) (slice_get locations number) (Absolute 0)

-- where AT puts something: at a number, or at an offset from an object before it
abbrev pub location_at : (before : List Location) → AtAddress → Location
location_at before (AtNumber address) = Absolute address
location_at before (AtObject object offset) = further_on (location_in before object) offset

-- the location of a slot; 0, which says nothing, without one
abbrev pub location_of_slot : Option Slot → Location
location_of_slot None = Absolute 0
location_of_slot (Some slot) = After (SegmentStart slot.segment) slot.offset

-- Where an object lies, by its home and by where the objects before it lie. For one that is BASED, in a frame
-- or nowhere it says nothing and is 0.
abbrev pub location_by_home :
    TypedModule → (before : List Location) → (number : ℕ) → TypedObject → Home → Location
location_by_home typed before number object (Placed at) = location_at before at
location_by_home typed before number object Elsewhere = After (ExternalName object.name) 0
location_by_home typed before number object home =
    location_of_slot (slot_of_object typed number object home)

-- the locations of objects, after those before them
abbrev pub locations_after : TypedModule → (before : List Location) → List TypedObject → List Location
locations_after typed before [] = before
locations_after typed before (object ∷ others) =
    locations_after typed
    (before ++ (location_by_home typed before (length before) object object.home ∷ [])) others

-- where the object of a number lies
abbrev pub location_of : TypedModule → (number : ℕ) → Location
location_of typed number = location_in (locations_after typed [] typed.objects) number

-- A byte that a module sets. One with a target is the low byte of a word that gains the address of the
-- target.
pub record SegmentByte : Type 0 where
  pub value : ℕ
  pub target : Option Target

-- a segment, byte by byte from its beginning on; where nothing is set memory keeps what it had
abbrev pub Places : Type 0
Places = List (Option SegmentByte)

-- bytes that are set and gain nothing
abbrev pub places_of_bytes : List ℕ → Places
places_of_bytes bytes =
    map (λ (byte : ℕ). Some (record { value = byte; target = None })) bytes

-- a word that gains the address of a target
abbrev pub places_of_fixed_word : Target → (word : ℕ) → Places
places_of_fixed_word target word =
    Some (record { value = word % 256; target = Some target })
    ∷ Some (record { value = word / 256; target = None }) ∷ []

-- the word of a location
abbrev pub places_of_location : Location → Places
places_of_location (Absolute address) = places_of_bytes (bytes_of_word address)
places_of_location (After target offset) = places_of_fixed_word target offset

-- the bytes of a value, with these locations of objects
abbrev pub places_of_value : (location_of : ℕ → Location) → InitialValue → Places
places_of_value location_of (ByteValue byte) = places_of_bytes (byte ∷ [])
places_of_value location_of (WordValue word) = places_of_bytes (bytes_of_word word)
places_of_value location_of (LocationValue object offset) =
    places_of_location (further_on (location_of object) offset)

-- the bytes of an object, which INITIAL or DATA fills from its start on
abbrev pub places_of_object : (location_of : ℕ → Location) → TypedObject → Places
places_of_object location_of object =
    flat_map (places_of_value location_of) (values_in object.home)
    ++ replicate (size_of_object object - bytes_filled object.home) None

-- an object with DATA, or a constant list
abbrev pub places_of_constant : TypedModule → ConstantItem → Places
places_of_constant typed (ConstantObject number) =
    option_map_or (places_of_object (location_of typed)) (slice_get typed.objects number) []
places_of_constant typed (ConstantList number) =
    option_map_or places_of_bytes (slice_get typed.constants.lists number) []

-- the bytes that the code segment begins with
abbrev pub constant_places : TypedModule → Places
constant_places typed = flat_map (places_of_constant typed) typed.constants.items

-- the bytes of an object in the data segment
abbrev pub places_by_home : (location_of : ℕ → Location) → TypedObject → Home → Places
places_by_home location_of object (InData values) = places_of_object location_of object
places_by_home location_of object home = []

-- the bytes of the data segment
abbrev pub data_places : TypedModule → Places
data_places typed =
    flat_map (λ (object : TypedObject). places_by_home (location_of typed) object object.home) typed.objects

-- the bytes of a segment; of the code those that it begins with
abbrev pub places_in : TypedModule → Segment → Places
places_in typed Code = constant_places typed
places_in typed Data = data_places typed

-- The value of a byte where targets have their addresses: of the low one of a word that gains an address, of
-- the high one, after the low one, and of any other as it is.
abbrev pub low_resolved : (address_of : Target → ℕ) → (value : ℕ) → Target → ℕ
low_resolved address_of value target = (value + address_of target) % 256

abbrev pub high_resolved : (address_of : Target → ℕ) → (low value : ℕ) → Target → ℕ
high_resolved address_of low value target = (low + 256 * value + address_of target) / 256 % 256

abbrev pub value_after : (address_of : Target → ℕ) → (before : Option SegmentByte) → (value : ℕ) → ℕ
value_after address_of None value = value
value_after address_of (Some low) value =
    option_map_or (high_resolved address_of low.value value) low.target value

abbrev pub value_resolved : (address_of : Target → ℕ) → (before : Option SegmentByte) → SegmentByte → ℕ
value_resolved address_of before here =
    option_map_or (low_resolved address_of here.value) here.target (value_after address_of before here.value)

-- bytes after one, where targets have their addresses; none where nothing is set
abbrev pub resolved_after :
    (address_of : Target → ℕ) → (before : Option SegmentByte) → Places → List (Option ℕ)
resolved_after address_of before [] = []
resolved_after address_of before (here ∷ others) =
    option_map (value_resolved address_of before) here ∷ resolved_after address_of here others

abbrev pub resolved : (address_of : Target → ℕ) → Places → List (Option ℕ)
resolved address_of places = resolved_after address_of None places
