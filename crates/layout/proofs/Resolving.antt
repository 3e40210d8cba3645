-- The bytes of a segment where targets have their addresses: those that a run of the source starts with.
use Rattle.layout.proofs.Prelude.{◌≡◌, ℕ, zero, suc, ◌+◌, ◌-◌, ◌*◌, ◌/◌, ◌%◌, List, [], ◌∷◌, ◌++◌, length, map, replicate, flat_map, Option, Some, None, refl, ap, sym, ◌∙◌, arith, slice_get, option_map_or, append_assoc, MEMORY_SIZE, ConstantObject, ConstantList, ConstantItem, ByteValue, WordValue, LocationValue, InitialValue, size_of_object, bytes_filled, Home, InData, InConstants, Placed, BasedOn, Elsewhere, Nowhere, InFrame, TypedObject, TypedModule, bytes_of_word, bytes_of_value, values_in, Target, Location, Absolute, After, further_on, address_of_location, location_of, SegmentByte, Places, places_of_bytes, places_of_fixed_word, places_of_location, places_of_value, places_of_object, places_of_constant, constant_places, places_by_home, data_places, resolved_after, resolved, append-nil}

-- bytes that are set
abbrev pub set : List ℕ → List (Option ℕ)
set bytes = map (λ (byte : ℕ). Some byte) bytes

-- A part of a segment that is resolved by itself, whatever stands after it, as long as no word reaches into
-- it from before.
pub record Resolves (address_of : Target → ℕ) (part : Places) (bytes : List (Option ℕ)) : Type 0 where
  pub alone : (rest : Places) → resolved address_of (part ++ rest) ≡ bytes ++ resolved address_of rest

-- after a byte that begins no word the others are resolved as from the beginning
plain_before :
    (address_of : Target → ℕ) (value : ℕ) (rest : Places)
    → resolved_after address_of (Some (record { value = value; target = None })) rest
    ≡ resolved address_of rest
plain_before address_of value [] = refl
plain_before address_of value (None ∷ others) = refl
plain_before address_of value (Some here ∷ others) = refl

nothing : (address_of : Target → ℕ) → Resolves address_of [] []
nothing address_of = record { alone = λ rest. refl }

both :
    (address_of : Target → ℕ) (first second : Places) (bytes others : List (Option ℕ))
    → Resolves address_of first bytes
    → Resolves address_of second others
    → Resolves address_of (first ++ second) (bytes ++ others)
both address_of first second bytes others one other = record {
  alone = λ rest.
      ap (resolved address_of) (append_assoc first second rest)
      ∙ one.alone (second ++ rest)
      ∙ ap (λ (after : List (Option ℕ)). bytes ++ after) (other.alone rest)
      ∙ sym (append_assoc bytes others (resolved address_of rest));
}

all_parts :
    {A : Type 0} (address_of : Target → ℕ) (part : A → Places) (bytes : A → List (Option ℕ))
    → ((item : A) → Resolves address_of (part item) (bytes item))
    → (items : List A)
    → Resolves address_of (flat_map part items) (flat_map bytes items)
all_parts address_of part bytes each [] = nothing address_of
all_parts address_of part bytes each (item ∷ others) =
    both address_of (part item) (flat_map part others) (bytes item) (flat_map bytes others) (each item)
    (all_parts address_of part bytes each others)

-- bytes that gain nothing stay
one_byte :
    (address_of : Target → ℕ) (byte : ℕ) → Resolves address_of (places_of_bytes (byte ∷ [])) (Some byte ∷ [])
one_byte address_of byte = record {
  alone = λ rest. ap (λ (after : List (Option ℕ)). Some byte ∷ after) (plain_before address_of byte rest);
}

pub plain_bytes :
    (address_of : Target → ℕ) (bytes : List ℕ) → Resolves address_of (places_of_bytes bytes) (set bytes)
plain_bytes address_of [] = nothing address_of
plain_bytes address_of (byte ∷ bytes) =
    both address_of (places_of_bytes (byte ∷ [])) (places_of_bytes bytes) (Some byte ∷ []) (set bytes)
    (one_byte address_of byte) (plain_bytes address_of bytes)

-- nor is anything set where nothing was
unset :
    (address_of : Target → ℕ) (count : ℕ)
    → Resolves address_of (replicate count None) (replicate count None)
unset address_of zero = nothing address_of
unset address_of (suc count) = record {
  alone = λ rest. ap (λ (after : List (Option ℕ)). None ∷ after) ((unset address_of count).alone rest);
}

-- a word that gains an address
low_is : (word address : ℕ) → (word % 256 + address) % 256 ≡ (address + word) % 65536 % 256
low_is word address = omega arith

high_is :
    (word address : ℕ)
    → (word % 256 + 256 * (word / 256) + address) / 256 % 256 ≡ (address + word) % 65536 / 256
high_is word address = omega arith

fixed_word :
    (address_of : Target → ℕ) (target : Target) (word : ℕ)
    → Resolves address_of (places_of_fixed_word target word)
    (set (bytes_of_word ((address_of target + word) % MEMORY_SIZE)))
fixed_word address_of target word = record {
  alone = λ rest.
      ap (λ (low : ℕ).
      Some low
      ∷ Some ((word % 256 + 256 * (word / 256) + address_of target) / 256 % 256)
      ∷ resolved_after address_of (Some (record { value = word / 256; target = None })) rest)
      (low_is word (address_of target))
      ∙ ap (λ (high : ℕ).
      Some ((address_of target + word) % 65536 % 256) ∷ Some high
      ∷ resolved_after address_of (Some (record { value = word / 256; target = None })) rest)
      (high_is word (address_of target))
      ∙ ap (λ (after : List (Option ℕ)).
      Some ((address_of target + word) % 65536 % 256)
      ∷ Some ((address_of target + word) % 65536 / 256) ∷ after)
      (plain_before address_of (word / 256) rest);
}

location_word :
    (address_of : Target → ℕ) (location : Location)
    → Resolves address_of (places_of_location location)
    (set (bytes_of_word (address_of_location address_of location)))
location_word address_of (Absolute address) = plain_bytes address_of (bytes_of_word address)
location_word address_of (After target offset) = fixed_word address_of target offset

-- where objects lie, so much further on
pub further :
    (address_of : Target → ℕ) (location : Location) (offset : ℕ)
    → address_of_location address_of (further_on location offset)
    ≡ (address_of_location address_of location + offset) % MEMORY_SIZE
further address_of (Absolute address) offset = refl
further address_of (After target before) offset = twice (address_of target) before offset
  where
    twice :
        (address before offset : ℕ)
        → (address + (before + offset) % 65536) % 65536 ≡ ((address + before) % 65536 + offset) % 65536
    twice address before offset = omega arith

-- the addresses of objects
abbrev pub addresses : (address_of : Target → ℕ) → (locations : ℕ → Location) → (object : ℕ) → ℕ
addresses address_of locations object = address_of_location address_of (locations object)

same_bytes :
    (address_of : Target → ℕ) (part : Places) (bytes others : List (Option ℕ))
    → Resolves address_of part bytes
    → bytes ≡ others
    → Resolves address_of part others
same_bytes address_of part bytes others one is = record {
  alone = λ rest. one.alone rest ∙ ap (λ (front : List (Option ℕ)). front ++ resolved address_of rest) is;
}

value_resolves :
    (address_of : Target → ℕ) (locations : ℕ → Location) (value : InitialValue)
    → Resolves address_of (places_of_value locations value)
    (set (bytes_of_value (addresses address_of locations) value))
value_resolves address_of locations (ByteValue byte) = plain_bytes address_of (byte ∷ [])
value_resolves address_of locations (WordValue word) = plain_bytes address_of (bytes_of_word word)
value_resolves address_of locations (LocationValue object offset) =
    same_bytes address_of (places_of_location (further_on (locations object) offset))
    (set (bytes_of_word (address_of_location address_of (further_on (locations object) offset))))
    (set (bytes_of_word ((address_of_location address_of (locations object) + offset) % MEMORY_SIZE)))
    (location_word address_of (further_on (locations object) offset))
    (ap (λ (address : ℕ). set (bytes_of_word address)) (further address_of (locations object) offset))

-- the bytes of an object when a run starts, and none where nothing fills it
abbrev pub starting_bytes : (address_of : ℕ → ℕ) → TypedObject → List (Option ℕ)
starting_bytes address_of object =
    flat_map (λ (value : InitialValue). set (bytes_of_value address_of value)) (values_in object.home)
    ++ replicate (size_of_object object - bytes_filled object.home) None

pub object_resolves :
    (address_of : Target → ℕ) (locations : ℕ → Location) (object : TypedObject)
    → Resolves address_of (places_of_object locations object)
    (starting_bytes (addresses address_of locations) object)
object_resolves address_of locations object =
    both address_of (flat_map (places_of_value locations) (values_in object.home))
    (replicate (size_of_object object - bytes_filled object.home) None)
    (flat_map (λ (value : InitialValue). set (bytes_of_value (addresses address_of locations) value))
    (values_in object.home))
    (replicate (size_of_object object - bytes_filled object.home) None)
    (all_parts address_of (places_of_value locations)
    (λ (value : InitialValue). set (bytes_of_value (addresses address_of locations) value))
    (value_resolves address_of locations) (values_in object.home))
    (unset address_of (size_of_object object - bytes_filled object.home))

pub resolved_is :
    (address_of : Target → ℕ) (part : Places) (bytes : List (Option ℕ))
    → Resolves address_of part bytes
    → resolved address_of part ≡ bytes
resolved_is address_of part bytes one =
    ap (resolved address_of) (sym (append-nil part)) ∙ one.alone [] ∙ append-nil bytes

abbrev pub StandsAlone : Places → Type 0
StandsAlone part =
    (address_of : Target → ℕ) (rest : Places)
    → resolved address_of (part ++ rest) ≡ resolved address_of part ++ resolved address_of rest

pub alone_by :
    (part : Places) (bytes : (Target → ℕ) → List (Option ℕ))
    → ((address_of : Target → ℕ) → Resolves address_of part (bytes address_of))
    → StandsAlone part
alone_by part bytes each address_of rest =
    (each address_of).alone rest
    ∙ ap (λ (front : List (Option ℕ)). front ++ resolved address_of rest)
    (sym (resolved_is address_of part (bytes address_of) (each address_of)))

pub both_alone :
    (first second : Places) → StandsAlone first → StandsAlone second → StandsAlone (first ++ second)
both_alone first second one other address_of rest =
    ap (resolved address_of) (append_assoc first second rest)
    ∙ one address_of (second ++ rest)
    ∙ ap (λ (after : List (Option ℕ)). resolved address_of first ++ after) (other address_of rest)
    ∙ sym (append_assoc (resolved address_of first) (resolved address_of second) (resolved address_of rest))
    ∙ ap (λ (front : List (Option ℕ)). front ++ resolved address_of rest) (sym (one address_of second))

-- an object with DATA or a constant list when a run starts
abbrev pub starting_constant : (address_of : ℕ → ℕ) → TypedModule → ConstantItem → List (Option ℕ)
starting_constant address_of typed (ConstantObject number) =
    option_map_or (starting_bytes address_of) (slice_get typed.objects number) []
starting_constant address_of typed (ConstantList number) =
    option_map_or set (slice_get typed.constants.lists number) []

object_found :
    (address_of : Target → ℕ) (locations : ℕ → Location) (found : Option TypedObject)
    → Resolves address_of (option_map_or (places_of_object locations) found [])
    (option_map_or (starting_bytes (addresses address_of locations)) found [])
object_found address_of locations None = nothing address_of
object_found address_of locations (Some object) = object_resolves address_of locations object

list_found :
    (address_of : Target → ℕ) (found : Option (List ℕ))
    → Resolves address_of (option_map_or places_of_bytes found []) (option_map_or set found [])
list_found address_of None = nothing address_of
list_found address_of (Some bytes) = plain_bytes address_of bytes

constant_resolves :
    (address_of : Target → ℕ) (typed : TypedModule) (item : ConstantItem)
    → Resolves address_of (places_of_constant typed item)
    (starting_constant (addresses address_of (location_of typed)) typed item)
constant_resolves address_of typed (ConstantObject number) =
    object_found address_of (location_of typed) (slice_get typed.objects number)
constant_resolves address_of typed (ConstantList number) =
    list_found address_of (slice_get typed.constants.lists number)

-- The bytes that the code segment begins with, where targets have their addresses, are those of the constants
-- when a run starts, one after another.
pub constants_resolved :
    (address_of : Target → ℕ) (typed : TypedModule)
    → resolved address_of (constant_places typed)
    ≡ flat_map (starting_constant (addresses address_of (location_of typed)) typed) typed.constants.items
constants_resolved address_of typed =
    resolved_is address_of (constant_places typed)
    (flat_map (starting_constant (addresses address_of (location_of typed)) typed) typed.constants.items)
    (all_parts address_of (places_of_constant typed)
    (starting_constant (addresses address_of (location_of typed)) typed) (constant_resolves address_of typed)
    typed.constants.items)

-- what an object has in the data segment when a run starts
abbrev pub starting_by_home : (address_of : ℕ → ℕ) → TypedObject → Home → List (Option ℕ)
starting_by_home address_of object (InData values) = starting_bytes address_of object
starting_by_home address_of object home = []

home_resolves :
    (address_of : Target → ℕ) (locations : ℕ → Location) (object : TypedObject) (home : Home)
    → Resolves address_of (places_by_home locations object home)
    (starting_by_home (addresses address_of locations) object home)
home_resolves address_of locations object (InData values) = object_resolves address_of locations object
home_resolves address_of locations object (InConstants values) = nothing address_of
home_resolves address_of locations object (Placed at) = nothing address_of
home_resolves address_of locations object (BasedOn base) = nothing address_of
home_resolves address_of locations object Elsewhere = nothing address_of
home_resolves address_of locations object Nowhere = nothing address_of
home_resolves address_of locations object (InFrame procedure) = nothing address_of

-- and those of the data segment are those of its objects
pub data_resolved :
    (address_of : Target → ℕ) (typed : TypedModule)
    → resolved address_of (data_places typed)
    ≡ flat_map
    (λ (object : TypedObject). starting_by_home (addresses address_of (location_of typed)) object object.home)
    typed.objects
data_resolved address_of typed =
    resolved_is address_of (data_places typed)
    (flat_map
    (λ (object : TypedObject). starting_by_home (addresses address_of (location_of typed)) object object.home)
    typed.objects)
    (all_parts address_of
    (λ (object : TypedObject). places_by_home (location_of typed) object object.home)
    (λ (object : TypedObject). starting_by_home (addresses address_of (location_of typed)) object object.home)
    (λ object. home_resolves address_of (location_of typed) object object.home) typed.objects)

-- so each of them is resolved by itself
pub constant_alone : (typed : TypedModule) (item : ConstantItem) → StandsAlone (places_of_constant typed item)
constant_alone typed item =
    alone_by (places_of_constant typed item)
    (λ address_of. starting_constant (addresses address_of (location_of typed)) typed item)
    (λ address_of. constant_resolves address_of typed item)

pub home_alone :
    (locations : ℕ → Location) (object : TypedObject) (home : Home)
    → StandsAlone (places_by_home locations object home)
home_alone locations object home =
    alone_by (places_by_home locations object home)
    (λ address_of. starting_by_home (addresses address_of locations) object home)
    (λ address_of. home_resolves address_of locations object home)

pub resolved_length :
    (address_of : Target → ℕ) (before : Option SegmentByte) (places : Places)
    → length (resolved_after address_of before places) ≡ length places
resolved_length address_of before [] = refl
resolved_length address_of before (here ∷ others) =
    ap (λ (n : ℕ). suc n) (resolved_length address_of here others)
