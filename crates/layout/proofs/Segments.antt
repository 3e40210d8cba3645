-- The segments of a module before it has its place: how long they are, and that each object and each
-- constant list has its bytes there at its slot.
use Rattle.layout.proofs.Prelude.{◌≡◌, ℕ, zero, suc, ◌+◌, ◌-◌, ◌<◌, ◌≤◌, Bool, true, false, cond, List, [], ◌∷◌, ◌++◌, length, take, replicate, flat_map, Option, Some, None, refl, ap, sym, subst, ◌∙◌, arith, not, ◌||◌, ◌==◌, sum_by, take_while, filter_map, slice_get, unwrap_or, AllByRecursion, enumerate_from, list_any, option_map_or, false≢true, eq-eqb, eqb-true, append_assoc, length-append, length-map, length-replicate, recursion_from_All, sum_by-cons, take_while-cons, none-some, slice_get_within, ConstantObject, ConstantList, ConstantItem, ByteValue, WordValue, LocationValue, InitialValue, size_of_object, object_in, list_in, constant_number, numbered_constant, numbers_from, size_of_value, bytes_filled, IsStorable, Home, InData, InConstants, Placed, BasedOn, Elsewhere, Nowhere, InFrame, TypedObject, TypedModule, size_of_constant, constant_bytes, Slot, values_in, bytes_in_data, data_bytes, is_object, is_list, slot_of_object, slot_of_list, Target, Location, Absolute, After, further_on, location_of, SegmentByte, Places, places_of_bytes, places_of_location, places_of_value, places_of_object, places_of_constant, constant_places, places_by_home, data_places, places_in, resolved, got_behind, got_in_front, or_left, or_right}
use Rattle.layout.proofs.Resolving.{set, Resolves, plain_bytes, starting_bytes, addresses, object_resolves, StandsAlone, both_alone, constant_alone, home_alone, resolved_length}

-- the bytes of a value
location_length : (location : Location) → length (places_of_location location) ≡ 2
location_length (Absolute address) = refl
location_length (After target offset) = refl

value_length :
    (locations : ℕ → Location) (value : InitialValue)
    → length (places_of_value locations value) ≡ size_of_value value
value_length locations (ByteValue byte) = refl
value_length locations (WordValue word) = refl
value_length locations (LocationValue object offset) = location_length (further_on (locations object) offset)

values_length :
    (locations : ℕ → Location) (values : List InitialValue)
    → length (flat_map (places_of_value locations) values) ≡ sum_by size_of_value values
values_length locations [] = refl
values_length locations (value ∷ values) =
    omega (
      arith,
      length-append (places_of_value locations value) (flat_map (places_of_value locations) values),
      value_length locations value,
      values_length locations values,
      sum_by-cons size_of_value value values,
    )

filled_length :
    (locations : ℕ → Location) (home : Home)
    → length (flat_map (places_of_value locations) (values_in home)) ≡ bytes_filled home
filled_length locations (InData values) = values_length locations values
filled_length locations (InConstants values) = values_length locations values
filled_length locations (Placed at) = refl
filled_length locations (BasedOn base) = refl
filled_length locations Elsewhere = refl
filled_length locations Nowhere = refl
filled_length locations (InFrame procedure) = refl

-- an object that is not filled past its end has as many bytes as it takes
pub object_length :
    (locations : ℕ → Location) (object : TypedObject)
    → bytes_filled object.home ≤ size_of_object object
    → length (places_of_object locations object) ≡ size_of_object object
object_length locations object fits =
    omega (
      arith,
      fits,
      length-append (flat_map (places_of_value locations) (values_in object.home))
          (replicate (size_of_object object - bytes_filled object.home) None),
      filled_length locations object.home,
      length-replicate {A = Option SegmentByte} (size_of_object object - bytes_filled object.home) None,
    )

abbrev IsFilled : TypedObject → Type 0
IsFilled object = bytes_filled object.home ≤ size_of_object object

-- one of many
pub of_all :
    {A : Type 0} (P : A → Type 0) (items : List A) (number : ℕ) (item : A)
    → AllByRecursion P items
    → slice_get items number ≡ Some item
    → P item
of_all P [] number item all found = absurd (none-some item found)
of_all P (first ∷ others) zero item all found =
    subst P (ap (λ (found : Option _). unwrap_or found first) found) all.0
of_all P (first ∷ others) (suc number) item all found = of_all P others number item all.1 found

-- a constant has as many bytes as it takes
by_object :
    (typed : TypedModule) (number : ℕ) (found : Option TypedObject)
    → AllByRecursion IsFilled typed.objects
    → slice_get typed.objects number ≡ found
    → length (option_map_or (places_of_object (location_of typed)) found [])
    ≡ option_map_or size_of_object found 0
by_object typed number None filled is = refl
by_object typed number (Some object) filled is =
    object_length (location_of typed) object (of_all IsFilled typed.objects number object filled is)

by_list :
    (found : Option (List ℕ))
    → length (option_map_or places_of_bytes found []) ≡ option_map_or length found 0
by_list None = refl
by_list (Some bytes) =
    length-map bytes (λ (byte : ℕ). Some (record { value = byte; target = None }))

constant_length :
    (typed : TypedModule) (item : ConstantItem)
    → AllByRecursion IsFilled typed.objects
    → length (places_of_constant typed item) ≡ size_of_constant typed item
constant_length typed (ConstantObject number) filled =
    by_object typed number (slice_get typed.objects number) filled refl
constant_length typed (ConstantList number) filled = by_list (slice_get typed.constants.lists number)

all_lengths :
    {A B : Type 0} (part : A → List B) (size : A → ℕ)
    → ((item : A) → length (part item) ≡ size item)
    → (items : List A)
    → length (flat_map part items) ≡ sum_by size items
all_lengths part size each [] = refl
all_lengths part size each (item ∷ others) =
    omega (
      arith,
      length-append (part item) (flat_map part others),
      each item,
      all_lengths part size each others,
      sum_by-cons size item others,
    )

-- the constants of a module have as many bytes as they take
pub constants_length :
    (typed : TypedModule) → IsStorable typed → length (constant_places typed) ≡ constant_bytes typed
constants_length typed storable =
    all_lengths (places_of_constant typed) (size_of_constant typed)
    (λ item. constant_length typed item (recursion_from_All IsFilled typed.objects storable.filled))
    typed.constants.items

home_length :
    (locations : ℕ → Location) (object : TypedObject) (home : Home)
    → IsFilled object
    → length (places_by_home locations object home) ≡ bytes_in_data home object
home_length locations object (InData values) filled = object_length locations object filled
home_length locations object (InConstants values) filled = refl
home_length locations object (Placed at) filled = refl
home_length locations object (BasedOn base) filled = refl
home_length locations object Elsewhere filled = refl
home_length locations object Nowhere filled = refl
home_length locations object (InFrame procedure) filled = refl

abbrev in_data : (ℕ → Location) → TypedObject → Places
in_data locations object = places_by_home locations object object.home

objects_length :
    (locations : ℕ → Location) (objects : List TypedObject)
    → AllByRecursion IsFilled objects
    → length (flat_map (in_data locations) objects) ≡ data_bytes objects
objects_length locations [] filled = refl
objects_length locations (object ∷ others) filled =
    omega (
      arith,
      length-append (in_data locations object) (flat_map (in_data locations) others),
      home_length locations object object.home filled.0,
      objects_length locations others filled.1,
      sum_by-cons (λ (object : TypedObject). bytes_in_data object.home object) object others,
    )

-- and so has its data segment
pub data_length :
    (typed : TypedModule) → IsStorable typed → length (data_places typed) ≡ data_bytes typed.objects
data_length typed storable =
    objects_length (location_of typed) typed.objects
    (recursion_from_All IsFilled typed.objects storable.filled)

-- bytes that stand among others from an offset on
pub record Holds (places : Places) (offset : ℕ) (part : Places) : Type 0 where
  pub before : Places
  pub after : Places
  pub whole : places ≡ before ++ (part ++ after)
  pub offset_is : length before ≡ offset
  -- no word reaches from before into them
  pub alone : StandsAlone before

-- so each byte of them is one of the others
pub byte_of_part :
    (places : Places) (offset : ℕ) (part : Places) (number : ℕ) (byte : Option SegmentByte)
    → Holds places offset part
    → slice_get part number ≡ Some byte
    → slice_get places (offset + number) ≡ Some byte
byte_of_part places offset part number byte holds found =
    ap (λ (all : Places). slice_get all (offset + number)) holds.whole
    ∙ ap (λ (at : ℕ). slice_get (holds.before ++ (part ++ holds.after)) (at + number)) (sym holds.offset_is)
    ∙ got_behind holds.before (part ++ holds.after) number
    ∙ got_in_front part holds.after number byte found

-- and so it is where targets have their addresses
pub held_resolved :
    (address_of : Target → ℕ) (places : Places) (offset : ℕ) (part : Places) (bytes : List (Option ℕ))
    (number : ℕ) (byte : Option ℕ)
    → Holds places offset part
    → Resolves address_of part bytes
    → slice_get bytes number ≡ Some byte
    → slice_get (resolved address_of places) (offset + number) ≡ Some byte
held_resolved address_of places offset part bytes number byte holds one found =
    ap (λ (all : Places). slice_get (resolved address_of all) (offset + number)) holds.whole
    ∙ ap (λ (all : List (Option ℕ)). slice_get all (offset + number))
    (holds.alone address_of (part ++ holds.after))
    ∙ ap (λ (at : ℕ).
    slice_get (resolved address_of holds.before ++ resolved address_of (part ++ holds.after)) (at + number))
    (sym (resolved_length address_of None holds.before ∙ holds.offset_is))
    ∙ got_behind (resolved address_of holds.before) (resolved address_of (part ++ holds.after)) number
    ∙ ap (λ (all : List (Option ℕ)). slice_get all number) (one.alone holds.after)
    ∙ got_in_front bytes (resolved address_of holds.after) number byte found

-- with other bytes in front
held_later :
    (first places : Places) (offset more : ℕ) (part : Places)
    → length first ≡ more
    → StandsAlone first
    → Holds places offset part
    → Holds (first ++ places) (more + offset) part
held_later first places offset more part first_is first_alone holds = record {
  before = first ++ holds.before;
  after = holds.after;
  whole =
      ap (λ (rest : Places). first ++ rest) holds.whole
      ∙ sym (append_assoc first holds.before (part ++ holds.after));
  offset_is = omega (arith, length-append first holds.before, first_is, holds.offset_is);
  alone = both_alone first holds.before first_alone holds.alone;
}

-- the first constant that is wanted stands after those before it
wanted_held :
    (typed : TypedModule) (wanted : ConstantItem → Bool) (part : Places)
    → AllByRecursion IsFilled typed.objects
    → ((item : ConstantItem) → wanted item ≡ true → places_of_constant typed item ≡ part)
    → (items : List ConstantItem)
    → list_any wanted items ≡ true
    → Holds (flat_map (places_of_constant typed) items)
    (sum_by (size_of_constant typed) (take_while (λ (item : ConstantItem). not (wanted item)) items)) part
wanted_held typed wanted part filled is_part [] stands = absurd (false≢true stands)
wanted_held typed wanted part filled is_part (item ∷ others) stands =
    subst (λ (passed : List ConstantItem).
    Holds (places_of_constant typed item ++ flat_map (places_of_constant typed) others)
    (sum_by (size_of_constant typed) passed) part)
    (sym (take_while-cons (λ (item : ConstantItem). not (wanted item)) item others))
    (by_test (wanted item) refl stands (wanted_held typed wanted part filled is_part others))
  where
    passed : List ConstantItem
    passed = take_while (λ (item : ConstantItem). not (wanted item)) others

    by_test :
        (is : Bool)
        → wanted item ≡ is
        → (is || list_any wanted others) ≡ true
        → (list_any wanted others ≡ true
        → Holds (flat_map (places_of_constant typed) others) (sum_by (size_of_constant typed) passed) part)
        → Holds (places_of_constant typed item ++ flat_map (places_of_constant typed) others)
        (sum_by (size_of_constant typed) (cond (not is) (item ∷ passed) [])) part
    by_test true it stands later = record {
      before = [];
      after = flat_map (places_of_constant typed) others;
      whole = ap (λ (first : Places). first ++ flat_map (places_of_constant typed) others) (is_part item it);
      offset_is = refl;
      alone = λ address_of rest. refl;
    }
    by_test false it stands later =
        subst (λ (offset : ℕ).
        Holds (places_of_constant typed item ++ flat_map (places_of_constant typed) others) offset part)
        (sym (sum_by-cons (size_of_constant typed) item passed))
        (held_later (places_of_constant typed item) (flat_map (places_of_constant typed) others)
        (sum_by (size_of_constant typed) passed) (size_of_constant typed item) part
        (constant_length typed item filled) (constant_alone typed item) (later stands))

-- an object with DATA is one of the constants, and so is a list
abbrev is_listed : (number : ℕ) → List ℕ → Bool
is_listed number numbers = list_any (λ (other : ℕ). other == number) numbers

objects_listed :
    (number : ℕ) (items : List ConstantItem)
    → list_any (is_object number) items ≡ is_listed number (filter_map object_in items)
objects_listed number [] = refl
objects_listed number (ConstantObject object ∷ others) =
    ap (λ rest. (object == number) || rest) (objects_listed number others)
objects_listed number (ConstantList list ∷ others) = objects_listed number others

lists_listed :
    (number : ℕ) (items : List ConstantItem)
    → list_any (is_list number) items ≡ is_listed number (filter_map list_in items)
lists_listed number [] = refl
lists_listed number (ConstantObject object ∷ others) = lists_listed number others
lists_listed number (ConstantList list ∷ others) =
    ap (λ rest. (list == number) || rest) (lists_listed number others)

-- an object with DATA is numbered among those of a table
abbrev with_first : Option ℕ → List ℕ → List ℕ
with_first None others = others
with_first (Some number) others = number ∷ others

later_number :
    (number : ℕ) (found : Option ℕ) (others : List ℕ)
    → is_listed number others ≡ true
    → is_listed number (with_first found others) ≡ true
later_number number None others is = is
later_number number (Some first) others is = or_right (first == number) (is_listed number others) is

constant_listed :
    (number : ℕ) (object : TypedObject) (home : Home) (others : List ℕ) (values : List InitialValue)
    → home ≡ InConstants values
    → is_listed number (with_first (constant_number number home) others) ≡ true
constant_listed number object home others values is =
    subst (λ (home : Home). is_listed number (with_first (constant_number number home) others) ≡ true)
    (sym is)
    (or_left (number == number) (is_listed number others) (eq-eqb number number refl))

numbered_listed :
    (objects : List TypedObject) (first index number : ℕ) (object : TypedObject) (values : List InitialValue)
    → slice_get objects index ≡ Some object
    → object.home ≡ InConstants values
    → number ≡ first + index
    → is_listed number (filter_map numbered_constant (enumerate_from first objects)) ≡ true
numbered_listed [] first index number object values found is at = absurd (none-some object found)
numbered_listed (here ∷ others) first zero number object values found is at =
    subst (λ (number : ℕ).
    is_listed number (filter_map numbered_constant (enumerate_from first (here ∷ others))) ≡ true)
    (from at)
    (constant_listed first here here.home
    (filter_map numbered_constant (enumerate_from (first + 1) others)) values
    (ap (λ (found : Option TypedObject). (unwrap_or found here).home) found ∙ is))
  where
    from : number ≡ first + 0 → first ≡ number
    from at = omega (arith, at)
numbered_listed (here ∷ others) first (suc index) number object values found is at =
    later_number number (constant_number first here.home)
    (filter_map numbered_constant (enumerate_from (first + 1) others))
    (numbered_listed others (first + 1) index number object values found is (omega (arith, at)))

number_listed :
    (first index count number : ℕ)
    → index < count
    → number ≡ first + index
    → is_listed number (numbers_from first count) ≡ true
number_listed first index zero number below at = absurd (omega (arith, below))
number_listed first zero (suc count) number below at =
    or_left (first == number) (is_listed number (numbers_from (first + 1) count))
    (eq-eqb first number (omega (arith, at)))
number_listed first (suc index) (suc count) number below at =
    or_right (first == number) (is_listed number (numbers_from (first + 1) count))
    (number_listed (first + 1) index count number (omega (arith, below)) (omega (arith, at)))

object_stands :
    (typed : TypedModule) (number : ℕ) (object : TypedObject) (values : List InitialValue)
    → IsStorable typed
    → slice_get typed.objects number ≡ Some object
    → object.home ≡ InConstants values
    → list_any (is_object number) typed.constants.items ≡ true
object_stands typed number object values storable found is =
    objects_listed number typed.constants.items
    ∙ ap (is_listed number) storable.objects
    ∙ numbered_listed typed.objects 0 number number object values found is (omega arith)

list_stands :
    (typed : TypedModule) (number : ℕ)
    → IsStorable typed
    → number < length typed.constants.lists
    → list_any (is_list number) typed.constants.items ≡ true
list_stands typed number storable below =
    lists_listed number typed.constants.items
    ∙ ap (is_listed number) storable.lists
    ∙ number_listed 0 number (length typed.constants.lists) number below (omega arith)

-- an object with DATA has its bytes among the constants
object_part :
    (typed : TypedModule) (number : ℕ) (object : TypedObject)
    → slice_get typed.objects number ≡ Some object
    → (item : ConstantItem)
    → is_object number item ≡ true
    → places_of_constant typed item ≡ places_of_object (location_of typed) object
object_part typed number object found (ConstantObject other) same =
    ap (λ n. option_map_or (places_of_object (location_of typed)) (slice_get typed.objects n) [])
    (eqb-true other number same)
    ∙ ap (λ found. option_map_or (places_of_object (location_of typed)) found []) found
object_part typed number object found (ConstantList list) same = absurd (false≢true same)

list_part :
    (typed : TypedModule) (number : ℕ) (bytes : List ℕ)
    → slice_get typed.constants.lists number ≡ Some bytes
    → (item : ConstantItem)
    → is_list number item ≡ true
    → places_of_constant typed item ≡ places_of_bytes bytes
list_part typed number bytes found (ConstantList other) same =
    ap (λ n. option_map_or places_of_bytes (slice_get typed.constants.lists n) [])
    (eqb-true other number same)
    ∙ ap (λ found. option_map_or places_of_bytes found []) found
list_part typed number bytes found (ConstantObject object) same = absurd (false≢true same)

-- an object of the data segment has its bytes after those of the objects before it
data_part :
    (locations : ℕ → Location) (object : TypedObject) (home : Home) (values : List InitialValue)
    → home ≡ InData values
    → places_by_home locations object home ≡ places_of_object locations object
data_part locations object home values is =
    ap (λ (home : Home). places_by_home locations object home) is

data_held :
    (locations : ℕ → Location) (objects : List TypedObject) (number : ℕ) (object : TypedObject)
    (values : List InitialValue)
    → AllByRecursion IsFilled objects
    → slice_get objects number ≡ Some object
    → object.home ≡ InData values
    → Holds (flat_map (in_data locations) objects) (data_bytes (take number objects))
    (places_of_object locations object)
data_held locations [] number object values filled found is = absurd (none-some object found)
data_held locations (here ∷ others) zero object values filled found is = record {
  before = [];
  after = flat_map (in_data locations) others;
  whole =
      ap (λ (first : Places). first ++ flat_map (in_data locations) others)
      (ap (in_data locations) here_is ∙ data_part locations object object.home values is);
  offset_is = refl;
  alone = λ address_of rest. refl;
}
  where
    here_is : here ≡ object
    here_is = ap (λ (found : Option TypedObject). unwrap_or found here) found
data_held locations (here ∷ others) (suc number) object values filled found is =
    subst (λ (offset : ℕ).
    Holds (in_data locations here ++ flat_map (in_data locations) others) offset
    (places_of_object locations object))
    (sym (sum_by-cons (λ (object : TypedObject). bytes_in_data object.home object) here (take number others)))
    (held_later (in_data locations here) (flat_map (in_data locations) others)
    (data_bytes (take number others)) (bytes_in_data here.home here) (places_of_object locations object)
    (home_length locations here here.home filled.0) (home_alone locations here here.home)
    (data_held locations others number object values filled.1 found is))

-- each object with a slot has its bytes there
by_slot :
    (typed : TypedModule) (number : ℕ) (object : TypedObject) (slot : Slot) (home : Home)
    → IsStorable typed
    → slice_get typed.objects number ≡ Some object
    → object.home ≡ home
    → slot_of_object typed number object home ≡ Some slot
    → Holds (places_in typed slot.segment) slot.offset (places_of_object (location_of typed) object)
by_slot typed number object slot (InData values) storable found is slot_is =
    subst (λ (found : Option Slot).
    Holds (places_in typed (unwrap_or found slot).segment) (unwrap_or found slot).offset
    (places_of_object (location_of typed) object)) slot_is
    (data_held (location_of typed) typed.objects number object values
    (recursion_from_All IsFilled typed.objects storable.filled) found is)
by_slot typed number object slot (InConstants values) storable found is slot_is =
    subst (λ (found : Option Slot).
    Holds (places_in typed (unwrap_or found slot).segment) (unwrap_or found slot).offset
    (places_of_object (location_of typed) object)) slot_is
    (wanted_held typed (is_object number) (places_of_object (location_of typed) object)
    (recursion_from_All IsFilled typed.objects storable.filled) (object_part typed number object found)
    typed.constants.items (object_stands typed number object values storable found is))
by_slot typed number object slot (Placed at) storable found is slot_is = absurd (none-some slot slot_is)
by_slot typed number object slot (BasedOn base) storable found is slot_is = absurd (none-some slot slot_is)
by_slot typed number object slot Elsewhere storable found is slot_is = absurd (none-some slot slot_is)
by_slot typed number object slot Nowhere storable found is slot_is = absurd (none-some slot slot_is)
by_slot typed number object slot (InFrame procedure) storable found is slot_is = absurd
    (none-some slot slot_is)

pub object_held :
    (typed : TypedModule) (number : ℕ) (object : TypedObject) (slot : Slot)
    → IsStorable typed
    → slice_get typed.objects number ≡ Some object
    → slot_of_object typed number object object.home ≡ Some slot
    → Holds (places_in typed slot.segment) slot.offset (places_of_object (location_of typed) object)
object_held typed number object slot storable found slot_is =
    by_slot typed number object slot object.home storable found refl slot_is

-- and so has each constant list
pub list_held :
    (typed : TypedModule) (number : ℕ) (bytes : List ℕ)
    → IsStorable typed
    → slice_get typed.constants.lists number ≡ Some bytes
    → Holds (constant_places typed) (slot_of_list typed number bytes).offset (places_of_bytes bytes)
list_held typed number bytes storable found =
    wanted_held typed (is_list number) (places_of_bytes bytes)
    (recursion_from_All IsFilled typed.objects storable.filled) (list_part typed number bytes found)
    typed.constants.items
    (list_stands typed number storable (slice_get_within typed.constants.lists number bytes found))

-- The bytes of an object where targets have their addresses, at its slot, are those that a run starts with.
pub object_resolved :
    (address_of : Target → ℕ) (typed : TypedModule) (number : ℕ) (object : TypedObject) (slot : Slot)
    (index : ℕ) (byte : Option ℕ)
    → IsStorable typed
    → slice_get typed.objects number ≡ Some object
    → slot_of_object typed number object object.home ≡ Some slot
    → slice_get (starting_bytes (addresses address_of (location_of typed)) object) index ≡ Some byte
    → slice_get (resolved address_of (places_in typed slot.segment)) (slot.offset + index) ≡ Some byte
object_resolved address_of typed number object slot index byte storable found slot_is here =
    held_resolved address_of (places_in typed slot.segment) slot.offset
    (places_of_object (location_of typed) object)
    (starting_bytes (addresses address_of (location_of typed)) object) index byte
    (object_held typed number object slot storable found slot_is)
    (object_resolves address_of (location_of typed) object) here

-- and so are those of a constant list
pub list_resolved :
    (address_of : Target → ℕ) (typed : TypedModule) (number : ℕ) (bytes : List ℕ) (index : ℕ)
    (byte : Option ℕ)
    → IsStorable typed
    → slice_get typed.constants.lists number ≡ Some bytes
    → slice_get (set bytes) index ≡ Some byte
    → slice_get (resolved address_of (constant_places typed))
    ((slot_of_list typed number bytes).offset + index)
    ≡ Some byte
list_resolved address_of typed number bytes index byte storable found here =
    held_resolved address_of (constant_places typed) (slot_of_list typed number bytes).offset
    (places_of_bytes bytes) (set bytes) index byte (list_held typed number bytes storable found)
    (plain_bytes address_of bytes) here
