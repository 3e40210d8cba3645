-- What stands in memory where objects and constant lists lie: the bytes that INITIAL or DATA fill them with,
-- and what stood there before where nothing fills them.
use Rattle.image_laws.proofs.Prelude.{◌≡◌, ℕ, zero, suc, ◌+◌, ◌-◌, ◌%◌, ◌<◌, ◌≤◌, List, [], ◌∷◌, ◌++◌, length, flat_map, replicate, take, Option, Some, None, option_map, unwrap_or, refl, ap, sym, subst, ◌∙◌, ⊎_elim, arith, slice_get, slice_index, cases_lt, length-map, sum_by-cons, slice_get-map, get_or_from_slice_get, byte_at, InitialValue, size_of_object, bytes_filled, Home, InData, InConstants, Placed, BasedOn, Elsewhere, Nowhere, InFrame, TypedObject, TypedModule, Slot, address_of_slot, PlacingPlan, address_of_object, bytes_of_value, values_in, bytes_in_data, data_bytes, slot_of_list, slot_of_object, storage_with, set, starting_bytes, list_resolved, object_resolved, bytes_written, Image, ObjectModule, bases_of, IsInMemory, placement_of, IsLinked, placed_by, map-append, got_behind, got_in_front, got_numbered}
use Rattle.layout.specs.declared.slot.Segment.TheVariants as slots
use Rattle.layout.specs.Following.{base_of}
use Rattle.image_laws.proofs.Memory.Meanings.{bytes_meant}
use Rattle.image_laws.proofs.Memory.Modules.{address_for, in_slot, stands_there}

all_set :
    (address_of : ℕ → ℕ) (values : List InitialValue)
    → flat_map (λ (value : InitialValue). set (bytes_of_value address_of value)) values
    ≡ set (flat_map (bytes_of_value address_of) values)
all_set address_of [] = refl
all_set address_of (value ∷ values) =
    ap (λ (rest : List (Option ℕ)). set (bytes_of_value address_of value) ++ rest) (all_set address_of values)
    ∙ sym (map-append (λ (byte : ℕ). Some byte) (bytes_of_value address_of value)
    (flat_map (bytes_of_value address_of) values))

-- the bytes that fill an object, and how many they are
abbrev pub filling : (address_of : ℕ → ℕ) → TypedObject → List ℕ
filling address_of object = flat_map (bytes_of_value address_of) (values_in object.home)

-- one that is filled
pub filled_byte :
    (address_of : ℕ → ℕ) (object : TypedObject) (index byte : ℕ)
    → slice_get (filling address_of object) index ≡ Some byte
    → slice_get (starting_bytes address_of object) index ≡ Some (Some byte)
filled_byte address_of object index byte found =
    got_in_front
    (flat_map (λ (value : InitialValue). set (bytes_of_value address_of value)) (values_in object.home))
    (replicate (size_of_object object - bytes_filled object.home) None) index (Some byte)
    (ap (λ (bytes : List (Option ℕ)). slice_get bytes index) (all_set address_of (values_in object.home))
    ∙ slice_get-map (λ (byte : ℕ). Some byte) (filling address_of object) index
    ∙ ap (λ (found : Option ℕ). option_map (λ (byte : ℕ). Some byte) found) found)

-- one that is not
empty : (count number : ℕ) → number < count
    → slice_get (replicate {A = Option ℕ} count None) number ≡ Some None
empty zero number below = absurd (omega (arith, below))
empty (suc count) zero below = refl
empty (suc count) (suc number) below = empty count number (omega (arith, below))

pub empty_byte :
    (address_of : ℕ → ℕ) (object : TypedObject) (index : ℕ)
    → length (filling address_of object) ≤ index
    → index < size_of_object object
    → slice_get (starting_bytes address_of object) index ≡ Some None
empty_byte address_of object index past within =
    let some : List (Option ℕ) =
    flat_map (λ (value : InitialValue). set (bytes_of_value address_of value)) (values_in object.home) in
    let none : List (Option ℕ) = replicate (size_of_object object - bytes_filled object.home) None in
    let size : length (filling address_of object) ≡ bytes_filled object.home =
    bytes_written address_of object.home in
    let count : length some ≡ length (filling address_of object) =
    ap (λ (bytes : List (Option ℕ)). length bytes) (all_set address_of (values_in object.home))
    ∙ length-map (filling address_of object) (λ (byte : ℕ). Some byte) in
    let there : index ≡ length some + (index - length some) = omega (arith, count, past) in
    ap (slice_get (some ++ none)) there
    ∙ got_behind some none (index - length some)
    ∙ empty (size_of_object object - bytes_filled object.home) (index - length some)
    (omega (arith, size, count, past, within))

module _
    (plan : PlacingPlan) (modules : List TypedModule) (objects : List ObjectModule) (merged : ObjectModule)
    (image : Image) (before after : List ℕ)
    (is : IsInMemory plan modules objects merged image before after)
  where
    abbrev AddressOf : (number_of_module : ℕ) → TypedModule → (number : ℕ) → ℕ
    AddressOf number_of_module typed number =
        address_of_object modules (placement_of plan modules objects) number_of_module typed number

    -- a byte of an object with a slot
    pub object_byte :
        (number_of_module number : ℕ) (typed : TypedModule) (object : TypedObject) (slot : Slot) (index : ℕ)
        (byte : Option ℕ)
        → (at : IsLinked plan modules objects merged before after number_of_module typed)
        → slice_get modules number_of_module ≡ Some typed
        → slice_get typed.objects number ≡ Some object
        → slot_of_object typed number object object.home ≡ Some slot
        → slice_get (starting_bytes (AddressOf number_of_module typed) object) index ≡ Some byte
        → byte_at after (slice_index (placed_by plan at.linked typed).objects number + index)
        ≡ unwrap_or byte
        (byte_at before (slice_index (placed_by plan at.linked typed).objects number + index))
    object_byte number_of_module number typed object slot index byte at typed_is found slot_is here =
        let there =
        stands_there plan modules objects merged image before after is number_of_module typed slot.segment
        (slot.offset + index) byte at
        (object_resolved (address_for plan merged at.linked) typed number object slot index
        byte at.storable found
        slot_is
        (ap (λ (bytes : List (Option ℕ)). slice_get bytes index)
        (sym (bytes_meant plan modules objects merged image before after is number_of_module typed
        object at typed_is))
        ∙ here)) in
        let base : ℕ = base_of (bases_of plan at.linked) slot.segment in
        let slot_at =
        in_slot plan modules objects merged image before after is number_of_module number typed
        object slot at found
        slot_is in
        let low : base + (slot.offset + index) < 65536 = there.in_memory in
        let same : base + (slot.offset + index)
        ≡ slice_index (placed_by plan at.linked typed).objects number + index = omega (arith, slot_at, low) in
        subst (λ (address : ℕ). byte_at after address ≡ unwrap_or byte (byte_at before address)) same
        there.byte_is

    -- a byte of a constant list
    pub list_byte :
        (number_of_module number : ℕ) (typed : TypedModule) (bytes : List ℕ) (index byte : ℕ)
        → (at : IsLinked plan modules objects merged before after number_of_module typed)
        → slice_get typed.constants.lists number ≡ Some bytes
        → slice_get bytes index ≡ Some byte
        → byte_at after (slice_index (placed_by plan at.linked typed).lists number + index) ≡ byte
    list_byte number_of_module number typed bytes index byte at found here =
        let slot : Slot = slot_of_list typed number bytes in
        let there =
        stands_there plan modules objects merged image before after is number_of_module typed slots.Code
        (slot.offset + index) (Some byte) at
        (list_resolved (address_for plan merged at.linked) typed number bytes index
        (Some byte) at.storable found
        (slice_get-map (λ (byte : ℕ). Some byte) bytes index
        ∙ ap (λ (found : Option ℕ). option_map (λ (byte : ℕ). Some byte) found) here)) in
        let base : ℕ = (bases_of plan at.linked).code_base in
        let slot_found : slice_get (storage_with typed).lists number ≡ Some slot =
        got_numbered (λ (numbered : ℕ × List ℕ). slot_of_list typed numbered.0 numbered.1)
        typed.constants.lists 0
        number number bytes found (omega arith) in
        let slot_at : slice_index (placed_by plan at.linked typed).lists number
        ≡ (base + slot.offset) % 65536 =
        get_or_from_slice_get (placed_by plan at.linked typed).lists number
        (address_of_slot (bases_of plan at.linked) slot) 0
        (slice_get-map (address_of_slot (bases_of plan at.linked)) (storage_with typed).lists number
        ∙ ap (λ (slot : Option Slot). option_map (address_of_slot (bases_of plan at.linked)) slot)
        slot_found) in
        let low : base + (slot.offset + index) < 65536 = there.in_memory in
        let same : base + (slot.offset + index)
        ≡ slice_index (placed_by plan at.linked typed).lists number + index =
        omega (arith, slot_at, low) in
        subst (λ (address : ℕ). byte_at after address ≡ byte) same there.byte_is

-- a byte of the data segment is one of an object there
abbrev pub IsInObject : (A : Type 0) → List TypedObject → (index : ℕ) → Type 0
IsInObject A objects index =
    (number : ℕ) (object : TypedObject) (values : List InitialValue) (inside : ℕ)
    → slice_get objects number ≡ Some object
    → object.home ≡ InData values
    → inside < size_of_object object
    → index ≡ data_bytes (take number objects) + inside
    → A

pub in_an_object :
    {A : Type 0} (objects : List TypedObject) (index : ℕ)
    → index < data_bytes objects
    → IsInObject A objects index
    → A
in_an_object [] index below then_is = absurd (omega (arith, below))
in_an_object {A} (object ∷ objects) index below then_is =
    by object.home refl (λ less within told. in_an_object objects less within told)
  where
    total :
        (count : ℕ)
        → data_bytes (take (suc count) (object ∷ objects))
        ≡ bytes_in_data object.home object + data_bytes (take count objects)
    total count =
        sum_by-cons (λ (object : TypedObject). bytes_in_data object.home object) object (take count objects)

    all : data_bytes (object ∷ objects) ≡ bytes_in_data object.home object + data_bytes objects
    all = sum_by-cons (λ (object : TypedObject). bytes_in_data object.home object) object objects

    step :
        (size earlier inside sum : ℕ)
        → size ≤ index
        → index - size ≡ earlier + inside
        → sum ≡ size + earlier
        → index ≡ sum + inside
    step size earlier inside sum past same sum_is = omega (arith, past, same, sum_is)

    later :
        (size : ℕ)
        → bytes_in_data object.home object ≡ size
        → size ≤ index
        → ((less : ℕ) → less < data_bytes objects → IsInObject A objects less → A)
        → A
    later size is past rest =
        rest (index - size) (omega (arith, below, all, is, past))
        (λ number each values inside found home within same.
        then_is (suc number) each values inside found home within
        (step size (data_bytes (take number objects)) inside
        (data_bytes (take (suc number) (object ∷ objects)))
        past same (total number ∙ ap (λ (n : ℕ). n + data_bytes (take number objects)) is)))

    by :
        (home : Home)
        → object.home ≡ home
        → ((less : ℕ) → less < data_bytes objects → IsInObject A objects less → A)
        → A
    by (InData values) is rest =
        ⊎_elim (λ (within : index < size_of_object object). then_is 0 object values index refl is
        within (omega arith))
        (λ (past : size_of_object object ≤ index).
        later (size_of_object object) (ap (λ (home : Home). bytes_in_data home object) is) past rest)
        (cases_lt index (size_of_object object))
    by (InConstants values) is rest =
        later 0 (ap (λ (home : Home). bytes_in_data home object) is) (omega arith) rest
    by (Placed at) is rest = later 0 (ap (λ (home : Home). bytes_in_data home object) is) (omega arith) rest
    by (BasedOn base) is rest =
        later 0 (ap (λ (home : Home). bytes_in_data home object) is) (omega arith) rest
    by Elsewhere is rest = later 0 (ap (λ (home : Home). bytes_in_data home object) is) (omega arith) rest
    by Nowhere is rest = later 0 (ap (λ (home : Home). bytes_in_data home object) is) (omega arith) rest
    by (InFrame procedure) is rest =
        later 0 (ap (λ (home : Home). bytes_in_data home object) is) (omega arith) rest
