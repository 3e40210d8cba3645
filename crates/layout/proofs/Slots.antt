-- One pass over the objects, and one over the lists, find the slots of the storage.
use Rattle.layout.proofs.Prelude.{◌≡◌, ℕ, ◌+◌, ◌<◌, ◌≤◌, Bool, true, false, List, [], ◌∷◌, ◌++◌, length, take, map, Option, Result, Ok, Err, if◌then◌else◌, min, ap, sym, subst, refl, ◌∙◌, arith, nat_le, ◌&&◌, enumerate_from, list_all, take-append_seam, le-leb, lt-leb, leb-true, append_assoc, length-append, sum_by-append, Home, InData, InConstants, Placed, BasedOn, Elsewhere, Nowhere, InFrame, TypedObject, TypedModule, constant_bytes, Slot, Code, bytes_in_data, data_bytes, is_object, constants_before, constants_fit, fits_as_object, fits_as_list, slot_of_object, slot_of_list, Storage, storage_with, storage_of, OffsetTables, offset_in, slot_at, slots_from, list_slots_from}
use Rattle.layout.specs.declared.fault.Fault.{Fault}
use Rattle.layout.specs.declared.fault.Fault.TheVariants.{DataTooLarge, ConstantsTooLarge}
use Rattle.layout.proofs.Tables.{offsets_of_module, object_offset, list_offset}

-- a slot by what stands before an object
slot_is :
    (typed : TypedModule) (number in_data in_constants : ℕ) (object : TypedObject) (home : Home)
    → in_data ≡ data_bytes (take number typed.objects)
    → in_constants ≡ constants_before typed (is_object number)
    → slot_at in_data in_constants object home ≡ slot_of_object typed number object home
slot_is typed number in_data in_constants object (InData values) data_is constants_is =
    ap (λ offset. slot_at offset in_constants object (InData values)) data_is
slot_is typed number in_data in_constants object (InConstants values) data_is constants_is =
    ap (λ offset. slot_at in_data offset object (InConstants values)) constants_is
slot_is typed number in_data in_constants object (Placed at) data_is constants_is = refl
slot_is typed number in_data in_constants object (BasedOn base) data_is constants_is = refl
slot_is typed number in_data in_constants object Elsewhere data_is constants_is = refl
slot_is typed number in_data in_constants object Nowhere data_is constants_is = refl
slot_is typed number in_data in_constants object (InFrame procedure) data_is constants_is = refl

inside :
    {A : Type 0} (before : List A) (first : A) (others all : List A)
    → before ++ first ∷ others ≡ all
    → length before < length all
inside before first others all is =
    subst (λ whole. length before < length whole) is (omega (arith, length-append before (first ∷ others)))

pub data_push :
    (before : List TypedObject) (object : TypedObject)
    → data_bytes (before ++ object ∷ []) ≡ data_bytes before + bytes_in_data object.home object
data_push before object =
    sum_by-append (λ (object : TypedObject). bytes_in_data object.home object) before (object ∷ [])
    ∙ ap (λ n. data_bytes before + n) (from_zero (bytes_in_data object.home object))
  where
    from_zero : (n : ℕ) → 0 + n ≡ n
    from_zero n = omega arith

-- the objects from one on
slots_after :
    (typed : TypedModule) (before objects : List TypedObject) (number in_data : ℕ)
    → before ++ objects ≡ typed.objects
    → number ≡ length before
    → in_data ≡ data_bytes before
    → slots_from (offsets_of_module typed).objects (constant_bytes typed) number in_data objects
    ≡ map (λ (numbered : ℕ × TypedObject). slot_of_object typed numbered.0 numbered.1 (numbered.1).home)
    (enumerate_from number objects)
slots_after typed before [] number in_data whole number_is data_is = refl
slots_after typed before (object ∷ others) number in_data whole number_is data_is =
    ap (λ first.
    first
    ∷ slots_from (offsets_of_module typed).objects (constant_bytes typed) (number + 1)
    (in_data + bytes_in_data object.home object) others)
    (slot_is typed number in_data
    (offset_in (offsets_of_module typed).objects number (constant_bytes typed)) object object.home
    (data_is
    ∙ ap data_bytes
    (sym (ap (take number) (sym whole) ∙ ap (λ n. take n (before ++ object ∷ others)) number_is
    ∙ take-append_seam before (object ∷ others))))
    (object_offset typed number
    (subst (λ n. n < length typed.objects) (sym number_is)
    (inside before object others typed.objects whole))))
    ∙ ap (λ rest. slot_of_object typed number object object.home ∷ rest)
    (slots_after typed (before ++ object ∷ []) others (number + 1)
    (in_data + bytes_in_data object.home object)
    (append_assoc before (object ∷ []) others ∙ whole)
    (ap (λ n. n + 1) number_is ∙ sym (length-append before (object ∷ [])))
    (ap (λ n. n + bytes_in_data object.home object) data_is ∙ sym (data_push before object)))

pub slots_are :
    (typed : TypedModule)
    → slots_from (offsets_of_module typed).objects (constant_bytes typed) 0 0 typed.objects
    ≡ (storage_with typed).objects
slots_are typed = slots_after typed [] typed.objects 0 0 refl refl refl

-- the lists from one on
list_slots_after :
    (typed : TypedModule) (before lists : List (List ℕ)) (number : ℕ)
    → before ++ lists ≡ typed.constants.lists
    → number ≡ length before
    → list_slots_from (offsets_of_module typed).lists (constant_bytes typed) number lists
    ≡ map (λ (numbered : ℕ × List ℕ). slot_of_list typed numbered.0 numbered.1) (enumerate_from number lists)
list_slots_after typed before [] number whole number_is = refl
list_slots_after typed before (bytes ∷ others) number whole number_is =
    ap (λ (offset : ℕ).
    let slot : Slot = record { segment = Code; offset = offset; size = length bytes } in
    slot ∷ list_slots_from (offsets_of_module typed).lists (constant_bytes typed) (number + 1) others)
    (list_offset typed number
    (subst (λ n. n < length typed.constants.lists) (sym number_is)
    (inside before bytes others typed.constants.lists whole)))
    ∙ ap (λ rest. slot_of_list typed number bytes ∷ rest)
    (list_slots_after typed (before ++ bytes ∷ []) others (number + 1)
    (append_assoc before (bytes ∷ []) others ∙ whole)
    (ap (λ n. n + 1) number_is ∙ sym (length-append before (bytes ∷ []))))

pub list_slots_are :
    (typed : TypedModule)
    → list_slots_from (offsets_of_module typed).lists (constant_bytes typed) 0 typed.constants.lists
    ≡ (storage_with typed).lists
list_slots_are typed = list_slots_after typed [] typed.constants.lists 0 refl refl

-- the answers of a layout
pub data_too_large :
    (typed : TypedModule) (size : ℕ)
    → size ≡ min (data_bytes typed.objects) 4294967295
    → 65535 < size
    → storage_of typed ≡ Err DataTooLarge
unfolding storage_of
data_too_large typed size is large =
    ap (λ fits.
    if fits then (if constants_fit typed then Ok (storage_with typed) else Err ConstantsTooLarge)
    else Err DataTooLarge)
    (lt-leb (data_bytes typed.objects) 65535 (uncapped size (data_bytes typed.objects) is large))
  where
    uncapped : (size all : ℕ) → size ≡ min all 4294967295 → 65535 < size → 65535 < all
    uncapped size all is large = omega arith

by_constants :
    (typed : TypedModule)
    → data_bytes typed.objects ≤ 65535
    → storage_of typed ≡ if constants_fit typed then Ok (storage_with typed) else Err ConstantsTooLarge
unfolding storage_of
by_constants typed small =
    ap (λ fits.
    if fits then (if constants_fit typed then Ok (storage_with typed) else Err ConstantsTooLarge)
    else Err DataTooLarge)
    (le-leb (data_bytes typed.objects) 65535 small)

below : (all size : ℕ) → size ≡ min all 4294967295 → size ≤ 65535 → all ≤ 65535
below all size is small = omega arith

exact : (all size : ℕ) → size ≡ min all 4294967295 → size ≤ 65535 → size ≡ all
exact all size is small = omega arith

pub constants_too_large :
    (typed : TypedModule) (size : ℕ)
    → size ≡ min (data_bytes typed.objects) 4294967295
    → size ≤ 65535
    → constants_fit typed ≡ false
    → storage_of typed ≡ Err ConstantsTooLarge
constants_too_large typed size is small do_not =
    by_constants typed (below (data_bytes typed.objects) size is small)
    ∙ ap (λ fits. if fits then Ok (storage_with typed) else Err ConstantsTooLarge) do_not

-- constants that fit have at most as many bytes as a segment may have
first_of_three : (a b c : Bool) → (a && b && c) ≡ true → a ≡ true
first_of_three true b c all = refl
first_of_three false b c all = all

constants_small : (typed : TypedModule) → constants_fit typed ≡ true → constant_bytes typed ≤ 65535
constants_small typed fit =
    leb-true (constant_bytes typed) 65535
    (first_of_three (nat_le (constant_bytes typed) 65535) (list_all fits_as_object typed.objects)
    (list_all fits_as_list typed.constants.lists) fit)

pub storage_found :
    (typed : TypedModule) (tables : OffsetTables) (objects : List (Option Slot)) (lists : List Slot)
    (data_size constant_size : ℕ)
    → data_size ≡ min (data_bytes typed.objects) 4294967295
    → data_size ≤ 65535
    → true ≡ constants_fit typed
    → constant_size ≡ min (constant_bytes typed) 4294967295
    → tables ≡ offsets_of_module typed
    → objects ≡ slots_from tables.objects constant_size 0 0 typed.objects
    → lists ≡ list_slots_from tables.lists constant_size 0 typed.constants.lists
    → storage_of typed
    ≡ Ok (record {
      objects = objects;
      lists = lists;
      data_size = data_size;
      constant_size = constant_size;
    })
storage_found typed tables objects lists data_size constant_size data_is small fit constant_is told
    objects_are lists_are =
    let constant_exact : constant_size ≡ constant_bytes typed =
    uncapped constant_size (constant_bytes typed) constant_is (constants_small typed (sym fit)) in
    by_constants typed (below (data_bytes typed.objects) data_size data_is small)
    ∙ ap (λ fits. if fits then Ok (storage_with typed) else Err ConstantsTooLarge) (sym fit)
    ∙ sym (same_storage objects lists data_size constant_size (storage_with typed)
    (objects_are
    ∙ ap (λ (tables : OffsetTables). slots_from tables.objects constant_size 0 0 typed.objects) told
    ∙ ap (λ n. slots_from (offsets_of_module typed).objects n 0 0 typed.objects) constant_exact
    ∙ slots_are typed)
    (lists_are
    ∙ ap (λ (tables : OffsetTables). list_slots_from tables.lists constant_size 0 typed.constants.lists) told
    ∙ ap (λ n. list_slots_from (offsets_of_module typed).lists n 0 typed.constants.lists) constant_exact
    ∙ list_slots_are typed) (exact (data_bytes typed.objects) data_size data_is small) constant_exact)
  where
    uncapped : (size all : ℕ) → size ≡ min all 4294967295 → all ≤ 65535 → size ≡ all
    uncapped size all is short = omega arith

    same_storage :
        (objects : List (Option Slot)) (lists : List Slot) (data_size constant_size : ℕ) (storage : Storage)
        → objects ≡ storage.objects
        → lists ≡ storage.lists
        → data_size ≡ storage.data_size
        → constant_size ≡ storage.constant_size
        → ◌≡◌ {A = Result Storage Fault}
        (Ok (record {
          objects = objects;
          lists = lists;
          data_size = data_size;
          constant_size = constant_size;
        })) (Ok storage)
    same_storage objects lists data_size constant_size storage objects_are lists_are data_is constant_is =
        rw objects_are (rw lists_are (rw data_is (rw constant_is refl)))
