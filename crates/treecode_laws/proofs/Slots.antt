-- The slots of the objects of a module in its storage.
use Rattle.treecode_laws.proofs.Prelude.{◌≡◌, ℕ, zero, suc, ◌%◌, ◌≤◌, Bool, true, false, cond, List, [], ◌∷◌, take, Option, Some, None, Ok, Err, refl, ap, sym, subst, ◌∙◌, arith, nat_le, ◌&&◌, not, slice_get, slice_index_or, sum_by, take_while, unwrap_or, if◌then◌else◌, list_all, option_map_or, leb-true, sum_by-cons, sum_by-take-le, take_while-cons, none-some, get_or_from_slice_get, ConstantItem, InitialValue, size_of_object, InConstants, TypedObject, TypedModule, size_of_constant, constant_bytes, DataTooLarge, ConstantsTooLarge, Slot, SEGMENT_LIMIT, Storage, bytes_in_data, data_bytes, bytes_in_constants, fits_as_object, fits_as_list, constants_before, is_list, slot_of_object, slot_of_list, storage_of, storage_with, offset_of_list, IsStored, and_parts, got_numbered}

pub stored :
    (typed : TypedModule) (storage : Storage) → storage_of typed ≡ Ok storage → IsStored typed storage
unfolding storage_of
stored typed storage is =
    by (nat_le (data_bytes typed.objects) SEGMENT_LIMIT) refl
    (nat_le (constant_bytes typed) SEGMENT_LIMIT) refl
    (list_all fits_as_object typed.objects) refl (list_all fits_as_list typed.constants.lists) is
  where
    by :
        (variables : Bool) → nat_le (data_bytes typed.objects) SEGMENT_LIMIT ≡ variables
        → (constants : Bool) → nat_le (constant_bytes typed) SEGMENT_LIMIT ≡ constants
        → (objects : Bool) → list_all fits_as_object typed.objects ≡ objects
        → (lists : Bool)
        → (if variables
        then (if constants && objects && lists then Ok (storage_with typed) else Err ConstantsTooLarge)
        else Err DataTooLarge)
        ≡ Ok storage
        → IsStored typed storage
    by true data_is true constants_is true objects_is true e = record {
      storage_is = cc;
      data_fits = leb-true (data_bytes typed.objects) 65535 data_is;
      constants_fit = leb-true (constant_bytes typed) 65535 constants_is;
      objects_fit = objects_is;
    }
    by true data_is true constants_is true objects_is false e = absurd (cc)
    by true data_is true constants_is false objects_is lists e = absurd (cc)
    by true data_is false constants_is objects objects_is lists e = absurd (cc)
    by false data_is constants constants_is objects objects_is lists e = absurd (cc)

-- the slot of an object in the storage
pub slot_is :
    (typed : TypedModule) (storage : Storage) (number : ℕ) (object : TypedObject)
    → IsStored typed storage
    → slice_get typed.objects number ≡ Some object
    → slice_index_or storage.objects number None ≡ slot_of_object typed number object object.home
slot_is typed storage number object is found =
    ap (λ (storage : Storage). slice_index_or storage.objects number None) is.storage_is
    ∙ get_or_from_slice_get (storage_with typed).objects number
    (slot_of_object typed number object object.home) None
    (got_numbered
    (λ (numbered : ℕ × TypedObject). slot_of_object typed numbered.0 numbered.1 (numbered.1).home)
    typed.objects 0
    number number object found (omega arith))

-- offsets are words
pub data_offset :
    (typed : TypedModule) (storage : Storage) (number : ℕ)
    → IsStored typed storage
    → data_bytes (take number typed.objects) ≤ 65535
data_offset typed storage number is =
    omega (
      arith,
      sum_by-take-le (λ (object : TypedObject). bytes_in_data object.home object) typed.objects number,
      is.data_fits,
    )

sum_before :
    (size : ConstantItem → ℕ) (passes : ConstantItem → Bool) (items : List ConstantItem)
    → sum_by size (take_while passes items) ≤ sum_by size items
sum_before size passes [] = omega arith
sum_before size passes (item ∷ others) =
    subst (λ (passed : List ConstantItem). sum_by size passed ≤ sum_by size (item ∷ others))
    (sym (take_while-cons passes item others)) (by (passes item) (sum_before size passes others))
  where
    by :
        (is : Bool)
        → sum_by size (take_while passes others) ≤ sum_by size others
        → sum_by size (cond is (item ∷ take_while passes others) []) ≤ sum_by size (item ∷ others)
    by true less =
        omega (
          arith,
          sum_by-cons size item (take_while passes others),
          sum_by-cons size item others,
          less,
        )
    by false less = omega arith

pub constant_offset :
    (typed : TypedModule) (storage : Storage) (wanted : ConstantItem → Bool)
    → IsStored typed storage
    → constants_before typed wanted ≤ 65535
constant_offset typed storage wanted is =
    omega (
      arith,
      sum_before (size_of_constant typed) (λ (item : ConstantItem). not (wanted item)) typed.constants.items,
      is.constants_fit,
    )

-- a constant list is at its slot
pub list_offset :
    (typed : TypedModule) (storage : Storage) (list : ℕ) (bytes : List ℕ)
    → IsStored typed storage
    → slice_get typed.constants.lists list ≡ Some bytes
    → offset_of_list storage list ≡ (slot_of_list typed list bytes).offset
list_offset typed storage list bytes is found =
    ap (λ (storage : Storage). offset_of_list storage list) is.storage_is
    ∙ ap (λ (found : Option Slot). option_map_or (λ (slot : Slot). slot.offset % 65536) found 0)
    (got_numbered
    (λ (numbered : ℕ × List ℕ). slot_of_list typed numbered.0 numbered.1) typed.constants.lists 0 list
    list bytes found (omega arith))
    ∙ word (constants_before typed (is_list list)) (constant_offset typed storage (is_list list) is)
  where
    word : (offset : ℕ) → offset ≤ 65535 → offset % 65536 ≡ offset
    word offset fits = omega (arith, fits)

-- an object with DATA is no larger than a segment
fits_each :
    (objects : List TypedObject) (number : ℕ) (object : TypedObject)
    → list_all fits_as_object objects ≡ true
    → slice_get objects number ≡ Some object
    → fits_as_object object ≡ true
fits_each [] number object all found = absurd (none-some object found)
fits_each (first ∷ others) zero object all found =
    subst (λ (object : TypedObject). fits_as_object object ≡ true)
    (ap (λ (found : Option TypedObject). unwrap_or found first) found)
    (and_parts (fits_as_object first) (list_all fits_as_object others) all).0
fits_each (first ∷ others) (suc number) object all found =
    fits_each others number object (and_parts (fits_as_object first) (list_all fits_as_object others) all).1
    found

pub constant_small :
    (typed : TypedModule) (storage : Storage) (number : ℕ) (object : TypedObject) (values : List InitialValue)
    → IsStored typed storage
    → slice_get typed.objects number ≡ Some object
    → object.home ≡ InConstants values
    → size_of_object object ≤ 65535
constant_small typed storage number object values is found home_is =
    leb-true (size_of_object object) 65535
    (subst (λ (home : _). nat_le (bytes_in_constants home object) 65535 ≡ true) home_is
    (fits_each typed.objects number object is.objects_fit found))
