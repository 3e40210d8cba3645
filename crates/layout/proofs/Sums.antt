-- Sums over what is left of a list, as loops over lists of trees need them, and over the values that fill an
-- object.
use Rattle.layout.proofs.Prelude.{◌≡◌, ℕ, suc, ◌+◌, ◌<◌, ◌≤◌, List, [], ◌∷◌, length, drop, flat_map, get_or, map, min, refl, ap, sym, ◌∙◌, add-one, length-append, arith, sum_by, ◌&&◌, Vec, vec_items, list_all, drop_of_length-le, drop-cons, sum_by-cons, Object, ConstantItem, ByteValue, WordValue, LocationValue, InitialValue, size_of_value, bytes_filled, Home, InData, InConstants, TypedObject, TypedModule, object_view, size_of_constant, bytes_of_value, values_in, bytes_in_data, data_bytes, fits_as_object, fits_as_list}
use Rattle.std.proofs.Common.{Global}

-- the view of what is left of a list begins with that of the item that a loop is at
pub view_first :
    {A B : Type 0} (view : A → B) (items : List A) (i : ℕ) (item : A)
    → i < length items
    → item ≡ get_or items i item
    → map view (drop i items) ≡ view item ∷ map view (drop (i + 1) items)
view_first view items i item within is =
    ap (map view) (drop-cons items i item within)
    ∙ ap (λ first. map view (first ∷ drop (suc i) items)) (sym is)
    ∙ ap (λ n. map view (item ∷ drop n items)) (sym (add-one i))

pub left_first :
    {A : Type 0} (items : List A) (i : ℕ) (item : A)
    → i < length items
    → item ≡ get_or items i item
    → drop i items ≡ item ∷ drop (i + 1) items
left_first items i item within is =
    drop-cons items i item within
    ∙ ap (λ first. first ∷ drop (suc i) items) (sym is)
    ∙ ap (λ n. item ∷ drop n items) (sym (add-one i))

-- a sum that stops at the greatest of 32 bits
capped_more :
    (total one rest all : ℕ)
    → min (total + (one + rest)) 4294967295 ≡ all
    → min (min (total + min one 4294967295) 4294967295 + rest) 4294967295 ≡ all
capped_more total one rest all left = omega arith

pub data_more :
    (objects : List Object) (i : ℕ) (object : Object) (total all : ℕ)
    → i < length objects
    → object ≡ get_or objects i object
    → min (total + data_bytes (map object_view (drop i objects))) 4294967295 ≡ all
    → min (
    min (
    total + min (bytes_in_data (object_view object).home (object_view object)) 4294967295) 4294967295
    + data_bytes (map object_view (drop (i + 1) objects))) 4294967295
    ≡ all
data_more objects i object total all within is left =
    capped_more total (bytes_in_data (object_view object).home (object_view object))
    (data_bytes (map object_view (drop (i + 1) objects))) all
    (ap (λ bytes. min (total + bytes) 4294967295)
    (sym (ap data_bytes (view_first object_view objects i object within is)
    ∙ sum_by-cons (λ (object : TypedObject). bytes_in_data object.home object) (object_view object)
    (map object_view (drop (i + 1) objects))))
    ∙ left)

pub constants_more :
    (typed : TypedModule) (items : List ConstantItem) (i : ℕ) (item : ConstantItem) (total all : ℕ)
    → i < length items
    → item ≡ get_or items i item
    → min (total + sum_by (size_of_constant typed) (drop i items)) 4294967295 ≡ all
    → min (
    min (total + min (size_of_constant typed item) 4294967295) 4294967295
    + sum_by (size_of_constant typed) (drop (i + 1) items)) 4294967295
    ≡ all
constants_more typed items i item total all within is left =
    capped_more total (size_of_constant typed item) (sum_by (size_of_constant typed) (drop (i + 1) items)) all
    (ap (λ bytes. min (total + bytes) 4294967295)
    (sym (ap (sum_by (size_of_constant typed)) (left_first items i item within is)
    ∙ sum_by-cons (size_of_constant typed) item (drop (i + 1) items)))
    ∙ left)

-- nothing is left at the end
pub capped_end : (total rest all : ℕ) → rest ≡ 0 → total ≤ 4294967295
    → min (total + rest) 4294967295 ≡ all → total ≡ all
capped_end total rest all none capped left = omega arith

pub data_end :
    (objects : List Object) (i total all : ℕ)
    → length objects ≤ i
    → total ≤ 4294967295
    → min (total + data_bytes (map object_view (drop i objects))) 4294967295 ≡ all
    → total ≡ all
data_end objects i total all past capped left =
    capped_end total (data_bytes (map object_view (drop i objects))) all
    (ap (λ rest. data_bytes (map object_view rest)) (drop_of_length-le objects past)) capped left

pub constants_end :
    (typed : TypedModule) (items : List ConstantItem) (i total all : ℕ)
    → length items ≤ i
    → total ≤ 4294967295
    → min (total + sum_by (size_of_constant typed) (drop i items)) 4294967295 ≡ all
    → total ≡ all
constants_end typed items i total all past capped left =
    capped_end total (sum_by (size_of_constant typed) (drop i items)) all
    (ap (sum_by (size_of_constant typed)) (drop_of_length-le items past)) capped left

-- the bytes of the constants that are left, in one segment
pub constants_left :
    (typed : TypedModule) (items : List ConstantItem) (i : ℕ) (item : ConstantItem) (total : ℕ)
    → i < length items
    → item ≡ get_or items i item
    → total + sum_by (size_of_constant typed) (drop i items) ≤ 65535
    → total + size_of_constant typed item + sum_by (size_of_constant typed) (drop (i + 1) items) ≤ 65535
constants_left typed items i item total within is left =
    within_limit total (sum_by (size_of_constant typed) (drop i items)) (size_of_constant typed item)
    (sum_by (size_of_constant typed) (drop (i + 1) items)) left
    (ap (sum_by (size_of_constant typed)) (left_first items i item within is)
    ∙ sum_by-cons (size_of_constant typed) item (drop (i + 1) items))
  where
    within_limit : (total all one rest : ℕ) → total + all ≤ 65535 → all ≡ one + rest
        → total + one + rest ≤ 65535
    within_limit total all one rest fits is = omega arith

-- the objects and the lists that are left begin with the one that a loop is at
pub objects_first :
    (objects : List Object) (i : ℕ) (object : Object)
    → i < length objects
    → object ≡ get_or objects i object
    → map object_view (drop i objects) ≡ object_view object ∷ map object_view (drop (i + 1) objects)
objects_first objects i object within is = view_first object_view objects i object within is

pub lists_first :
    (lists : List (Vec ℕ Global)) (i : ℕ) (bytes : Vec ℕ Global)
    → i < length lists
    → bytes ≡ get_or lists i bytes
    → map vec_items (drop i lists) ≡ bytes.items ∷ map vec_items (drop (i + 1) lists)
lists_first lists i bytes within is = view_first vec_items lists i bytes within is

pub objects_fit_first :
    (objects : List Object) (i : ℕ) (object : Object)
    → i < length objects
    → object ≡ get_or objects i object
    → list_all fits_as_object (map object_view (drop i objects))
    ≡ (fits_as_object (object_view object)
    && list_all fits_as_object (map object_view (drop (i + 1) objects)))
objects_fit_first objects i object within is =
    ap (list_all fits_as_object) (objects_first objects i object within is)

pub lists_fit_first :
    (lists : List (Vec ℕ Global)) (i : ℕ) (bytes : Vec ℕ Global)
    → i < length lists
    → bytes ≡ get_or lists i bytes
    → list_all fits_as_list (map vec_items (drop i lists))
    ≡ (fits_as_list bytes.items && list_all fits_as_list (map vec_items (drop (i + 1) lists)))
lists_fit_first lists i bytes within is = ap (list_all fits_as_list) (lists_first lists i bytes within is)

-- INITIAL and DATA write as many bytes as the tables count
pub value_bytes : (address_of : ℕ → ℕ) (value : InitialValue)
    → length (bytes_of_value address_of value) ≡ size_of_value value
value_bytes address_of (ByteValue byte) = refl
value_bytes address_of (WordValue word) = refl
value_bytes address_of (LocationValue object offset) = refl

values_bytes : (address_of : ℕ → ℕ) (values : List InitialValue)
    → length (flat_map (bytes_of_value address_of) values) ≡ sum_by size_of_value values
values_bytes address_of [] = refl
values_bytes address_of (value ∷ values) =
    omega (
      arith,
      length-append (bytes_of_value address_of value) (flat_map (bytes_of_value address_of) values),
      value_bytes address_of value,
      values_bytes address_of values,
      sum_by-cons size_of_value value values,
    )

pub bytes_written : (address_of : ℕ → ℕ) (home : Home)
    → length (flat_map (bytes_of_value address_of) (values_in home)) ≡ bytes_filled home
bytes_written address_of (InData values) = values_bytes address_of values
bytes_written address_of (InConstants values) = values_bytes address_of values
bytes_written address_of home = refl
