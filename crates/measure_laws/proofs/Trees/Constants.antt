-- The constants of tree code take as many bytes as the objects with DATA and the constant lists of the
-- module.
use Rattle.measure_laws.proofs.Prelude.{◌≡◌, ℕ, suc, ◌+◌, ◌-◌, ◌≤◌, ◌==◌, Bool, true, false, ◌&&◌, min, if◌then◌else◌, nat_le, nat_lt, List, [], ◌∷◌, ◌++◌, length, map, slice_get, Option, Some, None, refl, sym, subst, ◌∙◌, arith, filter_map, sum_by, AllByRecursion, cons_option, enumerate_from, option_map_or, eqb-true, recursion_from_All, sum_by-append, sum_by-cons, same_Some, ConstantItem, ConstantObject, ConstantList, InitialValue, ByteValue, WordValue, LocationValue, size_of_object, IsStorable, bytes_filled, constant_number, numbered_constant, object_in, size_of_value, TypedHome, InData, InConstants, Placed, BasedOn, Elsewhere, Nowhere, InFrame, TypedObject, TypedModule, constant_bytes, size_of_constant, Storage, bytes_in_constants, Content, Word, Gap, Home, constant_object, constants_from, constants_of, content_of, bytes_of_value, with_constant, with_gap, with_gap_if_any, with_object, constant_small, size_of_content, size_of_contents, same_sizes}
use Rattle.layout.proofs.Segments.{of_all}
use Rattle.treecode.specs.declared.module.Content.TheVariants.{Byte}
use Rattle.treecode_laws.specs.internal.Laid.{IsStored}

-- a gap after contents
joined_size :
    (gap count : ℕ) (joined : Bool)
    → size_of_contents (if joined then Gap (gap + count) ∷ [] else Gap gap ∷ Gap count ∷ []) ≡ gap + count
joined_size gap count true = omega arith
joined_size gap count false = omega arith

gap_size : (before : List Content) (count : ℕ)
    → size_of_contents (with_gap before count) ≡ size_of_contents before + count
gap_size [] count = omega arith
gap_size (Gap gap ∷ []) count =
    let size = joined_size gap count (nat_lt 0 gap && nat_le (gap + count) 65535) in omega (arith, size)
gap_size (Byte byte ∷ others) count =
    omega (
      arith,
      gap_size others count,
      sum_by-cons size_of_content (Byte byte) others,
      sum_by-cons size_of_content (Byte byte) (with_gap others count),
    )
gap_size (Word place ∷ others) count =
    omega (
      arith,
      gap_size others count,
      sum_by-cons size_of_content (Word place) others,
      sum_by-cons size_of_content (Word place) (with_gap others count),
    )
gap_size (Gap gap ∷ next ∷ others) count =
    omega (
      arith,
      gap_size (next ∷ others) count,
      sum_by-cons size_of_content (Gap gap) (next ∷ others),
      sum_by-cons size_of_content (Gap gap) (with_gap (next ∷ others) count),
    )

gap_if_any_size :
    (before : List Content) (count : ℕ)
    → size_of_contents (with_gap_if_any before count) ≡ size_of_contents before + count
gap_if_any_size before count = by (count == 0) refl
  where
    by :
        (none : Bool) → (count == 0) ≡ none
        → size_of_contents (if none then before else with_gap before count) ≡ size_of_contents before + count
    by true is = let zero_is = eqb-true count 0 is in omega (arith, zero_is)
    by false is = gap_size before count

-- the values of DATA
value_size : (starts : List Home) (value : InitialValue)
    → size_of_content (content_of starts value) ≡ size_of_value value
value_size starts (ByteValue byte) = refl
value_size starts (WordValue word) = refl
value_size starts (LocationValue object offset) = refl

values_size :
    (starts : List Home) (values : List InitialValue)
    → size_of_contents (map (content_of starts) values) ≡ sum_by size_of_value values
values_size starts [] = refl
values_size starts (value ∷ values) =
    omega (
      arith,
      value_size starts value,
      values_size starts values,
      sum_by-cons size_of_value value values,
      sum_by-cons size_of_content (content_of starts value) (map (content_of starts) values),
    )

-- an object that is no larger than a segment, and not filled past its end
rest_size :
    (size filled : ℕ)
    → filled ≤ size
    → size ≤ 65535
    → filled + min (min size 4294967295 - filled) 65535 ≡ size
rest_size size filled less small = omega (arith, less, small)

object_takes :
    (starts : List Home) (object : TypedObject) (values : List InitialValue) (before : List Content)
    → sum_by size_of_value values ≤ size_of_object object
    → size_of_object object ≤ 65535
    → size_of_contents (with_object starts object values before)
    ≡ size_of_contents before + size_of_object object
object_takes starts object values before filled small =
    let same = same_sizes values in
    omega (
      arith,
      gap_if_any_size (before ++ map (content_of starts) values)
          (min (min (size_of_object object) 4294967295 - sum_by bytes_of_value values) 65535),
      sum_by-append size_of_content before (map (content_of starts) values),
      values_size starts values,
      same,
      rest_size (size_of_object object) (sum_by bytes_of_value values) (omega (arith, same, filled)) small,
    )

-- the bytes of an object of the module among the constants
constant_object_takes :
    (starts : List Home) (object : TypedObject) (home : TypedHome) (before : List Content)
    → bytes_filled home ≤ size_of_object object
    → ((values : List InitialValue) → home ≡ InConstants values → size_of_object object ≤ 65535)
    → size_of_contents (constant_object starts object home before)
    ≡ size_of_contents before + bytes_in_constants home object
constant_object_takes starts object (InConstants values) before filled small =
    object_takes starts object values before filled (small values refl)
constant_object_takes starts object other before filled small = omega arith

-- an object among the constants has all its bytes there
abbrev IsWhole : (at : ℕ → Option TypedObject) → (number : ℕ) → Type 0
IsWhole at number =
    (object : TypedObject) → at number ≡ Some object
    → bytes_in_constants object.home object ≡ size_of_object object

numbers_whole :
    (at : ℕ → Option TypedObject) (first : ℕ) (objects : List TypedObject)
    → ((index number : ℕ) (object : TypedObject) → number ≡ first + index
    → slice_get objects index ≡ Some object
    → at number ≡ Some object)
    → AllByRecursion (IsWhole at) (filter_map numbered_constant (enumerate_from first objects))
numbers_whole at first [] are = tt
numbers_whole at first (here ∷ others) are =
    by here.home refl
    (numbers_whole at (first + 1) others
    (λ index number object number_is found. are (suc index) number object (omega (arith, number_is)) found))
  where
    by :
        (home : TypedHome)
        → here.home ≡ home
        → AllByRecursion (IsWhole at) (filter_map numbered_constant (enumerate_from (first + 1) others))
        → AllByRecursion (IsWhole at)
        (cons_option (constant_number first home)
        (filter_map numbered_constant (enumerate_from (first + 1) others)))
    by (InConstants values) home_is rest = (itself, rest)
      where
        itself : IsWhole at first
        itself object found =
            subst (λ (one : TypedObject). bytes_in_constants one.home one ≡ size_of_object one)
            (same_Some here object (sym (are 0 first here (omega arith) refl) ∙ found))
            (subst (λ (home : TypedHome). bytes_in_constants home here ≡ size_of_object here) (sym home_is)
            refl)
    by (InData values) home_is rest = rest
    by (Placed address) home_is rest = rest
    by (BasedOn base) home_is rest = rest
    by Elsewhere home_is rest = rest
    by Nowhere home_is rest = rest
    by (InFrame procedure) home_is rest = rest

module _
    (typed : TypedModule) (storage : Storage) (starts : List Home) (storable : IsStorable typed)
    (stored : IsStored typed storage)
  where
    -- an object among the constants
    found_takes :
        (number : ℕ) (before : List Content) (found : Option TypedObject)
        → slice_get typed.objects number ≡ found
        → IsWhole (slice_get typed.objects) number
        → size_of_contents
        (option_map_or (λ (object : TypedObject). constant_object starts object object.home before) found
        before)
        ≡ size_of_contents before + option_map_or size_of_object found 0
    found_takes number before None is whole = omega arith
    found_takes number before (Some object) is whole =
        omega (
          arith,
          whole object is,
          constant_object_takes starts object object.home before
              (of_all (λ (one : TypedObject). bytes_filled one.home ≤ size_of_object one)
              typed.objects number object
              (recursion_from_All (λ (one : TypedObject). bytes_filled one.home ≤ size_of_object one)
              typed.objects
              storable.filled) is)
              (λ values home_is. constant_small typed storage number object values stored is home_is),
        )

    -- a constant list
    bytes_size : (bytes : List ℕ) → size_of_contents (map Byte bytes) ≡ length bytes
    bytes_size [] = refl
    bytes_size (byte ∷ others) =
        omega (arith, bytes_size others, sum_by-cons size_of_content (Byte byte) (map Byte others))

    list_takes :
        (before : List Content) (found : Option (List ℕ))
        → size_of_contents (option_map_or (λ (bytes : List ℕ). before ++ map Byte bytes) found before)
        ≡ size_of_contents before + option_map_or length found 0
    list_takes before None = omega arith
    list_takes before (Some bytes) =
        omega (arith, sum_by-append size_of_content before (map Byte bytes), bytes_size bytes)

    -- all of them
    items_take :
        (items : List ConstantItem) (before : List Content)
        → AllByRecursion (IsWhole (slice_get typed.objects)) (filter_map object_in items)
        → size_of_contents (constants_from typed starts before items)
        ≡ size_of_contents before + sum_by (size_of_constant typed) items
    items_take [] before whole = omega arith
    items_take (ConstantObject number ∷ others) before whole =
        omega (
          arith,
          found_takes number before (slice_get typed.objects number) refl whole.0,
          items_take others (with_constant typed starts (ConstantObject number) before) whole.1,
          sum_by-cons (size_of_constant typed) (ConstantObject number) others,
        )
    items_take (ConstantList number ∷ others) before whole =
        omega (
          arith,
          list_takes before (slice_get typed.constants.lists number),
          items_take others (with_constant typed starts (ConstantList number) before) whole,
          sum_by-cons (size_of_constant typed) (ConstantList number) others,
        )

    pub constants_take : size_of_contents (constants_of typed starts) ≡ constant_bytes typed
    unfolding constants_of
    constants_take =
        let whole : AllByRecursion (IsWhole (slice_get typed.objects))
        (filter_map object_in typed.constants.items) =
        subst (AllByRecursion (IsWhole (slice_get typed.objects))) (sym storable.objects)
        (numbers_whole (slice_get typed.objects) 0 typed.objects
        (λ index number object number_is found.
        subst (λ (n : ℕ). slice_get typed.objects n ≡ Some object) (omega (arith, number_is)) found)) in
        omega (arith, items_take typed.constants.items [] whole)
