-- The constants of a module take as many bytes as its objects with DATA and its constant lists, and its data
-- as many as its objects without AT and DATA.
use Rattle.measure_laws.proofs.Prelude.{◌≡◌, ℕ, suc, ◌+◌, ◌-◌, ◌≤◌, ◌==◌, Bool, true, false, ◌&&◌, min, if◌then◌else◌, nat_le, nat_lt, List, [], ◌∷◌, ◌++◌, length, map, slice_get, sum_by, Option, Some, None, refl, arith, All, option_map_or, eqb-true, sum_by-cons, ConstantItem, ConstantObject, ConstantList, InitialValue, ByteValue, WordValue, LocationValue, size_of_object, IsStorable, bytes_filled, size_of_value, TypedHome, InData, InConstants, TypedObject, TypedModule, constant_bytes, size_of_constant, bytes_in_data, data_bytes, size_of_items, Content, Word, Gap, Home, constant_object, constants_from, constants_of, content_of, bytes_of_value, with_constant, with_gap, with_gap_if_any, with_object, static_object, variables_from, variables_of, contents_items, same_sizes, holds_for_item}
use Rattle.treecode.specs.declared.module.Content.TheVariants.{Byte}
use Rattle.treecode.specs.declared.place.Place.TheVariants as places

-- the size of contents in bytes
abbrev bytes_of_content : Content → ℕ
bytes_of_content (Byte value) = 1
bytes_of_content (Word place) = 2
bytes_of_content (Gap count) = count

abbrev bytes_of_contents : List Content → ℕ
bytes_of_contents [] = 0
bytes_of_contents (first ∷ others) = bytes_of_content first + bytes_of_contents others

contents_take : (list : List Content) → size_of_items (contents_items list) ≡ bytes_of_contents list
contents_take [] = refl
contents_take (Byte value ∷ others) = omega (arith, contents_take others)
contents_take (Word (places.Number number) ∷ others) = omega (arith, contents_take others)
contents_take (Word (places.Code offset) ∷ others) = omega (arith, contents_take others)
contents_take (Word (places.Data offset) ∷ others) = omega (arith, contents_take others)
contents_take (Word (places.External offset name) ∷ others) = omega (arith, contents_take others)
contents_take (Gap count ∷ others) = omega (arith, contents_take others)

both_take : (one other : List Content)
    → bytes_of_contents (one ++ other) ≡ bytes_of_contents one + bytes_of_contents other
both_take [] other = omega arith
both_take (first ∷ one) other = omega (arith, both_take one other)

-- a gap after contents
joined_takes :
    (gap count : ℕ) (joined : Bool)
    → bytes_of_contents (if joined then Gap (gap + count) ∷ [] else Gap gap ∷ Gap count ∷ []) ≡ gap + count
joined_takes gap count true = omega arith
joined_takes gap count false = omega arith

gap_takes : (before : List Content) (count : ℕ)
    → bytes_of_contents (with_gap before count) ≡ bytes_of_contents before + count
gap_takes [] count = omega arith
gap_takes (Gap gap ∷ []) count =
    let takes = joined_takes gap count (nat_lt 0 gap && nat_le (gap + count) 65535) in omega (arith, takes)
gap_takes (Byte byte ∷ others) count = omega (arith, gap_takes others count)
gap_takes (Word place ∷ others) count = omega (arith, gap_takes others count)
gap_takes (Gap gap ∷ next ∷ others) count = omega (arith, gap_takes (next ∷ others) count)

gap_if_any_takes :
    (before : List Content) (count : ℕ)
    → bytes_of_contents (with_gap_if_any before count) ≡ bytes_of_contents before + count
gap_if_any_takes before count = by (count == 0) refl
  where
    by :
        (none : Bool) → (count == 0) ≡ none
        → bytes_of_contents (if none then before else with_gap before count)
        ≡ bytes_of_contents before + count
    by true is = let zero_is = eqb-true count 0 is in omega (arith, zero_is)
    by false is = gap_takes before count

-- the values of DATA
value_takes : (starts : List Home) (value : InitialValue)
    → bytes_of_content (content_of starts value) ≡ size_of_value value
value_takes starts (ByteValue byte) = refl
value_takes starts (WordValue word) = refl
value_takes starts (LocationValue object offset) = refl

values_take :
    (starts : List Home) (values : List InitialValue)
    → bytes_of_contents (map (content_of starts) values) ≡ sum_by size_of_value values
values_take starts [] = refl
values_take starts (value ∷ values) =
    omega (arith, value_takes starts value, values_take starts values, sum_by-cons size_of_value value values)

-- an object with DATA; its values fill no more bytes than it has
object_takes :
    (starts : List Home) (object : TypedObject) (values : List InitialValue) (before : List Content)
    → sum_by size_of_value values ≤ size_of_object object
    → bytes_of_contents (with_object starts object values before)
    ≤ bytes_of_contents before + size_of_object object
object_takes starts object values before filled =
    let filler = min (min (size_of_object object) 4294967295 - sum_by bytes_of_value values) 65535 in
    let gap = gap_if_any_takes (before ++ map (content_of starts) values) filler in
    let both = both_take before (map (content_of starts) values) in
    let take = values_take starts values in
    let same = same_sizes values in
    let small =
    filler_fits (size_of_object object) (sum_by bytes_of_value values) (omega (arith, same, filled)) in
    omega (arith, gap, both, take, same, small)
  where
    filler_fits :
        (size filled_bytes : ℕ) → filled_bytes ≤ size
        → filled_bytes + min (min size 4294967295 - filled_bytes) 65535 ≤ size
    filler_fits size filled_bytes less = omega (arith, less)

constant_object_takes :
    (starts : List Home) (object : TypedObject) (home : TypedHome) (before : List Content)
    → bytes_filled home ≤ size_of_object object
    → bytes_of_contents (constant_object starts object home before)
    ≤ bytes_of_contents before + size_of_object object
constant_object_takes starts object (InConstants values) before filled =
    object_takes starts object values before filled
constant_object_takes starts object other before filled = omega arith

-- a constant list
bytes_take : (bytes : List ℕ) → bytes_of_contents (map Byte bytes) ≡ length bytes
bytes_take [] = refl
bytes_take (byte ∷ others) = omega (arith, bytes_take others)

-- one of the constants
constant_takes :
    (typed : TypedModule) (starts : List Home) (item : ConstantItem) (before : List Content)
    → IsStorable typed
    → bytes_of_contents (with_constant typed starts item before)
    ≤ bytes_of_contents before + size_of_constant typed item
constant_takes typed starts (ConstantObject number) before storable = by (slice_get typed.objects number) refl
  where
    by :
        (found : Option TypedObject) → slice_get typed.objects number ≡ found
        → bytes_of_contents
        (option_map_or (λ (object : TypedObject). constant_object starts object object.home before) found
        before)
        ≤ bytes_of_contents before + option_map_or size_of_object found 0
    by None is = omega arith
    by (Some object) is =
        constant_object_takes starts object object.home before
        (holds_for_item (λ (one : TypedObject). bytes_filled one.home ≤ size_of_object one)
        typed.objects number object
        storable.filled is)
constant_takes typed starts (ConstantList number) before storable =
    by (slice_get typed.constants.lists number)
  where
    by :
        (found : Option (List ℕ))
        → bytes_of_contents (option_map_or (λ (bytes : List ℕ). before ++ map Byte bytes) found before)
        ≤ bytes_of_contents before + option_map_or length found 0
    by None = omega arith
    by (Some bytes) = omega (arith, both_take before (map Byte bytes), bytes_take bytes)

constants_from_take :
    (typed : TypedModule) (starts : List Home) (list : List ConstantItem) (before : List Content)
    → IsStorable typed
    → bytes_of_contents (constants_from typed starts before list)
    ≤ bytes_of_contents before + sum_by (size_of_constant typed) list
constants_from_take typed starts [] before storable = omega arith
constants_from_take typed starts (item ∷ others) before storable =
    omega (
      arith,
      constant_takes typed starts item before storable,
      constants_from_take typed starts others (with_constant typed starts item before) storable,
      sum_by-cons (size_of_constant typed) item others,
    )

pub constants_fit :
    (typed : TypedModule) (starts : List Home)
    → IsStorable typed
    → size_of_items (contents_items (constants_of typed starts)) ≤ constant_bytes typed
unfolding constants_of
constants_fit typed starts storable =
    omega (
      arith,
      contents_take (constants_from typed starts [] typed.constants.items),
      constants_from_take typed starts typed.constants.items [] storable,
    )

-- an object without AT and DATA
static_object_takes :
    (starts : List Home) (object : TypedObject) (home : TypedHome) (before : List Content)
    → bytes_filled home ≤ size_of_object object
    → bytes_of_contents (static_object starts object home before)
    ≤ bytes_of_contents before + bytes_in_data home object
static_object_takes starts object (InData values) before filled =
    object_takes starts object values before filled
static_object_takes starts object other before filled = omega arith

variables_from_take :
    (starts : List Home) (objects : List TypedObject) (before : List Content)
    → All (λ (one : TypedObject). bytes_filled one.home ≤ size_of_object one) objects
    → bytes_of_contents (variables_from starts before objects) ≤ bytes_of_contents before + data_bytes objects
variables_from_take starts [] before filled = omega arith
variables_from_take starts (object ∷ others) before filled =
    omega (
      arith,
      static_object_takes starts object object.home before (filled 0 object (omega arith)),
      variables_from_take starts others (static_object starts object object.home before)
          (λ i d below. filled (suc i) d (omega (arith, below))),
      sum_by-cons (λ (one : TypedObject). bytes_in_data one.home one) object others,
    )

pub variables_fit :
    (typed : TypedModule) (starts : List Home)
    → IsStorable typed
    → size_of_items (contents_items (variables_of typed starts)) ≤ data_bytes typed.objects
unfolding variables_of
variables_fit typed starts storable =
    omega (
      arith,
      contents_take (variables_from starts [] typed.objects),
      variables_from_take starts typed.objects [] storable.filled,
    )
