-- The contents of tree code are the bytes of the module's segments before it is placed.
use Rattle.treecode_laws.proofs.Prelude.{◌≡◌, ℕ, zero, suc, ◌+◌, ◌-◌, ◌<◌, ◌≤◌, Bool, true, false, List, [], ◌∷◌, ◌++◌, map, replicate, flat_map, Option, Some, None, refl, ap, sym, subst, ◌∙◌, append-nil, append_assoc, arith, nat_le, nat_lt, ◌&&◌, ◌==◌, min, All, filter_map, slice_get, sum_by, unwrap_or, if◌then◌else◌, AllByRecursion, cons_option, enumerate_from, option_map_or, eqb-true, flat_map-append, replicate-append-replicate, recursion_from_All, sum_by-cons, ConstantItem, ConstantObject, ConstantList, InitialValue, ByteValue, WordValue, LocationValue, size_of_object, object_in, numbered_constant, constant_number, size_of_value, bytes_filled, TypedHome, InData, InConstants, Placed, BasedOn, Elsewhere, Nowhere, InFrame, TypedObject, TypedModule, values_in, Location, Absolute, further_on, location_of, SegmentByte, Places, places_of_bytes, places_of_location, places_of_value, places_of_object, places_of_constant, constant_places, places_by_home, data_places, Storage, bytes_in_data, data_bytes, of_all, Content, Word, Gap, External, Home, place_from, content_of, bytes_of_value, with_gap, with_gap_if_any, with_object, constant_object, static_object, with_constant, constants_from, constants_of, variables_from, variables_of, static_place, externals_of, homes_of, home_at, location_of_place, places_of_content, places_of_contents, KeepsWord, KeepWords, IsLaidOut}
use Rattle.treecode.specs.declared.module.Content.TheVariants.{Byte}
use Rattle.treecode.specs.declared.place.Home.TheVariants as homes
use Rattle.treecode_laws.proofs.Homes.{place_further, any_lies}
use Rattle.treecode_laws.proofs.Slots.{constant_small}

-- unset bytes
abbrev unset : (count : ℕ) → Places
unset count = replicate count None

-- the offset after the first of contents
past :
    (names : List External) (first : Content) (before after : List Content) (count : ℕ)
    → places_of_contents names after ≡ places_of_contents names before ++ unset count
    → places_of_contents names (first ∷ after) ≡ places_of_contents names (first ∷ before) ++ unset count
past names first before after count is =
    ap (λ (rest : Places). places_of_content names first ++ rest) is
    ∙ sym (append_assoc (places_of_content names first) (places_of_contents names before) (unset count))

-- a gap after contents
gap_places :
    (names : List External) (before : List Content) (count : ℕ)
    → places_of_contents names (with_gap before count) ≡ places_of_contents names before ++ unset count
gap_places names [] count = append-nil (unset count)
gap_places names (Gap gap ∷ []) count = by (nat_lt 0 gap && nat_le (gap + count) 65535)
  where
    by :
        (joined : Bool)
        → places_of_contents names
        (if joined then Gap (gap + count) ∷ []
        else Gap gap ∷ Gap count ∷ [])
        ≡ (unset gap ++ []) ++ unset count
    by true =
        append-nil (unset (gap + count))
        ∙ sym (replicate-append-replicate {A = Option SegmentByte} gap count None)
        ∙ ap (λ (before : Places). before ++ unset count) (sym (append-nil (unset gap)))
    by false =
        ap (λ (after : Places). unset gap ++ after) (append-nil (unset count))
        ∙ ap (λ (before : Places). before ++ unset count) (sym (append-nil (unset gap)))
gap_places names (Byte byte ∷ others) count =
    past names (Byte byte) others (with_gap others count) count (gap_places names others count)
gap_places names (Word place ∷ others) count =
    past names (Word place) others (with_gap others count) count (gap_places names others count)
gap_places names (Gap gap ∷ next ∷ others) count =
    past names (Gap gap) (next ∷ others) (with_gap (next ∷ others) count) count
    (gap_places names (next ∷ others) count)

gap_if_any_places :
    (names : List External) (before : List Content) (count : ℕ)
    → places_of_contents names (with_gap_if_any before count) ≡ places_of_contents names before ++ unset count
gap_if_any_places names before count = by (count == 0) refl
  where
    by :
        (is : Bool)
        → (count == 0) ≡ is
        → places_of_contents names (if is then before else with_gap before count)
        ≡ places_of_contents names before ++ unset count
    by true none =
        sym (append-nil (places_of_contents names before))
        ∙ ap (λ (n : ℕ). places_of_contents names before ++ unset n) (sym (eqb-true count 0 none))
    by false some = gap_places names before count

-- a value
place_from_further :
    (names : List External) (home : Home) (offset : ℕ)
    → KeepsWord (Word (place_from home offset))
    → location_of_place names (place_from home offset)
    ≡ further_on (location_of_place names (static_place home)) offset
place_from_further names (homes.Static place) offset below = place_further names place offset
place_from_further names (homes.Based base) offset below = ap Absolute (omega (arith, below))
place_from_further names (homes.Frame variable) offset below = ap Absolute (omega (arith, below))

-- the locations of objects are those that tree code has
abbrev LieAs : List External → List Home → (locations : ℕ → Location) → Type 0
LieAs names starts locations =
    (number : ℕ) → location_of_place names (static_place (home_at starts number)) ≡ locations number

value_places :
    (names : List External) (starts : List Home) (locations : ℕ → Location)
    → LieAs names starts locations
    → (value : InitialValue)
    → KeepsWord (content_of starts value)
    → places_of_content names (content_of starts value) ≡ places_of_value locations value
value_places names starts locations lie (ByteValue byte) keeps = refl
value_places names starts locations lie (WordValue word) keeps = refl
value_places names starts locations lie (LocationValue object offset) keeps =
    ap places_of_location
    (place_from_further names (home_at starts object) offset keeps
    ∙ ap (λ (location : Location). further_on location offset) (lie object))

values_places :
    (names : List External) (starts : List Home) (locations : ℕ → Location)
    → LieAs names starts locations
    → (values : List InitialValue)
    → AllByRecursion KeepsWord (map (content_of starts) values)
    → places_of_contents names (map (content_of starts) values) ≡ flat_map (places_of_value locations) values
values_places names starts locations lie [] keep = refl
values_places names starts locations lie (value ∷ values) keep =
    ap (λ (first : Places). first ++ places_of_contents names (map (content_of starts) values))
    (value_places names starts locations lie value keep.0)
    ∙ ap (λ (rest : Places). places_of_value locations value ++ rest)
    (values_places names starts locations lie values keep.1)

-- A property of the numbers of all contents holds for those of each part.
first_keep : (one other : List Content) → KeepWords (one ++ other) → KeepWords one
first_keep [] other keep = tt
first_keep (content ∷ one) other keep = (keep.0, first_keep one other keep.1)

second_keep : (one other : List Content) → KeepWords (one ++ other) → KeepWords other
second_keep [] other keep = keep
second_keep (content ∷ one) other keep = second_keep one other keep.1

gap_keeps : (before : List Content) (count : ℕ) → KeepWords (with_gap before count) → KeepWords before
gap_keeps [] count keep = tt
gap_keeps (Gap gap ∷ []) count keep = (tt, tt)
gap_keeps (Byte byte ∷ others) count keep = (tt, gap_keeps others count keep.1)
gap_keeps (Word place ∷ others) count keep = (keep.0, gap_keeps others count keep.1)
gap_keeps (Gap gap ∷ next ∷ others) count keep = (tt, gap_keeps (next ∷ others) count keep.1)

gap_if_any_keeps : (before : List Content) (count : ℕ)
    → KeepWords (with_gap_if_any before count) → KeepWords before
gap_if_any_keeps before count = by (count == 0)
  where
    by : (none : Bool) → KeepWords (if none then before else with_gap before count) → KeepWords before
    by true keep = keep
    by false keep = gap_keeps before count keep

object_keeps :
    (starts : List Home) (object : TypedObject) (values : List InitialValue) (before : List Content)
    → KeepWords (with_object starts object values before)
    → KeepWords (before ++ map (content_of starts) values)
object_keeps starts object values before keep =
    gap_if_any_keeps (before ++ map (content_of starts) values)
    (min (min (size_of_object object) 4294967295 - sum_by bytes_of_value values) 65535) keep

static_keeps :
    (starts : List Home) (object : TypedObject) (kind : TypedHome) (before : List Content)
    → KeepWords (static_object starts object kind before)
    → KeepWords before
static_keeps starts object (InData values) before keep =
    first_keep before (map (content_of starts) values) (object_keeps starts object values before keep)
static_keeps starts object (InConstants values) before keep = keep
static_keeps starts object (Placed at) before keep = keep
static_keeps starts object (BasedOn base) before keep = keep
static_keeps starts object Elsewhere before keep = keep
static_keeps starts object Nowhere before keep = keep
static_keeps starts object (InFrame procedure) before keep = keep

variables_keep :
    (starts : List Home) (objects : List TypedObject) (before : List Content)
    → KeepWords (variables_from starts before objects)
    → KeepWords before
variables_keep starts [] before keep = keep
variables_keep starts (object ∷ others) before keep =
    static_keeps starts object object.home before
    (variables_keep starts others (static_object starts object object.home before) keep)

constant_keeps :
    (starts : List Home) (object : TypedObject) (kind : TypedHome) (before : List Content)
    → KeepWords (constant_object starts object kind before)
    → KeepWords before
constant_keeps starts object (InConstants values) before keep =
    first_keep before (map (content_of starts) values) (object_keeps starts object values before keep)
constant_keeps starts object (InData values) before keep = keep
constant_keeps starts object (Placed at) before keep = keep
constant_keeps starts object (BasedOn base) before keep = keep
constant_keeps starts object Elsewhere before keep = keep
constant_keeps starts object Nowhere before keep = keep
constant_keeps starts object (InFrame procedure) before keep = keep

item_keeps :
    (typed : TypedModule) (starts : List Home) (item : ConstantItem) (before : List Content)
    → KeepWords (with_constant typed starts item before)
    → KeepWords before
item_keeps typed starts (ConstantObject number) before = by (slice_get typed.objects number)
  where
    by : (found : Option TypedObject)
        → KeepWords
        (option_map_or (λ (object : TypedObject). constant_object starts object object.home before) found
        before)
        → KeepWords before
    by None keep = keep
    by (Some object) keep = constant_keeps starts object object.home before keep
item_keeps typed starts (ConstantList number) before = by (slice_get typed.constants.lists number)
  where
    by : (found : Option (List ℕ))
        → KeepWords (option_map_or (λ (bytes : List ℕ). before ++ map Byte bytes) found before)
        → KeepWords before
    by None keep = keep
    by (Some bytes) keep = first_keep before (map Byte bytes) keep

constants_keep :
    (typed : TypedModule) (starts : List Home) (items : List ConstantItem) (before : List Content)
    → KeepWords (constants_from typed starts before items)
    → KeepWords before
constants_keep typed starts [] before keep = keep
constants_keep typed starts (item ∷ others) before keep =
    item_keeps typed starts item before
    (constants_keep typed starts others (with_constant typed starts item before) keep)

-- values have the same size in both forms
pub same_size : (value : InitialValue) → bytes_of_value value ≡ size_of_value value
same_size (ByteValue byte) = refl
same_size (WordValue word) = refl
same_size (LocationValue object offset) = refl

pub same_sizes : (values : List InitialValue) → sum_by bytes_of_value values ≡ sum_by size_of_value values
same_sizes [] = refl
same_sizes (value ∷ values) =
    sum_by-cons bytes_of_value value values
    ∙ ap (λ (first : ℕ). first + sum_by bytes_of_value values) (same_size value)
    ∙ ap (λ (rest : ℕ). size_of_value value + rest) (same_sizes values)
    ∙ sym (sum_by-cons size_of_value value values)

-- an object no larger than a segment, with values from its start on, after contents
object_places :
    (names : List External) (starts : List Home) (locations : ℕ → Location) (object : TypedObject)
    (values : List InitialValue) (before : List Content)
    → LieAs names starts locations
    → AllByRecursion KeepsWord (map (content_of starts) values)
    → size_of_object object ≤ 65535
    → places_of_contents names (with_object starts object values before)
    ≡ places_of_contents names before
    ++ (flat_map (places_of_value locations) values
    ++ unset (size_of_object object - sum_by size_of_value values))
object_places names starts locations object values before lie keep small =
    gap_if_any_places names (before ++ map (content_of starts) values)
    (min (min (size_of_object object) 4294967295 - sum_by bytes_of_value values) 65535)
    ∙ ap (λ (first : Places).
    first ++ unset (min (min (size_of_object object) 4294967295 - sum_by bytes_of_value values) 65535))
    (flat_map-append (places_of_content names) before (map (content_of starts) values)
    ∙ ap (λ (filled : Places). places_of_contents names before ++ filled)
    (values_places names starts locations lie values keep))
    ∙ ap (λ (count : ℕ).
    (places_of_contents names before ++ flat_map (places_of_value locations) values) ++ unset count)
    (rest (size_of_object object) (sum_by bytes_of_value values) (sum_by size_of_value values)
    (same_sizes values)
    small)
    ∙ append_assoc (places_of_contents names before) (flat_map (places_of_value locations) values)
    (unset (size_of_object object - sum_by size_of_value values))
  where
    rest :
        (size bytes filled : ℕ)
        → bytes ≡ filled
        → size ≤ 65535
        → min (min size 4294967295 - bytes) 65535 ≡ size - filled
    rest size bytes filled same small = omega (arith, same, small)

-- the variables
variable_places :
    (names : List External) (starts : List Home) (locations : ℕ → Location) (object : TypedObject)
    (kind : TypedHome) (before : List Content)
    → object.home ≡ kind
    → LieAs names starts locations
    → KeepWords (static_object starts object kind before)
    → bytes_in_data kind object ≤ 65535
    → places_of_contents names (static_object starts object kind before)
    ≡ places_of_contents names before ++ places_by_home locations object kind
variable_places names starts locations object (InData values) before is lie keep small =
    object_places names starts locations object values before lie
    (second_keep before (map (content_of starts) values) (object_keeps starts object values before keep))
    small
    ∙ ap (λ (kind : TypedHome).
    places_of_contents names before
    ++ (flat_map (places_of_value locations) (values_in kind)
    ++ unset (size_of_object object - bytes_filled kind))) (sym is)
variable_places names starts locations object (InConstants values) before is lie keep small =
    sym (append-nil (places_of_contents names before))
variable_places names starts locations object (Placed at) before is lie keep small =
    sym (append-nil (places_of_contents names before))
variable_places names starts locations object (BasedOn base) before is lie keep small =
    sym (append-nil (places_of_contents names before))
variable_places names starts locations object Elsewhere before is lie keep small =
    sym (append-nil (places_of_contents names before))
variable_places names starts locations object Nowhere before is lie keep small =
    sym (append-nil (places_of_contents names before))
variable_places names starts locations object (InFrame procedure) before is lie keep small =
    sym (append-nil (places_of_contents names before))

variables_places :
    (names : List External) (starts : List Home) (locations : ℕ → Location) (objects : List TypedObject)
    (before : List Content)
    → LieAs names starts locations
    → KeepWords (variables_from starts before objects)
    → data_bytes objects ≤ 65535
    → places_of_contents names (variables_from starts before objects)
    ≡ places_of_contents names before
    ++ flat_map (λ (object : TypedObject). places_by_home locations object object.home) objects
variables_places names starts locations [] before lie keep small =
    sym (append-nil (places_of_contents names before))
variables_places names starts locations (object ∷ others) before lie keep small =
    variables_places names starts locations others (static_object starts object object.home before) lie keep
    (omega (
      arith,
      small,
      sum_by-cons (λ (object : TypedObject). bytes_in_data object.home object) object others,
    ))
    ∙ ap (λ (first : Places).
    first ++ flat_map (λ (object : TypedObject). places_by_home locations object object.home) others)
    (variable_places names starts locations object object.home before refl lie
    (variables_keep starts others (static_object starts object object.home before) keep)
    (omega (
      arith,
      small,
      sum_by-cons (λ (object : TypedObject). bytes_in_data object.home object) object others,
    )))
    ∙ append_assoc (places_of_contents names before) (places_by_home locations object object.home)
    (flat_map (λ (object : TypedObject). places_by_home locations object object.home) others)

-- The data segment of tree code has the bytes of the module's data segment.
pub data_agrees :
    (typed : TypedModule) (storage : Storage)
    → IsLaidOut typed storage
    → KeepWords (variables_of typed (homes_of typed storage))
    → places_of_contents (externals_of typed) (variables_of typed (homes_of typed storage))
    ≡ data_places typed
unfolding variables_of
data_agrees typed storage laid keep =
    variables_places (externals_of typed) (homes_of typed storage) (location_of typed) typed.objects []
    (λ number. any_lies typed storage number laid) keep
    laid.stored.data_fits

-- an object among the constants has DATA
abbrev HasData : TypedHome → Type 0
HasData (InConstants values) = Unit {0}
HasData home = ⊥

-- the object with this number, counted from a first one on, has DATA, if there is one
abbrev NumbersData : (first : ℕ) → List TypedObject → (number : ℕ) → Type 0
NumbersData first objects number =
    (first ≤ number)
    × ((index : ℕ) (object : TypedObject) → number ≡ first + index → slice_get objects index ≡ Some object
    → HasData object.home)

numbers_further :
    (first : ℕ) (here : TypedObject) (others : List TypedObject) (numbers : List ℕ)
    → AllByRecursion (NumbersData (first + 1) others) numbers
    → AllByRecursion (NumbersData first (here ∷ others)) numbers
numbers_further first here others [] all = tt
numbers_further first here others (number ∷ numbers) all = (
  (omega (arith, all.0.0), by),
  numbers_further first here others numbers all.1,
)
  where
    by :
        (index : ℕ) (object : TypedObject)
        → number ≡ first + index
        → slice_get (here ∷ others) index ≡ Some object
        → HasData object.home
    by zero object at found = absurd (omega (arith, at, all.0.0))
    by (suc index) object at found = all.0.1 index object (omega (arith, at)) found

numbers_data :
    (first : ℕ) (objects : List TypedObject)
    → AllByRecursion (NumbersData first objects) (filter_map numbered_constant (enumerate_from first objects))
numbers_data first [] = tt
numbers_data first (here ∷ others) =
    by here.home refl
    (numbers_further first here others (filter_map numbered_constant (enumerate_from (first + 1) others))
    (numbers_data (first + 1) others))
  where
    by :
        (kind : TypedHome)
        → here.home ≡ kind
        → AllByRecursion (NumbersData first (here ∷ others))
        (filter_map numbered_constant (enumerate_from (first + 1) others))
        → AllByRecursion (NumbersData first (here ∷ others))
        (cons_option (constant_number first kind)
        (filter_map numbered_constant (enumerate_from (first + 1) others)))
    by (InConstants values) is rest = ((omega arith, itself), rest)
      where
        itself :
            (index : ℕ) (object : TypedObject)
            → first ≡ first + index
            → slice_get (here ∷ others) index ≡ Some object
            → HasData object.home
        itself zero object at found =
            subst HasData
            (sym is ∙ ap (λ (found : Option TypedObject). (unwrap_or found here).home) found) tt
        itself (suc index) object at found = absurd (omega (arith, at))
    by (InData values) is rest = rest
    by (Placed at) is rest = rest
    by (BasedOn base) is rest = rest
    by Elsewhere is rest = rest
    by Nowhere is rest = rest
    by (InFrame procedure) is rest = rest

-- an item of the constants is a list, or has DATA
abbrev IsConstant : TypedModule → ConstantItem → Type 0
IsConstant typed (ConstantObject number) = NumbersData 0 typed.objects number
IsConstant typed (ConstantList number) = Unit {0}

items_constant :
    (typed : TypedModule) (items : List ConstantItem)
    → AllByRecursion (NumbersData 0 typed.objects) (filter_map object_in items)
    → AllByRecursion (IsConstant typed) items
items_constant typed [] all = tt
items_constant typed (ConstantObject number ∷ items) all = (all.0, items_constant typed items all.1)
items_constant typed (ConstantList number ∷ items) all = (tt, items_constant typed items all)

-- a constant list
list_places :
    (names : List External) (bytes : List ℕ)
    → places_of_contents names (map Byte bytes) ≡ places_of_bytes bytes
list_places names [] = refl
list_places names (byte ∷ bytes) =
    ap (λ (rest : Places). Some (record { value = byte; target = None }) ∷ rest) (list_places names bytes)

-- an object with DATA
data_object_places :
    (names : List External) (starts : List Home) (locations : ℕ → Location) (object : TypedObject)
    (kind : TypedHome) (before : List Content)
    → object.home ≡ kind
    → HasData kind
    → LieAs names starts locations
    → KeepWords (constant_object starts object kind before)
    → ((values : List InitialValue) → object.home ≡ InConstants values → size_of_object object ≤ 65535)
    → places_of_contents names (constant_object starts object kind before)
    ≡ places_of_contents names before ++ places_of_object locations object
data_object_places names starts locations object (InConstants values) before is has lie keep small =
    object_places names starts locations object values before lie
    (second_keep before (map (content_of starts) values) (object_keeps starts object values before keep))
    (small values is)
    ∙ ap (λ (kind : TypedHome).
    places_of_contents names before
    ++ (flat_map (places_of_value locations) (values_in kind)
    ++ unset (size_of_object object - bytes_filled kind))) (sym is)
data_object_places names starts locations object (InData values) before is has lie keep small = absurd has
data_object_places names starts locations object (Placed at) before is has lie keep small = absurd has
data_object_places names starts locations object (BasedOn base) before is has lie keep small = absurd has
data_object_places names starts locations object Elsewhere before is has lie keep small = absurd has
data_object_places names starts locations object Nowhere before is has lie keep small = absurd has
data_object_places names starts locations object (InFrame procedure) before is has lie keep small = absurd has

-- an item of the constants
item_places :
    (typed : TypedModule) (storage : Storage) (item : ConstantItem) (before : List Content)
    → IsLaidOut typed storage
    → KeepWords (with_constant typed (homes_of typed storage) item before)
    → IsConstant typed item
    → places_of_contents (externals_of typed) (with_constant typed (homes_of typed storage) item before)
    ≡ places_of_contents (externals_of typed) before ++ places_of_constant typed item
item_places typed storage (ConstantList number) before laid keep is =
    by (slice_get typed.constants.lists number)
  where
    by :
        (found : Option (List ℕ))
        → places_of_contents (externals_of typed)
        (option_map_or (λ (bytes : List ℕ). before ++ map Byte bytes) found before)
        ≡ places_of_contents (externals_of typed) before ++ option_map_or places_of_bytes found []
    by None = sym (append-nil (places_of_contents (externals_of typed) before))
    by (Some bytes) =
        flat_map-append (places_of_content (externals_of typed)) before (map Byte bytes)
        ∙ ap (λ (list : Places). places_of_contents (externals_of typed) before ++ list)
        (list_places (externals_of typed) bytes)
item_places typed storage (ConstantObject number) before laid keep is =
    by (slice_get typed.objects number) refl keep
  where
    by :
        (found : Option TypedObject)
        → slice_get typed.objects number ≡ found
        → KeepWords
        (option_map_or
        (λ (object : TypedObject). constant_object (homes_of typed storage) object object.home before) found
        before)
        → places_of_contents (externals_of typed)
        (option_map_or
        (λ (object : TypedObject). constant_object (homes_of typed storage) object object.home before) found
        before)
        ≡ places_of_contents (externals_of typed) before
        ++ option_map_or (places_of_object (location_of typed)) found []
    by None found keep = sym (append-nil (places_of_contents (externals_of typed) before))
    by (Some object) found keep =
        data_object_places (externals_of typed) (homes_of typed storage)
        (location_of typed) object object.home
        before refl (is.1 number object (omega arith) found) (λ n. any_lies typed storage n laid)
        keep
        (λ values home_is. constant_small typed storage number object values laid.stored found home_is)

items_places :
    (typed : TypedModule) (storage : Storage) (items : List ConstantItem) (before : List Content)
    → IsLaidOut typed storage
    → KeepWords (constants_from typed (homes_of typed storage) before items)
    → AllByRecursion (IsConstant typed) items
    → places_of_contents (externals_of typed) (constants_from typed (homes_of typed storage) before items)
    ≡ places_of_contents (externals_of typed) before ++ flat_map (places_of_constant typed) items
items_places typed storage [] before laid keep are =
    sym (append-nil (places_of_contents (externals_of typed) before))
items_places typed storage (item ∷ others) before laid keep are =
    items_places typed storage others
    (with_constant typed (homes_of typed storage) item before) laid keep are.1
    ∙ ap (λ (first : Places). first ++ flat_map (places_of_constant typed) others)
    (item_places typed storage item before laid
    (constants_keep typed (homes_of typed storage) others
    (with_constant typed (homes_of typed storage) item before)
    keep) are.0)
    ∙ append_assoc (places_of_contents (externals_of typed) before) (places_of_constant typed item)
    (flat_map (places_of_constant typed) others)

-- The constants of tree code have the bytes at the start of the module's code segment.
pub constants_agree :
    (typed : TypedModule) (storage : Storage)
    → IsLaidOut typed storage
    → KeepWords (constants_of typed (homes_of typed storage))
    → places_of_contents (externals_of typed) (constants_of typed (homes_of typed storage))
    ≡ constant_places typed
unfolding constants_of
constants_agree typed storage laid keep =
    items_places typed storage typed.constants.items [] laid keep
    (items_constant typed typed.constants.items
    (subst (AllByRecursion (NumbersData 0 typed.objects)) (sym laid.storable.objects)
    (numbers_data 0 typed.objects)))
