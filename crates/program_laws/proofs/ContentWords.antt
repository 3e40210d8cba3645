-- What contents of tree code count from a segment or a name is a word.
use Rattle.program_laws.proofs.Prelude.{ℕ, ◌+◌, ◌-◌, Bool, true, false, List, [], ◌∷◌, ◌++◌, map, Option, Some, None, min, arith, nat_le, nat_lt, ◌&&◌, ◌==◌, slice_get, sum_by, if◌then◌else◌, AllByRecursion, option_map_or, ConstantItem, ConstantObject, ConstantList, InitialValue, ByteValue, WordValue, LocationValue, size_of_object, TypedHome, InData, InConstants, Placed, BasedOn, Elsewhere, Nowhere, InFrame, TypedObject, TypedModule, Content, Word, Home, Place, place_from, content_of, size_of_value, with_gap, with_gap_if_any, with_object, constant_object, static_object, with_constant, constants_from, constants_of, variables_from, variables_of, place_after, home_at}
use Rattle.treecode.specs.declared.module.Content.TheVariants.{Byte, Gap}
use Rattle.treecode.specs.declared.place.Home.TheVariants as homes
use Rattle.treecode.specs.declared.place.Place.TheVariants as places
use Rattle.program_laws.proofs.Contents.{IsWordPlace, IsWordContent}

-- contents of which each is
abbrev AreWords : List Content → Type 0
AreWords list = AllByRecursion IsWordContent list

both : (one other : List Content) → AreWords one → AreWords other → AreWords (one ++ other)
both [] other first second = second
both (content ∷ one) other first second = (first.0, both one other first.1 second)

after_word : (place : Place) (distance : ℕ) → IsWordPlace (place_after place distance)
after_word (places.Number number) distance = tt
after_word (places.Code offset) distance = omega arith
after_word (places.Data offset) distance = omega arith
after_word (places.External offset index) distance = omega arith

from_word : (home : Home) (distance : ℕ) → IsWordPlace (place_from home distance)
from_word (homes.Static place) distance = after_word place distance
from_word (homes.Based base) distance = tt
from_word (homes.Frame variable) distance = tt

value_word : (starts : List Home) (value : InitialValue) → IsWordContent (content_of starts value)
value_word starts (ByteValue byte) = tt
value_word starts (WordValue word) = tt
value_word starts (LocationValue object offset) = from_word (home_at starts object) offset

values_words : (starts : List Home) (values : List InitialValue) → AreWords (map (content_of starts) values)
values_words starts [] = tt
values_words starts (value ∷ values) = (value_word starts value, values_words starts values)

gap_words : (before : List Content) (count : ℕ) → AreWords before → AreWords (with_gap before count)
gap_words [] count are = (tt, tt)
gap_words (Gap gap ∷ []) count are = by (nat_lt 0 gap && nat_le (gap + count) 65535)
  where
    by : (joined : Bool) → AreWords (if joined then Gap (gap + count) ∷ [] else Gap gap ∷ Gap count ∷ [])
    by true = (tt, tt)
    by false = (tt, (tt, tt))
gap_words (Byte byte ∷ others) count are = (tt, gap_words others count are.1)
gap_words (Word place ∷ others) count are = (are.0, gap_words others count are.1)
gap_words (Gap gap ∷ next ∷ others) count are = (tt, gap_words (next ∷ others) count are.1)

gap_if_any_words : (before : List Content) (count : ℕ) → AreWords before
    → AreWords (with_gap_if_any before count)
gap_if_any_words before count are = by (count == 0)
  where
    by : (none : Bool) → AreWords (if none then before else with_gap before count)
    by true = are
    by false = gap_words before count are

object_words :
    (starts : List Home) (object : TypedObject) (values : List InitialValue) (before : List Content)
    → AreWords before → AreWords (with_object starts object values before)
object_words starts object values before are =
    gap_if_any_words (before ++ map (content_of starts) values)
    (min (min (size_of_object object) 4294967295 - sum_by size_of_value values) 65535)
    (both before (map (content_of starts) values) are (values_words starts values))

constant_words :
    (starts : List Home) (object : TypedObject) (kind : TypedHome) (before : List Content)
    → AreWords before → AreWords (constant_object starts object kind before)
constant_words starts object (InConstants values) before are = object_words starts object values before are
constant_words starts object (InData values) before are = are
constant_words starts object (Placed at) before are = are
constant_words starts object (BasedOn base) before are = are
constant_words starts object Elsewhere before are = are
constant_words starts object Nowhere before are = are
constant_words starts object (InFrame procedure) before are = are

static_words :
    (starts : List Home) (object : TypedObject) (kind : TypedHome) (before : List Content)
    → AreWords before → AreWords (static_object starts object kind before)
static_words starts object (InData values) before are = object_words starts object values before are
static_words starts object (InConstants values) before are = are
static_words starts object (Placed at) before are = are
static_words starts object (BasedOn base) before are = are
static_words starts object Elsewhere before are = are
static_words starts object Nowhere before are = are
static_words starts object (InFrame procedure) before are = are

list_words : (bytes : List ℕ) → AreWords (map Byte bytes)
list_words [] = tt
list_words (byte ∷ bytes) = (tt, list_words bytes)

item_words :
    (typed : TypedModule) (starts : List Home) (item : ConstantItem) (before : List Content)
    → AreWords before → AreWords (with_constant typed starts item before)
item_words typed starts (ConstantObject number) before are = by (slice_get typed.objects number)
  where
    by : (found : Option TypedObject)
        → AreWords
        (option_map_or (λ (object : TypedObject). constant_object starts object object.home before) found
        before)
    by None = are
    by (Some object) = constant_words starts object object.home before are
item_words typed starts (ConstantList number) before are = by (slice_get typed.constants.lists number)
  where
    by : (found : Option (List ℕ))
        → AreWords (option_map_or (λ (bytes : List ℕ). before ++ map Byte bytes) found before)
    by None = are
    by (Some bytes) = both before (map Byte bytes) are (list_words bytes)

items_words :
    (typed : TypedModule) (starts : List Home) (items : List ConstantItem) (before : List Content)
    → AreWords before → AreWords (constants_from typed starts before items)
items_words typed starts [] before are = are
items_words typed starts (item ∷ others) before are =
    items_words typed starts others (with_constant typed starts item before)
    (item_words typed starts item before are)

objects_words :
    (starts : List Home) (objects : List TypedObject) (before : List Content)
    → AreWords before → AreWords (variables_from starts before objects)
objects_words starts [] before are = are
objects_words starts (object ∷ others) before are =
    objects_words starts others (static_object starts object object.home before)
    (static_words starts object object.home before are)

-- So it is in the constants and in the variables of a module.
pub constants_are_words :
    (typed : TypedModule) (starts : List Home) → AllByRecursion IsWordContent (constants_of typed starts)
unfolding constants_of
constants_are_words typed starts = items_words typed starts typed.constants.items [] tt

pub variables_are_words :
    (typed : TypedModule) (starts : List Home) → AllByRecursion IsWordContent (variables_of typed starts)
unfolding variables_of
variables_are_words typed starts = objects_words starts typed.objects [] tt
