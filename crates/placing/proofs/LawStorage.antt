-- In the storage of a module, no two slots of a segment have a byte in common, and each lies in its segment.
use Rattle.placing.proofs.Prelude.{◌≡◌, ℕ, ◌+◌, ◌-◌, ◌<◌, ◌≤◌, Bool, true, false, List, [], ◌∷◌, ◌++◌, length, take, map, cond, refl, sym, ap, subst, ◌∙◌, arith, not, ◌||◌, ◌==◌, sum_by, take_while, filter_map, slice_get, Option, Some, AllByRecursion, cons_option, enumerate_from, list_any, option_map_or, false≢true, eq-eqb, eqb-true, append_assoc, length-append, sum_by-cons, take_while-cons, take-append_seam, ConstantObject, ConstantList, ConstantItem, Home, InData, InConstants, Placed, BasedOn, Elsewhere, Nowhere, InFrame, TypedObject, TypedModule, size_of_object, object_in, list_in, constant_number, numbered_constant, numbers_from, IsStorable, size_of_constant, constant_bytes, Segment, Code, Data, Slot, bytes_in_data, data_bytes, is_object, is_list, constants_before, slot_of_object, slot_of_list, storage_with, slot_at, all_append, all_weaker, data_push, got_first, or_left, or_right}

-- so many numbers from one on, and so many from another on, have none in common
abbrev pub Apart : (a m b n : ℕ) → Type 0
Apart a m b n = (x : ℕ) → a ≤ x → x < a + m → b ≤ x → x < b + n → ⊥

-- the bytes of the items before the first that is wanted
abbrev pub ahead : (size : ConstantItem → ℕ) (wanted : ConstantItem → Bool) → List ConstantItem → ℕ
ahead size wanted [] = 0
ahead size wanted (item ∷ others) = cond (wanted item) 0 (size item + ahead size wanted others)

ahead_by :
    (size : ConstantItem → ℕ) (item : ConstantItem) (passed : List ConstantItem) (rest : ℕ) (is : Bool)
    → sum_by size passed ≡ rest
    → sum_by size (cond (not is) (item ∷ passed) []) ≡ cond is 0 (size item + rest)
ahead_by size item passed rest true sum = refl
ahead_by size item passed rest false sum =
    sum_by-cons size item passed ∙ ap (λ n. size item + n) sum

ahead_is :
    (size : ConstantItem → ℕ) (wanted : ConstantItem → Bool) (items : List ConstantItem)
    → sum_by size (take_while (λ (item : ConstantItem). not (wanted item)) items) ≡ ahead size wanted items
ahead_is size wanted [] = refl
ahead_is size wanted (item ∷ others) =
    ap (sum_by size) (take_while-cons (λ (item : ConstantItem). not (wanted item)) item others)
    ∙ ahead_by size item (take_while (λ (item : ConstantItem). not (wanted item)) others)
    (ahead size wanted others) (wanted item) (ahead_is size wanted others)

-- an item that is wanted ends within all of them
within_first : (size one rest : ℕ) → one ≡ size → 0 + size ≤ one + rest
within_first size one rest is = omega arith

within_later : (size one before rest : ℕ) → before + size ≤ rest → one + before + size ≤ one + rest
within_later size one before rest within = omega arith

items_within :
    (size : ConstantItem → ℕ) (wanted : ConstantItem → Bool) (bytes : ℕ)
    → ((item : ConstantItem) → wanted item ≡ true → size item ≡ bytes)
    → (items : List ConstantItem)
    → list_any wanted items ≡ true
    → ahead size wanted items + bytes ≤ sum_by size items
items_within size wanted bytes sized [] stands = absurd (false≢true stands)
items_within size wanted bytes sized (item ∷ others) stands =
    subst (λ n. cond (wanted item) 0 (size item + ahead size wanted others) + bytes ≤ n)
    (sym (sum_by-cons size item others))
    (by_test (wanted item) refl stands (items_within size wanted bytes sized others))
  where
    by_test :
        (is : Bool)
        → wanted item ≡ is
        → (is || list_any wanted others) ≡ true
        → (list_any wanted others ≡ true → ahead size wanted others + bytes ≤ sum_by size others)
        → cond is 0 (size item + ahead size wanted others) + bytes ≤ size item + sum_by size others
    by_test true it stands later = within_first bytes (size item) (sum_by size others) (sized item it)
    by_test false it stands later =
        within_later bytes (size item) (ahead size wanted others) (sum_by size others) (later stands)

-- two items that differ have no byte in common
apart_first : (m one rest n : ℕ) → one ≡ m → Apart 0 m (one + rest) n
apart_first m one rest n is = λ x after before after' before'. omega arith

apart_second : (m one rest n : ℕ) → one ≡ n → Apart (one + rest) m 0 n
apart_second m one rest n is = λ x after before after' before'. omega arith

apart_later : (a m b n one : ℕ) → Apart a m b n → Apart (one + a) m (one + b) n
apart_later a m b n one apart =
    λ x after before after' before'.
    apart (x - one) (omega arith) (omega arith) (omega arith) (omega arith)

pub apart_swap : (a m b n : ℕ) → Apart a m b n → Apart b n a m
apart_swap a m b n apart = λ x after before after' before'. apart x after' before' after before

items_apart :
    (size : ConstantItem → ℕ) (first second : ConstantItem → Bool) (m n : ℕ)
    → ((item : ConstantItem) → first item ≡ true → size item ≡ m)
    → ((item : ConstantItem) → second item ≡ true → size item ≡ n)
    → ((item : ConstantItem) → first item ≡ true → second item ≡ true → ⊥)
    → (items : List ConstantItem)
    → list_any first items ≡ true
    → Apart (ahead size first items) m (ahead size second items) n
items_apart size first second m n is_m is_n never [] stands = absurd (false≢true stands)
items_apart size first second m n is_m is_n never (item ∷ others) stands =
    by_tests (first item) (second item) refl refl stands
    (items_apart size first second m n is_m is_n never others)
  where
    by_tests :
        (one other : Bool)
        → first item ≡ one
        → second item ≡ other
        → (one || list_any first others) ≡ true
        → (list_any first others ≡ true → Apart (ahead size first others) m (ahead size second others) n)
        → Apart (cond one 0 (size item + ahead size first others)) m
        (cond other 0 (size item + ahead size second others)) n
    by_tests true true is_one is_other stands later = absurd (never item is_one is_other)
    by_tests true false is_one is_other stands later =
        apart_first m (size item) (ahead size second others) n (is_m item is_one)
    by_tests false true is_one is_other stands later =
        apart_second m (size item) (ahead size first others) n (is_n item is_other)
    by_tests false false is_one is_other stands later =
        apart_later (ahead size first others) m (ahead size second others) n (size item) (later stands)

-- what stands among the constants of a module: with its size, so that each of its items has that
pub record Stands (typed : TypedModule) (wanted : ConstantItem → Bool) (bytes : ℕ) : Type 0 where
  pub sized : (item : ConstantItem) → wanted item ≡ true → size_of_constant typed item ≡ bytes
  pub stands : list_any wanted typed.constants.items ≡ true

pub stands_within :
    (typed : TypedModule) (wanted : ConstantItem → Bool) (bytes : ℕ)
    → Stands typed wanted bytes
    → constants_before typed wanted + bytes ≤ constant_bytes typed
stands_within typed wanted bytes known =
    subst (λ n. n + bytes ≤ constant_bytes typed)
    (sym (ahead_is (size_of_constant typed) wanted typed.constants.items))
    (items_within (size_of_constant typed) wanted bytes known.sized typed.constants.items known.stands)

pub stand_apart :
    (typed : TypedModule) (first second : ConstantItem → Bool) (m n : ℕ)
    → Stands typed first m
    → Stands typed second n
    → ((item : ConstantItem) → first item ≡ true → second item ≡ true → ⊥)
    → Apart (constants_before typed first) m (constants_before typed second) n
stand_apart typed first second m n one other never =
    subst (λ a. Apart a m (constants_before typed second) n)
    (sym (ahead_is (size_of_constant typed) first typed.constants.items))
    (subst (λ b. Apart (ahead (size_of_constant typed) first typed.constants.items) m b n)
    (sym (ahead_is (size_of_constant typed) second typed.constants.items))
    (items_apart (size_of_constant typed) first second m n one.sized other.sized never
    typed.constants.items one.stands))

-- the slots of objects that are numbered from one on, so many bytes after the beginning of the data segment
abbrev pub slots_of :
    (typed : TypedModule) (number in_data : ℕ) → List TypedObject → List (Option Slot)
slots_of typed number in_data [] = []
slots_of typed number in_data (object ∷ others) =
    slot_at in_data (constants_before typed (is_object number)) object object.home
    ∷ slots_of typed (number + 1) (in_data + bytes_in_data object.home object) others

abbrev pub list_slots_of : (typed : TypedModule) (number : ℕ) → List (List ℕ) → List Slot
list_slots_of typed number [] = []
list_slots_of typed number (bytes ∷ others) =
    slot_of_list typed number bytes ∷ list_slots_of typed (number + 1) others

-- what is known of objects that are numbered from one on
abbrev pub StandsByHome : (typed : TypedModule) (number : ℕ) → TypedObject → Home → Type 0
StandsByHome typed number object (InConstants values) =
    Stands typed (is_object number) (size_of_object object)
StandsByHome typed number object home = Unit {0}

abbrev pub ObjectsStand : (typed : TypedModule) (number : ℕ) → List TypedObject → Type 0
ObjectsStand typed number [] = Unit {0}
ObjectsStand typed number (object ∷ others) =
    StandsByHome typed number object object.home × ObjectsStand typed (number + 1) others

abbrev pub ListsStand : (typed : TypedModule) (number : ℕ) → List (List ℕ) → Type 0
ListsStand typed number [] = Unit {0}
ListsStand typed number (bytes ∷ others) =
    Stands typed (is_list number) (length bytes) × ListsStand typed (number + 1) others

objects_met :
    (items : List ConstantItem)
    → AllByRecursion (λ (number : ℕ). list_any (is_object number) items ≡ true) (filter_map object_in items)
objects_met [] = tt
objects_met (ConstantObject object ∷ others) = (
  or_left (object == object) (list_any (is_object object) others) (eq-eqb object object refl),
  all_weaker (λ (number : ℕ). list_any (is_object number) others ≡ true)
      (λ (number : ℕ). list_any (is_object number) (ConstantObject object ∷ others) ≡ true)
      (λ number met. or_right (object == number) (list_any (is_object number) others) met)
      (filter_map object_in others) (objects_met others),
)
objects_met (ConstantList list ∷ others) = objects_met others

lists_met :
    (items : List ConstantItem)
    → AllByRecursion (λ (number : ℕ). list_any (is_list number) items ≡ true) (filter_map list_in items)
lists_met [] = tt
lists_met (ConstantList list ∷ others) = (
  or_left (list == list) (list_any (is_list list) others) (eq-eqb list list refl),
  all_weaker (λ (number : ℕ). list_any (is_list number) others ≡ true)
      (λ (number : ℕ). list_any (is_list number) (ConstantList list ∷ others) ≡ true)
      (λ number met. or_right (list == number) (list_any (is_list number) others) met)
      (filter_map list_in others) (lists_met others),
)
lists_met (ConstantObject object ∷ others) = lists_met others

object_sized :
    (typed : TypedModule) (number : ℕ) (object : TypedObject)
    → slice_get typed.objects number ≡ Some object
    → (item : ConstantItem)
    → is_object number item ≡ true
    → size_of_constant typed item ≡ size_of_object object
object_sized typed number object is (ConstantObject other) same =
    ap (λ n. option_map_or size_of_object (slice_get typed.objects n) 0) (eqb-true other number same)
    ∙ ap (λ found. option_map_or size_of_object found 0) is
object_sized typed number object is (ConstantList list) same = absurd (false≢true same)

list_sized :
    (typed : TypedModule) (number : ℕ) (bytes : List ℕ)
    → slice_get typed.constants.lists number ≡ Some bytes
    → (item : ConstantItem)
    → is_list number item ≡ true
    → size_of_constant typed item ≡ length bytes
list_sized typed number bytes is (ConstantList other) same =
    ap (λ n. option_map_or length (slice_get typed.constants.lists n) 0) (eqb-true other number same)
    ∙ ap (λ found. option_map_or length found 0) is
list_sized typed number bytes is (ConstantObject object) same = absurd (false≢true same)

get_first :
    {A : Type 0} (before : List A) (first : A) (others all : List A) (number : ℕ)
    → before ++ first ∷ others ≡ all
    → number ≡ length before
    → slice_get all number ≡ Some first
get_first before first others all number whole number_is =
    ap (slice_get all) number_is ∙ ap (λ items. slice_get items (length before)) (sym whole)
    ∙ got_first before first others

one_more :
    {A : Type 0} (before : List A) (first : A) (number : ℕ)
    → number ≡ length before
    → number + 1 ≡ length (before ++ first ∷ [])
one_more before first number is = ap (λ n. n + 1) is ∙ sym (length-append before (first ∷ []))

abbrev Met : TypedModule → ℕ → Type 0
Met typed number = list_any (is_object number) typed.constants.items ≡ true

abbrev ListMet : TypedModule → ℕ → Type 0
ListMet typed number = list_any (is_list number) typed.constants.items ≡ true

stands_by_home :
    (typed : TypedModule) (number : ℕ) (object : TypedObject) (home : Home) (rest : List ℕ)
    → slice_get typed.objects number ≡ Some object
    → AllByRecursion (Met typed) (cons_option (constant_number number home) rest)
    → StandsByHome typed number object home × AllByRecursion (Met typed) rest
stands_by_home typed number object (InConstants values) rest is met =
    (record { sized = object_sized typed number object is; stands = met.0 }, met.1)
stands_by_home typed number object (InData values) rest is met = (tt, met)
stands_by_home typed number object (Placed at) rest is met = (tt, met)
stands_by_home typed number object (BasedOn base) rest is met = (tt, met)
stands_by_home typed number object Elsewhere rest is met = (tt, met)
stands_by_home typed number object Nowhere rest is met = (tt, met)
stands_by_home typed number object (InFrame procedure) rest is met = (tt, met)

objects_stand_after :
    (typed : TypedModule) (before objects : List TypedObject) (number : ℕ)
    → before ++ objects ≡ typed.objects
    → number ≡ length before
    → AllByRecursion (Met typed) (filter_map numbered_constant (enumerate_from number objects))
    → ObjectsStand typed number objects
objects_stand_after typed before [] number whole number_is met = tt
objects_stand_after typed before (object ∷ others) number whole number_is met =
    let first : StandsByHome typed number object object.home
    × AllByRecursion (Met typed) (filter_map numbered_constant (enumerate_from (number + 1) others)) =
    stands_by_home typed number object object.home
    (filter_map numbered_constant (enumerate_from (number + 1) others))
    (get_first before object others typed.objects number whole number_is) met in (
      first.0,
      objects_stand_after typed (before ++ object ∷ []) others (number + 1)
          (append_assoc before (object ∷ []) others ∙ whole)
          (one_more before object number number_is) first.1,
    )

pub objects_stand : (typed : TypedModule) → IsStorable typed → ObjectsStand typed 0 typed.objects
objects_stand typed storable =
    objects_stand_after typed [] typed.objects 0 refl refl
    (subst (AllByRecursion (Met typed)) storable.objects (objects_met typed.constants.items))

lists_stand_after :
    (typed : TypedModule) (before lists : List (List ℕ)) (number : ℕ)
    → before ++ lists ≡ typed.constants.lists
    → number ≡ length before
    → AllByRecursion (ListMet typed) (numbers_from number (length lists))
    → ListsStand typed number lists
lists_stand_after typed before [] number whole number_is met = tt
lists_stand_after typed before (bytes ∷ others) number whole number_is met = (
  record {
    sized = list_sized typed number bytes
        (get_first before bytes others typed.constants.lists number whole number_is);
    stands = met.0;
  },
  lists_stand_after typed (before ++ bytes ∷ []) others (number + 1)
      (append_assoc before (bytes ∷ []) others ∙ whole) (one_more before bytes number number_is) met.1,
)

pub lists_stand : (typed : TypedModule) → IsStorable typed → ListsStand typed 0 typed.constants.lists
lists_stand typed storable =
    lists_stand_after typed [] typed.constants.lists 0 refl refl
    (subst (AllByRecursion (ListMet typed)) storable.lists (lists_met typed.constants.items))

-- the slots are those of the storage
slot_is :
    (typed : TypedModule) (number in_data : ℕ) (object : TypedObject) (home : Home)
    → in_data ≡ data_bytes (take number typed.objects)
    → slot_at in_data (constants_before typed (is_object number)) object home
    ≡ slot_of_object typed number object home
slot_is typed number in_data object (InData values) is =
    ap (λ offset. slot_at offset (constants_before typed (is_object number)) object (InData values)) is
slot_is typed number in_data object (InConstants values) is = refl
slot_is typed number in_data object (Placed at) is = refl
slot_is typed number in_data object (BasedOn base) is = refl
slot_is typed number in_data object Elsewhere is = refl
slot_is typed number in_data object Nowhere is = refl
slot_is typed number in_data object (InFrame procedure) is = refl

slots_after :
    (typed : TypedModule) (before objects : List TypedObject) (number in_data : ℕ)
    → before ++ objects ≡ typed.objects
    → number ≡ length before
    → in_data ≡ data_bytes before
    → map (λ (numbered : ℕ × TypedObject). slot_of_object typed numbered.0 numbered.1 (numbered.1).home)
    (enumerate_from number objects)
    ≡ slots_of typed number in_data objects
slots_after typed before [] number in_data whole number_is data_is = refl
slots_after typed before (object ∷ others) number in_data whole number_is data_is =
    ap (λ first.
    first
    ∷ map (λ (numbered : ℕ × TypedObject). slot_of_object typed numbered.0 numbered.1 (numbered.1).home)
    (enumerate_from (number + 1) others))
    (sym (slot_is typed number in_data object object.home
    (data_is
    ∙ ap data_bytes
    (sym (ap (take number) (sym whole) ∙ ap (λ n. take n (before ++ object ∷ others)) number_is
    ∙ take-append_seam before (object ∷ others))))))
    ∙ ap (λ rest. slot_at in_data (constants_before typed (is_object number)) object object.home ∷ rest)
    (slots_after typed (before ++ object ∷ []) others (number + 1)
    (in_data + bytes_in_data object.home object)
    (append_assoc before (object ∷ []) others ∙ whole)
    (one_more before object number number_is)
    (ap (λ n. n + bytes_in_data object.home object) data_is ∙ sym (data_push before object)))

pub slots_are : (typed : TypedModule) → (storage_with typed).objects ≡ slots_of typed 0 0 typed.objects
slots_are typed = slots_after typed [] typed.objects 0 0 refl refl refl

list_slots_after :
    (typed : TypedModule) (number : ℕ) (lists : List (List ℕ))
    → map (λ (numbered : ℕ × List ℕ). slot_of_list typed numbered.0 numbered.1) (enumerate_from number lists)
    ≡ list_slots_of typed number lists
list_slots_after typed number [] = refl
list_slots_after typed number (bytes ∷ others) =
    ap (λ rest. slot_of_list typed number bytes ∷ rest) (list_slots_after typed (number + 1) others)

pub list_slots_are :
    (typed : TypedModule) → (storage_with typed).lists ≡ list_slots_of typed 0 typed.constants.lists
list_slots_are typed = list_slots_after typed 0 typed.constants.lists

-- a slot lies in its segment
abbrev pub FitsIn : TypedModule → Segment → (offset size : ℕ) → Type 0
FitsIn typed Code offset size = offset + size ≤ constant_bytes typed
FitsIn typed Data offset size = offset + size ≤ data_bytes typed.objects

abbrev pub Fits : TypedModule → Slot → Type 0
Fits typed slot = FitsIn typed slot.segment slot.offset slot.size

-- the slots that there are
abbrev pub all_slots : List (Option Slot) → List Slot
all_slots slots = filter_map (λ (slot : Option Slot). slot) slots

abbrev pub own_slots : TypedModule → List Slot
own_slots typed = all_slots (slots_of typed 0 0 typed.objects) ++ list_slots_of typed 0 typed.constants.lists

fits_first : (start one rest all : ℕ) → start + (one + rest) ≤ all → start + one ≤ all
fits_first start one rest all within = omega arith

fits_rest : (start one rest all : ℕ) → start + (one + rest) ≤ all → start + one + rest ≤ all
fits_rest start one rest all within = omega arith

fits_by_home :
    (typed : TypedModule) (number in_data rest : ℕ) (object : TypedObject) (home : Home) (slots : List Slot)
    → StandsByHome typed number object home
    → in_data + (bytes_in_data home object + rest) ≤ data_bytes typed.objects
    → AllByRecursion (Fits typed) slots
    → AllByRecursion (Fits typed)
    (cons_option (slot_at in_data (constants_before typed (is_object number)) object home) slots)
fits_by_home typed number in_data rest object (InData values) slots stands within others =
    (fits_first in_data (size_of_object object) rest (data_bytes typed.objects) within, others)
fits_by_home typed number in_data rest object (InConstants values) slots stands within others =
    (stands_within typed (is_object number) (size_of_object object) stands, others)
fits_by_home typed number in_data rest object (Placed at) slots stands within others = others
fits_by_home typed number in_data rest object (BasedOn base) slots stands within others = others
fits_by_home typed number in_data rest object Elsewhere slots stands within others = others
fits_by_home typed number in_data rest object Nowhere slots stands within others = others
fits_by_home typed number in_data rest object (InFrame procedure) slots stands within others = others

objects_fit :
    (typed : TypedModule) (number in_data : ℕ) (objects : List TypedObject)
    → ObjectsStand typed number objects
    → in_data + data_bytes objects ≤ data_bytes typed.objects
    → AllByRecursion (Fits typed) (all_slots (slots_of typed number in_data objects))
objects_fit typed number in_data [] stand within = tt
objects_fit typed number in_data (object ∷ others) stand within =
    let all : in_data + (bytes_in_data object.home object + data_bytes others) ≤ data_bytes typed.objects =
    subst (λ n. in_data + n ≤ data_bytes typed.objects)
    (sum_by-cons (λ (object : TypedObject). bytes_in_data object.home object) object others) within in
    fits_by_home typed number in_data (data_bytes others) object object.home
    (all_slots (slots_of typed (number + 1) (in_data + bytes_in_data object.home object) others))
    stand.0 all
    (objects_fit typed (number + 1) (in_data + bytes_in_data object.home object) others stand.1
    (fits_rest in_data (bytes_in_data object.home object) (data_bytes others) (data_bytes typed.objects) all))

lists_fit :
    (typed : TypedModule) (number : ℕ) (lists : List (List ℕ))
    → ListsStand typed number lists
    → AllByRecursion (Fits typed) (list_slots_of typed number lists)
lists_fit typed number [] stand = tt
lists_fit typed number (bytes ∷ others) stand =
    (stands_within typed (is_list number) (length bytes) stand.0, lists_fit typed (number + 1) others stand.1)

from_nothing : (n : ℕ) → 0 + n ≤ n
from_nothing n = omega arith

pub slots_fit : (typed : TypedModule) → IsStorable typed → AllByRecursion (Fits typed) (own_slots typed)
slots_fit typed storable =
    all_append (Fits typed) (all_slots (slots_of typed 0 0 typed.objects))
    (list_slots_of typed 0 typed.constants.lists)
    (objects_fit typed 0 0 typed.objects (objects_stand typed storable)
    (from_nothing (data_bytes typed.objects)))
    (lists_fit typed 0 typed.constants.lists (lists_stand typed storable))
