-- In the storage of a module, no two slots of a segment have a byte in common.
use Rattle.placing.proofs.Prelude.{◌≡◌, ℕ, ◌+◌, ◌≤◌, Bool, true, List, [], ◌∷◌, length, arith, AllByRecursion, cons_option, false≢true, eqb-true, ConstantObject, ConstantList, ConstantItem, Home, InData, InConstants, Placed, BasedOn, Elsewhere, Nowhere, InFrame, TypedObject, TypedModule, size_of_object, IsStorable, Segment, Code, Data, Slot, bytes_in_data, is_object, is_list, constants_before, slot_at, at_most_more}
use Rattle.placing.proofs.LawLists.{EachPair, pairs_append}
use Rattle.placing.proofs.LawStorage.{Apart, Stands, stand_apart, slots_of, list_slots_of, StandsByHome, ObjectsStand, ListsStand, objects_stand, lists_stand, all_slots, own_slots}

-- what lies in different segments is told apart by these
abbrev pub ApartIn : (one other : Segment) → (a m b n : ℕ) → Type 0
ApartIn Code Code a m b n = Apart a m b n
ApartIn Data Data a m b n = Apart a m b n
ApartIn one other a m b n = Unit {0}

abbrev pub SlotsApart : Slot → Slot → Type 0
SlotsApart one other = ApartIn one.segment other.segment one.offset one.size other.offset other.size

abbrev code_slot : TypedModule → (ConstantItem → Bool) → (bytes : ℕ) → Slot
code_slot typed wanted bytes =
    record { segment = Code; offset = constants_before typed wanted; size = bytes }

abbrev data_slot : (offset size : ℕ) → Slot
data_slot offset size = record { segment = Data; offset = offset; size = size }

at_least_more : (low number : ℕ) → low ≤ number → low ≤ number + 1
at_least_more low number above = omega arith

-- a slot is apart from those of all objects from one on
first_apart :
    (typed : TypedModule) (slot : Slot) (number in_data : ℕ) (object : TypedObject) (home : Home)
    (slots : List Slot)
    → ((offset size : ℕ) → in_data ≤ offset → SlotsApart slot (data_slot offset size))
    → ((bytes : ℕ) → Stands typed (is_object number) bytes
    → SlotsApart slot (code_slot typed (is_object number) bytes))
    → StandsByHome typed number object home
    → AllByRecursion (SlotsApart slot) slots
    → AllByRecursion (SlotsApart slot)
    (cons_option (slot_at in_data (constants_before typed (is_object number)) object home) slots)
first_apart typed slot number in_data object (InData values) slots with_data with_code stands others =
    (with_data in_data (size_of_object object) (omega arith), others)
first_apart typed slot number in_data object (InConstants values) slots with_data with_code stands others =
    (with_code (size_of_object object) stands, others)
first_apart typed slot number in_data object (Placed at) slots with_data with_code stands others = others
first_apart typed slot number in_data object (BasedOn base) slots with_data with_code stands others = others
first_apart typed slot number in_data object Elsewhere slots with_data with_code stands others = others
first_apart typed slot number in_data object Nowhere slots with_data with_code stands others = others
first_apart typed slot number in_data object (InFrame procedure) slots with_data with_code stands others =
    others

objects_apart :
    (typed : TypedModule) (slot : Slot) (low low_data : ℕ)
    → ((offset size : ℕ) → low_data ≤ offset → SlotsApart slot (data_slot offset size))
    → ((number bytes : ℕ) → low ≤ number → Stands typed (is_object number) bytes
    → SlotsApart slot (code_slot typed (is_object number) bytes))
    → (number in_data : ℕ) (objects : List TypedObject)
    → low ≤ number
    → low_data ≤ in_data
    → ObjectsStand typed number objects
    → AllByRecursion (SlotsApart slot) (all_slots (slots_of typed number in_data objects))
objects_apart typed slot low low_data with_data with_code number in_data [] above after stand = tt
objects_apart typed slot low low_data with_data with_code number in_data (object ∷ others) above after stand =
    first_apart typed slot number in_data object object.home
    (all_slots (slots_of typed (number + 1) (in_data + bytes_in_data object.home object) others))
    (λ offset size past. with_data offset size (omega arith))
    (λ bytes stands. with_code number bytes above stands)
    stand.0
    (objects_apart typed slot low low_data with_data with_code (number + 1)
    (in_data + bytes_in_data object.home object) others (at_least_more low number above)
    (at_most_more low_data in_data (bytes_in_data object.home object) after) stand.1)

-- and from those of all lists from one on
lists_apart :
    (typed : TypedModule) (slot : Slot) (low : ℕ)
    → ((number bytes : ℕ) → low ≤ number → Stands typed (is_list number) bytes
    → SlotsApart slot (code_slot typed (is_list number) bytes))
    → (number : ℕ) (lists : List (List ℕ))
    → low ≤ number
    → ListsStand typed number lists
    → AllByRecursion (SlotsApart slot) (list_slots_of typed number lists)
lists_apart typed slot low with_list number [] above stand = tt
lists_apart typed slot low with_list number (bytes ∷ others) above stand = (
  with_list number (length bytes) above stand.0,
  lists_apart typed slot low with_list (number + 1) others (at_least_more low number above) stand.1,
)

-- an item is one thing
same_number : (first second other : ℕ) → other ≡ first → other ≡ second → first + 1 ≤ second → ⊥
same_number first second other one another above = omega arith

other_object :
    (first second : ℕ)
    → first + 1 ≤ second
    → (item : ConstantItem)
    → is_object first item ≡ true
    → is_object second item ≡ true
    → ⊥
other_object first second above (ConstantObject other) one another =
    same_number first second other (eqb-true other first one) (eqb-true other second another) above
other_object first second above (ConstantList list) one another = false≢true one

other_list :
    (first second : ℕ)
    → first + 1 ≤ second
    → (item : ConstantItem)
    → is_list first item ≡ true
    → is_list second item ≡ true
    → ⊥
other_list first second above (ConstantList other) one another =
    same_number first second other (eqb-true other first one) (eqb-true other second another) above
other_list first second above (ConstantObject object) one another = false≢true one

no_list :
    (object list : ℕ) (item : ConstantItem)
    → is_object object item ≡ true
    → is_list list item ≡ true
    → ⊥
no_list object list (ConstantObject other) one another = false≢true another
no_list object list (ConstantList other) one another = false≢true one

-- the slots of objects
after_data : (a m b n : ℕ) → a + m ≤ b → Apart a m b n
after_data a m b n past = λ x after before after' before'. omega arith

pairs_by_home :
    (typed : TypedModule) (number in_data : ℕ) (object : TypedObject) (home : Home)
    (others : List TypedObject)
    → StandsByHome typed number object home
    → ObjectsStand typed (number + 1) others
    → EachPair SlotsApart
    (all_slots (slots_of typed (number + 1) (in_data + bytes_in_data home object) others))
    → EachPair SlotsApart
    (cons_option (slot_at in_data (constants_before typed (is_object number)) object home)
    (all_slots (slots_of typed (number + 1) (in_data + bytes_in_data home object) others)))
pairs_by_home typed number in_data object (InData values) others stands stand pairs = (
  objects_apart typed (data_slot in_data (size_of_object object)) (number + 1)
      (in_data + size_of_object object)
      (λ offset size past. after_data in_data (size_of_object object) offset size past)
      (λ number bytes above stands. tt) (number + 1) (in_data + size_of_object object) others (omega arith)
      (omega arith) stand,
  pairs,
)
pairs_by_home typed number in_data object (InConstants values) others stands stand pairs = (
  objects_apart typed (code_slot typed (is_object number) (size_of_object object)) (number + 1)
      (in_data + 0) (λ offset size past. tt)
      (λ other bytes above known.
      stand_apart typed (is_object number) (is_object other) (size_of_object object) bytes stands known
      (other_object number other above))
      (number + 1) (in_data + 0) others (omega arith) (omega arith) stand,
  pairs,
)
pairs_by_home typed number in_data object (Placed at) others stands stand pairs = pairs
pairs_by_home typed number in_data object (BasedOn base) others stands stand pairs = pairs
pairs_by_home typed number in_data object Elsewhere others stands stand pairs = pairs
pairs_by_home typed number in_data object Nowhere others stands stand pairs = pairs
pairs_by_home typed number in_data object (InFrame procedure) others stands stand pairs = pairs

object_pairs :
    (typed : TypedModule) (number in_data : ℕ) (objects : List TypedObject)
    → ObjectsStand typed number objects
    → EachPair SlotsApart (all_slots (slots_of typed number in_data objects))
object_pairs typed number in_data [] stand = tt
object_pairs typed number in_data (object ∷ others) stand =
    pairs_by_home typed number in_data object object.home others stand.0 stand.1
    (object_pairs typed (number + 1) (in_data + bytes_in_data object.home object) others stand.1)

-- the slots of lists
list_pairs :
    (typed : TypedModule) (number : ℕ) (lists : List (List ℕ))
    → ListsStand typed number lists
    → EachPair SlotsApart (list_slots_of typed number lists)
list_pairs typed number [] stand = tt
list_pairs typed number (bytes ∷ others) stand = (
  lists_apart typed (code_slot typed (is_list number) (length bytes)) (number + 1)
      (λ other size above known.
      stand_apart typed (is_list number) (is_list other) (length bytes) size stand.0 known
      (other_list number other above))
      (number + 1) others (omega arith) stand.1,
  list_pairs typed (number + 1) others stand.1,
)

-- the slots of objects and those of lists
between_by_home :
    (typed : TypedModule) (number in_data : ℕ) (object : TypedObject) (home : Home) (slots : List Slot)
    (lists : List (List ℕ))
    → StandsByHome typed number object home
    → ListsStand typed 0 lists
    → AllByRecursion (λ slot. AllByRecursion (SlotsApart slot) (list_slots_of typed 0 lists)) slots
    → AllByRecursion (λ slot. AllByRecursion (SlotsApart slot) (list_slots_of typed 0 lists))
    (cons_option (slot_at in_data (constants_before typed (is_object number)) object home) slots)
between_by_home typed number in_data object (InData values) slots lists stands stand others = (
  lists_apart typed (data_slot in_data (size_of_object object)) 0 (λ other size above known. tt) 0 lists
      (omega arith) stand,
  others,
)
between_by_home typed number in_data object (InConstants values) slots lists stands stand others = (
  lists_apart typed (code_slot typed (is_object number) (size_of_object object)) 0
      (λ other size above known.
      stand_apart typed (is_object number) (is_list other) (size_of_object object) size stands known
      (no_list number other))
      0 lists (omega arith) stand,
  others,
)
between_by_home typed number in_data object (Placed at) slots lists stands stand others = others
between_by_home typed number in_data object (BasedOn base) slots lists stands stand others = others
between_by_home typed number in_data object Elsewhere slots lists stands stand others = others
between_by_home typed number in_data object Nowhere slots lists stands stand others = others
between_by_home typed number in_data object (InFrame procedure) slots lists stands stand others = others

between :
    (typed : TypedModule) (number in_data : ℕ) (objects : List TypedObject) (lists : List (List ℕ))
    → ObjectsStand typed number objects
    → ListsStand typed 0 lists
    → AllByRecursion (λ slot. AllByRecursion (SlotsApart slot) (list_slots_of typed 0 lists))
    (all_slots (slots_of typed number in_data objects))
between typed number in_data [] lists stand lists_known = tt
between typed number in_data (object ∷ others) lists stand lists_known =
    between_by_home typed number in_data object object.home
    (all_slots (slots_of typed (number + 1) (in_data + bytes_in_data object.home object) others)) lists
    stand.0
    lists_known
    (between typed (number + 1) (in_data + bytes_in_data object.home object) others lists stand.1 lists_known)

pub slots_apart : (typed : TypedModule) → IsStorable typed → EachPair SlotsApart (own_slots typed)
slots_apart typed storable =
    pairs_append SlotsApart (all_slots (slots_of typed 0 0 typed.objects))
    (list_slots_of typed 0 typed.constants.lists)
    (object_pairs typed 0 0 typed.objects (objects_stand typed storable))
    (list_pairs typed 0 typed.constants.lists (lists_stand typed storable))
    (between typed 0 0 typed.objects typed.constants.lists (objects_stand typed storable)
    (lists_stand typed storable))
