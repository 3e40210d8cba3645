-- Worked values: tables that are storable, and some that are not.
use Rattle.typing.proofs.Prelude.{ℕ, List, [], ◌∷◌, Option, None, Some, false, length, get_or, refl, ap, arith, enumerate_from, All-from_recursion, recursion_from_All, Byte, AtObject, ConstantItem, ConstantObject, ConstantList, ByteValue, WordValue, InitialValue, Home, InData, InConstants, Placed, Elsewhere, ScalarObject, TypedObject, Constants, LooksBack, LooksAtPlace}
use Rattle.typing.proofs.Storage.Storable.{AreStorable, AllLookBack, AllAtPlaces, HasRoom}

abbrev byte_in : Home → TypedObject
byte_in home = record {
  name = [];
  dimension = None;
  object_type = ScalarObject Byte;
  home = home;
  is_public = false;
  is_parameter = false;
}

abbrev Holds : ℕ × TypedObject → Type 0
Holds numbered = LooksBack numbered.0 (numbered.1).home

abbrev AtPlace : List TypedObject → TypedObject → Type 0
AtPlace objects object = LooksAtPlace objects object.home

-- objects with DATA, in the data segment, and again with DATA, and one constant list
abbrev three_objects : List TypedObject
three_objects = byte_in (InConstants []) ∷ byte_in (InData []) ∷ byte_in (InConstants []) ∷ []

abbrev with_items : List ConstantItem → Constants
with_items items = record { lists = (1 ∷ []) ∷ []; items = items }

-- a list stands anywhere between objects
in_order : AreStorable three_objects (with_items (ConstantObject 0 ∷ ConstantList 0 ∷ ConstantObject 2 ∷ []))
in_order = record {
  objects_stand = refl;
  lists_stand = refl;
  look_back = All-from_recursion Holds (enumerate_from 0 three_objects) (tt, (tt, (tt, tt)));
  at_places = All-from_recursion (AtPlace three_objects) three_objects (tt, (tt, (tt, tt)));
  have_room = All-from_recursion HasRoom three_objects (omega arith, (omega arith, (omega arith, tt)));
}

-- objects against the order of their numbers, an object without DATA, and a list that is left out
out_of_order_is_not :
    AreStorable three_objects (with_items (ConstantObject 2 ∷ ConstantList 0 ∷ ConstantObject 0 ∷ [])) → ⊥
out_of_order_is_not are = omega (arith, ap (λ (numbers : List ℕ). get_or numbers 0 0) are.objects_stand)

without_data_is_not :
    AreStorable three_objects
    (with_items (ConstantObject 0 ∷ ConstantObject 1 ∷ ConstantList 0 ∷ ConstantObject 2 ∷ [])) → ⊥
without_data_is_not are = omega (arith, ap (λ (numbers : List ℕ). get_or numbers 1 0) are.objects_stand)

without_list_is_not : AreStorable three_objects (with_items (ConstantObject 0 ∷ ConstantObject 2 ∷ [])) → ⊥
without_list_is_not are = omega (arith, ap (λ (numbers : List ℕ). length numbers) are.lists_stand)

-- AT puts an object after one that stands before it in the table, and after no other, nor itself
abbrev placed_after : (other : ℕ) → List TypedObject
placed_after other = byte_in (InData []) ∷ byte_in (Placed (AtObject other 0)) ∷ []

after_the_first : AllLookBack (placed_after 0)
after_the_first = All-from_recursion Holds (enumerate_from 0 (placed_after 0)) (tt, (omega arith, tt))

after_itself_is_not : AllLookBack (placed_after 1) → ⊥
after_itself_is_not look =
    let back : Holds (1, byte_in (Placed (AtObject 1 0))) =
    (recursion_from_All Holds (enumerate_from 0 (placed_after 1)) look).1.0 in
    omega (arith, back)

-- an object that AT puts after one with DATA, and one after an EXTERNAL, which has no place in the module
abbrev placed_at : Home → List TypedObject
placed_at home = byte_in home ∷ byte_in (Placed (AtObject 0 0)) ∷ []

at_data : AllAtPlaces (placed_at (InConstants [])) (placed_at (InConstants []))
at_data =
    All-from_recursion (AtPlace (placed_at (InConstants []))) (placed_at (InConstants [])) (tt, (tt, tt))

at_an_external_is_not : AllAtPlaces (placed_at Elsewhere) (placed_at Elsewhere) → ⊥
at_an_external_is_not look =
    (recursion_from_All (AtPlace (placed_at Elsewhere)) (placed_at Elsewhere) look).1.0

-- a BYTE with one value, and with three; an array of two BYTEs with a word, and with a byte before it
abbrev filled_by : (dimension : Option ℕ) → List InitialValue → TypedObject
filled_by dimension values = record (byte_in (InData values)) { dimension = dimension }

with_one : HasRoom (filled_by None (ByteValue 1 ∷ []))
with_one = omega arith

with_three_is_not : HasRoom (filled_by None (ByteValue 1 ∷ ByteValue 2 ∷ ByteValue 3 ∷ [])) → ⊥
with_three_is_not room = omega (arith, room)

with_a_word : HasRoom (filled_by (Some 2) (WordValue 300 ∷ []))
with_a_word = omega arith

with_a_byte_and_a_word_is_not : HasRoom (filled_by (Some 2) (ByteValue 1 ∷ WordValue 300 ∷ [])) → ⊥
with_a_byte_and_a_word_is_not room = omega (arith, room)
