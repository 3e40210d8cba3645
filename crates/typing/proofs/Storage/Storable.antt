-- Objects and constants so far have a place each, and go on to as they grow.
use Rattle.typing.proofs.Prelude.{◌≡◌, ℕ, suc, zero, ◌+◌, ◌≤◌, List, [], ◌∷◌, ◌++◌, length, slice_get, Option, All, refl, sym, ap, ◌∙◌, subst, length-append, append-nil, arith, filter_map, IsSomeAnd, cons_option, enumerate_from, All-append, All-cons, All-nil, All-weaker, filter_map-append, AtNumber, AtObject, ConstantObject, ConstantList, ConstantItem, Home, InConstants, Placed, TypedObject, Constants, object_in, list_in, constant_number, numbered_constant, numbers_from, LooksBack, LooksAtPlace, bytes_filled, size_of_object, ConstantTree, bytes_of_constants, with_list, with_constant}
use Rattle.typing.proofs.ConstantTables.{lists_kept}

abbrev pub AllLookBack : List TypedObject → Type 0
AllLookBack objects =
    All (λ (numbered : ℕ × TypedObject). LooksBack numbered.0 (numbered.1).home) (enumerate_from 0 objects)

-- the objects that AT looks back at have a place, and values have room in their objects
abbrev pub AllAtPlaces : (objects each : List TypedObject) → Type 0
AllAtPlaces objects each = All (λ (object : TypedObject). LooksAtPlace objects object.home) each

abbrev pub HasRoom : TypedObject → Type 0
HasRoom object = bytes_filled object.home ≤ size_of_object object

-- the objects and the constants of a text so far
pub record AreStorable (objects : List TypedObject) (constants : Constants) : Type 0 where
  pub objects_stand : filter_map object_in constants.items
      ≡ filter_map numbered_constant (enumerate_from 0 objects)
  pub lists_stand : filter_map list_in constants.items ≡ numbers_from 0 (length constants.lists)
  pub look_back : AllLookBack objects
  pub at_places : AllAtPlaces objects objects
  pub have_room : All HasRoom objects

pub enumerate_more : {X : Type 0} (first : ℕ) (before : List X) (x : X) (last : ℕ)
    → first + length before ≡ last
    → enumerate_from first (before ++ x ∷ []) ≡ enumerate_from first before ++ (last, x) ∷ []
enumerate_more first [] x last is = ap (λ (number : ℕ). (number, x) ∷ []) (omega (arith, is))
enumerate_more first (y ∷ before) x last is =
    ap (λ rest. (first, y) ∷ rest) (enumerate_more (first + 1) before x last (omega (arith, is)))

numbers_more : (first count last : ℕ) → first + count ≡ last
    → numbers_from first (suc count) ≡ numbers_from first count ++ last ∷ []
numbers_more first zero last is = ap (λ (number : ℕ). number ∷ []) (omega (arith, is))
numbers_more first (suc count) last is =
    ap (λ rest. first ∷ rest) (numbers_more (first + 1) count last (omega (arith, is)))

-- one more constant list
pub list_more : {objects : List TypedObject} {constants : Constants} (list : List ConstantTree)
    → AreStorable objects constants → AreStorable objects (with_list list constants)
list_more {objects} {constants} list are =
    let new : List ConstantItem = ConstantList (length constants.lists) ∷ [] in
    let bytes : List (List ℕ) = bytes_of_constants list ∷ [] in
    let count_after : suc (length constants.lists) ≡ length (constants.lists ++ bytes) =
    omega (arith, length-append constants.lists bytes) in
    record {
      objects_stand = filter_map-append object_in constants.items new
          ∙ append-nil (filter_map object_in constants.items) ∙ are.objects_stand;
      lists_stand = filter_map-append list_in constants.items new
          ∙ ap (λ (numbers : List ℕ). numbers ++ length constants.lists ∷ []) are.lists_stand
          ∙ sym (numbers_more 0 (length constants.lists) (length constants.lists) (omega arith))
          ∙ ap (numbers_from 0) count_after;
      look_back = are.look_back;
      at_places = are.at_places;
      have_room = are.have_room;
    }

-- one more object
abbrev number_to_list : Option ℕ → List ℕ
number_to_list number = cons_option number []

objects_in_constants : (home : Home) (number : ℕ) (constants : Constants)
    → filter_map object_in (with_constant home number constants).items
    ≡ filter_map object_in constants.items ++ number_to_list (constant_number number home)
objects_in_constants (InConstants values) number constants =
    filter_map-append object_in constants.items (ConstantObject number ∷ [])
objects_in_constants home number constants = sym (append-nil (filter_map object_in constants.items))

lists_in_constants : (home : Home) (number : ℕ) (constants : Constants)
    → filter_map list_in (with_constant home number constants).items ≡ filter_map list_in constants.items
lists_in_constants (InConstants values) number constants =
    filter_map-append list_in constants.items (ConstantObject number ∷ [])
    ∙ append-nil (filter_map list_in constants.items)
lists_in_constants home number constants = refl

get_later : (P : TypedObject → Type 0) (objects others : List TypedObject) (number : ℕ)
    → IsSomeAnd (slice_get objects number) P → IsSomeAnd (slice_get (objects ++ others) number) P
get_later P [] others number is = absurd is
get_later P (object ∷ objects) others zero is = is
get_later P (object ∷ objects) others (suc number) is = get_later P objects others number is

pub place_later : (home : Home) (objects others : List TypedObject)
    → LooksAtPlace objects home → LooksAtPlace (objects ++ others) home
place_later (Placed (AtObject other offset)) objects others looks = get_later _ objects others other looks
place_later (Placed (AtNumber address)) objects others looks = tt
place_later home objects others looks = tt

pub object_more : {objects : List TypedObject} {constants : Constants} (object : TypedObject)
    → LooksBack (length objects) object.home → LooksAtPlace objects object.home → HasRoom object
    → AreStorable objects constants
    → AreStorable (objects ++ object ∷ []) (with_constant object.home (length objects) constants)
object_more {objects} {constants} object back looks room are =
    let after : List TypedObject = objects ++ object ∷ [] in
    let AtPlace : TypedObject → Type 0 = λ each. LooksAtPlace after each.home in
    let places_before : AllAtPlaces after objects =
    All-weaker (λ (each : TypedObject). LooksAtPlace objects each.home) AtPlace
    (λ each is. place_later each.home objects (object ∷ []) is) objects are.at_places in
    let count : ℕ = length objects in
    let all = enumerate_more 0 objects object count (omega arith) in
    let before : List (ℕ × TypedObject) = enumerate_from 0 objects in
    let LookBack : ℕ × TypedObject → Type 0 = λ numbered. LooksBack numbered.0 (numbered.1).home in
    record {
      objects_stand = objects_in_constants object.home count constants
          ∙ ap (λ (numbers : List ℕ). numbers ++ number_to_list (constant_number count object.home))
          are.objects_stand
          ∙ sym (filter_map-append numbered_constant before ((count, object) ∷ []))
          ∙ ap (filter_map numbered_constant) (sym all);
      lists_stand = lists_in_constants object.home count constants ∙ are.lists_stand
          ∙ ap (λ (lists : List (List ℕ)). numbers_from 0 (length lists))
          (sym (lists_kept object.home count constants));
      look_back = subst (λ (numbered : List (ℕ × TypedObject)). All LookBack numbered) (sym all)
          (All-append LookBack before ((count, object) ∷ []) are.look_back
          (All-cons LookBack (count, object) [] back (All-nil LookBack)));
      at_places = All-append AtPlace objects (object ∷ []) places_before
          (All-cons AtPlace object [] (place_later object.home objects (object ∷ []) looks)
          (All-nil AtPlace));
      have_room = All-append HasRoom objects (object ∷ []) are.have_room
          (All-cons HasRoom object [] room (All-nil HasRoom));
    }

-- what looks back from a place looks back from all that come after it
pub back_later : (home : Home) (number : ℕ) → LooksBack number home → LooksBack (number + 1) home
back_later (Placed (AtObject other offset)) number back = omega (arith, back)
back_later (Placed (AtNumber address)) number back = tt
back_later home number back = tt

-- nothing so far
pub none_yet : AreStorable [] (record { lists = []; items = [] })
none_yet =
    record { objects_stand = refl; lists_stand = refl; look_back = All-nil _; at_places = All-nil _; have_room = All-nil _ }
