-- What a module has lies as its storage and AT say.
use Rattle.placing.proofs.Prelude.{◌≡◌, ℕ, ◌+◌, List, [], ◌∷◌, ◌++◌, map, refl, sym, ap, ◌∙◌, option_map, zip, filter, filter_map, cons_option, filter-append, Home, InData, InConstants, Placed, BasedOn, Elsewhere, Nowhere, InFrame, TypedObject, TypedModule, size_of_object, Code, Data, Slot, bytes_in_data, is_object, constants_before, slot_of_list, slot_at, ModulePlacement, PlacedPiece, kind_of, piece_of, object_piece, list_piece, pieces_of_module, has_own_place, Bases, address_of_slot, address_by_home, map-append, addresses_of}
use Rattle.placing.proofs.LawStorage.{slots_of, list_slots_of, all_slots, own_slots}
use Rattle.placing.proofs.LawPieces.{slot_piece}

-- objects that are numbered from one on, with their addresses
abbrev pub addresses_from :
    TypedModule → Bases → (before : List ℕ) → (number in_data : ℕ) → List TypedObject → List ℕ
addresses_from typed bases before number in_data objects =
    addresses_of bases before (zip objects (slots_of typed number in_data objects))

abbrev pub placed_from :
    TypedModule → Bases → (before : List ℕ) → (number in_data : ℕ) → List TypedObject → List (TypedObject × ℕ)
placed_from typed bases before number in_data objects =
    zip objects (addresses_from typed bases before number in_data objects)

-- the address of the object that stands first
abbrev pub address_here : TypedModule → Bases → (before : List ℕ) → (number in_data : ℕ)
    → TypedObject → Home → ℕ
address_here typed bases before number in_data object home =
    address_by_home bases before (slot_at in_data (constants_before typed (is_object number)) object home)
    home

-- the pieces with a place of their own are those of the slots
own_by_home :
    (bases : Bases) (before : List ℕ) (in_data in_code : ℕ) (object : TypedObject) (home : Home)
    (pieces : List PlacedPiece) (slots : List Slot)
    → filter has_own_place pieces ≡ map (slot_piece bases) slots
    → filter has_own_place
    (cons_option
    (option_map
    (piece_of (address_by_home bases before (slot_at in_data in_code object home) home) object)
    (kind_of home))
    pieces)
    ≡ map (slot_piece bases) (cons_option (slot_at in_data in_code object home) slots)
own_by_home bases before in_data in_code object (InData values) pieces slots same =
    ap (λ rest.
    slot_piece bases (record { segment = Data; offset = in_data; size = size_of_object object }) ∷ rest) same
own_by_home bases before in_data in_code object (InConstants values) pieces slots same =
    ap (λ rest.
    slot_piece bases (record { segment = Code; offset = in_code; size = size_of_object object }) ∷ rest) same
own_by_home bases before in_data in_code object (Placed at) pieces slots same = same
own_by_home bases before in_data in_code object (BasedOn base) pieces slots same = same
own_by_home bases before in_data in_code object Elsewhere pieces slots same = same
own_by_home bases before in_data in_code object Nowhere pieces slots same = same
own_by_home bases before in_data in_code object (InFrame procedure) pieces slots same = same

own_objects :
    (typed : TypedModule) (bases : Bases) (before : List ℕ) (number in_data : ℕ) (objects : List TypedObject)
    → filter has_own_place (filter_map object_piece (placed_from typed bases before number in_data objects))
    ≡ map (slot_piece bases) (all_slots (slots_of typed number in_data objects))
own_objects typed bases before number in_data [] = refl
own_objects typed bases before number in_data (object ∷ others) =
    own_by_home bases before in_data (constants_before typed (is_object number)) object object.home
    (filter_map object_piece
    (placed_from typed bases (before ++ address_here typed bases before number in_data object object.home
    ∷ [])
    (number + 1) (in_data + bytes_in_data object.home object) others))
    (all_slots (slots_of typed (number + 1) (in_data + bytes_in_data object.home object) others))
    (own_objects typed bases (before ++ address_here typed bases before number in_data object object.home
    ∷ [])
    (number + 1) (in_data + bytes_in_data object.home object) others)

pub list_pieces :
    (typed : TypedModule) (bases : Bases) (number : ℕ) (lists : List (List ℕ))
    → map list_piece (zip lists (map (address_of_slot bases) (list_slots_of typed number lists)))
    ≡ map (slot_piece bases) (list_slots_of typed number lists)
list_pieces typed bases number [] = refl
list_pieces typed bases number (bytes ∷ others) =
    ap (λ rest. slot_piece bases (slot_of_list typed number bytes) ∷ rest)
    (list_pieces typed bases (number + 1) others)

own_lists :
    (typed : TypedModule) (bases : Bases) (number : ℕ) (lists : List (List ℕ))
    → filter has_own_place (map (slot_piece bases) (list_slots_of typed number lists))
    ≡ map (slot_piece bases) (list_slots_of typed number lists)
own_lists typed bases number [] = refl
own_lists typed bases number (bytes ∷ others) =
    ap (λ rest. slot_piece bases (slot_of_list typed number bytes) ∷ rest)
    (own_lists typed bases (number + 1) others)

-- where a module lies by its own passes
abbrev pub placed_by_slots : Bases → TypedModule → ModulePlacement
placed_by_slots bases typed = record {
  objects = addresses_from typed bases [] 0 0 typed.objects;
  lists = map (address_of_slot bases) (list_slots_of typed 0 typed.constants.lists);
}

pub own_pieces_are :
    (bases : Bases) (typed : TypedModule)
    → filter has_own_place (pieces_of_module (typed, placed_by_slots bases typed))
    ≡ map (slot_piece bases) (own_slots typed)
own_pieces_are bases typed =
    filter-append has_own_place (filter_map object_piece (placed_from typed bases [] 0 0 typed.objects))
    (map list_piece
    (zip typed.constants.lists (map (address_of_slot bases) (list_slots_of typed 0 typed.constants.lists))))
    ∙ ap (λ pieces.
    pieces
    ++ filter has_own_place
    (map list_piece
    (zip typed.constants.lists (map (address_of_slot bases) (list_slots_of typed 0 typed.constants.lists)))))
    (own_objects typed bases [] 0 0 typed.objects)
    ∙ ap (λ pieces.
    map (slot_piece bases) (all_slots (slots_of typed 0 0 typed.objects)) ++ filter has_own_place pieces)
    (list_pieces typed bases 0 typed.constants.lists)
    ∙ ap (λ pieces. map (slot_piece bases) (all_slots (slots_of typed 0 0 typed.objects)) ++ pieces)
    (own_lists typed bases 0 typed.constants.lists)
    ∙ sym (map-append (slot_piece bases) (all_slots (slots_of typed 0 0 typed.objects))
    (list_slots_of typed 0 typed.constants.lists))
