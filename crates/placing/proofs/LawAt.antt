-- Objects with AT lie where that says, and apart from CODE and STACK where they are not refused.
use Rattle.placing.proofs.Prelude.{◌≡◌, ℕ, suc, ◌+◌, ◌%◌, ◌<◌, Bool, true, false, List, [], ◌∷◌, ◌++◌, length, refl, sym, ap, subst, ◌∙◌, option_map, ◌&&◌, ◌||◌, filter_map, slice_index, AllByRecursion, cons_option, enumerate_from, true≢false, append_assoc, length-append, get_or_append_left, Range, Meets, AtNumber, AtObject, AtAddress, Home, InData, InConstants, Placed, BasedOn, Elsewhere, Nowhere, InFrame, TypedObject, TypedModule, size_of_object, LooksBack, Slot, bytes_in_data, is_object, constants_before, slot_at, ModulePlacement, AtPiece, PlacedPiece, range_of, kind_of, piece_of, object_piece, LiesByHome, Bases, passes_memory, overlaps, has_at, may_not_lie, is_misplaced, address_by_home, overlaps_meets, range_in_memory}
use Rattle.placing.proofs.LawStorage.{slots_of, list_slots_of, all_slots}
use Rattle.placing.proofs.LawPieces.{InPlace, slot_piece}
use Rattle.placing.proofs.LawModule.{addresses_from, placed_from, address_here}

-- ranges that the test does not find to overlap
pub no_overlap : (left right : Range) → overlaps left right ≡ false → ¬ Meets left right
no_overlap left right apart = λ meets. true≢false (sym ((overlaps_meets left right).1 meets) ∙ apart)

pub three_false :
    (a b c : Bool) → (a || b || c) ≡ false → (a ≡ false) × (b ≡ false) × (c ≡ false)
three_false false false false none = (refl, refl, refl)
three_false true b c none = absurd (true≢false none)
three_false false true c none = absurd (true≢false none)
three_false false false true none = absurd (true≢false none)

may_lie :
    (code_part data_part code stack range : Range)
    → may_not_lie code stack range ≡ false
    → InPlace code_part data_part code stack (record { kind = AtPiece; range = range })
may_lie code_part data_part code stack range fine =
    let each : (passes_memory range ≡ false) × (overlaps range code ≡ false)
    × (overlaps range stack ≡ false) =
    three_false (passes_memory range) (overlaps range code) (overlaps range stack) fine in
    record {
      ends = range_in_memory range each.0;
      lies = (no_overlap range code each.1, no_overlap range stack each.2);
    }

abbrev address_at_here : Bases → (before : List ℕ) → (in_data in_code : ℕ) → TypedObject → Home → ℕ
address_at_here bases before in_data in_code object home =
    address_by_home bases before (slot_at in_data in_code object home) home

-- the objects of a module lie in place where their slots do and what has AT is not misplaced
in_place_by_home :
    (code_part data_part code stack : Range) (bases : Bases) (before : List ℕ) (in_data in_code : ℕ)
    (object : TypedObject) (home : Home) (pieces : List PlacedPiece) (slots : List Slot)
    → ((at : AtAddress)
    → home ≡ Placed at
    → may_not_lie code stack
    (range_of (address_at_here bases before in_data in_code object home) (size_of_object object)) ≡ false)
    → (AllByRecursion (λ slot. InPlace code_part data_part code stack (slot_piece bases slot)) slots
    → AllByRecursion (InPlace code_part data_part code stack) pieces)
    → AllByRecursion (λ slot. InPlace code_part data_part code stack (slot_piece bases slot))
    (cons_option (slot_at in_data in_code object home) slots)
    → AllByRecursion (InPlace code_part data_part code stack)
    (cons_option (option_map (piece_of (address_at_here bases before in_data in_code object home) object)
    (kind_of home)) pieces)
in_place_by_home code_part data_part code stack bases before in_data in_code object (InData values)
    pieces slots at rest all =
    (all.0, rest all.1)
in_place_by_home code_part data_part code stack bases before in_data in_code object (InConstants values)
    pieces slots at rest all =
    (all.0, rest all.1)
in_place_by_home code_part data_part code stack bases before in_data in_code object (Placed where_at) pieces
    slots at rest all = (
      may_lie code_part data_part code stack
          (range_of (address_at_here bases before in_data in_code object (Placed where_at))
          (size_of_object object))
          (at where_at refl),
      rest all,
    )
in_place_by_home code_part data_part code stack bases before in_data in_code object (BasedOn base)
    pieces slots at rest all =
    rest all
in_place_by_home code_part data_part code stack bases before in_data in_code object Elsewhere
    pieces slots at rest all =
    rest all
in_place_by_home code_part data_part code stack bases before in_data in_code object Nowhere
    pieces slots at rest all =
    rest all
in_place_by_home code_part data_part code stack bases before in_data in_code object (InFrame procedure)
    pieces slots at rest all =
    rest all

-- what is not misplaced and has AT may lie where it does
not_misplaced :
    (code stack : Range) (object : TypedObject) (home : Home) (range : Range)
    → (has_at home && may_not_lie code stack range) ≡ false
    → (at : AtAddress)
    → home ≡ Placed at
    → may_not_lie code stack range ≡ false
not_misplaced code stack object home range fine at is =
    sym (ap (λ home. has_at home && may_not_lie code stack range) is) ∙ fine

pub objects_in_place :
    (code_part data_part code stack : Range) (typed : TypedModule) (bases : Bases) (before : List ℕ)
    (number in_data : ℕ) (objects : List TypedObject)
    → AllByRecursion (λ (placed : TypedObject × ℕ). is_misplaced code stack placed ≡ false)
    (placed_from typed bases before number in_data objects)
    → AllByRecursion (λ slot. InPlace code_part data_part code stack (slot_piece bases slot))
    (all_slots (slots_of typed number in_data objects))
    → AllByRecursion (InPlace code_part data_part code stack)
    (filter_map object_piece (placed_from typed bases before number in_data objects))
objects_in_place code_part data_part code stack typed bases before number in_data [] fine all = tt
objects_in_place code_part data_part code stack typed bases before number in_data (object ∷ others) fine all =
    let after : List ℕ = before ++ address_here typed bases before number in_data object object.home ∷ [] in
    in_place_by_home code_part data_part code stack bases before in_data
    (constants_before typed (is_object number)) object object.home
    (filter_map object_piece
    (placed_from typed bases after (number + 1) (in_data + bytes_in_data object.home object) others))
    (all_slots (slots_of typed (number + 1) (in_data + bytes_in_data object.home object) others))
    (not_misplaced code stack object object.home
    (range_of (address_here typed bases before number in_data object object.home) (size_of_object object))
    fine.0)
    (λ rest.
    objects_in_place code_part data_part code stack typed bases after (number + 1)
    (in_data + bytes_in_data object.home object) others fine.1 rest)
    all

-- AT looks at objects before, whose addresses are those of all objects
at_by_home :
    (placed : ModulePlacement) (bases : Bases) (before rest : List ℕ) (number in_data in_code : ℕ)
    (object : TypedObject) (home : Home)
    → before ++ rest ≡ placed.objects
    → number ≡ length before
    → LooksBack number home
    → LiesByHome placed (address_at_here bases before in_data in_code object home) home
at_by_home placed bases before rest number in_data in_code object (Placed (AtNumber address))
    whole number_is looks =
    refl
at_by_home placed bases before rest number in_data in_code object (Placed (AtObject other offset))
    whole number_is looks =
    ap (λ address. (address + offset) % 65536)
    (sym (ap (λ addresses. slice_index addresses other) (sym whole)
    ∙ get_or_append_left before rest 0 other (subst (λ n. other < n) number_is looks)))
at_by_home placed bases before rest number in_data in_code object (InData values) whole number_is looks = tt
at_by_home placed bases before rest number in_data in_code object (InConstants values) whole number_is looks =
    tt
at_by_home placed bases before rest number in_data in_code object (BasedOn base) whole number_is looks = tt
at_by_home placed bases before rest number in_data in_code object Elsewhere whole number_is looks = tt
at_by_home placed bases before rest number in_data in_code object Nowhere whole number_is looks = tt
at_by_home placed bases before rest number in_data in_code object (InFrame procedure) whole number_is looks =
    tt

pub objects_where_at_says :
    (placed : ModulePlacement) (typed : TypedModule) (bases : Bases) (before : List ℕ) (number in_data : ℕ)
    (objects : List TypedObject)
    → before ++ addresses_from typed bases before number in_data objects ≡ placed.objects
    → number ≡ length before
    → AllByRecursion (λ (numbered : ℕ × TypedObject). LooksBack numbered.0 (numbered.1).home)
    (enumerate_from number objects)
    → AllByRecursion (λ (object : TypedObject × ℕ). LiesByHome placed object.1 (object.0).home)
    (placed_from typed bases before number in_data objects)
objects_where_at_says placed typed bases before number in_data [] whole number_is looks = tt
objects_where_at_says placed typed bases before number in_data (object ∷ others) whole number_is looks =
    let address : ℕ = address_here typed bases before number in_data object object.home in
    let rest : List ℕ =
    addresses_from typed bases (before ++ address ∷ []) (number + 1)
    (in_data + bytes_in_data object.home object)
    others in (
      at_by_home placed bases before (address ∷ rest) number in_data
          (constants_before typed (is_object number))
          object object.home whole number_is looks.0,
      objects_where_at_says placed typed bases (before ++ address ∷ []) (number + 1)
          (in_data + bytes_in_data object.home object) others
          (append_assoc before (address ∷ []) rest ∙ whole)
          (ap (λ n. n + 1) number_is ∙ sym (length-append before (address ∷ []))) looks.1,
    )

-- each object has an address
pub length_addresses :
    (typed : TypedModule) (bases : Bases) (before : List ℕ) (number in_data : ℕ) (objects : List TypedObject)
    → length (addresses_from typed bases before number in_data objects) ≡ length objects
length_addresses typed bases before number in_data [] = refl
length_addresses typed bases before number in_data (object ∷ others) =
    one_more
    (length
    (addresses_from typed bases (before
    ++ address_here typed bases before number in_data object object.home ∷ [])
    (number + 1) (in_data + bytes_in_data object.home object) others))
    (length others)
    (length_addresses typed bases
    (before ++ address_here typed bases before number in_data object object.home ∷ []) (number + 1)
    (in_data + bytes_in_data object.home object) others)
  where
    one_more : (m n : ℕ) → m ≡ n → suc m ≡ suc n
    one_more m n same = ap suc same

pub length_lists :
    (typed : TypedModule) (number : ℕ) (lists : List (List ℕ))
    → length (list_slots_of typed number lists) ≡ length lists
length_lists typed number [] = refl
length_lists typed number (bytes ∷ others) = ap suc (length_lists typed (number + 1) others)
