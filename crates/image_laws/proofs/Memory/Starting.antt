-- Where it is declared the memory is the one that a run of the source starts with.
use Rattle.image_laws.proofs.Prelude.{◌≡◌, ℕ, suc, ◌+◌, ◌-◌, ◌%◌, ◌<◌, ◌≤◌, ◌⊎◌, inl, inr, Bool, true, false, ◌&&◌, List, [], ◌∷◌, length, map, flat_map, take, Some, None, option_map, refl, ap, sym, subst, ◌∙◌, ⊎_elim, arith, filter_map, slice_get, slice_index, sum, zip, AllByRecursion, enumerate_from, list_any, cases_lt, All-from_recursion, recursion_from_All, sum_by-cons, none-some, slice_get-get_or, slice_get_within, get_or_from_slice_get, byte_at, IsIn, size_of_object, Home, InData, InConstants, Placed, BasedOn, Elsewhere, Nowhere, InFrame, TypedObject, TypedModule, Slot, Bases, StaticPiece, ConstantPiece, AtPiece, ModulePlacement, PlacedPiece, EndsInMemory, kind_of, piece_of, range_of, holds_byte, is_constant, is_constant_piece, is_declared, list_piece, object_piece, pieces_of, pieces_of_module, PlacingPlan, bases_from, placement_by, Contents, Covers, IsAmong, StartsAs, address_of_object, bytes_of_value, values_in, contents_of, contents_of_list, contents_of_module, contents_of_object, starting_memory, data_bytes, slot_of_object, Decides-declared, Decides-holds, writable_not_in_code, of_all, starts_as, merge_is, Code, Data, linked_modules, Image, joined, ObjectModule, length_of, AreObjectsOf, bases_of, code_lengths_of, plan_of, IsInMemory, StartsAsItsSource, placement_of, IsLinked, placed_by, and_parts, same_Some, got_both}
use Rattle.image_laws.proofs.Images.Objects.{others_stay}
use Rattle.image_laws.proofs.Programs.Lengths.{code_length_is, data_length_is, data_sum}
use Rattle.image_laws.proofs.Memory.Among.{any_either, any_of_filter, any_of_filter_map, any_of_flat_map, any_of_map, among_back, among_either, among_front, in_flat_map, in_map, numbered, of_among, of_any, of_flat_map, of_map, of_numbered, of_zip}
use Rattle.image_laws.proofs.Memory.Modules.{bases_found, in_slot, is_linked}
use Rattle.image_laws.proofs.Memory.Objects.{empty_byte, filled_byte, filling, in_an_object, list_byte, object_byte}

-- an address is in a range or not
in_or_out : (start size address : ℕ)
    → (((start ≤ address) × (address < start + size)) ⊎ (((start ≤ address) × (address < start + size)) → ⊥))
in_or_out start size address =
    ⊎_elim (λ (low : address < start). inr (λ within. omega (arith, low, within.0)))
    (λ (past : start ≤ address).
    ⊎_elim (λ (below : address < start + size). inl (past, below))
    (λ (end : start + size ≤ address). inr (λ within. omega (arith, end, within.1)))
    (cases_lt address (start + size)))
    (cases_lt address start)

-- some contents cover an address, or none do
covered_or_not :
    (all : List Contents) (address : ℕ)
    → ((wanted : Contents) × IsAmong wanted all × Covers wanted address)
    ⊎ AllByRecursion (λ (contents : Contents). Covers contents address → ⊥) all
covered_or_not [] address = inr tt
covered_or_not (contents ∷ all) address =
    by (in_or_out contents.0 (length contents.1) address) (covered_or_not all address)
  where
    by : Covers contents address ⊎ (Covers contents address → ⊥)
        → ((wanted : Contents) × IsAmong wanted all × Covers wanted address)
        ⊎ AllByRecursion (λ (contents : Contents). Covers contents address → ⊥) all
        → ((wanted : Contents) × IsAmong wanted (contents ∷ all) × Covers wanted address)
        ⊎ AllByRecursion (λ (contents : Contents). Covers contents address → ⊥) (contents ∷ all)
    by (inl covers) rest = inl (contents, inl refl, covers)
    by (inr not) (inl found) = inl (found.0, inr found.1, found.2)
    by (inr not) (inr none) = inr (not, none)

-- the module whose variables have an address of the data
module_of :
    {A : Type 0} (code data_base : ℕ) (modules : List TypedModule) (objects : List ObjectModule) (address : ℕ)
    → AreObjectsOf modules objects
    → data_base ≤ address
    → address < data_base + data_sum modules
    → ((number : ℕ) (typed : TypedModule) (bases : Bases)
    → slice_get modules number ≡ Some typed
    → slice_get (bases_from code data_base modules (code_lengths_of objects)) number ≡ Some bases
    → bases.data_base ≤ address
    → address < bases.data_base + data_bytes typed.objects
    → A)
    → A
module_of code data_base [] [] address are past below then_is = absurd (omega (arith, past, below))
module_of code data_base [] (object ∷ objects) address are past below then_is = absurd are
module_of code data_base (typed ∷ others) [] address are past below then_is = absurd are
module_of code data_base (typed ∷ others) (object ∷ objects) address are past below then_is =
    ⊎_elim
    (λ (here : address < data_base + data_bytes typed.objects).
    then_is 0 typed (record { code_base = code; data_base = data_base }) refl refl past here)
    (λ (later : data_base + data_bytes typed.objects ≤ address).
    let total = sum_by-cons (λ (one : TypedModule). data_bytes one.objects) typed others in
    module_of (code + length_of object Code) (data_base + data_bytes typed.objects) others
    objects address are.1 later
    (omega (arith, below, total))
    (λ number one bases typed_is bases_is past below. then_is (suc number) one bases typed_is
    bases_is past below))
    (cases_lt address (data_base + data_bytes typed.objects))

module _
    (plan : PlacingPlan) (modules : List TypedModule) (objects : List ObjectModule) (merged : ObjectModule)
    (image : Image) (before after : List ℕ)
    (is : IsInMemory plan modules objects merged image before after)
  where
    abbrev AddressOf : (number_of_module : ℕ) → TypedModule → (number : ℕ) → ℕ
    AddressOf number_of_module typed number =
        address_of_object modules (placement_of plan modules objects) number_of_module typed number

    abbrev AllContents : List Contents
    AllContents = contents_of modules (placement_of plan modules objects)

    linked :
        (number : ℕ) (typed : TypedModule)
        → slice_get modules number ≡ Some typed
        → IsLinked plan modules objects merged before after number typed
    linked number typed found = is_linked plan modules objects merged image before after is number typed found

    -- an object that is filled has a slot
    has_slot :
        {A : Type 0} (number_of_module number : ℕ) (typed : TypedModule) (object : TypedObject)
        (home : Home) (index : ℕ)
        → object.home ≡ home
        → index < length (flat_map (bytes_of_value (AddressOf number_of_module typed)) (values_in home))
        → ((slot : Slot) → slot_of_object typed number object object.home ≡ Some slot → A)
        → A
    has_slot number_of_module number typed object (InData values) index is_home within then_is =
        then_is _ (ap (slot_of_object typed number object) is_home)
    has_slot number_of_module number typed object (InConstants values) index is_home within then_is =
        then_is _ (ap (slot_of_object typed number object) is_home)
    has_slot number_of_module number typed object (Placed at) index is_home within then_is =
        absurd (omega (arith, within))
    has_slot number_of_module number typed object (BasedOn base) index is_home within then_is =
        absurd (omega (arith, within))
    has_slot number_of_module number typed object Elsewhere index is_home within then_is =
        absurd (omega (arith, within))
    has_slot number_of_module number typed object Nowhere index is_home within then_is =
        absurd (omega (arith, within))
    has_slot number_of_module number typed object (InFrame procedure) index is_home within then_is =
        absurd (omega (arith, within))

    -- a byte of contents stands where they lie
    filled_here :
        (number_of_module number : ℕ) (typed : TypedModule) (object : TypedObject) (address index : ℕ)
        → slice_get modules number_of_module ≡ Some typed
        → slice_get typed.objects number ≡ Some object
        → (at : IsLinked plan modules objects merged before after number_of_module typed)
        → slice_get (placed_by plan at.linked typed).objects number ≡ Some address
        → index < length (filling (AddressOf number_of_module typed) object)
        → byte_at after (address + index) ≡ slice_index
        (filling (AddressOf number_of_module typed) object) index
    filled_here number_of_module number typed object address index typed_is found at address_is within =
        has_slot number_of_module number typed object object.home index refl within
        (λ slot slot_is.
        let byte : ℕ = slice_index (filling (AddressOf number_of_module typed) object) index in
        let here : slice_get (filling (AddressOf number_of_module typed) object) index ≡ Some byte =
        slice_get-get_or (filling (AddressOf number_of_module typed) object) index 0 within in
        subst (λ (address : ℕ). byte_at after (address + index) ≡ byte)
        (get_or_from_slice_get (placed_by plan at.linked typed).objects number address 0 address_is)
        (object_byte plan modules objects merged image before after is number_of_module number
        typed object slot index
        (Some byte) at typed_is found slot_is
        (filled_byte (AddressOf number_of_module typed) object index byte here)))

    list_here :
        (number_of_module number : ℕ) (typed : TypedModule) (bytes : List ℕ) (address index : ℕ)
        → slice_get typed.constants.lists number ≡ Some bytes
        → (at : IsLinked plan modules objects merged before after number_of_module typed)
        → slice_get (placed_by plan at.linked typed).lists number ≡ Some address
        → index < length bytes
        → byte_at after (address + index) ≡ slice_index bytes index
    list_here number_of_module number typed bytes address index found at address_is within =
        subst (λ (address : ℕ). byte_at after (address + index) ≡ slice_index bytes index)
        (get_or_from_slice_get (placed_by plan at.linked typed).lists number address 0 address_is)
        (list_byte plan modules objects merged image before after is number_of_module number typed bytes index
        (slice_index bytes index) at found (slice_get-get_or bytes index 0 within))

    -- so each byte of all contents stands there
    of_module :
        (number_of_module : ℕ) (typed : TypedModule) (placed : ModulePlacement)
        (wanted : Contents) (index : ℕ)
        → slice_get modules number_of_module ≡ Some typed
        → slice_get (placement_of plan modules objects).modules number_of_module ≡ Some placed
        → IsAmong wanted
        (contents_of_module modules (placement_of plan modules objects) number_of_module typed placed)
        → index < length wanted.1
        → byte_at after (wanted.0 + index) ≡ slice_index wanted.1 index
    of_module number_of_module typed placed wanted index typed_is placed_is among within =
        by (among_either wanted
        (map (contents_of_object (AddressOf number_of_module typed)) (zip typed.objects placed.objects))
        (map contents_of_list (zip typed.constants.lists placed.lists)) among)
      where
        at : IsLinked plan modules objects merged before after number_of_module typed
        at = linked number_of_module typed typed_is

        placed_same : placed ≡ placed_by plan at.linked typed
        placed_same = same_Some placed (placed_by plan at.linked typed) (sym placed_is ∙ at.placed)

        P : Contents → Type 0
        P wanted = index < length wanted.1 → byte_at after (wanted.0 + index) ≡ slice_index wanted.1 index

        by_object :
            (number : ℕ) (object : TypedObject × ℕ)
            → slice_get (zip typed.objects placed.objects) number ≡ Some object
            → wanted ≡ contents_of_object (AddressOf number_of_module typed) object
            → byte_at after (wanted.0 + index) ≡ slice_index wanted.1 index
        by_object number object found same =
            of_zip typed.objects placed.objects number object found
            (λ object_is address_is.
            subst
            (λ (wanted : Contents).
            index < length wanted.1 → byte_at after (wanted.0 + index)
            ≡ slice_index wanted.1 index) (sym same)
            (λ short.
            filled_here number_of_module number typed object.0 object.1 index typed_is object_is at
            (subst (λ (placed : ModulePlacement). slice_get placed.objects number ≡ Some object.1)
            placed_same address_is)
            short) within)

        by_list :
            (number : ℕ) (list : List ℕ × ℕ)
            → slice_get (zip typed.constants.lists placed.lists) number ≡ Some list
            → wanted ≡ contents_of_list list
            → byte_at after (wanted.0 + index) ≡ slice_index wanted.1 index
        by_list number list found same =
            of_zip typed.constants.lists placed.lists number list found
            (λ list_is address_is.
            subst
            (λ (wanted : Contents).
            index < length wanted.1 → byte_at after (wanted.0 + index)
            ≡ slice_index wanted.1 index) (sym same)
            (λ short.
            list_here number_of_module number typed list.0 list.1 index list_is at
            (subst (λ (placed : ModulePlacement). slice_get placed.lists number ≡ Some list.1)
            placed_same address_is)
            short) within)

        by :
            IsAmong wanted
            (map (contents_of_object (AddressOf number_of_module typed)) (zip typed.objects placed.objects))
            ⊎ IsAmong wanted (map contents_of_list (zip typed.constants.lists placed.lists))
            → byte_at after (wanted.0 + index) ≡ slice_index wanted.1 index
        by (inl object) =
            of_map (contents_of_object (AddressOf number_of_module typed))
            (zip typed.objects placed.objects) wanted
            object (λ number one found same. by_object number one found same)
        by (inr list) =
            of_map contents_of_list (zip typed.constants.lists placed.lists) wanted list
            (λ number one found same. by_list number one found same)

    contents_stand :
        (wanted : Contents) (index : ℕ)
        → IsAmong wanted AllContents
        → index < length wanted.1
        → byte_at after (wanted.0 + index) ≡ slice_index wanted.1 index
    contents_stand wanted index among within =
        of_flat_map
        (λ (numbered : ℕ × (TypedModule × ModulePlacement)).
        contents_of_module modules (placement_of plan modules objects) numbered.0
        (numbered.1).0 (numbered.1).1)
        (enumerate_from 0 (zip modules (placement_of plan modules objects).modules)) wanted among
        (λ number one found there.
        of_numbered 0 (zip modules (placement_of plan modules objects).modules) number one found
        (λ same both.
        of_zip modules (placement_of plan modules objects).modules number one.1 both
        (λ typed_is placed_is.
        let same_number : number ≡ one.0 = omega (arith, same) in
        of_module one.0 (one.1).0 (one.1).1 wanted index
        (subst (λ (n : ℕ). slice_get modules n ≡ Some (one.1).0) same_number typed_is)
        (subst (λ (n : ℕ). slice_get (placement_of plan modules objects).modules n ≡ Some (one.1).1)
        same_number
        placed_is)
        there within)))

    -- an address that no contents cover
    abbrev IsUncovered : (address : ℕ) → Type 0
    IsUncovered address =
        (wanted : Contents) → IsAmong wanted AllContents → Covers wanted address → ⊥

    among_all :
        (number_of_module : ℕ) (typed : TypedModule) (placed : ModulePlacement) (wanted : Contents)
        → slice_get modules number_of_module ≡ Some typed
        → slice_get (placement_of plan modules objects).modules number_of_module ≡ Some placed
        → IsAmong wanted
        (contents_of_module modules (placement_of plan modules objects) number_of_module typed placed)
        → IsAmong wanted AllContents
    among_all number_of_module typed placed wanted typed_is placed_is among =
        in_flat_map
        (λ (numbered : ℕ × (TypedModule × ModulePlacement)).
        contents_of_module modules (placement_of plan modules objects) numbered.0
        (numbered.1).0 (numbered.1).1)
        (enumerate_from 0 (zip modules (placement_of plan modules objects).modules)) number_of_module
        (number_of_module, (typed, placed)) wanted
        (numbered 0 (zip modules (placement_of plan modules objects).modules)
        number_of_module number_of_module
        (typed, placed)
        (got_both modules (placement_of plan modules objects).modules number_of_module typed
        placed typed_is placed_is)
        (omega arith))
        among

    -- an object with a slot has there, where nothing covers it, what stood there before
    uncovered_object :
        (number_of_module number : ℕ) (typed : TypedModule) (object : TypedObject) (slot : Slot) (index : ℕ)
        → (at : IsLinked plan modules objects merged before after number_of_module typed)
        → slice_get modules number_of_module ≡ Some typed
        → slice_get typed.objects number ≡ Some object
        → slot_of_object typed number object object.home ≡ Some slot
        → index < size_of_object object
        → IsUncovered (slice_index (placed_by plan at.linked typed).objects number + index)
        → byte_at after (slice_index (placed_by plan at.linked typed).objects number + index)
        ≡ byte_at before (slice_index (placed_by plan at.linked typed).objects number + index)
    uncovered_object number_of_module number typed object slot index at typed_is found
        slot_is within uncovered =
        let address : ℕ = slice_index (placed_by plan at.linked typed).objects number in
        let count = (at.addresses).objects in
        let number_in = slice_get_within typed.objects number object found in
        let address_is : slice_get (placed_by plan at.linked typed).objects number ≡ Some address =
        slice_get-get_or (placed_by plan at.linked typed).objects number 0
        (omega (arith, count, number_in)) in
        let contents : Contents = contents_of_object (AddressOf number_of_module typed) (object, address) in
        let among : IsAmong contents AllContents =
        among_all number_of_module typed (placed_by plan at.linked typed) contents typed_is at.placed
        (among_front contents
        (map (contents_of_object (AddressOf number_of_module typed))
        (zip typed.objects (placed_by plan at.linked typed).objects))
        (map contents_of_list (zip typed.constants.lists (placed_by plan at.linked typed).lists))
        (in_map (contents_of_object (AddressOf number_of_module typed))
        (zip typed.objects (placed_by plan at.linked typed).objects) number (object, address)
        (got_both typed.objects (placed_by plan at.linked typed).objects number object address
        found address_is))) in
        ⊎_elim
        (λ (filled : index < length (filling (AddressOf number_of_module typed) object)).
        absurd (uncovered contents among (from_start address index, below address index _ filled)))
        (λ (past : length (filling (AddressOf number_of_module typed) object) ≤ index).
        object_byte plan modules objects merged image before after is number_of_module number typed
        object slot index None
        at typed_is found slot_is (empty_byte (AddressOf number_of_module typed) object index past within))
        (cases_lt index (length (filling (AddressOf number_of_module typed) object)))
      where
        from_start : (address index : ℕ) → address ≤ address + index
        from_start address index = omega arith

        below : (address index size : ℕ) → index < size → address + index < address + size
        below address index size less = omega (arith, less)

    -- a constant that nothing covers is no byte of a list, and of an object that nothing fills
    uncovered_in_module :
        (number_of_module : ℕ) (typed : TypedModule) (placed : ModulePlacement) (address : ℕ)
        → slice_get modules number_of_module ≡ Some typed
        → slice_get (placement_of plan modules objects).modules number_of_module ≡ Some placed
        → list_any (λ (piece : PlacedPiece). is_constant_piece piece && holds_byte address piece)
        (pieces_of_module (typed, placed)) ≡ true
        → IsUncovered address
        → byte_at after address ≡ byte_at before address
    uncovered_in_module number_of_module typed placed address typed_is placed_is holds uncovered =
        by (any_either (λ (piece : PlacedPiece). is_constant_piece piece && holds_byte address piece)
        (filter_map object_piece (zip typed.objects placed.objects))
        (map list_piece (zip typed.constants.lists placed.lists)) holds)
      where
        at : IsLinked plan modules objects merged before after number_of_module typed
        at = linked number_of_module typed typed_is

        placed_same : placed ≡ placed_by plan at.linked typed
        placed_same = same_Some placed (placed_by plan at.linked typed) (sym placed_is ∙ at.placed)

        moved :
            (number : ℕ) (object : TypedObject) (slot : Slot) (start : ℕ)
            → slice_get typed.objects number ≡ Some object
            → slot_of_object typed number object object.home ≡ Some slot
            → slice_index (placed_by plan at.linked typed).objects number ≡ start
            → start ≤ address
            → address < start + size_of_object object
            → byte_at after address ≡ byte_at before address
        moved number object slot start object_is slot_is start_is past below =
            let there : slice_index (placed_by plan at.linked typed).objects number + (address - start)
            ≡ address =
            omega (arith, start_is, past) in
            subst (λ (address : ℕ). byte_at after address ≡ byte_at before address) there
            (uncovered_object number_of_module number typed object slot (address - start) at
            typed_is object_is slot_is
            (omega (arith, past, below))
            (subst (λ (address : ℕ). IsUncovered address) (sym there) uncovered))

        by_home :
            (number : ℕ) (object : TypedObject) (start : ℕ) (piece : PlacedPiece) (home : Home)
            → slice_get typed.objects number ≡ Some object
            → slice_get placed.objects number ≡ Some start
            → object.home ≡ home
            → option_map (piece_of start object) (kind_of home) ≡ Some piece
            → is_constant_piece piece ≡ true
            → IsIn address piece.range
            → byte_at after address ≡ byte_at before address
        by_home number object start piece (InConstants values) object_is start_is home_is
            piece_is constant within =
            let whole : piece_of start object ConstantPiece ≡ piece =
            same_Some (piece_of start object ConstantPiece) piece piece_is in
            let inside : IsIn address (range_of start (size_of_object object)) =
            subst (λ (piece : PlacedPiece). IsIn address piece.range) (sym whole) within in
            moved number object _ start object_is (ap (slot_of_object typed number object) home_is)
            (get_or_from_slice_get (placed_by plan at.linked typed).objects number start 0
            (subst (λ (placed : ModulePlacement). slice_get placed.objects number ≡ Some start)
            placed_same start_is))
            inside.0 inside.1
        by_home number object start piece (InData values) object_is start_is home_is
            piece_is constant within =
            let bad : false ≡ true =
            ap is_constant_piece (same_Some (piece_of start object StaticPiece) piece piece_is) ∙ constant in
            absurd cc
        by_home number object start piece (Placed at) object_is start_is home_is piece_is constant within =
            let bad : false ≡ true =
            ap is_constant_piece (same_Some (piece_of start object AtPiece) piece piece_is) ∙ constant in
            absurd cc
        by_home number object start piece (BasedOn base) object_is start_is home_is piece_is constant within =
            absurd (none-some piece piece_is)
        by_home number object start piece Elsewhere object_is start_is home_is piece_is constant within =
            absurd (none-some piece piece_is)
        by_home number object start piece Nowhere object_is start_is home_is piece_is constant within =
            absurd (none-some piece piece_is)
        by_home number object start piece (InFrame procedure) object_is start_is home_is
            piece_is constant within =
            absurd (none-some piece piece_is)

        by_list :
            (number : ℕ) (list : List ℕ × ℕ)
            → slice_get (zip typed.constants.lists placed.lists) number ≡ Some list
            → holds_byte address (list_piece list) ≡ true
            → byte_at after address ≡ byte_at before address
        by_list number list found held =
            absurd (uncovered (contents_of_list list)
            (among_all number_of_module typed placed (contents_of_list list) typed_is placed_is
            (among_back (contents_of_list list)
            (map (contents_of_object (AddressOf number_of_module typed)) (zip typed.objects placed.objects))
            (map contents_of_list (zip typed.constants.lists placed.lists))
            (in_map contents_of_list (zip typed.constants.lists placed.lists) number list found)))
            ((Decides-holds address (list_piece list)).0 held))

        by :
            (list_any (λ (piece : PlacedPiece). is_constant_piece piece && holds_byte address piece)
            (filter_map object_piece (zip typed.objects placed.objects)) ≡ true)
            ⊎ (list_any (λ (piece : PlacedPiece). is_constant_piece piece && holds_byte address piece)
            (map list_piece (zip typed.constants.lists placed.lists)) ≡ true)
            → byte_at after address ≡ byte_at before address
        by (inl object) =
            any_of_filter_map (λ (piece : PlacedPiece). is_constant_piece piece && holds_byte address piece)
            object_piece
            (zip typed.objects placed.objects) object
            (λ number one piece found gives there.
            let tests = and_parts (is_constant_piece piece) (holds_byte address piece) there in
            of_zip typed.objects placed.objects number one found
            (λ object_is start_is.
            by_home number one.0 one.1 piece (one.0).home object_is start_is refl gives tests.0
            ((Decides-holds address piece).0 tests.1)))
        by (inr list) =
            of_any (λ (one : List ℕ × ℕ). is_constant_piece (list_piece one)
            && holds_byte address (list_piece one))
            (zip typed.constants.lists placed.lists)
            (sym (any_of_map (λ (piece : PlacedPiece). is_constant_piece piece && holds_byte address piece)
            list_piece
            (zip typed.constants.lists placed.lists)) ∙ list)
            (λ number one found there.
            by_list number one found (and_parts true (holds_byte address (list_piece one)) there).1)

    uncovered_constant :
        (address : ℕ)
        → is_constant modules (placement_of plan modules objects) address ≡ true
        → IsUncovered address
        → byte_at after address ≡ byte_at before address
    uncovered_constant address constant uncovered =
        any_of_flat_map (λ (piece : PlacedPiece). is_constant_piece piece && holds_byte address piece)
        pieces_of_module
        (zip modules (placement_of plan modules objects).modules)
        (any_of_filter (holds_byte address) is_constant_piece
        (pieces_of modules (placement_of plan modules objects)) constant)
        (λ number both found there.
        of_zip modules (placement_of plan modules objects).modules number both found
        (λ typed_is placed_is.
        uncovered_in_module number both.0 both.1 address typed_is placed_is there uncovered))

    -- what is not covered in the data segments
    uncovered_variable :
        (address : ℕ)
        → plan.data_base ≤ address
        → address < plan.data_base + data_sum modules
        → IsUncovered address
        → byte_at after address ≡ byte_at before address
    uncovered_variable address past below uncovered =
        module_of plan.code_base plan.data_base modules objects address is.made past below
        (λ number typed bases typed_is bases_is past_base below_end.
        let at = linked number typed typed_is in
        let same : bases ≡ bases_of plan at.linked =
        same_Some bases (bases_of plan at.linked)
        (sym bases_is ∙ bases_found plan modules objects number at.linked is.made at.found) in
        let base : bases.data_base ≡ (bases_of plan at.linked).data_base =
        ap (λ (bases : Bases). bases.data_base) same in
        let room : (bases_of plan at.linked).data_base + data_bytes typed.objects ≤ 65536 =
        (at.follows).data_in_memory in
        in_an_object typed.objects (address - bases.data_base) (omega (arith, past_base, below_end))
        (λ place object values inside found home within index_is.
        let slot_is = ap (slot_of_object typed place object) home in
        let slot_at : slice_index (placed_by plan at.linked typed).objects place
        ≡ ((bases_of plan at.linked).data_base + data_bytes (take place typed.objects)) % 65536 =
        in_slot plan modules objects merged image before after is number place typed
        object _ at found slot_is in
        let there : slice_index (placed_by plan at.linked typed).objects place + inside ≡ address =
        omega (arith, slot_at, room, base, past_base, below_end, index_is) in
        subst (λ (address : ℕ). byte_at after address ≡ byte_at before address) there
        (uncovered_object number place typed object _ inside at typed_is found slot_is within
        (subst (λ (address : ℕ). IsUncovered address) (sym there) uncovered))))

    -- a declared byte that nothing covers is what stood there before
    uncovered_byte :
        (address : ℕ)
        → address < 65536
        → is_declared modules (placement_of plan modules objects) address ≡ true
        → IsUncovered address
        → byte_at after address ≡ byte_at before address
    unfolding placement_by
    uncovered_byte address small declared uncovered =
        by (is_constant modules (placement_of plan modules objects) address) refl
      where
        merged_is : merged ≡ joined objects (linked_modules objects)
        merged_is = (merge_is objects merged (is.placed).merge).said

        code_size : length_of merged Code ≡ sum (code_lengths_of objects)
        code_size =
            ap (λ (object : ObjectModule). length_of object Code) merged_is
            ∙ code_length_is modules objects is.made

        data_size : length_of merged Data ≡ data_sum modules
        data_size =
            ap (λ (object : ObjectModule). length_of object Data) merged_is
            ∙ data_length_is modules objects is.made

        by :
            (constant : Bool)
            → is_constant modules (placement_of plan modules objects) address ≡ constant
            → byte_at after address ≡ byte_at before address
        by true constant = uncovered_constant address constant uncovered
        by false variable =
            ⊎_elim
            (λ (in_data : (plan.data_base ≤ address) × (address < plan.data_base + data_sum modules)).
            uncovered_variable address in_data.0 in_data.1 uncovered)
            (λ (not_data : (plan.data_base ≤ address) × (address < plan.data_base + data_sum modules) → ⊥).
            others_stay objects merged (plan_of plan) image before after is.placed address small
            (λ within.
            writable_not_in_code modules (placement_of plan modules objects) address
            is.lawful declared variable
            (within.0, subst (λ (size : ℕ). address < plan.code_base + size) code_size within.1))
            (λ within.
            not_data (within.0, subst (λ (size : ℕ). address < plan.data_base + size) data_size within.1)))
            (in_or_out plan.data_base (data_sum modules) address)

    declared_small :
        (address : ℕ)
        → is_declared modules (placement_of plan modules objects) address ≡ true
        → address < 65536
    declared_small address declared =
        of_any (holds_byte address) (pieces_of modules (placement_of plan modules objects)) declared
        (λ number piece found holds.
        let ends : EndsInMemory piece.range =
        of_all (λ (piece : PlacedPiece). EndsInMemory piece.range)
        (pieces_of modules (placement_of plan modules objects)) number piece
        (recursion_from_All (λ (piece : PlacedPiece). EndsInMemory piece.range)
        (pieces_of modules (placement_of plan modules objects)) (is.lawful).in_memory) found in
        let within = (Decides-holds address piece).0 holds in
        omega (arith, ends, within.1))

    starts_so :
        (address : ℕ)
        → is_declared modules (placement_of plan modules objects) address ≡ true
        → byte_at after address
        ≡ byte_at (starting_memory modules (placement_of plan modules objects) before) address
    starts_so address declared =
        ⊎_elim
        (λ (found : (wanted : Contents) × IsAmong wanted AllContents × Covers wanted address).
        let wanted : Contents = found.0 in
        let past = found.2.0 in
        let below = found.2.1 in
        let within : address - wanted.0 < length wanted.1 = omega (arith, past, below) in
        let there : wanted.0 + (address - wanted.0) ≡ address = omega (arith, past) in
        subst
        (λ (address : ℕ).
        byte_at after address ≡ byte_at (starting_memory modules (placement_of plan modules objects) before)
        address)
        there
        (contents_stand wanted (address - wanted.0) found.1 within
        ∙ sym (starts.covered wanted found.1 (address - wanted.0) within)))
        (λ (none : AllByRecursion (λ (contents : Contents). Covers contents address → ⊥) AllContents).
        uncovered_byte address (declared_small address declared) declared
        (λ wanted among covers.
        of_among (λ (contents : Contents). Covers contents address → ⊥) AllContents wanted none among covers)
        ∙ sym (starts.others address
        (All-from_recursion (λ (contents : Contents). Covers contents address → ⊥) AllContents none)))
        (covered_or_not AllContents address)
      where
        starts :
            StartsAs modules (placement_of plan modules objects) before
            (starting_memory modules (placement_of plan modules objects) before)
        starts = starts_as modules (placement_of plan modules objects) before is.lawful is.storable is.size

pub starts_as_its_source : StartsAsItsSource
starts_as_its_source plan modules objects merged image before after is address declared =
    starts_so plan modules objects merged image before after is address
    ((Decides-declared modules (placement_of plan modules objects) address).1 declared)
