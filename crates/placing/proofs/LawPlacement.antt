-- The modules of a program lie apart from each other.
use Rattle.placing.proofs.Prelude.{◌≡◌, ℕ, ◌+◌, ◌≤◌, false, List, [], map, refl, sym, ap, subst, ◌∙◌, zip, filter, filter_map, AllByRecursion, enumerate_from, length-map, recursion_from_All, All-from_recursion, Range, TypedObject, TypedModule, LooksBack, IsStorable, constant_bytes, data_bytes, storage_with, ModulePlacement, range_of, object_piece, list_piece, pieces_of_module, has_own_place, HasAddresses, LiesByHome, LiesWhereAtSays, AreDisjoint, Bases, address_of_slot, is_misplaced, addresses_after, module_placement_by, all_append, all_mapped, all_weaker, addresses_of, split_addresses}
use Rattle.placing.proofs.LawLists.{EachPair, each_first, each_second, pairs_map}
use Rattle.placing.proofs.LawStorage.{Apart, slots_of, slots_are, list_slots_of, list_slots_are, Fits, all_slots, own_slots, slots_fit}
use Rattle.placing.proofs.LawSlots.{SlotsApart, slots_apart}
use Rattle.placing.proofs.LawPieces.{InPlace, slot_piece, slot_in_place, slots_disjoint}
use Rattle.placing.proofs.LawModule.{placed_from, placed_by_slots, list_pieces, own_pieces_are}
use Rattle.placing.proofs.LawAt.{objects_in_place, objects_where_at_says, length_addresses, length_lists}

-- what holds of modules with their placements, in parts of CODE and of DATA
pub record Lies (code_part data_part code stack : Range)
    (placed : TypedModule × ModulePlacement) : Type 0 where
  pub complete : HasAddresses placed
  pub where_at_says : LiesWhereAtSays placed
  pub in_place : AllByRecursion (InPlace code_part data_part code stack) (pieces_of_module placed)
  pub disjoint : EachPair AreDisjoint (filter has_own_place (pieces_of_module placed))

abbrev pub NotMisplaced : (code stack : Range) → TypedObject × ℕ → Type 0
NotMisplaced code stack placed = is_misplaced code stack placed ≡ false

-- one module
lies_by_slots :
    (code_length : ℕ) (code stack : Range) (bases : Bases) (typed : TypedModule)
    → IsStorable typed
    → constant_bytes typed ≤ code_length
    → bases.code_base + code_length ≤ 65536
    → bases.data_base + data_bytes typed.objects ≤ 65536
    → Apart bases.code_base code_length bases.data_base (data_bytes typed.objects)
    → AllByRecursion (NotMisplaced code stack) (zip typed.objects (placed_by_slots bases typed).objects)
    → Lies (range_of bases.code_base code_length)
    (range_of bases.data_base (data_bytes typed.objects)) code stack
    (typed, placed_by_slots bases typed)
lies_by_slots code_length code stack bases typed storable holds code_within data_within apart fine =
    let code_part : Range = range_of bases.code_base code_length in
    let data_part : Range = range_of bases.data_base (data_bytes typed.objects) in
    let in_slots : AllByRecursion (λ slot. InPlace code_part data_part code stack (slot_piece bases slot))
    (own_slots typed) =
    all_weaker (Fits typed) (λ slot. InPlace code_part data_part code stack (slot_piece bases slot))
    (slot_in_place bases typed code_length code stack holds code_within data_within) (own_slots typed)
    (slots_fit typed storable) in
    record {
      complete = record {
        objects = length_addresses typed bases [] 0 0 typed.objects;
        lists = length-map (list_slots_of typed 0 typed.constants.lists) (address_of_slot bases)
            ∙ length_lists typed 0 typed.constants.lists;
      };
      where_at_says =
          All-from_recursion
          (λ (object : TypedObject × ℕ). LiesByHome (placed_by_slots bases typed) object.1 (object.0).home)
          (placed_from typed bases [] 0 0 typed.objects)
          (objects_where_at_says (placed_by_slots bases typed) typed bases [] 0 0 typed.objects refl refl
          (recursion_from_All (λ (numbered : ℕ × TypedObject). LooksBack numbered.0 (numbered.1).home)
          (enumerate_from 0 typed.objects) storable.at));
      in_place =
          all_append (InPlace code_part data_part code stack)
          (filter_map object_piece (placed_from typed bases [] 0 0 typed.objects))
          (map list_piece
          (zip typed.constants.lists (map (address_of_slot bases)
          (list_slots_of typed 0 typed.constants.lists))))
          (objects_in_place code_part data_part code stack typed bases [] 0 0 typed.objects fine
          (each_first (λ slot. InPlace code_part data_part code stack (slot_piece bases slot))
          (all_slots (slots_of typed 0 0 typed.objects))
          (list_slots_of typed 0 typed.constants.lists) in_slots))
          (subst (AllByRecursion (InPlace code_part data_part code stack))
          (sym (list_pieces typed bases 0 typed.constants.lists))
          (all_mapped (λ slot. InPlace code_part data_part code stack (slot_piece bases slot))
          (InPlace code_part data_part code stack) (slot_piece bases) (λ slot lies. lies)
          (list_slots_of typed 0 typed.constants.lists)
          (each_second (λ slot. InPlace code_part data_part code stack (slot_piece bases slot))
          (all_slots (slots_of typed 0 0 typed.objects)) (list_slots_of typed 0 typed.constants.lists)
          in_slots)));
      disjoint =
          subst (EachPair AreDisjoint) (sym (own_pieces_are bases typed))
          (pairs_map (Fits typed) SlotsApart AreDisjoint (slot_piece bases)
          (slots_disjoint bases code_length typed holds code_within data_within apart) (own_slots typed)
          (slots_fit typed storable) (slots_apart typed storable));
    }

-- it lies there by the definition
placed_is :
    (bases : Bases) (typed : TypedModule)
    → placed_by_slots bases typed ≡ module_placement_by bases typed (storage_with typed)
placed_is bases typed =
    same (placed_by_slots bases typed).objects
    (addresses_after bases [] (zip typed.objects (storage_with typed).objects))
    (placed_by_slots bases typed).lists (map (address_of_slot bases) (storage_with typed).lists)
    (ap (λ slots. addresses_of bases [] (zip typed.objects slots)) (sym (slots_are typed))
    ∙ sym (split_addresses bases [] (zip typed.objects (storage_with typed).objects)))
    (ap (map (address_of_slot bases)) (sym (list_slots_are typed)))
  where
    same :
        (objects objects' lists lists' : List ℕ)
        → objects ≡ objects'
        → lists ≡ lists'
        → ◌≡◌ {A = ModulePlacement} (record { objects = objects; lists = lists })
        (record { objects = objects'; lists = lists' })
    same objects objects' lists lists' first second = rw first (rw second refl)

pub module_lies :
    (code_length : ℕ) (code stack : Range) (bases : Bases) (typed : TypedModule)
    → IsStorable typed
    → constant_bytes typed ≤ code_length
    → bases.code_base + code_length ≤ 65536
    → bases.data_base + data_bytes typed.objects ≤ 65536
    → Apart bases.code_base code_length bases.data_base (data_bytes typed.objects)
    → AllByRecursion (NotMisplaced code stack)
    (zip typed.objects (module_placement_by bases typed (storage_with typed)).objects)
    → Lies (range_of bases.code_base code_length)
    (range_of bases.data_base (data_bytes typed.objects)) code stack
    (typed, module_placement_by bases typed (storage_with typed))
module_lies code_length code stack bases typed storable holds code_within data_within apart fine =
    subst
    (λ (placed : ModulePlacement).
    Lies (range_of bases.code_base code_length)
    (range_of bases.data_base (data_bytes typed.objects)) code stack
    (typed, placed))
    (placed_is bases typed)
    (lies_by_slots code_length code stack bases typed storable holds code_within data_within apart
    (subst (λ (placed : ModulePlacement). AllByRecursion (NotMisplaced code stack)
    (zip typed.objects placed.objects))
    (sym (placed_is bases typed)) fine))
