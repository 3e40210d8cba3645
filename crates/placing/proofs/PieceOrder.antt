-- The claims of modules are those of the pieces of a program, in their order; and what is tested of objects with AT is
-- tested of those pieces.
use Rattle.placing.proofs.Prelude.{◌≡◌, ℕ, Bool, true, ◌&&◌, List, [], ◌∷◌, ◌++◌, length, map, nat_eq, Option, Some, None, refl, ap, sym, ◌∙◌, option_and_then, option_map, filter_map, flat_map, zip, AllByRecursion, cons_option, and_parts, eqb-true, eq-eqb, All-from_recursion, recursion_from_All, Range, Home, InData, InConstants, Placed, BasedOn, Elsewhere, Nowhere, InFrame, TypedObject, TypedModule, size_of_object, ModulePlacement, PieceKind, StaticPiece, ConstantPiece, AtPiece, PlacedPiece, range_of, address_at, kind_of, piece_of, object_piece, list_piece, pieces_of_module, HasAddresses, LiesByHome, LiesWhereAtSays, claim_found, claim_piece, claim_pieces, claim_object, claim_objects, claim_lists, claim_module, claim_modules, may_lie_at, home_fits, object_fits, objects_fit, module_fits, modules_fit}
use Rattle.placing.proofs.Claiming.{each_of_three, all_three}
use Rattle.placing.proofs.SomePieces.{all_join, all_left, all_right}

module _ (code stack : Range) where
  abbrev pub claims : List PlacedPiece → List Bool → Option (List Bool)
  claims pieces table = claim_pieces code stack pieces table

  same_after :
      (f g : List Bool → Option (List Bool))
      → ((table : List Bool) → f table ≡ g table)
      → (first : Option (List Bool))
      → option_and_then f first ≡ option_and_then g first
  same_after f g same None = refl
  same_after f g same (Some table) = same table

  onto_others :
      (found : Option PlacedPiece) (others : List PlacedPiece) (table : List Bool)
      → option_and_then (claims others) (claim_found code stack found table)
      ≡ claims (cons_option found others) table
  onto_others None others table = refl
  onto_others (Some piece) others table = refl

  abbrev placed_objects : List TypedObject → List ℕ → List PlacedPiece
  placed_objects objects addresses = filter_map object_piece (zip objects addresses)

  abbrev placed_lists : List (List ℕ) → List ℕ → List PlacedPiece
  placed_lists lists addresses = map list_piece (zip lists addresses)

  objects_order :
      (objects : List TypedObject) (addresses : List ℕ) (table : List Bool)
      → claim_objects code stack objects addresses table ≡ claims (placed_objects objects addresses) table
  unfolding claim_object
  objects_order [] addresses table = refl
  objects_order (object ∷ objects) [] table = refl
  objects_order (object ∷ objects) (address ∷ addresses) table =
      same_after (claim_objects code stack objects addresses) (claims (placed_objects objects addresses))
      (objects_order objects addresses) (claim_found code stack (object_piece (object, address)) table)
      ∙ onto_others (object_piece (object, address)) (placed_objects objects addresses) table

  lists_order :
      (lists : List (List ℕ)) (addresses : List ℕ) (table : List Bool)
      → claim_lists code stack lists addresses table ≡ claims (placed_lists lists addresses) table
  lists_order [] addresses table = refl
  lists_order (bytes ∷ lists) [] table = refl
  lists_order (bytes ∷ lists) (address ∷ addresses) table =
      same_after (claim_lists code stack lists addresses) (claims (placed_lists lists addresses))
      (lists_order lists addresses) (claim_piece code stack (list_piece (bytes, address)) table)

  in_turn :
      (f g : List Bool → Option (List Bool)) (first : Option (List Bool))
      → option_and_then (λ table. option_and_then g (f table)) first
      ≡ option_and_then g (option_and_then f first)
  in_turn f g None = refl
  in_turn f g (Some table) = refl

  joined_claims :
      (left right : List PlacedPiece) (table : List Bool)
      → claims (left ++ right) table ≡ option_and_then (claims right) (claims left table)
  joined_claims [] right table = refl
  joined_claims (piece ∷ left) right table =
      same_after (claims (left ++ right)) (λ table. option_and_then (claims right) (claims left table))
      (joined_claims left right) (claim_piece code stack piece table)
      ∙ in_turn (claims left) (claims right) (claim_piece code stack piece table)

  module_order :
      (typed : TypedModule) (placed : ModulePlacement) (table : List Bool)
      → claim_module code stack typed placed table ≡ claims (pieces_of_module (typed, placed)) table
  unfolding claim_module
  module_order typed placed table =
      same_after (claim_lists code stack typed.constants.lists placed.lists)
      (claims (placed_lists typed.constants.lists placed.lists))
      (lists_order typed.constants.lists placed.lists)
      (claim_objects code stack typed.objects placed.objects table)
      ∙ ap (option_and_then (claims (placed_lists typed.constants.lists placed.lists)))
      (objects_order typed.objects placed.objects table)
      ∙ sym (joined_claims (placed_objects typed.objects placed.objects)
      (placed_lists typed.constants.lists placed.lists) table)

  pub modules_order :
      (modules : List TypedModule) (placements : List ModulePlacement) (table : List Bool)
      → claim_modules code stack modules placements table
      ≡ claim_pieces code stack (flat_map pieces_of_module (zip modules placements)) table
  modules_order [] placements table = refl
  modules_order (typed ∷ modules) [] table = refl
  modules_order (typed ∷ modules) (placed ∷ placements) table =
      same_after (claim_modules code stack modules placements)
      (claims (flat_map pieces_of_module (zip modules placements)))
      (modules_order modules placements) (claim_module code stack typed placed table)
      ∙ ap (option_and_then (claims (flat_map pieces_of_module (zip modules placements))))
      (module_order typed placed table)
      ∙ sym (joined_claims (pieces_of_module (typed, placed))
      (flat_map pieces_of_module (zip modules placements)) table)

  -- objects with AT
  module _ (table : List Bool) where
    abbrev pub at_allowed : PieceKind → Range → Type 0
    at_allowed StaticPiece range = Unit {0}
    at_allowed ConstantPiece range = Unit {0}
    at_allowed AtPiece range = may_lie_at code stack table range ≡ true

    abbrev pub AtMayLie : PlacedPiece → Type 0
    AtMayLie piece = at_allowed piece.kind piece.range

    others_onto :
        (found : Option PlacedPiece) (others : List PlacedPiece)
        → AllByRecursion AtMayLie (cons_option found [])
        → AllByRecursion AtMayLie others
        → AllByRecursion AtMayLie (cons_option found others)
    others_onto None others first rest = rest
    others_onto (Some piece) others first rest = (first.0, rest)

    first_of :
        (found : Option PlacedPiece) (others : List PlacedPiece)
        → AllByRecursion AtMayLie (cons_option found others)
        → AllByRecursion AtMayLie (cons_option found [])
    first_of None others all = tt
    first_of (Some piece) others all = (all.0, tt)

    others_of :
        (found : Option PlacedPiece) (others : List PlacedPiece)
        → AllByRecursion AtMayLie (cons_option found others)
        → AllByRecursion AtMayLie others
    others_of None others all = all
    others_of (Some piece) others all = all.1

    -- by the home of an object
    abbrev piece_by : TypedObject → (address : ℕ) → Home → Option PlacedPiece
    piece_by object address home = option_map (piece_of address object) (kind_of home)

    home_lies :
        (placed : ModulePlacement) (object : TypedObject) (address : ℕ) (home : Home)
        → home_fits code stack table placed.objects object address home ≡ true
        → LiesByHome placed address home
    home_lies placed object address (Placed at) fits =
        eqb-true address (address_at placed.objects at)
        (and_parts (nat_eq address (address_at placed.objects at))
        (may_lie_at code stack table (range_of address (size_of_object object))) fits).0
    home_lies placed object address (InData values) fits = tt
    home_lies placed object address (InConstants values) fits = tt
    home_lies placed object address (BasedOn base) fits = tt
    home_lies placed object address Elsewhere fits = tt
    home_lies placed object address Nowhere fits = tt
    home_lies placed object address (InFrame procedure) fits = tt

    home_may :
        (placed : ModulePlacement) (object : TypedObject) (address : ℕ) (home : Home)
        → home_fits code stack table placed.objects object address home ≡ true
        → AllByRecursion AtMayLie (cons_option (piece_by object address home) [])
    home_may placed object address (Placed at) fits = (
      (and_parts (nat_eq address (address_at placed.objects at))
          (may_lie_at code stack table (range_of address (size_of_object object))) fits).1,
      tt,
    )
    home_may placed object address (InData values) fits = (tt, tt)
    home_may placed object address (InConstants values) fits = (tt, tt)
    home_may placed object address (BasedOn base) fits = tt
    home_may placed object address Elsewhere fits = tt
    home_may placed object address Nowhere fits = tt
    home_may placed object address (InFrame procedure) fits = tt

    home_from :
        (placed : ModulePlacement) (object : TypedObject) (address : ℕ) (home : Home)
        → LiesByHome placed address home
        → AllByRecursion AtMayLie (cons_option (piece_by object address home) [])
        → home_fits code stack table placed.objects object address home ≡ true
    home_from placed object address (Placed at) lies may =
        ap (λ same. same && may_lie_at code stack table (range_of address (size_of_object object)))
        (eq-eqb address (address_at placed.objects at) lies)
        ∙ may.0
    home_from placed object address (InData values) lies may = refl
    home_from placed object address (InConstants values) lies may = refl
    home_from placed object address (BasedOn base) lies may = refl
    home_from placed object address Elsewhere lies may = refl
    home_from placed object address Nowhere lies may = refl
    home_from placed object address (InFrame procedure) lies may = refl

    -- the objects of a module
    abbrev pub ObjectLies : ModulePlacement → TypedObject × ℕ → Type 0
    ObjectLies placed object = LiesByHome placed object.1 (object.0).home

    objects_lie :
        (placed : ModulePlacement) (objects : List TypedObject) (addresses : List ℕ)
        → objects_fit code stack table placed.objects objects addresses ≡ true
        → AllByRecursion (ObjectLies placed) (zip objects addresses)
    unfolding object_fits
    objects_lie placed [] addresses fit = tt
    objects_lie placed (object ∷ objects) [] fit = tt
    objects_lie placed (object ∷ objects) (address ∷ addresses) fit =
        let both = and_parts (home_fits code stack table placed.objects object address object.home)
        (objects_fit code stack table placed.objects objects addresses) fit in
        (home_lies placed object address object.home both.0, objects_lie placed objects addresses both.1)

    objects_may :
        (placed : ModulePlacement) (objects : List TypedObject) (addresses : List ℕ)
        → objects_fit code stack table placed.objects objects addresses ≡ true
        → AllByRecursion AtMayLie (placed_objects objects addresses)
    unfolding object_fits
    objects_may placed [] addresses fit = tt
    objects_may placed (object ∷ objects) [] fit = tt
    objects_may placed (object ∷ objects) (address ∷ addresses) fit =
        let both = and_parts (home_fits code stack table placed.objects object address object.home)
        (objects_fit code stack table placed.objects objects addresses) fit in
        others_onto (object_piece (object, address)) (placed_objects objects addresses)
        (home_may placed object address object.home both.0) (objects_may placed objects addresses both.1)

    objects_from :
        (placed : ModulePlacement) (objects : List TypedObject) (addresses : List ℕ)
        → AllByRecursion (ObjectLies placed) (zip objects addresses)
        → AllByRecursion AtMayLie (placed_objects objects addresses)
        → objects_fit code stack table placed.objects objects addresses ≡ true
    unfolding object_fits
    objects_from placed [] addresses lie may = refl
    objects_from placed (object ∷ objects) [] lie may = refl
    objects_from placed (object ∷ objects) (address ∷ addresses) lie may =
        ap (λ fits. fits && objects_fit code stack table placed.objects objects addresses)
        (home_from placed object address object.home lie.0
        (first_of (object_piece (object, address)) (placed_objects objects addresses) may))
        ∙ objects_from placed objects addresses lie.1
        (others_of (object_piece (object, address)) (placed_objects objects addresses) may)

    lists_may :
        (lists : List (List ℕ)) (addresses : List ℕ)
        → AllByRecursion AtMayLie (placed_lists lists addresses)
    lists_may [] addresses = tt
    lists_may (bytes ∷ lists) [] = tt
    lists_may (bytes ∷ lists) (address ∷ addresses) = (tt, lists_may lists addresses)

    -- a module
    abbrev module_three : TypedModule → ModulePlacement → Type 0
    module_three typed placed =
        (nat_eq (length placed.objects) (length typed.objects) ≡ true)
        × (nat_eq (length placed.lists) (length typed.constants.lists) ≡ true)
        × (objects_fit code stack table placed.objects typed.objects placed.objects ≡ true)

    module_parts :
        (typed : TypedModule) (placed : ModulePlacement)
        → module_fits code stack table typed placed ≡ true
        → module_three typed placed
    unfolding module_fits
    module_parts typed placed fits =
        each_of_three (nat_eq (length placed.objects) (length typed.objects))
        (nat_eq (length placed.lists) (length typed.constants.lists))
        (objects_fit code stack table placed.objects typed.objects placed.objects) fits

    module_has :
        (typed : TypedModule) (placed : ModulePlacement)
        → module_three typed placed
        → HasAddresses (typed, placed)
    module_has typed placed parts = record {
      objects = eqb-true (length placed.objects) (length typed.objects) parts.0;
      lists = eqb-true (length placed.lists) (length typed.constants.lists) parts.1;
    }

    module_lies :
        (typed : TypedModule) (placed : ModulePlacement)
        → module_three typed placed
        → LiesWhereAtSays (typed, placed)
    module_lies typed placed parts =
        All-from_recursion (ObjectLies placed) (zip typed.objects placed.objects)
        (objects_lie placed typed.objects placed.objects parts.2)

    module_may :
        (typed : TypedModule) (placed : ModulePlacement)
        → module_three typed placed
        → AllByRecursion AtMayLie (pieces_of_module (typed, placed))
    module_may typed placed parts =
        all_join AtMayLie (placed_objects typed.objects placed.objects)
        (placed_lists typed.constants.lists placed.lists)
        (objects_may placed typed.objects placed.objects parts.2)
        (lists_may typed.constants.lists placed.lists)

    module_from :
        (typed : TypedModule) (placed : ModulePlacement)
        → HasAddresses (typed, placed)
        → LiesWhereAtSays (typed, placed)
        → AllByRecursion AtMayLie (pieces_of_module (typed, placed))
        → module_fits code stack table typed placed ≡ true
    unfolding module_fits
    module_from typed placed has lies may =
        all_three (nat_eq (length placed.objects) (length typed.objects))
        (nat_eq (length placed.lists) (length typed.constants.lists))
        (objects_fit code stack table placed.objects typed.objects placed.objects)
        (eq-eqb (length placed.objects) (length typed.objects) has.objects)
        (eq-eqb (length placed.lists) (length typed.constants.lists) has.lists)
        (objects_from placed typed.objects placed.objects
        (recursion_from_All (ObjectLies placed) (zip typed.objects placed.objects) lies)
        (all_left AtMayLie (placed_objects typed.objects placed.objects)
        (placed_lists typed.constants.lists placed.lists) may))

    -- the modules
    pub record ModulesFit (modules : List TypedModule) (placements : List ModulePlacement) : Type 0 where
      pub has : AllByRecursion HasAddresses (zip modules placements)
      pub lie : AllByRecursion LiesWhereAtSays (zip modules placements)
      pub may : AllByRecursion AtMayLie (flat_map pieces_of_module (zip modules placements))

    pub modules_parts :
        (modules : List TypedModule) (placements : List ModulePlacement)
        → modules_fit code stack table modules placements ≡ true
        → ModulesFit modules placements
    modules_parts [] placements fit = record { has = tt; lie = tt; may = tt }
    modules_parts (typed ∷ modules) [] fit = record { has = tt; lie = tt; may = tt }
    modules_parts (typed ∷ modules) (placed ∷ placements) fit =
        let both = and_parts (module_fits code stack table typed placed)
        (modules_fit code stack table modules placements) fit in
        let first = module_parts typed placed both.0 in
        let rest = modules_parts modules placements both.1 in
        record {
          has = (module_has typed placed first, rest.has);
          lie = (module_lies typed placed first, rest.lie);
          may = all_join AtMayLie (pieces_of_module (typed, placed))
              (flat_map pieces_of_module (zip modules placements)) (module_may typed placed first) rest.may;
        }

    pub modules_from :
        (modules : List TypedModule) (placements : List ModulePlacement)
        → ModulesFit modules placements
        → modules_fit code stack table modules placements ≡ true
    modules_from [] placements fit = refl
    modules_from (typed ∷ modules) [] fit = refl
    modules_from (typed ∷ modules) (placed ∷ placements) fit =
        let others : List PlacedPiece = flat_map pieces_of_module (zip modules placements) in
        let rest : ModulesFit modules placements = record {
          has = fit.has.1;
          lie = fit.lie.1;
          may = all_right AtMayLie (pieces_of_module (typed, placed)) others fit.may;
        } in
        ap (λ fits. fits && modules_fit code stack table modules placements)
        (module_from typed placed fit.has.0 fit.lie.0
        (all_left AtMayLie (pieces_of_module (typed, placed)) others fit.may))
        ∙ modules_from modules placements rest
