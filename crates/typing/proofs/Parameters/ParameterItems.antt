-- What a DECLARE adds: objects, of which those that are named as parameters are scalars of the types that the
-- text says.
use Rattle.typing.proofs.Prelude.{◌≡◌, ℕ, Bool, true, false, ◌&&◌, ◌||◌, List, [], ◌∷◌, ◌++◌, length, map, Option, Some, None, if◌then◌else◌, nat_le, refl, ap, sym, subst, ◌∙◌, append-nil, append_assoc, length-append, arith, is_none, is_some, not, slice_get, AllByRecursion, lookup, option_or, bytes_eq, insert_entry, Dimension, Count, Implied, Linkage, ScalarType, Identifier, AtTree, HeadingTree, ItemTree, ItemTypeTree, ScalarItem, StructureItem, ValueListTree, Entity, Object, Here, Names, is_among, is_declared_again, with_object, AtAddress, home_of_parameters, Elsewhere, Home, InData, InFrame, Nowhere, ObjectType, ScalarObject, TypedObject, DeclaredTwice, ParameterNotScalar, MisplacedAt, BasedParameter, ExternalContents, ZeroDimension, require, Block, OfProcedure, Owner, TheModule, declares_parameter, is_external, is_external_linkage, Contents, Extents, NoArray, TypedItem, base_of, check_linkage, declare_names, extents_of, home_in, home_of, home_with_values, is_data, is_plain, place_of_item, names_parameter, object_named, typed_at, typed_base, typed_contents, typed_item, typed_type, scalar_of_type, visibility_of, Known, place_of, and_parts}
use Rattle.trees.specs.declared.declaration.Linkage.TheVariants as linkages
use Rattle.typing.proofs.Kept.{Gives, gives_after, gives_ok, in_turn, required, then_more}
use Rattle.typing.proofs.Types.TypesOfDeclarations.{made}
use Rattle.typing.proofs.Parameters.Grown.{IsParameterOf}
use Rattle.typing.proofs.Parameters.OwnBlock.{IsFitting, OwnBlock, Scan, with_other, with_own, with_rest, with_scan, with_type}
use Rattle.typing.proofs.Options.{nothing_more}

-- a block of a procedure itself, and nothing of any other block
abbrev pub owned_by : Owner → (is_own : Bool) → Scan → List TypedObject → Names → Type 0
owned_by TheModule is_own scan objects names = Unit {0}
owned_by (OfProcedure number heading) false scan objects names = Unit {0}
owned_by (OfProcedure number heading) true scan objects names = OwnBlock number heading scan objects names

abbrev pub Owned : Block → Scan → List TypedObject → Names → Type 0
Owned block scan objects names = owned_by block.owner block.is_own scan objects names

abbrev pub fitting_by : Owner → (is_own : Bool) → (name : List ℕ) → ScalarType → TypedObject → Type 0
fitting_by TheModule is_own name scalar object = Unit {0}
fitting_by (OfProcedure number heading) false name scalar object = Unit {0}
fitting_by (OfProcedure number heading) true name scalar object = IsFitting number heading name scalar object

abbrev pub Fitting : Block → (name : List ℕ) → ScalarType → TypedObject → Type 0
Fitting block name scalar object = fitting_by block.owner block.is_own name scalar object

-- the procedure whose own block it is may have more parameters
abbrev pub owns : Owner → (number : ℕ) → Type 0
owns TheModule number = ⊥
owns (OfProcedure own heading) number = number ≡ own

abbrev pub May : Block → ℕ → Type 0
May block number = (block.is_own ≡ true) × owns block.owner number

pub owned_other :
    (owner : Owner) (is_own : Bool) (scan : Scan) (objects : List TypedObject) (block : Names)
    (name : List ℕ) (entity : Entity)
    → ((place : ℕ) → entity ≡ Object place → ⊥)
    → lookup (bytes_eq name) block ≡ None
    → owned_by owner is_own scan objects block
    → owned_by owner is_own scan objects (insert_entry bytes_eq block name entity)
owned_other TheModule is_own scan objects block name entity other none own = tt
owned_other (OfProcedure number heading) false scan objects block name entity other none own = tt
owned_other (OfProcedure number heading) true scan objects block name entity other none own =
    with_other number heading scan objects block name entity other none own

pub owned_rest :
    (owner : Owner) (is_own : Bool) (scan : Scan) (objects rest : List TypedObject) (block : Names)
    → ((number place : ℕ) (object : TypedObject) → owns owner number → slice_get rest place ≡ Some object
    → IsParameterOf number object → ⊥)
    → owned_by owner is_own scan objects block
    → owned_by owner is_own scan (objects ++ rest) block
owned_rest TheModule is_own scan objects rest block none own = tt
owned_rest (OfProcedure number heading) false scan objects rest block none own = tt
owned_rest (OfProcedure number heading) true scan objects rest block none own =
    with_rest number heading scan objects rest block
    (λ place object found is. none number place object refl found is) own

owned_own :
    (owner : Owner) (is_own : Bool) (scan : Scan) (objects : List TypedObject) (block : Names)
    (name : List ℕ) (scalar : ScalarType) (object : TypedObject)
    → lookup (bytes_eq name) block ≡ None
    → fitting_by owner is_own name scalar object
    → owned_by owner is_own scan objects block
    → owned_by owner is_own (with_type scan name scalar) (objects ++ (object ∷ []))
    (insert_entry bytes_eq block name (Object (length objects)))
owned_own TheModule is_own scan objects block name scalar object none fits own = tt
owned_own (OfProcedure number heading) false scan objects block name scalar object none fits own = tt
owned_own (OfProcedure number heading) true scan objects block name scalar object none fits own =
    with_own number heading scan objects block name scalar object none fits own

pub owned_scan :
    (owner : Owner) (is_own : Bool) (one other : Scan) (objects : List TypedObject) (block : Names)
    → ((name : List ℕ) → one name ≡ other name)
    → owned_by owner is_own one objects block
    → owned_by owner is_own other objects block
owned_scan TheModule is_own one other objects block same own = tt
owned_scan (OfProcedure number heading) false one other objects block same own = tt
owned_scan (OfProcedure number heading) true one other objects block same own =
    with_scan number heading one other objects block same own

-- a name that is not declared again
pub not_again : (here : Here) (name : List ℕ) → not (is_declared_again here name) ≡ true
    → lookup (bytes_eq name) here.body.block ≡ None
not_again here name is = by (lookup (bytes_eq name) here.body.block) is
  where
    by : (found : Option Entity) → not (is_some found || is_among here.body.labelled name) ≡ true
        → found ≡ None
    by None is = refl
    by (Some entity) is = absurd (let bad : false ≡ true = is in cc)

-- names one after another
abbrev pub scan_names : Scan → ScalarType → List Identifier → Scan
scan_names scan scalar [] = scan
scan_names scan scalar (name ∷ others) = scan_names (with_type scan name.name scalar) scalar others

pub scanned :
    (names : List Identifier) (scan : Scan) (scalar : ScalarType) (wanted : List ℕ)
    → scan_names scan scalar names wanted
    ≡ option_or (scan wanted)
    (if is_among (map (λ (name : Identifier). name.name) names) wanted then Some scalar else None)
scanned [] scan scalar wanted = nothing_more (scan wanted)
scanned (name ∷ others) scan scalar wanted =
    scanned others (with_type scan name.name scalar) scalar wanted
    ∙ by (scan wanted) (bytes_eq wanted name.name)
    (is_among (map (λ (name : Identifier). name.name) others) wanted)
  where
    by : (found : Option ScalarType) (here later : Bool)
        → option_or (option_or found (if here then Some scalar else None))
        (if later then Some scalar else None)
        ≡ option_or found (if here || later then Some scalar else None)
    by None true later = refl
    by None false later = refl
    by (Some its) here later = refl

pub declare_names-own :
    (block : Block) (typed : TypedItem) (scalar : ScalarType) (names : List Identifier)
    (here : Here) (scan : Scan)
    (objects : List TypedObject)
    → Owned block scan objects here.body.block
    → here.objects ≡ length objects
    → AllByRecursion
    (λ (name : Identifier). Fitting block name.name scalar (object_named block typed name.name)) names
    → Gives
    (λ (after : Here).
    Owned block (scan_names scan scalar names) (objects ++ made block typed names) after.body.block
    × (after.objects ≡ length (objects ++ made block typed names))
    × (after.outer_bodies ≡ here.outer_bodies))
    (declare_names block names here)
declare_names-own block typed scalar [] here scan objects own count fit =
    gives_ok (
      subst (λ (all : List TypedObject). Owned block scan all here.body.block) (sym (append-nil objects)) own,
      count ∙ ap (λ (all : List TypedObject). length all) (sym (append-nil objects)),
      refl,
    )
declare_names-own block typed scalar (name ∷ others) here scan objects own count fit =
    let object : TypedObject = object_named block typed name.name in
    let whole : (objects ++ (object ∷ [])) ++ made block typed others
    ≡ objects ++ made block typed (name ∷ others) =
    append_assoc objects (object ∷ []) (made block typed others) in
    in_turn (required (not (is_declared_again here name.name)) DeclaredTwice (place_of name)) λ _ once.
    gives_after
    (require (not (is_external block.owner) || declares_parameter block name.name) ExternalContents
    (place_of name)) λ placed.
    let own_next : Owned block (with_type scan name.name scalar) (objects ++ (object ∷ []))
    (with_object name.name here).body.block =
    subst
    (λ (place : ℕ).
    Owned block (with_type scan name.name scalar) (objects ++ (object ∷ []))
    (insert_entry bytes_eq here.body.block name.name (Object place))) (sym count)
    (owned_own block.owner block.is_own scan objects here.body.block name.name scalar object
    (not_again here name.name once) fit.0 own) in
    let longer = length-append objects (object ∷ []) in
    then_more
    (declare_names-own block typed scalar others (with_object name.name here)
    (with_type scan name.name scalar)
    (objects ++ (object ∷ [])) own_next (omega (arith, count, longer)) fit.1)
    λ after is. (
      subst
          (λ (all : List TypedObject).
          Owned block (scan_names scan scalar (name ∷ others)) all after.body.block) whole is.0,
      is.1 ∙ ap (λ (all : List TypedObject). length all) whole,
      is.2,
    )

-- an item that names a parameter is a scalar that says nothing else
no_such : (is : Bool) → not is ≡ true → is ≡ true → ⊥
no_such true lacks has = let bad : false ≡ true = lacks in absurd cc
no_such false lacks has = let bad : false ≡ true = has in absurd cc

module _ (known : Known) (number : ℕ) (heading : HeadingTree) (item : ItemTree) where
  abbrev OwnOf : Block
  OwnOf = record { owner = OfProcedure number heading; is_own = true }

  abbrev NamesOne : Type 0
  NamesOne = names_parameter OwnOf item.subject ≡ true

  base_none : NamesOne → (base : Option Identifier)
      → Gives (λ (found : Option ℕ). found ≡ None) (typed_base known OwnOf item.subject base)
  base_none names None = gives_ok refl
  base_none names (Some name) =
      in_turn (required (not (names_parameter OwnOf item.subject)) BasedParameter (place_of name)) λ _ lacks.
      absurd (no_such (names_parameter OwnOf item.subject) lacks names)

  no_array : NamesOne → (dimension : Option Dimension)
      → Gives (λ (extents : Extents). extents ≡ NoArray) (extents_of OwnOf item dimension)
  no_array names None = gives_ok refl
  no_array names (Some (Count count)) =
      gives_after (require (nat_le 1 count.value) ZeroDimension count.place) λ _.
      in_turn (required (not (names_parameter OwnOf item.subject)) ParameterNotScalar count.place) λ _ lacks.
      absurd (no_such (names_parameter OwnOf item.subject) lacks names)
  no_array names (Some Implied) =
      in_turn (required (not (names_parameter OwnOf item.subject)) ParameterNotScalar (place_of_item item))
      λ _ lacks.
      absurd (no_such (names_parameter OwnOf item.subject) lacks names)

  scalar_type : NamesOne → (tree : ItemTypeTree)
      → Gives (λ (object_type : ObjectType). object_type ≡ ScalarObject (scalar_of_type tree))
      (typed_type OwnOf item tree)
  scalar_type names (ScalarItem scalar) = gives_ok refl
  scalar_type names (StructureItem members) =
      in_turn (required (not (names_parameter OwnOf item.subject)) ParameterNotScalar (place_of_item item))
      λ _ lacks.
      absurd (no_such (names_parameter OwnOf item.subject) lacks names)

  no_linkage : (linkage : Option Linkage)
      → Gives (λ _. is_external_linkage linkage ≡ false) (check_linkage OwnOf item linkage)
  no_linkage None = gives_ok refl
  no_linkage (Some linkage) = record { holds = λ a e. absurd cc }

  is_not_plain : NamesOne → is_plain OwnOf item ≡ true → ⊥
  is_not_plain names is =
      no_such (names_parameter OwnOf item.subject)
      (and_parts _ _ (and_parts _ _ is).0).1 names

  at_none : NamesOne → (at : Option AtTree)
      → Gives (λ (found : Option AtAddress). found ≡ None) (typed_at known OwnOf item at)
  at_none names None = gives_ok refl
  at_none names (Some at) =
      in_turn (required (is_plain OwnOf item) MisplacedAt at.place) λ _ plain.
      absurd (is_not_plain names plain)

  abbrev IsEmpty : Option ValueListTree → Contents → Type 0
  IsEmpty list filled = (list ≡ None) × (filled.dimension ≡ None) × (filled.values ≡ [])

  contents_none : NamesOne → (object_type : ObjectType) (extents : Extents) → extents ≡ NoArray
      → (list : Option ValueListTree)
      → Gives (IsEmpty list) (typed_contents known OwnOf item object_type extents list)
  contents_none names object_type extents is None =
      subst (λ (extents : Extents). Gives (IsEmpty None)
      (typed_contents known OwnOf item object_type extents None)) (sym is)
      (gives_ok (refl, refl, refl))
  contents_none names object_type extents is (Some list) =
      in_turn (required (is_plain OwnOf item && is_none item.at) _ _) λ _ plain.
      absurd (is_not_plain names (and_parts (is_plain OwnOf item) (is_none item.at) plain).0)

  abbrev ParameterHome : Home
  ParameterHome = home_of_parameters number (is_some heading.reentrant) (visibility_of heading.linkage)

  own_home : home_in (OfProcedure number heading) [] ≡ ParameterHome
  own_home = by heading.linkage (is_some heading.reentrant)
    where
      by : (linkage : Option Linkage) (in_frame : Bool)
          → (if is_external_linkage linkage then Nowhere else (if in_frame then InFrame
          number else InData []))
          ≡ home_of_parameters number in_frame (visibility_of linkage)
      by None true = refl
      by None false = refl
      by (Some (linkages.Public place)) true = refl
      by (Some (linkages.Public place)) false = refl
      by (Some (linkages.External place)) in_frame = refl

  abbrev IsPlainScalar : TypedItem → Type 0
  IsPlainScalar typed =
      (typed.dimension ≡ None) × (typed.object_type ≡ ScalarObject (scalar_of_type item.item_type))
      × (typed.home ≡ ParameterHome)

  home_is : (base : Option ℕ) (at : Option AtAddress) (filled : Contents)
      → base ≡ None → is_external_linkage item.linkage ≡ false → at ≡ None → IsEmpty item.value_list filled
      → home_of (OfProcedure number heading) item base at filled.values ≡ ParameterHome
  home_is base at filled base_is linkage_is at_is filled_is =
      ap (λ (base : Option ℕ). home_of (OfProcedure number heading) item base at filled.values) base_is
      ∙ ap (λ (at : Option AtAddress). home_of (OfProcedure number heading) item None at filled.values) at_is
      ∙ ap (home_of (OfProcedure number heading) item None None) filled_is.2
      ∙ ap (λ (outside : Bool).
      if outside then Elsewhere else home_with_values (OfProcedure number heading)
      (is_data item.value_list) []) linkage_is
      ∙ ap (λ (list : Option ValueListTree).
      home_with_values (OfProcedure number heading) (is_data list) []) filled_is.0
      ∙ own_home

  pub plain_scalar : NamesOne → Gives IsPlainScalar (typed_item known OwnOf item)
  plain_scalar names =
      in_turn (base_none names (base_of item.subject)) λ base base_is.
      in_turn (no_array names item.dimension) λ extents extents_are.
      in_turn (scalar_type names item.item_type) λ object_type type_is.
      in_turn (no_linkage item.linkage) λ _ linkage_is.
      in_turn (at_none names item.at) λ at at_is.
      in_turn (contents_none names object_type extents extents_are item.value_list) λ filled filled_is.
      gives_ok (filled_is.1, type_is, home_is base at filled base_is linkage_is at_is filled_is)
