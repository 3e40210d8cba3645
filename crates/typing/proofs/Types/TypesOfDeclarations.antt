-- Declared objects can be referred to where their names are known, and declarations only add to what is
-- known.
use Rattle.typing.proofs.Prelude.{◌≡◌, ℕ, zero, suc, ◌+◌, ◌<◌, ◌≤◌, Bool, true, false, List, [], ◌∷◌, ◌++◌, map, take, drop, length, Option, Some, None, slice_get, nat_le, refl, sym, ap, ◌∙◌, subst, cond, append_assoc, append-nil, length-append, arith, IfSome, IsSomeAnd, is_some, not, ◌||◌, option_map_or, length-map, ScalarType, Address, Identifier, Place, SubjectTree, ItemTree, ElementTree, LiterallyElement, ItemElement, HeadingTree, DeclarationTrees, Binding, Declared, Object, Body, into_body, is_declared_again, with_procedure, with_definition, declared_by, OBJECT_LIMIT, FRAME_LIMIT, PARAMETER_LIMIT, AtAddress, InitialValue, ObjectType, ScalarObject, StructureObject, Home, InData, InConstants, Placed, BasedOn, Elsewhere, Nowhere, InFrame, TypedObject, TypedProcedure, TypedModule, IsScalar, Within, WithinProcedure, WithinMain, LiesFor, IsSeen, DeclaredTwice, BasedParameter, ExternalContents, TooLarge, require, Known, place_of, GlobalProcedure, with_global, Owner, TheModule, OfProcedure, Block, Progress, is_external, is_external_linkage, is_reentrant, TypedItem, declare_names, place_of_item, base_of, is_not_based, is_address, is_base, object_bound, names_parameter, typed_base, extents_of, typed_type, check_linkage, typed_at, typed_contents, is_data, home_in, home_with_values, home_of, object_named, with_typed_object, with_objects, typed_item, size_of_item, declare_item, declare_definition, declare_element, declare_elements, no_more_parameters, check_visibility, check_reentrant, parameter_types, procedure_with, empty_list, open_procedure, and_parts, some_and}
use Rattle.typing.proofs.Kept.{Gives, then_more, anything, gives_ok, gives_fault, gives_after, in_turn, required, is_found}
use Rattle.typing.proofs.NamesBack.{is_bound, Binds, bound_entity}
use Rattle.typing.proofs.Tables.{Keeps, keeps_append}
use Rattle.typing.proofs.Types.TypesKept.{headings, Heading, heading_of, of_some}
use Rattle.typing.proofs.SeenNames.{names_within, lies_for_all, IsSeenIn, Stands, sees_names, with_definition-stands, with_procedure-stands, into_body-stands, declare_parameters-stand, declare_names-stand}
use Rattle.typing.proofs.GlobalsListed.{Listed, procedure_listed, typed_item_fits, with_objects-listed}
use Rattle.typing.proofs.Types.FramesSummed.{OwnFits, procedure_summed, typed_item_home, with_objects-summed}
use Rattle.typing.proofs.Types.TypesWalked.{headings-append, StandsAt, Goes, goes_nowhere, goes_then, goes_as, goes_to}
use Rattle.typing.proofs.Options.{equals_none}
use Rattle.typing.proofs.ConstantTables.{lists_kept}

base_is : (object : TypedObject) → is_base object ≡ true
    → IsScalar Address object × (is_not_based object.home ≡ true)
base_is object is =
    let first = and_parts _ _ is in
    let second = and_parts _ _ first.0 in
    ((equals_none object.dimension second.0, is_address_object object.object_type second.1), first.1)
  where
    is_address_object : (object_type : ObjectType) → is_address object_type ≡ true
        → object_type ≡ ScalarObject Address
    is_address_object (ScalarObject Address) e = refl
    is_address_object (ScalarObject scalar) e = cc
    is_address_object (StructureObject members) e = absurd cc

pub not_based_lies : (tables : TypedModule) (within : Within) (home : Home) → is_not_based home ≡ true
    → IsSeen tables within home → LiesFor within home
not_based_lies tables within (BasedOn base) is seen = absurd cc
not_based_lies tables within (InData values) is seen = seen
not_based_lies tables within (InConstants values) is seen = seen
not_based_lies tables within (Placed at) is seen = seen
not_based_lies tables within Elsewhere is seen = seen
not_based_lies tables within Nowhere is seen = seen
not_based_lies tables within (InFrame procedure) is seen = seen

-- where an item lives can be referred to within its block
abbrev HomeSeen : Owner → Known → Home → Type 0
HomeSeen owner known home =
    is_external owner ≡ false → (tables : TypedModule) → Keeps known.objects tables.objects
    → IsSeen tables (names_within owner) home

abbrev BaseSeen : Owner → Known → Option ℕ → Type 0
BaseSeen owner known base = IfSome base (λ (number : ℕ). HomeSeen owner known (BasedOn number))

object_bound_is : (binding : Binding) (place : Place)
    → Gives (λ number. binding ≡ Declared (Object number)) (object_bound binding place)
object_bound_is (Declared (Object number)) place = gives_ok refl
object_bound_is binding place = gives_fault

typed_base_is : (known : Known) (block : Block) (subject : SubjectTree) (base : Option Identifier)
    → Stands block.owner known.objects known.here
    → Gives (BaseSeen block.owner known) (typed_base known block subject base)
typed_base_is known block subject None stands = gives_ok tt
typed_base_is known block subject (Some name) stands =
    gives_after (require (not (names_parameter block subject)) BasedParameter (place_of name)) λ plain.
    in_turn (is_bound known name) λ binding bound_to.
    in_turn (object_bound_is binding (place_of name)) λ number is.
    in_turn (is_found (slice_get known.objects number) _ _) λ object entry.
    in_turn (required (is_base object) _ _) λ _ base.
    gives_ok (λ is_here tables keeps.
    let entity = bound_entity known.here name.name (Object number)
    (subst (λ found. Binds known name found) is bound_to) in
    let there = keeps number object entry in
    let seen = of_some _ (slice_get tables.objects number) object there
    (sees_names block.owner known stands is_here name.name number entity tables keeps) in
    let its = base_is object base in
    some_and _ (slice_get tables.objects number) object there
    (its.0, not_based_lies tables (names_within block.owner) object.home its.1 seen))

home_of_is : (owner : Owner) (item : ItemTree) (base : Option ℕ) (at : Option AtAddress)
    (values : List InitialValue)
    (known : Known) → BaseSeen owner known base → HomeSeen owner known (home_of owner item base at values)
home_of_is owner item (Some base) at values known seen = seen
home_of_is owner item None at values known seen = λ is_here tables keeps.
    placed tables is_here (is_external_linkage item.linkage) at (is_data item.value_list)
  where
    of_procedure : (tables : TypedModule) (number : ℕ) (result : Option ScalarType) (outside in_frame : Bool)
        → outside ≡ false
        → IsSeen tables (cond in_frame (WithinProcedure number result) WithinMain)
        (cond outside Nowhere (cond in_frame (InFrame number) (InData values)))
    of_procedure tables number result true in_frame is = absurd cc
    of_procedure tables number result false true is = refl
    of_procedure tables number result false false is = tt

    in_owner : (tables : TypedModule) (owner : Owner) → is_external owner ≡ false
        → IsSeen tables (names_within owner) (home_in owner values)
    in_owner tables TheModule is = tt
    in_owner tables (OfProcedure number heading) is =
        of_procedure tables number heading.result (is_external_linkage heading.linkage)
        (is_some heading.reentrant) is

    with_values : (tables : TypedModule) → is_external owner ≡ false → (has_data : Bool)
        → IsSeen tables (names_within owner) (home_with_values owner has_data values)
    with_values tables is true = lies_for_all (names_within owner) (InConstants values) tt
    with_values tables is false = in_owner tables owner is

    placed : (tables : TypedModule) → is_external owner ≡ false
        → (outside : Bool) (at : Option AtAddress) (has_data : Bool)
        → IsSeen tables (names_within owner)
        (cond outside Elsewhere (option_map_or Placed at (home_with_values owner has_data values)))
    placed tables is true at has_data = lies_for_all (names_within owner) Elsewhere tt
    placed tables is false (Some address) has_data = lies_for_all (names_within owner) (Placed address) tt
    placed tables is false None has_data = with_values tables is has_data

typed_item_is : (known : Known) (block : Block) (item : ItemTree)
    → Stands block.owner known.objects known.here
    → Gives (λ (typed : TypedItem). HomeSeen block.owner known typed.home) (typed_item known block item)
typed_item_is known block item stands =
    in_turn (typed_base_is known block item.subject (base_of item.subject) stands) λ base seen.
    gives_after (extents_of block item item.dimension) λ extents.
    gives_after (typed_type block item item.item_type) λ object_type.
    gives_after (check_linkage block item item.linkage) λ may_stand.
    gives_after (typed_at known block item item.at) λ at.
    gives_after (typed_contents known block item object_type extents item.value_list) λ filled.
    gives_ok (home_of_is block.owner item base at filled.values known seen)

-- the objects of an item are added at the end of the table, and no constant lists
abbrev pub made : Block → TypedItem → List Identifier → List TypedObject
made block item names = map (λ (name : Identifier). object_named block item name.name) names

pub record ObjectsMade (block : Block) (item : TypedItem) (names : List Identifier)
    (before after : Progress) : Type 0 where
  pub objects : after.known.objects ≡ before.known.objects ++ made block item names
  pub procedures : after.known.procedures ≡ before.known.procedures
  pub lists : after.constants.lists ≡ before.constants.lists
  pub here : after.known.here ≡ before.known.here

pub with_objects-make : (block : Block) (item : TypedItem) (names : List Identifier) (progress : Progress)
    → Gives (ObjectsMade block item names progress) (with_objects block item names progress)
with_objects-make block item [] progress =
    gives_ok
    (record { objects = sym (append-nil progress.known.objects); procedures = refl; lists = refl; here = refl })
with_objects-make block item (name ∷ others) progress =
    let object : TypedObject = object_named block item name.name in
    gives_after (require (nat_le (with_typed_object item.linkage object progress).frame FRAME_LIMIT) TooLarge
    (place_of name)) λ small.
    then_more (with_objects-make block item others (with_typed_object item.linkage object progress))
    λ after rest.
    record {
      objects = rest.objects ∙ append_assoc progress.known.objects (object ∷ []) (made block item others);
      procedures = rest.procedures;
      lists = rest.lists ∙ lists_kept object.home (length progress.known.objects) progress.constants;
      here = rest.here;
    }

-- each of them lives where the item does
made_at : (block : Block) (item : TypedItem) (before : List TypedObject)
    (names : List Identifier) (number : ℕ)
    → length before ≤ number → number < length before + length names
    → IsSomeAnd (slice_get (before ++ made block item names) number)
    (λ (object : TypedObject). object.home ≡ item.home)
made_at block item [] [] number low high = absurd (omega (arith, high))
made_at block item [] (name ∷ names) zero low high = refl
made_at block item [] (name ∷ names) (suc number) low high =
    made_at block item [] names number (omega arith) (omega (arith, high))
made_at block item (object ∷ before) names zero low high = absurd (omega (arith, low))
made_at block item (object ∷ before) names (suc number) low high =
    made_at block item before names number (omega (arith, low)) (omega (arith, high))

-- declarations say nothing themselves
abbrev pub Nothing : TypedModule → Type 0
Nothing tables = Unit {0}

made_seen : (block : Block) (item : TypedItem) (names : List Identifier) (before after : Known)
    → after.objects ≡ before.objects ++ made block item names
    → HomeSeen block.owner before item.home
    → (number : ℕ) → length before.objects ≤ number → number < length before.objects + length names
    → is_external block.owner ≡ false
    → IsSeenIn (names_within block.owner) after.objects (Object number) []
made_seen block item names before after are seen number low high is_here tables keeps =
    go (slice_get after.objects number) refl
    (subst (λ all. IsSomeAnd (slice_get all number) (λ (object : TypedObject). object.home ≡ item.home))
    (sym are)
    (made_at block item before.objects names number low high))
  where
    kept : Keeps before.objects tables.objects
    kept at object e =
        keeps at object (subst (λ all. slice_get all at ≡ Some object) (sym are)
        (keeps_append before.objects (made block item names) at object e))

    go : (found : Option TypedObject) → slice_get after.objects number ≡ found
        → IsSomeAnd found (λ (object : TypedObject). object.home ≡ item.home)
        → IsSomeAnd (slice_get tables.objects number)
        (λ (object : TypedObject). IsSeen tables (names_within block.owner) object.home)
    go None e is = absurd is
    go (Some object) e is =
        some_and _ (slice_get tables.objects number) object (keeps number object e)
        (subst (λ home. IsSeen tables (names_within block.owner) home) (sym is) (seen is_here tables kept))

declare_item-goes : (block : Block) (item : ItemTree) (progress : Progress) → StandsAt block.owner progress
    → Gives (λ after. Goes block.owner progress after Nothing) (declare_item block item progress)
declare_item-goes block item progress stands =
    in_turn (anything (declare_names block (declared_by item.subject) progress.known.here)) λ here named.
    in_turn (anything (typed_item progress.known block item)) λ typed typed_as.
    let seen = (typed_item_is progress.known block item stands.0).holds typed typed_as in
    let fits = (typed_item_fits progress.known block item).holds typed typed_as in
    gives_after (require (nat_le (size_of_item typed) OBJECT_LIMIT) TooLarge (place_of_item item)) λ small.
    in_turn (anything (with_objects block typed (declared_by item.subject) progress)) λ after declared.
    let is = (with_objects-make block typed (declared_by item.subject) progress).holds after declared in
    let listed =
    (with_objects-listed block typed (declared_by item.subject) progress fits stands.1).holds after
    declared in
    let home = (typed_item_home progress.known block item).holds typed typed_as in
    let summed =
    (with_objects-summed block typed (declared_by item.subject) progress home stands.2).holds after
    declared in
    let names : List Identifier = declared_by item.subject in
    let objects = progress.known.objects in
    let longer : length after.known.objects ≡ length objects + length names =
    ap length is.objects ∙ length-append objects (made block typed names)
    ∙ ap (λ (count : ℕ). length objects + count)
    (length-map names (λ (name : Identifier). object_named block typed name.name)) in
    let grow : Keeps objects after.known.objects =
    λ at object e. subst (λ all. slice_get all at ≡ Some object) (sym is.objects)
    (keeps_append objects (made block typed names) at object e) in
    let there = (declare_names-stand block names progress.known.here grow longer
    (λ number low high is_here.
    made_seen block typed names progress.known after.known is.objects seen number low
    (subst (λ (count : ℕ). number < count) longer high) is_here) stands.0).holds here named in
    gives_ok (record {
      stands = (there.0, listed, summed);
      around = there.1;
      objects = grow;
      added = [];
      appended = is.procedures ∙ sym (append-nil progress.known.procedures);
      lists = omega (arith, ap length is.lists);
      bodies = λ tables reaches. tt;
      says = λ tables reaches. tt;
    })

declare_definition-goes : (block : Block) (name : Identifier) (progress : Progress)
    → StandsAt block.owner progress
    → Gives (λ after. Goes block.owner progress after Nothing) (declare_definition block name progress)
declare_definition-goes block name progress stands =
    gives_after
    (require (not (is_declared_again progress.known.here name.name)) DeclaredTwice (place_of name))
    λ once.
    gives_after (require (not (is_external block.owner)) ExternalContents (place_of name)) λ placed.
    gives_ok
    (goes_to (with_definition name.name progress.known.here) refl (with_definition-stands stands.0 name.name)
    (goes_nowhere progress stands (λ tables reaches. tt)))

declare_element-goes : (block : Block) (element : ElementTree) (progress : Progress)
    → StandsAt block.owner progress
    → Gives (λ after. Goes block.owner progress after Nothing) (declare_element block element progress)
declare_element-goes block (LiterallyElement name text) progress stands =
    declare_definition-goes block name progress stands
declare_element-goes block (ItemElement item) progress stands = declare_item-goes block item progress stands

pub declare_elements-go : (block : Block) (elements : List ElementTree) (progress : Progress)
    → StandsAt block.owner progress
    → Gives (λ after. Goes block.owner progress after Nothing) (declare_elements block elements progress)
declare_elements-go block [] progress stands = gives_ok (goes_nowhere progress stands (λ tables reaches. tt))
declare_elements-go block (element ∷ others) progress stands =
    in_turn (declare_element-goes block element progress stands) λ between one.
    then_more (declare_elements-go block others between one.stands) λ after rest.
    goes_as (goes_then one rest) (λ tables says. tt)

-- a procedure as its heading says
abbrev pub heading_procedure : HeadingTree → DeclarationTrees → TypedProcedure
heading_procedure heading declared =
    procedure_with heading (parameter_types declared heading.parameters) [] 0 empty_list

-- at its heading a procedure is added at the end of the table
pub record Opened (owner : Owner) (heading : HeadingTree) (declared : DeclarationTrees)
    (before after : Progress) :
    Type 0 where
  pub stands : StandsAt (OfProcedure (length before.known.procedures) heading) after
  pub body : Body
  pub around : after.known.here.outer_bodies ≡ body ∷ before.known.here.outer_bodies
  pub objects : after.known.objects ≡ before.known.objects
  pub appended : after.known.procedures ≡ before.known.procedures ++ heading_procedure heading declared ∷ []
  pub lists : after.constants ≡ before.constants
  pub is_here : is_external owner ≡ false
  pub own : OwnFits owner before.known.objects before.known.procedures before.frame

neither : (one other : Bool) → not (one || other) ≡ true → (one ≡ false) × (other ≡ false)
neither false false e = (refl, refl)
neither true other e = absurd cc
neither false true e = absurd cc

pub open_procedure-opens : (block : Block) (heading : HeadingTree) (declared : DeclarationTrees)
    (progress : Progress)
    → StandsAt block.owner progress
    → Gives (Opened block.owner heading declared progress) (open_procedure block heading declared progress)
open_procedure-opens block heading declared progress stands =
    let number : ℕ = length progress.known.procedures in
    gives_after (require (not (is_declared_again progress.known.here heading.name.name)) DeclaredTwice
    (place_of heading.name)) λ once.
    in_turn (required (not (is_reentrant block.owner || is_external block.owner)) _ _) λ _ plain.
    let free = neither _ _ plain in
    in_turn
    (declare_parameters-stand {owner = OfProcedure number heading} (take PARAMETER_LIMIT heading.parameters)
    (into_body (with_procedure heading.name.name progress.known.here))
    (into_body-stands number heading free.0 free.1 (with_procedure-stands stands.0 heading.name.name)))
    λ here is.
    gives_after (no_more_parameters (drop PARAMETER_LIMIT heading.parameters)) λ few.
    gives_after (check_visibility block heading.linkage) λ visible.
    gives_after (check_reentrant heading.linkage heading.reentrant) λ reentrant.
    let procedures : List TypedProcedure = progress.known.procedures in
    let head : Heading = heading_of (heading_procedure heading declared) in
    let listed : Listed progress.known.objects
    (headings (procedures ++ heading_procedure heading declared ∷ []))
    (with_global heading.linkage (GlobalProcedure number) progress.globals) =
    subst
    (λ heads. Listed progress.known.objects heads
    (with_global heading.linkage (GlobalProcedure number) progress.globals))
    (sym (headings-append procedures (heading_procedure heading declared ∷ [])))
    (procedure_listed heading head number refl (sym (length-map procedures heading_of)) stands.1) in
    let summed = procedure_summed heading (heading_procedure heading declared) free.0 refl stands.2 in
    gives_ok (record {
      stands = (is.0, listed, summed);
      body = (with_procedure heading.name.name progress.known.here).body;
      around = is.1;
      objects = refl;
      appended = refl;
      lists = refl;
      is_here = free.1;
      own = stands.2.own;
    })
