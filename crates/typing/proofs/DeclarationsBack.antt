-- Declarations and headings: what they add to the tables.
use Rattle.typing.proofs.Prelude.{◌≡◌, ℕ, List, [], ◌∷◌, ◌++◌, map, take, drop, length, Some, slice_get, slice_set, nat_le, not, ◌||◌, refl, sym, ap, ◌∙◌, subst, append_assoc, append-nil, map-append, ScalarType, Identifier, ItemTree, ElementTree, LiterallyElement, ItemElement, HeadingTree, DeclarationTrees, StatementTrees, Here, into_body, out_of_body, is_declared_again, is_parameter_again, with_object, with_procedure, with_parameter, with_definition, declared_by, OBJECT_LIMIT, FRAME_LIMIT, PARAMETER_LIMIT, TypedList, TypedObject, TypedProcedure, TypedModule, DeclaredTwice, NestedProcedure, ExternalContents, TooLarge, require, place_of, Block, Progress, is_external, is_reentrant, declares_parameter, declare_names, TypedItem, object_named, with_typed_object, with_objects, typed_item, size_of_item, place_of_item, declare_item, declare_definition, declare_element, declare_elements, declare_parameters, no_more_parameters, check_visibility, check_reentrant, parameter_types, procedure_with, empty_list, with_heading, open_procedure, close_procedure, with_here, plain_statements, untyped_list}
use Rattle.typing.proofs.Kept.{Gives, gives_ok, in_turn, gives_after, then_more}
use Rattle.typing.proofs.Tables.{Fits, Keeps, keeps_append, with_object-fits, with_procedure-fits, with_parameter-fits, with_definition-fits, into_body-fits, out_of_body-fits}
use Rattle.typing.proofs.Walked.{object_names, procedure_names, Holds, Reaches, bodies_back, Walked, walked_then, walked_as, walked_nothing, walked_to}
use Rattle.typing.proofs.Types.TypesWalked.{closed_table}
use Rattle.typing.proofs.ConstantTables.{lists_kept}

abbrev names_of : List Identifier → List (List ℕ)
names_of identifiers = map (λ (identifier : Identifier). identifier.name) identifiers

-- the names of an item
declare_names-fit : (objects procedures : List (List ℕ)) (block : Block)
    (names : List Identifier) (here : Here)
    → Fits objects procedures here
    → Gives (Fits (objects ++ names_of names) procedures) (declare_names block names here)
declare_names-fit objects procedures block [] here fits =
    gives_ok (subst (λ k. Fits k procedures here) (sym (append-nil objects)) fits)
declare_names-fit objects procedures block (name ∷ others) here fits =
    gives_after (require (not (is_declared_again here name.name)) DeclaredTwice (place_of name)) λ once.
    gives_after
    (require (not (is_external block.owner) || declares_parameter block name.name) ExternalContents
    (place_of name)) λ placed.
    subst (λ k. Gives (Fits k procedures) (declare_names block others (with_object name.name here)))
    (append_assoc objects (name.name ∷ []) (names_of others))
    (declare_names-fit (objects ++ name.name ∷ []) procedures block others (with_object name.name here)
    (with_object-fits name.name fits))

-- objects are added at the end of the table, and no constant lists
record ObjectsAdded (names : List Identifier) (before after : Progress) : Type 0 where
  named : object_names after.known.objects ≡ object_names before.known.objects ++ names_of names
  kept : Keeps before.known.objects after.known.objects
  procedures : after.known.procedures ≡ before.known.procedures
  lists : after.constants.lists ≡ before.constants.lists

with_objects-adds : (block : Block) (item : TypedItem) (names : List Identifier) (progress : Progress)
    → Gives (ObjectsAdded names progress) (with_objects block item names progress)
with_objects-adds block item [] progress = gives_ok (record {
  named = sym (append-nil (object_names progress.known.objects));
  kept = λ number object e. e;
  procedures = refl;
  lists = refl;
})
with_objects-adds block item (name ∷ others) progress =
    let object : TypedObject = object_named block item name.name in
    let objects : List TypedObject = progress.known.objects in
    gives_after (require (nat_le (with_typed_object item.linkage object progress).frame FRAME_LIMIT) TooLarge
    (place_of name)) λ small.
    then_more (with_objects-adds block item others (with_typed_object item.linkage object progress))
    λ after rest.
    record {
      named = rest.named
          ∙ ap (λ k. k ++ names_of others)
          (map-append (λ (object : TypedObject). object.name) objects (object ∷ []))
          ∙ append_assoc (object_names objects) (name.name ∷ []) (names_of others);
      kept = λ number x e. rest.kept number x (keeps_append objects (object ∷ []) number x e);
      procedures = rest.procedures;
      lists = rest.lists ∙ lists_kept object.home (length objects) progress.constants;
    }

-- of a declaration nothing is given back beside the bodies in it
abbrev pub Nothing : TypedModule → Type 0
Nothing tables = Unit {0}

-- a part that adds objects, and after which these names are known
walked_objects : (names : List Identifier) (before after : Progress) (here : Here)
    → ObjectsAdded names before after
    → Fits (object_names before.known.objects ++ names_of names)
    (procedure_names before.known.procedures) here
    → Walked before (with_here here after) [] Nothing
walked_objects names before after here added fits = record {
  holds = subst (λ k. Fits k (procedure_names after.known.procedures) here) (sym added.named)
      (subst (λ k. Fits (object_names before.known.objects ++ names_of names) (procedure_names k) here)
      (sym added.procedures) fits);
  reaches = λ tables reaches. (
    λ number object e. reaches.0 number object (added.kept number object e),
    subst (λ k. Keeps (procedure_names k) (procedure_names tables.procedures)) added.procedures reaches.1,
    subst (λ k. Keeps k tables.constants.lists) added.lists reaches.2,
  );
  added = [];
  appended = added.procedures ∙ sym (append-nil before.known.procedures);
  bodies = λ tables reaches. refl;
  back = λ tables reaches. tt;
}

declare_item-walks : (block : Block) (item : ItemTree) (progress : Progress) → Holds progress
    → Gives (λ after. Walked progress after [] Nothing) (declare_item block item progress)
declare_item-walks block item progress holds =
    in_turn
    (declare_names-fit (object_names progress.known.objects) (procedure_names progress.known.procedures) block
    (declared_by item.subject) progress.known.here holds) λ here fits.
    gives_after (typed_item progress.known block item) λ typed.
    gives_after (require (nat_le (size_of_item typed) OBJECT_LIMIT) TooLarge (place_of_item item)) λ small.
    in_turn (with_objects-adds block typed (declared_by item.subject) progress) λ after added.
    gives_ok (walked_objects (declared_by item.subject) progress after here added fits)

declare_definition-walks : (block : Block) (name : Identifier) (progress : Progress) → Holds progress
    → Gives (λ after. Walked progress after [] Nothing) (declare_definition block name progress)
declare_definition-walks block name progress holds =
    gives_after
    (require (not (is_declared_again progress.known.here name.name)) DeclaredTwice (place_of name))
    λ once.
    gives_after (require (not (is_external block.owner)) ExternalContents (place_of name)) λ placed.
    gives_ok
    (walked_to (with_definition name.name progress.known.here) (with_definition-fits name.name)
    (walked_nothing progress holds (λ tables reaches. tt)))

declare_element-walks : (block : Block) (element : ElementTree) (progress : Progress) → Holds progress
    → Gives (λ after. Walked progress after [] Nothing) (declare_element block element progress)
declare_element-walks block (LiterallyElement name text) progress holds =
    declare_definition-walks block name progress holds
declare_element-walks block (ItemElement item) progress holds = declare_item-walks block item progress holds

pub declare_elements-walk : (block : Block) (elements : List ElementTree) (progress : Progress)
    → Holds progress
    → Gives (λ after. Walked progress after [] Nothing) (declare_elements block elements progress)
declare_elements-walk block [] progress holds =
    gives_ok (walked_nothing progress holds (λ tables reaches. tt))
declare_elements-walk block (element ∷ others) progress holds =
    in_turn (declare_element-walks block element progress holds) λ between one.
    then_more (declare_elements-walk block others between one.holds) λ after rest.
    walked_as (walked_then one rest) (λ tables back. tt)

-- the parameters of a heading
declare_parameters-fit : (objects procedures : List (List ℕ)) (parameters : List Identifier) (here : Here)
    → Fits objects procedures here
    → Gives (Fits objects procedures) (declare_parameters parameters here)
declare_parameters-fit objects procedures [] here fits = gives_ok fits
declare_parameters-fit objects procedures (parameter ∷ others) here fits =
    gives_after (require (not (is_parameter_again here parameter.name)) DeclaredTwice (place_of parameter))
    λ once.
    declare_parameters-fit objects procedures others (with_parameter parameter.name here)
    (with_parameter-fits parameter.name fits)

-- a procedure as its heading says
abbrev heading_procedure : HeadingTree → DeclarationTrees → TypedProcedure
heading_procedure heading declared =
    procedure_with heading (parameter_types declared heading.parameters) [] 0 empty_list

procedure_names-append : (procedures : List TypedProcedure) (procedure : TypedProcedure)
    → procedure_names (procedures ++ procedure ∷ []) ≡ procedure_names procedures ++ procedure.name ∷ []
procedure_names-append procedures procedure =
    map-append (λ (procedure : TypedProcedure). procedure.name) procedures (procedure ∷ [])

-- at its heading a procedure is added at the end of the table
pub record Opened (heading : HeadingTree) (declared : DeclarationTrees)
    (before after : Progress) : Type 0 where
  pub holds : Holds after
  pub reaches : (tables : TypedModule) → Reaches tables after → Reaches tables before
  pub appended : after.known.procedures ≡ before.known.procedures ++ heading_procedure heading declared ∷ []

opened_with : (heading : HeadingTree) (declared : DeclarationTrees) (progress : Progress) (here : Here)
    → Fits (object_names progress.known.objects)
    (procedure_names progress.known.procedures ++ heading.name.name ∷ []) here
    → Opened heading declared progress
    (with_heading heading (parameter_types declared heading.parameters) here progress)
opened_with heading declared progress here fits =
    let procedure : TypedProcedure = heading_procedure heading declared in
    let procedures : List TypedProcedure = progress.known.procedures in
    let names : procedure_names (procedures ++ procedure ∷ [])
    ≡ procedure_names procedures ++ procedure.name ∷ [] =
    procedure_names-append procedures procedure in
    record {
      holds = subst (λ k. Fits (object_names progress.known.objects) k here) (sym names) fits;
      reaches = λ tables reaches. (
        reaches.0,
        λ number name e. reaches.1 number name
            (subst (λ k. slice_get k number ≡ Some name) (sym names)
            (keeps_append (procedure_names procedures) (procedure.name ∷ []) number name e)),
        reaches.2,
      );
      appended = refl;
    }

pub open_procedure-opens : (block : Block) (heading : HeadingTree) (declared : DeclarationTrees)
    (progress : Progress)
    → Holds progress
    → Gives (Opened heading declared progress) (open_procedure block heading declared progress)
open_procedure-opens block heading declared progress holds =
    gives_after (require (not (is_declared_again progress.known.here heading.name.name)) DeclaredTwice
    (place_of heading.name)) λ once.
    gives_after (require (not (is_reentrant block.owner || is_external block.owner)) NestedProcedure
    (place_of heading.name)) λ placed.
    in_turn
    (declare_parameters-fit (object_names progress.known.objects)
    (procedure_names progress.known.procedures ++ heading.name.name ∷ [])
    (take PARAMETER_LIMIT heading.parameters)
    (into_body (with_procedure heading.name.name progress.known.here))
    (into_body-fits (with_procedure-fits heading.name.name holds))) λ here fits.
    gives_after (no_more_parameters (drop PARAMETER_LIMIT heading.parameters)) λ few.
    gives_after (check_visibility block heading.linkage) λ visible.
    gives_after (check_reentrant heading.linkage heading.reentrant) λ reentrant.
    gives_ok (opened_with heading declared progress here fits)

pub same_names : (before : List TypedProcedure) (first last : TypedProcedure)
    (added table : List TypedProcedure)
    → first.name ≡ last.name
    → table ≡ (before ++ first ∷ []) ++ added
    → procedure_names (slice_set table (length before) last) ≡ procedure_names table
same_names before first last added table same is =
    let name_of = λ (procedure : TypedProcedure). procedure.name in
    ap procedure_names (closed_table before first last added table is)
    ∙ map-append name_of before (last ∷ added)
    ∙ ap (λ k. procedure_names before ++ k ∷ procedure_names added) (sym same)
    ∙ sym (map-append name_of before (first ∷ added))
    ∙ ap procedure_names (sym (is ∙ append_assoc before (first ∷ []) added))

pub walked_procedure : (heading : HeadingTree) (declared : DeclarationTrees) (parameters : List ℕ)
    (body : TypedList) (text : StatementTrees) (texts : List StatementTrees) (before opened within : Progress)
    → Opened heading declared before opened
    → Walked opened within texts (λ tables. untyped_list tables body ≡ plain_statements text)
    → Walked before
    (close_procedure heading declared (length before.known.procedures) parameters body within)
    (text ∷ texts) Nothing
walked_procedure heading declared parameters body text texts before opened within heads inside =
    let first : TypedProcedure = heading_procedure heading declared in
    let types : List ScalarType = parameter_types declared heading.parameters in
    let last : TypedProcedure = procedure_with heading types parameters within.frame body in
    let procedures : List TypedProcedure = before.known.procedures in
    let is : within.known.procedures ≡ (procedures ++ first ∷ []) ++ inside.added =
    inside.appended ∙ ap (λ k. k ++ inside.added) heads.appended in
    let names : procedure_names (slice_set within.known.procedures (length procedures) last)
    ≡ procedure_names within.known.procedures =
    same_names procedures first last inside.added within.known.procedures refl is in
    let reaches_inside : (tables : TypedModule)
    → Reaches tables (close_procedure heading declared (length procedures) parameters body within)
    → Reaches tables within =
    λ tables reaches. (
      reaches.0,
      subst (λ k. Keeps k (procedure_names tables.procedures)) names reaches.1,
      reaches.2,
    ) in
    record {
      holds = subst (λ k. Fits (object_names within.known.objects) k (out_of_body within.known.here))
          (sym names)
          (out_of_body-fits inside.holds);
      reaches =
          λ tables reaches. heads.reaches tables (inside.reaches tables (reaches_inside tables reaches));
      added = last ∷ inside.added;
      appended = closed_table procedures first last inside.added within.known.procedures is;
      bodies = λ tables reaches.
          ap (λ k. k ∷ bodies_back tables inside.added) (inside.back tables (reaches_inside tables reaches))
          ∙ ap (λ k. plain_statements text ∷ k) (inside.bodies tables (reaches_inside tables reaches));
      back = λ tables reaches. tt;
    }
