-- What a part of a text declares is added to the tables, in its order.
use Rattle.types.proofs.Prelude.{◌≡◌, ℕ, List, [], ◌∷◌, ◌++◌, length, map, filter_map, Option, None, Some, option_map, option_map_or, slice_get, slice_set, unwrap_or, not, nat_le, refl, sym, ap, ◌∙◌, subst, append_assoc, append-nil, filter_map-append, set-append_seam, slice_get-map, AllZip, Gives, gives_ok, gives_after, in_turn, then_more, AreNamed, Holds, Keeps, NamesFit, IsNamed, keeps_append, names_known, object_names, procedure_names, ItemTree, HeadingTree, DeclarationTrees, Identifier, declared_by, Names, Object, Here, is_declared_again, FRAME_LIMIT, OBJECT_LIMIT, DeclaredTwice, ExternalContents, TooLarge, TypedList, TypedProcedure, Block, Progress, is_external, is_public_linkage, require, place_of, TypedItem, declare_element, declare_elements, declare_item, declare_names, place_of_item, object_named, size_of_item, with_objects, with_typed_object, close_procedure, parameter_types, procedure_with, with_here, IsDeclared, HasHeading, Entry, ObjectEntry, ProcedureEntry, declared_object, declared_procedure, entries_in_element, entries_in_elements, name_in, same_names}
use Rattle.trees.specs.Trees.{ElementTree, ItemElement, LiterallyElement}
use Rattle.typed_trees.specs.TypedTrees.{TypedObject}
use Rattle.names.specs.Environment.{out_of_body}
use Rattle.typing.proofs.Parameters.Opening.{Opened}
use Rattle.typing.proofs.Tables.{Fits, out_of_body-fits}
use Rattle.typing.proofs.Types.TypesOfDeclarations.{heading_procedure}
use Rattle.types.proofs.Declares.DeclaredItems.{IsTypedAs, item_is}

zip_append : {A B : Type 0} (R : A → B → Type 0) (one : List A) (first : List B)
    (other : List A) (last : List B)
    → AllZip R one first → AllZip R other last → AllZip R (one ++ other) (first ++ last)
zip_append R [] [] other last fits more = more
zip_append R [] (item ∷ first) other last fits more = absurd fits
zip_append R (here ∷ one) [] other last fits more = absurd fits
zip_append R (here ∷ one) (item ∷ first) other last fits more =
    (fits.0, zip_append R one first other last fits.1 more)

-- These entries are added to the tables from one place of a text to another. A table of objects that holds
-- those at the second place holds the parameters of the procedures.
pub record Adds (before after : Progress) (entries : List Entry) : Type 0 where
  pub objects : List TypedObject
  pub procedures : List TypedProcedure
  pub objects_added : after.known.objects ≡ before.known.objects ++ objects
  pub procedures_added : after.known.procedures ≡ before.known.procedures ++ procedures
  pub objects_are : AllZip IsDeclared (filter_map declared_object entries) objects
  pub procedures_are :
      (table : List TypedObject) → Keeps after.known.objects table
      → AllZip (HasHeading table) (filter_map declared_procedure entries) procedures

pub adds_none : (before after : Progress)
    → after.known.objects ≡ before.known.objects
    → after.known.procedures ≡ before.known.procedures
    → Adds before after []
adds_none before after objects procedures = record {
  objects = [];
  procedures = [];
  objects_added = objects ∙ sym (append-nil before.known.objects);
  procedures_added = procedures ∙ sym (append-nil before.known.procedures);
  objects_are = tt;
  procedures_are = λ table keeps. tt;
}

-- one part after another
pub adds_then : {before between after : Progress} {first second : List Entry}
    → Adds before between first
    → Adds between after second
    → Adds before after (first ++ second)
adds_then {before} {between} {after} {first} {second} one other =
    let kept : Keeps between.known.objects after.known.objects =
    subst (λ (all : List TypedObject). Keeps between.known.objects all) (sym other.objects_added)
    (keeps_append between.known.objects other.objects) in
    record {
      objects = one.objects ++ other.objects;
      procedures = one.procedures ++ other.procedures;
      objects_added = other.objects_added
          ∙ ap (λ (all : List TypedObject). all ++ other.objects) one.objects_added
          ∙ append_assoc before.known.objects one.objects other.objects;
      procedures_added = other.procedures_added
          ∙ ap (λ (all : List TypedProcedure). all ++ other.procedures) one.procedures_added
          ∙ append_assoc before.known.procedures one.procedures other.procedures;
      objects_are = subst
          (λ (all : List (ItemTree × Identifier)). AllZip IsDeclared all (one.objects ++ other.objects))
          (sym (filter_map-append declared_object first second))
          (zip_append IsDeclared (filter_map declared_object first) one.objects
          (filter_map declared_object second)
          other.objects one.objects_are other.objects_are);
      procedures_are = λ table keeps.
          subst
          (λ (all : List HeadingTree). AllZip (HasHeading table) all (one.procedures ++ other.procedures))
          (sym (filter_map-append declared_procedure first second))
          (zip_append (HasHeading table) (filter_map declared_procedure first) one.procedures
          (filter_map declared_procedure second) other.procedures
          (one.procedures_are table (λ number object is. keeps number object (kept number object is)))
          (other.procedures_are table keeps));
    }

-- what names stand for changes before a part, and after it
pub adds_here : {before after : Progress} {entries : List Entry} (first last : Here)
    → Adds (with_here first before) after entries
    → Adds before (with_here last after) entries
adds_here first last adds = record {
  objects = adds.objects;
  procedures = adds.procedures;
  objects_added = adds.objects_added;
  procedures_added = adds.procedures_added;
  objects_are = adds.objects_are;
  procedures_are = adds.procedures_are;
}

pub adds_from_here : {before after : Progress} {entries : List Entry} (first : Here)
    → Adds (with_here first before) after entries
    → Adds before after entries
adds_from_here first adds = record {
  objects = adds.objects;
  procedures = adds.procedures;
  objects_added = adds.objects_added;
  procedures_added = adds.procedures_added;
  objects_are = adds.objects_are;
  procedures_are = adds.procedures_are;
}

-- the objects of an item
record ObjectsAdd (item : ItemTree) (names : List Identifier) (before after : Progress) : Type 0 where
  objects : List TypedObject
  added : after.known.objects ≡ before.known.objects ++ objects
  are : AllZip IsDeclared (filter_map declared_object (map (ObjectEntry item) names)) objects
  procedures : after.known.procedures ≡ before.known.procedures

object_is : (block : Block) (item : ItemTree) (typed : TypedItem) (name : Identifier)
    → IsTypedAs item typed
    → IsDeclared (item, name) (object_named block typed name.name)
object_is block item typed name is = record {
  name = refl;
  dimension = is.dimension;
  object_type = is.object_type;
  home = is.home;
  is_public = ap is_public_linkage is.linkage;
}

objects_add : (block : Block) (item : ItemTree) (typed : TypedItem) (names : List Identifier)
    (progress : Progress)
    → IsTypedAs item typed
    → Gives (ObjectsAdd item names progress) (with_objects block typed names progress)
objects_add block item typed [] progress is = gives_ok (record {
  objects = [];
  added = sym (append-nil progress.known.objects);
  are = tt;
  procedures = refl;
})
objects_add block item typed (name ∷ others) progress is =
    let object : TypedObject = object_named block typed name.name in
    gives_after (require (nat_le (with_typed_object typed.linkage object progress).frame FRAME_LIMIT) TooLarge
    (place_of name)) λ small.
    then_more (objects_add block item typed others (with_typed_object typed.linkage object progress) is)
    λ after rest.
    record {
      objects = object ∷ rest.objects;
      added = rest.added ∙ append_assoc progress.known.objects (object ∷ []) rest.objects;
      are = (object_is block item typed name is, rest.are);
      procedures = rest.procedures;
    }

no_procedures : (table : List TypedObject) (item : ItemTree) (names : List Identifier)
    → AllZip (HasHeading table) (filter_map declared_procedure (map (ObjectEntry item) names)) []
no_procedures table item [] = tt
no_procedures table item (name ∷ others) = no_procedures table item others

item_adds : (block : Block) (item : ItemTree) (progress : Progress)
    → Gives (λ after. Adds progress after (map (ObjectEntry item) (declared_by item.subject)))
    (declare_item block item progress)
item_adds block item progress =
    gives_after (declare_names block (declared_by item.subject) progress.known.here) λ here.
    in_turn (item_is progress.known block item) λ typed is.
    gives_after (require (nat_le (size_of_item typed) OBJECT_LIMIT) TooLarge (place_of_item item)) λ small.
    in_turn (objects_add block item typed (declared_by item.subject) progress is) λ after added.
    gives_ok (record {
      objects = added.objects;
      procedures = [];
      objects_added = added.added;
      procedures_added = added.procedures ∙ sym (append-nil progress.known.procedures);
      objects_are = added.are;
      procedures_are = λ table keeps. no_procedures table item (declared_by item.subject);
    })

element_adds : (block : Block) (element : ElementTree) (progress : Progress)
    → Gives (λ after. Adds progress after (entries_in_element element))
    (declare_element block element progress)
element_adds block (LiterallyElement name text) progress =
    gives_after
    (require (not (is_declared_again progress.known.here name.name)) DeclaredTwice (place_of name))
    λ once.
    gives_after (require (not (is_external block.owner)) ExternalContents (place_of name)) λ placed.
    gives_ok (adds_none progress _ refl refl)
element_adds block (ItemElement item) progress = item_adds block item progress

pub elements_add : (block : Block) (elements : List ElementTree) (progress : Progress)
    → Gives (λ after. Adds progress after (entries_in_elements elements))
    (declare_elements block elements progress)
elements_add block [] progress = gives_ok (adds_none progress progress refl refl)
elements_add block (element ∷ others) progress =
    in_turn (element_adds block element progress) λ between one.
    then_more (elements_add block others between) λ after two.
    adds_then one two

-- the parameters of a procedure have the names of its heading
name_there : (objects table : List TypedObject) (number : ℕ) (name : List ℕ)
    → Keeps objects table
    → slice_get (object_names objects) number ≡ Some name
    → name_in table number ≡ name
name_there objects table number name keeps is =
    by (slice_get objects number) refl (sym (slice_get-map name_of objects number) ∙ is)
  where
    name_of : TypedObject → List ℕ
    name_of object = object.name

    by : (found : Option TypedObject)
        → slice_get objects number ≡ found
        → option_map (λ (object : TypedObject). object.name) found ≡ Some name
        → name_in table number ≡ name
    by None at same = absurd cc
    by (Some object) at same =
        ap (λ (there : Option TypedObject). option_map_or (λ (object : TypedObject). object.name) there [])
        (keeps number object at)
        ∙ ap (λ (its_name : Option (List ℕ)). unwrap_or its_name []) same

pub parameters_named : (objects table : List TypedObject) (procedures : List (List ℕ)) (block : Names)
    (parameters : List Identifier) (places : List ℕ)
    → NamesFit (IsNamed (object_names objects) procedures) block
    → Keeps objects table
    → AreNamed block parameters places
    → map (name_in table) places ≡ map (λ (parameter : Identifier). parameter.name) parameters
parameters_named objects table procedures block [] [] fit keeps named = refl
parameters_named objects table procedures block [] (place ∷ places) fit keeps named = absurd named
parameters_named objects table procedures block (parameter ∷ others) [] fit keeps named = absurd named
parameters_named objects table procedures block (parameter ∷ others) (place ∷ places) fit keeps named =
    ap (λ (name : List ℕ). name ∷ map (name_in table) places)
    (name_there objects table place parameter.name keeps
    (names_known (IsNamed (object_names objects) procedures) block parameter.name (Object place) fit named.0))
    ∙ ap (λ (names : List (List ℕ)). parameter.name ∷ names)
    (parameters_named objects table procedures block others places fit keeps named.1)

-- a procedure: what its heading and what stands in it declare
pub procedure_adds : (heading : HeadingTree) (declared : DeclarationTrees)
    (places : List ℕ) (body : TypedList)
    (before opened within after : Progress) (first second : List Entry)
    → Opened heading declared before opened
    → Adds opened within first
    → Adds within after second
    → Holds within
    → AreNamed within.known.here.body.block heading.parameters places
    → Adds before (close_procedure heading declared (length before.known.procedures) places body after)
    (ProcedureEntry heading ∷ first ++ second)
procedure_adds heading declared places body before opened within after first second heads
    one other holds named =
    let inside : Adds opened after (first ++ second) = adds_then one other in
    let start : TypedProcedure = heading_procedure heading declared in
    let last : TypedProcedure =
    procedure_with heading (parameter_types declared heading.parameters) places after.frame body in
    let procedures : List TypedProcedure = before.known.procedures in
    let kept : Keeps within.known.objects after.known.objects =
    subst (λ (all : List TypedObject). Keeps within.known.objects all) (sym other.objects_added)
    (keeps_append within.known.objects other.objects) in
    let is : after.known.procedures ≡ (procedures ++ start ∷ []) ++ inside.procedures =
    inside.procedures_added ∙ ap (λ (all : List TypedProcedure). all ++ inside.procedures) heads.procedures in
    record {
      objects = inside.objects;
      procedures = last ∷ inside.procedures;
      objects_added =
          inside.objects_added ∙ ap (λ (all : List TypedObject). all ++ inside.objects) heads.objects;
      procedures_added =
          ap (λ (all : List TypedProcedure). slice_set all (length procedures) last)
          (is ∙ append_assoc procedures (start ∷ []) inside.procedures)
          ∙ set-append_seam procedures start inside.procedures last;
      objects_are = inside.objects_are;
      procedures_are = λ table keeps. (
        record {
          name = refl;
          visibility = refl;
          result = refl;
          is_reentrant = refl;
          parameters =
              parameters_named within.known.objects table (procedure_names within.known.procedures)
              within.known.here.body.block heading.parameters places holds.body.0
              (λ number object is. keeps number object (kept number object is)) named;
        },
        inside.procedures_are table keeps,
      );
    }

pub closed_holds : (heading : HeadingTree) (declared : DeclarationTrees) (places : List ℕ) (body : TypedList)
    (before opened after : Progress) {entries : List Entry}
    → Opened heading declared before opened
    → Adds opened after entries
    → Holds after
    → Holds (close_procedure heading declared (length before.known.procedures) places body after)
closed_holds heading declared places body before opened after heads inside holds =
    let start : TypedProcedure = heading_procedure heading declared in
    let last : TypedProcedure =
    procedure_with heading (parameter_types declared heading.parameters) places after.frame body in
    let is : after.known.procedures ≡ (before.known.procedures ++ start ∷ []) ++ inside.procedures =
    inside.procedures_added ∙ ap (λ (all : List TypedProcedure). all ++ inside.procedures) heads.procedures in
    subst (λ (names : List (List ℕ)). Fits (object_names after.known.objects) names
    (out_of_body after.known.here))
    (sym (same_names before.known.procedures start last inside.procedures after.known.procedures refl is))
    (out_of_body-fits holds)
