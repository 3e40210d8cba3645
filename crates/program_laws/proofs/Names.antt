-- The object module of a module has its names: its PUBLIC names in their order, EXTERNAL ones alone, and a
-- start where it is a main module.
use Rattle.program_laws.proofs.Prelude.{◌≡◌, ℕ, zero, suc, Bool, true, false, ◌||◌, List, [], ◌∷◌, map, Option, Some, None, option_map, is_some, if◌then◌else◌, refl, sym, ap, ap₂, subst, ◌∙◌, arith, All, filter, filter_map, nat_lt, not, slice_get, AllByRecursion, cons_option, option_and_then, bytes_eq, lt-ltb, All-from_recursion, recursion_from_All, none-some, same_Some, bytes_eq-Decides, ObjectModule, Public, is_among, GlobalItem, GlobalObject, GlobalProcedure, Visibility, IsHereIfPublic, ListsGlobals, is_global, is_shared, TypedStatements, TypedList, ListOf, TypedHome, InData, InConstants, Placed, BasedOn, Elsewhere, Nowhere, InFrame, TypedObject, TypedProcedure, TypedModule, of_all, Global, global_object, global_of, has_statement, Storage, Assembled, Range, ExternalName, PublicName, PublicPlace, TreeModule, Home, Place, public_item, public_object, public_procedure, publics_of, static_place, external_name, external_object, external_procedure, AreMoreStatements, AreNoStatements, AreStatements, IsList, IsListOf, IsLowered, Nodes, home_at, Written, place_of_label, ArePublicsOf, IsAtPlace, IsGenerated, IsPublicOf, has_main, used_names, IsLaidOut, HasNames, external_names_in, public_names_in, or_right}
use Rattle.typed_trees.specs.declared.parts.Visibility.TheVariants as visibilities
use Rattle.layout.specs.Joined.{global_procedure}
use Rattle.treecode.specs.declared.module.PublicPlace.TheVariants as public_places
use Rattle.treecode.specs.declared.place.Place.TheVariants as places
use Rattle.program_laws.proofs.Listed.{InList, object_shared, of_each, procedure_shared}

abbrev name_of_public : Public → List ℕ
name_of_public public = public.name

abbrev name_of : PublicName → List ℕ
name_of public = public.name

abbrev external_of : ExternalName → List ℕ
external_of external = external.name

abbrev global_name : Global → List ℕ
global_name global = global.name

-- a public has the name that it stands for
place_named :
    (name : List ℕ) (place : Place) (public : Public) → IsAtPlace name place public → public.name ≡ name
place_named name (places.Number number) public is = ap name_of_public is
place_named name (places.Code offset) public is = ap name_of_public is
place_named name (places.Data offset) public is = ap name_of_public is
place_named name (places.External offset index) public is = absurd is

public_named :
    (written : Written) (bytes : Assembled) (name : List ℕ) (place : PublicPlace) (public : Public)
    → IsPublicOf written bytes name place public
    → public.name ≡ name
public_named written bytes name (public_places.Object place) public is = place_named name place public is
public_named written bytes name (public_places.Procedure number) public is = ap name_of_public is

publics_named :
    (written : Written) (bytes : Assembled) (names : List PublicName) (publics : List Public)
    → ArePublicsOf written bytes names publics
    → map name_of_public publics ≡ map name_of names
publics_named written bytes [] [] are = refl
publics_named written bytes [] (public ∷ publics) are = absurd are
publics_named written bytes (name ∷ names) [] are = absurd are
publics_named written bytes (name ∷ names) (public ∷ publics) are =
    ap₂ (λ (first : List ℕ) (others : List (List ℕ)). first ∷ others)
    (public_named written bytes name.name name.place public are.0)
    (publics_named written bytes names publics are.1)

-- What is shared of one of the globals, in the forms of the program, of tree code and of its external names.
record SharesAlike (given : Option Global) (public : Option PublicName)
    (external : Option ExternalName) : Type 0 where
  publics : (globals : List Global) (names : List PublicName)
      → map name_of names ≡ map global_name (filter (λ (global : Global). global.is_public) globals)
      → map name_of (cons_option public names)
      ≡ map global_name (filter (λ (global : Global). global.is_public) (cons_option given globals))
  externals : (globals : List Global) (names : List ExternalName)
      → map external_of names ≡ map global_name (filter (λ (global : Global). not global.is_public) globals)
      → map external_of (cons_option external names)
      ≡ map global_name (filter (λ (global : Global). not global.is_public) (cons_option given globals))

-- one that is PUBLIC
as_public :
    (global : Global) (public : PublicName) (is_public : Bool)
    → is_public ≡ true
    → public.name ≡ global.name
    → SharesAlike (Some (record { name = global.name; is_public = is_public; declared = global.declared }))
    (Some public) None
as_public global public true is same = record {
  publics = λ globals names alike.
      ap₂ (λ (first : List ℕ) (others : List (List ℕ)). first ∷ others) same alike;
  externals = λ globals names alike. alike;
}
as_public global public false is same = absurd (cc)

-- one that is EXTERNAL
as_external :
    (global : Global) (external : ExternalName) (is_public : Bool)
    → is_public ≡ false
    → external.name ≡ global.name
    → SharesAlike (Some (record { name = global.name; is_public = is_public; declared = global.declared }))
    None (Some external)
as_external global external false is same = record {
  publics = λ globals names alike. alike;
  externals = λ globals names alike.
      ap₂ (λ (first : List ℕ) (others : List (List ℕ)). first ∷ others) same alike;
}
as_external global external true is same = absurd (cc)

-- what a PUBLIC object is in tree code
abbrev public_of : List Home → (number : ℕ) → TypedObject → PublicName
public_of starts number object =
    record { name = object.name; place = public_places.Object (static_place (home_at starts number)) }

-- an object of the globals, by its home
not_public : (is_public : Bool) → IsHereIfPublic Elsewhere is_public → is_public ≡ false
not_public true here = absurd here
not_public false here = refl

object_alike :
    (starts : List Home) (number : ℕ) (object : TypedObject) (kind : TypedHome)
    → is_shared kind object.is_public ≡ true
    → IsHereIfPublic kind object.is_public
    → SharesAlike (Some (global_object object)) (public_object starts number (record object { home = kind }))
    (external_object kind object.name)
object_alike starts number object (InData values) shared here =
    as_public (global_object object) (public_of starts number object) object.is_public shared refl
object_alike starts number object (InConstants values) shared here =
    as_public (global_object object) (public_of starts number object) object.is_public shared refl
object_alike starts number object (Placed at) shared here =
    as_public (global_object object) (public_of starts number object) object.is_public shared refl
object_alike starts number object (BasedOn base) shared here =
    as_public (global_object object) (public_of starts number object) object.is_public shared refl
object_alike starts number object Elsewhere shared here =
    as_external (global_object object) (record { name = object.name }) object.is_public
    (not_public object.is_public here) refl
object_alike starts number object Nowhere shared here =
    as_public (global_object object) (public_of starts number object) object.is_public shared refl
object_alike starts number object (InFrame procedure) shared here =
    as_public (global_object object) (public_of starts number object) object.is_public shared refl

-- a procedure of the globals, by its visibility
procedure_alike :
    (number : ℕ) (procedure : TypedProcedure) (visibility : Visibility)
    → is_global visibility ≡ true
    → SharesAlike (Some (global_procedure (record procedure { visibility = visibility })))
    (public_procedure number (record procedure { visibility = visibility }))
    (external_procedure visibility procedure.name)
procedure_alike number procedure visibilities.Public shared =
    as_public (global_procedure (record procedure { visibility = visibilities.Public }))
    (record { name = procedure.name; place = public_places.Procedure number }) true refl refl
procedure_alike number procedure visibilities.External shared =
    as_external (global_procedure (record procedure { visibility = visibilities.External }))
    (record { name = procedure.name }) false refl refl
procedure_alike number procedure visibilities.Private shared = absurd (cc)

abbrev IsAlike : TypedModule → List Home → GlobalItem → Type 0
IsAlike typed starts item =
    SharesAlike (global_of typed item) (public_item typed starts item) (external_name typed item)

-- each of the globals
item_alike :
    (typed : TypedModule) (starts : List Home) (item : GlobalItem)
    → ListsGlobals typed
    → InList typed.globals item
    → IsAlike typed starts item
item_alike typed starts (GlobalObject number) lists at =
    let is = object_shared typed number lists at in
    subst (λ (found : Option TypedObject).
    SharesAlike (option_map global_object found) (option_and_then (public_object starts number) found)
    (option_and_then (λ (object : TypedObject). external_object object.home object.name) found))
    (sym is.found)
    (object_alike starts number is.object (is.object).home is.shared
    (of_all (λ (object : TypedObject). IsHereIfPublic object.home object.is_public)
    typed.objects number is.object
    (recursion_from_All (λ (object : TypedObject). IsHereIfPublic object.home object.is_public) typed.objects
    lists.here) is.found))
item_alike typed starts (GlobalProcedure number) lists at =
    let is = procedure_shared typed number lists at in
    subst (λ (found : Option TypedProcedure).
    SharesAlike (option_map global_procedure found) (option_and_then (public_procedure number) found)
    (option_and_then (λ (procedure : TypedProcedure). external_procedure procedure.visibility procedure.name)
    found))
    (sym is.found)
    (procedure_alike number is.procedure (is.procedure).visibility is.shared)

-- and all of them
record NamesAlike (typed : TypedModule) (starts : List Home) (items : List GlobalItem) : Type 0 where
  publics : map name_of (filter_map (public_item typed starts) items)
      ≡ map global_name (filter (λ (global : Global). global.is_public) (filter_map (global_of typed) items))
  externals : map external_of (filter_map (external_name typed) items)
      ≡ map global_name
      (filter (λ (global : Global). not global.is_public) (filter_map (global_of typed) items))

all_alike :
    (typed : TypedModule) (starts : List Home) (items : List GlobalItem)
    → AllByRecursion (IsAlike typed starts) items
    → NamesAlike typed starts items
all_alike typed starts [] all = record { publics = refl; externals = refl }
all_alike typed starts (item ∷ others) all =
    let rest = all_alike typed starts others all.1 in record {
      publics =
          all.0.publics (filter_map (global_of typed) others) (filter_map (public_item typed starts) others)
          rest.publics;
      externals =
          all.0.externals (filter_map (global_of typed) others) (filter_map (external_name typed) others)
          rest.externals;
    }

alike : (typed : TypedModule) (starts : List Home) → ListsGlobals typed
    → NamesAlike typed starts typed.globals
alike typed starts lists =
    all_alike typed starts typed.globals
    (of_each (IsAlike typed starts) typed.globals (λ item at. item_alike typed starts item lists at))

-- the names of publics, as the module has them
public_names_are :
    (typed : TypedModule) (starts : List Home)
    → ListsGlobals typed
    → map name_of (publics_of typed starts) ≡ public_names_in typed
unfolding publics_of
public_names_are typed starts lists = (alike typed starts lists).publics

among_at :
    (externals : List ExternalName) (index : ℕ) (external : ExternalName)
    → slice_get externals index ≡ Some external
    → is_among external.name (map external_of externals) ≡ true
among_at [] index external found = absurd (none-some external found)
among_at (first ∷ others) zero external found =
    ap (λ (name : List ℕ). bytes_eq external.name name || is_among external.name (map external_of others))
    (ap external_of (same_Some first external found))
    ∙ ap (λ (same : Bool). same || is_among external.name (map external_of others))
    ((bytes_eq-Decides external.name external.name).1 refl)
among_at (first ∷ others) (suc index) external found =
    or_right (bytes_eq external.name first.name) (is_among external.name (map external_of others))
    (among_at others index external found)

used_among :
    (names : List (List ℕ)) (numbers : List (Option ℕ)) (externals : List ExternalName)
    → AllByRecursion (λ (external : ExternalName). is_among external.name names ≡ true) externals
    → AllByRecursion (λ (name : List ℕ). is_among name names ≡ true) (used_names numbers externals)
used_among names [] externals all = tt
used_among names (None ∷ numbers) [] all = tt
used_among names (Some number ∷ numbers) [] all = tt
used_among names (None ∷ numbers) (external ∷ externals) all = used_among names numbers externals all.1
used_among names (Some number ∷ numbers) (external ∷ externals) all =
    (all.0, used_among names numbers externals all.1)

-- a main module has a statement
count_is :
    {nodes : Nodes} {storage : Storage} {labels : List ℕ} {bound first count : ℕ} {trees : TypedStatements}
    (first_label : ℕ) (places : List ℕ)
    → AreStatements nodes storage labels bound first count trees
    → nat_lt 0 count ≡ has_statement (ListOf first_label places trees)
count_is first_label places AreNoStatements = refl
count_is {count = suc count} first_label places (AreMoreStatements found is are) =
    lt-ltb 0 (suc count) (omega arith)

statement_is :
    {nodes : Nodes} {storage : Storage} {labels : List ℕ} {bound : ℕ} {range : Range} {list : TypedList}
    → IsList nodes storage labels bound range list
    → nat_lt 0 range.count ≡ has_statement list
statement_is (IsListOf {first_label = first_label} {places = places} are) = count_is first_label places are

start_is : (is_main : Bool) (start : ℕ) → is_some (if is_main then Some start else None) ≡ is_main
start_is true start = refl
start_is false start = refl

-- The object module of a module has its names.
pub has_names :
    (typed : TypedModule) (storage : Storage) (tree : TreeModule) (object : ObjectModule)
    → IsLaidOut typed storage
    → IsLowered typed storage tree
    → IsGenerated tree object
    → HasNames typed object
has_names typed storage tree object laid lowered is = record {
  publics =
      publics_named is.code is.code_bytes tree.publics.items object.publics is.publics
      ∙ ap (map name_of) lowered.publics
      ∙ public_names_are typed tree.homes.items laid.globals;
  externals =
      subst (λ (names : List (List ℕ)). All
      (λ (name : List ℕ). is_among name (external_names_in typed) ≡ true) names)
      (sym is.externals)
      (All-from_recursion (λ (name : List ℕ). is_among name (external_names_in typed) ≡ true)
      (used_names is.variables.externals tree.externals.items)
      (used_among (external_names_in typed) is.variables.externals tree.externals.items
      (of_each (λ (external : ExternalName). is_among external.name (external_names_in typed) ≡ true)
      tree.externals.items
      (λ external at.
      ap (is_among external.name) (sym listed)
      ∙ among_at tree.externals.items at.index external at.found))));
  start =
      ap (λ (start : Option ℕ). is_some start) is.start
      ∙ start_is (has_main tree) (place_of_label is.code is.code_bytes is.start_label)
      ∙ statement_is lowered.main.body;
}
  where
    listed : map external_of tree.externals.items ≡ external_names_in typed
    listed =
        ap (map external_of) lowered.externals ∙ (alike typed tree.homes.items laid.globals).externals
