-- The names of tree code can be listed in an object module: they differ as those of the module do, and no PUBLIC object is
-- at the place of an EXTERNAL name, since AT looks at objects of the module itself.
use Rattle.generation.proofs.Prelude.{◌≡◌, ℕ, suc, Bool, true, false, List, [], ◌∷◌, length, Some, Result, IfOk, IfOk-weaker, slice_get, refl, sym, ap, subst, ◌∙◌, arith, TypedModule, TypedProcedure, TreeModule, IsLowered}
use Rattle.std.specs.{List.{AllByRecursion, cons_option, enumerate_from, list_any}, Option.{option_and_then}, Prelude.{filter_map, if◌then◌else◌, map, not, option_map, ◌&&◌, IfSome, IsSomeAnd}, Str.{bytes_eq}}
use Rattle.std.proofs.{Common.{zero, ◌++◌, Option, None, append-nil, append_assoc, length-append}, lemmas.Bool.{and_from, and_parts, not-true, or_from, or_parts}, lemmas.List.Elements.{recursion_from_All}, lemmas.Option.{none-some}, lemmas.Slice.Eq.{bytes_eq-Decides}}
use Rattle.mem80.proofs.Lists.{got_before}
use Rattle.typed_trees.specs.{Storable.{HasPlace, IsStorable, LooksAtPlace, LooksBack}, TypedTrees.{BasedOn, Elsewhere, Home as TypedHome, InConstants, InData, InFrame, Nowhere, Placed, TypedObject}, declared.parts.AtAddress.TheVariants.{AtNumber, AtObject}, declared.parts.GlobalItem.{GlobalItem, TheVariants.{GlobalObject, GlobalProcedure}}, declared.parts.Visibility.{Visibility}}
use Rattle.typed_trees.specs.declared.parts.Visibility.TheVariants as visibilities
use Rattle.layout.specs.{Joined.{Global, first_repeated, global_object, global_of, global_procedure, globals_of}, Storage.{Storage}, declared.slot.Slot.{Slot}}
use Rattle.layout.specs.declared.slot.Segment.{Segment as SlotSegment}
use Rattle.layout.specs.declared.slot.Segment.TheVariants as segments
use Rattle.object_modules.specs.Module.{are_new, is_among}
use Rattle.treecode.specs.{internal.Contents.{public_item, public_object, public_procedure, static_place}, internal.Homes.{external_name, external_object, external_procedure, externals_of, home_after, home_of_object, homes_from, place_of_slot}, internal.Nodes.{home_at}, declared.module.ExternalName.{ExternalName}, declared.module.PublicName.{PublicName}, declared.place.Home.{Home}}
unfoldable use Rattle.treecode.specs.{internal.Contents.{publics_of}, internal.Homes.{homes_of}}
use Rattle.treecode.specs.declared.place.Home.TheVariants as homes
use Rattle.treecode.specs.declared.place.Place.TheVariants as places
use Rattle.treecode_laws.specs.internal.Places.{IsHere}
use Rattle.codegen8080.proofs.NewNames.{new_to_fewer}
use Rattle.codegen8080.specs.internal.Names.{IsOwnPlace, IsPublicHere, names_of_externals, names_of_publics}
use Rattle.generation.specs.internal.TreeCode.{KeepsNames}

-- objects of the module itself with their homes, which are not at the place of an EXTERNAL name
abbrev OwnHomes : List TypedObject → List Home → Type 0
OwnHomes [] [] = Unit {0}
OwnHomes (object ∷ objects) (home ∷ homes) =
    (IsHere object.home → IsOwnPlace (static_place home)) × OwnHomes objects homes
OwnHomes objects homes = ⊥

own_found : (objects : List TypedObject) (homes : List Home) (number : ℕ) (object : TypedObject)
    → OwnHomes objects homes → slice_get objects number ≡ Some object → IsHere object.home
    → IsOwnPlace (static_place (home_at homes number))
own_found [] [] number object own found here = absurd (none-some object found)
own_found [] (home ∷ homes) number object own found here = absurd own
own_found (first ∷ objects) [] number object own found here = absurd own
own_found (first ∷ objects) (home ∷ homes) zero object own found here =
    let same : first ≡ object = cc in
    own.0 (subst (λ (each : TypedObject). IsHere each.home) (sym same) here)
own_found (first ∷ objects) (home ∷ homes) (suc number) object own found here =
    own_found objects homes number object own.1 found here

own_more : (objects : List TypedObject) (homes : List Home) (object : TypedObject) (home : Home)
    → OwnHomes objects homes → (IsHere object.home → IsOwnPlace (static_place home))
    → OwnHomes (objects ++ object ∷ []) (homes ++ home ∷ [])
own_more [] [] object home own one = (one, tt)
own_more [] (other ∷ homes) object home own one = absurd own
own_more (first ∷ objects) [] object home own one = absurd own
own_more (first ∷ objects) (other ∷ homes) object home own one =
    (own.0, own_more objects homes object home own.1 one)

-- where an object begins
own_slot : (slot : Option Slot) → IsOwnPlace (place_of_slot slot)
own_slot None = tt
own_slot (Some slot) = by slot.segment
  where
    by : (segment : SlotSegment)
        → IsOwnPlace (place_of_slot (Some (record { segment = segment; offset = slot.offset; size = slot.size })))
    by segments.Code = tt
    by segments.Data = tt

own_after : (home : Home) (offset : ℕ) → IsOwnPlace (static_place home)
    → IsOwnPlace (static_place (home_after home offset))
own_after (homes.Static (places.Number number)) offset own = tt
own_after (homes.Static (places.Code start)) offset own = tt
own_after (homes.Static (places.Data start)) offset own = tt
own_after (homes.Static (places.External start name)) offset own = absurd own
own_after (homes.Based base) offset own = tt
own_after (homes.Frame variable) offset own = tt

has_place_here : (home : TypedHome) → HasPlace home → IsHere home
has_place_here (InData values) has = tt
has_place_here (InConstants values) has = tt
has_place_here (Placed at) has = tt
has_place_here (BasedOn base) has = absurd has
has_place_here Elsewhere has = absurd has
has_place_here Nowhere has = absurd has
has_place_here (InFrame procedure) has = absurd has

module _ (typed : TypedModule) (storage : Storage) where
  own_home : (before others : List TypedObject) (starts : List Home) (kind : TypedHome)
      → before ++ others ≡ typed.objects
      → LooksBack (length before) kind
      → LooksAtPlace typed.objects kind
      → OwnHomes before starts
      → IsHere kind
      → IsOwnPlace (static_place (home_of_object typed storage starts (length starts) kind))
  own_home before others starts (InData values) whole back at own here = own_slot _
  own_home before others starts (InConstants values) whole back at own here = own_slot _
  own_home before others starts (Placed (AtNumber address)) whole back at own here = tt
  own_home before others starts (Placed (AtObject other offset)) whole back at own here =
      own_after (home_at starts other) offset
      (by (slice_get before other) refl
      (subst (λ (found : Option TypedObject). IsSomeAnd found (λ (object : TypedObject). HasPlace object.home))
      (ap (λ (objects : List TypedObject). slice_get objects other) (sym whole)
      ∙ got_before before others other back) at))
    where
      by : (found : Option TypedObject) → slice_get before other ≡ found
          → IsSomeAnd found (λ (object : TypedObject). HasPlace object.home)
          → IsOwnPlace (static_place (home_at starts other))
      by None is has = absurd has
      by (Some object) is has = own_found before starts other object own is (has_place_here object.home has)
  own_home before others starts (BasedOn base) whole back at own here = tt
  own_home before others starts Elsewhere whole back at own here = absurd here
  own_home before others starts Nowhere whole back at own here = tt
  own_home before others starts (InFrame procedure) whole back at own here = tt

  own_homes : (before others : List TypedObject) (starts : List Home)
      → before ++ others ≡ typed.objects
      → AllByRecursion (λ (numbered : ℕ × TypedObject). LooksBack numbered.0 (numbered.1).home)
      (enumerate_from (length before) others)
      → AllByRecursion (λ (object : TypedObject). LooksAtPlace typed.objects object.home) others
      → OwnHomes before starts
      → OwnHomes typed.objects (homes_from typed storage starts others)
  own_homes before [] starts whole back at own =
      subst (λ (objects : List TypedObject). OwnHomes objects starts) (sym (append-nil before) ∙ whole) own
  own_homes before (object ∷ others) starts whole back at own =
      own_homes (before ++ object ∷ []) others
      (starts ++ home_of_object typed storage starts (length starts) object.home ∷ [])
      (append_assoc before (object ∷ []) others ∙ whole)
      (subst
      (λ (first : ℕ).
      AllByRecursion (λ (numbered : ℕ × TypedObject). LooksBack numbered.0 (numbered.1).home)
      (enumerate_from first others))
      (omega (arith, length-append before (object ∷ []))) back.1)
      at.1
      (own_more before starts object _ own
      (own_home before (object ∷ others) starts object.home whole back.0 at.0 own))

  homes_are_own : IsStorable typed → OwnHomes typed.objects (homes_of typed storage)
  unfolding homes_of
  homes_are_own storable =
      own_homes [] typed.objects [] refl
      (recursion_from_All (λ (numbered : ℕ × TypedObject). LooksBack numbered.0 (numbered.1).home)
      (enumerate_from 0 typed.objects) storable.at)
      (recursion_from_All (λ (object : TypedObject). LooksAtPlace typed.objects object.home) typed.objects
      storable.places)
      tt

-- a PUBLIC object
public_here : (starts : List Home) (number : ℕ) (object : TypedObject) (kind : TypedHome)
    → object.home ≡ kind
    → (IsHere kind → IsOwnPlace (static_place (home_at starts number)))
    → IfSome (public_object starts number object) IsPublicHere
public_here starts number object (InData values) is own = rw is (own tt)
public_here starts number object (InConstants values) is own = rw is (own tt)
public_here starts number object (Placed at) is own = rw is (own tt)
public_here starts number object (BasedOn base) is own = rw is (own tt)
public_here starts number object Elsewhere is own = rw is tt
public_here starts number object Nowhere is own = rw is (own tt)
public_here starts number object (InFrame procedure) is own = rw is (own tt)

procedure_here : (number : ℕ) (procedure : TypedProcedure) (visibility : Visibility)
    → procedure.visibility ≡ visibility
    → IfSome (public_procedure number procedure) IsPublicHere
procedure_here number procedure visibilities.Private is = rw is tt
procedure_here number procedure visibilities.Public is = rw is tt
procedure_here number procedure visibilities.External is = rw is tt

item_here : (typed : TypedModule) (starts : List Home) (item : GlobalItem) → OwnHomes typed.objects starts
    → IfSome (public_item typed starts item) IsPublicHere
item_here typed starts (GlobalObject number) own = by (slice_get typed.objects number) refl
  where
    by : (found : Option TypedObject) → slice_get typed.objects number ≡ found
        → IfSome (option_and_then (public_object starts number) found) IsPublicHere
    by None is = tt
    by (Some object) is =
        public_here starts number object object.home refl (own_found typed.objects starts number object own is)
item_here typed starts (GlobalProcedure number) own = by (slice_get typed.procedures number)
  where
    by : (found : Option TypedProcedure)
        → IfSome (option_and_then (public_procedure number) found) IsPublicHere
    by None = tt
    by (Some procedure) = procedure_here number procedure procedure.visibility refl

here_then : (found : Option PublicName) (rest : List PublicName) → IfSome found IsPublicHere
    → AllByRecursion IsPublicHere rest → AllByRecursion IsPublicHere (cons_option found rest)
here_then None rest here all = all
here_then (Some name) rest here all = (here, all)

publics_here : (typed : TypedModule) (starts : List Home) (items : List GlobalItem)
    → OwnHomes typed.objects starts
    → AllByRecursion IsPublicHere (filter_map (public_item typed starts) items)
publics_here typed starts [] own = tt
publics_here typed starts (item ∷ items) own =
    here_then (public_item typed starts item) (filter_map (public_item typed starts) items)
    (item_here typed starts item own) (publics_here typed starts items own)

-- whichever name of two is first
differ_either : (one other : List ℕ) → bytes_eq one other ≡ false → bytes_eq other one ≡ false
differ_either one other apart = by (bytes_eq other one) refl
  where
    by : (same : Bool) → bytes_eq other one ≡ same → bytes_eq other one ≡ false
    by true is =
        let equal : other ≡ one = (bytes_eq-Decides other one).0 is in
        let bad : true ≡ false = sym ((bytes_eq-Decides one other).1 (sym equal)) ∙ apart in
        absurd cc
    by false is = is

-- A name between others may as well be the first.
new_between : (names more : List (List ℕ)) (name : List ℕ) (known : List (List ℕ))
    → is_among name known ≡ false
    → are_new (names ++ more) (name ∷ known) ≡ true
    → are_new (names ++ name ∷ more) known ≡ true
new_between [] more name known absent new =
    and_from (not (is_among name known)) (are_new more (name ∷ known)) (ap not absent) new
new_between (first ∷ names) more name known absent new =
    let parts =
    and_parts (not (is_among first (name ∷ known))) (are_new (names ++ more) (first ∷ name ∷ known)) new in
    let both =
    or_parts (bytes_eq first name) (is_among first known)
    (not-true (is_among first (name ∷ known)) parts.0) in
    and_from (not (is_among first known)) (are_new (names ++ name ∷ more) (first ∷ known)) (ap not both.1)
    (new_between names more name (first ∷ known)
    (or_from (bytes_eq name first) (is_among name known) (differ_either first name both.0) absent)
    (new_to_fewer (names ++ more) (first ∷ name ∷ known) (name ∷ first ∷ known)
    (λ other unknown.
    let one = or_parts (bytes_eq other first) (is_among other (name ∷ known)) unknown in
    let two = or_parts (bytes_eq other name) (is_among other known) one.1 in
    or_from (bytes_eq other name) (is_among other (first ∷ known)) two.0
    (or_from (bytes_eq other first) (is_among other known) one.0 two.1))
    parts.1))

-- a global is EXTERNAL or PUBLIC by its name
abbrev IsEither : Option Global → Option ExternalName → Option PublicName → Type 0
IsEither None None None = Unit {0}
IsEither (Some global) (Some external) None = external.name ≡ global.name
IsEither (Some global) None (Some public) = public.name ≡ global.name
IsEither found external public = ⊥

either_object : (starts : List Home) (number : ℕ) (object : TypedObject) (kind : TypedHome)
    → object.home ≡ kind
    → IsEither (Some (global_object object)) (external_object object.home object.name)
    (public_object starts number object)
either_object starts number object (InData values) is = rw is refl
either_object starts number object (InConstants values) is = rw is refl
either_object starts number object (Placed at) is = rw is refl
either_object starts number object (BasedOn base) is = rw is refl
either_object starts number object Elsewhere is = rw is refl
either_object starts number object Nowhere is = rw is refl
either_object starts number object (InFrame procedure) is = rw is refl

either_procedure : (number : ℕ) (procedure : TypedProcedure) (visibility : Visibility)
    → procedure.visibility ≡ visibility
    → IsEither (Some (global_procedure procedure)) (external_procedure procedure.visibility procedure.name)
    (public_procedure number procedure)
either_procedure number procedure visibilities.Private is = rw is refl
either_procedure number procedure visibilities.Public is = rw is refl
either_procedure number procedure visibilities.External is = rw is refl

either_item : (typed : TypedModule) (starts : List Home) (item : GlobalItem)
    → IsEither (global_of typed item) (external_name typed item) (public_item typed starts item)
either_item typed starts (GlobalObject number) = by (slice_get typed.objects number)
  where
    by : (found : Option TypedObject)
        → IsEither (option_map global_object found)
        (option_and_then (λ (object : TypedObject). external_object object.home object.name) found)
        (option_and_then (public_object starts number) found)
    by None = tt
    by (Some object) = either_object starts number object object.home refl
either_item typed starts (GlobalProcedure number) = by (slice_get typed.procedures number)
  where
    by : (found : Option TypedProcedure)
        → IsEither (option_map global_procedure found)
        (option_and_then
        (λ (procedure : TypedProcedure). external_procedure procedure.visibility procedure.name) found)
        (option_and_then (public_procedure number) found)
    by None = tt
    by (Some procedure) = either_procedure number procedure procedure.visibility refl

-- So the EXTERNAL names with the PUBLIC ones after them are new if all names in the order of the text are.
abbrev names_of_globals : List Global → List (List ℕ)
names_of_globals globals = map (λ (global : Global). global.name) globals

new_then : (found : Option Global) (external : Option ExternalName) (public : Option PublicName)
    (globals : List Global) (externals : List ExternalName) (publics : List PublicName)
    (known : List (List ℕ))
    → IsEither found external public
    → ((known : List (List ℕ)) → are_new (names_of_globals globals) known ≡ true
    → are_new (names_of_externals externals ++ names_of_publics publics) known ≡ true)
    → are_new (names_of_globals (cons_option found globals)) known ≡ true
    → are_new
    (names_of_externals (cons_option external externals) ++ names_of_publics (cons_option public publics))
    known
    ≡ true
new_then None None None globals externals publics known either rest new = rest known new
new_then None None (Some public) globals externals publics known either rest new = absurd either
new_then None (Some external) None globals externals publics known either rest new = absurd either
new_then None (Some external) (Some public) globals externals publics known either rest new = absurd either
new_then (Some global) None None globals externals publics known either rest new = absurd either
new_then (Some global) (Some external) (Some public) globals externals publics known either rest new =
    absurd either
new_then (Some global) (Some external) None globals externals publics known either rest new =
    let parts =
    and_parts (not (is_among global.name known)) (are_new (names_of_globals globals) (global.name ∷ known))
    new in
    subst
    (λ (name : List ℕ).
    are_new (name ∷ (names_of_externals externals ++ names_of_publics publics)) known ≡ true) (sym either)
    (and_from (not (is_among global.name known))
    (are_new (names_of_externals externals ++ names_of_publics publics) (global.name ∷ known)) parts.0
    (rest (global.name ∷ known) parts.1))
new_then (Some global) None (Some public) globals externals publics known either rest new =
    let parts =
    and_parts (not (is_among global.name known)) (are_new (names_of_globals globals) (global.name ∷ known))
    new in
    subst
    (λ (name : List ℕ).
    are_new (names_of_externals externals ++ name ∷ names_of_publics publics) known ≡ true) (sym either)
    (new_between (names_of_externals externals) (names_of_publics publics) global.name known
    (not-true (is_among global.name known) parts.0) (rest (global.name ∷ known) parts.1))

new_names : (typed : TypedModule) (starts : List Home) (items : List GlobalItem) (known : List (List ℕ))
    → are_new (names_of_globals (filter_map (global_of typed) items)) known ≡ true
    → are_new
    (names_of_externals (filter_map (external_name typed) items)
    ++ names_of_publics (filter_map (public_item typed starts) items))
    known
    ≡ true
new_names typed starts [] known new = refl
new_names typed starts (item ∷ items) known new =
    new_then (global_of typed item) (external_name typed item) (public_item typed starts item)
    (filter_map (global_of typed) items) (filter_map (external_name typed) items)
    (filter_map (public_item typed starts) items) known (either_item typed starts item)
    (λ more. new_names typed starts items more) new

-- names of which none is repeated are new
none_is_repeated : (known : List (List ℕ)) (globals : List Global) → first_repeated known globals ≡ None
    → are_new (names_of_globals globals) known ≡ true
none_is_repeated known [] none = refl
none_is_repeated known (global ∷ globals) none =
    by (list_any (bytes_eq global.name) known) none (none_is_repeated (global.name ∷ known) globals)
  where
    by : (again : Bool)
        → (if again then Some global else first_repeated (global.name ∷ known) globals) ≡ None
        → (first_repeated (global.name ∷ known) globals ≡ None
        → are_new (names_of_globals globals) (global.name ∷ known) ≡ true)
        → (not again && are_new (names_of_globals globals) (global.name ∷ known)) ≡ true
    by true none rest = absurd (none-some global (sym none))
    by false none rest = rest none

names_differ : (typed : TypedModule) (starts : List Home)
    → first_repeated [] (globals_of (typed ∷ [])) ≡ None
    → are_new (names_of_externals (externals_of typed) ++ names_of_publics (publics_of typed starts)) [] ≡ true
unfolding publics_of
names_differ typed starts none =
    new_names typed starts typed.globals []
    (none_is_repeated [] (filter_map (global_of typed) typed.globals)
    (ap (first_repeated []) (sym (append-nil (filter_map (global_of typed) typed.globals))) ∙ none))

all_publics_here : (typed : TypedModule) (storage : Storage) → IsStorable typed
    → AllByRecursion IsPublicHere (publics_of typed (homes_of typed storage))
unfolding publics_of
all_publics_here typed storage storable =
    publics_here typed (homes_of typed storage) typed.globals (homes_are_own typed storage storable)

keeps_its_names :
    (typed : TypedModule) (storage : Storage) (tree : TreeModule)
    → IsLowered typed storage tree
    → KeepsNames typed tree
unfolding KeepsNames
keeps_its_names typed storage tree lowered none storable = record {
  different =
      ap
      (λ (externals : List ExternalName).
      are_new (names_of_externals externals ++ names_of_publics tree.publics.items) []) lowered.externals
      ∙ ap
      (λ (publics : List PublicName).
      are_new (names_of_externals (externals_of typed) ++ names_of_publics publics) []) lowered.publics
      ∙ names_differ typed tree.homes.items none;
  here =
      subst (AllByRecursion IsPublicHere)
      (sym (lowered.publics ∙ ap (publics_of typed) lowered.homes))
      (all_publics_here typed storage storable);
}

-- so it is of a result, if there is one
pub keeps_names :
    {E : Type 0} (typed : TypedModule) (storage : Storage) (result : Result TreeModule E)
    → IfOk result (IsLowered typed storage)
    → IfOk result (KeepsNames typed)
keeps_names typed storage result lowered =
    IfOk-weaker result _ _ (λ tree is. keeps_its_names typed storage tree is) lowered
