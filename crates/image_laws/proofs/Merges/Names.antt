-- Names of the object modules of a program are found, stand once, and one of the modules is the main one.
use Rattle.image_laws.proofs.Prelude.{◌≡◌, ℕ, ◌+◌, Bool, true, false, ◌%◌, ◌||◌, cond, List, [], ◌∷◌, ◌++◌, length, map, Option, Some, None, option_map, is_some, if◌then◌else◌, refl, ap, ap₂, sym, subst, ◌∙◌, arith, count_by, filter, find, flat_map, not, AllByRecursion, cons_option, list_any, option_and_then, option_map_or, option_or, bytes_eq, map-append, filter-append, recursion_from_All, sum_by-cons, none-some, bytes_eq-Decides, TypedModule, Global, IsJoined, declared_otherwise, externals_of, first_repeated, globals_of, is_main, join_refusal, lacks_public, not_one_main, public_twice, publics_of, without_public, Linked, code_end, data_end, linked_after, linked_from, linked_modules, placed, placement_refusal, main_modules, public_names, repeated_after, unless_refused, unresolved, ObjectModule, is_among, SegmentTooLarge, plan_of, refusal_of_merge, or_right, all_append, both_are_none, none_before_map, one_is_main}
use Rattle.layout.specs.Joined.{public_named}
use Rattle.image_laws.proofs.Programs.Made.{merge_made}
use Rattle.image_laws.proofs.Programs.Refusals.{ranges_refused}
use Rattle.image_laws.specs.Names.{external_names_in, shared_in}
use Rattle.image_laws.specs.internal.Names.{HaveNames, ProgramHasImage}

abbrev name_of : Global → List ℕ
name_of global = global.name

abbrev is_shared_out : Global → Bool
is_shared_out global = global.is_public

-- the names of the object modules are those of the program
names_are :
    (modules : List TypedModule) (objects : List ObjectModule)
    → HaveNames modules objects
    → public_names objects ≡ map name_of (publics_of modules)
names_are [] [] have = refl
names_are [] (object ∷ objects) have = absurd have
names_are (typed ∷ modules) [] have = absurd have
names_are (typed ∷ modules) (object ∷ objects) have =
    ap₂ (λ (one other : List (List ℕ)). one ++ other) have.0.publics (names_are modules objects have.1)
    ∙ sym (map-append name_of (filter is_shared_out (shared_in typed)) (publics_of modules))
    ∙ ap (map name_of) (sym (filter-append is_shared_out (shared_in typed) (globals_of modules)))

-- which stand once
once :
    (known : List (List ℕ)) (globals : List Global)
    → first_repeated known globals ≡ None
    → repeated_after known (map name_of globals) ≡ None
once known [] none = refl
once known (global ∷ globals) none =
    by (list_any (bytes_eq global.name) known) none (once (global.name ∷ known) globals)
  where
    by : (stood : Bool)
        → (if stood then Some global else first_repeated (global.name ∷ known) globals) ≡ None
        → (first_repeated (global.name ∷ known) globals ≡ None
        → repeated_after (global.name ∷ known) (map name_of globals) ≡ None)
        → (if stood then Some global.name else repeated_after (global.name ∷ known) (map name_of globals))
        ≡ None
    by true none rest = absurd (none-some global (sym none))
    by false none rest = rest none

-- what is found among globals is among their names
found_among :
    (publics : List Global) (name : List ℕ)
    → is_some (public_named publics name) ≡ true
    → is_among name (map name_of publics) ≡ true
found_among [] name some = let bad : false ≡ true = some in absurd cc
found_among (global ∷ publics) name some =
    by (bytes_eq global.name name) refl some (found_among publics name)
  where
    equal : bytes_eq global.name name ≡ true → bytes_eq name global.name ≡ true
    equal same = (bytes_eq-Decides name global.name).1 (sym ((bytes_eq-Decides global.name name).0 same))

    by : (same : Bool)
        → bytes_eq global.name name ≡ same
        → is_some (if same then Some global else public_named publics name) ≡ true
        → (is_some (public_named publics name) ≡ true → is_among name (map name_of publics) ≡ true)
        → (bytes_eq name global.name || is_among name (map name_of publics)) ≡ true
    by true e some rest =
        ap (λ (test : Bool). test || is_among name (map name_of publics)) (equal e)
    by false e some rest =
        or_right (bytes_eq name global.name) (is_among name (map name_of publics)) (rest some)

-- each of these externals has a public
has_public :
    (publics externals : List Global) (name : List ℕ)
    → find (lacks_public publics) externals ≡ None
    → is_among name (map name_of externals) ≡ true
    → is_among name (map name_of publics) ≡ true
has_public publics [] name none among = let bad : false ≡ true = among in absurd cc
has_public publics (global ∷ externals) name none among =
    by (lacks_public publics global) refl none (has_public publics externals name)
  where
    found : (public : Option Global)
        → option_map_or (λ (public : Global). false) public true ≡ false
        → is_some public ≡ true
    found (Some public) is = refl
    found None is = absurd (let bad : true ≡ false = is in cc)

    here : lacks_public publics global ≡ false → (same : Bool) → bytes_eq name global.name ≡ same
        → (same || is_among name (map name_of externals)) ≡ true
        → (is_among name (map name_of externals) ≡ true → is_among name (map name_of publics) ≡ true)
        → is_among name (map name_of publics) ≡ true
    here has true e is rest =
        subst (λ (one : List ℕ). is_among one (map name_of publics) ≡ true)
        (sym ((bytes_eq-Decides name global.name).0 e))
        (found_among publics global.name (found (public_named publics global.name) has))
    here has false e is rest = rest is

    by : (lacks : Bool)
        → lacks_public publics global ≡ lacks
        → (if lacks then Some global else find (lacks_public publics) externals) ≡ None
        → (find (lacks_public publics) externals ≡ None
        → is_among name (map name_of externals) ≡ true
        → is_among name (map name_of publics) ≡ true)
        → is_among name (map name_of publics) ≡ true
    by true e none rest = absurd (none-some global (sym none))
    by false e none rest = here e (bytes_eq name global.name) refl among (rest none)

among_front : (name : List ℕ) (one other : List (List ℕ)) → is_among name one ≡ true
    → is_among name (one ++ other) ≡ true
among_front name [] other is = let bad : false ≡ true = is in absurd cc
among_front name (first ∷ one) other is = by (bytes_eq name first) is (among_front name one other)
  where
    by : (same : Bool) → (same || is_among name one) ≡ true
        → (is_among name one ≡ true → is_among name (one ++ other) ≡ true)
        → (same || is_among name (one ++ other)) ≡ true
    by true is rest = refl
    by false is rest = rest is

among_back : (name : List ℕ) (one other : List (List ℕ)) → is_among name other ≡ true
    → is_among name (one ++ other) ≡ true
among_back name [] other is = is
among_back name (first ∷ one) other is = by (bytes_eq name first) (among_back name one other is)
  where
    by : (same : Bool) → is_among name (one ++ other) ≡ true → (same || is_among name (one ++ other)) ≡ true
    by true rest = refl
    by false rest = rest

abbrev is_outside : Global → Bool
is_outside global = not global.is_public

-- the external names of the object modules are among those of the program
each_external :
    (names more : List (List ℕ))
    → AllByRecursion (λ (name : List ℕ). is_among name more ≡ true) names
    → (all : List (List ℕ))
    → ((name : List ℕ) → is_among name more ≡ true → is_among name all ≡ true)
    → AllByRecursion (λ (name : List ℕ). is_among name all ≡ true) names
each_external [] more holds all further = tt
each_external (name ∷ names) more holds all further =
    (further name holds.0, each_external names more holds.1 all further)

externals_split :
    (typed : TypedModule) (modules : List TypedModule)
    → map name_of (externals_of (typed ∷ modules))
    ≡ external_names_in typed ++ map name_of (externals_of modules)
externals_split typed modules =
    ap (map name_of) (filter-append is_outside (shared_in typed) (globals_of modules))
    ∙ map-append name_of (filter is_outside (shared_in typed)) (externals_of modules)

externals_known :
    (modules : List TypedModule) (objects : List ObjectModule)
    → HaveNames modules objects
    → AllByRecursion (λ (name : List ℕ). is_among name (map name_of (externals_of modules)) ≡ true)
    (flat_map (λ (object : ObjectModule). object.externals) objects)
externals_known [] [] have = tt
externals_known [] (object ∷ objects) have = absurd have
externals_known (typed ∷ modules) [] have = absurd have
externals_known (typed ∷ modules) (object ∷ objects) have =
    subst
    (λ (all : List (List ℕ)).
    AllByRecursion (λ (name : List ℕ). is_among name all ≡ true)
    (object.externals ++ flat_map (λ (object : ObjectModule). object.externals) objects))
    (sym (externals_split typed modules))
    (all_append
    (λ (name : List ℕ). is_among name (external_names_in typed ++ map name_of (externals_of modules)) ≡ true)
    object.externals (flat_map (λ (object : ObjectModule). object.externals) objects)
    (each_external object.externals (external_names_in typed)
    (recursion_from_All (λ (name : List ℕ). is_among name (external_names_in typed) ≡ true) object.externals
    have.0.externals)
    (external_names_in typed ++ map name_of (externals_of modules))
    (λ name is. among_front name (external_names_in typed) (map name_of (externals_of modules)) is))
    (each_external (flat_map (λ (object : ObjectModule). object.externals) objects)
    (map name_of (externals_of modules)) (externals_known modules objects have.1)
    (external_names_in typed ++ map name_of (externals_of modules))
    (λ name is. among_back name (external_names_in typed) (map name_of (externals_of modules)) is)))

none_missing :
    (names known : List (List ℕ))
    → AllByRecursion (λ (name : List ℕ). is_among name known ≡ true) names
    → find (λ name. not (is_among name known)) names ≡ None
none_missing [] known holds = refl
none_missing (name ∷ names) known holds =
    ap (λ (test : Bool). if not test then Some name else find (λ name. not (is_among name known)) names)
    holds.0
    ∙ none_missing names known holds.1

-- the main modules
mains_are :
    (code data_before : ℕ) (modules : List TypedModule) (objects : List ObjectModule)
    → HaveNames modules objects
    → length (main_modules (linked_from code data_before objects)) ≡ count_by is_main modules
mains_are code data_before [] [] have = refl
mains_are code data_before [] (object ∷ objects) have = absurd have
mains_are code data_before (typed ∷ modules) [] have = absurd have
mains_are code data_before (typed ∷ modules) (object ∷ objects) have =
    let one : Linked = linked_after code data_before object in
    by object.start (is_main typed) have.0.start (linked_from (code_end one) (data_end one) objects)
    (mains_are (code_end one) (data_end one) modules objects have.1)
    ∙ sym (sum_by-cons (λ (typed : TypedModule). cond (is_main typed) 1 0) typed modules)
  where
    by : (start : Option ℕ) (main : Bool) → is_some start ≡ main → (rest : List Linked)
        → length (main_modules rest) ≡ count_by is_main modules
        → length
        (cons_option
        (option_map
        (λ (offset : ℕ). (object.name, (offset + (linked_after code data_before object).start.code) % 65536)) start)
        (main_modules rest))
        ≡ cond main 1 0 + count_by is_main modules
    by (Some offset) true e rest same = omega (arith, same)
    by None false e rest same = omega (arith, same)
    by (Some offset) false e rest same = absurd (let bad : true ≡ false = e in cc)
    by None true e rest same = absurd (let bad : false ≡ true = e in cc)

record IsWhole (modules : List TypedModule) : Type 0 where
  publics : first_repeated [] (publics_of modules) ≡ None
  externals : find (lacks_public (publics_of modules)) (externals_of modules) ≡ None
  main : count_by is_main modules ≡ 1

whole : (modules : List TypedModule) → IsJoined modules → IsWhole modules
unfolding join_refusal
whole modules joined =
    let first = both_are_none (without_public modules)
    (option_or (public_twice modules) (option_or (declared_otherwise modules) (not_one_main modules)))
    joined in
    let second =
    both_are_none (public_twice modules)
    (option_or (declared_otherwise modules) (not_one_main modules)) first.1 in
    let third = both_are_none (declared_otherwise modules) (not_one_main modules) second.1 in
    record {
      publics = none_before_map _ (first_repeated [] (publics_of modules)) second.0;
      externals = none_before_map _ (find (lacks_public (publics_of modules)) (externals_of modules)) first.0;
      main = one_is_main modules third.1;
    }

-- Object modules of a program that may lie by a plan have a merge, and that an image.
pub program_has_image : ProgramHasImage
program_has_image plan modules objects joined are have may_lie =
    let is = whole modules joined in
    let names : public_names objects ≡ map name_of (publics_of modules) = names_are modules objects have in
    let known : repeated_after [] (public_names objects) ≡ None =
    ap (repeated_after []) names ∙ once [] (publics_of modules) is.publics in
    let resolved : unresolved objects ≡ None =
    none_missing (flat_map (λ (object : ObjectModule). object.externals) objects) (public_names objects)
    (each_known (flat_map (λ (object : ObjectModule). object.externals) objects)
    (externals_known modules objects have)
    (λ name among.
    subst (λ (all : List (List ℕ)). is_among name all ≡ true) (sym names)
    (has_public (publics_of modules) (externals_of modules) name is.externals among))) in
    let main : length (main_modules (linked_modules objects)) ≡ 1 =
    mains_are 0 0 modules objects have ∙ is.main in
    let made = merge_made plan modules objects are known resolved main
    (λ large. none-some SegmentTooLarge (sym may_lie ∙ large)) in
    let merged : ObjectModule = made.0 in
    let not_refused : placement_refusal (plan_of plan) merged ≡ None =
    ranges_refused plan modules objects merged are made.1
    ∙ ap (λ refusal. option_and_then refusal_of_merge refusal) may_lie in
    record {
      merged = merged;
      merge = made.1;
      image = placed (plan_of plan) merged;
      placed = ap (unless_refused (placed (plan_of plan) merged)) not_refused;
    }
  where
    each_known :
        (names : List (List ℕ))
        → AllByRecursion (λ (name : List ℕ). is_among name (map name_of (externals_of modules)) ≡ true) names
        → ((name : List ℕ)
        → is_among name (map name_of (externals_of modules)) ≡ true
        → is_among name (public_names objects) ≡ true)
        → AllByRecursion (λ (name : List ℕ). is_among name (public_names objects) ≡ true) names
    each_known [] holds further = tt
    each_known (name ∷ names) holds further = (further name holds.0, each_known names holds.1 further)
