-- In modules that make a program each EXTERNAL object and procedure stands for a PUBLIC one, and both declarations agree.
use Rattle.layout.proofs.Prelude.{◌≡◌, ℕ, zero, suc, ◌+◌, Bool, true, false, List, [], ◌∷◌, ◌++◌, Option, None, Some, filter_map, flat_map, slice_get, if◌then◌else◌, cond, ◌⊎◌, inl, inr, refl, sym, ap, ap₂, ◌∙◌, subst, arith, IsSomeAnd, All, not, ◌&&◌, ◌||◌, filter, find, option_map, AllByRecursion, list_any, cons_option, enumerate_from, position_from, option_or, option_map_or, bytes_eq, recursion_from_All, position_from-zero, bytes_eq-Decides, GlobalItem, GlobalObject, GlobalProcedure, Visibility, Private, Public, External, Home, Elsewhere, TypedObject, TypedProcedure, TypedModule, shared_object, shared_procedure, is_shared, is_global, number_shared, number_seen, IsHereIfPublic, ListsGlobals, and_from, and_parts, both_are_none, none_before_map, not-false, or_parts, some_and}
use Rattle.typed_trees.specs.{ScalarType.{ScalarType, TheVariants.{Byte, Address}}}
use Rattle.layout.specs.Joined.{same_scalar, same_result, same_parameters, DeclaredObject, DeclaredProcedure, agree, Global, is_public_procedure, global_object, global_procedure, global_of, globals_of, publics_of, externals_of, public_named, first_repeated, lacks_public, differs_from_public, without_public, public_twice, declared_otherwise, not_one_main, join_refusal, IsJoined, InProgram, in_module, first_found, public_object_in, public_procedure_in, object_meant, procedure_meant}

-- what stands in a list
abbrev In : {X : Type 0} → X → List X → Type 0
In x [] = ⊥
In x (y ∷ others) = (y ≡ x) ⊎ In x others

in_front : {X : Type 0} (x : X) (one other : List X) → In x one → In x (one ++ other)
in_front x [] other is = absurd is
in_front x (y ∷ one) other (inl same) = inl same
in_front x (y ∷ one) other (inr is) = inr (in_front x one other is)

in_back : {X : Type 0} (x : X) (one other : List X) → In x other → In x (one ++ other)
in_back x [] other is = is
in_back x (y ∷ one) other is = inr (in_back x one other is)

in_either : {X : Type 0} (x : X) (one other : List X) → In x (one ++ other) → In x one ⊎ In x other
in_either x [] other is = inr is
in_either x (y ∷ one) other (inl same) = inl (inl same)
in_either x (y ∷ one) other (inr is) = by (in_either x one other is)
  where
    by : In x one ⊎ In x other → ((y ≡ x) ⊎ In x one) ⊎ In x other
    by (inl first) = inl (inr first)
    by (inr second) = inr second

in_filter_map : {X Y : Type 0} (f : X → Option Y) (all : List X) (x : X) (y : Y)
    → In x all → f x ≡ Some y → In y (filter_map f all)
in_filter_map f [] x y is e = absurd is
in_filter_map f (first ∷ all) x y (inl same) e =
    subst (λ (found : Option _). In y (cons_option found (filter_map f all))) (sym (ap f same ∙ e)) (inl refl)
in_filter_map f (first ∷ all) x y (inr is) e = by (f first) (in_filter_map f all x y is e)
  where
    by : (found : Option _) → In y (filter_map f all) → In y (cons_option found (filter_map f all))
    by None rest = rest
    by (Some other) rest = inr rest

of_filter_map : {X Y : Type 0} {A : Type 0} (f : X → Option Y) (all : List X) (y : Y)
    → In y (filter_map f all) → ((x : X) → In x all → f x ≡ Some y → A) → A
of_filter_map f [] y is then_is = absurd is
of_filter_map {X} {Y} {A} f (first ∷ all) y is then_is =
    by (f first) refl is (λ there. of_filter_map f all y there (λ x at. then_is x (inr at)))
  where
    by : (found : Option Y) → f first ≡ found → In y (cons_option found (filter_map f all))
        → (In y (filter_map f all) → A) → A
    by None e is rest = rest is
    by (Some other) e (inl same) rest = then_is first (inl refl) (e ∙ ap Some same)
    by (Some other) e (inr is) rest = rest is

in_filter : {X : Type 0} (p : X → Bool) (all : List X) (x : X) → In x all → p x ≡ true → In x (filter p all)
in_filter p [] x is holds = absurd is
in_filter p (first ∷ all) x is holds = by (p first) refl is (λ there. in_filter p all x there holds)
  where
    by : (test : Bool) → p first ≡ test → (first ≡ x) ⊎ In x all → (In x all → In x (filter p all))
        → In x (if test then first ∷ filter p all else filter p all)
    by true e (inl same) rest = inl same
    by true e (inr is) rest = inr (rest is)
    by false e (inl same) rest = let both : false ≡ true = sym e ∙ ap p same ∙ holds in absurd cc
    by false e (inr is) rest = rest is

of_filter : {X : Type 0} (p : X → Bool) (all : List X) (x : X) → In x (filter p all) → In x all × (p x ≡ true)
of_filter p [] x is = absurd is
of_filter {X} p (first ∷ all) x is = by (p first) refl is (λ there. of_filter p all x there)
  where
    by : (test : Bool) → p first ≡ test → In x (if test then first ∷ filter p all else filter p all)
        → (In x (filter p all) → In x all × (p x ≡ true))
        → ((first ≡ x) ⊎ In x all) × (p x ≡ true)
    by true e (inl same) rest = (inl same, sym (ap p same) ∙ e)
    by true e (inr is) rest = (inr (rest is).0, (rest is).1)
    by false e is rest = (inr (rest is).0, (rest is).1)

in_flat_map : {X Y : Type 0} (f : X → List Y) (all : List X) (x : X) (y : Y)
    → In x all → In y (f x) → In y (flat_map f all)
in_flat_map f [] x y is there = absurd is
in_flat_map f (first ∷ all) x y (inl same) there =
    in_front y (f first) (flat_map f all) (subst (λ one. In y (f one)) (sym same) there)
in_flat_map f (first ∷ all) x y (inr is) there =
    in_back y (f first) (flat_map f all) (in_flat_map f all x y is there)

of_flat_map : {X Y : Type 0} {A : Type 0} (f : X → List Y) (all : List X) (y : Y)
    → In y (flat_map f all) → ((x : X) → In x all → In y (f x) → A) → A
of_flat_map f [] y is then_is = absurd is
of_flat_map {X} {Y} {A} f (first ∷ all) y is then_is =
    by (in_either y (f first) (flat_map f all) is)
    (λ there. of_flat_map f all y there (λ x at. then_is x (inr at)))
  where
    by : In y (f first) ⊎ In y (flat_map f all) → (In y (flat_map f all) → A) → A
    by (inl there) rest = then_is first (inl refl) there
    by (inr there) rest = rest there

in_at : {X : Type 0} (all : List X) (at : ℕ) (x : X) → slice_get all at ≡ Some x → In x all
in_at [] at x e = absurd cc
in_at (first ∷ all) zero x e = inl cc
in_at (first ∷ all) (suc at) x e = inr (in_at all at x e)

at_in : {X : Type 0} {A : Type 0} (all : List X) (x : X) → In x all
    → ((at : ℕ) → slice_get all at ≡ Some x → A) → A
at_in [] x is then_is = absurd is
at_in (first ∷ all) x (inl same) then_is = then_is zero (ap Some same)
at_in (first ∷ all) x (inr is) then_is = at_in all x is (λ at e. then_is (suc at) e)

in_enumerated : {X : Type 0} (first : ℕ) (all : List X) (at : ℕ) (x : X)
    → slice_get all at ≡ Some x → In (first + at, x) (enumerate_from first all)
in_enumerated first [] at x e = absurd cc
in_enumerated first (y ∷ all) zero x e =
    let same : y ≡ x = cc in
    inl (ap₂ (λ (number : ℕ) (each : _). (number, each)) (omega arith) same)
in_enumerated first (y ∷ all) (suc at) x e =
    inr (subst (λ (number : ℕ). In (number, x) (enumerate_from (first + 1) all)) (omega arith)
    (in_enumerated (first + 1) all at x e))

-- what is found first
not_found : {X : Type 0} (p : X → Bool) (all : List X) (x : X) → find p all ≡ None → In x all → p x ≡ false
not_found p [] x e is = absurd is
not_found p (first ∷ all) x e is = by (p first) refl e is (λ none there. not_found p all x none there)
  where
    by : (test : Bool) → p first ≡ test → (if test then Some first else find p all) ≡ None
        → (first ≡ x) ⊎ In x all → (find p all ≡ None → In x all → p x ≡ false) → p x ≡ false
    by true at e is rest = absurd cc
    by false at e (inl same) rest = sym (ap p same) ∙ at
    by false at e (inr is) rest = rest e is

found_in : {X : Type 0} (p : X → Bool) (all : List X) (x : X) → find p all ≡ Some x → In x all × (p x ≡ true)
found_in p [] x e = absurd cc
found_in p (first ∷ all) x e = by (p first) refl e (λ there. found_in p all x there)
  where
    by : (test : Bool) → p first ≡ test → (if test then Some first else find p all) ≡ Some x
        → (find p all ≡ Some x → In x all × (p x ≡ true))
        → ((first ≡ x) ⊎ In x all) × (p x ≡ true)
    by true at e rest = let same : first ≡ x = cc in (inl same, sym (ap p same) ∙ at)
    by false at e rest = (inr (rest e).0, (rest e).1)

-- names of PUBLICs that differ from each other
stood_before : (before : List (List ℕ)) (all : List Global) (x : Global)
    → first_repeated before all ≡ None → In x all → list_any (bytes_eq x.name) before ≡ false
stood_before before [] x e is = absurd is
stood_before before (first ∷ all) x e is =
    by (list_any (bytes_eq first.name) before) refl e is
    (λ none there. stood_before (first.name ∷ before) all x none there)
  where
    by : (test : Bool) → list_any (bytes_eq first.name) before ≡ test
        → (if test then Some first else first_repeated (first.name ∷ before) all) ≡ None
        → (first ≡ x) ⊎ In x all
        → (first_repeated (first.name ∷ before) all ≡ None → In x all
        → list_any (bytes_eq x.name) (first.name ∷ before) ≡ false)
        → list_any (bytes_eq x.name) before ≡ false
    by true at e is rest = absurd cc
    by false at e (inl same) rest =
        ap (λ (each : Global). list_any (bytes_eq each.name) before) (sym same) ∙ at
    by false at e (inr is) rest =
        (or_parts (bytes_eq x.name first.name) (list_any (bytes_eq x.name) before) (rest e is)).1

differs_after : (before : List (List ℕ)) (first : Global) (all : List Global) (z : Global)
    → first_repeated (first.name ∷ before) all ≡ None → In z all → z.name ≡ first.name → ⊥
differs_after before first all z e is same =
    let apart : (bytes_eq z.name first.name || list_any (bytes_eq z.name) before) ≡ false =
    stood_before (first.name ∷ before) all z e is in
    let equal : bytes_eq z.name first.name ≡ true = (bytes_eq-Decides z.name first.name).1 same in
    let both : (true || list_any (bytes_eq z.name) before) ≡ false =
    ap (λ (test : Bool). test || list_any (bytes_eq z.name) before) (sym equal) ∙ apart in
    absurd cc

one_of_a_name : (before : List (List ℕ)) (all : List Global) (x y : Global)
    → first_repeated before all ≡ None → In x all → In y all → x.name ≡ y.name → x ≡ y
one_of_a_name before [] x y e one other same = absurd one
one_of_a_name before (first ∷ all) x y e one other same =
    by (list_any (bytes_eq first.name) before) e one other
    (λ none in_one in_other. one_of_a_name (first.name ∷ before) all x y none in_one in_other same)
  where
    by : (test : Bool) → (if test then Some first else first_repeated (first.name ∷ before) all) ≡ None
        → (first ≡ x) ⊎ In x all → (first ≡ y) ⊎ In y all
        → (first_repeated (first.name ∷ before) all ≡ None → In x all → In y all → x ≡ y) → x ≡ y
    by true e one other rest = absurd cc
    by false e (inl one) (inl other) rest = sym one ∙ other
    by false e (inl one) (inr other) rest =
        absurd (differs_after before first all y e other
        (sym same ∙ ap (λ (each : Global). each.name) (sym one)))
    by false e (inr one) (inl other) rest =
        absurd (differs_after before first all x e one
        (same ∙ ap (λ (each : Global). each.name) (sym other)))
    by false e (inr one) (inr other) rest = rest e one other

-- the position of the first that passes a test
pub first_position : {X : Type 0} {A : Type 0} (p : X → Bool) (from : ℕ) (all : List X) (number : ℕ)
    → position_from p from all ≡ Some number
    → ((at : ℕ) (x : X) → number ≡ from + at → slice_get all at ≡ Some x → p x ≡ true → A) → A
first_position p from [] number e then_is = absurd cc
first_position {X} {A} p from (first ∷ all) number e then_is =
    by (p first) refl e
    (λ later. first_position p (from + 1) all number later
    (λ at x same there holds. then_is (suc at) x (omega (arith, same)) there holds))
  where
    by : (test : Bool) → p first ≡ test → cond test (Some from) (position_from p (from + 1) all) ≡ Some number
        → (position_from p (from + 1) all ≡ Some number → A) → A
    by true is e rest =
        let same : from ≡ number = cc in
        then_is 0 first (omega (arith, same)) refl is
    by false is e rest = rest e

has_position : {X : Type 0} {A : Type 0} (p : X → Bool) (from : ℕ) (all : List X) (x : X)
    → In x all → p x ≡ true
    → ((number : ℕ) → position_from p from all ≡ Some number → A) → A
has_position p from [] x is holds then_is = absurd is
has_position {X} {A} p from (first ∷ all) x is holds then_is =
    by (p first) refl is then_is (λ there. has_position p (from + 1) all x there holds)
  where
    by : (test : Bool) → p first ≡ test → (first ≡ x) ⊎ In x all
        → ((number : ℕ) → cond test (Some from) (position_from p (from + 1) all) ≡ Some number → A)
        → (In x all → ((number : ℕ) → position_from p (from + 1) all ≡ Some number → A) → A)
        → A
    by true e is then_is rest = then_is from refl
    by false e (inl same) then_is rest = let both : false ≡ true = sym e ∙ ap p same ∙ holds in absurd cc
    by false e (inr is) then_is rest = rest is then_is

-- the first module in which something is found
first_module : {A : Type 0} (from : ℕ) (in_one : TypedModule → Option ℕ) (modules : List TypedModule)
    (typed : TypedModule) (number : ℕ)
    → In typed modules → in_one typed ≡ Some number
    → ((at found : ℕ) (its : TypedModule)
    → first_found from in_one modules ≡ Some (record { number_of_module = from + at; number = found })
    → slice_get modules at ≡ Some its → in_one its ≡ Some found → A) → A
first_module from in_one [] typed number is e then_is = absurd is
first_module {A} from in_one (first ∷ others) typed number is e then_is =
    by (in_one first) refl is then_is
    (λ there then_later. first_module (from + 1) in_one others typed number there e
    (λ at found its place here of_it.
    then_later at found its
    (place ∙ ap (λ (module_at : ℕ). Some (record { number_of_module = module_at; number = found }))
    (omega arith))
    here of_it))
  where
    by : (here : Option ℕ) → in_one first ≡ here → (first ≡ typed) ⊎ In typed others
        → ((at found : ℕ) (its : TypedModule)
        → option_or (in_module from here) (first_found (from + 1) in_one others)
        ≡ Some (record { number_of_module = from + at; number = found })
        → slice_get (first ∷ others) at ≡ Some its → in_one its ≡ Some found → A)
        → (In typed others
        → ((at found : ℕ) (its : TypedModule)
        → first_found (from + 1) in_one others
        ≡ Some (record { number_of_module = from + suc at; number = found })
        → slice_get others at ≡ Some its → in_one its ≡ Some found → A) → A)
        → A
    by (Some found) at is then_is rest =
        then_is 0 found first
        (ap (λ (module_at : ℕ). Some (record { number_of_module = module_at; number = found })) (omega arith))
        refl at
    by None at (inl same) then_is rest =
        let both : None ≡ Some number = sym at ∙ ap in_one same ∙ e in absurd cc
    by None at (inr is) then_is rest =
        rest is (λ place found its there here of_it. then_is (suc place) found its there here of_it)

holds_of_all : {X : Type 0} (P : X → Type 0) (all : List X) (x : X) → AllByRecursion P all → In x all → P x
holds_of_all P [] x holds is = absurd is
holds_of_all P (first ∷ all) x holds (inl same) = subst P same holds.0
holds_of_all P (first ∷ all) x holds (inr is) = holds_of_all P all x holds.1 is

-- a PUBLIC object of a name, and a PUBLIC procedure
abbrev is_public_object : List ℕ → TypedObject → Bool
is_public_object name object = object.is_public && bytes_eq object.name name

abbrev is_public_of : List ℕ → TypedProcedure → Bool
is_public_of name procedure = is_public_procedure procedure.visibility && bytes_eq procedure.name name

-- what an EXTERNAL stands for is a PUBLIC one that agrees with it
abbrev pub MeansObject : List TypedModule → TypedObject → InProgram → Type 0
MeansObject modules object place =
    IsSomeAnd (slice_get modules place.number_of_module)
    (λ (its : TypedModule). IsSomeAnd (slice_get its.objects place.number)
    (λ (public : TypedObject). (public.is_public ≡ true)
    × (agree (DeclaredObject object) (DeclaredObject public) ≡ true)))

abbrev pub MeansProcedure : List TypedModule → TypedProcedure → InProgram → Type 0
MeansProcedure modules procedure place =
    IsSomeAnd (slice_get modules place.number_of_module)
    (λ (its : TypedModule). IsSomeAnd (slice_get its.procedures place.number)
    (λ (public : TypedProcedure). (is_public_procedure public.visibility ≡ true)
    × (agree (DeclaredProcedure procedure) (DeclaredProcedure public) ≡ true)))

module _ (modules : List TypedModule) (joined : IsJoined modules)
    (listed : AllByRecursion ListsGlobals modules) where
  -- the globals of a module
  object_is_global : (typed : TypedModule) (number : ℕ) (object : TypedObject)
      → In typed modules → slice_get typed.objects number ≡ Some object
      → is_shared object.home object.is_public ≡ true
      → In (global_object object) (globals_of modules)
  object_is_global typed number object is e shared =
      let lists = holds_of_all ListsGlobals modules typed listed is in
      let numbered : In number (filter_map number_shared (enumerate_from 0 typed.objects)) =
      in_filter_map number_shared (enumerate_from 0 typed.objects) (number, object) number
      (subst (λ (at : ℕ). In (at, object) (enumerate_from 0 typed.objects)) (omega arith)
      (in_enumerated 0 typed.objects number object e))
      (ap (λ (test : Bool). if test then Some number else None) shared) in
      of_filter_map shared_object typed.globals number
      (subst (λ (numbers : List ℕ). In number numbers) (sym lists.objects) numbered)
      (λ item there of_it.
      in_flat_map (λ (one : TypedModule). filter_map (global_of one) one.globals) modules typed
      (global_object object) is
      (in_filter_map (global_of typed) typed.globals item (global_object object) there
      (global_is item of_it)))
    where
      global_is : (item : GlobalItem) → shared_object item ≡ Some number
          → global_of typed item ≡ Some (global_object object)
      global_is (GlobalObject its) of_it =
          let same : its ≡ number = cc in
          ap (λ (at : ℕ). option_map global_object (slice_get typed.objects at)) same
          ∙ ap (option_map global_object) e
      global_is (GlobalProcedure its) of_it = absurd cc

  procedure_is_global : (typed : TypedModule) (number : ℕ) (procedure : TypedProcedure)
      → In typed modules → slice_get typed.procedures number ≡ Some procedure
      → is_global procedure.visibility ≡ true
      → In (global_procedure procedure) (globals_of modules)
  procedure_is_global typed number procedure is e shared =
      let lists = holds_of_all ListsGlobals modules typed listed is in
      let numbered : In number (filter_map number_seen (enumerate_from 0 typed.procedures)) =
      in_filter_map number_seen (enumerate_from 0 typed.procedures) (number, procedure) number
      (subst (λ (at : ℕ). In (at, procedure) (enumerate_from 0 typed.procedures)) (omega arith)
      (in_enumerated 0 typed.procedures number procedure e))
      (ap (λ (test : Bool). if test then Some number else None) shared) in
      of_filter_map shared_procedure typed.globals number
      (subst (λ (numbers : List ℕ). In number numbers) (sym lists.procedures) numbered)
      (λ item there of_it.
      in_flat_map (λ (one : TypedModule). filter_map (global_of one) one.globals) modules typed
      (global_procedure procedure) is
      (in_filter_map (global_of typed) typed.globals item (global_procedure procedure) there
      (global_is item of_it)))
    where
      global_is : (item : GlobalItem) → shared_procedure item ≡ Some number
          → global_of typed item ≡ Some (global_procedure procedure)
      global_is (GlobalProcedure its) of_it =
          let same : its ≡ number = cc in
          ap (λ (at : ℕ). option_map global_procedure (slice_get typed.procedures at)) same
          ∙ ap (option_map global_procedure) e
      global_is (GlobalObject its) of_it = absurd cc

  -- each EXTERNAL has its PUBLIC, and they agree
  refusals : (without_public modules ≡ None) × (public_twice modules ≡ None)
      × (declared_otherwise modules ≡ None)
  unfolding join_refusal
  refusals =
      let first = both_are_none (without_public modules)
      (option_or (public_twice modules) (option_or (declared_otherwise modules) (not_one_main modules)))
      joined in
      let second =
      both_are_none (public_twice modules) (option_or (declared_otherwise modules) (not_one_main modules))
      first.1 in
      let third = both_are_none (declared_otherwise modules) (not_one_main modules) second.1 in
      (first.0, second.0, third.0)

  meets_public : {A : Type 0} (external : Global) → In external (externals_of modules)
      → ((global : Global) → In global (publics_of modules) → global.name ≡ external.name
      → agree external.declared global.declared ≡ true → A) → A
  meets_public {A} external is then_is =
      by (public_named (publics_of modules) external.name) refl
      (not_found (lacks_public (publics_of modules)) (externals_of modules) external
      (none_before_map _ (find (lacks_public (publics_of modules)) (externals_of modules)) refusals.0) is)
      (not_found (differs_from_public (publics_of modules)) (externals_of modules) external
      (none_before_map _ (find (differs_from_public (publics_of modules)) (externals_of modules)) refusals.2)
      is)
    where
      by : (named : Option Global) → public_named (publics_of modules) external.name ≡ named
          → option_map_or (λ (public : Global). false) named true ≡ false
          → option_map_or (λ (public : Global). not (agree external.declared public.declared)) named false
          ≡ false
          → A
      by None e lacks differs = absurd cc
      by (Some global) e lacks differs =
          let there =
          found_in (λ (each : Global). bytes_eq each.name external.name) (publics_of modules) global e in
          then_is global there.0 ((bytes_eq-Decides global.name external.name).0 there.1)
          (not-false _ differs)

  public_from : {A : Type 0} (global : Global) → In global (publics_of modules)
      → ((typed : TypedModule) (item : GlobalItem) → In typed modules → global_of typed item ≡ Some global
      → global.is_public ≡ true → A) → A
  public_from global is then_is =
      let there = of_filter (λ (each : Global). each.is_public) (globals_of modules) global is in
      of_flat_map (λ (one : TypedModule). filter_map (global_of one) one.globals) modules global there.0
      (λ typed in_modules in_it.
      of_filter_map (global_of typed) typed.globals global in_it
      (λ item in_globals e. then_is typed item in_modules e there.1))

  same_public : (one other : Global) → In one (publics_of modules) → In other (publics_of modules)
      → one.name ≡ other.name → one ≡ other
  same_public one other first second same =
      one_of_a_name [] (publics_of modules) one other
      (none_before_map _ (first_repeated [] (publics_of modules)) refusals.1) first second same

  external_object : (typed : TypedModule) (number : ℕ) (object : TypedObject)
      → In typed modules → slice_get typed.objects number ≡ Some object → object.home ≡ Elsewhere
      → In (global_object object) (externals_of modules)
  external_object typed number object is e elsewhere =
      in_filter (λ (global : Global). not global.is_public) (globals_of modules) (global_object object)
      (object_is_global typed number object is e
      (ap (λ (home : Home). is_shared home object.is_public) elsewhere))
      (not_public object.is_public
      (subst (λ (home : Home). IsHereIfPublic home object.is_public) elsewhere
      (holds_of_all (λ (each : TypedObject). IsHereIfPublic each.home each.is_public) typed.objects object
      (recursion_from_All _ typed.objects (holds_of_all ListsGlobals modules typed listed is).here)
      (in_at typed.objects number object e))))
    where
      not_public : (is_public : Bool) → IsHereIfPublic Elsewhere is_public → not is_public ≡ true
      not_public true is = absurd is
      not_public false is = refl

  -- the place that is found has the PUBLIC object that agrees
  object_found : {A : Type 0} (object : TypedObject) (global : Global)
      → In global (publics_of modules) → global.name ≡ object.name
      → agree (DeclaredObject object) global.declared ≡ true
      → ((place : InProgram) → first_found 0 (public_object_in object.name) modules ≡ Some place
      → MeansObject modules object place → A) → A
  object_found {A} object global is named agrees then_is =
      public_from global is (λ typed item in_modules e is_public. from_item typed item in_modules e is_public)
    where
      at_place : (at found : ℕ) (its : TypedModule) → slice_get modules at ≡ Some its
          → public_object_in object.name its ≡ Some found
          → MeansObject modules object (record { number_of_module = 0 + at; number = found })
      at_place at found its here of_it =
          first_position (is_public_object object.name) 0 its.objects found
          (sym (position_from-zero (is_public_object object.name) its.objects) ∙ of_it)
          (λ k public same there holds.
          let tests = and_parts _ _ holds in
          let its_place : slice_get its.objects found ≡ Some public =
          subst (λ (n : ℕ). slice_get its.objects n ≡ Some public) (omega (arith, same)) there in
          let its_global : In (global_object public) (publics_of modules) =
          in_filter (λ (each : Global). each.is_public) (globals_of modules) (global_object public)
          (object_is_global its found public (in_at modules at its here) its_place
          (is_shared_if public.home public.is_public tests.0)) tests.0 in
          let one : global ≡ global_object public =
          same_public global (global_object public) is its_global
          (named ∙ sym ((bytes_eq-Decides public.name object.name).0 tests.1)) in
          some_and _ (slice_get modules (0 + at)) its
          (subst (λ (n : ℕ). slice_get modules n ≡ Some its) (omega arith) here)
          (some_and _ (slice_get its.objects found) public its_place
          (tests.0, ap (λ (each : Global). agree (DeclaredObject object) each.declared) (sym one) ∙ agrees)))
        where
          is_shared_if : (home : Home) (is_public : Bool) → is_public ≡ true → is_shared home is_public ≡ true
          is_shared_if Elsewhere is_public e = refl
          is_shared_if home is_public e = cc

      from_item : (typed : TypedModule) (item : GlobalItem) → In typed modules
          → global_of typed item ≡ Some global
          → global.is_public ≡ true → A
      from_item typed (GlobalObject number) in_modules e is_public =
          by (slice_get typed.objects number) refl e
        where
          by : (found : Option TypedObject) → slice_get typed.objects number ≡ found
              → option_map global_object found ≡ Some global → A
          by None at e = absurd cc
          by (Some public) at e =
              let same : global_object public ≡ global = cc in
              has_position (is_public_object object.name) 0 typed.objects public
              (in_at typed.objects number public at)
              (and_from _ _ (ap (λ (each : Global). each.is_public) same ∙ is_public)
              ((bytes_eq-Decides public.name object.name).1 (ap (λ (each : Global). each.name) same ∙ named)))
              (λ found there.
              first_module 0 (public_object_in object.name) modules typed found in_modules
              (position_from-zero (is_public_object object.name) typed.objects ∙ there)
              (λ place k its is_found here of_it.
              then_is (record { number_of_module = 0 + place; number = k }) is_found
              (at_place place k its here of_it)))
      from_item typed (GlobalProcedure number) in_modules e is_public =
          by (slice_get typed.procedures number) e
        where
          by : (found : Option TypedProcedure) → option_map global_procedure found ≡ Some global → A
          by None e = absurd cc
          by (Some procedure) e =
              let same : global_procedure procedure ≡ global = cc in
              let both : agree (DeclaredObject object) (DeclaredProcedure procedure) ≡ true =
              ap (λ (each : Global). agree (DeclaredObject object) each.declared) same ∙ agrees in
              absurd cc

  -- the place that is found has the PUBLIC procedure that agrees
  procedure_found : {A : Type 0} (procedure : TypedProcedure) (global : Global)
      → In global (publics_of modules) → global.name ≡ procedure.name
      → agree (DeclaredProcedure procedure) global.declared ≡ true
      → ((place : InProgram) → first_found 0 (public_procedure_in procedure.name) modules ≡ Some place
      → MeansProcedure modules procedure place → A) → A
  procedure_found {A} procedure global is named agrees then_is =
      public_from global is (λ typed item in_modules e is_public. from_item typed item in_modules e is_public)
    where
      at_place : (at found : ℕ) (its : TypedModule) → slice_get modules at ≡ Some its
          → public_procedure_in procedure.name its ≡ Some found
          → MeansProcedure modules procedure (record { number_of_module = 0 + at; number = found })
      at_place at found its here of_it =
          first_position (is_public_of procedure.name) 0 its.procedures found
          (sym (position_from-zero (is_public_of procedure.name) its.procedures) ∙ of_it)
          (λ k public same there holds.
          let tests = and_parts _ _ holds in
          let its_place : slice_get its.procedures found ≡ Some public =
          subst (λ (n : ℕ). slice_get its.procedures n ≡ Some public) (omega (arith, same)) there in
          let its_global : In (global_procedure public) (publics_of modules) =
          in_filter (λ (each : Global). each.is_public) (globals_of modules) (global_procedure public)
          (procedure_is_global its found public (in_at modules at its here) its_place
          (is_global_if public.visibility tests.0)) tests.0 in
          let one : global ≡ global_procedure public =
          same_public global (global_procedure public) is its_global
          (named ∙ sym ((bytes_eq-Decides public.name procedure.name).0 tests.1)) in
          some_and _ (slice_get modules (0 + at)) its
          (subst (λ (n : ℕ). slice_get modules n ≡ Some its) (omega arith) here)
          (some_and _ (slice_get its.procedures found) public its_place
          (tests.0, ap (λ (each : Global). agree (DeclaredProcedure procedure) each.declared) (sym one) ∙ agrees)))
        where
          is_global_if : (visibility : Visibility) → is_public_procedure visibility ≡ true
              → is_global visibility ≡ true
          is_global_if Private e = absurd cc
          is_global_if Public e = refl
          is_global_if External e = refl

      from_item : (typed : TypedModule) (item : GlobalItem) → In typed modules
          → global_of typed item ≡ Some global
          → global.is_public ≡ true → A
      from_item typed (GlobalProcedure number) in_modules e is_public =
          by (slice_get typed.procedures number) refl e
        where
          by : (found : Option TypedProcedure) → slice_get typed.procedures number ≡ found
              → option_map global_procedure found ≡ Some global → A
          by None at e = absurd cc
          by (Some public) at e =
              let same : global_procedure public ≡ global = cc in
              has_position (is_public_of procedure.name) 0 typed.procedures public
              (in_at typed.procedures number public at)
              (and_from _ _ (ap (λ (each : Global). each.is_public) same ∙ is_public)
              ((bytes_eq-Decides public.name procedure.name).1
              (ap (λ (each : Global). each.name) same ∙ named)))
              (λ found there.
              first_module 0 (public_procedure_in procedure.name) modules typed found in_modules
              (position_from-zero (is_public_of procedure.name) typed.procedures ∙ there)
              (λ place k its is_found here of_it.
              then_is (record { number_of_module = 0 + place; number = k }) is_found
              (at_place place k its here of_it)))
      from_item typed (GlobalObject number) in_modules e is_public =
          by (slice_get typed.objects number) e
        where
          by : (found : Option TypedObject) → option_map global_object found ≡ Some global → A
          by None e = absurd cc
          by (Some object) e =
              let same : global_object object ≡ global = cc in
              let both : agree (DeclaredProcedure procedure) (DeclaredObject object) ≡ true =
              ap (λ (each : Global). agree (DeclaredProcedure procedure) each.declared) same ∙ agrees in
              absurd cc

-- An EXTERNAL object of modules that make a program stands for a PUBLIC one, which agrees with it.
pub external_object_meant : (modules : List TypedModule) → IsJoined modules → All ListsGlobals modules
    → (at number : ℕ) (typed : TypedModule) (object : TypedObject)
    → slice_get modules at ≡ Some typed → slice_get typed.objects number ≡ Some object
    → object.home ≡ Elsewhere
    → IsSomeAnd
    (object_meant modules (record { number_of_module = at; number = number }) object object.home)
    (MeansObject modules object)
external_object_meant modules joined listed at number typed object is there elsewhere =
    let each = recursion_from_All ListsGlobals modules listed in
    subst
    (λ (home : Home). IsSomeAnd (object_meant modules
    (record { number_of_module = at; number = number }) object home)
    (MeansObject modules object))
    (sym elsewhere)
    (meets_public modules joined each (global_object object)
    (external_object modules joined each typed number object (in_at modules at typed is) there elsewhere)
    (λ global in_publics named agrees.
    object_found modules joined each object global in_publics named agrees
    (λ place found means. some_and (MeansObject modules object) _ place found means)))

-- An EXTERNAL procedure, likewise.
pub external_procedure_meant : (modules : List TypedModule) → IsJoined modules → All ListsGlobals modules
    → (at number : ℕ) (typed : TypedModule) (procedure : TypedProcedure)
    → slice_get modules at ≡ Some typed → slice_get typed.procedures number ≡ Some procedure
    → procedure.visibility ≡ External
    → IsSomeAnd
    (procedure_meant modules (record { number_of_module = at; number = number }) procedure
    procedure.visibility)
    (MeansProcedure modules procedure)
external_procedure_meant modules joined listed at number typed procedure is there external =
    let each = recursion_from_All ListsGlobals modules listed in
    let in_modules = in_at modules at typed is in
    subst
    (λ (visibility : Visibility). IsSomeAnd
    (procedure_meant modules (record { number_of_module = at; number = number }) procedure visibility)
    (MeansProcedure modules procedure))
    (sym external)
    (meets_public modules joined each (global_procedure procedure)
    (in_filter (λ (global : Global). not global.is_public) (globals_of modules) (global_procedure procedure)
    (procedure_is_global modules joined each typed number procedure in_modules there (ap is_global external))
    (ap (λ (visibility : Visibility). not (is_public_procedure visibility)) external))
    (λ global in_publics named agrees.
    procedure_found modules joined each procedure global in_publics named agrees
    (λ place found means. some_and (MeansProcedure modules procedure) _ place found means)))

-- Procedures that agree take the same and give the same.
pub same_scalars : (one other : ScalarType) → same_scalar one other ≡ true → one ≡ other
same_scalars Byte Byte e = refl
same_scalars Address Address e = refl
same_scalars Byte Address e = absurd cc
same_scalars Address Byte e = absurd cc

same_types : (one other : List ScalarType) → same_parameters one other ≡ true → one ≡ other
same_types [] [] e = refl
same_types [] (scalar ∷ scalars) e = absurd cc
same_types (scalar ∷ scalars) [] e = absurd cc
same_types (one ∷ ones) (other ∷ others) e =
    let tests = and_parts (same_scalar one other) (same_parameters ones others) e in
    ap₂ (λ (first : ScalarType) (rest : List ScalarType). first ∷ rest) (same_scalars one other tests.0)
    (same_types ones others tests.1)

same_results : (one other : Option ScalarType) → same_result one other ≡ true → one ≡ other
same_results None None e = refl
same_results (Some one) (Some other) e = ap Some (same_scalars one other e)
same_results None (Some other) e = absurd cc
same_results (Some one) None e = absurd cc

pub procedures_agree : (one other : TypedProcedure)
    → agree (DeclaredProcedure one) (DeclaredProcedure other) ≡ true
    → (one.result ≡ other.result) × (one.parameter_types ≡ other.parameter_types)
procedures_agree one other e =
    let tests = and_parts (same_result one.result other.result)
    (same_parameters one.parameter_types other.parameter_types) e in
    (same_results one.result other.result tests.0, same_types one.parameter_types other.parameter_types tests.1)
