-- Each EXTERNAL object has its name among the EXTERNAL names of its module.
use Rattle.treecode_laws.proofs.Prelude.{◌≡◌, ℕ, zero, suc, ◌+◌, Bool, true, false, List, [], ◌∷◌, Option, Some, None, refl, ap, sym, ◌∙◌, arith, ◌||◌, ◌==◌, filter_map, is_some, slice_get, unwrap_or, if◌then◌else◌, cons_option, enumerate_from, list_any, false≢true, eq-eqb, eqb-true, none-some, GlobalItem, GlobalObject, GlobalProcedure, shared_object, is_shared, global_object, ListsGlobals, Elsewhere, TypedObject, TypedModule, ExternalName, external_object, external_name, externals_of, is_global_object, latest, external_from, external_number}
use Rattle.typed_trees.specs.TypedTrees.{Home}

-- the index of a name, counted on from a first number
pub record StandsAt (names : List ExternalName) (external : ExternalName) (count number : ℕ) : Type 0 where
  pub index : ℕ
  pub number_is : number ≡ count + index
  pub name_is : slice_get names index ≡ Some external

-- the result of a search is the index of the name, if the name is wanted
abbrev pub Finds : (any : Bool) → List ExternalName → ExternalName → (count : ℕ) → Option ℕ → Type 0
Finds any names external count None = any ≡ false
Finds any names external count (Some number) = StandsAt names external count number

later_stands :
    (first : ExternalName) (names : List ExternalName) (external : ExternalName) (count number : ℕ)
    → StandsAt names external (suc count) number
    → StandsAt (first ∷ names) external count number
later_stands first names external count number stands = record {
  index = suc stands.index;
  number_is = omega (arith, stands.number_is);
  name_is = stands.name_is;
}

-- one more item in front
finds_more :
    (any : Bool) (names : List ExternalName) (external : ExternalName) (count : ℕ) (is : Bool)
    (here : Option ExternalName) (next same : Option ℕ)
    → (is ≡ true → here ≡ Some external)
    → Finds any names external (suc count) next
    → Finds any names external count same
    → Finds (is || any) (cons_option here names) external count
    (if is_some here then latest (if is then Some count else None) next else same)
finds_more any names external count true None next same named after before =
    absurd (none-some external (named refl))
finds_more any names external count true (Some name) None same named after before = record {
  index = 0;
  number_is = omega arith;
  name_is = named refl;
}
finds_more any names external count true (Some name) (Some number) same named after before =
    later_stands name names external count number after
finds_more any names external count false None next same named after before = before
finds_more any names external count false (Some name) None same named after before = after
finds_more any names external count false (Some name) (Some number) same named after before =
    later_stands name names external count number after

pub finds_external :
    (typed : TypedModule) (wanted : GlobalItem → Bool) (external : ExternalName)
    → ((item : GlobalItem) → wanted item ≡ true → external_name typed item ≡ Some external)
    → (count : ℕ) (items : List GlobalItem)
    → Finds (list_any wanted items) (filter_map (external_name typed) items) external count
    (external_from typed wanted count items)
finds_external typed wanted external named count [] = refl
finds_external typed wanted external named count (item ∷ others) =
    finds_more (list_any wanted others) (filter_map (external_name typed) others) external count (wanted item)
    (external_name typed item) (external_from typed wanted (suc count) others)
    (external_from typed wanted count others) (named item)
    (finds_external typed wanted external named (suc count) others)
    (finds_external typed wanted external named count others)

-- an EXTERNAL object is one of the globals
abbrev is_among : (number : ℕ) → List ℕ → Bool
is_among number numbers = list_any (λ (other : ℕ). other == number) numbers

among_globals :
    (number : ℕ) (items : List GlobalItem)
    → list_any (is_global_object number) items ≡ is_among number (filter_map shared_object items)
among_globals number [] = refl
among_globals number (GlobalObject other ∷ items) =
    ap (λ later. (other == number) || later) (among_globals number items)
among_globals number (GlobalProcedure other ∷ items) = among_globals number items

among_later :
    (number : ℕ) (first : Option ℕ) (numbers : List ℕ)
    → is_among number numbers ≡ true
    → is_among number (cons_option first numbers) ≡ true
among_later number None numbers is = is
among_later number (Some first) numbers is = by (first == number)
  where
    by : (same : Bool) → (same || is_among number numbers) ≡ true
    by true = refl
    by false = is

external_is_global :
    (number : ℕ) (object : TypedObject)
    → object.home ≡ Elsewhere
    → global_object (number, object) ≡ Some number
external_is_global number object is =
    ap (λ (home : Home). if is_shared home object.is_public then Some number else None) is

among_objects :
    (objects : List TypedObject) (first index number : ℕ) (object : TypedObject)
    → slice_get objects index ≡ Some object
    → object.home ≡ Elsewhere
    → number ≡ first + index
    → is_among number (filter_map global_object (enumerate_from first objects)) ≡ true
among_objects [] first index number object found is at = absurd (none-some object found)
among_objects (here ∷ others) first zero number object found is at =
    ap (λ (global : Option ℕ).
    is_among number (cons_option global (filter_map global_object (enumerate_from (first + 1) others))))
    (external_is_global first here
    (ap (λ (found : Option TypedObject). (unwrap_or found here).home) found ∙ is))
    ∙ ap (λ same. same || is_among number (filter_map global_object (enumerate_from (first + 1) others)))
    (eq-eqb first number (omega (arith, at)))
among_objects (here ∷ others) first (suc index) number object found is at =
    among_later number (global_object (first, here))
    (filter_map global_object (enumerate_from (first + 1) others))
    (among_objects others (first + 1) index number object found is (omega (arith, at)))

-- the wanted name of an object
wanted_name :
    (typed : TypedModule) (number : ℕ) (object : TypedObject)
    → slice_get typed.objects number ≡ Some object
    → object.home ≡ Elsewhere
    → (item : GlobalItem)
    → is_global_object number item ≡ true
    → external_name typed item ≡ Some (record { name = object.name })
wanted_name typed number object found is (GlobalObject other) same =
    ap (λ (n : ℕ). external_name typed (GlobalObject n)) (eqb-true other number same)
    ∙ ap (λ (found : Option TypedObject).
    elim found [ Some object ↦ external_object object.home object.name | None ↦ None ]) found
    ∙ ap (λ (home : Home). external_object home object.name) is
wanted_name typed number object found is (GlobalProcedure other) same = absurd (false≢true same)

pub record IsNamed (typed : TypedModule) (number : ℕ) (name : List ℕ) : Type 0 where
  pub index : ℕ
  pub found : external_number typed (is_global_object number) ≡ Some index
  pub named : slice_get (externals_of typed) index ≡ Some (record { name = name })

-- each EXTERNAL object is found, at the index of its name
pub external_is_named :
    (typed : TypedModule) (number : ℕ) (object : TypedObject)
    → ListsGlobals typed
    → slice_get typed.objects number ≡ Some object
    → object.home ≡ Elsewhere
    → IsNamed typed number object.name
external_is_named typed number object lists found is =
    by (external_number typed (is_global_object number)) refl
    (finds_external typed (is_global_object number) (record { name = object.name })
    (wanted_name typed number object found is) 0 typed.globals)
  where
    stands : list_any (is_global_object number) typed.globals ≡ true
    stands =
        among_globals number typed.globals
        ∙ ap (is_among number) lists.objects
        ∙ among_objects typed.objects 0 number number object found is (omega arith)

    by :
        (answer : Option ℕ)
        → external_number typed (is_global_object number) ≡ answer
        → Finds (list_any (is_global_object number) typed.globals) (externals_of typed)
        (record { name = object.name }) 0 answer
        → IsNamed typed number object.name
    by None e none = absurd (false≢true (sym none ∙ stands))
    by (Some number) e at = record {
      index = at.index;
      found = e ∙ ap Some at.number_is ∙ ap Some (omega arith);
      named = at.name_is;
    }
