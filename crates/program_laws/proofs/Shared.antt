-- PUBLIC and EXTERNAL procedures among the names of a module.
use Rattle.program_laws.proofs.Prelude.{◌≡◌, ℕ, zero, suc, ◌+◌, Bool, true, false, List, [], ◌∷◌, Option, Some, None, cond, refl, ap, sym, ◌∙◌, subst, arith, ◌||◌, slice_get, unwrap_or, enumerate_from, list_any, option_and_then, option_map_or, false≢true, eq-eqb, eqb-true, none-some, same_Some, GlobalItem, GlobalObject, GlobalProcedure, Visibility, ListsGlobals, global_procedure, is_global, shared_procedure, TypedModule, TypedProcedure, ExternalName, Procedure, Home, public_item, public_procedure, publics_of, external_name, external_number, external_procedure, externals_of, is_global_procedure, name_at, Finds, finds_external}
use Rattle.typed_trees.specs.declared.parts.Visibility.TheVariants as visibilities
use Rattle.program_laws.proofs.Listed.{InList, kept_in, came_from, numbered_in}

-- the number of a procedure that is kept is the procedure's
shared_is : (item : GlobalItem) (number : ℕ) → shared_procedure item ≡ Some number
    → item ≡ GlobalProcedure number
shared_is (GlobalObject other) number is = absurd (none-some number is)
shared_is (GlobalProcedure other) number is = ap GlobalProcedure (same_Some other number is)

-- a procedure that is shared is one of the globals
pub procedure_shared :
    (typed : TypedModule) (number : ℕ) (procedure : TypedProcedure)
    → ListsGlobals typed
    → slice_get typed.procedures number ≡ Some procedure
    → is_global procedure.visibility ≡ true
    → InList typed.globals (GlobalProcedure number)
procedure_shared typed number procedure lists found shared =
    let at = numbered_in 0 typed.procedures number procedure found in
    let zero_more : 0 + number ≡ number = omega arith in
    let in_numbers =
    kept_in global_procedure (enumerate_from 0 typed.procedures) at.index
    (0 + number, procedure) number at.found
    (ap (λ (is : Bool). cond is (Some (0 + number)) None) shared ∙ ap Some zero_more) in
    let came = came_from shared_procedure typed.globals in_numbers.index number
    (ap (λ (numbers : List ℕ). slice_get numbers in_numbers.index) lists.procedures ∙ in_numbers.found) in
    subst (InList typed.globals) (shared_is came.item number came.is) came.at

-- the name of a PUBLIC procedure is one of the PUBLIC names
pub public_in :
    (typed : TypedModule) (starts : List Home) (number : ℕ) (procedure : TypedProcedure)
    → ListsGlobals typed
    → slice_get typed.procedures number ≡ Some procedure
    → procedure.visibility ≡ visibilities.Public
    → InList (publics_of typed starts) (record { name = procedure.name; place = Procedure number })
unfolding publics_of
public_in typed starts number procedure lists found public =
    let shared = procedure_shared typed number procedure lists found (ap is_global public) in
    kept_in (public_item typed starts) typed.globals shared.index (GlobalProcedure number)
    (record { name = procedure.name; place = Procedure number }) shared.found
    (ap (option_and_then (public_procedure number)) found ∙ by_visibility procedure.visibility public)
  where
    by_visibility : (visibility : Visibility) → visibility ≡ visibilities.Public
        → public_procedure number (record procedure { visibility = visibility })
        ≡ Some (record { name = procedure.name; place = Procedure number })
    by_visibility visibilities.Public is = refl
    by_visibility visibilities.Private is = absurd (cc)
    by_visibility visibilities.External is = absurd (cc)

any_of : (number index : ℕ) (items : List GlobalItem) → slice_get items index ≡ Some (GlobalProcedure number)
    → list_any (is_global_procedure number) items ≡ true
any_of number index [] found = absurd (none-some (GlobalProcedure number) found)
any_of number zero (first ∷ others) found =
    ap (λ (is : Bool). is || list_any (is_global_procedure number) others)
    (ap (is_global_procedure number) (same_Some first (GlobalProcedure number) found)
    ∙ eq-eqb number number refl)
any_of number (suc index) (first ∷ others) found =
    either (is_global_procedure number first) (any_of number index others found)
  where
    either : (is : Bool) → list_any (is_global_procedure number) others ≡ true
        → (is || list_any (is_global_procedure number) others) ≡ true
    either true rest = refl
    either false rest = rest

wanted_name :
    (typed : TypedModule) (number : ℕ) (procedure : TypedProcedure)
    → slice_get typed.procedures number ≡ Some procedure
    → procedure.visibility ≡ visibilities.External
    → (item : GlobalItem)
    → is_global_procedure number item ≡ true
    → external_name typed item ≡ Some (record { name = procedure.name })
wanted_name typed number procedure found is (GlobalProcedure other) same =
    ap (λ (n : ℕ). external_name typed (GlobalProcedure n)) (eqb-true other number same)
    ∙ ap (option_and_then (λ (one : TypedProcedure). external_procedure one.visibility one.name)) found
    ∙ ap (λ visibility. external_procedure visibility procedure.name) is
wanted_name typed number procedure found is (GlobalObject other) same = absurd (false≢true same)

-- the name of an EXTERNAL procedure stands at its number among the EXTERNAL names
pub external_named :
    (typed : TypedModule) (number : ℕ) (procedure : TypedProcedure)
    → ListsGlobals typed
    → slice_get typed.procedures number ≡ Some procedure
    → procedure.visibility ≡ visibilities.External
    → name_at (externals_of typed) (unwrap_or (external_number typed (is_global_procedure number)) 0)
    ≡ procedure.name
external_named typed number procedure lists found is =
    by (external_number typed (is_global_procedure number)) refl
    (finds_external typed (is_global_procedure number) (record { name = procedure.name })
    (wanted_name typed number procedure found is) 0 typed.globals)
  where
    stands : list_any (is_global_procedure number) typed.globals ≡ true
    stands =
        let shared = procedure_shared typed number procedure lists found (ap is_global is) in
        any_of number shared.index typed.globals shared.found

    by :
        (answer : Option ℕ)
        → external_number typed (is_global_procedure number) ≡ answer
        → Finds (list_any (is_global_procedure number) typed.globals) (externals_of typed)
        (record { name = procedure.name }) 0 answer
        → name_at (externals_of typed) (unwrap_or answer 0) ≡ procedure.name
    by None e none = absurd (false≢true (sym none ∙ stands))
    by (Some index) e at =
        let same : index ≡ at.index = let is = at.number_is in omega (arith, is) in
        ap (name_at (externals_of typed)) same
        ∙ ap (λ (one : Option ExternalName). option_map_or
        (λ (external : ExternalName). external.name) one []) at.name_is
