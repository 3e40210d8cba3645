-- No procedure of a module that a text is, and no main program, is charged more than the limit.
use Rattle.typed_laws.proofs.Prelude.{◌≡◌, ℕ, zero, suc, ◌+◌, ◌≤◌, min, List, [], ◌∷◌, length, map, Some, Ok, slice_get, refl, sym, ap, subst, arith, All, AllByRecursion, enumerate_from, All-cons, All-nil, recursion_from_All, none-some, Lexeme, ScalarType, ModuleTree, StatementTrees, Derives, IsNestedWithin, statements_height, charge_of, AreParameters, FrameFits, FramesFit, HasParameters, ParametersFit, home_of_parameters, Home, TypedModule, TypedProcedure, IsWellTyped, TypesHoldInList, TypesHoldInProcedure, Within, WithinMain, WithinProcedure, typing_of, GivesBack, untyped_bodies, untyped_list, gives_back, ChargesFit, HasFewParameters, charge_limit}
use Rattle.typed_laws.proofs.Formed.{derived_is_soundly_typed}
use Rattle.typed_laws.proofs.Heights.{list_within}
use Rattle.typed_laws.proofs.Plain.{AreWithin, bodies_within}

-- parameters have a type each
same_count : (typed : TypedModule) (home : Home) (scalars : List ScalarType) (parameters : List ℕ)
    → AreParameters typed home scalars parameters → length scalars ≡ length parameters
same_count typed home [] [] are = refl
same_count typed home [] (parameter ∷ parameters) are = absurd are
same_count typed home (scalar ∷ scalars) [] are = absurd are
same_count typed home (scalar ∷ scalars) (parameter ∷ parameters) are =
    ap (λ (count : ℕ). suc count) (same_count typed home scalars parameters are.1)

few_parameters : (typed : TypedModule) → ParametersFit typed → HasFewParameters typed
few_parameters typed fit =
    find 0 typed.procedures (recursion_from_All _ (enumerate_from 0 typed.procedures) fit.procedures)
  where
    find : (from : ℕ) (procedures : List TypedProcedure)
        → AllByRecursion (λ (numbered : ℕ × TypedProcedure). HasParameters typed numbered.0 numbered.1)
        (enumerate_from from procedures)
        → (number : ℕ) (found : TypedProcedure) → slice_get procedures number ≡ Some found
        → length found.parameter_types ≤ 16
    find from [] have number found is = absurd (none-some found is)
    find from (first ∷ others) have zero found is =
        let same : first ≡ found = cc in
        let count = same_count typed (home_of_parameters from first.is_reentrant first.visibility)
        first.parameter_types first.parameters (have.0).objects in
        let limit = (have.0).count in
        subst (λ (one : TypedProcedure). length one.parameter_types ≤ 16) same (omega (arith, count, limit))
    find from (first ∷ others) have (suc number) found is = find (from + 1) others have.1 number found is

module _ (typed : TypedModule) (few : HasFewParameters typed) where
  charge_fits : (within : Within) (procedure : TypedProcedure)
      → TypesHoldInList typed within procedure.body
      → procedure.frame_bytes ≤ 1024
      → length procedure.parameters ≤ 16
      → statements_height (untyped_list typed procedure.body) ≤ 64
      → charge_of procedure ≤ charge_limit
  unfolding charge_of
  charge_fits within procedure types frame parameters levels =
      let height = list_within typed within few procedure.body types in
      omega (arith, height, frame, parameters, levels)

  procedures_fit : (from : ℕ) (procedures : List TypedProcedure)
      → AllByRecursion (TypesHoldInProcedure typed) (enumerate_from from procedures)
      → AllByRecursion (λ (numbered : ℕ × TypedProcedure). FrameFits typed.objects numbered.0 numbered.1)
      (enumerate_from from procedures)
      → AllByRecursion (λ (numbered : ℕ × TypedProcedure). HasParameters typed numbered.0 numbered.1)
      (enumerate_from from procedures)
      → AreWithin 64 (map (λ (procedure : TypedProcedure). untyped_list typed procedure.body) procedures)
      → All (λ (procedure : TypedProcedure). charge_of procedure ≤ charge_limit) procedures
  procedures_fit from [] types frames parameters levels = All-nil _
  procedures_fit from (first ∷ others) types frames parameters levels =
      All-cons (λ (procedure : TypedProcedure). charge_of procedure ≤ charge_limit) first others
      (charge_fits (WithinProcedure from first.result) first types.0 (frames.0).bytes
      (parameters.0).count levels.0)
      (procedures_fit (from + 1) others types.1 frames.1 parameters.1 levels.1)

-- a module whose text nests no deeper than the limit
pub charges_fit : (tree : ModuleTree) (found : TypedModule)
    → IsNestedWithin tree → GivesBack tree found
    → IsWellTyped found → FramesFit found → ParametersFit found → ChargesFit found
charges_fit tree found nested back types frames parameters =
    let few = few_parameters found parameters in
    let levels : AreWithin 64 (untyped_bodies found) =
    subst (λ (bodies : List StatementTrees). AreWithin 64 bodies) (sym back) (bodies_within 64 tree nested) in
    let no_frame : found.main.frame_bytes ≡ 0 = frames.main in
    let no_parameters : length found.main.parameters ≡ 0 =
    ap (λ (all : List ℕ). length all) (parameters.main).1 in
    record {
      procedures = procedures_fit found few 0 found.procedures
          (recursion_from_All _ (enumerate_from 0 found.procedures) types.procedures)
          (recursion_from_All _ (enumerate_from 0 found.procedures) frames.procedures)
          (recursion_from_All _ (enumerate_from 0 found.procedures) parameters.procedures) levels.1;
      main = charge_fits found few WithinMain found.main types.main (omega (arith, no_frame))
          (omega (arith, no_parameters)) levels.0;
    }

-- a module that words derive
pub derived_charges_fit : (words : List Lexeme) (tree : ModuleTree) (found : TypedModule)
    → Derives words tree → typing_of tree ≡ Ok found → ChargesFit found
derived_charges_fit words tree found derived is =
    let sound = derived_is_soundly_typed words tree found derived is in
    charges_fit tree found derived.nested (gives_back tree found is) sound.types sound.frames sound.parameters

-- so a charge that is counted in numbers of 32 bits, which stop at the greatest, is the charge
pub charge_is_whole : (procedure : TypedProcedure) → charge_of procedure ≤ charge_limit
    → min (charge_of procedure) 4294967295 ≡ charge_of procedure
charge_is_whole procedure fits = omega (arith, fits)
