-- All calls of a program do what they mean, by the number of calls, turns and jumps that are left.
use Rattle.procedure_laws.proofs.Prelude.{◌≡◌, ℕ, zero, suc, ◌≤◌, List, slice_get, Option, Some, None, option_map, refl, sym, ap, ◌∙◌, arith, option_and_then, same_Some, TypedModule, TypedProcedure, InProgram, later_by, procedure_at, Program, CallsAreKnown, Entries, ModuleCode, ModuleLies, AllCallsAreKnown, CallsFollow, with_tree, CallsOfModuleFit, ListsAreDone}
use Rattle.procedure_laws.proofs.Frames.FramesBegin.{reentrant_begins}
use Rattle.procedure_laws.proofs.ProcedureCalls.{procedures_do}
use Rattle.procedure_laws.proofs.Returns.ReturnsReentrant.{reentrant_returns}
use Rattle.procedure_laws.proofs.Trees.{lies_anywhere}
use Rattle.procedure_laws.proofs.Static.StaticProcedures.{static_begins}
use Rattle.procedure_laws.proofs.Returns.StaticReturns.{static_returns}

-- what a place in a program has
pub record IsAt (modules : List TypedModule) (at : InProgram) (typed : TypedModule)
    (found : TypedProcedure) : Type 0 where
  pub is_module : slice_get modules at.number_of_module ≡ Some typed
  pub is_procedure : slice_get typed.procedures at.number ≡ Some found

pub procedure_is_at : (modules : List TypedModule) (at : InProgram) (typed : TypedModule)
    (found : TypedProcedure)
    → procedure_at modules at ≡ Some (typed, found)
    → IsAt modules at typed found
procedure_is_at modules at typed found there = by_module (slice_get modules at.number_of_module) refl there
  where
    by_procedure : (its : TypedModule) (entry : Option TypedProcedure)
        → slice_get modules at.number_of_module ≡ Some its
        → slice_get its.procedures at.number ≡ entry
        → option_map {U = TypedModule × TypedProcedure}
        (λ (procedure : TypedProcedure). (its, procedure)) entry
        ≡ Some (typed, found)
        → IsAt modules at typed found
    by_procedure its None is there same = let bad : ⊥ = cc in absurd bad
    by_procedure its (Some procedure) is there same =
        let pair : (its, procedure) ≡ (typed, found) = same_Some (its, procedure) (typed, found) same in
        let one : its ≡ typed = ap (λ (both : TypedModule × TypedProcedure). both.0) pair in
        let other : procedure ≡ found = ap (λ (both : TypedModule × TypedProcedure). both.1) pair in
        record {
          is_module = is ∙ ap (λ (one : TypedModule). Some one) one;
          is_procedure =
              ap (λ (one : TypedModule). slice_get one.procedures at.number) (sym one) ∙ there
              ∙ ap (λ (one : TypedProcedure). Some one) other;
        }

    by_module : (entry : Option TypedModule)
        → slice_get modules at.number_of_module ≡ entry
        → option_and_then {U = TypedModule × TypedProcedure}
        (λ (typed : TypedModule).
        option_map {U = TypedModule × TypedProcedure} (λ (procedure : TypedProcedure). (typed, procedure))
        (slice_get typed.procedures at.number)) entry
        ≡ Some (typed, found)
        → IsAt modules at typed found
    by_module None is same = let bad : ⊥ = cc in absurd bad
    by_module (Some its) is same = by_procedure its (slice_get its.procedures at.number) is refl same

-- calls in one module, wherever it lies
pub own_calls_follow :
    (code : ModuleCode) (entries : Entries) (bound : ℕ)
    → ModuleLies code entries
    → ListsAreDone
    → CallsOfModuleFit code bound
    → CallsFollow code.program code.image entries code.number code.typed bound
    (AllCallsAreKnown code.program code.image entries)
own_calls_follow code entries bound lies lists fit number bounded known index found is here =
    procedures_do code entries bound number lies known bounded lists fit
    (λ tree same. static_begins (with_tree code tree) entries bound
    (lies_anywhere code entries tree same lies))
    (λ tree same. static_returns (with_tree code tree) bound)
    (λ tree same. reentrant_begins (with_tree code tree) entries bound
    (lies_anywhere code entries tree same lies))
    (λ tree same. reentrant_returns (with_tree code tree) entries bound
    (lies_anywhere code entries tree same lies))
    index found is here

-- Where each module does so, all calls of a program are known, in runs of up to as many calls, turns and
-- jumps as the meaning is tied by.
pub calls_known :
    (program : Program) (image : List ℕ) (entries : Entries) (bound : ℕ)
    → ((number_of_module : ℕ) (typed : TypedModule) → slice_get program.modules number_of_module ≡ Some typed
    → CallsFollow program image entries number_of_module typed bound (AllCallsAreKnown program image entries))
    → (number : ℕ)
    → number ≤ bound
    → CallsAreKnown program image (later_by bound) number entries
calls_known program image entries bound modules zero bounded at typed found there here =
    λ room top back values s r memory below. absurd (omega (arith, below))
calls_known program image entries bound modules (suc number) bounded at typed found there here =
    let is = procedure_is_at program.modules at typed found there in
    modules at.number_of_module typed is.is_module number bounded
    (calls_known program image entries bound modules number (omega (arith, bounded))) at.number found
    is.is_procedure here
