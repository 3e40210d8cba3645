-- The code of one module does what the module says, by what calls do, or by what calls of other modules do
-- alone.
use Rattle.procedure_laws.proofs.Prelude.{◌≡◌, ℕ, zero, suc, ◌≤◌, Bool, true, false, List, refl, ap, sym, subst, ◌∙◌, arith, ◌==◌, slice_get, Some, eq-eqb, eqb-true, same_Some, TypedModule, is_main, later_by, Program, HasTypes, Entries, EntryDoes, MainStands, ModuleCode, ModuleLies, AllCallsAreKnown, ModuleDoes, OtherCallsAreKnown, OwnCallsAreKnown, in_module}
use Rattle.procedure_laws.proofs.CallsFitting.{calls_of_module_fit}
use Rattle.procedure_laws.proofs.KnownCalls.{procedure_is_at, own_calls_follow}
use Rattle.procedure_laws.proofs.ListsDone.{lists_are_done}
use Rattle.procedure_laws.proofs.Main.{main_runs}

-- where its code lies as it is to, each step of calls, and the run of the main program
pub module_does :
    (code : ModuleCode) (entries : Entries) (start : ℕ)
    → ModuleLies code entries
    → HasTypes code.program
    → (is_main code.typed ≡ true → MainStands code start)
    → ModuleDoes code.program code.image entries code.number code.typed start
    (AllCallsAreKnown code.program code.image entries)
module_does code entries start lies types main = record {
  calls = λ bound.
      own_calls_follow code entries bound lies lists_are_done
      (calls_of_module_fit code entries bound lies types);
  main = λ budget room s r memory is known same no_frame enough shares bytes.
      main_runs code entries start budget room s r memory lies known lists_are_done
      (calls_of_module_fit code entries (suc budget) lies types) (main is) same no_frame enough shares bytes;
}

module _
    (program : Program) (image : List ℕ) (entries : Entries) (number_of_module : ℕ) (typed : TypedModule)
    (is_module : slice_get program.modules number_of_module ≡ Some typed)
  where
    -- calls of all other modules, and of its own, are all calls
    all_known :
        (bound number : ℕ)
        → OtherCallsAreKnown program image entries number_of_module (later_by bound) number
        → OwnCallsAreKnown program image entries number_of_module typed (later_by bound) number
        → AllCallsAreKnown program image entries (later_by bound) number
    all_known bound number others own at its found there here =
        by (at.number_of_module == number_of_module) refl
      where
        by : (test : Bool) → (at.number_of_module == number_of_module) ≡ test
            → EntryDoes program image (later_by bound) number at its found (entries at)
        by true is =
            let same : at.number_of_module ≡ number_of_module =
            eqb-true at.number_of_module number_of_module is in
            let place = procedure_is_at program.modules at its found there in
            let its_module : typed ≡ its =
            same_Some typed its
            (sym is_module ∙ ap (λ (n : ℕ). slice_get program.modules n) (sym same) ∙ place.is_module) in
            subst (λ (n : ℕ).
            EntryDoes program image (later_by bound) number (in_module n at.number) its found
            (entries (in_module n at.number)))
            (sym same)
            (subst (λ (one : TypedModule).
            EntryDoes program image (later_by bound) number (in_module number_of_module at.number) one found
            (entries (in_module number_of_module at.number))) its_module
            (own at.number found
            (ap (λ (one : TypedModule). slice_get one.procedures at.number) its_module ∙ place.is_procedure)
            here))
        by false is =
            others at its found
            (λ same. let bad : true ≡ false = sym (eq-eqb at.number_of_module number_of_module
            same) ∙ is in cc) there here

    module _
        (start : ℕ)
        (does : ModuleDoes program image entries number_of_module typed start (AllCallsAreKnown
        program image entries))
      where
        -- by the number of calls, turns and jumps that are left
        own_known :
            (bound number : ℕ)
            → number ≤ bound
            → OtherCallsAreKnown program image entries number_of_module (later_by bound) number
            → OwnCallsAreKnown program image entries number_of_module typed (later_by bound) number
        own_known bound zero bounded others index found is here =
            λ room top back values s r memory below. absurd (omega (arith, below))
        own_known bound (suc number) bounded others index found is here =
            let fewer : OtherCallsAreKnown program image entries number_of_module (later_by bound) number =
            λ at its found apart there here room top back values s r memory below.
            others at its found apart there here room top back values s r memory (omega (arith, below)) in
            does.calls bound number bounded
            (all_known bound number fewer (own_known bound number (omega (arith, bounded)) fewer)) index found
            is here

        -- So calls of a module's own procedures, and its main program, do what they mean where calls of other
        -- modules do.
        pub does_by_others :
            ModuleDoes program image entries number_of_module typed start
            (OtherCallsAreKnown program image entries number_of_module)
        does_by_others = record {
          calls = λ bound number bounded others.
              does.calls bound number bounded
              (all_known bound number others (own_known bound number (omega (arith, bounded)) others));
          main = λ budget room s r memory is others.
              does.main budget room s r memory is
              (all_known (suc budget) budget others (own_known (suc budget) budget (omega arith) others));
        }
