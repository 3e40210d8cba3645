-- What holds along each run: of calls, and so of all that is given from outside.
use Rattle.meaning.proofs.Prelude.{InProgram, Keeps, Later, LaterKeeps, List, ScalarType, State, Surroundings, arith, called, later_by, nothing_else, parameters_set, procedure_at, suc, zero, ℕ, ◌-◌, ◌<◌}
use Rattle.meaning.proofs.Kept.{from_before, nothing_weakens, takes_one}
use Rattle.meaning.proofs.KeptParts.{FlowKeeps, ValueKeeps, keeps_all}
use Rattle.meaning.proofs.Preserves.{no_condition, of_found, of_parameters, of_rest, of_turn}

call_keeps : (number : ℕ) (later : Later) → LaterKeeps number later → (at : InProgram) (arguments : List ℕ)
    (around : Surroundings) (s : State) → s.budget < suc number
    → Keeps around.program nothing_else s (called later at arguments around s)
call_keeps number later kept at arguments around s below =
    takes_one around.program nothing_else s _
    (λ t so_far less.
    from_before around.program nothing_else (nothing_weakens around.program) s t _ so_far
    (of_found later later around (ValueKeeps around.program number) (λ c. FlowKeeps around.program number)
    (λ c. FlowKeeps around.program (number - 1))
    (λ module_is room. keeps_all number later kept
    (record around { number_of_module = module_is; room = room }))
    (procedure_at around.program.modules at) at arguments t (omega (arith, less, below))))

pub later_keeps : (number : ℕ) → LaterKeeps number (later_by number)
later_keeps zero = record {
  call = λ at arguments around s below. absurd (omega (arith, below));
  again = λ turn around s below. absurd (omega (arith, below));
  onto = λ list rest around s below. absurd (omega (arith, below));
}
later_keeps (suc number) = record {
  call = λ at arguments around s below. call_keeps number (later_by number) (later_keeps number) at
      arguments around s below;
  again = λ turn around s below. of_turn (later_by number) (later_by number) around no_condition _ _ _
      (keeps_all number (later_by number) (later_keeps number) around) tt turn tt s (omega (arith, below));
  onto = λ list rest around s below. of_rest (later_by number) (later_by number) around no_condition _ _ _
      (keeps_all number (later_by number) (later_keeps number) around) tt list rest tt tt s
      (omega (arith, below));
}

pub sets_parameters : (scalars : List ScalarType) (parameters arguments : List ℕ) (around : Surroundings)
    (s : State) → Keeps around.program nothing_else s (parameters_set around scalars parameters arguments s)
sets_parameters scalars parameters arguments around s =
    let number : ℕ = suc s.budget in
    of_parameters (later_by number) (later_by number) around no_condition _ _ _
    (keeps_all number (later_by number) (later_keeps number) around) scalars parameters arguments s
    (omega arith)
