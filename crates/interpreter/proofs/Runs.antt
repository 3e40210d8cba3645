-- Runs of stack code are runs of the source.
use Rattle.interpreter.proofs.Prelude.{◌≡◌, ℕ, suc, ◌-◌, Bool, true, false, cond, List, Option, None, Some, Result, Ok, Err, IfErr, IfOk, OnErr, All, find, nat_lt, slice_get, refl, sym, ap, ◌∙◌, arith, subst, option_map_or, JumpsAreSound, charge_of, TypedList, ListOf, TypedModule, is_main, Placement, starting_memory, Stack, Surroundings, done_list, later_by, State, Stop, Ended, Outside, Outcome, Gave, Stopped, Flow, Run, main_done, number_of_main, run_of, source_run, ComesAfter, found_from, adds_both}
use Rattle.ports.specs.{declared.event.Event.{Event}, Events.{IsBeginning}}
use Rattle.meaning.proofs.Added.{adds_if, adds_rest, begins_itself, later_adds}
use Rattle.stack_code.specs.{internal.Program.{AreTablesOf}, declared.program.StackProgram.{StackProgram}, declared.instruction.Instruction.{Instruction}, internal.Machine.{Machine, Progress, Going, Done, and_then_steps, progress_of, steps}, internal.Run.{machine_in, stack_run, start_state, start_surroundings, started as charged_start}, internal.Simulation.{Adds}}
use Rattle.stack_code.proofs.{Events.{adds_steps}, Meant.{begins_as_meant, done_as_meant, main_at}}
use Rattle.stack_compiler.specs.internal.Compiled.{IsCompiled}
use Rattle.stack_machine.specs.internal.Runs.{Reaches, ReachesCall, Stops, state_at_start}
unfoldable use Rattle.stack_machine.specs.internal.Runs.{ReachesFault}
use Rattle.stack_machine.specs.declared.end.RunFault.{RunFault}
use Rattle.stack_machine.specs.declared.end.RunFault.TheVariants as faults
use Rattle.stack_code.specs.internal.Code.{program_code}
use Rattle.interpreter.specs.Budgets.{FailsAt, StopsBefore, Uses}
use Rattle.interpreter.proofs.Budgets.{comes_next, used_to_end, used_to_event}
use Rattle.interpreter.proofs.MainModules.{main_is, main_is_none, number_is}

module _ (modules : List TypedModule) (placement : Placement) (room : ℕ) (start memory : List ℕ)
    (script : List (List ℕ)) (events after : List Event) (budget number : ℕ) (main : TypedModule)
    (program : StackProgram)
    (found : found_from 0 modules ≡ Some (number, main)) (sound : All JumpsAreSound modules)
    (compiled : IsCompiled modules placement program)
    (filled : memory ≡ starting_memory modules placement start) where
  there : find is_main modules ≡ Some main
  there = main_is modules number main found

  abbrev run_at : (number : ℕ) → (memory : List ℕ) → (count : ℕ) → Progress
  run_at at bytes count =
      stack_run program.instructions.items main (start_surroundings modules placement script at room)
      (state_at_start bytes events budget) count

  same_run : (count : ℕ) → run_at (number_of_main modules) (starting_memory modules placement start) count
      ≡ run_at number memory count
  same_run count =
      ap (λ at. run_at at (starting_memory modules placement start) count)
      (number_is modules number main found)
      ∙ ap (λ bytes. run_at number bytes count) (sym filled)

  -- where the code stops, the source does
  pub stops_as_meant : (why : Stop) (left : ℕ) → Stops (run_at number memory) why after left
      → source_run modules placement room start script events budget ≡ record { end = why; events = after }
  stops_as_meant why left stops =
      done_as_meant modules placement room start script events budget main there sound
      program.instructions.items
      (compiled main (main_at modules main there)).code stops.count why stops.state
      (same_run stops.count ∙ stops.stopped)
      ∙ ap (λ (es : List Event). record { end = why; events = es }) stops.events_are

  -- it has used of its budget what is gone;
  pub budget_spent : (why : Stop) (left : ℕ) → Stops (run_at number memory) why after left
      → Uses (source_run modules placement room start script events) budget why (budget - left)
  budget_spent why left stops =
      subst (λ rest. Uses (source_run modules placement room start script events) budget why (budget - rest))
      stops.left_is
      (used_to_end modules placement room start script events main there sound program.instructions.items
      (compiled main (main_at modules main there)).code budget stops.count why stops.state
      (same_run stops.count ∙ stops.stopped))

  -- where a port fails, its event is the next one of the source;
  stopped : (fault : RunFault) (left : ℕ) → ReachesCall (run_at number memory) fault after left
      → StopsBefore (source_run modules placement room start script events) budget fault after (budget - left)
  stopped fault left stops =
      let code : program.instructions.items ≡ program_code modules placement (number_of_main modules) main =
      (compiled main (main_at modules main there)).code in
      let going = same_run stops.count ∙ stops.going in
      let onward = same_run (suc stops.count) ∙ stops.onward in
      record {
        next = stops.next;
        is_call = stops.is_call;
        begins =
            comes_next modules placement room start script events main there sound program.instructions.items
            code budget stops.count left stops.machine stops.after after stops.next
            going stops.events_are stops.left_is onward stops.adds stops.left_after;
        used_is =
            used_to_event modules placement room start script events main there sound
            program.instructions.items code budget stops.count left stops.machine stops.after after stops.next
            going stops.events_are stops.left_is onward stops.adds stops.left_after;
      }

  pub fails_as_meant : (fault : RunFault) (left : ℕ) → ReachesFault (run_at number memory) fault after left
      → FailsAt (source_run modules placement room start script events) budget fault after (budget - left)
  unfolding ReachesFault
  fails_as_meant (faults.Input port) left stops = stopped (faults.Input port) left stops
  fails_as_meant (faults.Output port) left stops = stopped (faults.Output port) left stops
  fails_as_meant faults.Memory left stops = tt

  -- and on its way its events are a beginning of the source's
  pub events_begun : Reaches (run_at number memory) after
      → IsBeginning after (source_run modules placement room start script events budget).events
  events_begun reaches =
      subst (λ (es : List Event). IsBeginning es
      (source_run modules placement room start script events budget).events) reaches.events_are
      (begins_as_meant modules placement room start script events budget main there sound
      program.instructions.items
      (compiled main (main_at modules main there)).code reaches.count reaches.machine
      (same_run reaches.count ∙ reaches.going))

-- a program without a main module ends at once
module _ (modules : List TypedModule) (placement : Placement) (room : ℕ) (start : List ℕ)
    (script : List (List ℕ)) (events : List Event) (budget : ℕ) (none : found_from 0 modules ≡ None) where
  pub ends_without_main : source_run modules placement room start script events budget
      ≡ record { end = Ended; events = events }
  unfolding source_run
  ends_without_main =
      ap
      (λ (one : Option TypedModule). run_of
      (option_map_or (λ (typed : TypedModule). main_done budget typed
      (start_surroundings modules placement script (number_of_main modules) room)
      (start_state modules placement start events budget)) one
      (Gave Flow.Onward (start_state modules placement start events budget))))
      (main_is_none modules none)

-- and uses nothing
pub ended_with_none : (modules : List TypedModule) (placement : Placement) (room : ℕ) (start : List ℕ)
    (script : List (List ℕ)) (events : List Event) (budget left : ℕ)
    → found_from 0 modules ≡ None → left ≡ budget
    → Uses (source_run modules placement room start script events) budget Ended (budget - left)
ended_with_none modules placement room start script events budget left none same =
    let nothing : budget - left ≡ 0 = omega (arith, same) in
    record {
      here = ap (λ (run : Run). run.end)
          (ends_without_main modules placement room start script events (budget - left) none);
      below = λ less within ends. omega (arith, within, nothing);
    }

-- the tables of the code are there
pub tables : (modules : List TypedModule) (placement : Placement) (number : ℕ) (main : TypedModule)
    (program : StackProgram) → found_from 0 modules ≡ Some (number, main)
    → IsCompiled modules placement program
    → AreTablesOf modules program.instructions.items program.modules.items
tables modules placement number main program found compiled =
    (compiled main (main_at modules main (main_is modules number main found))).tables

-- a run of a source only adds events
of_outcome : (s : State) (outcome : Outcome Flow) → ComesAfter s outcome
    → IsBeginning s.events (run_of outcome).events
of_outcome s (Gave flow t) comes = comes
of_outcome s (Stopped why t) comes = comes

list_adds : (count : ℕ) (list : TypedList) (around : Surroundings) (s : State)
    → ComesAfter s (done_list (later_by count) around list s)
list_adds count (ListOf first places statements) around s =
    adds_rest (later_by count) (later_adds count) (ListOf first places statements) statements around s

main_adds : (budget : ℕ) (typed : TypedModule) (around : Surroundings) (s : State)
    → ComesAfter s (main_done budget typed around s)
main_adds budget typed around s =
    let within : Surroundings = record around { room = around.room - charge_of typed.main } in
    adds_if s (nat_lt around.room (charge_of typed.main)) (Stopped (Outside Stack) s)
    (done_list (later_by (suc budget)) within typed.main.body s)
    (begins_itself s) (list_adds (suc budget) typed.main.body within s)

found_adds : (budget : ℕ) (found : Option TypedModule) (around : Surroundings) (s : State)
    → ComesAfter s
    (option_map_or (λ (typed : TypedModule). main_done budget typed around s) found (Gave Flow.Onward s))
found_adds budget None around s = begins_itself s
found_adds budget (Some typed) around s = main_adds budget typed around s

pub started : (modules : List TypedModule) (placement : Placement) (room : ℕ) (start : List ℕ)
    (script : List (List ℕ)) (events : List Event) (budget : ℕ)
    → IsBeginning events (source_run modules placement room start script events budget).events
unfolding source_run
started modules placement room start script events budget =
    of_outcome (start_state modules placement start events budget) _
    (found_adds budget (find is_main modules)
    (start_surroundings modules placement script (number_of_main modules) room)
    (start_state modules placement start events budget))

pub on_err : {A E : Type 0} (P Q : Type 0) (answer : Result A E) → (P → Q) → OnErr answer P → OnErr answer Q
on_err P Q (Ok found) go holds = tt
on_err P Q (Err fault) go holds = go holds

adds_through : (code : List Instruction) (s : State) (progress : Progress) (count : ℕ) → Adds s progress
    → Adds s (and_then_steps progress (steps code count))
adds_through code s (Going n) count first =
    adds_both s n.state (steps code count n) first (adds_steps code count n)
adds_through code s (Done why t) count first = first

adds_charged : (is_over : Bool) (within : Surroundings) (s : State)
    → Adds s (progress_of (cond is_over (Stopped (Outside Stack) s) (Gave within s)) machine_in)
adds_charged true within s = begins_itself s
adds_charged false within s = begins_itself s

adds_run : (code : List Instruction) (main : TypedModule) (around : Surroundings) (s : State) (count : ℕ)
    → Adds s (stack_run code main around s count)
adds_run code main around s count =
    adds_through code s (charged_start main around s) count
    (adds_charged (nat_lt around.room (charge_of main.main))
    (record around { room = around.room - charge_of main.main }) s)

module _ (code : List Instruction) (main : TypedModule) (around : Surroundings) (memory : List ℕ)
    (events after : List Event) (budget : ℕ) where
  abbrev run_here : (count : ℕ) → Progress
  run_here count = stack_run code main around (state_at_start memory events budget) count

  pub kept_stopped : (why : Stop) (left : ℕ) → Stops run_here why after left → IsBeginning events after
  kept_stopped why left stops =
      let added : IsBeginning events stops.state.events =
      subst (λ progress. Adds (state_at_start memory events budget) progress) stops.stopped
      (adds_run code main around (state_at_start memory events budget) stops.count) in
      subst (λ (es : List Event). IsBeginning events es) stops.events_are added

  pub kept_reached : Reaches run_here after → IsBeginning events after
  kept_reached reaches =
      let added : IsBeginning events reaches.machine.state.events =
      subst (λ progress. Adds (state_at_start memory events budget) progress) reaches.going
      (adds_run code main around (state_at_start memory events budget) reaches.count) in
      subst (λ (es : List Event). IsBeginning events es) reaches.events_are added

-- what holds of each answer
pub either : {A E : Type 0} (P : A → Type 0) (Q R : Type 0) (answer : Result A E)
    → ((found : A) → P found → R) → (Q → R) → IfOk answer P → OnErr answer Q → R
either P Q R (Ok found) one other holds none = one found holds
either P Q R (Err fault) one other none holds = other holds

-- what holds of each fault
pub if_err_then : {A E : Type 0} (P Q : E → Type 0) (answer : Result A E) → ((fault : E) → P fault → Q fault)
    → IfErr answer P → IfErr answer Q
if_err_then P Q (Ok found) go holds = tt
if_err_then P Q (Err fault) go holds = go fault holds
