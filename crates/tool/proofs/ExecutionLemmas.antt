-- What a run of the machine says of its source, and of the memory that this ends with.
use Rattle.tool.proofs.Prelude.{◌≡◌, ℕ, List, Option, sym, ap, ◌∙◌, subst, Appends, End, Machine, IsOnlyHalt, IsRun, Absolute, loaded, program_modules, HasMemoryOf, started, IsFaithful, Agrees, EndsAlike, HoldsAtEnd, machine_run}
use Rattle.printing.specs.{Report.{report_of}, Printing.{PrintsRun, end_word}}
use Rattle.tool.specs.{Construction.{Construction}, Printed.{PrintsEnded}}
use Rattle.ports.specs.{declared.event.Event.{Event}, Events.{IsBeginning}}
use Rattle.isa8080.specs.{declared.registers.Status.TheVariants.{Halted}, State.{State}, Step.{state_after}}
use Rattle.cpu8080.specs.declared.machine.End.TheVariants as end
use Rattle.meaning.specs.{Outcomes.{Ended, Flow, Outcome}, Run.{Run}}

module _ (image : Absolute) (memory : List ℕ) (script : List (List ℕ)) (events : List Event) (failures : ℕ)
    (source : ℕ → Run) (agrees : Agrees source (machine_run image memory script events)) where
  begins_at : (k : ℕ) (new : Machine) → new.state
      ≡ state_after script k (started image memory script events failures).state
      → (n : ℕ) × IsBeginning new.state.events (source n).events
  unfolding machine_run
  begins_at k new e =
      let h = agrees.runs_no_further k in
      (h.0, subst (λ (s : State). IsBeginning s.events (source h.0).events) (sym e) h.1)

  ended_at : (k : ℕ) (new : Machine) → new.state
      ≡ state_after script k (started image memory script events failures).state → new.state.status ≡ Halted
      → IsOnlyHalt (started image memory script events failures) new
      → (n : ℕ) × ((source n).end ≡ Ended) × ((source n).events ≡ new.state.events)
  unfolding machine_run
  ended_at k new e halted only =
      let start : State = (started image memory script events failures).state in
      let here : (state_after script k start).status ≡ Halted =
      sym (ap (λ (s : State). s.status) e) ∙ halted in
      let h = agrees.ended_when_halted k here in
      let there = agrees.halts_when_ended h.0 h.1 in
      let same : state_after script there.0 start ≡ new.state = only there.0 there.1 in
      (h.0, h.1, sym there.2 ∙ ap (λ (s : State). s.events) same)

  -- a run of a machine that agrees with a source is faithful to it
  pub is_faithful : (limit : ℕ) (why : End) (new : Machine)
      → IsRun limit (started image memory script events failures) why new
      → (why ≡ end.Halted → IsOnlyHalt (started image memory script events failures) new)
      → IsFaithful source why new
  is_faithful limit end.Limit new run halt =
      record { begins = begins_at limit new run.state; ended = λ e. absurd (cc) }
  is_faithful limit end.Halted new run halt =
      record { begins = begins_at limit new run.state; ended = λ is. ended_at limit new run.state run.status_is (halt is) }
  is_faithful limit end.Illegal new run halt =
      record { begins = begins_at limit new run.state; ended = λ e. absurd (cc) }
  is_faithful limit end.PortFault new run halt =
      record { begins = begins_at run.0 new run.2.state; ended = λ e. absurd (cc) }

-- a machine of a built program that halted has the memory of the source where that ended
pub has_memory_of : (built : Construction) (memory : List ℕ) (script : List (List ℕ)) (events : List Event)
    (failures : ℕ) (source : ℕ → Outcome Flow)
    → EndsAlike (program_modules built.program) built.placement source
    (machine_run built.image memory script events)
    → (limit : ℕ) (why : End) (new : Machine)
    → why ≡ end.Halted
    → IsRun limit (started built.image memory script events failures) why new
    → HasMemoryOf built memory source new
unfolding machine_run state_after
has_memory_of built memory script events failures source alike limit why new halted run =
    let start : State = (started built.image memory script events failures).state in
    let ran =
    subst (λ (one : End). IsRun limit (started built.image memory script events failures) one new) halted
    run in
    let here : (state_after script limit start).status ≡ Halted =
    sym (ap (λ (s : State). s.status) ran.state) ∙ ran.status_is in
    let found = alike.when_halted limit here in
    record {
      budget = found.0;
      end = found.1;
      ended = found.2;
      events = ap (λ (s : State). s.events) ran.state ∙ found.3;
      holds =
          subst (λ (s : State).
          HoldsAtEnd (program_modules built.program) built.placement (loaded built.image.pieces memory)
          (found.1).memory s.memory) (sym ran.state) found.4;
    }

-- what is printed of a run that halted is what the source does
pub prints_ended : (quiet : List ℕ) (image : Absolute) (memory : List ℕ) (script : List (List ℕ))
    (events : List Event) (failures : ℕ) (source : ℕ → Run)
    → Agrees source (machine_run image memory script events)
    → (limit : ℕ) (why : End) (machine : Machine) (old new : Option (List ℕ)) → why ≡ end.Halted
    → PrintsRun quiet limit (started image memory script events failures) why machine old new
    → (why ≡ end.Halted → IsOnlyHalt (started image memory script events failures) machine)
    → PrintsEnded quiet source old new
prints_ended quiet image memory script events failures source agrees limit why machine old new
    halted prints halt =
    let faithful =
    is_faithful image memory script events failures source agrees limit why machine prints.run halt in
    let found = faithful.ended halted in
    record {
      budget = found.0;
      ended = found.1;
      printed =
          subst (λ word. Appends old new (report_of quiet (source found.0).events word)) (ap end_word halted)
          (subst (λ es. Appends old new (report_of quiet es (end_word why))) (sym found.2) prints.printed);
    }
