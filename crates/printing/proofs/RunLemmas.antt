-- Runs after runs, and what is printed of them.
use Rattle.printing.proofs.Prelude.{◌≡◌, ℕ, ◌+◌, ◌-◌, ◌≤◌, List, [], ◌∷◌, ◌++◌, length, drop, Option, refl, sym, ap, subst, ◌∙◌, append_assoc, arith, common_steps, flat_map-append, flat_map, Appends, Appends-trans, Event, IsBeginning, AppendsBeginning, report_of, shown_line}
use Rattle.printing.proofs.ReportLemmas.{begun_report, first_begun, then_begun}
use Rattle.isa8080.specs.{State.{State}, declared.registers.Status.{Status}, Step.{state_after}}
use Rattle.isa8080.specs.declared.registers.Status.TheVariants as status
use Rattle.isa8080.proofs.{Endings.{state_after_sum}, Growing.{run_adds}}
use Rattle.cpu8080.specs.{Machine.{Machine}, Runs.{ComesTo, IsRun}, declared.machine.End.{End}}
use Rattle.cpu8080.specs.declared.machine.End.TheVariants as end
use Rattle.cpu8080.proofs.MachineLemmas.{at_limit}
use Rattle.printing.specs.Printing.{BeginsRun, end_word}
use Rattle.printing.specs.internal.Slices.{BeginsSlice}

-- so many steps were made, and no port failed
pub record Made (start : Machine) (steps : ℕ) (here : Machine) : Type 0 where
  pub state : here.state ≡ state_after start.script steps start.state
  pub script : here.script ≡ start.script
  pub failures : here.failures ≡ start.failures

pub none_made : (start : Machine) → Made start 0 start
unfolding state_after
none_made start = record { state = refl; script = refl; failures = refl }

pub none_made_at : (start : Machine) (k : ℕ) → k ≡ 0 → Made start k start
none_made_at start k none = rw none (none_made start)

module _ (start here : Machine) (j : ℕ) (made : Made start j here) where
  more_made : (k : ℕ) → state_after here.script k here.state ≡ state_after start.script (k + j) start.state
  more_made k =
      ap (λ script. state_after script k here.state) made.script ∙ ap (state_after start.script k) made.state
      ∙ sym (state_after_sum start.script k j start.state)

  comes_on : (k : ℕ) (status : Status) (new : Machine) → ComesTo here k status new
      → ComesTo start (k + j) status new
  comes_on k status new comes = record {
    state = comes.state ∙ more_made k;
    status_is = comes.status_is;
    failures = comes.failures ∙ made.failures;
  }

  -- a run after these steps
  pub run_on : (k : ℕ) (why : End) (new : Machine) → IsRun k here why new → IsRun (k + j) start why new
  run_on k end.Limit new run = comes_on k status.Running new run
  run_on k end.Halted new run = comes_on k status.Halted new run
  run_on k end.Illegal new run = comes_on k status.Illegal new run
  run_on k end.PortFault new run = (
    run.0 + j,
    omega (arith, run.1),
    record {
      state = run.2.state ∙ more_made run.0;
      status_is = run.2.status_is;
      next = rw (sym made.script) run.2.next;
      failures = rw (sym made.failures) run.2.failures;
    },
  )

  -- steps after these steps
  pub made_on : (k : ℕ) (new : Machine) → IsRun k here end.Limit new → new.script ≡ here.script
      → Made start (k + j) new
  made_on k new run same = record {
    state = run.state ∙ more_made k;
    script = same ∙ made.script;
    failures = run.failures ∙ made.failures;
  }

-- a run that ended before its limit is one with a greater limit
pub run_within : (n limit : ℕ) (start new : Machine) (why : End) → n ≤ limit → (why ≡ end.Limit → ⊥)
    → IsRun n start why new → IsRun limit start why new
run_within n limit start new end.Limit within other run = absurd (other refl)
run_within n limit start new end.Halted within other run =
    at_limit start new n limit status.Halted within (λ h. cc) run
run_within n limit start new end.Illegal within other run =
    at_limit start new n limit status.Illegal within (λ h. cc) run
run_within n limit start new end.PortFault within other run = (run.0, omega (arith, run.1), run.2)

module _ (start here new : Machine) (j n : ℕ) (why : End) (made : Made start j here)
    (run : IsRun n here why new) where
  -- a slice at whose end the machine goes on
  pub slice_made : (k : ℕ) → k ≡ n + j → why ≡ end.Limit → new.script ≡ here.script → Made start k new
  slice_made k sum goes_on same =
      rw sum (made_on start here j made n new (subst (λ end. IsRun n here end new) goes_on run) same)

  -- the last slice
  pub last_slice : (limit : ℕ) → n + j ≡ limit → IsRun limit start why new
  last_slice limit sum = subst (λ k. IsRun k start why new) sum (run_on start here j made n why new run)

  -- a slice in which the run ends
  pub slice_ends : (limit : ℕ) → n + j ≤ limit → (why ≡ end.Limit → ⊥) → IsRun limit start why new
  slice_ends limit within other =
      run_within (n + j) limit start new why within other (run_on start here j made n why new run)

-- the lines of events, and of those that were added
pub lines_on : (quiet : List ℕ) (old new : List Event) → IsBeginning old new
    → flat_map (shown_line quiet) old ++ flat_map (shown_line quiet) (drop (length old) new)
    ≡ flat_map (shown_line quiet) new
lines_on quiet old new (more, e) =
    let rest : drop (length old) new ≡ more = rw e (simp common_steps) in
    rw rest (sym (flat_map-append (shown_line quiet) old more) ∙ ap (flat_map (shown_line quiet)) (sym e))

-- a run only adds events
pub run_grows : (n : ℕ) (old new : Machine) (why : End) → IsRun n old why new
    → IsBeginning old.state.events new.state.events
run_grows n old new end.Limit run =
    subst (λ (s : State). IsBeginning old.state.events s.events) (sym run.state)
    (run_adds old.script n old.state)
run_grows n old new end.Halted run =
    subst (λ (s : State). IsBeginning old.state.events s.events) (sym run.state)
    (run_adds old.script n old.state)
run_grows n old new end.Illegal run =
    subst (λ (s : State). IsBeginning old.state.events s.events) (sym run.state)
    (run_adds old.script n old.state)
run_grows n old new end.PortFault run =
    subst (λ (s : State). IsBeginning old.state.events s.events) (sym run.2.state)
    (run_adds old.script run.0 old.state)

beginning_fits : (old new : List Event) → IsBeginning old new → length old ≤ length new
beginning_fits old new (more, e) = rw e (grind (arith, common_steps))

pub longer : (n : ℕ) (old new : Machine) (why : End) → IsRun n old why new
    → length old.state.events ≤ length new.state.events
longer n old new why run = beginning_fits old.state.events new.state.events (run_grows n old new why run)

module _ (quiet : List ℕ) (a b c : Option (List ℕ)) where
  -- the lines of the first events were written, and then those that were added
  pub lines_written : (old new : List Event) → IsBeginning old new
      → Appends a b (flat_map (shown_line quiet) old)
      → Appends b c (flat_map (shown_line quiet) (drop (length old) new))
      → Appends a c (flat_map (shown_line quiet) new)
  lines_written old new grows p q =
      subst (Appends a c) (lines_on quiet old new grows) (Appends-trans a b c _ _ p q)

  lines_begun : (old new : List Event) → IsBeginning old new → Appends a b (flat_map (shown_line quiet) old)
      → AppendsBeginning b c (flat_map (shown_line quiet) (drop (length old) new))
      → AppendsBeginning a c (flat_map (shown_line quiet) new)
  lines_begun old new grows p q =
      subst (AppendsBeginning a c) (lines_on quiet old new grows) (then_begun a b c _ _ p q)

  -- a beginning of the lines of the first events is one of the lines of all
  begun_longer : (old new : List Event) → IsBeginning old new
      → AppendsBeginning a b (flat_map (shown_line quiet) old)
      → AppendsBeginning a b (flat_map (shown_line quiet) new)
  begun_longer old new (more, e) p =
      rw e (subst (AppendsBeginning a b) (sym (flat_map-append (shown_line quiet) old more))
      (first_begun a b c _ _ p))

ended_report_at : (quiet : List ℕ) (a b c : Option (List ℕ)) (events : List Event) (last : List ℕ)
    → Appends a b (flat_map (shown_line quiet) events) → AppendsBeginning b c (last ++ 10 ∷ [])
    → AppendsBeginning a c (report_of quiet events last)
ended_report_at quiet a b c events last p h =
    rw (append_assoc (flat_map (shown_line quiet) events) last (10 ∷ [])) (then_begun a b c _ _ p h)

-- the machine after all steps, where no port fails
module _ (quiet : List ℕ) (limit : ℕ) (start : Machine) where
  abbrev machine_at_end : Machine
  machine_at_end =
      record { state = state_after start.script limit start.state; script = start.script; failures = start.failures }

  runs_to_end : (found : Status) → (state_after start.script limit start.state).status ≡ found
      → (why : End) × IsRun limit start why machine_at_end
  runs_to_end status.Running e = (end.Limit, record { state = refl; status_is = e; failures = refl })
  runs_to_end status.Halted e = (end.Halted, record { state = refl; status_is = e; failures = refl })
  runs_to_end status.Illegal e = (end.Illegal, record { state = refl; status_is = e; failures = refl })

  grows_to_end : (k : ℕ) → k ≤ limit → IsBeginning (state_after start.script k start.state).events
      (state_after start.script limit start.state).events
  grows_to_end k within =
      let split : limit ≡ (limit - k) + k = omega arith in
      let same : state_after start.script limit start.state
      ≡ state_after start.script (limit - k) (state_after start.script k start.state) =
      ap (λ n. state_after start.script n start.state) split
      ∙ state_after_sum start.script (limit - k) k start.state in
      subst (λ (s : State). IsBeginning (state_after start.script k start.state).events s.events) (sym same)
      (run_adds start.script (limit - k) (state_after start.script k start.state))

  -- each machine has a run of at most so many steps
  pub some_run : (why : End) × ((machine : Machine) × IsRun limit start why machine)
  some_run =
      let last = runs_to_end (state_after start.script limit start.state).status refl in
      (last.0, (machine_at_end, last.1))

  -- the lines of the events of the first steps were begun
  pub begins_at : (a b : Option (List ℕ)) (k : ℕ) (here : Machine) → k ≤ limit
      → here.state ≡ state_after start.script k start.state
      → AppendsBeginning a b (flat_map (shown_line quiet) here.state.events)
      → BeginsRun quiet limit start a b
  begins_at a b k here within same begun =
      let last = runs_to_end (state_after start.script limit start.state).status refl in
      let grows : IsBeginning here.state.events (state_after start.script limit start.state).events =
      subst (λ (s : State). IsBeginning s.events (state_after start.script limit start.state).events)
      (sym same) (grows_to_end k within) in
      record {
        end = last.0;
        machine = machine_at_end;
        run = last.1;
        printed =
            begun_report quiet a b _ (end_word last.0)
            (begun_longer quiet a b b here.state.events _ grows begun);
      }

  module _ (a b c : Option (List ℕ)) (here : Machine) (j : ℕ) (made : Made start j here)
      (written : Appends a b (flat_map (shown_line quiet) here.state.events)) where
    slice_by : (n : ℕ) (new : Machine) (why : End) → n + j ≤ limit → IsRun n here why new
        → AppendsBeginning a c (flat_map (shown_line quiet) new.state.events)
        → BeginsRun quiet limit start a c
    slice_by n new end.Limit within run begun =
        let all : IsRun (n + j) start end.Limit new = run_on start here j made n end.Limit new run in
        begins_at a c (n + j) new within all.state begun
    slice_by n new end.Halted within run begun =
        record { end = end.Halted; machine = new; run = run_within (n + j) limit start new end.Halted within (λ h. cc) (run_on start here j made n end.Halted new run); printed = begun_report quiet a c _ _ begun }
    slice_by n new end.Illegal within run begun =
        record { end = end.Illegal; machine = new; run = run_within (n + j) limit start new end.Illegal within (λ h. cc) (run_on start here j made n end.Illegal new run); printed = begun_report quiet a c _ _ begun }
    slice_by n new end.PortFault within run begun =
        record { end = end.PortFault; machine = new; run = run_within (n + j) limit start new end.PortFault within (λ h. cc) (run_on start here j made n end.PortFault new run); printed = begun_report quiet a c _ _ begun }

    -- some steps were made, and the writer failed at the lines of the next ones
    pub slice_begun : (n : ℕ) (new : Machine) → n + j ≤ limit → BeginsSlice quiet n here new b c
        → BeginsRun quiet limit start a c
    slice_begun n new within begins =
        slice_by n new begins.end within begins.run
        (lines_begun quiet a b c here.state.events new.state.events
        (run_grows n here new begins.end begins.run) written begins.printed)

-- the last line of a run was begun
pub last_begun : (quiet : List ℕ) (limit : ℕ) (start new : Machine) (why : End) (a b c : Option (List ℕ))
    (last : List ℕ) → IsRun limit start why new → Appends a b (flat_map (shown_line quiet) new.state.events)
    → last ≡ end_word why → AppendsBeginning b c (last ++ 10 ∷ []) → BeginsRun quiet limit start a c
last_begun quiet limit start new why a b c last run lines e h = record {
  end = why;
  machine = new;
  run = run;
  printed = subst (λ text. AppendsBeginning a c (report_of quiet new.state.events text)) e (ended_report_at quiet a b c new.state.events last lines h);
}
