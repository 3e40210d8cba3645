-- Steps of a machine: how many were made, and one that reads past the input.
use Rattle.commands.proofs.{Prelude.{Bool, ◌≡◌, ℕ, suc, ◌+◌, ◌-◌, ◌<◌, ◌≤◌, true, List, [], ◌++◌, ◌∷◌, length, Option, Some, None, refl, sym, ap, subst, ◌∙◌, arith, Event, IfSome, drop, byte_at, AddsEvent, CountsFailure, read_event, input_value, queue_of, reads_of, form_of, State, wrap, Status, carry_out, next_byte, step_by, state_after, step_of, state_after_sum, stays_state, Machine, FailsAfter, IsRun, End, Made, made_on, none_made, run_on, slice_ends, StandsAt, stand_of, CarriesOut, ComesToDry, DoesOnMachine, IsWithinInput, asked_by, IsAtDry, ReadsNext, StaysWithin}, PortReads.{passes}}
use Rattle.isa8080.specs.declared.registers.Status.TheVariants as status
use Rattle.cpu8080.specs.declared.machine.End.TheVariants as ends

-- ---- how many were made

abbrev pub state_from : Machine → (steps : ℕ) → State
state_from start steps = state_after start.script steps start.state

-- a machine that runs has run before
runs_before : (script : List (List ℕ)) (s : State) (k more : ℕ) → (state_after script (more + k) s).status ≡ status.Running → (state_after script k s).status ≡ status.Running
runs_before script s k more runs = go (state_after script k s).status refl
  where
    stays : (found : Status) → (state_after script k s).status ≡ found → (found ≡ status.Running → ⊥) → (state_after script k s).status ≡ status.Running
    stays found e other =
        let same : state_after script (more + k) s ≡ state_after script k s = state_after_sum script more k s ∙ stays_state script more (state_after script k s) found e other in
        sym (ap (λ (t : State). t.status) same) ∙ runs

    go : (found : Status) → (state_after script k s).status ≡ found → (state_after script k s).status ≡ status.Running
    go status.Running e = e
    go status.Halted e = stays status.Halted e (λ h. cc)
    go status.Illegal e = stays status.Illegal e (λ h. cc)

none_after : (m : Machine) → state_from m 0 ≡ m.state
unfolding state_after
none_after m = refl

-- so many steps were made, and the machine runs
pub record SoFar (limit : ℕ) (start : Machine) (done : ℕ) (here : Machine) : Type 0 where
  pub within : done ≤ limit
  pub made : Made start done here
  pub runs : here.state.status ≡ status.Running

pub begins : (limit : ℕ) (start : Machine) → start.state.status ≡ status.Running → SoFar limit start 0 start
begins limit start runs = record { within = omega arith; made = none_made start; runs = runs }

module _ (limit : ℕ) (start : Machine) (done : ℕ) (here : Machine) (so_far : SoFar limit start done here) where
  -- it ran after each of these steps
  runs_at : (k : ℕ) → k ≤ done → (state_from start k).status ≡ status.Running
  runs_at k within =
      let sum : (done - k) + k ≡ done = omega (arith, within) in
      runs_before start.script start.state k (done - k) (ap (λ (s : State). s.status) (ap (λ n. state_from start n) sum ∙ sym so_far.made.state) ∙ so_far.runs)

  not_halted : (other : ℕ) → other < suc done → (machine : Machine) × IsRun other start ends.Halted machine → ⊥
  not_halted other less halted =
      let bad : status.Running ≡ status.Halted = sym (runs_at other (omega (arith, less))) ∙ sym (ap (λ (s : State). s.status) halted.1.state) ∙ halted.1.status_is in cc

  not_illegal : (other : ℕ) → other < suc done → (machine : Machine) × IsRun other start ends.Illegal machine → ⊥
  not_illegal other less illegal =
      let bad : status.Running ≡ status.Illegal = sym (runs_at other (omega (arith, less))) ∙ sym (ap (λ (s : State). s.status) illegal.1.state) ∙ illegal.1.status_is in cc

  -- the limit was reached
  pub limit_run : limit ≤ done → IsRun limit start ends.Limit here
  limit_run all =
      let same : done ≡ limit = omega (arith, all, so_far.within) in
      subst (λ n. IsRun n start ends.Limit here) same (record { state = so_far.made.state; status_is = so_far.runs; failures = so_far.made.failures })

  pub limit_counted : (events : List Event) → limit ≤ done → CarriesOut limit start (Some ends.Limit) events done
  limit_counted events all = omega (arith, all, so_far.within)

  module _ (new : Machine) (why : End) (run : IsRun 1 here why new) (same : new.script ≡ here.script) (fits : done < limit) where
    -- the machine goes on
    pub goes_further : (next : ℕ) → why ≡ ends.Limit → next ≡ done + 1 → SoFar limit start next new
    goes_further next is sum =
        let on : IsRun 1 here ends.Limit new = subst (λ (e : End). IsRun 1 here e new) is run in
        let count : next ≡ 1 + done = omega (arith, sum) in
        record {
          within = omega (arith, sum, fits);
          made = subst (λ n. Made start n new) (sym count) (made_on start here done so_far.made 1 new on same);
          runs = on.status_is;
        }

    -- the run ended
    pub ends_so : (end : End) → why ≡ end → (end ≡ ends.Limit → ⊥) → IsRun limit start end new
    ends_so end is other =
        subst (λ (e : End). IsRun limit start e new) is
        (slice_ends start here new done 1 why so_far.made run limit (omega (arith, fits)) (λ h. other (sym is ∙ h)))

    all_run : (end : End) → why ≡ end → IsRun (1 + done) start end new
    all_run end is = subst (λ (e : End). IsRun (1 + done) start e new) is (run_on start here done so_far.made 1 why new run)

    pub halt_counted : (events : List Event) (steps : ℕ) → why ≡ ends.Halted → steps ≡ done + 1 → CarriesOut limit start (Some ends.Halted) events steps
    halt_counted events steps is count =
        let one : steps ≡ 1 + done = omega (arith, count) in
        record {
          here = subst (λ n. (machine : Machine) × IsRun n start ends.Halted machine) (sym one) (new, all_run ends.Halted is);
          below = λ other less. not_halted other (omega (arith, less, count));
        }

    pub illegal_counted : (events : List Event) (steps : ℕ) → why ≡ ends.Illegal → steps ≡ done → CarriesOut limit start (Some ends.Illegal) events steps
    illegal_counted events steps is count =
        let one : suc steps ≡ 1 + done = omega (arith, count) in
        record {
          here = subst (λ n. (machine : Machine) × IsRun n start ends.Illegal machine) (sym one) (new, all_run ends.Illegal is);
          below = λ other less. not_illegal other (omega (arith, less, count));
        }

    pub fault_counted : (steps : ℕ) → why ≡ ends.PortFault → steps ≡ done → CarriesOut limit start (Some ends.PortFault) new.state.events steps
    fault_counted steps is count =
        let first : IsRun 1 here ends.PortFault new = subst (λ (e : End). IsRun 1 here e new) is run in
        let none : first.0 ≡ 0 = omega (arith, first.1) in
        let state : new.state ≡ here.state = first.2.state ∙ ap (λ k. state_from here k) none ∙ none_after here in
        let fails : FailsAfter start done new = record {
          state = state ∙ so_far.made.state;
          status_is = first.2.status_is;
          next = subst (λ (script : List (List ℕ)). (event : Event) × AddsEvent new.state.events (step_of script new.state).events event) so_far.made.script first.2.next;
          failures = subst (λ k. CountsFailure k new.failures) so_far.made.failures first.2.failures;
        } in
        (new, subst (λ n. FailsAfter start n new) (sym count) fails, refl)

-- ---- a read past the input

-- the instruction at the program counter is IN
pub reads_next : (m : Machine) (place code port : ℕ) → place ≡ m.state.registers.pc → code ≡ byte_at m.state.memory place → code ≡ 219 → port ≡ byte_at m.state.memory (wrap (place + 1)) → ReadsNext m port
unfolding step_of
reads_next m place code port at is in_code is_port runs =
    let s : State = m.state in
    let found : byte_at s.memory s.registers.pc ≡ 219 = ap (λ n. byte_at s.memory n) (sym at) ∙ sym is ∙ in_code in
    let read : next_byte s ≡ port = ap (λ n. byte_at s.memory (wrap (n + 1))) (sym at) ∙ sym is_port in
    ap (λ (running : Status). (step_by m.script running s).events) runs
    ∙ ap (λ n. (carry_out m.script (form_of n) s).events) found
    ∙ ap (λ n. s.events ++ read_event n (input_value m.script s.events n) ∷ []) read

abbrev first_or : Event → List Event → Event
first_or other [] = other
first_or other (event ∷ events) = event

pub same_last : (events : List Event) (one other : Event) → events ++ one ∷ [] ≡ events ++ other ∷ [] → one ≡ other
same_last [] one other same = ap (first_or one) same
same_last (event ∷ events) one other same = same_last events one other (ap (λ (l : List Event). drop 1 l) same)

module _ (until_dry : Bool) (limit : ℕ) (start new : Machine) (end : End) (run : IsRun limit start end new)
    (same : new.script ≡ start.script)
    (within : until_dry ≡ true → IsWithinInput new.script new.state.events) where
  -- a port that failed at such a read
  comes_to_dry : until_dry ≡ true → end ≡ ends.PortFault → IsAtDry new → ComesToDry limit start new.state.events
  comes_to_dry on is at =
      let stops : IsRun limit start ends.PortFault new = subst (λ (e : End). IsRun limit start e new) is run in
      let value : ℕ = input_value new.script new.state.events at.0 in
      let read : (step_of new.script new.state).events ≡ new.state.events ++ read_event at.0 value ∷ [] =
      at.1 stops.2.status_is in
      let fails : (step_of start.script new.state).events ≡ new.state.events ++ stops.2.next.0 ∷ [] =
      stops.2.next.1 in
      let next : stops.2.next.0 ≡ read_event at.0 value =
      same_last new.state.events stops.2.next.0 (read_event at.0 value)
      (sym fails ∙ ap (λ (script : List (List ℕ)). (step_of script new.state).events) (sym same) ∙ read) in
      record {
        steps = stops.0;
        before_limit = stops.1;
        machine = new;
        stops = stops.2;
        events_are = refl;
        dry = passes start.script new.state.events stops.2.next.0 at.0
            (subst (λ (script : List (List ℕ)). IsWithinInput script new.state.events) same (within on))
            (subst (λ (script : List (List ℕ)). reads_of new.state.events at.0 ≡ length (queue_of script at.0))
            same at.2)
            (ap (λ (e : Event). e.write) next) (ap (λ (e : Event). e.port) next);
      }

  -- how it ended
  pub dry_does : (answer : Option End) → IfSome answer (λ other. other ≡ end) → (answer ≡ None → until_dry ≡ true)
      → (answer ≡ None → (end ≡ ends.PortFault) × IsAtDry new)
      → (until_dry ≡ true → answer ≡ Some ends.PortFault → StaysWithin new)
      → DoesOnMachine until_dry limit start answer new.state.events
  dry_does None same_end on dry failed = (on refl, comes_to_dry (on refl) (dry refl).0 (dry refl).1)
  dry_does (Some other) same_end on dry failed =
      let ended : IsRun limit start other new = subst (λ (e : End). IsRun limit start e new) (sym same_end) run in (
        new,
        ended,
        refl,
        λ wanted. asked_within wanted other ended (λ is. failed wanted (ap (λ (e : End). Some e) is)),
      )
    where
      so_far : until_dry ≡ true → IsWithinInput start.script new.state.events
      so_far wanted =
          subst (λ (script : List (List ℕ)). IsWithinInput script new.state.events) same (within wanted)

      asked_within : until_dry ≡ true → (other : End) → IsRun limit start other new
          → (other ≡ ends.PortFault → StaysWithin new)
          → IsWithinInput start.script (asked_by start.script other new)
      asked_within wanted ends.Halted ended failed = so_far wanted
      asked_within wanted ends.Illegal ended failed = so_far wanted
      asked_within wanted ends.Limit ended failed = so_far wanted
      asked_within wanted ends.PortFault ended failed =
          let adds : AddsEvent new.state.events (step_of new.script new.state).events ended.2.next.0 =
          subst
          (λ (script : List (List ℕ)).
          AddsEvent new.state.events (step_of script new.state).events ended.2.next.0)
          (sym same) ended.2.next.1 in
          let all : IsWithinInput start.script (new.state.events ++ ended.2.next.0 ∷ []) =
          subst (λ (script : List (List ℕ)). IsWithinInput script (new.state.events ++ ended.2.next.0 ∷ [])) same
          (failed refl ended.2.status_is ended.2.next.0 adds) in
          subst (λ (es : List Event). IsWithinInput start.script es) (sym ended.2.next.1) all

  -- where it stands
  pub dry_stands : (answer : Option End) (place : ℕ) → IfSome answer (λ other. other ≡ end)
      → (answer ≡ None → (end ≡ ends.PortFault) × IsAtDry new) → place ≡ stand_of end new
      → StandsAt limit start answer new.state.events place
  dry_stands None place same_end dry is =
      let stops : IsRun limit start ends.PortFault new =
      subst (λ (e : End). IsRun limit start e new) (dry refl).0 run in
      (stops.0, (new, stops.2, refl, subst (λ (e : End). place ≡ stand_of e new) (dry refl).0 is))
  dry_stands (Some other) place same_end dry is = (
    new,
    subst (λ (e : End). IsRun limit start e new) (sym same_end) run,
    refl,
    subst (λ (e : End). place ≡ stand_of e new) (sym same_end) is,
  )

  pub dry_counted : (answer : Option End) (steps : ℕ) → IfSome answer (λ other. other ≡ end)
      → (answer ≡ None → (end ≡ ends.PortFault) × IsAtDry new)
      → CarriesOut limit start (Some end) new.state.events steps
      → CarriesOut limit start answer new.state.events steps
  dry_counted None steps same_end dry counted =
      subst (λ (e : End). CarriesOut limit start (Some e) new.state.events steps) (dry refl).0 counted
  dry_counted (Some other) steps same_end dry counted =
      subst (λ (e : End). CarriesOut limit start (Some e) new.state.events steps) (sym same_end) counted
