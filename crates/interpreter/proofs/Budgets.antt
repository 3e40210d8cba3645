-- How much of its budget a run of a source uses: what is gone at the end of the run of its code.
use Rattle.interpreter.proofs.Prelude.{◌≡◌, ℕ, suc, ◌+◌, ◌-◌, ◌<◌, ◌≤◌, List, [], ◌∷◌, ◌++◌, length, Some, refl, sym, ap, subst, ◌∙◌, arith, find, All, JumpsAreSound, TypedModule, is_main, Placement, State, Stop, Ended, Outside, Run, number_of_main, source_run}
use Rattle.std.proofs.Common.{length-append, zero}
use Rattle.ports.specs.{declared.event.Event.{Event}, Events.{AddsEvent, IsBeginning}}
use Rattle.meaning.specs.{Outcomes.{More}, declared.reason.Reason.{Reason}, internal.Kept.{with_more}}
use Rattle.stack_code.specs.{internal.Code.{program_code}, declared.instruction.Instruction.{Instruction}, internal.Machine.{Machine, Progress, Going, Done}, internal.Run.{stack_run, start_state, start_surroundings}, internal.Simulation.{Adds}}
use Rattle.stack_code.proofs.{Budgets.{LastsOn, Sinks, lasts_run, left_in, more_in, sinks_run, left_within_budget}, Meant.{begins_as_meant, done_as_meant}}
use Rattle.interpreter.specs.Budgets.{IsLeast, Uses, UsesUpTo}

-- a beginning that is one event longer is none
no_longer : (events : List Event) (next : Event) (all : List Event) → IsBeginning (events ++ next ∷ []) all
    → IsBeginning all events → ⊥
no_longer events next all longer back =
    let one : length all ≡ length (events ++ next ∷ []) + length longer.0 =
    ap length longer.1 ∙ length-append (events ++ next ∷ []) longer.0 in
    let two : length events ≡ length all + length back.0 = ap length back.1 ∙ length-append all back.0 in
    let three : length (events ++ next ∷ []) ≡ length events + 1 = length-append events (next ∷ []) in
    omega (arith, one, two, three)

abbrev end_in : Progress → Stop
end_in (Going m) = More
end_in (Done why s) = why

abbrev events_in : Progress → List Event
events_in (Going m) = m.state.events
events_in (Done why s) = s.events

module _ (modules : List TypedModule) (placement : Placement) (room : ℕ) (memory : List ℕ)
    (script : List (List ℕ)) (events : List Event) (main : TypedModule)
    (found : find is_main modules ≡ Some main) (sound : All JumpsAreSound modules)
    (code : List Instruction)
    (is_code : code ≡ program_code modules placement (number_of_main modules) main) where
  abbrev runs : (budget : ℕ) → Run
  runs budget = source_run modules placement room memory script events budget

  abbrev code_run : (budget count : ℕ) → Progress
  code_run budget count =
      stack_run code main (start_surroundings modules placement script (number_of_main modules) room)
      (start_state modules placement memory events budget) count

  means : (budget count : ℕ) (why : Stop) (s : State) → code_run budget count ≡ Done why s
      → runs budget ≡ record { end = why; events = s.events }
  means budget count why s is =
      done_as_meant modules placement room memory script events budget main found sound code
      is_code count why s is

  begins : (budget count : ℕ) (m : Machine) → code_run budget count ≡ Going m
      → IsBeginning m.state.events (runs budget).events
  begins budget count m is =
      begins_as_meant modules placement room memory script events budget main found sound
      code is_code count m is

  sinks : (budget count : ℕ) (progress : Progress) → code_run budget count ≡ progress → Sinks budget progress
  sinks budget count progress is =
      subst (λ p. Sinks budget p) is
      (sinks_run code main (start_surroundings modules placement script (number_of_main modules) room)
      (start_state modules placement memory events budget) count)

  -- the same run with less
  lasts : (budget less more count : ℕ) → 1 ≤ more → less + more ≡ budget
      → LastsOn more (code_run less count) (code_run budget count)
  lasts budget less more count some sum =
      subst (λ all. LastsOn more (code_run less count) (code_run all count)) sum
      (lasts_run more some code main (start_surroundings modules placement script (number_of_main modules)
      room) (start_state modules placement memory events less) count)

  -- with less than was used it wants more by then
  wants_below : (budget less count : ℕ) (progress : Progress) → code_run budget count ≡ progress
      → less < budget - left_in progress → (s : State) × (code_run less count ≡ Done More s) × Adds s progress
  wants_below budget less count progress is within =
      by (code_run less count) refl
      (lasts budget less (budget - less) count (omega (arith, within)) (omega (arith, within)))
    where
      too_much : (left : ℕ) → left_in progress ≡ left + (budget - less) → ⊥
      too_much left same = omega (arith, same, within)

      by : (one : Progress) → code_run less count ≡ one → LastsOn (budget - less) one (code_run budget count)
          → (s : State) × (code_run less count ≡ Done More s) × Adds s progress
      by (Going n) one same = absurd (too_much n.state.budget (ap left_in (sym is ∙ same)))
      by (Done Ended s) one same = absurd (too_much s.budget (ap left_in (sym is ∙ same)))
      by (Done (Outside reason) s) one same = absurd (too_much s.budget (ap left_in (sym is ∙ same)))
      by (Done More s) one wants = (s, one, subst (λ p. Adds s p) is wants.0)

  -- with what was used it comes as far
  comes_as_far : (budget count left : ℕ) (progress : Progress) (P : ℕ → Type 0)
      → code_run budget count ≡ progress → left_in progress ≡ left → P budget
      → ((less : ℕ) (n : Machine) → code_run less count ≡ Going n
      → progress ≡ Going (more_in left n) → P less)
      → ((less : ℕ) (s : State) → code_run less count ≡ Done Ended s
      → progress ≡ Done Ended (with_more left s) → P less)
      → ((less : ℕ) (reason : Reason) (s : State) → code_run less count ≡ Done (Outside reason) s
      → progress ≡ Done (Outside reason) (with_more left s) → P less)
      → P (budget - left)
  comes_as_far budget count zero progress P is none here going ended outside = subst P (omega arith) here
  comes_as_far budget count (suc rest) progress P is some here going ended outside =
      by (code_run (budget - suc rest) count) refl
      (lasts budget (budget - suc rest) (suc rest) count (omega arith) sum)
    where
      within : left_in progress ≤ budget
      within = left_within_budget budget progress (sinks budget count progress is)

      sum : (budget - suc rest) + suc rest ≡ budget
      sum = let e = within in omega (arith, e, some)

      by : (one : Progress) → code_run (budget - suc rest) count ≡ one
          → LastsOn (suc rest) one (code_run budget count) → P (budget - suc rest)
      by (Going n) one same = going (budget - suc rest) n one (sym is ∙ same)
      by (Done Ended s) one same = ended (budget - suc rest) s one (sym is ∙ same)
      by (Done (Outside reason) s) one same = outside (budget - suc rest) reason s one (sym is ∙ same)
      by (Done More s) one wants =
          let less : left_in progress < suc rest = subst (λ p. left_in p < suc rest) is wants.1 in
          absurd (omega (arith, less, some))

  least_to_end : (budget count : ℕ) (why : Stop) (s : State) → (why ≡ More → ⊥)
      → code_run budget count ≡ Done why s → IsLeast (λ less. (runs less).end ≡ why) (budget - s.budget)
  least_to_end budget count why s other is = record {
    here = comes_as_far budget count s.budget (Done why s) (λ less. (runs less).end ≡ why) is refl
        (ap (λ (r : Run). r.end) (means budget count why s is))
        (λ less n one same. absurd (bad n same))
        (λ less t one same. ap (λ (r : Run). r.end) (means less count Ended t one) ∙ sym (ap end_in same))
        (λ less reason t one same. ap (λ (r : Run). r.end) (means less count (Outside reason) t one)
        ∙ sym (ap end_in same));
    below = λ less within ends.
        let wants = wants_below budget less count (Done why s) is within in
        other (sym ends ∙ ap (λ (r : Run). r.end) (means less count More wants.0 wants.1));
  }
    where
      bad : (n : Machine) → Done why s ≡ Going (more_in s.budget n) → ⊥
      bad n same = cc

  -- what is gone at the end was used
  pub used_to_end : (budget count : ℕ) (why : Stop) (s : State) → code_run budget count ≡ Done why s
      → Uses runs budget why (budget - s.budget)
  used_to_end budget count More s is =
      let none : s.budget ≡ 0 = sinks budget count (Done More s) is in omega (arith, none)
  used_to_end budget count Ended s is = least_to_end budget count Ended s (λ h. cc) is
  used_to_end budget count (Outside reason) s is = least_to_end budget count (Outside reason) s (λ h. cc) is

  module _ (budget count left : ℕ) (before after : Machine) (so_far : List Event) (next : Event)
      (going : code_run budget count ≡ Going before) (same : before.state.events ≡ so_far)
      (left_is : before.state.budget ≡ left)
      (onward : code_run budget (suc count) ≡ Going after) (adds : AddsEvent so_far after.state.events next)
      (left_after : after.state.budget ≡ left) where
    -- an event of the code is one of the source
    pub comes_next : IsBeginning (so_far ++ next ∷ []) (runs budget).events
    comes_next =
        subst (λ es. IsBeginning es (runs budget).events) adds (begins budget (suc count) after onward)

    -- and what is gone then was used up to it
    pub used_to_event : UsesUpTo runs (so_far ++ next ∷ []) (budget - left)
    used_to_event = record {
      here = comes_as_far budget (suc count) left (Going after)
          (λ less. IsBeginning (so_far ++ next ∷ []) (runs less).events) onward left_after comes_next
          (λ less n one is. subst (λ es. IsBeginning es (runs less).events) (sym (grown n is) ∙ adds)
          (begins less (suc count) n one))
          (λ less s one is. absurd (ends_not Ended (with_more left s) is))
          (λ less reason s one is. absurd (ends_not (Outside reason) (with_more left s) is));
      below = λ less within comes.
          let wants = wants_below budget less count (Going before) going (omega (arith, within, left_is)) in
          no_longer so_far next wants.0.events
          (subst (λ (r : Run). IsBeginning (so_far ++ next ∷ []) r.events)
          (means less count More wants.0 wants.1) comes)
          (subst (λ es. IsBeginning wants.0.events es) same wants.2);
    }
      where
        grown : (n : Machine) → Going after ≡ Going (more_in left n) → after.state.events ≡ n.state.events
        grown n is = ap events_in is

        ends_not : (why : Stop) (s : State) → Going after ≡ Done why s → ⊥
        ends_not why s is = cc
