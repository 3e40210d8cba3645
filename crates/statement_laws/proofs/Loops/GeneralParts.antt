-- Parts of the general form of an iterative DO: code that stands before other steps, the label of the test,
-- and what is asked of the step and of the test.
use Rattle.statement_laws.proofs.Prelude.{◌≡◌, ℕ, ◌<◌, ◌≤◌, Bool, true, false, if◌then◌else◌, List, [], ◌∷◌, ◌++◌, map, Option, Some, None, sym, subst, SourceState, Onward, Registers, no_facts_hold, Does, at_place, Facts, LabelNumber, Step, no_facts, Planned, Here, arriving, carried_steps, here_after, known_here, met, waiting_after, Know, loaded_in, BodyContext, NonePlanned, StepPlanned}
use Rattle.steps8080.specs.declared.step.Step.TheVariants as steps
use Rattle.statements8080.specs.declared.plan.Planned.TheVariants as planned
use Rattle.statement_laws.proofs.Loops.CountedBytes.{Goes}
use Rattle.statement_laws.proofs.Loops.LoopCode.{Steps, mark_then, steps_over}
use Rattle.statement_laws.proofs.Loops.LoopRules.{Checks}
use Rattle.statement_laws.proofs.Loops.LoopTests.{Enters}
use Rattle.statement_laws.proofs.Loops.LoopTurns.{Loop, Out, Runs, StageAt, after_list, from_list}
use Rattle.statement_laws.proofs.Meetings.{first_meets, second_meets}
use Rattle.statement_laws.proofs.FirstSteps.{Stand, steps_ended, going, meet_first}
use Rattle.statement_laws.proofs.Loops.PlannedParts.{code_parted}

-- a planned step that is code, with no label and no way that ends
abbrev pub IsCode : Planned → Type 0
IsCode (planned.Code step) = Unit {0}
IsCode (planned.LoadByte reference) = Unit {0}
IsCode (planned.LoadWord reference) = Unit {0}
IsCode other = ⊥

abbrev pub AreCode : List Planned → Type 0
AreCode [] = Unit {0}
AreCode (step ∷ others) = IsCode step × AreCode others

pub both_code : (one other : List Planned) → AreCode one → AreCode other → AreCode (one ++ other)
both_code [] other first second = second
both_code (step ∷ one) other first second = (first.0, both_code one other first.1 second)

-- code, and then others
pub record RunParted
    (at : BodyContext) (here : Here) (waiting : Option Facts) (from : ℕ) (run others : List Planned)
    (last : Here) (to : ℕ) :
    Type 0 where
  pub known : Facts
  pub middle : ℕ
  pub first : Stand at here waiting from run (going here.goes_on known) middle
  pub rest : Stand at (going here.goes_on known) waiting middle others last to

pub run_parted :
    {at : BodyContext} {waiting : Option Facts} {last : Here} {to : ℕ} (run others : List Planned)
    (here : Here) (from : ℕ)
    → AreCode run
    → Stand at here waiting from (run ++ others) last to
    → RunParted at here waiting from run others last to
unfolding carried_steps here_after waiting_after
run_parted [] others here from are stand =
    record { known = here.facts; middle = from; first = NonePlanned; rest = stand }
run_parted (planned.Code step ∷ run) others here from are
    (StepPlanned {known = known} {middle = middle} holds code rest) =
    let parts = run_parted run others (going here.goes_on known) middle are.1 rest in
    record { known = parts.known; middle = parts.middle; first = StepPlanned holds code parts.first; rest = parts.rest }
run_parted (planned.LoadByte reference ∷ run) others here from are
    (StepPlanned {known = known} {middle = middle} holds code rest) =
    let parts = run_parted run others (going here.goes_on known) middle are.1 rest in
    record { known = parts.known; middle = parts.middle; first = StepPlanned holds code parts.first; rest = parts.rest }
run_parted (planned.LoadWord reference ∷ run) others here from are
    (StepPlanned {known = known} {middle = middle} holds code rest) =
    let parts = run_parted run others (going here.goes_on known) middle are.1 rest in
    record { known = parts.known; middle = parts.middle; first = StepPlanned holds code parts.first; rest = parts.rest }
run_parted (other ∷ run) others here from are stand = absurd are.0

-- steps of code, and no more
pub all_code :
    {at : BodyContext} {here last : Here} {waiting : Option Facts} {from to : ℕ} (code : List Step)
    → Stand at here waiting from (map planned.Code code ++ []) last to
    → Steps at.context here.facts from code last.facts to
all_code {at = at} {here = here} {from = from} {to = to} code stand =
    let parts = code_parted code [] here from stand in
    let ends = steps_ended parts.rest in
    subst (λ (one : Here). Steps at.context here.facts from code one.facts to) (sym ends.same)
    (subst (λ (n : ℕ). Steps at.context here.facts from code parts.known n) (sym ends.place) parts.first)

-- the place of the test of a loop, where there is a label
pub record LabelParted
    (at : BodyContext) (here : Here) (waiting : Option Facts) (from : ℕ) (is_counted is_tested : Bool)
    (test : LabelNumber)
    (others : List Planned) (last : Here) (to : ℕ) : Type 0 where
  pub found : Here
  pub rest : Stand at found waiting from others last to
  pub falls : here.goes_on ≡ true → Enters at here.facts found.facts
  pub entered : is_tested ≡ true
      → (at.context.activation.layout.place_of test.index ≡ from)
      × ((facts : Facts) → waiting ≡ Some facts → Enters at facts found.facts)
  pub counted : is_counted ≡ true
      → (at.context.activation.layout.place_of test.index ≡ from) × Enters at no_facts found.facts

known_nothing : (at : BodyContext) (facts known : Facts) → no_facts ≡ known → Enters at facts known
known_nothing at facts known same r memory there =
    subst (λ (one : Facts). Know at.context one r memory) same no_facts_hold

falls_met : (at : BodyContext) (here : Here) (waiting : Option Facts) → here.goes_on ≡ true
    → Enters at here.facts (arriving (met (known_here here) waiting)).facts
falls_met at here waiting goes r memory there =
    subst (λ (goes_on : Bool). Know at.context
    (arriving (met (if goes_on then Some here.facts else None) waiting)).facts r memory)
    (sym goes) (by waiting)
  where
    by : (waiting : Option Facts) → Know at.context (arriving (met (Some here.facts) waiting)).facts r memory
    by None = there
    by (Some other) = first_meets at.context r memory here.facts other there

waits_met : (at : BodyContext) (here : Here) (waiting : Option Facts) (facts : Facts) → waiting ≡ Some facts
    → Enters at facts (arriving (met (known_here here) waiting)).facts
waits_met at here waiting facts same r memory there =
    subst (λ (one : Option Facts). Know at.context (arriving (met (known_here here) one)).facts r memory)
    (sym same)
    (by here.goes_on)
  where
    by : (goes_on : Bool) → Know at.context
        (arriving (met (if goes_on then Some here.facts else None) (Some facts))).facts r memory
    by true = second_meets at.context r memory here.facts facts there
    by false = there

pub label_parted :
    {at : BodyContext} {here last : Here} {waiting : Option Facts} {from to : ℕ} (is_counted is_tested : Bool)
    (test : LabelNumber) (others : List Planned)
    → Stand at here waiting from
    ((if is_counted then planned.Code (steps.Mark test) ∷ [] else if is_tested then planned.Meet test
    ∷ [] else []) ++ others)
    last to
    → LabelParted at here waiting from is_counted is_tested test others last to
label_parted {at = at} {here = here} {last = last} {waiting = waiting} {from = from} {to = to} true
    is_tested test others stand =
    let parts = code_parted (steps.Mark test ∷ []) others here from stand in
    let marked = mark_then parts.first in
    let after = steps_over marked.1 in
    record {
      found = going here.goes_on parts.known;
      rest = subst (λ (n : ℕ). Stand at (going here.goes_on parts.known) waiting n others last to)
          (sym after.1) parts.rest;
      falls = λ goes. known_nothing at here.facts parts.known after.0;
      entered = λ tested. (marked.0, λ facts waits. known_nothing at facts parts.known after.0);
      counted = λ counts. (marked.0, known_nothing at no_facts parts.known after.0);
    }
label_parted {at = at} {here = here} {waiting = waiting} false true test others stand =
    let parts = meet_first stand in
    record {
      found = arriving (met (known_here here) waiting);
      rest = parts.rest;
      falls = λ goes. falls_met at here waiting goes;
      entered = λ tested. (parts.lies, λ facts waits. waits_met at here waiting facts waits);
      counted = λ counts. absurd cc;
    }
label_parted {here = here} false false test others stand = record {
  found = here;
  rest = stand;
  falls = λ goes r memory there. there;
  entered = λ tested. absurd cc;
  counted = λ counts. absurd cc;
}

-- What is asked of the code of the test: with the turns, where what is known there follows, and the end, it
-- does what it means.
abbrev pub TestDoes :
    {at : BodyContext} → Loop at → (known : Facts) → (turn : LabelNumber) → (before : Facts) → (from : ℕ)
    → (after : Facts) → (to : ℕ)
    → Type 0
TestDoes {at = at} loop known turn before from after to =
    (limit : ℕ) (turn_facts : Facts)
    → Runs loop limit (at.context.activation.layout.place_of turn.index) turn_facts (from_list loop)
    → Enters at known turn_facts
    → Goes loop limit after to
    → Checks loop limit before from

-- What is asked of the code of the step: with the test that follows, the label of the test where it jumps
-- there, and the end.
abbrev pub StepDoes :
    {at : BodyContext} → Loop at → (test end : LabelNumber) → (jumps_to_test : Bool) → (before : Facts)
    → (from : ℕ) → (after : Facts) → (to : ℕ)
    → Type 0
StepDoes {at = at} loop test end jumps_to_test before from after to =
    (limit : ℕ)
    → limit < loop.budget
    → Goes loop limit no_facts (at.context.activation.layout.place_of end.index)
    → (jumps_to_test ≡ true → Checks loop limit no_facts (at.context.activation.layout.place_of test.index))
    → Checks loop limit after to
    → (t : SourceState) (r : Registers) (memory : List ℕ)
    → t.budget ≤ limit
    → StageAt at loop.need loop.base t before r memory
    → Does (loaded_in at.context) t.budget 0 (at_place from r memory t.events)
    (after_list loop Onward t) (Out loop)

-- with less known
pub weaker_checks :
    {at : BodyContext} (loop : Loop at) (limit : ℕ) (facts found : Facts) (place : ℕ)
    → Enters at facts found
    → Checks loop limit found place
    → Checks loop limit facts place
weaker_checks loop limit facts found place enters checks u now memory fewer stage =
    checks u now memory fewer
    (record { below = stage.below; room = stage.room; ready = stage.ready; known = enters now memory stage.known })
