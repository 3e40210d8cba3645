-- An iterative DO in its general form does what it says, and with it each iterative DO.
use Rattle.statement_laws.proofs.Prelude.{◌≡◌, ℕ, ◌≤◌, Bool, true, false, List, Some, None, refl, subst, arith, leb-true, Range, Iteration, Facts, label_of, Site, knowing, Counter, Planned, general_steps, test_of, Here, site_of, Does, at_place, loaded_in, BodyContext, IsSoundBody, StatementStands}
use Rattle.treecode.specs.declared.statement.LoopHead.TheVariants as heads
use Rattle.treecode.specs.declared.statement.Statement.TheVariants as statements
use Rattle.statement_laws.proofs.Loops.EnteredLoops.{enters_surely, enters_then, whole_loop}
use Rattle.statement_laws.proofs.Loops.FirstStored.{FirstThere, first_stored}
use Rattle.statement_laws.proofs.Loops.GeneralLoops.{FormsDo, GeneralEntry, general_stands}
use Rattle.statement_laws.proofs.Loops.GeneralSteps.{step_does, step_is_code}
use Rattle.statement_laws.proofs.Loops.GeneralTests.{test_does, test_is_code}
use Rattle.statement_laws.proofs.Loops.IterateHeads.{counter_is, entry_value, number_of_head}
use Rattle.statement_laws.proofs.Loops.Iterated.{GeneralDoes, iterate_does}
use Rattle.statement_laws.proofs.Loops.KnownLoops.{counter_for}
use Rattle.statement_laws.proofs.Loops.LoopEnds.{Iterates}
use Rattle.statement_laws.proofs.Loops.LoopTests.{HasLast}
use Rattle.statement_laws.proofs.Loops.LoopTurns.{Loop, Out}
use Rattle.statement_laws.proofs.Simple.{FormDoes}
use Rattle.statement_laws.proofs.Loops.PlaceTests.{place_tests_do}
use Rattle.statement_laws.proofs.FirstSteps.{Stand, going}

-- the counter of a loop
abbrev own_counter : {at : BodyContext} (loop : Loop at) (head : Iteration) (list : Range)
    → Iterates at loop head list → Counter
own_counter {at = at} loop head list iterates =
    counter_for at (loop.head).variable (loop.head).scalar (Some (iterates.counted).location)

-- the step and the test of a loop do what they mean
forms_do :
    {at : BodyContext} (loop : Loop at) (head : Iteration) (list : Range) (facts : Facts) (first : ℕ)
    (iterates : Iterates at loop head list)
    → FormsDo loop (knowing (site_of at.body) facts) (own_counter loop head list iterates) head first
forms_do {at = at} loop head list facts first iterates = record {
  step_is_code =
      step_is_code (knowing (site_of at.body) facts) (own_counter loop head list iterates) head.step first;
  test_is_code =
      test_is_code (own_counter loop head list iterates)
      (test_of (knowing (site_of at.body) facts) (own_counter loop head list iterates) head.last)
      (label_of first);
  step_does = λ stand. step_does loop head list facts first iterates stand;
  test_does = λ stand.
      test_does loop (loop.head).scalar head.last facts (label_of first) iterates.sound refl iterates.counted
      need_is has_last (place_tests_do loop head.last facts (label_of first) iterates.sound need_is has_last)
      stand;
}
  where
    need_is : 2 ≤ loop.need
    need_is = let enough = iterates.enough in omega (arith, enough)

    has_last : HasLast loop head.last
    has_last = record { is = (iterates.is).last; types = iterates.last_types; fits = iterates.last_fits }

-- the general form does what it means
pub general_does : (at : BodyContext) → GeneralDoes at
general_does at loop head list facts label from s r memory iterates budget_is stage
    is_tested is stores entry =
    by is_tested refl
    (subst (λ (counter : Counter). Does (loaded_in at.context) s.budget 1 (at_place from r memory s.events)
    (first_stored loop s)
    (FirstThere loop (general_steps (knowing (site_of at.body) facts) counter head is_tested list label)))
    (counter_is loop head list facts iterates) stores)
  where
    site : Site
    site = knowing (site_of at.body) facts

    others : (tested : Bool) → List Planned
    others tested = general_steps site (own_counter loop head list iterates) head tested list label

    entered : (tested : Bool) (known : Facts) (place : ℕ)
        → Stand at (going true known) None place (others tested) loop.after loop.to
        → GeneralEntry loop tested known place
    entered tested known place stand =
        general_stands loop head list site (own_counter loop head list iterates) tested label
        known place iterates
        (forms_do loop head list facts label iterates) stand

    by : (tested : Bool) → is_tested ≡ tested
        → Does (loaded_in at.context) s.budget 1 (at_place from r memory s.events) (first_stored loop s)
        (FirstThere loop (others is_tested))
        → Does (loaded_in at.context) s.budget 0 (at_place from r memory s.events)
        (whole_loop loop s) (Out loop)
    by true same stores =
        enters_then loop from facts (others is_tested) s r memory stores budget_is stage
        (λ known place u now memory_now stand stored_is less there.
        (entered is_tested known place stand).tested same u now memory_now less there)
    by false same stores =
        let its = entry same in
        let last_is =
        number_of_head facts its.last iterates.sound (iterates.is).last iterates.last_types its.last_is in
        enters_surely loop (loop.head).scalar its.last from facts (others is_tested) s r memory iterates.sound
        refl last_is.0 iterates.counted
        stores budget_is stage
        (λ known place stand.
        let found = entered is_tested known place stand in
        record { facts = found.turn_facts; turns = found.runs same; enters = found.enters same })
        (λ u now memory_now stored_is ready_now steady.
        leb-true _ _
        (entry_value loop head list facts true s u iterates its stored_is stage.ready ready_now steady))

-- each iterative DO does what it says
pub each_iterate_does :
    (at : BodyContext) (before : Facts) (head : Iteration) (list : Range) (label from : ℕ)
    (after : Here) (to : ℕ)
    → IsSoundBody at
    → StatementStands at before (statements.Loop (heads.Count head) list) label from after to
    → FormDoes at before (statements.Loop (heads.Count head) list) from after to
each_iterate_does at before head list label from after to sound stands =
    iterate_does at before head list label from after to sound (general_does at) stands
