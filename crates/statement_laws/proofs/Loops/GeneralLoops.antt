-- Turns of an iterative DO in its general form: where its step and its test do what they mean, so do all
-- turns.
use Rattle.statement_laws.proofs.Prelude.{◌≡◌, ℕ, Bool, true, false, not, ◌&&◌, if◌then◌else◌, List, [], ◌∷◌, ◌++◌, Option, Some, None, refl, sym, subst, arith, Range, Iteration, after_step, Facts, no_facts, Jump, Site, Test, Counter, label_of, nth_label, Planned, counts_by_one, general_begin_steps, general_end_steps, general_steps, is_byte_type, loop_labels, step_steps, test_label_steps, facts_of_test, test_of, test_steps, Here, common, BodyContext}
use Rattle.steps8080.specs.declared.step.Step.TheVariants as steps
use Rattle.statements8080.specs.declared.plan.Planned.TheVariants as planned
use Rattle.statement_laws.proofs.Loops.GeneralParts.{AreCode, LabelParted, RunParted, StepDoes, TestDoes, label_parted, run_parted, weaker_checks}
use Rattle.statement_laws.proofs.Loops.LoopCode.{jump_always}
use Rattle.statement_laws.proofs.Loops.LoopEnds.{EndsKnown, Iterates, ends_known, goes_at_end}
use Rattle.statement_laws.proofs.Loops.LoopRules.{Checks}
use Rattle.statement_laws.proofs.Loops.LoopTests.{Enters}
use Rattle.statement_laws.proofs.Loops.LoopTurns.{Loop, Runs, from_list, turns_do, list_goes}
use Rattle.statement_laws.proofs.Meetings.{first_meets, second_meets}
use Rattle.statement_laws.proofs.FirstSteps.{ListFirst, Stand, again_first, going, jumped_first, list_first}
use Rattle.statement_laws.proofs.Loops.PlannedParts.{code_parted}
use Rattle.statement_laws.proofs.Loops.CountedBytes.{Goes}

-- what the steps of a loop are, by what its code is: those of the step and of the test are code, and do what
-- they mean
pub record FormsDo
    {at : BodyContext} (loop : Loop at) (site : Site) (counter : Counter) (head : Iteration)
    (first : ℕ) : Type 0 where
  pub step_is_code : AreCode (step_steps site counter head.step (loop_labels first))
  pub test_is_code : AreCode (test_steps counter (test_of site counter head.last) (label_of first))
  pub step_does : {here last : Here} {waiting : Option Facts} {from to : ℕ}
      → Stand at here waiting from (step_steps site counter head.step (loop_labels first)) last to
      → StepDoes loop (nth_label first 1) (nth_label first 2)
      (counts_by_one site head.step && not (is_byte_type counter.scalar)) here.facts from last.facts to
  pub test_does : {here last : Here} {waiting : Option Facts} {from to : ℕ}
      → Stand at here waiting from (test_steps counter (test_of site counter head.last) (label_of first)) last
      to
      → TestDoes loop (facts_of_test counter (test_of site counter head.last)) (label_of first)
      here.facts from last.facts to

-- the turns, from their place on
pub record GeneralTurns
    {at : BodyContext} (loop : Loop at) (waiting : Option Facts) (is_tested : Bool) (first : ℕ)
    (facts : Facts) (from : ℕ) :
    Type 0 where
  pub runs : Runs loop loop.budget from facts (from_list loop)
  pub entered : is_tested ≡ true → (waits : Facts) → waiting ≡ Some waits
      → Checks loop loop.budget waits (at.context.activation.layout.place_of (nth_label first 1).index)

general_turns :
    {at : BodyContext} (loop : Loop at) (head : Iteration) (list : Range) (site : Site)
    (counter : Counter) (first : ℕ)
    (waiting : Option Facts) (is_tested : Bool) (turn_facts : Facts) (from : ℕ)
    → Iterates at loop head list
    → FormsDo loop site counter head first
    → at.context.activation.layout.place_of (label_of first).index ≡ from
    → Enters at (facts_of_test counter (test_of site counter head.last)) turn_facts
    → Stand at (record { facts = turn_facts; goes_on = true }) waiting from
    (planned.List list ∷ (step_steps site counter head.step (loop_labels first)
    ++ ((if counts_by_one site head.step
    && not (is_byte_type counter.scalar) then planned.Code (steps.Mark (nth_label first 1)) ∷ []
    else if is_tested then planned.Meet (nth_label first 1) ∷ [] else [])
    ++ (test_steps counter (test_of site counter head.last) (label_of first)
    ++ (planned.Code (steps.Mark (nth_label first 2)) ∷ planned.Reaches true ∷ []))))) loop.after loop.to
    → GeneralTurns loop waiting is_tested first turn_facts from
general_turns {at = at} loop head list site counter first waiting is_tested turn_facts from iterates forms
    is_at enters stand = record {
      runs = all_runs;
      entered = λ tested waits waiting_is.
          let entered = label.entered tested in
          subst (λ (place : ℕ). Checks loop loop.budget waits place) (sym entered.0)
          (weaker_checks loop loop.budget waits (label.found).facts stepped.middle (entered.1 waits waiting_is)
          (checks loop.budget all_runs));
    }
  where
    test : Test
    test = test_of site counter head.last

    after_test : List Planned
    after_test = planned.Code (steps.Mark (nth_label first 2)) ∷ planned.Reaches true ∷ []

    after_label : List Planned
    after_label = test_steps counter test (label_of first) ++ after_test

    is_counted : Bool
    is_counted = counts_by_one site head.step && not (is_byte_type counter.scalar)

    after_step_code : List Planned
    after_step_code =
        (if is_counted then planned.Code (steps.Mark (nth_label first 1)) ∷ []
        else if is_tested then planned.Meet (nth_label first 1) ∷ [] else []) ++ after_label

    listed : ListFirst at (record { facts = turn_facts; goes_on = true }) waiting from list
        (step_steps site counter head.step (loop_labels first) ++ after_step_code) loop.after loop.to
    listed = list_first stand

    stepped : RunParted at listed.after waiting listed.middle
        (step_steps site counter head.step (loop_labels first)) after_step_code loop.after loop.to
    stepped =
        run_parted (step_steps site counter head.step (loop_labels first)) after_step_code listed.after
        listed.middle forms.step_is_code listed.rest

    label : LabelParted at (going listed.after.goes_on stepped.known) waiting stepped.middle is_counted
        is_tested (nth_label first 1) after_label
        loop.after loop.to
    label = label_parted is_counted is_tested (nth_label first 1) after_label stepped.rest

    tested : RunParted at label.found waiting stepped.middle (test_steps counter test (label_of first))
        after_test loop.after loop.to
    tested =
        run_parted (test_steps counter test (label_of first)) after_test label.found stepped.middle
        forms.test_is_code label.rest

    ends : EndsKnown loop true (nth_label first 2) tested.known tested.middle
    ends = ends_known loop true (nth_label first 2) (going label.found.goes_on tested.known)
        tested.middle tested.rest

    ends_there : (limit : ℕ) → Goes loop limit no_facts
        (at.context.activation.layout.place_of (nth_label first 2).index)
    ends_there limit =
        goes_at_end loop limit no_facts (at.context.activation.layout.place_of (nth_label first 2).index)
        (ends.after refl) (ends.label refl)

    checks : (limit : ℕ) → Runs loop limit from turn_facts (from_list loop)
        → Checks loop limit (label.found).facts stepped.middle
    checks limit claim =
        forms.test_does tested.first limit turn_facts
        (subst (λ (place : ℕ). Runs loop limit place turn_facts (from_list loop)) (sym is_at) claim)
        enters (ends.goes limit)

    all_runs : Runs loop loop.budget from turn_facts (from_list loop)
    all_runs =
        turns_do loop from turn_facts
        (λ limit less claim t r memory below stage.
        list_goes loop iterates.bound list turn_facts listed.after from listed.middle t r memory
        listed.does iterates.list_is
        iterates.list_types iterates.list_stands iterates.list_fits (omega (arith, below, less)) stage
        (λ goes_on u now memory_now spent there.
        forms.step_does stepped.first limit less (ends_there limit)
        (λ counts.
        let counted = label.counted counts in
        subst (λ (place : ℕ). Checks loop limit no_facts place) (sym counted.0)
        (weaker_checks loop limit no_facts (label.found).facts stepped.middle counted.1 (checks limit claim)))
        (weaker_checks loop limit stepped.known (label.found).facts stepped.middle (label.falls goes_on)
        (checks limit claim))
        u now memory_now (omega (arith, spent, below)) there))
        loop.budget (omega arith)

-- where a loop is entered: at its test, or at its first turn
pub record GeneralEntry {at : BodyContext} (loop : Loop at) (is_tested : Bool) (facts : Facts)
    (from : ℕ) : Type 0 where
  pub tested : is_tested ≡ true → Checks loop loop.budget facts from
  pub turn_facts : Facts
  pub runs : is_tested ≡ false → Runs loop loop.budget from turn_facts (from_list loop)
  pub enters : is_tested ≡ false → Enters at facts turn_facts

-- the general form stands
pub general_stands :
    {at : BodyContext} (loop : Loop at) (head : Iteration) (list : Range) (site : Site)
    (counter : Counter) (is_tested : Bool)
    (first : ℕ) (facts : Facts) (from : ℕ)
    → Iterates at loop head list
    → FormsDo loop site counter head first
    → Stand at (record { facts = facts; goes_on = true }) None from
    (general_steps site counter head is_tested list first) loop.after loop.to
    → GeneralEntry loop is_tested facts from
unfolding general_steps general_begin_steps general_end_steps test_label_steps
general_stands {at = at} loop head list site counter true first facts from iterates forms stand =
    let test : Test = test_of site counter head.last in
    let waits = jumped_first stand in
    let jumped = code_parted (steps.Jump Jump (nth_label first 1) ∷ [])
    (planned.Again (label_of first) (facts_of_test counter test) false
    ∷ planned.List list ∷ (step_steps site counter head.step (loop_labels first)
    ++ ((if counts_by_one site head.step
    && not (is_byte_type counter.scalar) then planned.Code (steps.Mark (nth_label first 1)) ∷ []
    else planned.Meet (nth_label first 1) ∷ [])
    ++ (test_steps counter test (label_of first)
    ++ (planned.Code (steps.Mark (nth_label first 2)) ∷ planned.Reaches true ∷ [])))))
    (record { facts = facts; goes_on = true }) from waits in
    let again = again_first jumped.rest in
    let turns =
    general_turns loop head list site counter first (Some facts) true (facts_of_test counter test)
    jumped.middle iterates forms
    again.lies (λ r memory there. there) again.rest in
    record {
      tested = λ is u now memory_now fewer stage.
          let jumps = jump_always (iterates.sound).sound jumped.first stage in
          after_step jumps.0 (turns.entered refl facts refl u now memory_now fewer stage);
      turn_facts = facts;
      runs = λ is. absurd cc;
      enters = λ is. absurd cc;
    }
general_stands {at = at} loop head list site counter false first facts from iterates forms stand =
    let test : Test = test_of site counter head.last in
    let again = again_first stand in
    let turns =
    general_turns loop head list site counter first None false
    (common facts (facts_of_test counter test)) from iterates forms
    again.lies (λ r memory there. second_meets at.context r memory facts (facts_of_test counter test) there)
    again.rest in
    record {
      tested = λ is. absurd cc;
      turn_facts = common facts (facts_of_test counter test);
      runs = λ is. turns.runs;
      enters = λ is r memory there. first_meets at.context r memory facts (facts_of_test counter test) there;
    }
