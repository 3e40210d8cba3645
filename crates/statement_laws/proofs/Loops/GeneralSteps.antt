-- The step of an iterative DO in its general form does what it means, in each of its forms.
use Rattle.statement_laws.proofs.Prelude.{◌≡◌, ℕ, ◌*◌, ◌<◌, ◌≤◌, Bool, true, false, not, ◌&&◌, nat_lt, if◌then◌else◌, List, [], ◌∷◌, ◌++◌, map, Option, Some, None, refl, sym, ap, subst, ◌∙◌, arith, IfSome, ltb-true, ScalarType, Byte, Address, height_of_optional, type_of, TypedExpression, TypesHold, step_value, value, SourceState, Gave, then_do, Onward, values_of, Carry, NotZero, Zero, Accumulate, Dad, Inr, Inx, MovToMemory, Xchg, M, Add, AddWithCarry, Or, De, Hl, A, D, E, JumpWhere, LoadPair, StoreHl, ExpressionNumber, Range, Location, Place, Iteration, IsOptional, IsNoValue, IsSomeValue, Facts, LabelNumber, copy, load, set, with_register, Site, known, number, place_in_memory, scalar_of, Counter, Planned, whole, counts_by_one, counter_place, add_de_steps, add_steps, count_at_hl_steps, count_steps, is_byte, is_byte_type, loop_labels, step_in_de_steps, step_steps, sum_of_byte_steps, sum_of_word_steps, add_byte_steps, add_word_to_byte_steps, jump, nth_label, part, Here, load_word_steps, site_of, knowing, nodes_in, number_means, does_same, BodyContext, IsSoundBody, same_given}
use Rattle.treecode.specs.declared.place.Location.TheVariants as locations
use Rattle.steps8080.specs.declared.step.Step.TheVariants as steps
use Rattle.steps8080.specs.declared.step.Task.TheVariants as tasks
use Rattle.statements8080.specs.declared.plan.Planned.TheVariants as planned
use Rattle.statements8080.specs.internal.Plans.{plain, word}
use Rattle.statement_laws.proofs.Assignments.Assigned.{scalar_there}
use Rattle.statement_laws.proofs.Loops.CountedVariables.{IsCounted}
use Rattle.statement_laws.proofs.Loops.GeneralParts.{AreCode, StepDoes, all_code, both_code, run_parted}
use Rattle.statement_laws.proofs.Loops.IterateHeads.{one_step}
use Rattle.statement_laws.proofs.Loops.KnownLoops.{at_site, counter_for}
use Rattle.statement_laws.proofs.Loops.LoopCode.{Steps, address_step}
use Rattle.statement_laws.proofs.Loops.LoopEnds.{Iterates}
use Rattle.statement_laws.proofs.Loops.LoopFrameSums.{add_de_in_frame, high_sum_code}
use Rattle.statement_laws.proofs.Loops.LoopMeaning.{stepped_with, stepped_with_is}
use Rattle.statement_laws.proofs.Loops.LoopSteps.{count_byte, count_word}
use Rattle.statement_laws.proofs.Loops.LoopSums.{HasAdded, add_byte, add_word_to_byte}
use Rattle.statement_laws.proofs.Loops.LoopTests.{byte_step, word_step}
use Rattle.statement_laws.proofs.Loops.LoopTurns.{Loop, after_list}
use Rattle.statement_laws.proofs.Loops.LoopWordSums.{add_de_in_memory, comes_to_de, to_de}
use Rattle.statement_laws.proofs.FirstSteps.{Stand}
use Rattle.statement_laws.proofs.Loops.PlannedParts.{word_parted}

-- how the value of a step comes into DE
abbrev in_de : Option Place → (step : ExpressionNumber) → List Planned
in_de (Some place) step = word (LoadPair De) place ∷ []
in_de None step = part (tasks.Word step) 0 ∷ plain Xchg ∷ []

in_de_is : (site : Site) (step : ExpressionNumber) → step_in_de_steps site step ≡ in_de (known site step) step
in_de_is site step = by (known site step)
  where
    by : (found : Option Place)
        → elim found as (λ (found : Option Place). List Planned) [
          | Some place ↦ word (LoadPair De) place ∷ []
          | None ↦ part (tasks.Word step) 0 ∷ plain Xchg ∷ []
        ] ≡ in_de found step
    by (Some place) = refl
    by None = refl

in_de_is_code : (found : Option Place) (step : ExpressionNumber) → AreCode (in_de found step)
in_de_is_code (Some place) step = (tt, tt)
in_de_is_code None step = (tt, (tt, tt))

add_de_is_code : (place : Option Place) (counter : Counter) (end : LabelNumber)
    → AreCode (add_de_steps place counter end)
unfolding sum_of_word_steps
add_de_is_code (Some place) counter end = (tt, (tt, (tt, (tt, tt))))
add_de_is_code None counter end = (tt, (tt, (tt, (tt, (tt, (tt, (tt, (tt, (tt, tt)))))))))

count_is_code : (scalar : ScalarType) (counter : Counter) (first : ℕ)
    → AreCode (part (tasks.Address counter.reference) 0 ∷ count_at_hl_steps scalar (loop_labels first))
count_is_code Byte counter first = (tt, (tt, (tt, tt)))
count_is_code Address counter first = (tt, (tt, (tt, (tt, (tt, (tt, tt))))))

add_is_code : (scalar : ScalarType) (site : Site) (counter : Counter)
    (step : ExpressionNumber) (end : LabelNumber)
    → AreCode (add_steps scalar site counter step end)
unfolding sum_of_byte_steps
add_is_code Byte site counter step end = by (is_byte site step)
  where
    by : (byte : Bool)
        → AreCode (if byte then add_byte_steps counter step end
        else add_word_to_byte_steps counter step end)
    by true = (tt, (tt, (tt, (tt, (tt, tt)))))
    by false = (tt, (tt, (tt, (tt, (tt, (tt, (tt, (tt, (tt, (tt, (tt, tt)))))))))))
add_is_code Address site counter step end =
    both_code (step_in_de_steps site step) (add_de_steps (counter_place counter) counter end)
    (subst AreCode (sym (in_de_is site step)) (in_de_is_code (known site step) step))
    (add_de_is_code (counter_place counter) counter end)

-- the code of a step is code alone
pub step_is_code : (site : Site) (counter : Counter) (step : Option ExpressionNumber) (first : ℕ)
    → AreCode (step_steps site counter step (loop_labels first))
unfolding step_steps
step_is_code site counter None first = count_is_code counter.scalar counter first
step_is_code site counter (Some step) first = by (counts_by_one site (Some step))
  where
    by : (one : Bool)
        → AreCode (if one then count_steps counter (loop_labels first)
        else add_steps counter.scalar site counter step (nth_label first 2))
    by true = count_is_code counter.scalar counter first
    by false = add_is_code counter.scalar site counter step (nth_label first 2)

-- what is true of a step that is added
module _
    {at : BodyContext} (loop : Loop at) (facts : Facts) (first : ℕ)
    (sound : IsSoundBody at)
    (enough : 2 ≤ loop.need)
  where
    abbrev site : Site
    site = knowing (site_of at.body) facts

    abbrev counter : (scalar : ScalarType) → IsCounted at.context (loop.head).variable scalar → Counter
    counter scalar counted = counter_for at (loop.head).variable scalar (Some counted.location)

    -- counting by 1
    pub count_does :
        {here after : Here} {waiting : Option Facts} {from to : ℕ} (jumps : Bool)
        (scalar : ScalarType) (same : (loop.head).scalar ≡ scalar)
        (counted : IsCounted at.context (loop.head).variable scalar)
        → ((s : SourceState) → step_value at.context.later at.context.activation.around (loop.head).step s
        ≡ Gave 1 s)
        → (scalar ≡ Address → jumps ≡ true)
        → Stand at here waiting from (count_steps (counter scalar counted) (loop_labels first)) after to
        → StepDoes loop (nth_label first 1) (nth_label first 2) jumps here.facts from after.facts to
    count_does jumps Byte same counted one jumps_is stand limit less ends at_test checks t r
        memory fewer stage =
        count_byte loop limit (nth_label first 2) t r memory
        (record { sound = sound; scalar_is = same; counted = counted; enough = enough; less = less; ends = ends }) one
        (all_code (address_step (loop.head).variable ∷ steps.Plain (Inr M)
        ∷ steps.Jump (JumpWhere Zero) (nth_label first 2) ∷ []) stand)
        fewer stage checks
    count_does jumps Address same counted one jumps_is stand limit less ends at_test checks t r
        memory fewer stage =
        count_word loop limit (nth_label first 1) (nth_label first 2) t r memory
        (record { sound = sound; scalar_is = same; counted = counted; enough = enough; less = less; ends = ends }) one
        (all_code (address_step (loop.head).variable ∷ steps.Plain (Inr M)
        ∷ steps.Jump (JumpWhere NotZero) (nth_label first 1)
        ∷ steps.Plain (Inx Hl) ∷ steps.Plain (Inr M)
        ∷ steps.Jump (JumpWhere Zero) (nth_label first 2) ∷ []) stand)
        fewer stage (at_test (jumps_is refl)) checks

    -- a value that is surely a BYTE
    surely_byte :
        (step : ExpressionNumber) (tree : TypedExpression)
        → HasAdded loop step tree
        → is_byte site step ≡ true
        → (s u : SourceState) (n : ℕ) → value at.context.later at.context.activation.around tree s ≡ Gave n u
        → n < values_of (type_of tree) → n < 256
    surely_byte step tree added byte s u n gave small = by (number site step) refl byte
      where
        by_type : (scalar : ScalarType) → type_of tree ≡ scalar → is_byte_type scalar ≡ true → n < 256
        by_type Byte is byte = subst (λ (one : ScalarType). n < values_of one) is small
        by_type Address is byte = let never : ⊥ = cc in absurd never

        by : (found : Option ℕ) → number site step ≡ found
            → (elim found as (λ (found : Option ℕ). Bool) [ Some known ↦ nat_lt known 256 | None ↦ is_byte_type (scalar_of site step) ]) ≡ true
            → n < 256
        by (Some known) is byte =
            let means = number_means facts known sound.sound added.is added.types
            (ap (λ (one : Site). number (knowing one facts) step) sound.site ∙ is) s in
            let same : n ≡ known = same_given (sym gave ∙ means) in
            let less = ltb-true known 256 byte in
            omega (arith, same, less)
        by None is byte =
            by_type (scalar_of site step) (sym (scalar_there at sound facts step tree added.is)) byte

    -- adding
    pub add_does :
        {here after : Here} {waiting : Option Facts} {from to : ℕ} (jumps : Bool)
        (scalar : ScalarType) (same : (loop.head).scalar ≡ scalar)
        (counted : IsCounted at.context (loop.head).variable scalar)
        (step : ExpressionNumber) (tree : TypedExpression)
        → HasAdded loop step tree
        → Stand at here waiting from (add_steps scalar site (counter scalar counted) step (nth_label first 2))
        after to
        → StepDoes loop (nth_label first 1) (nth_label first 2) jumps here.facts from after.facts to
    unfolding sum_of_byte_steps sum_of_word_steps
    add_does {here = here} {after = after} {waiting = waiting} {from = from} {to = to} jumps Byte same counted
        step tree added stand =
        by (is_byte site step) refl stand
      where
        by : (byte : Bool) → is_byte site step ≡ byte
            → Stand at here waiting from
            (if byte then add_byte_steps (counter Byte counted) step (nth_label first 2)
            else add_word_to_byte_steps (counter Byte counted) step (nth_label first 2)) after to
            → StepDoes loop (nth_label first 1) (nth_label first 2) jumps here.facts from after.facts to
        by true byte stand limit less ends at_test checks t r memory fewer stage =
            add_byte loop limit step tree (nth_label first 2) t r memory
            (record { sound = sound; scalar_is = same; counted = counted; enough = enough; less = less; ends = ends }) added
            (surely_byte step tree added byte)
            (all_code (byte_step step ∷ address_step (loop.head).variable ∷ steps.Plain (Accumulate Add M)
            ∷ steps.Plain (MovToMemory A)
            ∷ steps.Jump (JumpWhere Carry) (nth_label first 2) ∷ []) stand)
            fewer stage checks
        by false byte stand limit less ends at_test checks t r memory fewer stage =
            add_word_to_byte loop limit step tree (nth_label first 2) t r memory
            (record { sound = sound; scalar_is = same; counted = counted; enough = enough; less = less; ends = ends }) added
            (all_code (word_step step ∷ steps.Plain Xchg ∷ address_step (loop.head).variable
            ∷ steps.Plain (copy A E)
            ∷ steps.Plain (Accumulate Add M) ∷ steps.Plain (MovToMemory A) ∷ steps.Plain (set A 0)
            ∷ steps.Plain (with_register AddWithCarry D)
            ∷ steps.Jump (JumpWhere Carry) (nth_label first 2) ∷ steps.Plain (with_register Or A)
            ∷ steps.Jump (JumpWhere NotZero) (nth_label first 2) ∷ []) stand)
            fewer stage checks
    add_does {here = here} {after = after} {waiting = waiting} {from = from} {to = to} jumps Address same
        counted step tree added stand =
        by counted.location refl
        (subst (λ (code : List Planned). Stand at here waiting from
        (code ++ add_de_steps (place_in_memory (Some counted.location)) (counter Address counted)
        (nth_label first 2)) after to)
        (in_de_is site step) stand)
      where
        -- the code by which the value comes into DE
        de_code : {last : Here} {middle : ℕ} (found : Option Place)
            → Stand at here waiting from (in_de found step) last middle
            → Steps at.context here.facts from (to_de found step) last.facts middle
        de_code (Some place) stand = all_code (steps.Word (LoadPair De) place ∷ []) stand
        de_code None stand = all_code (word_step step ∷ steps.Plain Xchg ∷ []) stand

        value_is : (t : SourceState)
            → after_list loop Onward t
            ≡ then_do (value at.context.later at.context.activation.around tree t) (stepped_with loop Address)
        value_is t =
            stepped_with_is loop Address t same
            ∙ ap (λ (one : Option TypedExpression). then_do
            (step_value at.context.later at.context.activation.around one t)
            (stepped_with loop Address)) added.is_step

        known_there : known (knowing at.context.site facts) step ≡ known site step
        known_there = ap (λ (one : Site). known (knowing one facts) step) sound.site

        by : (location : Location) → counted.location ≡ location
            → Stand at here waiting from
            (in_de (known site step) step ++ add_de_steps (place_in_memory (Some location))
            (counter Address counted) (nth_label first 2)) after to
            → StepDoes loop (nth_label first 1) (nth_label first 2) jumps here.facts from after.facts to
        by (locations.Static place) lies stand limit less ends at_test checks t r memory fewer stage =
            let parts = run_parted (in_de (known site step) step)
            (planned.LoadWord (whole (loop.head).variable) ∷ plain (Dad De) ∷ word StoreHl place
            ∷ jump (JumpWhere Carry) (nth_label first 2) ∷ [])
            here from (in_de_is_code (known site step) step) stand in
            let loaded = word_parted parts.rest in
            does_same _ (value_is t)
            (comes_to_de loop facts (known site step) step tree (stepped_with loop Address) t r memory
            sound added known_there
            (de_code (known site step) parts.first) stage
            (λ n u now memory_now de spent there.
            add_de_in_memory loop limit n (nth_label first 2) place u now memory_now
            (record { sound = sound; scalar_is = same; counted = counted; enough = enough; less = less; ends = ends }) lies de
            (at_site (λ one. load_word_steps one (whole (loop.head).variable)) sound loaded.first)
            (all_code (steps.Plain (Dad De) ∷ steps.Word StoreHl place
            ∷ steps.Jump (JumpWhere Carry) (nth_label first 2) ∷ []) loaded.rest)
            (omega (arith, spent, fewer)) there checks))
        by (locations.Frame variable offset) lies stand limit less ends at_test checks t r
            memory fewer stage =
            let parts = run_parted (in_de (known site step) step)
            (map planned.Code (address_step (loop.head).variable ∷ steps.Plain (load A)
            ∷ steps.Plain (with_register Add E) ∷ steps.Plain (MovToMemory A)
            ∷ high_sum_code (nth_label first 2)))
            here from (in_de_is_code (known site step) step) stand in
            does_same _ (value_is t)
            (comes_to_de loop facts (known site step) step tree (stepped_with loop Address) t r memory
            sound added known_there
            (de_code (known site step) parts.first) stage
            (λ n u now memory_now de spent there.
            add_de_in_frame loop limit n (nth_label first 2) u now memory_now
            (record { sound = sound; scalar_is = same; counted = counted; enough = enough; less = less; ends = ends }) de
            (all_code (address_step (loop.head).variable ∷ steps.Plain (load A)
            ∷ steps.Plain (with_register Add E) ∷ steps.Plain (MovToMemory A)
            ∷ high_sum_code (nth_label first 2)) parts.rest)
            (omega (arith, spent, fewer)) there checks))

-- the step does what it means
pub step_does :
    {at : BodyContext} (loop : Loop at) (head : Iteration) (list : Range) (facts : Facts) (first : ℕ)
    {here after : Here} {waiting : Option Facts} {from to : ℕ}
    → (iterates : Iterates at loop head list)
    → Stand at here waiting from
    (step_steps (knowing (site_of at.body) facts)
    (counter_for at (loop.head).variable (loop.head).scalar (Some (iterates.counted).location)) head.step
    (loop_labels first)) after to
    → StepDoes loop (nth_label first 1) (nth_label first 2)
    (counts_by_one (knowing (site_of at.body) facts) head.step && not (is_byte_type (loop.head).scalar))
    here.facts from after.facts to
unfolding step_steps
step_does {at = at} loop head list facts first {here = here} {after = after} {waiting = waiting} {from = from}
    {to = to} iterates =
    by head.step (loop.head).step refl refl (iterates.is).step iterates.step_types iterates.step_fits
  where
    site_there : Site
    site_there = knowing (site_of at.body) facts

    own : Counter
    own = counter_for at (loop.head).variable (loop.head).scalar (Some (iterates.counted).location)

    need_is : 2 ≤ loop.need
    need_is = let enough = iterates.enough in omega (arith, enough)

    to_test : (scalar : ScalarType) (one : Bool) → one ≡ true → scalar ≡ Address
        → (one && not (is_byte_type scalar)) ≡ true
    to_test scalar one is same =
        ap (λ (b : Bool). b && not (is_byte_type scalar)) is
        ∙ ap (λ (scalar : ScalarType). not (is_byte_type scalar)) same

    ones : counts_by_one site_there head.step ≡ true
        → (s : SourceState) → step_value at.context.later at.context.activation.around (loop.head).step s
        ≡ Gave 1 s
    ones one = one_step at facts iterates.sound (iterates.is).step iterates.step_types one

    by_one : (step : ExpressionNumber) (tree : TypedExpression) (one : Bool)
        → counts_by_one site_there (Some step) ≡ one
        → head.step ≡ Some step
        → HasAdded loop step tree
        → Stand at here waiting from
        (if one then count_steps own (loop_labels first) else add_steps (loop.head).scalar site_there own step
        (nth_label first 2)) after to
        → StepDoes loop (nth_label first 1) (nth_label first 2)
        (counts_by_one site_there head.step && not (is_byte_type (loop.head).scalar))
        here.facts from after.facts to
    by_one step tree true is planned_is added stand =
        let one_is : counts_by_one site_there head.step ≡ true =
        ap (counts_by_one site_there) planned_is ∙ is in
        count_does loop facts first iterates.sound need_is
        (counts_by_one site_there head.step && not (is_byte_type (loop.head).scalar)) (loop.head).scalar
        refl iterates.counted
        (ones one_is) (to_test (loop.head).scalar (counts_by_one site_there head.step) one_is) stand
    by_one step tree false is planned_is added stand =
        add_does loop facts first iterates.sound need_is
        (counts_by_one site_there head.step && not (is_byte_type (loop.head).scalar)) (loop.head).scalar
        refl iterates.counted
        step tree added stand

    by : (step : Option ExpressionNumber) (tree : Option TypedExpression) → head.step ≡ step
        → (loop.head).step ≡ tree
        → IsOptional (nodes_in at.context) at.context.storage step tree
        → IfSome tree (TypesHold at.context.typed at.context.within)
        → 2 * height_of_optional tree ≤ loop.need
        → Stand at here waiting from (step_steps site_there own head.step (loop_labels first)) after to
        → StepDoes loop (nth_label first 1) (nth_label first 2)
        (counts_by_one site_there head.step && not (is_byte_type (loop.head).scalar))
        here.facts from after.facts to
    by None None planned_is tree_is IsNoValue types fits stand =
        let one_is : counts_by_one site_there head.step ≡ true = ap (counts_by_one site_there) planned_is in
        count_does loop facts first iterates.sound need_is
        (counts_by_one site_there head.step && not (is_byte_type (loop.head).scalar)) (loop.head).scalar
        refl iterates.counted
        (ones one_is) (to_test (loop.head).scalar (counts_by_one site_there head.step) one_is)
        (subst (λ (step : Option ExpressionNumber). Stand at here waiting from
        (step_steps site_there own step (loop_labels first)) after to) planned_is stand)
    by (Some step) (Some tree) planned_is tree_is (IsSomeValue is) types fits stand =
        by_one step tree (counts_by_one site_there (Some step)) refl planned_is
        (record { is_step = tree_is; is = is; types = types; fits = fits })
        (subst (λ (step : Option ExpressionNumber). Stand at here waiting from
        (step_steps site_there own step (loop_labels first)) after to) planned_is stand)
    by None (Some tree) planned_is tree_is is types fits stand = elim is [ ]
    by (Some step) None planned_is tree_is is types fits stand = elim is [ ]
