-- An iterative DO, by the form that its code has.
use Rattle.statement_laws.proofs.Prelude.{◌≡◌, ℕ, Bool, true, false, if◌then◌else◌, List, [], ◌++◌, Option, Some, None, refl, sym, arith, leb-false, value, write_variable, SourceState, as_type, Registers, Range, Iteration, Does, at_place, Facts, Site, number, knowing, Counter, Planned, counter_of, has_a_turn, counts_in_place, first_steps, general_steps, to_known_steps, turns_if_any, turns_steps, Here, site_of, statement_steps, then_again, does_same, loaded_in, BodyContext, IsSoundBody, StatementStands}
use Rattle.treecode.specs.internal.Lowered.{IsCountHead, IsLoop}
use Rattle.treecode.specs.declared.statement.LoopHead.TheVariants as heads
use Rattle.treecode.specs.declared.statement.Statement.TheVariants as statements
use Rattle.statement_laws.proofs.Loops.EnteredLoops.{enters_never, whole_loop}
use Rattle.statement_laws.proofs.Loops.FirstStored.{FirstThere, first_stored, first_stores}
use Rattle.statement_laws.proofs.Loops.IterateHeads.{KnownEntry, entry_value, iterates_so, known_entry, loop_of, number_of_head}
use Rattle.statement_laws.proofs.Loops.LoopEnds.{Iterates, goes_at_end}
use Rattle.statement_laws.proofs.Loops.LoopTurns.{Loop, Out, StageAt, from_test}
use Rattle.statement_laws.proofs.FirstSteps.{Stand, steps_ended, going}
use Rattle.statement_laws.proofs.Simple.{FormDoes}
use Rattle.statement_laws.proofs.Loops.ToKnownLoops.{to_known_enters}

-- The code of a loop is that of counting in general: its last value is no number, or the variable is not
-- counted by 1 where it lies.
pub data IsGeneral (site : Site) (head : Iteration) : Type 0 where
  NoNumber : number site head.last ≡ None → IsGeneral site head
  NotInPlace : counts_in_place site (counter_of site head) head ≡ false → IsGeneral site head

-- a loop does what it means, where what follows its first value is the code of counting in general
abbrev pub GeneralEnters :
    {at : BodyContext} (loop : Loop at) → Iteration → Range → Facts → (label from : ℕ)
    → SourceState → Registers
    → (memory : List ℕ) → Type 0
GeneralEnters {at = at} loop head list facts label from s r memory =
    (is_tested : Bool)
    → IsGeneral (knowing (site_of at.body) facts) head
    → Does (loaded_in at.context) s.budget 1 (at_place from r memory s.events) (first_stored loop s)
    (FirstThere loop
    (general_steps (knowing (site_of at.body) facts) (counter_of (knowing (site_of at.body) facts) head) head
    is_tested list label))
    → (is_tested ≡ false → KnownEntry (knowing (site_of at.body) facts) head true)
    → Does (loaded_in at.context) s.budget 0 (at_place from r memory s.events) (whole_loop loop s) (Out loop)

-- and so does each loop of a body
abbrev pub GeneralDoes : BodyContext → Type 0
GeneralDoes at =
    (loop : Loop at) (head : Iteration) (list : Range) (facts : Facts) (label from : ℕ)
    (s : SourceState) (r : Registers)
    (memory : List ℕ)
    → Iterates at loop head list
    → s.budget ≡ loop.budget
    → StageAt at loop.need loop.base s facts r memory
    → GeneralEnters loop head list facts label from s r memory

-- a loop, by whether it is known that there is a turn, by its last value and by its variable
module _
    {at : BodyContext} (loop : Loop at) (head : Iteration) (list : Range) (facts : Facts) (label from : ℕ)
    (s : SourceState) (r : Registers) (memory : List ℕ)
    (iterates : Iterates at loop head list)
    (budget_is : s.budget ≡ loop.budget)
    (stage : StageAt at loop.need loop.base s facts r memory)
    (general : GeneralEnters loop head list facts label from s r memory)
  where
    abbrev site : Site
    site = knowing (site_of at.body) facts

    abbrev counter : Counter
    counter = counter_of site head

    abbrev Enters : Type 0
    Enters =
        Does (loaded_in at.context) s.budget 0 (at_place from r memory s.events)
        (whole_loop loop s) (Out loop)

    abbrev Planned_so : List Planned → Type 0
    Planned_so others =
        Stand at (going true facts) None from
        (first_steps at.body site counter head.first ++ others) loop.after loop.to

    stores :
        (others : List Planned) → Planned_so others
        → Does (loaded_in at.context) s.budget 1 (at_place from r memory s.events) (first_stored loop s)
        (FirstThere loop others)
    stores others stand = first_stores loop head list facts from others s r memory iterates stand stage

    by_turns :
        (is_tested : Bool)
        → (is_tested ≡ false → KnownEntry site head true)
        → Planned_so (turns_steps site counter head is_tested list label)
        → Enters
    by_turns is_tested entry stand = by_last (number site head.last) refl stand
      where
        in_general : IsGeneral site head → Planned_so (general_steps site counter head is_tested list label)
            → Enters
        in_general is stand = general is_tested is (stores _ stand) entry

        by_place :
            (last : ℕ) → number site head.last ≡ Some last
            → (in_place : Bool) → counts_in_place site counter head ≡ in_place
            → Planned_so
            (if in_place then to_known_steps counter last is_tested list label
            else general_steps site counter head is_tested list label)
            → Enters
        by_place last last_is true is stand =
            to_known_enters loop head list facts label last is_tested from s r memory iterates
            last_is is budget_is stage
            (stores _ stand) entry
        by_place last last_is false is stand = in_general (NotInPlace is) stand

        by_last :
            (known : Option ℕ) → number site head.last ≡ known
            → Planned_so
            (elim known as (λ (given : Option ℕ). List Planned) [
              | Some last ↦
                  if counts_in_place site counter head then to_known_steps counter last is_tested list label
                  else general_steps site counter head is_tested list label
              | None ↦ general_steps site counter head is_tested list label
            ])
            → Enters
        by_last (Some last) last_is stand =
            by_place last last_is (counts_in_place site counter head) refl stand
        by_last None last_is stand = in_general (NoNumber last_is) stand

    -- where the first value is known to be above the last one
    never_entered : KnownEntry site head false → Planned_so [] → Enters
    never_entered entry stand =
        let last_is =
        number_of_head facts entry.last iterates.sound (iterates.is).last
        iterates.last_types entry.last_is in
        enters_never loop (loop.head).scalar entry.last from facts [] s r memory iterates.sound refl
        last_is.0 iterates.counted
        (stores [] stand) budget_is stage
        (λ known place u now memory_now ends there.
        let is_over = steps_ended ends in
        goes_at_end loop u.budget known place (sym is_over.same) (sym is_over.place) u now memory_now
        (omega arith) there)
        (λ u now memory_now is ready_now steady.
        leb-false _ _
        (entry_value loop head list facts false s u iterates entry is stage.ready ready_now steady))

    pub iterate_enters : Planned_so (turns_if_any (has_a_turn site counter head) site counter head list label)
        → Enters
    iterate_enters stand = by (has_a_turn site counter head) refl stand
      where
        by : (turn : Option Bool) → has_a_turn site counter head ≡ turn
            → Planned_so (turns_if_any turn site counter head list label)
            → Enters
        by (Some true) is stand = by_turns false (λ _. known_entry site head true is) stand
        by (Some false) is stand = never_entered (known_entry site head false is) stand
        by None is stand = by_turns true (λ tested. let never : ⊥ = cc in absurd never) stand

-- an iterative DO does what it says, where counting in general does
pub iterate_does :
    (at : BodyContext) (before : Facts) (head : Iteration) (list : Range) (label from : ℕ)
    (after : Here) (to : ℕ)
    → IsSoundBody at
    → GeneralDoes at
    → StatementStands at before (statements.Loop (heads.Count head) list) label from after to
    → FormDoes at before (statements.Loop (heads.Count head) list) from after to
unfolding statement_steps
iterate_does at before head list label from after to sound general stands bound _
    (IsLoop {list = body} (IsCountHead {tree = tree} is) is_list) types lists base s r memory below
    room ready known =
    let loop = loop_of at base to after s tree body below in
    let iterates =
    iterates_so at base to after s tree body below head list bound sound is is_list
    types.0 types.1 lists in
    let stage : StageAt at loop.need base s before r memory =
    record { below = below; room = room; ready = ready; known = known } in
    does_same _
    (sym (then_again (value at.context.later at.context.activation.around tree.first s)
    (λ number t. write_variable at.context.activation.around tree (as_type tree.scalar number) t)
    (λ _ u. from_test loop u)))
    (iterate_enters loop head list before label from s r memory iterates refl stage
    (general loop head list before label from s r memory iterates refl stage) stands)

-- one whose code counts by 1 to a known last value, where the variable lies, does what it says
pub to_known_does :
    (at : BodyContext) (before : Facts) (head : Iteration) (list : Range) (label from : ℕ)
    (after : Here) (to last : ℕ)
    → IsSoundBody at
    → number (knowing (site_of at.body) before) head.last ≡ Some last
    → counts_in_place (knowing (site_of at.body) before)
    (counter_of (knowing (site_of at.body) before) head) head ≡ true
    → StatementStands at before (statements.Loop (heads.Count head) list) label from after to
    → FormDoes at before (statements.Loop (heads.Count head) list) from after to
unfolding statement_steps
to_known_does at before head list label from after to last sound last_is in_place stands bound _
    (IsLoop {list = body} (IsCountHead {tree = tree} is) is_list) types lists base s r memory below
    room ready known =
    let loop = loop_of at base to after s tree body below in
    let iterates =
    iterates_so at base to after s tree body below head list bound sound is is_list
    types.0 types.1 lists in
    let stage : StageAt at loop.need base s before r memory =
    record { below = below; room = room; ready = ready; known = known } in
    does_same _
    (sym (then_again (value at.context.later at.context.activation.around tree.first s)
    (λ number t. write_variable at.context.activation.around tree (as_type tree.scalar number) t)
    (λ _ u. from_test loop u)))
    (iterate_enters loop head list before label from s r memory iterates refl stage
    (λ is_tested is stores entry. not_so is) stands)
  where
    not_so : {A : Type 0} → IsGeneral (knowing (site_of at.body) before) head → A
    not_so (NoNumber none) = let never : ⊥ = cc in absurd never
    not_so (NotInPlace is) = let never : ⊥ = cc in absurd never
