-- An iterative DO that counts by 1 to a known last value does what it says.
use Rattle.statement_laws.proofs.Prelude.{◌≡◌, ℕ, ◌+◌, ◌%◌, ◌<◌, ◌≤◌, Bool, true, false, not, ◌&&◌, ◌||◌, if◌then◌else◌, is_some, nat_eq, nat_le, List, [], ◌∷◌, ◌++◌, Some, None, refl, sym, ap, subst, ◌∙◌, arith, eqb-true, leb-true, leb-false, same_Some, IsMemory, ScalarType, Byte, Address, SourceState, Gave, Onward, values_of, NoCarry, Registers, JumpWhere, Range, Location, Iteration, IsReady, Does, at_place, Facts, LabelNumber, no_facts, label_of, plain, number, place_in_memory, knowing, Counter, Planned, whole, address_fact, counter_of, counter_place, counts_by_one, word_fact, asked_mark, asked_test_steps, below_steps, counts_in_place, facts_of_turn, first_test_steps, is_byte_type, next_turn_steps, to_known_steps, all, jump, nth_label, load_byte_steps, load_word_steps, site_of, Know, loaded_in, BodyContext, and_parts}
use Rattle.treecode.specs.declared.place.Location.TheVariants as locations
use Rattle.steps8080.specs.declared.step.Step.TheVariants as steps
use Rattle.statements8080.specs.declared.plan.Planned.TheVariants as planned
use Rattle.statement_laws.proofs.Loops.CountedVariables.{variable_address}
use Rattle.statement_laws.proofs.Loops.EnteredLoops.{enters_surely, enters_then, whole_loop}
use Rattle.statement_laws.proofs.Loops.FirstStored.{FirstThere, first_stored}
use Rattle.statement_laws.proofs.Loops.IterateHeads.{KnownEntry, counter_is, entry_value, to_known_is}
use Rattle.statement_laws.proofs.Loops.KnownLoops.{ToKnown, TurnsStand, at_site, byte_turns, counted_as, counter_for, word_turns}
use Rattle.statement_laws.proofs.Loops.LoopCode.{Steps}
use Rattle.statement_laws.proofs.Loops.LoopEnds.{Iterates, goes_at_end}
use Rattle.statement_laws.proofs.Loops.LoopMeaning.{IsSteadyScalar, scalar_at, scalar_small}
use Rattle.statement_laws.proofs.Loops.LoopTurns.{Loop, Out, StageAt, from_test}
use Rattle.statement_laws.proofs.Meetings.{first_meets}
use Rattle.statement_laws.proofs.FirstSteps.{Stand, going}
use Rattle.statement_laws.proofs.Loops.PlannedParts.{byte_parted, code_parted, word_parted}
use Rattle.statement_laws.proofs.Loops.TestedLoops.{byte_tested, first_test, word_test, word_tested}

-- turns that stand from a place on, where this is known
record TurnsFound
    {at : BodyContext} (loop : Loop at) (is_tested : Bool) (end turn : LabelNumber)
    (known : Facts) (place : ℕ) :
    Type 0 where
  pub facts : Facts
  pub there : TurnsStand loop is_tested end turn facts place
  pub meets : (now : Registers) (memory_now : List ℕ) → Know at.context known now memory_now
      → Know at.context facts now memory_now

-- what is planned from the place of the turns on
abbrev turns_planned :
    Counter → (last : ℕ) → (is_tested : Bool) → Range → (turn end : LabelNumber) → List Planned
turns_planned counter last is_tested list turn end =
    planned.Again turn (facts_of_turn counter) true
    ∷ planned.List list
    ∷ (next_turn_steps counter last turn ++ (asked_mark is_tested end ++ (planned.Reaches true ∷ [])))

turns_found :
    {at : BodyContext} (loop : Loop at) (head : Iteration) (list : Range) (last : ℕ) (is_tested : Bool)
    (turn end : LabelNumber)
    (known : Facts) (place : ℕ) (scalar : ScalarType) (location : Location)
    (iterates : Iterates at loop head list)
    → (iterates.counted).location ≡ location
    → ToKnown loop scalar last
    → (is_byte_type scalar || is_some (place_in_memory (Some location))) ≡ true
    → Stand at (going true known) None place
    (turns_planned (counter_for at (loop.head).variable scalar (Some location)) last is_tested list turn end)
    loop.after loop.to
    → TurnsFound loop is_tested end turn known place
unfolding next_turn_steps facts_of_turn
turns_found {at = at} loop head list last is_tested turn end known place Byte location iterates lies to_known
    in_place stand = record {
      facts = _;
      there =
          byte_turns loop head list last is_tested end turn known place iterates to_known (Some location)
          ((iterates.counted).located known ∙ ap (λ (one : Location). Some one) lies) stand;
      meets = λ now memory_now knows.
          first_meets at.context now memory_now known
          (address_fact (counter_for at (loop.head).variable Byte (Some location))) knows;
    }
turns_found {at = at} loop head list last is_tested turn end known place Address
    (locations.Static where_it_is) iterates lies to_known in_place stand = record {
      facts = _;
      there =
          word_turns loop head list last is_tested end turn known place where_it_is iterates to_known
          ((iterates.counted).located known ∙ ap (λ (one : Location). Some one) lies) stand;
      meets = λ now memory_now knows.
          first_meets at.context now memory_now known
          (word_fact (counter_for at (loop.head).variable Address (Some (locations.Static where_it_is)))) knows;
    }
turns_found loop head list last is_tested turn end known place Address (locations.Frame variable offset)
    iterates lies to_known in_place stand =
    let never : ⊥ = cc in absurd never

-- where the end of the loop is reached by a jump to its label
end_is :
    {at : BodyContext} {is_tested : Bool} (loop : Loop at) (end turn : LabelNumber) (facts : Facts)
    (place : ℕ) (u : SourceState)
    → TurnsStand loop is_tested end turn facts place
    → is_tested ≡ true
    → u.budget ≤ loop.budget
    → (now : Registers) (memory_now : List ℕ)
    → StageAt at loop.need loop.base u no_facts now memory_now
    → Does (loaded_in at.context) u.budget 0 (at_place loop.to now memory_now u.events)
    (Gave Onward u) (Out loop)
end_is loop end turn facts place u there is less now memory_now stage =
    goes_at_end loop loop.budget no_facts loop.to (there.after is) refl u now memory_now less stage

below_least : (n last : ℕ) → n < 256 → 255 ≤ last → n ≤ last
below_least n last small great = omega (arith, small, great)

below_least_word : (n last : ℕ) → n < 65536 → 65535 ≤ last → n ≤ last
below_least_word n last small great = omega (arith, small, great)

-- a loop that counts by 1 to a known last value
module _
    {at : BodyContext} (loop : Loop at) (head : Iteration) (list : Range) (facts : Facts)
    (label last : ℕ) (is_tested : Bool)
    (from : ℕ) (s : SourceState) (r : Registers) (memory : List ℕ)
    (iterates : Iterates at loop head list)
    (last_is : number (knowing (site_of at.body) facts) head.last ≡ Some last)
    (in_place : counts_in_place (knowing (site_of at.body) facts) (counter_of
    (knowing (site_of at.body) facts) head) head ≡ true)
    (budget_is : s.budget ≡ loop.budget)
    (stage : StageAt at loop.need loop.base s facts r memory)
    (stores : Does (loaded_in at.context) s.budget 1 (at_place from r memory s.events) (first_stored loop s)
    (FirstThere loop
    (to_known_steps (counter_of (knowing (site_of at.body) facts) head) last is_tested list label)))
  where
    abbrev turn : LabelNumber
    turn = label_of label

    abbrev end : LabelNumber
    end = nth_label label 1

    abbrev counter : ScalarType → Counter
    counter scalar = counter_for at (loop.head).variable scalar (Some (iterates.counted).location)

    abbrev others : List Planned
    others = to_known_steps (counter_of (knowing (site_of at.body) facts) head) last is_tested list label

    abbrev Enters : Type 0
    Enters =
        Does (loaded_in at.context) s.budget 0 (at_place from r memory s.events)
        (whole_loop loop s) (Out loop)

    parts_in_place :
        ((is_byte_type head.scalar || is_some
        (counter_place (counter_of (knowing (site_of at.body) facts) head))) ≡ true)
        × (counts_by_one (knowing (site_of at.body) facts) head.step ≡ true)
    parts_in_place = and_parts _ _ in_place

    to_known : (scalar : ScalarType) → (loop.head).scalar ≡ scalar → ToKnown loop scalar last
    to_known scalar same = to_known_is loop head list facts scalar last iterates same last_is parts_in_place.1

    lies_so : (scalar : ScalarType) → (loop.head).scalar ≡ scalar
        → (is_byte_type scalar || is_some (place_in_memory (Some (iterates.counted).location))) ≡ true
    lies_so scalar same =
        ap (λ (one : ScalarType). is_byte_type one
        || is_some (place_in_memory (Some (iterates.counted).location))) (sym same)
        ∙ sym (ap (λ (one : Counter). is_byte_type one.scalar || is_some (counter_place one))
        (counter_is loop head list facts iterates))
        ∙ parts_in_place.0

    -- what is planned after the first value, by the variable of the loop
    planned_so :
        (scalar : ScalarType) (known : Facts) (place : ℕ)
        → (loop.head).scalar ≡ scalar
        → Stand at (going true known) None place others loop.after loop.to
        → Stand at (going true known) None place
        (asked_test_steps (counter scalar) last is_tested end
        ++ turns_planned (counter scalar) last is_tested list turn end)
        loop.after loop.to
    unfolding to_known_steps
    planned_so scalar known place same stand =
        subst (λ (one : ScalarType). Stand at (going true known) None place
        (to_known_steps (counter one) last is_tested list label) loop.after loop.to) same
        (subst (λ (one : Counter). Stand at (going true known) None place
        (to_known_steps one last is_tested list label) loop.after loop.to)
        (counter_is loop head list facts iterates) stand)

    turns_so :
        (scalar : ScalarType) (known : Facts) (place : ℕ)
        → (loop.head).scalar ≡ scalar
        → Stand at (going true known) None place
        (turns_planned (counter scalar) last is_tested list turn end) loop.after loop.to
        → TurnsFound loop is_tested end turn known place
    turns_so scalar known place same stand =
        turns_found loop head list last is_tested turn end known place scalar
        (iterates.counted).location iterates refl
        (to_known scalar same) (lies_so scalar same) stand

    -- without a test
    untested :
        (scalar : ScalarType)
        → (loop.head).scalar ≡ scalar
        → asked_test_steps (counter scalar) last is_tested end ≡ []
        → ((u : SourceState) (now : Registers) (memory_now : List ℕ) → first_stored loop s ≡ Gave tt u
        → IsReady at.context.activation at.context.activation.level loop.base u.memory u.frame now memory_now
        → IsSteadyScalar at.context.activation scalar (variable_address at.context (loop.head).variable)
        → scalar_at scalar memory_now (variable_address at.context (loop.head).variable) ≤ last)
        → Enters
    untested scalar same none not_above =
        enters_surely loop scalar last from facts others s r memory iterates.sound same
        ((to_known scalar same).last_is)
        (counted_as loop head list scalar iterates same) stores budget_is stage
        (λ known place stand.
        let found = turns_so scalar known place same
        (subst (λ (test : List Planned). Stand at (going true known) None place
        (test ++ turns_planned (counter scalar) last is_tested list turn end) loop.after loop.to) none
        (planned_so scalar known place same stand)) in
        record { facts = found.facts; turns = found.there.turns loop.budget (omega arith); enters = found.meets })
        not_above

    -- with a test
    tested_first :
        (scalar : ScalarType)
        → (loop.head).scalar ≡ scalar
        → is_tested ≡ true
        → asked_test_steps (counter scalar) last is_tested end
        ≡ below_steps scalar (counter scalar) (last + 1) ++ (jump (JumpWhere NoCarry) end ∷ [])
        → last + 1 < values_of scalar
        → Enters
    tested_first Byte same tested is little =
        enters_then loop from facts others s r memory stores budget_is stage
        (λ known place u now memory_now stand stored_is less there.
        let loaded = byte_parted
        (subst (λ (test : List Planned). Stand at (going true known) None place
        (test ++ turns_planned (counter Byte) last is_tested list turn end) loop.after loop.to) is
        (planned_so Byte known place same stand)) in
        let test =
        code_parted (first_test last end) (turns_planned (counter Byte) last is_tested list turn end)
        (going (going true known).goes_on loaded.known) loaded.middle loaded.rest in
        let found = turns_so Byte test.known test.middle same test.rest in
        byte_tested loop last test.middle end found.facts u now memory_now iterates.sound (to_known Byte same)
        (counted_as loop head list Byte iterates same) (let enough = iterates.enough in omega (arith, enough))
        (omega (arith, little))
        (at_site (λ site. load_byte_steps site (whole (loop.head).variable)) iterates.sound loaded.first)
        test.first less there
        ((found.there).turns loop.budget (omega arith)) found.meets ((found.there).label tested)
        (end_is loop end turn found.facts test.middle u found.there tested less))
    tested_first Address same tested is little =
        enters_then loop from facts others s r memory stores budget_is stage
        (λ known place u now memory_now stand stored_is less there.
        let loaded = word_parted
        (subst (λ (test : List Planned). Stand at (going true known) None place
        (test ++ turns_planned (counter Address) last is_tested list turn end) loop.after loop.to) is
        (planned_so Address known place same stand)) in
        by (nat_eq ((last + 1) % 256) 0) refl known place u now memory_now less there loaded.known
        loaded.middle loaded.first loaded.rest)
      where
        by : (none : Bool) → nat_eq ((last + 1) % 256) 0 ≡ none
            → (known : Facts) (place : ℕ) (u : SourceState) (now : Registers) (memory_now : List ℕ)
            → u.budget ≤ loop.budget
            → StageAt at loop.need loop.base u known now memory_now
            → (found : Facts) (middle : ℕ)
            → Steps at.context known place
            (load_word_steps (knowing (site_of at.body) known) (whole (loop.head).variable)) found middle
            → Stand at (going (going true known).goes_on found) None middle
            (((if none then all (word_test last true)
            else all (word_test last false)) ++ (jump (JumpWhere NoCarry) end ∷ []))
            ++ turns_planned (counter Address) last is_tested list turn end) loop.after loop.to
            → Does (loaded_in at.context) u.budget 0 (at_place place now memory_now u.events)
            (from_test loop u) (Out loop)
        by true none known place u now memory_now less there loaded middle loads rest =
            let test = code_parted (plain (word_test last true) ++ (steps.Jump (JumpWhere NoCarry) end ∷ []))
            (turns_planned (counter Address) last is_tested list turn end)
            (going (going true known).goes_on loaded) middle rest in
            let found = turns_so Address test.known test.middle same test.rest in
            word_tested loop last test.middle end found.facts true u now memory_now iterates.sound
            (to_known Address same)
            (counted_as loop head list Address iterates same)
            (let enough = iterates.enough in omega (arith, enough)) little
            (λ _. eqb-true ((last + 1) % 256) 0 none)
            (at_site (λ site. load_word_steps site (whole (loop.head).variable)) iterates.sound loads)
            test.first less there
            ((found.there).turns loop.budget (omega arith)) found.meets ((found.there).label tested)
            (end_is loop end turn found.facts test.middle u found.there tested less)
        by false none known place u now memory_now less there loaded middle loads rest =
            let test = code_parted (plain (word_test last false) ++ (steps.Jump (JumpWhere NoCarry) end ∷ []))
            (turns_planned (counter Address) last is_tested list turn end)
            (going (going true known).goes_on loaded) middle rest in
            let found = turns_so Address test.known test.middle same test.rest in
            word_tested loop last test.middle end found.facts false u now memory_now iterates.sound
            (to_known Address same)
            (counted_as loop head list Address iterates same)
            (let enough = iterates.enough in omega (arith, enough)) little
            (λ is. let never : ⊥ = cc in absurd never)
            (at_site (λ site. load_word_steps site (whole (loop.head).variable)) iterates.sound loads)
            test.first less there
            ((found.there).turns loop.budget (omega arith)) found.meets ((found.there).label tested)
            (end_is loop end turn found.facts test.middle u found.there tested less)

    -- which test there is
    asked_is :
        (scalar : ScalarType) (tested great none : Bool)
        → is_tested ≡ tested
        → (is_byte_type scalar && nat_le 255 last) ≡ great
        → nat_le 65535 last ≡ none
        → asked_test_steps (counter scalar) last is_tested end
        ≡ (if tested && not great
        then (if none then [] else below_steps scalar (counter scalar) (last + 1)
        ++ (jump (JumpWhere NoCarry) end ∷ []))
        else [])
    unfolding asked_test_steps first_test_steps
    asked_is scalar tested great none tested_is great_is none_is =
        let test : List Planned =
        below_steps scalar (counter scalar) (last + 1) ++ (jump (JumpWhere NoCarry) end ∷ []) in
        ap (λ (one : Bool). if one && not (is_byte_type scalar
        && nat_le 255 last) then (if nat_le 65535 last then [] else test) else [])
        tested_is
        ∙ ap (λ (one : Bool). if tested && not one then (if nat_le 65535 last then [] else test) else [])
        great_is
        ∙ ap (λ (one : Bool). if tested && not great then (if one then [] else test) else []) none_is

    pub to_known_enters :
        (is_tested ≡ false → KnownEntry (knowing (site_of at.body) facts) head true) → Enters
    to_known_enters entry =
        by is_tested refl (loop.head).scalar refl (nat_le 255 last) refl (nat_le 65535 last) refl
      where
        of_least :
            (scalar : ScalarType) → (loop.head).scalar ≡ scalar → values_of scalar ≤ last + 1
            → (memory_now : List ℕ) → IsMemory memory_now
            → scalar_at scalar memory_now (variable_address at.context (loop.head).variable) ≤ last
        of_least scalar same great memory_now is_memory =
            let small =
            scalar_small scalar memory_now (variable_address at.context (loop.head).variable) is_memory in
            omega (arith, small, great)

        known_first :
            is_tested ≡ false
            → (u : SourceState) (now : Registers) (memory_now : List ℕ) → first_stored loop s ≡ Gave tt u
            → IsReady at.context.activation at.context.activation.level loop.base u.memory
            u.frame now memory_now
            → IsSteadyScalar at.context.activation (loop.head).scalar
            (variable_address at.context (loop.head).variable)
            → scalar_at (loop.head).scalar memory_now (variable_address at.context (loop.head).variable)
            ≤ last
        known_first none u now memory_now stored_is ready_now steady =
            let its = entry none in
            let value =
            leb-true _ _
            (entry_value loop head list facts true s u iterates its stored_is stage.ready
            ready_now steady) in
            let same : its.last ≡ last = same_Some its.last last (sym its.last_is ∙ last_is) in
            omega (arith, value, same)

        by : (tested : Bool) → is_tested ≡ tested
            → (scalar : ScalarType) → (loop.head).scalar ≡ scalar
            → (great : Bool) → nat_le 255 last ≡ great
            → (none : Bool) → nat_le 65535 last ≡ none
            → Enters
        by false tested scalar same great great_is none none_is =
            untested (loop.head).scalar refl
            (asked_is (loop.head).scalar false (is_byte_type (loop.head).scalar && nat_le 255 last) none
            tested refl none_is)
            (known_first tested)
        by true tested Byte same true great_is none none_is =
            let high = leb-true 255 last great_is in
            untested Byte same (asked_is Byte true true none tested great_is none_is)
            (λ u now memory_now stored_is ready_now steady.
            of_least Byte same (omega (arith, high)) memory_now (ready_now.shares).is_memory)
        by true tested Byte same false great_is true none_is =
            let low = leb-false 255 last great_is in
            let high = leb-true 65535 last none_is in
            absurd (omega (arith, low, high))
        by true tested Byte same false great_is false none_is =
            let low = leb-false 255 last great_is in
            tested_first Byte same tested (asked_is Byte true false false tested great_is none_is)
            (omega (arith, low))
        by true tested Address same great great_is true none_is =
            let high = leb-true 65535 last none_is in
            untested Address same (asked_is Address true false true tested refl none_is)
            (λ u now memory_now stored_is ready_now steady.
            of_least Address same (omega (arith, high)) memory_now (ready_now.shares).is_memory)
        by true tested Address same great great_is false none_is =
            let low = leb-false 65535 last none_is in
            tested_first Address same tested (asked_is Address true false false tested refl none_is)
            (omega (arith, low))
