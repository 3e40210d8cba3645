-- The test of an iterative DO in its general form does what it means, in each of its forms.
use Rattle.statement_laws.proofs.Prelude.{◌≡◌, ℕ, ◌+◌, ◌%◌, ◌≤◌, Bool, true, false, nat_le, nat_eq, if◌then◌else◌, [], ◌∷◌, ◌++◌, Option, Some, None, refl, sym, ap, ◌∙◌, arith, leb-true, leb-false, eqb-true, ScalarType, Byte, Address, type_of, value, SourceState, Gave, Carry, NoCarry, Accumulate, AccumulateImmediate, Inx, Xchg, M, Compare, Subtract, SubtractWithBorrow, Hl, A, D, E, H, L, Jump, JumpWhere, ExpressionNumber, Location, Place, Facts, LabelNumber, copy, low, with_register, high, plain, Site, number, place_in_memory, scalar_of, Test, Counter, whole, computed_test, facts_of_test, known_test, test_of, test_steps, word_at, word_test_by, Here, load_byte_steps, load_word_steps, site_of, knowing, number_means, BodyContext, IsSoundBody, all, jump, LoadWord}
use Rattle.treecode.specs.declared.place.Location.TheVariants as locations
use Rattle.steps8080.specs.declared.step.Step.TheVariants as steps
use Rattle.statements8080.specs.declared.bound.Test.TheVariants as tests
use Rattle.statement_laws.proofs.Assignments.Assigned.{scalar_there}
use Rattle.statement_laws.proofs.Loops.CountedVariables.{IsCounted}
use Rattle.statement_laws.proofs.Loops.GeneralParts.{AreCode, TestDoes, all_code}
use Rattle.statement_laws.proofs.Loops.KnownLoops.{at_site, counter_for}
use Rattle.statement_laws.proofs.Loops.LoopCode.{Steps, address_step}
use Rattle.statement_laws.proofs.Loops.LoopRules.{HasTurns}
use Rattle.statement_laws.proofs.Loops.LoopTests.{HasLast, always_tests, byte_below_tests, byte_step, byte_tests, byte_with_word_tests, frame_word_tests, word_below_tests, word_step, word_tests}
use Rattle.statement_laws.proofs.Loops.LoopTurns.{Loop, Runs, from_list}
use Rattle.statement_laws.proofs.FirstSteps.{Stand}
use Rattle.statement_laws.proofs.Loops.PlannedParts.{byte_parted, code_parted, word_parted}
use Rattle.statement_laws.proofs.Loops.TestedLoops.{word_test as word_compare}

-- the code of a comparison with a number
below_code :
    {at : BodyContext} {here after : Here} {waiting : Option Facts} {from to : ℕ} (last : ℕ)
    (turn : LabelNumber) (none : Bool)
    → Stand at here waiting from
    ((if none then all (word_compare last true)
    else all (word_compare last false))
    ++ (jump (JumpWhere Carry) turn ∷ [])) after to
    → Steps at.context here.facts from
    (plain (word_compare last none) ++ (steps.Jump (JumpWhere Carry) turn ∷ [])) after.facts to
below_code last turn true stand =
    all_code (plain (word_compare last true) ++ (steps.Jump (JumpWhere Carry) turn ∷ [])) stand
below_code last turn false stand =
    all_code (plain (word_compare last false) ++ (steps.Jump (JumpWhere Carry) turn ∷ [])) stand

-- the code of a test is code alone
pub test_is_code : (counter : Counter) (test : Test) (turn : LabelNumber)
    → AreCode (test_steps counter test turn)
unfolding test_steps
test_is_code counter tests.Always turn = (tt, tt)
test_is_code counter (tests.ByteBelow bound) turn = (tt, (tt, (tt, tt)))
test_is_code counter (tests.WordBelow bound) turn = (tt, by (nat_eq (bound % 256) 0))
  where
    by : (none : Bool)
        → AreCode ((if none then all (copy A H ∷ AccumulateImmediate Compare (high bound) ∷ [])
        else all
        (copy A L ∷ AccumulateImmediate Subtract (low bound)
        ∷ copy A H ∷ AccumulateImmediate SubtractWithBorrow (high bound) ∷ []))
        ++ (jump (JumpWhere Carry) turn ∷ []))
    by true = (tt, (tt, (tt, tt)))
    by false = (tt, (tt, (tt, (tt, (tt, tt)))))
test_is_code counter (tests.Byte last) turn = (tt, (tt, (tt, (tt, tt))))
test_is_code counter (tests.ByteWithWord last) turn = (tt, (tt, (tt, (tt, (tt, (tt, (tt, (tt, tt))))))))
test_is_code counter (tests.WordWithPlace place) turn = (tt, (tt, (tt, (tt, (tt, (tt, tt))))))
test_is_code counter (tests.Word last) turn = (tt, (tt, (tt, (tt, (tt, (tt, (tt, (tt, tt))))))))
test_is_code counter (tests.FrameWord last) turn = (tt, (tt, (tt, (tt, (tt, (tt, (tt, (tt, (tt, tt)))))))))

-- what is asked of a test against an ADDRESS at a place
abbrev pub PlaceTests : {at : BodyContext} → Loop at → (head_last : ExpressionNumber) → Facts
    → (turn : LabelNumber) → Type 0
PlaceTests {at = at} loop last facts turn =
    (counted : IsCounted at.context (loop.head).variable Address) (own other : Place)
    (here after : Here) (waiting : Option Facts) (from to : ℕ)
    → (loop.head).scalar ≡ Address
    → counted.location ≡ locations.Static own
    → word_at (knowing (site_of at.body) facts) last ≡ Some other
    → Stand at here waiting from
    (test_steps (counter_for at (loop.head).variable Address (Some counted.location))
    (tests.WordWithPlace other) turn) after to
    → TestDoes loop
    (facts_of_test (counter_for at (loop.head).variable Address (Some counted.location))
    (tests.WordWithPlace other)) turn
    here.facts from after.facts to

-- the test does what it means
pub test_does :
    {at : BodyContext} (loop : Loop at) (scalar : ScalarType) (last : ExpressionNumber) (facts : Facts)
    (turn : LabelNumber)
    {here after : Here} {waiting : Option Facts} {from to : ℕ}
    → IsSoundBody at
    → (loop.head).scalar ≡ scalar
    → (counted : IsCounted at.context (loop.head).variable scalar)
    → 2 ≤ loop.need
    → HasLast loop last
    → PlaceTests loop last facts turn
    → Stand at here waiting from
    (test_steps (counter_for at (loop.head).variable scalar (Some counted.location))
    (test_of (knowing (site_of at.body) facts)
    (counter_for at (loop.head).variable scalar (Some counted.location)) last) turn) after to
    → TestDoes loop
    (facts_of_test (counter_for at (loop.head).variable scalar (Some counted.location))
    (test_of (knowing (site_of at.body) facts)
    (counter_for at (loop.head).variable scalar (Some counted.location)) last)) turn
    here.facts from after.facts to
unfolding test_of test_steps
test_does {at = at} loop scalar last facts turn {here = here} {after = after} {waiting = waiting}
    {from = from} {to = to} sound same counted enough has places stand =
    by_number (number (knowing (site_of at.body) facts) last) refl stand
  where
    site : Site
    site = knowing (site_of at.body) facts

    counter_of_type : (scalar : ScalarType) → IsCounted at.context (loop.head).variable scalar → Counter
    counter_of_type scalar counted = counter_for at (loop.head).variable scalar (Some counted.location)

    -- that a test does what it means where it stands
    MeansIt : (scalar : ScalarType) → IsCounted at.context (loop.head).variable scalar → Test → Type 0
    MeansIt scalar counted test =
        Stand at here waiting from (test_steps (counter_of_type scalar counted) test turn) after to
        → TestDoes loop (facts_of_test (counter_of_type scalar counted) test) turn
        here.facts from after.facts to

    turns_there : (scalar : ScalarType) (same : (loop.head).scalar ≡ scalar)
        (counted : IsCounted at.context (loop.head).variable scalar)
        (limit : ℕ) (turn_facts : Facts)
        → Runs loop limit (at.context.activation.layout.place_of turn.index) turn_facts (from_list loop)
        → HasTurns loop scalar limit turn turn_facts
    turns_there scalar same counted limit turn_facts runs =
        record { sound = sound; scalar_is = same; counted = counted; enough = enough; turns = runs }

    by_known : (scalar : ScalarType) (same : (loop.head).scalar ≡ scalar)
        (counted : IsCounted at.context (loop.head).variable scalar)
        (known : ℕ)
        → ((s : SourceState) → value at.context.later at.context.activation.around (loop.head).last s
        ≡ Gave known s)
        → MeansIt scalar counted (known_test scalar known)
    by_known Byte same counted known is = by (nat_le 255 known) refl
      where
        by : (great : Bool) → nat_le 255 known ≡ great
            → MeansIt Byte counted (if great then tests.Always else tests.ByteBelow (known + 1))
        by true great stand limit turn_facts runs enters goes t r memory fewer stage =
            let most = leb-true 255 known great in
            always_tests loop limit known turn turn_facts Byte t r memory
            (turns_there Byte same counted limit turn_facts runs) (is t)
            (omega (arith, most)) (all_code (steps.Jump Jump turn ∷ []) stand) enters fewer stage
        by false great stand limit turn_facts runs enters goes t r memory fewer stage =
            let loaded = byte_parted stand in
            byte_below_tests loop limit known turn turn_facts t r memory
            (turns_there Byte same counted limit turn_facts runs) (is t)
            (leb-false 255 known great)
            (at_site (λ one. load_byte_steps one (whole (loop.head).variable)) sound loaded.first)
            (all_code (steps.Plain (AccumulateImmediate Compare (low (known + 1)))
            ∷ steps.Jump (JumpWhere Carry) turn ∷ []) loaded.rest)
            enters fewer stage goes
    by_known Address same counted known is = by (nat_le 65535 known) refl
      where
        by : (great : Bool) → nat_le 65535 known ≡ great
            → MeansIt Address counted (if great then tests.Always else tests.WordBelow (known + 1))
        by true great stand limit turn_facts runs enters goes t r memory fewer stage =
            let most = leb-true 65535 known great in
            always_tests loop limit known turn turn_facts Address t r memory
            (turns_there Address same counted limit turn_facts runs) (is t)
            (omega (arith, most)) (all_code (steps.Jump Jump turn ∷ []) stand) enters fewer stage
        by false great stand limit turn_facts runs enters goes t r memory fewer stage =
            let loaded = word_parted stand in
            let less = leb-false 65535 known great in
            word_below_tests loop limit known turn turn_facts (nat_eq ((known + 1) % 256) 0) t r memory
            (turns_there Address same counted limit turn_facts runs) (is t)
            (omega (arith, less)) (λ none. eqb-true ((known + 1) % 256) 0 none)
            (at_site (λ one. load_word_steps one (whole (loop.head).variable)) sound loaded.first)
            (below_code known turn (nat_eq ((known + 1) % 256) 0) loaded.rest)
            enters fewer stage goes

    by_type : (scalar : ScalarType) (same : (loop.head).scalar ≡ scalar)
        (counted : IsCounted at.context (loop.head).variable scalar)
        (bound : ScalarType) → type_of (loop.head).last ≡ bound
        → MeansIt scalar counted (computed_test scalar bound site (counter_of_type scalar counted) last)
    by_type Byte same counted Byte is stand limit turn_facts runs enters goes t r memory fewer stage =
        byte_tests loop limit last turn turn_facts t r memory
        (turns_there Byte same counted limit turn_facts runs) has is
        (all_code (byte_step last ∷ address_step (loop.head).variable ∷ steps.Plain (Accumulate Compare M)
        ∷ steps.Jump (JumpWhere NoCarry) turn ∷ []) stand) enters fewer stage goes
    by_type Byte same counted Address is stand limit turn_facts runs enters goes t r memory fewer stage =
        byte_with_word_tests loop limit last turn turn_facts t r memory
        (turns_there Byte same counted limit turn_facts runs) has
        (all_code (word_step last ∷ steps.Plain Xchg ∷ address_step (loop.head).variable
        ∷ steps.Plain (copy A E)
        ∷ steps.Plain (Accumulate Subtract M) ∷ steps.Plain (copy A D)
        ∷ steps.Plain (AccumulateImmediate SubtractWithBorrow 0)
        ∷ steps.Jump (JumpWhere NoCarry) turn ∷ []) stand) enters fewer stage goes
    by_type Address same counted bound is stand limit turn_facts runs enters goes t r memory fewer stage =
        by_location counted.location refl (word_at site last) refl stand limit turn_facts runs enters goes t
        r memory fewer stage
      where
        by_location : (location : Location) → counted.location ≡ location
            → (other : Option Place) → word_at site last ≡ other
            → MeansIt Address counted (word_test_by (place_in_memory (Some location)) other last)
        by_location (locations.Static own) lies (Some other) there stand limit turn_facts runs enters goes t r
            memory fewer stage =
            places counted own other here after waiting from to same lies there stand limit turn_facts runs
            enters goes t r memory fewer stage
        by_location (locations.Static own) lies None there stand limit turn_facts runs enters goes t r
            memory fewer stage =
            let first = code_parted (word_step last ∷ steps.Plain Xchg ∷ [])
            (LoadWord (whole (loop.head).variable)
            ∷ (all (copy A E ∷ with_register Subtract L ∷ copy A D ∷ with_register SubtractWithBorrow H ∷ [])
            ++ (jump (JumpWhere NoCarry) turn ∷ []))) here from stand in
            let loaded = word_parted first.rest in
            word_tests loop limit last turn turn_facts t r memory
            (turns_there Address same counted limit turn_facts runs) has
            first.first
            (at_site (λ one. load_word_steps one (whole (loop.head).variable)) sound loaded.first)
            (all_code (plain (copy A E ∷ with_register Subtract L ∷ copy A D
            ∷ with_register SubtractWithBorrow H ∷ [])
            ++ (steps.Jump (JumpWhere NoCarry) turn ∷ [])) loaded.rest)
            enters fewer stage goes
        by_location (locations.Frame variable offset) lies other there stand limit turn_facts runs enters goes
            t r memory fewer stage =
            frame_word_tests loop limit last turn turn_facts t r memory
            (turns_there Address same counted limit turn_facts runs) has
            (all_code (word_step last ∷ steps.Plain Xchg ∷ address_step (loop.head).variable
            ∷ steps.Plain (copy A E)
            ∷ steps.Plain (Accumulate Subtract M) ∷ steps.Plain (Inx Hl) ∷ steps.Plain (copy A D)
            ∷ steps.Plain (Accumulate SubtractWithBorrow M)
            ∷ steps.Jump (JumpWhere NoCarry) turn ∷ []) stand) enters fewer stage goes

    by_number : (found : Option ℕ) → number site last ≡ found
        → MeansIt scalar counted (elim found as (λ (found : Option ℕ). Test) [
          | Some known ↦ known_test scalar known
          | None ↦ computed_test scalar (scalar_of site last) site (counter_of_type scalar counted) last
        ])
    by_number (Some known) is =
        by_known scalar same counted known
        (number_means facts known sound.sound has.is has.types
        (ap (λ (one : Site). number (knowing one facts) last) sound.site ∙ is))
    by_number None is =
        by_type scalar same counted (scalar_of site last)
        (sym (scalar_there at sound facts last (loop.head).last has.is))
