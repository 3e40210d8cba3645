-- The test of an ADDRESS in memory against an ADDRESS at a place, which stays there.
use Rattle.statement_laws.proofs.Prelude.{◌≡◌, ℕ, ◌+◌, ◌*◌, ◌/◌, ◌%◌, ◌≤◌, ◌⊎◌, inl, inr, false, not, nat_lt, List, [], ◌∷◌, Option, Some, None, refl, sym, ap, subst, ◌∙◌, arith, byte_at, byte_small, ScalarType, Byte, Address, value, SourceState, Outcome, Gave, NoCarry, Subtract, SubtractWithBorrow, H, L, subtract_of, Registers, wrap, JumpWhere, LoadA, Expression, ExpressionForm, ExpressionNumber, Place, place_after, IsSteady, place_at, Does, at_place, GoesOutside, Facts, LabelNumber, Step, no_facts, with_register, Site, direct, expression, option_and_then, direct_word, word_in_memory, word_of, knowing, load_word_steps, site_of, whole, test_steps, word_at, word_of_form, PlainThere, WordThere, WordAtPlace, words_at_places, read_then, stage_with_a, at_load_a, does_same, loaded_in, BodyContext, IsSoundBody, same_given}
use Rattle.treecode.specs.declared.expression.ExpressionForm.TheVariants as forms
use Rattle.steps8080.specs.declared.step.Step.TheVariants as steps
use Rattle.statement_laws.proofs.Loops.CountedBytes.{Goes}
use Rattle.statement_laws.proofs.Loops.CountedVariables.{variable_address, variable_place}
use Rattle.statement_laws.proofs.Loops.GeneralParts.{all_code}
use Rattle.statement_laws.proofs.Loops.GeneralTests.{PlaceTests}
use Rattle.statement_laws.proofs.Loops.KnownLoops.{at_site}
use Rattle.statement_laws.proofs.Loops.LoadedVariables.{word_loaded}
use Rattle.statement_laws.proofs.Loops.LoopCode.{Steps}
use Rattle.statement_laws.proofs.Loops.LoopMeaning.{counted_read, scalar_at}
use Rattle.statement_laws.proofs.Loops.LoopRules.{HasTurns, address_of_variable_known, after_last, from_test_is, if_not_above, pair_is_less, test_jumps}
use Rattle.statement_laws.proofs.Loops.LoopTests.{Enters, HasLast}
use Rattle.statement_laws.proofs.Loops.LoopTurns.{Loop, Out, StageAt, from_test}
use Rattle.statement_laws.proofs.Loops.PlannedParts.{word_parted}
use Rattle.statement_laws.proofs.Loops.SteadyReads.{steady_read}
use Rattle.statement_laws.proofs.Loops.TestedLoops.{other_way}

-- the comparison with the word at a place, and the jump
abbrev place_compare : Place → LabelNumber → List Step
place_compare place turn =
    steps.Word LoadA place ∷ steps.Plain (with_register Subtract L)
    ∷ steps.Word LoadA (place_after place 1) ∷ steps.Plain (with_register SubtractWithBorrow H)
    ∷ steps.Jump (JumpWhere NoCarry) turn ∷ []

halves_of : (high low n : ℕ) → n % 256 ≡ low → n / 256 ≡ high → 256 * high + low ≡ n
halves_of high low n one two = omega (arith, one, two)

-- where the variable is in HL, and the last value at the place
compared_with_place :
    {at : BodyContext} (loop : Loop at) (limit n : ℕ) (turn : LabelNumber)
    (turn_facts : Facts) (place : Place)
    {facts found : Facts} {from to : ℕ} (t : SourceState) (r : Registers) (memory : List ℕ)
    → (turns : HasTurns loop Address limit turn turn_facts)
    → n % 256 ≡ byte_at memory (place_at at.context.activation.layout place)
    → n / 256 ≡ byte_at memory (place_at at.context.activation.layout (place_after place 1))
    → IsSteady at.context.activation (place_at at.context.activation.layout place)
    → IsSteady at.context.activation (place_at at.context.activation.layout (place_after place 1))
    → r.l ≡ byte_at memory (variable_address at.context (loop.head).variable)
    → r.h ≡ byte_at memory (wrap (variable_address at.context (loop.head).variable + 1))
    → IsSteady at.context.activation (variable_address at.context (loop.head).variable)
    → IsSteady at.context.activation (wrap (variable_address at.context (loop.head).variable + 1))
    → Steps at.context facts from (place_compare place turn) found to
    → Enters at (record no_facts { word_in_hl = Some (turns.counted).location }) turn_facts
    → t.budget ≤ limit
    → StageAt at loop.need loop.base t facts r memory
    → Goes loop limit found to
    → Does (loaded_in at.context) t.budget 0 (at_place from r memory t.events)
    (after_last loop Address n t) (Out loop)
compared_with_place {at = at} loop limit n turn turn_facts place t r memory turns low high low_steady
    high_steady l h steady steady_too
    (WordThere first (PlainThere low_taken (WordThere second (PlainThere high_taken jump))))
    enters fewer stage goes =
    let sound = turns.sound.sound in
    let counted = turns.counted in
    let address : ℕ = variable_address at.context (loop.head).variable in
    let lo : ℕ = byte_at memory (place_at at.context.activation.layout place) in
    let hi : ℕ = byte_at memory (place_at at.context.activation.layout (place_after place 1)) in
    let held = stage.ready.registers in
    at_load_a sound first low_steady stage
    (λ loaded. stage_with_a (subtract_of lo r.l false).value (subtract_of lo r.l false).flags sound loaded
    low_taken refl (omega arith) tt
    (λ lower. at_load_a sound second high_steady lower
    (λ again. stage_with_a (subtract_of hi r.h (subtract_of lo r.l false).flags.cy).value
    (subtract_of hi r.h (subtract_of lo r.l false).flags.cy).flags sound again high_taken
    refl (omega arith) tt
    (λ compared.
    let after : Registers = record r {
      a = (subtract_of hi r.h (subtract_of lo r.l false).flags.cy).value;
      flags = (subtract_of hi r.h (subtract_of lo r.l false).flags.cy).flags;
    } in
    counted_read Address t (if_not_above loop n) sound counted compared.ready
    (λ steady_again.
    test_jumps loop limit turn turn_facts NoCarry n (scalar_at Address memory address) t after memory turns
    (ap not (pair_is_less hi lo r.h r.l
    (byte_small memory (place_at at.context.activation.layout place) stage.ready.shares.is_memory) held.l
    held.h
    ∙ ap (λ (m : ℕ). nat_lt m (256 * r.h + r.l)) (halves_of hi lo n low high)
    ∙ ap (nat_lt n) (other_way r.h r.l (byte_at memory address) (byte_at memory (wrap (address + 1))) l h)))
    jump fewer compared
    (enters after memory (address_of_variable_known counted after memory l h steady steady_too)) goes)))))

not_outside : (outcome : Outcome ℕ) (n : ℕ) (t : SourceState) → outcome ≡ Gave n t → GoesOutside outcome → ⊥
not_outside outcome n t is outside = subst GoesOutside is outside

pub place_tests :
    {at : BodyContext} (loop : Loop at) (limit : ℕ) (last : ExpressionNumber) (turn : LabelNumber)
    (turn_facts site_facts : Facts)
    (place : Place) {facts loaded found : Facts} {from middle to : ℕ} (t : SourceState)
    (r : Registers) (memory : List ℕ)
    → (turns : HasTurns loop Address limit turn turn_facts)
    → HasLast loop last
    → direct_word (knowing at.context.site site_facts) last ≡ Some place
    → Steps at.context facts from
    (load_word_steps (knowing at.context.site facts) (whole (loop.head).variable)) loaded middle
    → Steps at.context loaded middle (place_compare place turn) found to
    → Enters at (record no_facts { word_in_hl = Some (turns.counted).location }) turn_facts
    → t.budget ≤ limit
    → StageAt at loop.need loop.base t facts r memory
    → Goes loop limit found to
    → Does (loaded_in at.context) t.budget 0 (at_place from r memory t.events) (from_test loop t) (Out loop)
place_tests {at = at} loop limit last turn turn_facts site_facts place {loaded = loaded} {found = found}
    {middle = middle} {to = to} t r memory turns has is loads stand enters fewer stage goes =
    let sound = turns.sound.sound in
    let counted = turns.counted in
    does_same _ (from_test_is loop Address t turns.scalar_is)
    (read_then (value at.context.later at.context.activation.around (loop.head).last t)
    (λ n u. after_last loop Address n u)
    (words_at_places at.context sound site_facts last place _ at.context.activation.level (loop.head).last
    loop.base t r memory has.is has.types is stage.ready)
    (λ read.
    steady_read (variable_place at.context (loop.head).variable) t
    (if_not_above loop read.found) sound counted.fits
    (λ steady.
    word_loaded sound counted turns.enough loads stage steady.0 steady.1
    (λ in_hl memory_then holds there.
    by read.found read.is steady.0 steady.1 in_hl memory_then holds.low holds.high there
    (words_at_places at.context sound site_facts last place _ at.context.activation.level (loop.head).last
    loop.base t in_hl memory_then has.is has.types is there.ready)))))
  where
    outcome : Outcome ℕ
    outcome = value at.context.later at.context.activation.around (loop.head).last t

    by : (n : ℕ) → outcome ≡ Gave n t
        → IsSteady at.context.activation (variable_address at.context (loop.head).variable)
        → IsSteady at.context.activation (wrap (variable_address at.context (loop.head).variable + 1))
        → (in_hl : Registers) (memory_then : List ℕ)
        → in_hl.l ≡ byte_at memory_then (variable_address at.context (loop.head).variable)
        → in_hl.h ≡ byte_at memory_then (wrap (variable_address at.context (loop.head).variable + 1))
        → StageAt at loop.need loop.base t loaded in_hl memory_then
        → WordAtPlace at.context place memory_then t outcome ⊎ GoesOutside outcome
        → Does (loaded_in at.context) t.budget 0 (at_place middle in_hl memory_then t.events)
        (after_last loop Address n t) (Out loop)
    by n gave steady steady_too in_hl memory_then low high there (inl read) =
        let same : read.found ≡ n = same_given (sym read.is ∙ gave) in
        compared_with_place loop limit n turn turn_facts place t in_hl memory_then turns
        (sym (ap (λ (m : ℕ). m % 256) same) ∙ read.low) (sym (ap (λ (m : ℕ). m / 256) same) ∙ read.high)
        read.low_steady read.high_steady low high steady steady_too stand enters fewer there goes
    by n gave steady steady_too in_hl memory_then low high there (inr outside) =
        absurd (not_outside outcome n t gave outside)

-- a word at a place, as other code sees it
direct_word_is : (site : Site) (number : ExpressionNumber) (place : Place) → word_at site number ≡ Some place
    → direct_word site number ≡ Some place
unfolding direct_word word_in_memory
direct_word_is site number place is = by (expression site number) is
  where
    by_form : (form : ExpressionForm) (scalar : ScalarType) → word_of_form site form scalar ≡ Some place
        → option_and_then (direct site) (word_of form scalar) ≡ Some place
    by_form (forms.Value reference) Address is = is
    by_form (forms.Value reference) Byte is = let never : ⊥ = cc in absurd never
    by_form other scalar is = let never : ⊥ = cc in absurd never

    by : (found : Option Expression)
        → elim found as (λ (found : Option Expression). Option Place) [
          | Some one ↦ word_of_form site one.form one.traits.scalar
          | None ↦ None
        ] ≡ Some place
        → option_and_then (direct site)
        (option_and_then (λ (one : Expression). word_of one.form one.traits.scalar) found) ≡ Some place
    by (Some found) is = by_form found.form found.traits.scalar is
    by None is = let never : ⊥ = cc in absurd never

-- the test does what it means
pub place_tests_do :
    {at : BodyContext} (loop : Loop at) (last : ExpressionNumber) (facts : Facts) (turn : LabelNumber)
    → IsSoundBody at
    → 2 ≤ loop.need
    → HasLast loop last
    → PlaceTests loop last facts turn
unfolding test_steps
place_tests_do {at = at} loop last facts turn sound enough has counted own other here after waiting from to
    same lies there stand
    limit turn_facts runs enters goes t r memory fewer stage =
    let loaded = word_parted stand in
    place_tests loop limit last turn turn_facts facts other t r memory
    (record { sound = sound; scalar_is = same; counted = counted; enough = enough; turns = runs }) has
    (ap (λ (one : Site). direct_word (knowing one facts) last) sound.site
    ∙ direct_word_is (knowing (site_of at.body) facts) last other there)
    (at_site (λ site. load_word_steps site (whole (loop.head).variable)) sound loaded.first)
    (all_code (place_compare other turn) loaded.rest)
    enters fewer stage goes
