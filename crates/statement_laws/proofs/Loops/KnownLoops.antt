-- Turns of an iterative DO that counts by 1 to a known last value, with the test at the end.
use Rattle.statement_laws.proofs.Prelude.{◌≡◌, ℕ, ◌+◌, ◌<◌, ◌≤◌, Bool, true, false, nat_le, if◌then◌else◌, List, [], ◌∷◌, ◌++◌, Option, Some, None, refl, sym, ap, subst, ◌∙◌, arith, leb-true, leb-false, ScalarType, Byte, Address, next_turn, step_value, value, SourceState, Outcome, Gave, then_do, Onward, as_type, Registers, wrap, Range, Location, Place, Iteration, Facts, LabelNumber, no_facts, plain, location_of, knowing, Counter, Planned, whole, address_fact, word_fact, asked_mark, next_byte_steps, arriving, common, known_here, load_word_steps, met, site_of, Site, Does, at_place, loaded_in, word_known, BodyContext, IsSoundBody, write_scalar, same_Some}
use Rattle.treecode.specs.declared.place.Location.TheVariants as locations
use Rattle.statements8080.specs.declared.plan.Planned.TheVariants as planned
use Rattle.statement_laws.proofs.Loops.CountedBytes.{CountsBytes, Goes, count_to, count_to_top, counts_to, counts_to_top}
use Rattle.statement_laws.proofs.Loops.CountedVariables.{IsCounted, variable_address, variable_place}
use Rattle.statement_laws.proofs.Loops.SteadyReads.{steady_read}
use Rattle.statement_laws.proofs.Loops.CountedWords.{CountsWords, compared_and_counted, counts_word, stored_and_on}
use Rattle.statement_laws.proofs.Loops.LoadedVariables.{word_loaded}
use Rattle.statement_laws.proofs.Loops.LoopCode.{Steps, address_known, address_step}
use Rattle.statement_laws.proofs.Loops.LoopEnds.{Iterates, ends_known}
use Rattle.statement_laws.proofs.Loops.LoopMeaning.{stepped_with, stepped_with_is}
use Rattle.statement_laws.proofs.Loops.LoopTurns.{Loop, Out, Runs, StageAt, after_list, from_list, list_then, turns_do}
use Rattle.statement_laws.proofs.Meetings.{second_meets}
use Rattle.statement_laws.proofs.FirstSteps.{ListFirst, MarkFirst, Stand, again_first, going, list_first}
use Rattle.statement_laws.proofs.Loops.PlannedParts.{code_parted, word_parted}

-- a variable as code of loops has it
abbrev pub counter_for : BodyContext → (variable : ℕ) → ScalarType → Option Location → Counter
counter_for at variable scalar location =
    record { reference = whole variable; scalar = scalar; location = location }

-- the turns of a loop stand: their place, what is known there, and the end
pub record TurnsStand
    {at : BodyContext} (loop : Loop at) (is_tested : Bool) (end turn : LabelNumber) (facts : Facts)
    (from : ℕ) : Type 0 where
  pub is_at : at.context.activation.layout.place_of turn.index ≡ from
  pub turns : (limit : ℕ) → limit ≤ loop.budget → Runs loop limit from facts (from_list loop)
  pub label : is_tested ≡ true → at.context.activation.layout.place_of end.index ≡ loop.to
  pub after : is_tested ≡ true → record { facts = no_facts; goes_on = true } ≡ loop.after

-- what is true of values of a loop that counts to a known value
pub record ToKnown {at : BodyContext} (loop : Loop at) (scalar : ScalarType) (last : ℕ) : Type 0 where
  pub scalar_is : (loop.head).scalar ≡ scalar
  pub last_is : (s : SourceState) → value at.context.later at.context.activation.around (loop.head).last s
      ≡ Gave last s
  pub last_small : last < 65536
  pub step_is : (s : SourceState)
      → step_value at.context.later at.context.activation.around (loop.head).step s ≡ Gave 1 s

-- the variable has the type
pub counted_as : {at : BodyContext} (loop : Loop at) (head : Iteration) (list : Range) (scalar : ScalarType)
    → Iterates at loop head list → (loop.head).scalar ≡ scalar
    → IsCounted at.context (loop.head).variable scalar
counted_as {at = at} loop head list scalar iterates same =
    subst (λ (scalar : ScalarType). IsCounted at.context (loop.head).variable scalar) same iterates.counted

-- a BYTE
pub byte_turns :
    {at : BodyContext} (loop : Loop at) (head : Iteration) (list : Range) (last : ℕ) (is_tested : Bool)
    (end turn : LabelNumber)
    (facts : Facts) (from : ℕ)
    → Iterates at loop head list
    → ToKnown loop Byte last
    → (location : Option Location)
    → location_of (knowing at.context.site facts) (whole (loop.head).variable) ≡ location
    → Stand at (record { facts = facts; goes_on = true }) None from
    (planned.Again turn (address_fact (counter_for at (loop.head).variable Byte location)) true
    ∷ planned.List list
    ∷ (next_byte_steps (counter_for at (loop.head).variable Byte location) last turn
    ++ (asked_mark is_tested end ++ (planned.Reaches true ∷ [])))) loop.after loop.to
    → TurnsStand loop is_tested end turn
    (common facts (address_fact (counter_for at (loop.head).variable Byte location))) from
byte_turns {at = at} loop head list last is_tested end turn facts from iterates to_known location is stand =
    by_last (nat_le 255 last) refl listed.rest
  where
    counter : Counter
    counter = counter_for at (loop.head).variable Byte location

    turn_facts : Facts
    turn_facts = common facts (address_fact counter)

    again : MarkFirst at
        (arriving (met (known_here (record { facts = facts; goes_on = true })) (Some (address_fact counter))))
        None from turn
        (planned.List list ∷ (next_byte_steps counter last turn
        ++ (asked_mark is_tested end ++ (planned.Reaches true ∷ []))))
        loop.after loop.to
    again = again_first stand

    listed : ListFirst at (record { facts = turn_facts; goes_on = true }) None from list
        (next_byte_steps counter last turn ++ (asked_mark is_tested end ++ (planned.Reaches true ∷ [])))
        loop.after loop.to
    listed = list_first again.rest

    counted : IsCounted at.context (loop.head).variable Byte
    counted = counted_as loop head list Byte iterates to_known.scalar_is

    counts : (limit : ℕ) → limit < loop.budget → Runs loop limit from turn_facts (from_list loop)
        → CountsBytes loop last limit turn turn_facts
    counts limit less claim = record {
      sound = iterates.sound;
      scalar = to_known.scalar_is;
      counted = counted;
      enough = (let enough = iterates.enough in omega (arith, enough));
      last_is = to_known.last_is;
      step_is = to_known.step_is;
      turns = subst (λ (place : ℕ). Runs loop limit place turn_facts (from_list loop)) (sym again.lies) claim;
      less = less;
      enters = λ r memory hl.
          second_meets at.context r memory facts (address_fact counter)
          (address_known r memory facts location iterates.sound.sound counted is hl);
    }

    -- where what follows the list does what it means, all turns do
    all : ((limit : ℕ) → CountsBytes loop last limit turn turn_facts
        → (u : SourceState) (now : Registers) (memory_now : List ℕ) → u.budget ≤ limit
        → StageAt at loop.need loop.base u (listed.after).facts now memory_now
        → Does (loaded_in at.context) u.budget 0 (at_place listed.middle now memory_now u.events)
        (after_list loop Onward u) (Out loop))
        → (limit : ℕ) → limit ≤ loop.budget → Runs loop limit from turn_facts (from_list loop)
    all next =
        turns_do loop from turn_facts
        (λ limit less claim t r memory below stage.
        list_then loop iterates.bound list turn_facts listed.after from listed.middle t r memory
        listed.does iterates.list_is
        iterates.list_types iterates.list_stands iterates.list_fits (omega (arith, below, less)) stage
        (λ u now memory_now spent there. next limit (counts limit less claim) u now memory_now
        (omega (arith, spent, below)) there))

    by_last : (great : Bool) → nat_le 255 last ≡ great
        → Stand at listed.after None listed.middle
        ((Rattle.statements8080.specs.internal.Plans.part
        (Rattle.steps8080.specs.declared.step.Task.TheVariants.Address (whole (loop.head).variable)) 0
        ∷ (if great then Rattle.statements8080.specs.internal.Plans.plain
        (Rattle.isa8080.specs.declared.instr.Instr.TheVariants.Inr
        Rattle.isa8080.specs.declared.instr.Operand.TheVariants.M)
        ∷ Rattle.statements8080.specs.internal.Plans.jump
        (Rattle.asm8080.specs.declared.item.WordForm.TheVariants.JumpWhere
        Rattle.isa8080.specs.declared.instr.Condition.TheVariants.NotZero) turn ∷ []
        else Rattle.statements8080.specs.internal.Plans.all
        (Rattle.steps8080.specs.internal.Instructions.load Rattle.isa8080.specs.declared.instr.Register.TheVariants.A
        ∷ Rattle.isa8080.specs.declared.instr.Instr.TheVariants.AccumulateImmediate
        Rattle.isa8080.specs.declared.instr.Operation.TheVariants.Compare
        (Rattle.steps8080.specs.internal.Instructions.low last)
        ∷ Rattle.isa8080.specs.declared.instr.Instr.TheVariants.Inr
        Rattle.isa8080.specs.declared.instr.Operand.TheVariants.M ∷ [])
        ++ (Rattle.statements8080.specs.internal.Plans.jump
        (Rattle.asm8080.specs.declared.item.WordForm.TheVariants.JumpWhere
        Rattle.isa8080.specs.declared.instr.Condition.TheVariants.Carry) turn ∷ [])))
        ++ (asked_mark is_tested end ++ (planned.Reaches true ∷ []))) loop.after loop.to
        → TurnsStand loop is_tested end turn turn_facts from
    by_last true great stand =
        let parts = code_parted (address_step (loop.head).variable ∷ count_to_top turn)
        (asked_mark is_tested end ++ (planned.Reaches true ∷ [])) listed.after listed.middle stand in
        let ends =
        ends_known loop is_tested end (going listed.after.goes_on parts.known) parts.middle parts.rest in
        record {
          is_at = again.lies;
          turns = all (λ limit counts u now memory_now less there.
              counts_to_top loop last limit turn turn_facts u now memory_now counts (leb-true 255 last great)
              parts.first less there
              (ends.goes limit));
          label = ends.label;
          after = ends.after;
        }
    by_last false great stand =
        let parts = code_parted (address_step (loop.head).variable ∷ count_to last turn)
        (asked_mark is_tested end ++ (planned.Reaches true ∷ [])) listed.after listed.middle stand in
        let ends =
        ends_known loop is_tested end (going listed.after.goes_on parts.known) parts.middle parts.rest in
        record {
          is_at = again.lies;
          turns = all (λ limit counts u now memory_now less there.
              counts_to loop last limit turn turn_facts u now memory_now counts (leb-false 255 last great)
              parts.first less there
              (ends.goes limit));
          label = ends.label;
          after = ends.after;
        }

-- steps that are planned at the site of a body are planned at that of its context
pub at_site :
    {at : BodyContext} {from to : ℕ} {facts found last : Facts}
    (steps_at : Site → List Rattle.steps8080.specs.declared.step.Step.Step)
    → IsSoundBody at
    → Steps at.context facts from (steps_at (knowing (site_of at.body) found)) last to
    → Steps at.context facts from (steps_at (knowing at.context.site found)) last to
at_site {at = at} {from = from} {to = to} {facts = facts} {found = found} {last = last} steps_at sound stand =
    subst (λ (site : Site). Steps at.context facts from (steps_at (knowing site found)) last to)
    (sym sound.site) stand

-- an ADDRESS in memory
pub word_turns :
    {at : BodyContext} (loop : Loop at) (head : Iteration) (list : Range) (last : ℕ) (is_tested : Bool)
    (end turn : LabelNumber)
    (facts : Facts) (from : ℕ) (place : Place)
    → Iterates at loop head list
    → ToKnown loop Address last
    → location_of (knowing at.context.site facts) (whole (loop.head).variable) ≡ Some (locations.Static place)
    → Stand at (record { facts = facts; goes_on = true }) None from
    (planned.Again turn (word_fact (counter_for at (loop.head).variable Address
    (Some (locations.Static place)))) true
    ∷ planned.List list
    ∷ ((planned.LoadWord (whole (loop.head).variable)
    ∷ (Rattle.statements8080.specs.internal.Plans.all (compared_and_counted last)
    ++ (Rattle.statements8080.specs.internal.Plans.word
    Rattle.asm8080.specs.declared.item.WordForm.TheVariants.StoreHl place
    ∷ Rattle.statements8080.specs.internal.Plans.jump
    (Rattle.asm8080.specs.declared.item.WordForm.TheVariants.JumpWhere
    Rattle.isa8080.specs.declared.instr.Condition.TheVariants.Carry) turn
    ∷ [])))
    ++ (asked_mark is_tested end ++ (planned.Reaches true ∷ [])))) loop.after loop.to
    → TurnsStand loop is_tested end turn
    (common facts (word_fact (counter_for at (loop.head).variable Address (Some (locations.Static place)))))
    from
word_turns {at = at} loop head list last is_tested end turn facts from place iterates to_known is stand =
    let loaded = word_parted listed.rest in
    let parts = code_parted (plain (compared_and_counted last) ++ stored_and_on place turn)
    (asked_mark is_tested end ++ (planned.Reaches true ∷ [])) (going listed.after.goes_on loaded.known)
    loaded.middle loaded.rest in
    let ends =
    ends_known loop is_tested end (going listed.after.goes_on parts.known) parts.middle parts.rest in
    record {
      is_at = again.lies;
      turns =
          turns_do loop from turn_facts
          (λ limit less claim t r memory below stage.
          list_then loop iterates.bound list turn_facts listed.after from listed.middle t r memory
          listed.does iterates.list_is
          iterates.list_types iterates.list_stands iterates.list_fits (omega (arith, below, less)) stage
          (λ u now memory_now spent there.
          next limit (counts limit less claim) u now memory_now (omega (arith, spent, below)) there
          (at_site (λ site. load_word_steps site (whole (loop.head).variable)) iterates.sound loaded.first)
          parts.first (ends.goes limit)));
      label = ends.label;
      after = ends.after;
    }
  where
    counter : Counter
    counter = counter_for at (loop.head).variable Address (Some (locations.Static place))

    address : ℕ
    address = variable_address at.context (loop.head).variable

    turn_facts : Facts
    turn_facts = common facts (word_fact counter)

    rest_of_code : List Planned
    rest_of_code =
        Rattle.statements8080.specs.internal.Plans.all (compared_and_counted last)
        ++ (Rattle.statements8080.specs.internal.Plans.word
        Rattle.asm8080.specs.declared.item.WordForm.TheVariants.StoreHl place
        ∷ Rattle.statements8080.specs.internal.Plans.jump
        (Rattle.asm8080.specs.declared.item.WordForm.TheVariants.JumpWhere
        Rattle.isa8080.specs.declared.instr.Condition.TheVariants.Carry) turn
        ∷ [])

    again : MarkFirst at
        (arriving (met (known_here (record { facts = facts; goes_on = true })) (Some (word_fact counter))))
        None from turn
        (planned.List list ∷ ((planned.LoadWord (whole (loop.head).variable) ∷ rest_of_code)
        ++ (asked_mark is_tested end ++ (planned.Reaches true ∷ []))))
        loop.after loop.to
    again = again_first stand

    listed : ListFirst at (record { facts = turn_facts; goes_on = true }) None from list
        ((planned.LoadWord (whole (loop.head).variable) ∷ rest_of_code)
        ++ (asked_mark is_tested end ++ (planned.Reaches true ∷ []))) loop.after loop.to
    listed = list_first again.rest

    counted : IsCounted at.context (loop.head).variable Address
    counted = counted_as loop head list Address iterates to_known.scalar_is

    lies : counted.location ≡ locations.Static place
    lies = same_Some _ _ (sym (counted.located facts) ∙ is)

    at_place_is : address ≡ Rattle.code_meaning.specs.internal.Holding.location_at at.context.activation
        (Rattle.task_laws.specs.internal.Contexts.distances_in at.context) (locations.Static place)
    at_place_is = counted.is_there ∙ ap (Rattle.code_meaning.specs.internal.Holding.location_at at.context.activation
        (Rattle.task_laws.specs.internal.Contexts.distances_in at.context)) lies

    counts : (limit : ℕ) → limit < loop.budget → Runs loop limit from turn_facts (from_list loop)
        → CountsWords loop last limit turn turn_facts
    counts limit less claim = record {
      sound = iterates.sound;
      scalar = to_known.scalar_is;
      counted = counted;
      enough = (let enough = iterates.enough in omega (arith, enough));
      last_is = to_known.last_is;
      last_small = to_known.last_small;
      step_is = to_known.step_is;
      turns = subst (λ (place : ℕ). Runs loop limit place turn_facts (from_list loop)) (sym again.lies) claim;
      less = less;
      enters = λ r memory low high steady steady_too.
          second_meets at.context r memory facts (word_fact counter)
          (word_known at.context r memory (locations.Static place)
          (subst (λ (n : ℕ). Rattle.code_meaning.specs.internal.Holding.IsSteady at.context.activation n) at_place_is
          steady)
          (subst (λ (n : ℕ). Rattle.code_meaning.specs.internal.Holding.IsSteady at.context.activation (wrap (n + 1)))
          at_place_is steady_too)
          (low ∙ ap (Rattle.mem80.specs.Memory.byte_at memory) at_place_is)
          (high ∙ ap (λ (n : ℕ). Rattle.mem80.specs.Memory.byte_at memory (wrap (n + 1))) at_place_is));
    }

    next : {known ended : Facts} {middle over : ℕ} (limit : ℕ)
        (counting : CountsWords loop last limit turn turn_facts)
        (u : SourceState) (now : Registers) (memory_now : List ℕ)
        → u.budget ≤ limit
        → StageAt at loop.need loop.base u (listed.after).facts now memory_now
        → Steps at.context (listed.after).facts listed.middle
        (load_word_steps (knowing at.context.site (listed.after).facts) (whole (loop.head).variable)) known
        middle
        → Steps at.context known middle (plain (compared_and_counted last) ++ stored_and_on place turn) ended
        over
        → Goes loop limit ended over
        → Does (loaded_in at.context) u.budget 0 (at_place listed.middle now memory_now u.events)
        (after_list loop Onward u) (Out loop)
    next limit counting u now memory_now less there loads stands goes =
        Rattle.task_laws.proofs.Machine.Stages.does_same _
        (stepped_with_is loop Address u to_known.scalar_is
        ∙ ap (λ (one : Outcome ℕ). then_do one (stepped_with loop Address)) (to_known.step_is u))
        (steady_read (variable_place at.context (loop.head).variable) u
        (λ number v. then_do
        (write_scalar at.context.activation.around.program Address
        (variable_place at.context (loop.head).variable)
        (as_type Address (number + 1)) v)
        (λ _ w. next_turn at.context.later at.context.activation.around loop.head loop.list (number + 1) w))
        iterates.sound.sound counted.fits
        (λ steady.
        word_loaded iterates.sound.sound counted (let enough = iterates.enough in omega (arith, enough)) loads
        there steady.0 steady.1
        (λ in_hl memory_then holds on.
        counts_word loop last limit turn turn_facts place u in_hl memory_then counting
        (same_Some _ _ (sym ((counting.counted).located facts) ∙ is))
        stands less on holds.low holds.high steady.0 steady.1 goes)))
