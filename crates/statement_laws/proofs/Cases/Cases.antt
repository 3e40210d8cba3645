-- Code of DO CASE does what it says.
use Rattle.statement_laws.proofs.Prelude.{◌≡◌, ℕ, ◌+◌, ◌*◌, ◌<◌, ◌≤◌, true, nat_lt, List, [], ◌∷◌, ◌++◌, map, Option, None, refl, sym, ap, subst, ◌∙◌, arith, ltb-true, ltb-false, height_of_statements, ListsStandInCases, TypedStatements, TypesHoldInStatements, done_case, SourceState, Outcome, Gave, Flow, Onward, NoCarry, Dad, Pchl, De, Hl, Registers, State, high_byte, low_byte, word, wrap, running, AtLabel, Jump, JumpWhere, LoadPair, Range, AreStatements, Does, at_place, plain_step, word_step, after_step, no_facts_hold, Facts, LabelNumber, Step, no_facts, plain, cases_end_steps, entry_of, into_table_steps, statements_steps, table_at, table_steps, Instr, label_at, Here, Context, nodes_in, JumpThere, MarkThere, NoneThere, PlainThere, AreOnRegisters, effect, ready_with_registers, Stage, at_instructions, does_same, loaded_in, script_of, BodyContext, IsSoundBody, Leaves, IsThere, jump_item, not-false, not-true, word_of_bytes}
use Rattle.steps8080.specs.declared.step.Step.TheVariants as steps
use Rattle.statements8080.specs.declared.plan.Planned.TheVariants as planned
use Rattle.statement_laws.proofs.Cases.CaseChoices.{IsNth, enters, from_none, nth_is, past_all}
use Rattle.statement_laws.proofs.Cases.CaseTables.{EntriesStand, TableStands, behind_parted, behind_table, reaches_end, table_parted}
use Rattle.statement_laws.proofs.FirstSteps.{Stand}
use Rattle.statement_laws.proofs.Loops.PlannedParts.{code_parted}
use Rattle.statement_laws.proofs.Loops.LoopCode.{Steps, jump_then, knowing_nothing, steps_over}

-- three times a number after an address
three_times : (table n : ℕ) → wrap (wrap (wrap (wrap table + n) + n) + n) ≡ wrap (table + 3 * n)
three_times table n = omega arith

small_high : (n : ℕ) → high_byte (wrap n) < 256
small_high n = omega arith

small_low : (n : ℕ) → low_byte (wrap n) < 256
small_low n = omega arith

-- the jump into the table
abbrev pub into_table : LabelNumber → List Step
into_table table =
    steps.Jump (LoadPair Hl) table ∷ steps.Plain (Dad De) ∷ steps.Plain (Dad De)
    ∷ steps.Plain (Dad De) ∷ steps.Plain Pchl
    ∷ steps.Mark table ∷ []

-- the code goes on at the address in HL
pchl_then :
    {at : BodyContext} {base : List ℕ} {need from to : ℕ} {facts last : Facts} {others : List Step}
    {outcome : Outcome Flow}
    {Good : Flow → SourceState → State → Type 0}
    (target : ℕ) (u : SourceState) (r : Registers) (memory : List ℕ)
    → IsSoundBody at
    → word r.h r.l ≡ wrap target
    → Steps at.context facts from (steps.Plain Pchl ∷ others) last to
    → Stage at.context at.context.activation.level 0 need base u facts r memory
    → (Stage at.context at.context.activation.level 0 need base u no_facts r memory
    → Does (loaded_in at.context) u.budget 0 (at_place target r memory u.events) outcome Good)
    → Does (loaded_in at.context) u.budget 0 (at_place from r memory u.events) outcome Good
pchl_then {at = at} {from = from} target u r memory sound hl (PlainThere there rest) stage next =
    after_step
    (plain_step (script_of at.context) at.context.activation Pchl [] from (from + 1) r memory
    u.events sound.sound.lies
    stage.ready.shares.code there
    ∙ ap (λ (pc : ℕ). running (record r { pc = pc }) memory u.events) hl)
    (next (knowing_nothing stage))

-- the table begins where this ends
table_is :
    (at : BodyContext) {from to : ℕ} {facts last : Facts} {table : LabelNumber}
    → Steps at.context facts from (into_table table) last to
    → at.context.activation.layout.place_of table.index ≡ to
table_is at
    (JumpThere one (PlainThere two (PlainThere three
    (PlainThere four (PlainThere five (MarkThere is NoneThere)))))) = is

-- HL is so many times 3 after the table, and the code goes on there
pub into_table_goes :
    {at : BodyContext} {base : List ℕ} {need from to : ℕ} {facts last : Facts} {outcome : Outcome Flow}
    {Good : Flow → SourceState → State → Type 0}
    (table : LabelNumber) (number : ℕ) (u : SourceState) (r : Registers) (memory : List ℕ)
    → IsSoundBody at
    → word r.d r.e ≡ number
    → Steps at.context facts from (into_table table) last to
    → Stage at.context at.context.activation.level 0 need base u facts r memory
    → ((now : Registers)
    → Stage at.context at.context.activation.level 0 need base u no_facts now memory
    → Does (loaded_in at.context) u.budget 0
    (at_place (at.context.activation.layout.place_of table.index + 3 * number) now memory u.events) outcome
    Good)
    → Does (loaded_in at.context) u.budget 0 (at_place from r memory u.events) outcome Good
into_table_goes {at = at} {base = base} {need = need} {from = from} {facts = facts} {outcome = outcome}
    {Good = Good} table number u r memory sound de (JumpThere there rest) stage next =
    let context : Context = at.context in
    let held = stage.ready.registers in
    let place : ℕ = context.activation.layout.place_of table.index in
    let start : Registers = record r { h = high_byte (wrap place); l = low_byte (wrap place) } in
    let n : ℕ = word r.d r.e in
    after_step
    (word_step (script_of context) context.activation (LoadPair Hl) (AtLabel table.index) [] from
    (from + 3) r memory u.events
    sound.sound.lies stage.ready.shares.code there)
    (at_instructions (Dad De ∷ Dad De ∷ Dad De ∷ []) (steps.Plain Pchl ∷ steps.Mark table ∷ []) sound.sound
    (tt, (tt, (tt, tt)))
    rest
    (loaded start refl refl refl refl stage place)
    (λ middle found steps_left added.
    pchl_then (place + 3 * number) u (effect (Dad De ∷ Dad De ∷ Dad De ∷ []) start) memory sound
    (word_of_bytes (wrap (word (high_byte
    (wrap (word (high_byte (wrap (word start.h start.l + n))) (low_byte (wrap (word start.h start.l + n)))
    + n)))
    (low_byte (wrap (word (high_byte (wrap (word start.h start.l + n)))
    (low_byte (wrap (word start.h start.l + n))) + n))) + n))
    ∙ ap (λ (x : ℕ). wrap (x + n))
    (word_of_bytes (wrap (word (high_byte (wrap (word start.h start.l + n)))
    (low_byte (wrap (word start.h start.l + n))) + n))
    ∙ ap (λ (x : ℕ). wrap (x + n)) (word_of_bytes (wrap (word start.h start.l + n))
    ∙ ap (λ (x : ℕ). wrap (x + n)) (word_of_bytes (wrap place))))
    ∙ three_times place n
    ∙ ap (λ (x : ℕ). wrap (place + 3 * x)) de)
    steps_left added
    (λ there_now. next (effect (Dad De ∷ Dad De ∷ Dad De ∷ []) start) there_now)))
  where
    loaded : (start : Registers) → start.sp ≡ r.sp → start.a ≡ r.a → start.flags ≡ r.flags
        → start ≡ record r { h = start.h; l = start.l }
        → Stage at.context at.context.activation.level 0 need base u facts r memory → (place : ℕ)
        → Stage at.context at.context.activation.level 0 need base u
        (Rattle.steps8080.specs.internal.Facts.without_hl facts)
        (record r { h = high_byte (wrap place); l = low_byte (wrap place) }) memory
    loaded start sp a flags same stage place =
        let held = stage.ready.registers in
        record {
          below = stage.below;
          room = stage.room;
          ready = ready_with_registers refl
              (record { a = held.a; b = held.b; c = held.c; d = held.d; e = held.e; h = small_high place; l = small_low place }) stage.ready;
          known = Rattle.code_meaning.proofs.Facts.Changes.without_hl_holds facts stage.known;
        }

-- what DO CASE asks of its parts
pub record CaseParts (at : BodyContext) (list : Range) (bound : ℕ) (trees : TypedStatements) : Type 0 where
  pub sound : IsSoundBody at
  pub are : AreStatements (nodes_in at.context) at.context.storage at.labels bound list.first list.count trees
  pub types : TypesHoldInStatements at.context.typed at.context.within trees
  pub lists : ListsStandInCases trees

-- the statement of a number is entered by way of the table
pub number_enters :
    {at : BodyContext} {base : List ℕ} {to need bound from middle beyond budget : ℕ} {after : Here}
    {trees : TypedStatements}
    {facts last : Facts} {waiting : Option Facts}
    {others : List Rattle.statements8080.specs.declared.plan.Planned.Planned} {here end_here : Here}
    (list : Range) (table own end : LabelNumber) (number : ℕ) (u : SourceState)
    (r : Registers) (memory : List ℕ)
    → CaseParts at list bound trees
    → 2 + 2 * height_of_statements trees ≤ need
    → Steps at.context facts from (into_table table) last middle
    → TableStands at (λ (n : ℕ). entry_of at.body list n (label_at own n) end) here waiting middle 0
    list.count others end_here to
    → EntriesStand at list own end beyond 0 list.count after to
    → number < list.count
    → word r.d r.e ≡ number
    → u.budget ≤ budget
    → Stage at.context at.context.activation.level 0 need base u facts r memory
    → Does (loaded_in at.context) u.budget 0 (at_place from r memory u.events)
    (done_case at.context.later at.context.activation.around trees number u) (Leaves at base to after budget)
number_enters {at = at} {base = base} {to = to} {need = need} {bound = bound} {middle = middle}
    {budget = budget} {after = after} {trees = trees} list table own end number u r memory parts fits into
    stands entries less de fewer stage =
    let its : IsNth at list.first number bound trees =
    nth_is at bound list.first list.count trees number parts.are parts.types parts.lists less in
    let height = its.height in
    let is_table : at.context.activation.layout.place_of table.index ≡ middle = table_is at into in
    does_same _ (its.means u)
    (into_table_goes table number u r memory parts.sound de into stage
    (λ now there.
    let jump = subst (λ (n : ℕ). IsThere at.context.activation
    (jump_item Jump (entry_of at.body list n (label_at own n) end) ∷ []) (middle + 3 * number)
    (middle + 3 * number + 3)) (from_none number)
    (stands.jumps number less) in
    enters (at.context.activation.layout.place_of table.index + 3 * number) list own end number u now memory
    parts.sound entries less its (omega (arith, fits, height)) fewer there
    (ap (λ (place : ℕ). Rattle.isa8080.specs.Step.step_of (script_of at.context)
    (at_place (place + 3 * number) now memory u.events)) is_table
    ∙ word_step (script_of at.context) at.context.activation Jump
    (AtLabel (entry_of at.body list number (label_at own number) end).index) [] (middle + 3 * number)
    (middle + 3 * number + 3) now memory
    u.events parts.sound.sound.lies there.ready.shares.code jump)))

-- the whole code of a choice that is not known, after the code of its number
pub record ChoiceStands
    (at : BodyContext) (list : Range) (table own end : LabelNumber) (before : Facts) (code : List Step)
    (from : ℕ) (after : Here) (to : ℕ) : Type 0 where
  pub known : Facts
  pub middle : ℕ
  pub code_stands : Steps at.context before from code known middle
  pub into_known : Facts
  pub into_end : ℕ
  pub into : Steps at.context known middle (into_table table) into_known into_end
  pub stands : TableStands at (λ (n : ℕ). entry_of at.body list n (label_at own n) end)
      (record { facts = into_known; goes_on = true }) None
      into_end 0 list.count (behind_table at list own end 0 list.count) after to
  pub entries : EntriesStand at list own end (into_end + 3 * list.count) 0 list.count after to

pub choice_parted :
    {at : BodyContext} {after : Here} {to : ℕ} (list : Range) (table own end : LabelNumber) (before : Facts)
    (code : List Step) (from : ℕ)
    → IsSoundBody at
    → Stand at (record { facts = before; goes_on = true }) None from
    (map planned.Code code ++ (into_table_steps table
    ++ (table_steps at.body list own end ++ (statements_steps at.body list own end ++ cases_end_steps end))))
    after to
    → ChoiceStands at list table own end before code from after to
unfolding into_table_steps table_steps table_at statements_steps
choice_parted {at = at} list table own end before code from sound stand =
    let first = code_parted code (into_table_steps table
    ++ (table_steps at.body list own end ++ (statements_steps at.body list own end ++ cases_end_steps end)))
    (record { facts = before; goes_on = true }) from stand in
    let second = code_parted (into_table table)
    (table_steps at.body list own end ++ (statements_steps at.body list own end ++ cases_end_steps end))
    (record { facts = first.known; goes_on = true }) first.middle first.rest in
    let jumps =
    table_parted (λ (n : ℕ). entry_of at.body list n (label_at own n) end)
    (record { facts = second.known; goes_on = true })
    second.middle 0 list.count second.rest in
    record {
      known = first.known;
      middle = first.middle;
      code_stands = first.first;
      into_known = second.known;
      into_end = second.middle;
      into = second.first;
      stands = jumps;
      entries =
          behind_parted list own end list.count 0 (record { facts = jumps.known; goes_on = true })
          (second.middle + 3 * list.count) sound
          (from_none list.count) jumps.rest;
    }

-- the number is in DE, and below the number of statements
pub chosen :
    {at : BodyContext} {base : List ℕ} {to need bound from budget : ℕ} {after : Here}
    {trees : TypedStatements} {before facts : Facts}
    {code : List Step} {place : ℕ} {memory : List ℕ}
    (list : Range) (table own end : LabelNumber) (number : ℕ) (u : SourceState) (r : Registers)
    → CaseParts at list bound trees
    → 2 + 2 * height_of_statements trees ≤ need
    → (stands : ChoiceStands at list table own end before code from after to)
    → Steps at.context facts place [] stands.known stands.middle
    → number < list.count
    → word r.d r.e ≡ number
    → u.budget ≤ budget
    → Stage at.context at.context.activation.level 0 need base u facts r memory
    → Does (loaded_in at.context) u.budget 0 (at_place place r memory u.events)
    (done_case at.context.later at.context.activation.around trees number u) (Leaves at base to after budget)
chosen {at = at} {base = base} {to = to} {need = need} {budget = budget} {after = after} {trees = trees}
    {memory = memory} list table own end number u r parts fits stands over_code less de fewer stage =
    let over = steps_over over_code in
    subst (λ (n : ℕ). Does (loaded_in at.context) u.budget 0 (at_place n r memory u.events)
    (done_case at.context.later at.context.activation.around trees number u)
    (Leaves at base to after budget)) (sym over.1)
    (number_enters list table own end number u r memory parts fits stands.into stands.stands
    stands.entries less de fewer
    (subst (λ (facts : Facts). Stage at.context at.context.activation.level 0 need base u facts r memory)
    over.0 stage))

-- what compares the number with that of the statements, the jump to the end, and what brings the number into
-- DE
abbrev pub bounded : (compare bring : List Instr) → (end : LabelNumber) → List Step
bounded compare bring end = plain compare ++ (steps.Jump (JumpWhere NoCarry) end ∷ (plain bring ++ []))

-- a number that is compared
pub bounded_goes :
    {at : BodyContext} {base : List ℕ} {to need bound from budget : ℕ} {after : Here}
    {trees : TypedStatements} {before facts : Facts}
    {code : List Step} {place : ℕ} {memory : List ℕ}
    (list : Range) (table own end : LabelNumber) (compare bring : List Instr) (number : ℕ)
    (u : SourceState) (r : Registers)
    → CaseParts at list bound trees
    → 2 + 2 * height_of_statements trees ≤ need
    → (stands : ChoiceStands at list table own end before code from after to)
    → Steps at.context facts place (bounded compare bring end) stands.known stands.middle
    → AreOnRegisters compare
    → AreOnRegisters bring
    → (effect compare r).flags.cy ≡ nat_lt number list.count
    → word (effect bring (effect compare r)).d (effect bring (effect compare r)).e ≡ number
    → u.budget ≤ budget
    → Stage at.context at.context.activation.level 0 need base u facts r memory
    → Does (loaded_in at.context) u.budget 0 (at_place place r memory u.events)
    (done_case at.context.later at.context.activation.around trees number u) (Leaves at base to after budget)
bounded_goes {at = at} {base = base} {to = to} {need = need} {bound = bound} {budget = budget} {after = after}
    {trees = trees} {memory = memory} list table own end compare bring number u r parts fits stands
    code_stands on on_too flag de fewer stage =
    at_instructions compare (steps.Jump (JumpWhere NoCarry) end ∷ (plain bring ++ [])) parts.sound.sound
    on code_stands stage
    (λ middle found rest compared.
    jump_then parts.sound.sound rest compared
    (λ taken step.
    let past = ltb-false number list.count (sym flag ∙ not-true (effect compare r).flags.cy taken) in
    does_same (Gave Onward u) (past_all at bound list.first list.count trees number u parts.are past)
    (after_step (step ∙ ap (λ (n : ℕ). at_place n (effect compare r) memory u.events) (stands.entries).end_is)
    (reaches_end u (effect compare r) memory (stands.entries).after_is compared)))
    (λ passed rest_two.
    let less = ltb-true number list.count (sym flag ∙ not-false (effect compare r).flags.cy passed) in
    at_instructions bring [] parts.sound.sound on_too rest_two compared
    (λ middle_two found_two over_code brought.
    chosen list table own end number u (effect bring (effect compare r)) parts fits stands over_code
    less de fewer brought)))
