-- What code of loops does that comes to the address of the variable, to a byte that it changes, and to a
-- jump.
use Rattle.statement_laws.proofs.Prelude.{◌≡◌, ℕ, ◌+◌, ◌*◌, ◌<◌, ◌≤◌, Bool, true, false, Option, Some, None, if◌then◌else◌, List, [], ◌∷◌, slice_set, refl, sym, ap, subst, ◌∙◌, arith, byte_at, byte_small, Location, IsSteady, address_asks, load, knowing, Event, height_of_reference, SourcePlace, write_byte, SourceState, Outcome, Gave, then_do, ScalarType, Condition, Instr, HoldBytes, Registers, State, holds, word, wrap, act, step_of, AtLabel, Jump, JumpWhere, size_of_instruction, Does, at_place, IsReady, jump_passed, word_step, Asks, IsSteadyByte, no_facts_hold, Facts, LabelNumber, Step, after, no_facts, keeps_of_address, location_of, whole, Context, IsSound, distances_in, StepsStand, NoneThere, PlainThere, JumpThere, MarkThere, PartThere, AddressIsGiven, Know, Left, PartDoes, address_on_machine, FitsIn, plain_goes, ready_with_registers, Stage, at_carried, at_registers, loaded_in, script_of, byte_written, same_given}
use Rattle.isa8080.specs.declared.instr.Register.TheVariants as registers
use Rattle.steps8080.specs.declared.step.Step.TheVariants as steps
use Rattle.steps8080.specs.declared.step.Task.TheVariants as tasks
use Rattle.statement_laws.proofs.Loops.CountedVariables.{IsCounted, location_is, variable_address, whole_is, whole_tree, whole_types}

-- steps that stand in a context, whose parts do what they mean
abbrev pub Steps : Context → Facts → (from : ℕ) → List Step → Facts → (to : ℕ) → Type 0
Steps context facts from list last to = StepsStand context (PartDoes context) facts from list last to

-- the address of a part of an object
abbrev pub address_step : (object : ℕ) → Step
address_step object = steps.Part (record { task = tasks.Address (whole object); pushed = 0 })

-- what is after the address of the variable
pub record HoldsAddress
    (context : Context) (variable : ℕ) (r now : Registers) : Type 0 where
  pub hl : word now.h now.l ≡ variable_address context variable
  pub a : Left (keeps_of_address context.site (whole variable)).a r.a now.a
  pub d : Left (keeps_of_address context.site (whole variable)).de r.d now.d
  pub e : Left (keeps_of_address context.site (whole variable)).de r.e now.e

same_state : {one other : SourcePlace} {t u : SourceState} → Gave one t ≡ Gave other u → t ≡ u
same_state same = cc

-- the address of the variable comes into HL
pub address_then :
    {A : Type 0} {context : Context} {top need more from to : ℕ} {base : List ℕ} {t : SourceState}
    {facts last : Facts}
    {r : Registers} {memory : List ℕ} {variable : ℕ} {scalar : ScalarType} {others : List Step}
    {outcome : Outcome A}
    {Good : A → SourceState → State → Type 0}
    → IsCounted context variable scalar
    → 2 ≤ need
    → Steps context facts from (address_step variable ∷ others) last to
    → Stage context top 0 need base t facts r memory
    → ((found : Facts) (middle : ℕ) (now : Registers) (memory_now : List ℕ)
    → Steps context found middle others last to
    → HoldsAddress context variable r now
    → Stage context top 0 need base t found now memory_now
    → Does (loaded_in context) t.budget more (at_place middle now memory_now t.events) outcome Good)
    → Does (loaded_in context) t.budget more (at_place from r memory t.events) outcome Good
address_then {A = A} {context = context} {top = top} {need = need} {more = more} {from = from} {base = base}
    {t = t} {r = r} {memory = memory} {variable = variable} {outcome = outcome} {Good = Good} counted enough
    (PartThere {found = found} {middle = middle} does rest) stage next =
    let fewer : 2 * height_of_reference (whole_tree variable) ≤ need = enough in
    subst (λ (one : Outcome A). Does (loaded_in context) t.budget more
    (at_place from r memory t.events) one Good)
    (ap (λ (one : Outcome SourcePlace). then_do one (λ _ _. outcome)) (counted.means t))
    (at_carried from middle found
    (does 0 (whole_tree variable) (whole_is context 0 variable) counted.referred
    (whole_types context variable))
    fewer tt
    (λ place now memory_now (given : AddressIsGiven context found (whole variable) r memory place now memory_now). given.known)
    stage
    (λ place u now memory_now is given there.
    let same : u ≡ t = same_state (sym is ∙ counted.means t) in
    let holds : HoldsAddress context variable r now = record {
      hl = given.hl ∙ ap (address_on_machine context.activation) (same_given (sym is ∙ counted.means t));
      a = given.a;
      d = given.d;
      e = given.e;
    } in
    subst (λ (one : SourceState). Does (loaded_in context) one.budget more
    (at_place middle now memory_now one.events) outcome Good)
    (sym same)
    (next found middle now memory_now rest holds
    (subst (λ (one : SourceState). Stage context top 0 need base one found now memory_now) same there))))

-- an instruction that changes the byte of a place, whose address is in HL
pub byte_then :
    {A : Type 0} {context : Context} {top need more from to : ℕ} {base : List ℕ} {t : SourceState}
    {facts last : Facts}
    {r : Registers} {memory : List ℕ} {others : List Step} {i : Instr}
    {Good : A → SourceState → State → Type 0}
    (place : SourcePlace) (byte : ℕ) (now : Registers) (go : Unit {0} → SourceState → Outcome A)
    → IsSound context
    → byte < 256
    → word r.h r.l ≡ address_on_machine context.activation place
    → FitsIn context.activation 1 place
    → Steps context facts from (steps.Plain i ∷ others) last to
    → Stage context top 0 need base t facts r memory
    → now.sp ≡ r.sp
    → HoldBytes now
    → (IsSteadyByte context.activation (word r.h r.l) → Asks context.activation (distances_in context) facts i
    (record r { pc = wrap (from + size_of_instruction i) }))
    → ((events : List Event) → act (script_of context) i
    (at_place (from + size_of_instruction i) r memory events)
    ≡ at_place (from + size_of_instruction i) now (slice_set memory (word r.h r.l) byte) events)
    → ((u : SourceState)
    → u.budget ≡ t.budget
    → IsSteadyByte context.activation (word r.h r.l)
    → Steps context (after facts i) (from + size_of_instruction i) others last to
    → Stage context top 0 need base u (after facts i) now (slice_set memory (word r.h r.l) byte)
    → Does (loaded_in context) u.budget more
    (at_place (from + size_of_instruction i) now (slice_set memory (word r.h r.l) byte) u.events) (go tt u)
    Good)
    → Does (loaded_in context) t.budget more (at_place from r memory t.events)
    (then_do (write_byte context.activation.around.program place byte t) go) Good
byte_then {context = context} {top = top} {need = need} {more = more} {from = from} {base = base} {t = t}
    {facts = facts} {r = r} {memory = memory} {i = i} {Good = Good} place byte now go sound small hl fits
    (PlainThere there rest) stage pointer bytes asks acts next =
    let loaded = loaded_in context in
    let middle : ℕ = from + size_of_instruction i in
    let left : List ℕ = slice_set memory (word r.h r.l) byte in
    byte_written place byte t go sound small stage.ready fits
    (λ u events_same budget_same steady ready.
    let is_steady : IsSteadyByte context.activation (word r.h r.l) =
    subst (λ (n : ℕ). IsSteadyByte context.activation n) (sym hl) steady in
    let is_ready : IsReady context.activation top base u.memory u.frame r left =
    subst (λ (n : ℕ). IsReady context.activation top base u.memory u.frame r (slice_set memory n byte))
    (sym hl) ready in
    plain_goes r now left t.events sound there (record { ready = stage.ready; known = stage.known })
    (asks is_steady) (acts t.events)
    (λ known.
    subst (λ (events : List Event). Does loaded t.budget more (at_place middle now left events)
    (go tt u) Good) events_same
    (subst (λ (budget : ℕ). Does loaded budget more (at_place middle now left u.events) (go tt u) Good)
    budget_same
    (next u budget_same is_steady rest
    (record {
      below = (let below = stage.below in omega (arith, below, budget_same));
      room = stage.room;
      ready = ready_with_registers pointer bytes is_ready;
      known = known;
    })))))

-- a jump where a condition holds
pub jump_then :
    {A : Type 0} {context : Context} {top need budget more from to : ℕ} {base : List ℕ} {t : SourceState}
    {facts last : Facts}
    {r : Registers} {memory : List ℕ} {others : List Step} {c : Condition} {label : LabelNumber}
    {outcome : Outcome A}
    {Good : A → SourceState → State → Type 0}
    → IsSound context
    → Steps context facts from (steps.Jump (JumpWhere c) label ∷ others) last to
    → Stage context top 0 need base t facts r memory
    → (holds c r.flags ≡ true
    → step_of (script_of context) (at_place from r memory t.events)
    ≡ at_place (context.activation.layout.place_of label.index) r memory t.events
    → Does (loaded_in context) budget more (at_place from r memory t.events) outcome Good)
    → (holds c r.flags ≡ false
    → Steps context facts (from + 3) others last to
    → Does (loaded_in context) budget more (at_place (from + 3) r memory t.events) outcome Good)
    → Does (loaded_in context) budget more (at_place from r memory t.events) outcome Good
jump_then {context = context} {budget = budget} {more = more} {from = from} {t = t} {r = r} {memory = memory}
    {c = c} {label = label} {outcome = outcome} {Good = Good} sound (JumpThere there rest)
    stage taken passed =
    by (holds c r.flags) refl
  where
    by : (jumps : Bool) → holds c r.flags ≡ jumps
        → Does (loaded_in context) budget more (at_place from r memory t.events) outcome Good
    by true is =
        taken is
        (word_step (script_of context) context.activation (JumpWhere c) (AtLabel label.index) [] from
        (from + 3) r memory t.events
        sound.lies stage.ready.shares.code there
        ∙ ap (λ b. if b then at_place (context.activation.layout.place_of label.index) r memory t.events
        else at_place (from + 3) r memory t.events) is)
    by false is = jump_passed r sound.lies stage.ready.shares.code there is (passed is rest)

-- a jump
pub jump_always :
    {context : Context} {top need from to : ℕ} {base : List ℕ} {t : SourceState} {facts last : Facts}
    {r : Registers} {memory : List ℕ} {others : List Step} {label : LabelNumber}
    → IsSound context
    → Steps context facts from (steps.Jump Jump label ∷ others) last to
    → Stage context top 0 need base t facts r memory
    → (step_of (script_of context) (at_place from r memory t.events)
    ≡ at_place (context.activation.layout.place_of label.index) r memory t.events)
    × Steps context no_facts (from + 3) others last to
jump_always {context = context} {from = from} {t = t} {r = r} {memory = memory} {label = label} sound
    (JumpThere there rest) stage = (
      word_step (script_of context) context.activation Jump (AtLabel label.index) [] from
          (from + 3) r memory t.events
          sound.lies stage.ready.shares.code there,
      rest,
    )

-- nothing is known any more
pub knowing_nothing :
    {context : Context} {top need : ℕ} {base : List ℕ} {t : SourceState} {facts : Facts}
    {r : Registers} {memory : List ℕ}
    → Stage context top 0 need base t facts r memory
    → Stage context top 0 need base t no_facts r memory
knowing_nothing stage =
    record { below = stage.below; room = stage.room; ready = stage.ready; known = no_facts_hold }

-- the place of a label
pub mark_then :
    {context : Context} {facts last : Facts} {from to : ℕ} {label : LabelNumber} {others : List Step}
    → Steps context facts from (steps.Mark label ∷ others) last to
    → (context.activation.layout.place_of label.index ≡ from) × Steps context no_facts from others last to
mark_then (MarkThere there rest) = (there, rest)

-- no more steps
pub steps_over :
    {context : Context} {facts last : Facts} {from to : ℕ}
    → Steps context facts from [] last to
    → (facts ≡ last) × (from ≡ to)
steps_over NoneThere = (refl, refl)

-- the byte at the address in HL comes into A
pub load_then :
    {A : Type 0} {context : Context} {top need budget more from to : ℕ} {base : List ℕ} {t : SourceState}
    {facts last : Facts}
    {r : Registers} {memory : List ℕ} {others : List Step} {outcome : Outcome A}
    {Good : A → SourceState → State → Type 0} (address : ℕ)
    → IsSound context
    → word r.h r.l ≡ address
    → IsSteady context.activation address
    → Steps context facts from (steps.Plain (load registers.A) ∷ others) last to
    → Stage context top 0 need base t facts r memory
    → ((found : Facts) (middle : ℕ)
    → Steps context found middle others last to
    → Stage context top 0 need base t found (record r { a = byte_at memory address }) memory
    → Does (loaded_in context) budget more
    (at_place middle (record r { a = byte_at memory address }) memory t.events) outcome Good)
    → Does (loaded_in context) budget more (at_place from r memory t.events) outcome Good
load_then {context = context} {from = from} {t = t} {facts = facts} {r = r} {memory = memory} address sound hl
    steady (PlainThere there rest) stage next =
    let held = stage.ready.registers in
    let byte : ℕ = byte_at memory address in
    at_registers (record r { a = byte }) sound stage there
    (ap (λ (n : ℕ). at_place (from + 1) (record r { a = byte_at memory n }) memory t.events) hl) refl
    (record { a = byte_small memory address stage.ready.shares.is_memory; b = held.b; c = held.c; d = held.d; e = held.e; h = held.h; l = held.l })
    (address_asks context.activation (distances_in context) facts.address_in_hl r.h r.l
    stage.known.address_holds
    (subst (λ (n : ℕ). IsSteady context.activation n) (sym hl) steady))
    (λ after. next _ _ rest after)

-- what is known of HL after the address of the variable
pub address_known :
    {context : Context} {variable : ℕ} {scalar : ScalarType} (r : Registers) (memory : List ℕ) (facts : Facts)
    (held : Option Location)
    → IsSound context
    → IsCounted context variable scalar
    → location_of (knowing context.site facts) (whole variable) ≡ held
    → word r.h r.l ≡ variable_address context variable
    → Know context (record no_facts { address_in_hl = held }) r memory
address_known r memory facts None sound counted is hl =
    record { byte_holds = tt; word_holds = tt; address_holds = tt; zero_holds = tt }
address_known r memory facts (Some location) sound counted is hl =
    record { byte_holds = tt; word_holds = tt; address_holds = hl ∙ location_is facts location sound counted is; zero_holds = tt }
