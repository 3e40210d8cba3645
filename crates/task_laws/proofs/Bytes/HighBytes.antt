-- The high byte of a value is put into A.
use Rattle.task_laws.proofs.Prelude.{◌≡◌, ℕ, ◌+◌, ◌*◌, ◌/◌, ◌%◌, ◌<◌, ◌≤◌, ◌&&◌, Bool, true, List, [], ◌∷◌, Option, Some, None, refl, sym, ap, ◌∙◌, subst, arith, MEMORY_SIZE, byte_at, byte_small, Address, height_of_reference, InData, InConstants, Placed, BasedOn, Elsewhere, Nowhere, InFrame, PartOf, TypedReference, RefersToScalar, TypesHoldInReference, InMemory, InTheFrame, SourcePlace, Surroundings, home_of, next_place, place_of, read_scalar, Displacement, based_place, displacement, SourceState, Ended, More, Outside, Outcome, Gave, Stopped, then_do, Registers, State, wrap, Location, Reference, IsReference, is_static_location, Activation, Arrives, HasRoom, Does, Loaded, loaded_of, Lands, at_place, does_without_step, told_on, IsSteady, location_at, Facts, Plain, load, part, location_of, reference_after, byte_in_memory_steps, location_byte_steps, knowing, Context, IsSound, distances_in, nodes_in, StepsStand, PartThere, AddressIsGiven, Carries, ChangesAOnly, IsReferred, Know, Nothing, PartDoes, address_on_machine, high_of_two, same_Some, two_bytes_fit, given_again}
use Rattle.typed_trees.specs.TypedTrees.{Home}
use Rattle.isa8080.specs.declared.instr.Register.TheVariants as registers
use Rattle.steps8080.specs.declared.step.Task.TheVariants as tasks
use Rattle.task_laws.proofs.Places.Fitting.{located_fits, refers_is_referred}
use Rattle.task_laws.proofs.Loads.Loads.{LiesThere, lies_there, static_only}
use Rattle.task_laws.proofs.Places.Located.{located_in}
use Rattle.task_laws.proofs.Places.LocationBytes.{load_a_goes, location_byte_goes}
use Rattle.task_laws.proofs.Stores.NextBytes.{next_part, reference_next}
use Rattle.task_laws.proofs.Places.Reading.{word_read}
use Rattle.task_laws.proofs.Machine.Rules.{GoesOn}
use Rattle.task_laws.proofs.Numbers.{one_between, wrapped_step}

one_further : (address bytes : ℕ) → (address + (bytes + 1)) % MEMORY_SIZE
    ≡ ((address + bytes) % MEMORY_SIZE + 1) % MEMORY_SIZE
one_further address bytes = omega arith

-- the place of a part one byte further on is the place after
base_next :
    (home : Home) (around : Surroundings) (object bytes : ℕ) (is_inside : Bool) (s : SourceState)
    → based_place home around object (bytes + 1) is_inside s
    ≡ then_do (based_place home around object bytes is_inside s) (λ place t. Gave (next_place place) t)
base_next (BasedOn base) around object bytes is_inside s =
    by (read_scalar around.program Address (place_of around base) s)
  where
    by : (outcome : Outcome ℕ)
        → then_do outcome (λ start t. Gave (InMemory ((start + (bytes + 1)) % MEMORY_SIZE)) t)
        ≡ then_do (then_do outcome (λ start t. Gave (InMemory ((start + bytes) % MEMORY_SIZE)) t))
        (λ place t. Gave (next_place place) t)
    by (Gave start t) = ap (λ (n : ℕ). Gave (InMemory n) t) (one_further start bytes)
    by (Stopped why t) = refl
base_next (InFrame procedure) around object bytes is_inside s = refl
base_next (InData values) around object bytes is_inside s =
    ap (λ (n : ℕ). Gave (InMemory n) s) (one_further _ bytes)
base_next (InConstants values) around object bytes is_inside s =
    ap (λ (n : ℕ). Gave (InMemory n) s) (one_further _ bytes)
base_next (Placed at) around object bytes is_inside s =
    ap (λ (n : ℕ). Gave (InMemory n) s) (one_further _ bytes)
base_next Elsewhere around object bytes is_inside s =
    ap (λ (n : ℕ). Gave (InMemory n) s) (one_further _ bytes)
base_next Nowhere around object bytes is_inside s = ap (λ (n : ℕ). Gave (InMemory n) s) (one_further _ bytes)

-- so a part one byte further on is at the place after
pub next_located :
    (context : Context) (part : TypedReference) (s : SourceState)
    → located_in context (next_part part) s
    ≡ then_do (located_in context part s) (λ place t. Gave (next_place place) t)
next_located context (PartOf object first member offset second) s =
    by_one (displacement context.later context.activation.around first s)
  where
    around : Surroundings
    around = context.activation.around

    by_two : (one : Displacement) (outcome : Outcome Displacement)
        → then_do outcome
        (λ two u. based_place (home_of around object) around object (one.bytes + (offset + 1) + two.bytes)
        (one.is_inside && two.is_inside) u)
        ≡ then_do (then_do outcome
        (λ two u. based_place (home_of around object) around object (one.bytes + offset + two.bytes)
        (one.is_inside && two.is_inside) u)) (λ place t. Gave (next_place place) t)
    by_two one (Gave two u) =
        ap (λ (n : ℕ). based_place (home_of around object) around object n (one.is_inside && two.is_inside) u)
        (one_between one.bytes offset two.bytes)
        ∙ base_next (home_of around object) around object (one.bytes + offset + two.bytes)
        (one.is_inside && two.is_inside) u
    by_two one (Stopped why u) = refl

    by_one : (outcome : Outcome Displacement)
        → then_do outcome
        (λ one t. then_do (displacement context.later around second t)
        (λ two u. based_place (home_of around object) around object (one.bytes + (offset + 1) + two.bytes)
        (one.is_inside && two.is_inside) u))
        ≡ then_do (then_do outcome
        (λ one t. then_do (displacement context.later around second t)
        (λ two u. based_place (home_of around object) around object (one.bytes + offset + two.bytes)
        (one.is_inside && two.is_inside) u))) (λ place t. Gave (next_place place) t)
    by_one (Gave one t) = by_two one (displacement context.later around second t)
    by_one (Stopped why t) = refl

-- at the address after
pub next_on_machine :
    (activation : Activation) (place : SourcePlace)
    → address_on_machine activation (next_place place) ≡ wrap (address_on_machine activation place + 1)
next_on_machine activation (InMemory address) = refl
next_on_machine activation (InTheFrame object offset is_inside) =
    wrapped_step (activation.level + activation.distance object) offset

pub next_is_referred : (context : Context) (part : TypedReference) → IsReferred context part
    → IsReferred context (next_part part)
next_is_referred context (PartOf object first member offset second) is = is

next_types :
    (context : Context) (part : TypedReference)
    → TypesHoldInReference context.typed context.within part
    → TypesHoldInReference context.typed context.within (next_part part)
next_types context (PartOf object first member offset second) types = types

pub next_height : (part : TypedReference) → height_of_reference (next_part part) ≡ height_of_reference part
next_height (PartOf object first member offset second) = refl

-- code that locates the next place, and then code for the place itself
through_next :
    {B : Type 0} {loaded : Loaded} {budget more : ℕ} {from : State} (outcome : Outcome SourcePlace)
    {go : SourcePlace → SourceState → Outcome B} {Middle : SourcePlace → SourceState → State → Type 0}
    {Good : B → SourceState → State → Type 0}
    → Does loaded budget 0 from (then_do outcome (λ place t. Gave (next_place place) t)) Middle
    → ((place : SourcePlace) (t : SourceState) (end : State) → outcome ≡ Gave place t
    → Middle (next_place place) t end
    → t.budget ≤ budget → Does loaded t.budget more end (go place t) Good)
    → Does loaded budget more from (then_do outcome go) Good
through_next {loaded = loaded} {budget = budget} {more = more} {from = from} (Gave place t) {go = go}
    {Middle = Middle} {Good = Good} does rest =
    let first : Lands loaded.program.script budget 0 from t.budget (Middle (next_place place) t) =
    does.told in
    let second = rest place t first.end refl first.is_good first.spent in
    record {
      told = told_on loaded first t.budget more (go place t) Good (omega arith) (omega arith) second.told;
    }
through_next (Stopped Ended t) does rest = record { told = does.told }
through_next (Stopped More t) does rest = record { told = does.told }
through_next (Stopped (Outside reason) t) does rest = record { told = tt }

-- the place that an outcome gives, and its state
abbrev place_given : (other : SourcePlace) → Outcome SourcePlace → SourcePlace
place_given other (Gave place t) = place
place_given other (Stopped why t) = other

abbrev state_given : (other : SourceState) → Outcome SourcePlace → SourceState
state_given other (Gave place t) = t
state_given other (Stopped why t) = other

stopped_never : {A : Type 0} {why : _} {found : A} {t u : SourceState} → Stopped why t ≡ Gave found u → ⊥
stopped_never same = cc

-- the high byte of an ADDRESS in memory is in A
pub record HighIsLoaded
    (context : Context) (before after : Facts) (reference : Reference)
    (r : Registers) (memory : List ℕ) (found : ℕ) (now : Registers) (memory_now : List ℕ) : Type 0 where
  pub a : now.a ≡ found / 256
  pub small : found < 65536
  pub known : Know context after now memory_now
  pub free : (location : Location) → location_of (knowing context.site before) (reference_after reference 1)
      ≡ Some location
      → is_static_location location ≡ true → ChangesAOnly r memory now memory_now

-- The code of the high byte of an ADDRESS in memory.
pub high_in_memory_law :
    {context : Context} {facts last : Facts} {reference : Reference} {pushed from to bound : ℕ}
    {part_of : TypedReference}
    → IsSound context
    → StepsStand context (PartDoes context) facts from
    (byte_in_memory_steps (knowing context.site facts) (reference_after reference 1) pushed) last to
    → IsReference (nodes_in context) context.storage bound reference part_of
    → RefersToScalar context.typed context.within Address part_of
    → TypesHoldInReference context.typed context.within part_of
    → Carries context facts pushed (2 * height_of_reference part_of) 0 from to Nothing
    (λ s. then_do (located_in context part_of s)
    (λ place t. read_scalar context.activation.around.program Address place t))
    (HighIsLoaded context facts last reference)
high_in_memory_law {context = context} {facts = facts} {last = last} {reference = reference} {pushed = pushed}
    {from = from} {to = to} {bound = bound} {part_of = part_of} sound stand is refers types top base s r
    memory less room ready known asked =
    by_location (location_of (knowing context.site facts) (reference_after reference 1)) refl stand
  where
    next_is : IsReference (nodes_in context) context.storage bound
        (reference_after reference 1) (next_part part_of)
    next_is = reference_next (nodes_in context) context.storage bound reference part_of is

    referred : IsReferred context (next_part part_of)
    referred = next_is_referred context part_of (refers_is_referred context Address part_of refers)

    -- the end, where the high byte is in A
    ends :
        (place : SourcePlace) (t : SourceState) (now : Registers) (ended : List ℕ) (finish : ℕ)
        → now.a ≡ byte_at ended (wrap (address_on_machine context.activation place + 1))
        → ((location : Location) → location_of (knowing context.site facts) (reference_after reference 1)
        ≡ Some location
        → is_static_location location ≡ true → ChangesAOnly r memory now ended)
        → GoesOn context last top base t.memory t.frame now ended
        → Does (loaded_of context.activation) t.budget 0 (at_place finish now ended t.events)
        (Gave (byte_at ended (address_on_machine context.activation place)
        + 256 * byte_at ended (wrap (address_on_machine context.activation place + 1))) t)
        (Arrives context.activation top base finish (HighIsLoaded context facts last reference r memory))
    ends place t now ended finish a free on =
        let low = byte_small ended (address_on_machine context.activation place) on.ready.shares.is_memory in
        let high =
        byte_small ended (wrap (address_on_machine context.activation place + 1))
        on.ready.shares.is_memory in
        does_without_step (record {
          r = now;
          memory = ended;
          is_at = refl;
          ready = on.ready;
          holds = record {
            a = a ∙ high_of_two (byte_at ended (address_on_machine context.activation place))
                (byte_at ended (wrap (address_on_machine context.activation place + 1))) low;
            small = two_bytes_fit (byte_at ended (address_on_machine context.activation place))
                (byte_at ended (wrap (address_on_machine context.activation place + 1))) low high;
            known = on.known;
            free = free;
          };
        })

    by_location : (found : Option Location)
        → location_of (knowing context.site facts) (reference_after reference 1) ≡ found
        → StepsStand context (PartDoes context) facts from
        (elim found [
          | Some location ↦ location_byte_steps (knowing context.site facts) location pushed
          | None ↦ part (tasks.Address (reference_after reference 1)) pushed ∷ Plain (load registers.A) ∷ []
        ]) last to
        → Does (loaded_of context.activation) s.budget 0 (at_place from r memory s.events)
        (then_do (located_in context part_of s)
        (λ place t. read_scalar context.activation.around.program Address place t))
        (Arrives context.activation top base to (HighIsLoaded context facts last reference r memory))
    by_location (Some location) found stand =
        by_outcome (located_in context part_of s) refl (sym (next_located context part_of s) ∙ lies.means s)
      where
        lies : LiesThere context (next_part part_of) location
        lies = lies_there facts location sound next_is referred (next_types context part_of types) found

        by_outcome : (outcome : Outcome SourcePlace) → located_in context part_of s ≡ outcome
            → then_do outcome (λ place t. Gave (next_place place) t) ≡ Gave lies.place s
            → Does (loaded_of context.activation) s.budget 0 (at_place from r memory s.events)
            (then_do outcome (λ place t. read_scalar context.activation.around.program Address place t))
            (Arrives context.activation top base to (HighIsLoaded context facts last reference r memory))
        by_outcome (Stopped why t) here same = absurd (stopped_never same)
        by_outcome (Gave place t) here same =
            let place_is : next_place place ≡ lies.place = ap (place_given lies.place) same in
            let state_is : t ≡ s = ap (state_given s) same in
            let is_at : wrap (address_on_machine context.activation place + 1)
            ≡ location_at context.activation (distances_in context) location =
            sym (next_on_machine context.activation place)
            ∙ ap (address_on_machine context.activation) place_is ∙ lies.is_at in
            let found_here : located_in context part_of s ≡ Gave place s =
            here ∙ ap (λ (u : SourceState). Gave place u) state_is in
            let fits = located_fits context Address part_of place s s sound refers found_here in
            let going : GoesOn context facts top base s.memory s.frame r memory =
            record { ready = ready; known = known } in
            subst (λ (u : SourceState). Does (loaded_of context.activation) s.budget 0
            (at_place from r memory s.events)
            (read_scalar context.activation.around.program Address place u)
            (Arrives context.activation top base to (HighIsLoaded context facts last reference r memory)))
            (sym state_is)
            (subst (λ (given : Outcome ℕ). Does (loaded_of context.activation) s.budget 0
            (at_place from r memory s.events) given
            (Arrives context.activation top base to (HighIsLoaded context facts last reference r memory)))
            (given_again (read_scalar context.activation.around.program Address place s))
            (word_read place s (λ n u. Gave n u) sound ready fits
            (λ low_steady high_steady.
            let steady = subst (λ (n : ℕ). IsSteady context.activation n) is_at high_steady in
            location_byte_goes facts location r sound room
            (subst (λ (n : ℕ). n < MEMORY_SIZE) is_at (omega arith))
            (subst (λ (n : ℕ). IsSteady context.activation n) is_at high_steady)
            known stand going
            (λ now loaded on. ends place s now memory to (loaded.a ∙ ap (byte_at memory) (sym is_at))
            (λ other other_is static. loaded.others
            (ap is_static_location (same_Some _ _ (sym found ∙ other_is)) ∙ static)) on))))
    by_location None found (PartThere {found = found_there} {middle = middle} does stand) =
        through_next (located_in context part_of s)
        (subst (λ (outcome : Outcome SourcePlace). Does (loaded_of context.activation) s.budget 0
        (at_place from r memory s.events) outcome
        (Arrives context.activation top base middle
        (AddressIsGiven context found_there (reference_after reference 1) r memory)))
        (next_located context part_of s)
        (does bound (next_part part_of) next_is referred (next_types context part_of types) top
        base s r memory less
        (subst (λ (height : ℕ). HasRoom context.activation top pushed (2 * height))
        (sym (next_height part_of)) room) ready known tt))
        (λ place t end same given fewer.
        let there : Registers = given.r in
        let ended : List ℕ = given.memory in
        let hl = (given.holds).hl ∙ next_on_machine context.activation place in
        let fits = located_fits context Address part_of place s t sound refers same in
        subst (λ (state : State). Does (loaded_of context.activation) t.budget 0 state
        (read_scalar context.activation.around.program Address place t)
        (Arrives context.activation top base to (HighIsLoaded context facts last reference r memory)))
        (sym given.is_at)
        (subst (λ (outcome : Outcome ℕ). Does (loaded_of context.activation) t.budget 0
        (at_place middle there ended t.events) outcome
        (Arrives context.activation top base to (HighIsLoaded context facts last reference r memory)))
        (given_again (read_scalar context.activation.around.program Address place t))
        (word_read place t (λ n u. Gave n u) sound given.ready fits
        (λ low_steady high_steady.
        load_a_goes (wrap (address_on_machine context.activation place + 1)) there sound high_steady hl stand
        (record { ready = given.ready; known = (given.holds).known })
        (λ now loaded on. ends place t now ended to loaded.a
        (λ other other_is static. static_only found other_is) on)))))
