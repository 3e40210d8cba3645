-- Steps of stores: they have one step to spare.
use Rattle.task_laws.proofs.Prelude.{◌≡◌, ℕ, suc, ◌+◌, List, [], ◌∷◌, refl, subst, ◌∙◌, arith, SourceState, Ended, More, Outside, Outcome, Gave, Stopped, Instr, Registers, State, wrap, act, step_of, size_of_instruction, step_then, Reference, Does, Loaded, loaded_of, Lands, at_place, IsThere, after_step, plain_step, Asks, facts_after, Facts, after, keeps_of_address, knowing, Context, IsSound, distances_in, Know}
use Rattle.asm8080.specs.declared.item.Item.TheVariants as items
use Rattle.task_laws.proofs.Machine.Rules.{GoesOn, bytes_at_place}

-- a run with a step in front of it, which nothing of the budget pays for, has a step to spare
lands_gaining :
    (script : List (List ℕ)) (budget left : ℕ) (from to : State) (Good : State → Type 0)
    → step_of script from ≡ to
    → Lands script budget 0 to left Good
    → Lands script budget 1 from left Good
lands_gaining script budget left from to Good same lands =
    let paid = lands.paid in
    record {
      count = suc lands.count;
      end = lands.end;
      run = step_then script lands.count from to lands.end same lands.run;
      paid = omega (arith, paid);
      spent = lands.spent;
      is_good = lands.is_good;
    }

-- a step that makes one to spare
pub does_gaining :
    {A : Type 0} {loaded : Loaded} {budget : ℕ} {from to : State} {outcome : Outcome A}
    {Good : A → SourceState → State → Type 0}
    → step_of loaded.program.script from ≡ to
    → Does loaded budget 0 to outcome Good
    → Does loaded budget 1 from outcome Good
does_gaining {loaded = loaded} {budget = budget} {from = from} {to = to} {outcome = Gave found t}
    {Good = Good} same does =
    record {
      told = lands_gaining loaded.program.script budget t.budget from to (Good found t) same does.told;
    }
does_gaining {loaded = loaded} {budget = budget} {from = from} {to = to}
    {outcome = Stopped Ended t} same does =
    after_step same (record { told = does.told })
does_gaining {loaded = loaded} {budget = budget} {from = from} {to = to}
    {outcome = Stopped More t} same does =
    after_step same (record { told = does.told })
does_gaining {outcome = Stopped (Outside reason) t} same does = record { told = tt }

-- an instruction that makes a step to spare
pub plain_gains :
    {A : Type 0} {budget : ℕ} {outcome : Outcome A} {Good : A → SourceState → State → Type 0}
    {context : Context} {facts : Facts} {top : ℕ} {base source : List ℕ} {frame : List (List ℕ)}
    {memory : List ℕ} {events : List Rattle.ports.specs.declared.event.Event.Event} {i : Instr} {from : ℕ}
    (r now : Registers) (ended : List ℕ)
    (events_after : List Rattle.ports.specs.declared.event.Event.Event)
    → IsSound context
    → IsThere context.activation (items.Plain i ∷ []) from (from + size_of_instruction i)
    → GoesOn context facts top base source frame r memory
    → Asks context.activation (distances_in context) facts i
    (record r { pc = wrap (from + size_of_instruction i) })
    → act context.activation.around.program.script i (at_place (from + size_of_instruction i) r memory events)
    ≡ at_place (from + size_of_instruction i) now ended events_after
    → (Know context (after facts i) now ended
    → Does (loaded_of context.activation) budget 0
    (at_place (from + size_of_instruction i) now ended events_after) outcome Good)
    → Does (loaded_of context.activation) budget 1 (at_place from r memory events) outcome Good
plain_gains {budget = budget} {outcome = outcome} {Good = Good} {context = context} {facts = facts}
    {memory = memory} {events = events} {i = i} {from = from} r now ended events_after sound
    there on asks does rest =
    let script = context.activation.around.program.script in
    let place = from + size_of_instruction i in
    let shares = on.ready.shares in
    let known : Know context (after facts i) now ended
    = subst (λ (s : State). Know context (after facts i) s.registers s.memory) does
    (facts_after script context.activation (distances_in context) facts i (at_place place r memory events)
    shares.is_memory (bytes_at_place (wrap place) r on.ready.registers) asks on.known) in
    does_gaining
    (plain_step script context.activation i [] from place r memory events sound.lies shares.code there
    ∙ does) (rest known)

-- the facts about the registers do not change which registers the code of an address keeps
pub address_keeps_anywhere : (context : Context) (used : Facts) (reference : Reference)
    → keeps_of_address (knowing context.site used) reference ≡ keeps_of_address context.site reference
unfolding keeps_of_address
address_keeps_anywhere context used reference = refl
