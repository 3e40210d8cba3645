-- A machine within the code of a body, and its run at a step.
use Rattle.task_laws.proofs.Prelude.{◌≡◌, ℕ, ◌+◌, ◌-◌, ◌*◌, ◌%◌, ◌<◌, ◌≤◌, List, [], ◌∷◌, ◌++◌, refl, sym, ap, ◌∙◌, subst, arith, MEMORY_SIZE, byte_at, byte_small, height_of, type_of, TypedExpression, TypesHold, value, SourceState, Ended, More, Outside, Outcome, Gave, Stopped, then_do, Instr, Pop, Push, StackPair, StackBc, StackDe, StackHl, Psw, Flags, act, flag_byte, HoldBytes, Registers, State, pushed_of, with_popped, wrap, size_of_instruction, pushed_word, pop_does, push_does, ExpressionNumber, IsExpression, Facts, Part, Step, after, after_word, plain, word_item, LoadA, Place, HasRoom, IsReady, IsThere, Does, Loaded, loaded_of, Lands, at_place, plain_first, then_does, told_on, ready_after_pop, ready_after_push, still_pushed, Asks, FactsHold, IsSteady, place_at, facts_after, push_asks, Context, IsSound, distances_in, nodes_in, StepsStand, NoneThere, ByteDoes, ByteIsGiven, Carries, EffectsDo, Know, EffectsAreGiven, WordDoes, WordIsGiven, flag_byte_small, given_again}
use Rattle.asm8080.specs.declared.item.Item.TheVariants as items
use Rattle.task_laws.proofs.Machine.RegisterCode.{AreOnRegisters, effect, registers_then}
use Rattle.task_laws.proofs.Machine.Rules.{ready_with_registers, word_goes, room_for}

-- the script of the ports
abbrev pub script_of : Context → List (List ℕ)
script_of context = context.activation.around.program.script

-- the program, as it is loaded
abbrev pub loaded_in : Context → Loaded
loaded_in context = loaded_of context.activation

-- a machine may continue, with these facts
pub record Stage
    (context : Context) (top pushed need : ℕ) (base : List ℕ) (t : SourceState) (facts : Facts)
    (r : Registers) (memory : List ℕ) : Type 0 where
  pub below : t.budget < context.number
  pub room : HasRoom context.activation top pushed need
  pub ready : IsReady context.activation top base t.memory t.frame r memory
  pub known : Know context facts r memory

-- an outcome is carried out if an equal one is
pub does_same :
    {A : Type 0} {loaded : Loaded} {budget more : ℕ} {from : State} {outcome : Outcome A}
    {Good : A → SourceState → State → Type 0} (other : Outcome A)
    → outcome ≡ other
    → Does loaded budget more from other Good
    → Does loaded budget more from outcome Good
does_same {loaded = loaded} {budget = budget} {more = more} {from = from} {Good = Good} other same does =
    subst (λ one. Does loaded budget more from one Good) (sym same) does

-- a part that gave a value, after which the machine continues
pub gives_then :
    {A : Type 0} {loaded : Loaded} {budget more : ℕ} {from : State} (outcome : Outcome A)
    {Middle Good : A → SourceState → State → Type 0}
    → Does loaded budget 0 from outcome Middle
    → ((found : A) (t : SourceState) (end : State) → Middle found t end → t.budget ≤ budget
    → Does loaded t.budget more end (Gave found t) Good)
    → Does loaded budget more from outcome Good
gives_then {A = A} {loaded = loaded} {budget = budget} {more = more} {from = from} outcome {Middle = Middle}
    {Good = Good} one rest =
    subst (λ (given : Outcome A). Does loaded budget more from given Good) (given_again outcome)
    (then_does {go = λ found t. Gave found t} one rest)

-- the rest after a part, which may use the value that the part gave
pub then_does_where :
    {A B : Type 0} {loaded : Loaded} {budget other : ℕ} {from : State} (outcome : Outcome A)
    {go : A → SourceState → Outcome B}
    {Middle : A → SourceState → State → Type 0} {Good : B → SourceState → State → Type 0}
    → Does loaded budget 0 from outcome Middle
    → ((found : A) (t : SourceState) (end : State) → outcome ≡ Gave found t
    → Middle found t end → t.budget ≤ budget
    → Does loaded t.budget other end (go found t) Good)
    → Does loaded budget other from (then_do outcome go) Good
then_does_where {A = A} {B = B} {loaded = loaded} {budget = budget} {other = other} {from = from}
    (Gave found t) {go = go} {Middle = Middle} {Good = Good} one rest =
    let first : Lands loaded.program.script budget 0 from t.budget (Middle found t) = one.told in
    let second = rest found t first.end refl first.is_good first.spent in
    record {
      told = told_on loaded first t.budget other (go found t) Good (omega arith) (omega arith) second.told;
    }
then_does_where (Stopped Ended t) one rest = record { told = one.told }
then_does_where (Stopped More t) one rest = record { told = one.told }
then_does_where (Stopped (Outside reason) t) one rest = record { told = tt }

-- an instruction that changes registers other than the stack pointer
pub at_registers :
    {A : Type 0} {context : Context} {top pushed need : ℕ} {base : List ℕ} {t : SourceState} {facts : Facts}
    {r : Registers} {memory : List ℕ} {from budget more : ℕ} {i : Instr} {outcome : Outcome A}
    {Good : A → SourceState → State → Type 0}
    (now : Registers)
    → IsSound context
    → Stage context top pushed need base t facts r memory
    → IsThere context.activation (items.Plain i ∷ []) from (from + size_of_instruction i)
    → act (script_of context) i (at_place (from + size_of_instruction i) r memory t.events)
    ≡ at_place (from + size_of_instruction i) now memory t.events
    → now.sp ≡ r.sp
    → HoldBytes now
    → Asks context.activation (distances_in context) facts i
    (record r { pc = wrap (from + size_of_instruction i) })
    → (Stage context top pushed need base t (after facts i) now memory
    → Does (loaded_in context) budget more
    (at_place (from + size_of_instruction i) now memory t.events) outcome Good)
    → Does (loaded_in context) budget more (at_place from r memory t.events) outcome Good
at_registers {A = A} {context = context} {top = top} {pushed = pushed} {need = need} {base = base} {t = t}
    {facts = facts} {r = r} {memory = memory} {from = from} {budget = budget} {more = more} {i = i}
    {outcome = outcome} {Good = Good} now sound stage there acts pointer bytes asks rest =
    let ready = stage.ready in
    let held = ready.registers in
    let here : HoldBytes (record r { pc = wrap (from + size_of_instruction i) }) =
    record { a = held.a; b = held.b; c = held.c; d = held.d; e = held.e; h = held.h; l = held.l } in
    let knew : FactsHold context.activation (distances_in context) facts
    (record r { pc = wrap (from + size_of_instruction i) }) memory = stage.known in
    let known =
    facts_after (script_of context) context.activation (distances_in context) facts i
    (at_place (from + size_of_instruction i) r memory t.events) ready.shares.is_memory here asks knew in
    let known_now : FactsHold context.activation (distances_in context) (after facts i)
    (record now { pc = wrap (from + size_of_instruction i) }) memory =
    subst (λ (s : State). FactsHold context.activation (distances_in context) (after facts i) s.registers
    s.memory) acts known in
    plain_first r sound.lies ready.shares.code there
    (subst (λ (s : State). Does (loaded_in context) budget more s outcome Good) (sym acts)
    (rest (record {
      below = stage.below;
      room = stage.room;
      ready = record {
        pointer = pointer ∙ ready.pointer;
        registers = bytes;
        shares = ready.shares;
        frame_lies = ready.frame_lies;
        kept = ready.kept;
      };
      known = known_now;
    })))

-- one that changes A and the flags
pub stage_with_a :
    {A : Type 0} {context : Context} {top pushed need : ℕ} {base : List ℕ} {t : SourceState} {facts : Facts}
    {r : Registers} {memory : List ℕ} {from budget more : ℕ} {i : Instr} {outcome : Outcome A}
    {Good : A → SourceState → State → Type 0}
    (value : ℕ) (flags : Flags)
    → IsSound context
    → Stage context top pushed need base t facts r memory
    → IsThere context.activation (items.Plain i ∷ []) from (from + size_of_instruction i)
    → act (script_of context) i (at_place (from + size_of_instruction i) r memory t.events)
    ≡ at_place (from + size_of_instruction i) (record r { a = value; flags = flags }) memory t.events
    → value < 256
    → Asks context.activation (distances_in context) facts i
    (record r { pc = wrap (from + size_of_instruction i) })
    → (Stage context top pushed need base t (after facts i) (record r { a = value; flags = flags }) memory
    → Does (loaded_in context) budget more
    (at_place (from + size_of_instruction i) (record r { a = value; flags = flags }) memory t.events) outcome
    Good)
    → Does (loaded_in context) budget more (at_place from r memory t.events) outcome Good
stage_with_a {r = r} value flags sound stage there acts small asks rest =
    let held = stage.ready.registers in
    at_registers (record r { a = value; flags = flags }) sound stage there acts refl
    (record { a = small; b = held.b; c = held.c; d = held.d; e = held.e; h = held.h; l = held.l }) asks rest

word_is_small : (high low : ℕ) → high < 256 → low < 256 → 256 * high + low < MEMORY_SIZE
word_is_small high low one two = omega (arith, one, two)

pub pushed_is_small :
    (pair : StackPair) (r : Registers) → HoldBytes r → pushed_of pair r < MEMORY_SIZE
pushed_is_small StackBc r held = word_is_small r.b r.c held.b held.c
pushed_is_small StackDe r held = word_is_small r.d r.e held.d held.e
pushed_is_small StackHl r held = word_is_small r.h r.l held.h held.l
pushed_is_small Psw r held = word_is_small r.a (flag_byte r.flags) held.a (flag_byte_small r.flags)

room_below :
    (start room top pushed need level : ℕ)
    → 3 ≤ need → start + room + need ≤ top → top + pushed ≡ level → level ≤ 65536
    → ((top - 2) + (pushed + 2) % 65536 ≡ level) × (start + room + (need - 2) ≤ top - 2)
room_below start room top pushed need level one two three four =
    (omega (arith, one, two, three, four), omega (arith, one, two, three, four))

-- a PUSH, before something that pushes in its turn
pub at_push :
    {A : Type 0} {context : Context} {top pushed need : ℕ} {base : List ℕ} {t : SourceState} {facts : Facts}
    {r : Registers} {memory : List ℕ} {from budget more : ℕ} {pair : StackPair} {outcome : Outcome A}
    {Good : A → SourceState → State → Type 0}
    (word : ℕ)
    → pushed_of pair (record r { pc = wrap (from + 1) }) ≡ word
    → IsSound context
    → 3 ≤ need
    → Stage context top pushed need base t facts r memory
    → IsThere context.activation (items.Plain (Push pair) ∷ []) from (from + 1)
    → (Stage context (top - 2) ((pushed + 2) % 65536) (need - 2) (pushed_word top word memory) t facts
    (record r { sp = wrap (top - 2) }) (pushed_word top word memory)
    → Does (loaded_in context) budget more
    (at_place (from + 1) (record r { sp = wrap (top - 2) }) (pushed_word top word memory) t.events) outcome
    Good)
    → Does (loaded_in context) budget more (at_place from r memory t.events) outcome Good
at_push {context = context} {top = top} {pushed = pushed} {need = need} {base = base} {t = t} {facts = facts}
    {r = r} {memory = memory} {from = from} {budget = budget} {more = more} {pair = pair} {outcome = outcome}
    {Good = Good} word is sound enough stage there rest =
    let ready = stage.ready in
    let held = ready.registers in
    let here : HoldBytes (record r { pc = wrap (from + 1) }) =
    record { a = held.a; b = held.b; c = held.c; d = held.d; e = held.e; h = held.h; l = held.l } in
    let lies = sound.lies in
    let above = lies.above in
    let stack = lies.placed.stack_in_memory in
    let depth = stage.room.depth in
    let free = stage.room.enough in
    let level : context.activation.level ≤ MEMORY_SIZE = omega (arith, above, stack) in
    let low : context.activation.floor + 2 ≤ top = omega (arith, free, enough) in
    let high : top ≤ context.activation.level = omega (arith, depth) in
    let limit : top ≤ MEMORY_SIZE = omega (arith, high, level) in
    let two : 2 ≤ top = omega (arith, low) in
    let small : word < MEMORY_SIZE =
    subst (λ (n : ℕ). n < MEMORY_SIZE) is (pushed_is_small pair (record r { pc = wrap (from + 1) }) here) in
    let acts : act (script_of context) (Push pair) (at_place (from + 1) r memory t.events)
    ≡ at_place (from + 1) (record r { sp = wrap (top - 2) }) (pushed_word top word memory) t.events =
    push_does (script_of context) pair (from + 1) top r memory t.events ready.pointer limit two
    ∙ ap (λ n. at_place (from + 1) (record r { sp = wrap (top - 2) }) (pushed_word top n memory) t.events)
    is in
    let knew : FactsHold context.activation (distances_in context) facts (record r { pc = wrap (from + 1) })
    memory = stage.known in
    let known =
    facts_after (script_of context) context.activation (distances_in context) facts (Push pair)
    (at_place (from + 1) r memory t.events) ready.shares.is_memory here
    (push_asks context.activation r.sp top lies ready.pointer low high) knew in
    let known_now : FactsHold context.activation (distances_in context) facts
    (record r { sp = wrap (top - 2); pc = wrap (from + 1) }) (pushed_word top word memory) =
    subst (λ (s : State). FactsHold context.activation (distances_in context) facts s.registers s.memory) acts
    known in
    let more_room =
    room_below context.activation.floor context.activation.around.room top pushed need
    context.activation.level enough free depth level in
    plain_first r lies ready.shares.code there
    (subst (λ (s : State). Does (loaded_in context) budget more s outcome Good) (sym acts)
    (rest (record {
      below = stage.below;
      room = record { depth = more_room.0; even = let even = stage.room.even in omega (arith, even); enough = more_room.1 };
      ready = ready_after_push context.activation top word base t.memory t.frame r memory lies
          low high small ready;
      known = known_now;
    })))

popped_bytes :
    (pair : StackPair) (word sp : ℕ) (r : Registers)
    → word < MEMORY_SIZE
    → HoldBytes r
    → HoldBytes (record (with_popped pair word r) { sp = sp })
popped_bytes StackBc word sp r small held =
    record { a = held.a; b = omega (arith, small); c = omega arith; d = held.d; e = held.e; h = held.h; l = held.l }
popped_bytes StackDe word sp r small held =
    record { a = held.a; b = held.b; c = held.c; d = omega (arith, small); e = omega arith; h = held.h; l = held.l }
popped_bytes StackHl word sp r small held =
    record { a = held.a; b = held.b; c = held.c; d = held.d; e = held.e; h = omega (arith, small); l = omega arith }
popped_bytes Psw word sp r small held =
    record { a = omega (arith, small); b = held.b; c = held.c; d = held.d; e = held.e; h = held.h; l = held.l }

-- a POP after others that began with the word pushed
pub at_pop :
    {A : Type 0} {context : Context} {top pushed need other_pushed other_need word : ℕ} {base : List ℕ}
    {s t : SourceState} {first facts : Facts}
    {before r : Registers} {began memory : List ℕ} {from budget more : ℕ} {pair : StackPair}
    {outcome : Outcome A}
    {Good : A → SourceState → State → Type 0}
    → IsSound context
    → 3 ≤ need
    → word < MEMORY_SIZE
    → Stage context top pushed need base s first before began
    → Stage context (top - 2) other_pushed other_need (pushed_word top word began) t facts r memory
    → IsThere context.activation (items.Plain (Pop pair) ∷ []) from (from + 1)
    → (Stage context top pushed need base t (after facts (Pop pair))
    (record (with_popped pair word r) { sp = wrap top }) memory
    → Does (loaded_in context) budget more
    (at_place (from + 1) (record (with_popped pair word r) { sp = wrap top }) memory t.events) outcome Good)
    → Does (loaded_in context) budget more (at_place from r memory t.events) outcome Good
at_pop {context = context} {top = top} {pushed = pushed} {need = need} {word = word} {base = base} {s = s}
    {t = t} {first = first} {facts = facts} {before = before} {r = r} {began = began} {memory = memory}
    {from = from} {budget = budget} {more = more} {pair = pair} {outcome = outcome} {Good = Good} sound enough
    small start stage there rest =
    let ready = stage.ready in
    let held = ready.registers in
    let here : HoldBytes (record r { pc = wrap (from + 1) }) =
    record { a = held.a; b = held.b; c = held.c; d = held.d; e = held.e; h = held.h; l = held.l } in
    let lies = sound.lies in
    let above = lies.above in
    let stack = lies.placed.stack_in_memory in
    let depth = start.room.depth in
    let free = start.room.enough in
    let level : context.activation.level ≤ MEMORY_SIZE = omega (arith, above, stack) in
    let low : context.activation.floor + 2 ≤ top = omega (arith, free, enough) in
    let high : top ≤ context.activation.level = omega (arith, depth) in
    let limit : top ≤ MEMORY_SIZE = omega (arith, high, level) in
    let two : 2 ≤ top = omega (arith, low) in
    let is =
    still_pushed context.activation top word t.memory t.frame r began memory lies low high
    start.ready.shares.is_memory.size ready in
    let acts : act (script_of context) (Pop pair) (at_place (from + 1) r memory t.events)
    ≡ at_place (from + 1) (record (with_popped pair word r) { sp = wrap top }) memory t.events =
    pop_does (script_of context) pair (from + 1) top word r memory t.events ready.pointer two limit is in
    let knew : FactsHold context.activation (distances_in context) facts (record r { pc = wrap (from + 1) })
    memory = stage.known in
    let known =
    facts_after (script_of context) context.activation (distances_in context) facts (Pop pair)
    (at_place (from + 1) r memory t.events) ready.shares.is_memory here tt knew in
    let known_now : FactsHold context.activation (distances_in context) (after facts (Pop pair))
    (record (with_popped pair word r) { sp = wrap top; pc = wrap (from + 1) }) memory =
    subst (λ (state : State). FactsHold context.activation (distances_in context) (after facts (Pop pair))
    state.registers state.memory) acts known in
    plain_first r lies ready.shares.code there
    (subst (λ (state : State). Does (loaded_in context) budget more state outcome Good) (sym acts)
    (rest (record {
      below = stage.below;
      room = start.room;
      ready =
          ready_after_pop context.activation top word base s.memory t.memory s.frame t.frame before r
          (record (with_popped pair word r) { sp = wrap top }) began memory lies low start.ready ready refl
          (popped_bytes pair word (wrap top) r small held);
      known = known_now;
    })))

-- instructions on registers alone
pub at_instructions :
    {A : Type 0} {context : Context}
    {PartIs : (before : Facts) → Part → (from : ℕ) → (after : Facts) → (to : ℕ) → Type 0}
    {top pushed need : ℕ} {base : List ℕ} {t : SourceState} {facts last : Facts}
    {r : Registers} {memory : List ℕ} {from to budget more : ℕ} {outcome : Outcome A}
    {Good : A → SourceState → State → Type 0} (instructions : List Instr) (others : List Step)
    → IsSound context
    → AreOnRegisters instructions
    → StepsStand context PartIs facts from (plain instructions ++ others) last to
    → Stage context top pushed need base t facts r memory
    → ((middle : ℕ) (found : Facts)
    → StepsStand context PartIs found middle others last to
    → Stage context top pushed need base t found (effect instructions r) memory
    → Does (loaded_in context) budget more
    (at_place middle (effect instructions r) memory t.events) outcome Good)
    → Does (loaded_in context) budget more (at_place from r memory t.events) outcome Good
at_instructions {r = r} instructions others sound on stand stage rest =
    registers_then instructions others r sound on stand (record { ready = stage.ready; known = stage.known })
    (λ middle found ends going.
    rest middle found ends
    (record { below = stage.below; room = stage.room; ready = going.ready; known = going.known }))

-- the byte at a steady place into A
pub at_load_a :
    {A : Type 0} {context : Context} {top pushed need : ℕ} {base : List ℕ} {t : SourceState} {facts : Facts}
    {r : Registers} {memory : List ℕ} {from budget more : ℕ} {place : Place} {outcome : Outcome A}
    {Good : A → SourceState → State → Type 0}
    → IsSound context
    → IsThere context.activation (word_item LoadA place ∷ []) from (from + 3)
    → IsSteady context.activation (place_at context.activation.layout place)
    → Stage context top pushed need base t facts r memory
    → (Stage context top pushed need base t (after_word facts LoadA place)
    (record r { a = byte_at memory (place_at context.activation.layout place) }) memory
    → Does (loaded_in context) budget more
    (at_place (from + 3) (record r { a = byte_at memory (place_at context.activation.layout place) }) memory
    t.events)
    outcome Good)
    → Does (loaded_in context) budget more (at_place from r memory t.events) outcome Good
at_load_a {context = context} {r = r} {memory = memory} {place = place} sound there steady stage rest =
    let now : Registers = record r { a = byte_at memory (place_at context.activation.layout place) } in
    let held = stage.ready.registers in
    word_goes LoadA place r now memory sound there
    (record { ready = stage.ready; known = stage.known }) steady refl
    (λ known.
    rest (record {
      below = stage.below;
      room = stage.room;
      ready = ready_with_registers refl
          (record {
            a = byte_small memory (place_at context.activation.layout place) stage.ready.shares.is_memory;
            b = held.b;
            c = held.c;
            d = held.d;
            e = held.e;
            h = held.h;
            l = held.l;
          }) stage.ready;
      known = known;
    }))

-- no more steps
pub at_end :
    {A : Type 0} {context : Context}
    {PartIs : (before : Facts) → Part → (from : ℕ) → (after : Facts) → (to : ℕ) → Type 0}
    {top pushed need : ℕ} {base : List ℕ} {t : SourceState} {facts last : Facts}
    {r : Registers} {memory : List ℕ} {from to budget more : ℕ} {outcome : Outcome A}
    {Good : A → SourceState → State → Type 0}
    → StepsStand context PartIs facts from [] last to
    → Stage context top pushed need base t facts r memory
    → (Stage context top pushed need base t last r memory
    → Does (loaded_in context) budget more (at_place to r memory t.events) outcome Good)
    → Does (loaded_in context) budget more (at_place from r memory t.events) outcome Good
at_end NoneThere stage rest = rest stage

-- code that carries something out, after which the machine continues
pub at_carried :
    {A B : Type 0} {context : Context} {top pushed need : ℕ} {base : List ℕ} {t : SourceState} {facts : Facts}
    {r : Registers} {memory : List ℕ} {more less : ℕ} {Asked : Registers → Type 0}
    {meant : SourceState → Outcome A} {go : A → SourceState → Outcome B}
    {Holds : Registers → List ℕ → A → Registers → List ℕ → Type 0}
    {Good : B → SourceState → State → Type 0} (from middle : ℕ) (found_facts : Facts)
    → Carries context facts pushed less 0 from middle Asked meant Holds
    → less ≤ need
    → Asked r
    → ((found : A) (now : Registers) (memory_now : List ℕ) → Holds r memory found now memory_now
    → Know context found_facts now memory_now)
    → Stage context top pushed need base t facts r memory
    → ((found : A) (u : SourceState) (now : Registers) (memory_now : List ℕ)
    → meant t ≡ Gave found u
    → Holds r memory found now memory_now
    → Stage context top pushed need base u found_facts now memory_now
    → Does (loaded_in context) u.budget more (at_place middle now memory_now u.events) (go found u) Good)
    → Does (loaded_in context) t.budget more (at_place from r memory t.events) (then_do (meant t) go) Good
at_carried {A = A} {B = B} {context = context} {top = top} {pushed = pushed} {need = need} {base = base}
    {t = t} {facts = facts} {r = r} {memory = memory} {more = more} {less = less} {meant = meant} {go = go}
    {Holds = Holds} {Good = Good} from middle found_facts carries fewer asked knows stage rest =
    then_does_where (meant t)
    (carries top base t r memory stage.below (room_for less fewer stage.room) stage.ready stage.known asked)
    (λ found u end is arrives spent.
    let below = stage.below in
    subst (λ (s : State). Does (loaded_in context) u.budget more s (go found u) Good) (sym arrives.is_at)
    (rest found u arrives.r arrives.memory is arrives.holds (record {
      below = omega (arith, spent, below);
      room = stage.room;
      ready = arrives.ready;
      known = knows found arrives.r arrives.memory arrives.holds;
    })))

-- the byte of a part into A
pub at_byte :
    {B : Type 0} {context : Context} {top pushed need : ℕ} {base : List ℕ} {t : SourceState}
    {facts found_facts : Facts}
    {r : Registers} {memory : List ℕ} {more : ℕ} {bound : ℕ}
    {tree : TypedExpression} {go : ℕ → SourceState → Outcome B}
    {Good : B → SourceState → State → Type 0} (from middle : ℕ) (number : ExpressionNumber)
    → ByteDoes context facts number pushed from found_facts middle
    → IsExpression (nodes_in context) context.storage bound number.index tree
    → TypesHold context.typed context.within tree
    → 2 * height_of tree ≤ need
    → Stage context top pushed need base t facts r memory
    → ((found : ℕ) (u : SourceState) (now : Registers) (memory_now : List ℕ)
    → value context.later context.activation.around tree t ≡ Gave found u
    → ByteIsGiven context found_facts number (type_of tree) r memory found now memory_now
    → Stage context top pushed need base u found_facts now memory_now
    → Does (loaded_in context) u.budget more (at_place middle now memory_now u.events) (go found u) Good)
    → Does (loaded_in context) t.budget more (at_place from r memory t.events)
    (then_do (value context.later context.activation.around tree t) go) Good
at_byte {context = context} {found_facts = found_facts} {r = r} {memory = memory} {bound = bound}
    {tree = tree} from middle number does node types fewer stage rest =
    at_carried from middle found_facts (does bound tree node types) fewer tt
    (λ found now memory_now (given : ByteIsGiven context found_facts number (type_of tree) r memory found now memory_now). given.known) stage rest

-- the word of a part into HL
pub at_word :
    {B : Type 0} {context : Context} {top pushed need : ℕ} {base : List ℕ} {t : SourceState}
    {facts found_facts : Facts}
    {r : Registers} {memory : List ℕ} {more : ℕ} {bound : ℕ}
    {tree : TypedExpression} {go : ℕ → SourceState → Outcome B}
    {Good : B → SourceState → State → Type 0} (from middle : ℕ) (number : ExpressionNumber)
    → WordDoes context facts number pushed from found_facts middle
    → IsExpression (nodes_in context) context.storage bound number.index tree
    → TypesHold context.typed context.within tree
    → 2 * height_of tree ≤ need
    → Stage context top pushed need base t facts r memory
    → ((found : ℕ) (u : SourceState) (now : Registers) (memory_now : List ℕ)
    → value context.later context.activation.around tree t ≡ Gave found u
    → WordIsGiven context found_facts number (type_of tree) r memory found now memory_now
    → Stage context top pushed need base u found_facts now memory_now
    → Does (loaded_in context) u.budget more (at_place middle now memory_now u.events) (go found u) Good)
    → Does (loaded_in context) t.budget more (at_place from r memory t.events)
    (then_do (value context.later context.activation.around tree t) go) Good
at_word {context = context} {found_facts = found_facts} {r = r} {memory = memory} {bound = bound}
    {tree = tree} from middle number does node types fewer stage rest =
    at_carried from middle found_facts (does bound tree node types) fewer tt
    (λ found now memory_now (given : WordIsGiven context found_facts number (type_of tree) r memory found now memory_now). given.known) stage rest

-- a part with a value that is not used
pub at_effects :
    {B : Type 0} {context : Context} {top pushed need : ℕ} {base : List ℕ} {t : SourceState}
    {facts found_facts : Facts}
    {r : Registers} {memory : List ℕ} {more : ℕ} {bound : ℕ}
    {tree : TypedExpression} {go : ℕ → SourceState → Outcome B}
    {Good : B → SourceState → State → Type 0} (from middle : ℕ) (number : ExpressionNumber)
    → EffectsDo context facts number pushed from found_facts middle
    → IsExpression (nodes_in context) context.storage bound number.index tree
    → TypesHold context.typed context.within tree
    → 2 * height_of tree ≤ need
    → Stage context top pushed need base t facts r memory
    → ((found : ℕ) (u : SourceState) (now : Registers) (memory_now : List ℕ)
    → value context.later context.activation.around tree t ≡ Gave found u
    → Stage context top pushed need base u found_facts now memory_now
    → Does (loaded_in context) u.budget more (at_place middle now memory_now u.events) (go found u) Good)
    → Does (loaded_in context) t.budget more (at_place from r memory t.events)
    (then_do (value context.later context.activation.around tree t) go) Good
at_effects {context = context} {found_facts = found_facts} {r = r} {memory = memory} {bound = bound}
    {tree = tree} from middle number does node types fewer stage rest =
    at_carried from middle found_facts (does bound tree node types) fewer tt
    (λ found now memory_now (given : EffectsAreGiven context found_facts number r memory found now memory_now). given.known) stage
    (λ found u now memory_now is given next. rest found u now memory_now is next)
