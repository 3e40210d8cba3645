-- The rules for following the code of steps: the run of a machine at a step.
use Rattle.task_laws.proofs.Prelude.{◌≡◌, ℕ, ◌+◌, ◌-◌, ◌%◌, ◌<◌, ◌≤◌, Bool, true, false, if◌then◌else◌, List, [], ◌∷◌, ◌++◌, ◌==◌, bit_or, refl, sym, ap, subst, ◌∙◌, arith, MEMORY_SIZE, Event, SourceState, Outcome, Instr, Pop, Push, StackPair, StackBc, StackDe, StackHl, Psw, HoldBytes, Registers, State, pushed_of, with_popped, wrap, Or, operate, act, flag_byte_small, WordForm, instruction_with, AgreesIn, size_of_instruction, pushed, pop_does, push_does, Place, Does, loaded_of, at_place, Activation, HasRoom, IsReady, IsThere, LiesWell, plain_first, word_first, ready_after_pop, ready_after_push, still_pushed, Asks, WordAsks, or_self, after_test, test_items, test_of_a, ZeroHolds, place_at, facts_after, facts_after_word, with_facts_hold, without_memory_holds, push_asks, Facts, Part, Step, after, after_word, with_facts, without_memory, word_item, Context, IsSound, distances_in, StepsStand, NoneThere, PlainThere, WordThere, JumpThere, MarkThere, RoutineThere, CallThere, TestThere, HoldsThere, ChangeThere, PartThere, Know}
use Rattle.asm8080.specs.declared.item.Item.TheVariants as items
use Rattle.steps8080.specs.declared.step.Step.TheVariants as steps

-- steps in two parts
pub record Parted
    (context : Context) (PartIs : (before : Facts) → Part → (from : ℕ) → (after : Facts) → (to : ℕ) → Type 0)
    (facts : Facts) (from : ℕ) (one other : List Step) (last : Facts) (to : ℕ) : Type 0 where
  pub found : Facts
  pub middle : ℕ
  pub first : StepsStand context PartIs facts from one found middle
  pub second : StepsStand context PartIs found middle other last to

pub steps_split :
    {context : Context} {PartIs : (before : Facts) → Part → (from : ℕ) → (after : Facts) → (to : ℕ) → Type 0}
    (one other : List Step) {facts last : Facts} {from to : ℕ}
    → StepsStand context PartIs facts from (one ++ other) last to
    → Parted context PartIs facts from one other last to
steps_split [] other {facts = facts} {from = from} stand =
    record { found = facts; middle = from; first = NoneThere; second = stand }
steps_split (steps.Plain i ∷ one) other (PlainThere there rest) =
    let parts = steps_split one other rest in
    record { found = parts.found; middle = parts.middle; first = PlainThere there parts.first; second = parts.second }
steps_split (steps.Word form place ∷ one) other (WordThere there rest) =
    let parts = steps_split one other rest in
    record { found = parts.found; middle = parts.middle; first = WordThere there parts.first; second = parts.second }
steps_split (steps.Jump form label ∷ one) other (JumpThere there rest) =
    let parts = steps_split one other rest in
    record { found = parts.found; middle = parts.middle; first = JumpThere there parts.first; second = parts.second }
steps_split (steps.Mark label ∷ one) other (MarkThere there rest) =
    let parts = steps_split one other rest in
    record { found = parts.found; middle = parts.middle; first = MarkThere there parts.first; second = parts.second }
steps_split (steps.CallRoutine routine ∷ one) other (RoutineThere has there rest) =
    let parts = steps_split one other rest in
    record { found = parts.found; middle = parts.middle; first = RoutineThere has there parts.first; second = parts.second }
steps_split (steps.CallProcedure procedure ∷ one) other (CallThere there rest) =
    let parts = steps_split one other rest in
    record { found = parts.found; middle = parts.middle; first = CallThere there parts.first; second = parts.second }
steps_split (steps.TestA ∷ one) other (TestThere there rest) =
    let parts = steps_split one other rest in
    record { found = parts.found; middle = parts.middle; first = TestThere there parts.first; second = parts.second }
steps_split (steps.Holds held ∷ one) other (HoldsThere rest) =
    let parts = steps_split one other rest in
    record { found = parts.found; middle = parts.middle; first = HoldsThere parts.first; second = parts.second }
steps_split (steps.MemoryChanged ∷ one) other (ChangeThere rest) =
    let parts = steps_split one other rest in
    record { found = parts.found; middle = parts.middle; first = ChangeThere parts.first; second = parts.second }
steps_split (steps.Part part ∷ one) other (PartThere is rest) =
    let parts = steps_split one other rest in
    record { found = parts.found; middle = parts.middle; first = PartThere is parts.first; second = parts.second }

-- Code may go on here: the activation is ready, and this is known.
pub record GoesOn
    (context : Context) (facts : Facts) (top : ℕ) (base source : List ℕ) (frame : List (List ℕ))
    (r : Registers) (memory : List ℕ) : Type 0 where
  pub ready : IsReady context.activation top base source frame r memory
  pub known : Know context facts r memory

-- registers that hold bytes at another place of the program do so too
pub bytes_at_place : (place : ℕ) (r : Registers) → HoldBytes r → HoldBytes (record r { pc = place })
bytes_at_place place r bytes =
    record { a = bytes.a; b = bytes.b; c = bytes.c; d = bytes.d; e = bytes.e; h = bytes.h; l = bytes.l }

-- other registers, with the same stack pointer
pub ready_with_registers :
    {activation : Activation} {top : ℕ} {base source : List ℕ} {frame : List (List ℕ)} {r now : Registers}
    {memory : List ℕ}
    → now.sp ≡ r.sp
    → HoldBytes now
    → IsReady activation top base source frame r memory
    → IsReady activation top base source frame now memory
ready_with_registers pointer bytes ready = record {
  pointer = pointer ∙ ready.pointer;
  registers = bytes;
  shares = ready.shares;
  frame_lies = ready.frame_lies;
  kept = ready.kept;
}

-- an instruction: its effect is carried out, and the facts after it hold then
pub plain_goes :
    {A : Type 0} {budget more : ℕ} {outcome : Outcome A} {Good : A → SourceState → State → Type 0}
    {context : Context} {facts : Facts} {top : ℕ} {base source : List ℕ} {frame : List (List ℕ)}
    {memory : List ℕ} {events : List Event} {i : Instr} {from : ℕ} (r now : Registers) (ended : List ℕ)
    (events_after : List Event)
    → IsSound context
    → IsThere context.activation (items.Plain i ∷ []) from (from + size_of_instruction i)
    → GoesOn context facts top base source frame r memory
    → Asks context.activation (distances_in context) facts i
    (record r { pc = wrap (from + size_of_instruction i) })
    → act context.activation.around.program.script i (at_place (from + size_of_instruction i) r memory events)
    ≡ at_place (from + size_of_instruction i) now ended events_after
    → (Know context (after facts i) now ended
    → Does (loaded_of context.activation) budget more
    (at_place (from + size_of_instruction i) now ended events_after) outcome Good)
    → Does (loaded_of context.activation) budget more (at_place from r memory events) outcome Good
plain_goes {budget = budget} {more = more} {outcome = outcome} {Good = Good} {context = context}
    {facts = facts} {memory = memory} {events = events} {i = i} {from = from} r now ended events_after sound
    there on asks does rest =
    let script = context.activation.around.program.script in
    let loaded = loaded_of context.activation in
    let place = from + size_of_instruction i in
    let shares = on.ready.shares in
    let known : Know context (after facts i) now ended
    = subst (λ (s : State). Know context (after facts i) s.registers s.memory) does
    (facts_after script context.activation (distances_in context) facts i (at_place place r memory events)
    shares.is_memory (bytes_at_place (wrap place) r on.ready.registers) asks on.known) in
    plain_first r sound.lies shares.code there
    (subst (λ (s : State). Does loaded budget more s outcome Good) (sym does) (rest known))

-- an instruction that changes registers alone, and not the stack pointer
pub registers_go :
    {A : Type 0} {budget more : ℕ} {outcome : Outcome A} {Good : A → SourceState → State → Type 0}
    {context : Context} {facts : Facts} {top : ℕ} {base source : List ℕ} {frame : List (List ℕ)}
    {memory : List ℕ} {events : List Event} {i : Instr} {from : ℕ} (r now : Registers)
    → IsSound context
    → IsThere context.activation (items.Plain i ∷ []) from (from + size_of_instruction i)
    → GoesOn context facts top base source frame r memory
    → Asks context.activation (distances_in context) facts i
    (record r { pc = wrap (from + size_of_instruction i) })
    → act context.activation.around.program.script i (at_place (from + size_of_instruction i) r memory events)
    ≡ at_place (from + size_of_instruction i) now memory events
    → now.sp ≡ r.sp
    → HoldBytes now
    → (GoesOn context (after facts i) top base source frame now memory
    → Does (loaded_of context.activation) budget more
    (at_place (from + size_of_instruction i) now memory events) outcome Good)
    → Does (loaded_of context.activation) budget more (at_place from r memory events) outcome Good
registers_go {memory = memory} {events = events} r now sound there on asks does pointer bytes rest =
    plain_goes r now memory events sound there on asks does
    (λ known. rest (record { ready = ready_with_registers pointer bytes on.ready; known = known }))

-- an instruction with the word of a place: its effect is carried out
pub word_acts :
    {A : Type 0} {budget more : ℕ} {outcome : Outcome A} {Good : A → SourceState → State → Type 0}
    {context : Context} {memory : List ℕ} {events : List Event} {from : ℕ} (form : WordForm)
    (place : Place) (r : Registers)
    → IsSound context
    → AgreesIn context.activation.around.program.placement.code context.activation.image memory
    → IsThere context.activation (word_item form place ∷ []) from (from + 3)
    → Does (loaded_of context.activation) budget more
    (act context.activation.around.program.script
    (instruction_with form (place_at context.activation.layout place)) (at_place (from + 3) r memory events))
    outcome Good
    → Does (loaded_of context.activation) budget more (at_place from r memory events) outcome Good
word_acts form place r sound code there rest = word_first r sound.lies code there rest

-- the facts after it hold then
pub word_goes :
    {A : Type 0} {budget more : ℕ} {outcome : Outcome A} {Good : A → SourceState → State → Type 0}
    {context : Context} {facts : Facts} {top : ℕ} {base source : List ℕ} {frame : List (List ℕ)}
    {memory : List ℕ} {events : List Event} {from : ℕ} (form : WordForm) (place : Place) (r now : Registers)
    (ended : List ℕ)
    → IsSound context
    → IsThere context.activation (word_item form place ∷ []) from (from + 3)
    → GoesOn context facts top base source frame r memory
    → WordAsks context.activation form (place_at context.activation.layout place)
    → act context.activation.around.program.script
    (instruction_with form (place_at context.activation.layout place)) (at_place (from + 3) r memory events)
    ≡ at_place (from + 3) now ended events
    → (Know context (after_word facts form place) now ended
    → Does (loaded_of context.activation) budget more
    (at_place (from + 3) now ended events) outcome Good)
    → Does (loaded_of context.activation) budget more (at_place from r memory events) outcome Good
word_goes {budget = budget} {more = more} {outcome = outcome} {Good = Good} {context = context}
    {facts = facts} {memory = memory} {events = events} {from = from} form place r now ended sound
    there on asks does rest =
    let script = context.activation.around.program.script in
    let loaded = loaded_of context.activation in
    let shares = on.ready.shares in
    let known : Know context (after_word facts form place) now ended
    = subst (λ (s : State). Know context (after_word facts form place) s.registers s.memory) does
    (facts_after_word script context.activation (distances_in context) facts form place
    (at_place (from + 3) r memory events)
    shares.is_memory (bytes_at_place (wrap (from + 3)) r on.ready.registers) asks on.known) in
    word_acts form place r sound shares.code there
    (subst (λ (s : State). Does loaded budget more s outcome Good) (sym does) (rest known))

-- facts that the plan makes up beside those that hold
pub holds_go :
    {context : Context} {facts held : Facts} {top : ℕ} {base source : List ℕ} {frame : List (List ℕ)}
    {r : Registers} {memory : List ℕ}
    → GoesOn context facts top base source frame r memory
    → Know context held r memory
    → GoesOn context (with_facts facts held) top base source frame r memory
holds_go {facts = facts} {held = held} on known =
    record { ready = on.ready; known = with_facts_hold facts held on.known known }

-- bytes that may have changed
pub change_goes :
    {context : Context} {facts : Facts} {top : ℕ} {base source : List ℕ} {frame : List (List ℕ)}
    {r : Registers} {memory : List ℕ}
    → GoesOn context facts top base source frame r memory
    → GoesOn context (without_memory facts) top base source frame r memory
change_goes {facts = facts} on = record { ready = on.ready; known = without_memory_holds facts on.known }

-- a word that may be pushed
pub pushed_word_small : (pair : StackPair) (r : Registers) → HoldBytes r → pushed_of pair r < MEMORY_SIZE
pushed_word_small StackBc r bytes = let high = bytes.b in let low = bytes.c in omega (arith, high, low)
pushed_word_small StackDe r bytes = let high = bytes.d in let low = bytes.e in omega (arith, high, low)
pushed_word_small StackHl r bytes = let high = bytes.h in let low = bytes.l in omega (arith, high, low)
pushed_word_small Psw r bytes =
    let high = bytes.a in
    let low = flag_byte_small r.flags in
    omega (arith, high, low)

pub pushed_anywhere : (pair : StackPair) (place : ℕ) (r : Registers)
    → pushed_of pair (record r { pc = place }) ≡ pushed_of pair r
pushed_anywhere StackBc place r = refl
pushed_anywhere StackDe place r = refl
pushed_anywhere StackHl place r = refl
pushed_anywhere Psw place r = refl

push_size : (pair : StackPair) → size_of_instruction (Push pair) ≡ 1
push_size StackBc = refl
push_size StackDe = refl
push_size StackHl = refl
push_size Psw = refl

pub pop_size : (pair : StackPair) → size_of_instruction (Pop pair) ≡ 1
pop_size StackBc = refl
pop_size StackDe = refl
pop_size StackHl = refl
pop_size Psw = refl

-- room for less
pub room_for :
    {activation : Activation} {top pushed need : ℕ} (less : ℕ)
    → less ≤ need
    → HasRoom activation top pushed need
    → HasRoom activation top pushed less
room_for less is_less room =
    let enough = room.enough in
    record { depth = room.depth; even = room.even; enough = omega (arith, enough, is_less) }

-- how many bytes are pushed after a PUSH: less than there are in memory
pub more_pushed :
    {activation : Activation} {top pushed need : ℕ} (less : ℕ)
    → LiesWell activation
    → 1 ≤ less
    → 2 + less ≤ need
    → HasRoom activation top pushed need
    → HasRoom activation (top - 2) ((pushed + 2) % 65536) less
more_pushed less lies some is_less room =
    let depth = room.depth in
    let even = room.even in
    let enough = room.enough in
    let above = lies.above in
    let stack = lies.placed.stack_in_memory in
    record {
      depth = omega (arith, depth, enough, above, stack, some, is_less);
      even = omega (arith, even);
      enough = omega (arith, enough, is_less);
    }

-- PUSH: a new level, at which code may go on with the memory after it as the one before
pub push_goes :
    {A : Type 0} {budget more : ℕ} {outcome : Outcome A} {Good : A → SourceState → State → Type 0}
    {context : Context} {facts : Facts} {top : ℕ} {base source : List ℕ} {frame : List (List ℕ)}
    {memory : List ℕ} {events : List Event} {from bytes need : ℕ} (pair : StackPair) (r : Registers)
    → IsSound context
    → IsThere context.activation (items.Plain (Push pair) ∷ []) from (from + size_of_instruction (Push pair))
    → GoesOn context facts top base source frame r memory
    → 2 ≤ need
    → HasRoom context.activation top bytes need
    → (GoesOn context facts (top - 2) (pushed top (pushed_of pair r) memory) source frame
    (record r { sp = wrap (top - 2) }) (pushed top (pushed_of pair r) memory)
    → Does (loaded_of context.activation) budget more
    (at_place (from + size_of_instruction (Push pair)) (record r { sp = wrap (top - 2) })
    (pushed top (pushed_of pair r) memory) events) outcome Good)
    → Does (loaded_of context.activation) budget more (at_place from r memory events) outcome Good
push_goes {context = context} {facts = facts} {top = top} {base = base} {source = source} {frame = frame}
    {memory = memory} {events = events} {from = from} {bytes = bytes} {need = need} pair r sound
    there on two room rest =
    let script = context.activation.around.program.script in
    let place = from + size_of_instruction (Push pair) in
    let lies = sound.lies in
    let depth = room.depth in
    let enough = room.enough in
    let above = lies.above in
    let stack = lies.placed.stack_in_memory in
    let start : context.activation.floor + 2 ≤ top = omega (arith, enough, two) in
    let below : top ≤ context.activation.level = omega (arith, depth) in
    let limit : top ≤ MEMORY_SIZE = omega (arith, below, above, stack) in
    let does : act script (Push pair) (at_place place r memory events)
    ≡ at_place place (record r { sp = wrap (top - 2) }) (pushed top (pushed_of pair r) memory) events
    = push_does script pair place top r memory events on.ready.pointer limit (omega (arith, start))
    ∙ ap (λ (word : ℕ). at_place place (record r { sp = wrap (top - 2) }) (pushed top word memory) events)
    (pushed_anywhere pair (wrap place) r) in
    plain_goes r (record r { sp = wrap (top - 2) }) (pushed top (pushed_of pair r) memory)
    events sound there on
    (push_asks context.activation r.sp top lies on.ready.pointer start below) does
    (λ known. rest (record {
      ready =
          ready_after_push context.activation top (pushed_of pair r) base source frame r
          memory lies start below
          (pushed_word_small pair r on.ready.registers) on.ready;
      known = known;
    }))

-- registers with a word that was popped hold bytes
pub popped_bytes :
    (pair : StackPair) (word : ℕ) (r : Registers) (sp : ℕ) → word < MEMORY_SIZE → HoldBytes r
    → HoldBytes (record (with_popped pair word r) { sp = sp })
popped_bytes StackBc word r sp small bytes = record {
  a = bytes.a;
  b = omega (arith, small);
  c = omega arith;
  d = bytes.d;
  e = bytes.e;
  h = bytes.h;
  l = bytes.l;
}
popped_bytes StackDe word r sp small bytes = record {
  a = bytes.a;
  b = bytes.b;
  c = bytes.c;
  d = omega (arith, small);
  e = omega arith;
  h = bytes.h;
  l = bytes.l;
}
popped_bytes StackHl word r sp small bytes = record {
  a = bytes.a;
  b = bytes.b;
  c = bytes.c;
  d = bytes.d;
  e = bytes.e;
  h = omega (arith, small);
  l = omega arith;
}
popped_bytes Psw word r sp small bytes = record {
  a = omega (arith, small);
  b = bytes.b;
  c = bytes.c;
  d = bytes.d;
  e = bytes.e;
  h = bytes.h;
  l = bytes.l;
}

pop_asks :
    (context : Context) (facts : Facts) (pair : StackPair) (r : Registers)
    → Asks context.activation (distances_in context) facts (Pop pair) r
pop_asks context facts StackBc r = tt
pop_asks context facts StackDe r = tt
pop_asks context facts StackHl r = tt
pop_asks context facts Psw r = tt

-- POP of a word that was pushed, after others have run: the level before it
pub pop_goes :
    {A : Type 0} {budget more : ℕ} {outcome : Outcome A} {Good : A → SourceState → State → Type 0}
    {context : Context} {facts : Facts} {top : ℕ} {base source other : List ℕ} {frame others : List (List ℕ)}
    {r : Registers} {memory ended : List ℕ} {events : List Event} {from bytes need word : ℕ}
    (pair : StackPair) (after_part : Registers)
    → IsSound context
    → IsThere context.activation (items.Plain (Pop pair) ∷ []) from (from + size_of_instruction (Pop pair))
    → 2 ≤ need
    → HasRoom context.activation top bytes need
    → IsReady context.activation top base source frame r memory
    → word < MEMORY_SIZE
    → GoesOn context facts (top - 2) (pushed top word memory) other others after_part ended
    → (GoesOn context (after facts (Pop pair)) top base other others
    (record (with_popped pair word after_part) { sp = wrap top }) ended
    → Does (loaded_of context.activation) budget more
    (at_place (from + size_of_instruction (Pop pair))
    (record (with_popped pair word after_part) { sp = wrap top })
    ended events) outcome Good)
    → Does (loaded_of context.activation) budget more
    (at_place from after_part ended events) outcome Good
pop_goes {context = context} {facts = facts} {top = top} {base = base} {source = source} {other = other}
    {frame = frame} {others = others} {r = r} {memory = memory} {ended = ended} {events = events}
    {from = from} {bytes = bytes} {need = need} {word = word} pair after_part sound there two room
    before small on rest =
    let activation = context.activation in
    let script = activation.around.program.script in
    let place = from + size_of_instruction (Pop pair) in
    let lies = sound.lies in
    let depth = room.depth in
    let enough = room.enough in
    let above = lies.above in
    let stack = lies.placed.stack_in_memory in
    let start : activation.floor + 2 ≤ top = omega (arith, enough, two) in
    let below : top ≤ activation.level = omega (arith, depth) in
    let limit : top ≤ MEMORY_SIZE = omega (arith, below, above, stack) in
    let is = still_pushed activation top word other others after_part memory ended lies start below
    before.shares.is_memory.size on.ready in
    let now : Registers = record (with_popped pair word after_part) { sp = wrap top } in
    let does =
    pop_does script pair place top word after_part ended events on.ready.pointer
    (omega (arith, start)) limit is in
    plain_goes after_part now ended events sound there on
    (pop_asks context facts pair (record after_part { pc = wrap place })) does
    (λ known. rest (record {
      ready =
          ready_after_pop activation top word base source other frame others r after_part now
          memory ended lies start
          before on.ready refl (popped_bytes pair word after_part (wrap top) small on.ready.registers);
      known = known;
    }))

-- the test of A: the zero flag shows whether it is 0
pub test_goes :
    {A : Type 0} {budget more : ℕ} {outcome : Outcome A} {Good : A → SourceState → State → Type 0}
    {context : Context} {facts : Facts} {top : ℕ} {base source : List ℕ} {frame : List (List ℕ)}
    {memory : List ℕ} {events : List Event} {from middle : ℕ} (r : Registers)
    → IsSound context
    → IsThere context.activation (test_items facts) from middle
    → GoesOn context facts top base source frame r memory
    → ((now : Registers) → now ≡ record r { flags = now.flags } → now.flags.z ≡ (r.a == 0)
    → GoesOn context (after_test facts) top base source frame now memory
    → Does (loaded_of context.activation) budget more
    (at_place middle now memory events) outcome Good)
    → Does (loaded_of context.activation) budget more (at_place from r memory events) outcome Good
test_goes {budget = budget} {more = more} {outcome = outcome} {Good = Good} {context = context}
    {facts = facts} {top = top} {base = base} {source = source} {frame = frame} {memory = memory}
    {events = events} {from = from} {middle = middle} r sound there on rest =
    by_flag facts.zero_shows_a refl there rest
  where
    by_flag : (shows : Bool) → facts.zero_shows_a ≡ shows
        → IsThere context.activation (if shows then [] else items.Plain test_of_a ∷ []) from middle
        → ((now : Registers) → now ≡ record r { flags = now.flags } → now.flags.z ≡ (r.a == 0)
        → GoesOn context (if shows then facts else after facts test_of_a) top base source frame now memory
        → Does (loaded_of context.activation) budget more
        (at_place middle now memory events) outcome Good)
        → Does (loaded_of context.activation) budget more
        (at_place from r memory events) outcome Good
    by_flag true shows there rest =
        let zero : ZeroHolds facts.zero_shows_a r.flags.z r.a = on.known.zero_holds in
        subst (λ (place : ℕ). Does (loaded_of context.activation) budget more
        (at_place place r memory events) outcome Good)
        (sym there.stands)
        (rest r refl (subst (λ (flag : Bool). ZeroHolds flag r.flags.z r.a) shows zero) on)
    by_flag false shows there rest =
        let now : Registers = record r { flags = (operate Or r.a r.a r.flags).flags } in
        let same : bit_or r.a r.a ≡ r.a = or_self r.a in
        let middle_is : from + 1 ≡ middle = there.stands.1 in
        let here : IsThere context.activation (items.Plain test_of_a ∷ []) from (from + 1)
        = record { stands = (there.stands.0, refl); low = there.low; high = subst (λ (place : ℕ). place ≤ context.activation.around.program.placement.code.start + context.activation.around.program.placement.code.len) (sym middle_is) there.high } in
        registers_go r now sound here on tt
        (ap (λ (a : ℕ). at_place (from + 1) (record r { a = a; flags = (operate Or r.a r.a r.flags).flags })
        memory events) same)
        refl
        (record { a = on.ready.registers.a; b = on.ready.registers.b; c = on.ready.registers.c; d = on.ready.registers.d; e = on.ready.registers.e; h = on.ready.registers.h; l = on.ready.registers.l })
        (λ on_now. subst (λ (place : ℕ). Does (loaded_of context.activation) budget more
        (at_place place now memory events) outcome Good)
        (sym middle_is) (rest now refl (ap (λ (a : ℕ). a == 0) same) on_now))
