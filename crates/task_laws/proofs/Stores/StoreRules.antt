-- Rules of stores at computed addresses: the address is put into HL beside the value, and then bytes are
-- stored.
use Rattle.task_laws.proofs.Prelude.{◌≡◌, ℕ, ◌+◌, ◌-◌, ◌*◌, ◌/◌, ◌%◌, ◌<◌, ◌≤◌, Bool, true, false, if◌then◌else◌, List, [], ◌∷◌, ◌++◌, length, Option, Some, None, slice_set, refl, sym, ap, subst, ◌∙◌, arith, length-set, MEMORY_SIZE, byte_at, Event, ScalarType, Address, height_of_reference, TypedReference, TypesHoldInReference, SourcePlace, next_place, write_byte, write_scalar, SourceState, Outcome, Gave, then_do, Instr, Inx, Pop, Push, Xchg, Hl, Psw, StackDe, StackHl, act, flag_byte, flags_in, flag_byte_small, Registers, State, high_byte, low_byte, pushed_of, word, wrap, StoreHl, size_of_instruction, pushed_memory, byte_kept, byte_put, Location, Place, Reference, IsReference, Does, loaded_of, at_place, Activation, HasRoom, IsReady, Asks, IsSteadyByte, IsSteady, location_at, place_at, Facts, Step, Plain, Word, after, no_facts, part, keeps_of_address, location_of, address_beside_a_steps, address_beside_de_steps, goal_of, knowing, Context, IsSound, distances_in, nodes_in, PartThere, PlainThere, StepsStand, WordThere, IsReferred, Know, PartDoes, address_on_machine, differs_from_next, high_of_halves, low_of_halves, next_word, same_given, word_high_byte, word_low_byte}
use Rattle.steps8080.specs.declared.step.Task.TheVariants as tasks
use Rattle.task_laws.proofs.Loads.Loads.{lies_there}
use Rattle.task_laws.proofs.Places.Located.{located_in}
use Rattle.task_laws.proofs.Places.Reading.{FitsIn}
use Rattle.task_laws.proofs.Machine.Rules.{GoesOn, more_pushed, plain_goes, pop_goes, push_goes, pushed_word_small, registers_go, room_for}
use Rattle.task_laws.proofs.Stores.StaticStores.{word_gains}
use Rattle.task_laws.proofs.Stores.Stores.{address_keeps_anywhere, plain_gains}
use Rattle.task_laws.proofs.Machine.Values.{then_does_where}
use Rattle.task_laws.proofs.Stores.WordWriting.{first_fits, next_address, second_fits, word_written}
use Rattle.task_laws.proofs.Stores.Writing.{byte_written}
use Rattle.task_laws.proofs.Heights.{reference_height}
use Rattle.task_laws.proofs.Machine.Effects.{then_again}

-- the address of a part into HL, while A keeps its value
pub beside_a_then :
    {B : Type 0} {Good : B → SourceState → State → Type 0}
    {context : Context} {facts last : Facts} {reference : Reference} {bound top pushed need to more : ℕ}
    {base : List ℕ}
    {tree : TypedReference} (used : Facts) (scalar : ScalarType) (others : List Step)
    (go : SourcePlace → SourceState → Outcome B) (from : ℕ) (s : SourceState) (r : Registers)
    (memory : List ℕ)
    → IsSound context
    → StepsStand context (PartDoes context) facts from
    (address_beside_a_steps (goal_of (knowing context.site used) scalar reference) pushed ++ others) last to
    → IsReference (nodes_in context) context.storage bound reference tree
    → IsReferred context tree
    → TypesHoldInReference context.typed context.within tree
    → s.budget < context.number
    → HasRoom context.activation top pushed need
    → 2 + 2 * height_of_reference tree ≤ need
    → GoesOn context facts top base s.memory s.frame r memory
    → ((place : SourcePlace) (t : SourceState) (now : Registers) (ended : List ℕ) (middle : ℕ) (found : Facts)
    → located_in context tree s ≡ Gave place t
    → now.a ≡ r.a
    → word now.h now.l ≡ address_on_machine context.activation place
    → StepsStand context (PartDoes context) found middle others last to
    → GoesOn context found top base t.memory t.frame now ended
    → Does (loaded_of context.activation) t.budget more (at_place middle now ended t.events)
    (go place t) Good)
    → Does (loaded_of context.activation) s.budget more (at_place from r memory s.events)
    (then_do (located_in context tree s) go) Good
beside_a_then {Good = Good} {context = context} {facts = facts} {last = last} {reference = reference}
    {bound = bound} {top = top} {pushed = pushed} {need = need} {to = to} {more = more} {base = base}
    {tree = tree} used scalar others go from s r memory sound stand is referred types less room fits on rest =
    by_test (keeps_of_address (knowing context.site used) reference).a refl stand
  where
    by_test : (kept : Bool) → (keeps_of_address (knowing context.site used) reference).a ≡ kept
        → StepsStand context (PartDoes context) facts from
        ((if kept then part (tasks.Address reference) pushed ∷ []
        else Plain (Push Psw) ∷ part (tasks.Address reference) ((pushed + 2) % 65536) ∷ Plain (Pop Psw) ∷ [])
        ++ others) last to
        → Does (loaded_of context.activation) s.budget more (at_place from r memory s.events)
        (then_do (located_in context tree s) go) Good
    by_test true kept (PartThere {middle = middle} does stand) =
        let kept_here : (keeps_of_address context.site reference).a ≡ true
        = ap (λ (of : Rattle.treecode.specs.declared.traits.Keeps.Keeps). of.a)
        (sym (address_keeps_anywhere context used reference)) ∙ kept in
        then_does_where
        (does bound tree is referred types top base s r memory less
        (room_for (2 * height_of_reference tree) (omega (arith, fits)) room) on.ready on.known tt)
        (λ place t end same given fewer.
        subst (λ (state : State). Does (loaded_of context.activation) t.budget more state
        (go place t) Good) (sym given.is_at)
        (rest place t given.r given.memory middle _ same ((given.holds).a kept_here) (given.holds).hl stand
        (record { ready = given.ready; known = (given.holds).known })))
    by_test false kept (PlainThere there (PartThere {middle = middle} does (PlainThere again stand))) =
        let high = reference_height tree in
        let two : 2 ≤ need = omega (arith, fits) in
        let lower : Registers = record r { sp = wrap (top - 2) } in
        push_goes Psw r sound there on two room
        (λ on_lower.
        then_does_where
        (does bound tree is referred types (top - 2) (pushed_memory top (pushed_of Psw r) memory) s lower
        (pushed_memory top (pushed_of Psw r) memory) less
        (more_pushed (2 * height_of_reference tree) sound.lies (omega (arith, high)) (omega (arith, fits))
        room) on_lower.ready on_lower.known tt)
        (λ place t end same given fewer.
        let back : Registers = record (given.r) {
          a = high_byte (pushed_of Psw r);
          flags = flags_in (low_byte (pushed_of Psw r));
          sp = wrap top;
        } in
        subst (λ (state : State). Does (loaded_of context.activation) t.budget more state
        (go place t) Good) (sym given.is_at)
        (pop_goes Psw given.r sound again two room on.ready (pushed_word_small Psw r on.ready.registers)
        (record { ready = given.ready; known = (given.holds).known })
        (λ on_back.
        rest place t back given.memory (middle + 1) _ same
        (word_high_byte r.a (flag_byte r.flags) (flag_byte_small r.flags))
        (given.holds).hl stand on_back))))

-- the value that was in HL is put into DE
pub beside_de_then :
    {B : Type 0} {Good : B → SourceState → State → Type 0}
    {context : Context} {facts last : Facts} {reference : Reference} {bound top pushed need to more : ℕ}
    {base : List ℕ}
    {tree : TypedReference} (used : Facts) (scalar : ScalarType) (others : List Step)
    (go : SourcePlace → SourceState → Outcome B) (from : ℕ) (s : SourceState) (r : Registers)
    (memory : List ℕ)
    → IsSound context
    → StepsStand context (PartDoes context) facts from
    (address_beside_de_steps (goal_of (knowing context.site used) scalar reference) pushed ++ others) last to
    → IsReference (nodes_in context) context.storage bound reference tree
    → IsReferred context tree
    → TypesHoldInReference context.typed context.within tree
    → s.budget < context.number
    → HasRoom context.activation top pushed need
    → 2 + 2 * height_of_reference tree ≤ need
    → GoesOn context facts top base s.memory s.frame r memory
    → ((place : SourcePlace) (t : SourceState) (now : Registers) (ended : List ℕ) (middle : ℕ) (found : Facts)
    → located_in context tree s ≡ Gave place t
    → now.d ≡ r.h
    → now.e ≡ r.l
    → word now.h now.l ≡ address_on_machine context.activation place
    → StepsStand context (PartDoes context) found middle others last to
    → GoesOn context found top base t.memory t.frame now ended
    → Does (loaded_of context.activation) t.budget more (at_place middle now ended t.events)
    (go place t) Good)
    → Does (loaded_of context.activation) s.budget more (at_place from r memory s.events)
    (then_do (located_in context tree s) go) Good
beside_de_then {Good = Good} {context = context} {facts = facts} {last = last} {reference = reference}
    {bound = bound} {top = top} {pushed = pushed} {need = need} {to = to} {more = more} {base = base}
    {tree = tree} used scalar others go from s r memory sound stand is referred types less room fits on rest =
    by_test (keeps_of_address (knowing context.site used) reference).de refl stand
  where
    by_test : (kept : Bool) → (keeps_of_address (knowing context.site used) reference).de ≡ kept
        → StepsStand context (PartDoes context) facts from
        ((if kept then Plain Xchg ∷ part (tasks.Address reference) pushed ∷ []
        else Plain (Push StackHl) ∷ part (tasks.Address reference) ((pushed + 2) % 65536) ∷ Plain
        (Pop StackDe) ∷ [])
        ++ others) last to
        → Does (loaded_of context.activation) s.budget more (at_place from r memory s.events)
        (then_do (located_in context tree s) go) Good
    by_test true kept (PlainThere there (PartThere {middle = middle} does stand)) =
        let kept_here : (keeps_of_address context.site reference).de ≡ true
        = ap (λ (of : Rattle.treecode.specs.declared.traits.Keeps.Keeps). of.de)
        (sym (address_keeps_anywhere context used reference)) ∙ kept in
        let bytes = on.ready.registers in
        let one : Registers = record r { h = r.d; l = r.e; d = r.h; e = r.l } in
        registers_go r one sound there on tt refl refl
        (record { a = bytes.a; b = bytes.b; c = bytes.c; d = bytes.h; e = bytes.l; h = bytes.d; l = bytes.e })
        (λ on_one.
        then_does_where
        (does bound tree is referred types top base s one memory less
        (room_for (2 * height_of_reference tree) (omega (arith, fits)) room) on_one.ready on_one.known tt)
        (λ place t end same given fewer.
        subst (λ (state : State). Does (loaded_of context.activation) t.budget more state
        (go place t) Good) (sym given.is_at)
        (rest place t given.r given.memory middle _ same ((given.holds).d kept_here)
        ((given.holds).e kept_here) (given.holds).hl stand
        (record { ready = given.ready; known = (given.holds).known }))))
    by_test false kept (PlainThere there (PartThere {middle = middle} does (PlainThere again stand))) =
        let high = reference_height tree in
        let two : 2 ≤ need = omega (arith, fits) in
        let lower : Registers = record r { sp = wrap (top - 2) } in
        push_goes StackHl r sound there on two room
        (λ on_lower.
        then_does_where
        (does bound tree is referred types (top - 2) (pushed_memory top (pushed_of StackHl r) memory) s lower
        (pushed_memory top (pushed_of StackHl r) memory) less
        (more_pushed (2 * height_of_reference tree) sound.lies (omega (arith, high)) (omega (arith, fits))
        room) on_lower.ready on_lower.known tt)
        (λ place t end same given fewer.
        let back : Registers = record (given.r) {
          d = high_byte (pushed_of StackHl r);
          e = low_byte (pushed_of StackHl r);
          sp = wrap top;
        } in
        subst (λ (state : State). Does (loaded_of context.activation) t.budget more state
        (go place t) Good) (sym given.is_at)
        (pop_goes StackDe given.r sound again two room on.ready
        (pushed_word_small StackHl r on.ready.registers)
        (record { ready = given.ready; known = (given.holds).known })
        (λ on_back.
        rest place t back given.memory (middle + 1) _ same (word_high_byte r.h r.l on.ready.registers.l)
        (word_low_byte r.h r.l on.ready.registers.l)
        (given.holds).hl stand on_back))))

-- a byte was stored at an address
pub record ByteLiesAt (activation : Activation) (memory : List ℕ) (address byte : ℕ) : Type 0 where
  pub is : byte_at memory address ≡ byte
  pub steady : IsSteady activation address

-- and a word
pub record WordLiesAt (activation : Activation) (memory : List ℕ) (address number : ℕ) : Type 0 where
  pub low : byte_at memory address ≡ number % 256
  pub high : byte_at memory (wrap (address + 1)) ≡ number / 256
  pub steady : IsSteady activation address
  pub steady_too : IsSteady activation (wrap (address + 1))

pub word_lies_at :
    (activation : Activation) (memory : List ℕ) (address number : ℕ)
    → length memory ≡ MEMORY_SIZE
    → IsSteadyByte activation address
    → IsSteadyByte activation (wrap (address + 1))
    → WordLiesAt activation
    (slice_set (slice_set memory address (number % 256)) (wrap (address + 1)) (number / 256)) address number
word_lies_at activation memory address number size steady steady_too =
    let once : List ℕ = slice_set memory address (number % 256) in
    let long : length once ≡ length memory = length-set memory address (number % 256) in
    let inside = steady.1 in
    let inside_too = steady_too.1 in
    record {
      low = byte_kept once (wrap (address + 1)) address (number / 256) (differs_from_next address inside)
          ∙ byte_put memory address (number % 256) (omega (arith, size, inside));
      high = byte_put once (wrap (address + 1)) (number / 256) (omega (arith, size, long, inside_too));
      steady = steady.0;
      steady_too = steady_too.0;
    }

-- a byte is stored at the address in HL
pub one_stored :
    {A : Type 0} {Good : A → SourceState → State → Type 0}
    {context : Context} {facts last : Facts} {top from to : ℕ} {base : List ℕ} (i : Instr)
    (others : List Step)
    (go : Unit {0} → SourceState → Outcome A) (place : SourcePlace) (byte : ℕ) (t : SourceState)
    (r : Registers)
    (ended : List ℕ)
    → IsSound context
    → byte < 256
    → word r.h r.l ≡ address_on_machine context.activation place
    → FitsIn context.activation 1 place
    → ((n : ℕ) (memory : List ℕ) → act context.activation.around.program.script i
    (at_place n r memory t.events)
    ≡ at_place n r (slice_set memory (word r.h r.l) byte) t.events)
    → (IsSteady context.activation (word r.h r.l)
    → Asks context.activation (distances_in context) facts i
    (record r { pc = wrap (from + size_of_instruction i) }))
    → StepsStand context (PartDoes context) facts from (Plain i ∷ others) last to
    → GoesOn context facts top base t.memory t.frame r ended
    → ((u : SourceState) (left : List ℕ) (middle : ℕ) (found : Facts)
    → ByteLiesAt context.activation left (address_on_machine context.activation place) byte
    → StepsStand context (PartDoes context) found middle others last to
    → GoesOn context found top base u.memory u.frame r left
    → Does (loaded_of context.activation) u.budget 0 (at_place middle r left u.events) (go tt u)
    Good)
    → Does (loaded_of context.activation) t.budget 1 (at_place from r ended t.events)
    (then_do (write_byte context.activation.around.program place byte t) go) Good
one_stored {Good = Good} {context = context} {facts = facts} {last = last} {top = top} {from = from} {to = to}
    {base = base} i others go place byte t r ended sound small hl fits acts asks
    (PlainThere there stand) on rest =
    let loaded = loaded_of context.activation in
    let address : ℕ = address_on_machine context.activation place in
    let size = on.ready.shares.is_memory.size in
    byte_written place byte t go sound small on.ready fits
    (λ u events_same budget_same steady ready.
    let inside = steady.1 in
    let left : List ℕ = slice_set ended (word r.h r.l) byte in
    let same : slice_set ended address byte ≡ left = ap (λ (n : ℕ). slice_set ended n byte) (sym hl) in
    let there_is : byte_at left address ≡ byte
    = ap (λ (memory : List ℕ). byte_at memory address) (sym same)
    ∙ byte_put ended address byte (omega (arith, size, inside)) in
    plain_gains r r left t.events sound there on
    (asks (subst (λ (n : ℕ). IsSteady context.activation n) (sym hl) steady.0))
    (acts (from + size_of_instruction i) ended)
    (λ known.
    subst (λ (budget : ℕ). Does loaded budget 0 (at_place (from + size_of_instruction i) r left t.events)
    (go tt u) Good) budget_same
    (subst (λ (events : List Event). Does loaded u.budget 0
    (at_place (from + size_of_instruction i) r left events) (go tt u) Good) events_same
    (rest u left (from + size_of_instruction i) _ (record { is = there_is; steady = steady.0 }) stand
    (record {
      ready = subst (λ (memory : List ℕ). IsReady context.activation top base u.memory u.frame r memory) same
          ready;
      known = known;
    })))))

-- HL one byte further on
abbrev pub further : Registers → Registers
further r = record r { h = high_byte (wrap (word r.h r.l + 1)); l = low_byte (wrap (word r.h r.l + 1)) }

-- two bytes go to the address in HL and the next one
pub two_stored :
    {A : Type 0} {Good : A → SourceState → State → Type 0}
    {context : Context} {facts last : Facts} {top from to : ℕ} {base : List ℕ} (i j : Instr)
    (others : List Step)
    (go : Unit {0} → SourceState → Outcome A) (place : SourcePlace) (number : ℕ) (t : SourceState)
    (r : Registers)
    (ended : List ℕ)
    → IsSound context
    → number < 65536
    → word r.h r.l ≡ address_on_machine context.activation place
    → FitsIn context.activation 2 place
    → ((n : ℕ) (memory : List ℕ) → act context.activation.around.program.script i
    (at_place n r memory t.events)
    ≡ at_place n r (slice_set memory (word r.h r.l) (number % 256)) t.events)
    → ((n : ℕ) (memory : List ℕ) → act context.activation.around.program.script j
    (at_place n (further r) memory t.events)
    ≡ at_place n (further r) (slice_set memory (word (further r).h (further r).l) (number / 256)) t.events)
    → (IsSteady context.activation (word r.h r.l)
    → Asks context.activation (distances_in context) facts i
    (record r { pc = wrap (from + size_of_instruction i) }))
    → ((f : Facts) (q : Registers) → Asks context.activation (distances_in context) f j q)
    → StepsStand context (PartDoes context) facts from (Plain i ∷ Plain (Inx Hl) ∷ Plain j ∷ others) last to
    → GoesOn context facts top base t.memory t.frame r ended
    → ((u : SourceState) (left : List ℕ) (middle : ℕ) (found : Facts)
    → WordLiesAt context.activation left (address_on_machine context.activation place) number
    → StepsStand context (PartDoes context) found middle others last to
    → GoesOn context found top base u.memory u.frame (further r) left
    → Does (loaded_of context.activation) u.budget 0 (at_place middle (further r) left u.events)
    (go tt u) Good)
    → Does (loaded_of context.activation) t.budget 1 (at_place from r ended t.events)
    (then_do (write_scalar context.activation.around.program Address place number t) go) Good
two_stored {Good = Good} {context = context} {facts = facts} {last = last} {top = top} {from = from} {to = to}
    {base = base} i j others go place number t r ended sound small hl fits acts acts_too asks asks_too
    (PlainThere there (PlainThere next (PlainThere again stand))) on rest =
    let loaded = loaded_of context.activation in
    let program = context.activation.around.program in
    let address : ℕ = address_on_machine context.activation place in
    let bytes = on.ready.registers in
    let two : Registers = further r in
    let once : List ℕ = slice_set ended (word r.h r.l) (number % 256) in
    let once_same : slice_set ended address (number % 256) ≡ once
    = ap (λ (n : ℕ). slice_set ended n (number % 256)) (sym hl) in
    subst (λ (outcome : Outcome _). Does loaded t.budget 1 (at_place from r ended t.events) outcome Good)
    (sym (then_again (write_byte program place (number % 256) t)
    (λ _ t. write_byte program (next_place place) (number / 256) t) go))
    (byte_written place (number % 256) t
    (λ _ t. then_do (write_byte program (next_place place) (number / 256) t) go) sound
    (omega arith) on.ready (first_fits context.activation place fits)
    (λ u events_same budget_same steady ready_once.
    plain_gains r r once t.events sound there on
    (asks (subst (λ (n : ℕ). IsSteady context.activation n) (sym hl) steady.0))
    (acts (from + size_of_instruction i) ended)
    (λ known_once.
    registers_go r two sound next
    (record {
      ready = subst (λ (memory : List ℕ). IsReady context.activation top base u.memory u.frame r memory)
          once_same ready_once;
      known = known_once;
    }) tt refl refl
    (record { a = bytes.a; b = bytes.b; c = bytes.c; d = bytes.d; e = bytes.e; h = omega arith; l = omega arith })
    (λ on_two.
    byte_written (next_place place) (number / 256) u go sound (omega (arith, small)) on_two.ready
    (second_fits context.activation place fits)
    (λ v events_again budget_again steady_too ready_twice.
    let twice : List ℕ = slice_set once (word two.h two.l) (number / 256) in
    let next_is : address_on_machine context.activation (next_place place) ≡ wrap (address + 1) =
    next_address context.activation place in
    let twice_same : slice_set once (address_on_machine context.activation (next_place place)) (number / 256)
    ≡ twice
    = ap (λ (n : ℕ). slice_set once n (number / 256)) (next_is ∙ sym (next_word r.h r.l address hl)) in
    let whole_same : slice_set (slice_set ended address (number % 256)) (wrap (address + 1)) (number / 256)
    ≡ twice
    = ap (λ (memory : List ℕ). slice_set memory (wrap (address + 1)) (number / 256)) once_same
    ∙ ap (λ (n : ℕ). slice_set once n (number / 256)) (sym (next_word r.h r.l address hl)) in
    let lies : WordLiesAt context.activation twice address number
    = subst (λ (memory : List ℕ). WordLiesAt context.activation memory address number) whole_same
    (word_lies_at context.activation ended address number on.ready.shares.is_memory.size steady
    (subst (λ (n : ℕ). IsSteadyByte context.activation n) next_is steady_too)) in
    let place_then : ℕ = from + size_of_instruction i + 1 + size_of_instruction j in
    plain_goes two two twice t.events sound again on_two
    (asks_too (after (after facts i) (Inx Hl)) (record two { pc = wrap place_then }))
    (acts_too place_then once)
    (λ known_twice.
    subst (λ (budget : ℕ). Does loaded budget 0 (at_place place_then two twice t.events) (go tt v) Good)
    (budget_again ∙ budget_same)
    (subst (λ (events : List Event). Does loaded v.budget 0 (at_place place_then two twice events) (go tt v)
    Good) (events_again ∙ events_same)
    (rest v twice place_then _ lies stand
    (record {
      ready = subst (λ (memory : List ℕ). IsReady context.activation top base v.memory v.frame two memory)
          twice_same ready_twice;
      known = known_twice;
    })))))))))

-- if a location is given, the place has its address
abbrev pub PlaceLies : Context → Option Location → SourcePlace → Type 0
PlaceLies context None place = Unit {0}
PlaceLies context (Some location) place =
    address_on_machine context.activation place
    ≡ location_at context.activation (distances_in context) location

pub place_lies :
    {context : Context} {bound : ℕ} {reference : Reference} {tree : TypedReference} (facts : Facts)
    (place : SourcePlace)
    (s t : SourceState)
    → IsSound context
    → IsReference (nodes_in context) context.storage bound reference tree
    → IsReferred context tree
    → TypesHoldInReference context.typed context.within tree
    → located_in context tree s ≡ Gave place t
    → PlaceLies context (location_of (knowing context.site facts) reference) place
place_lies {context = context} {reference = reference} {tree = tree} facts place s t sound is
    referred types same =
    by (location_of (knowing context.site facts) reference) refl
  where
    by : (found : Option Location) → location_of (knowing context.site facts) reference ≡ found → PlaceLies
        context found place
    by None told = tt
    by (Some location) told =
        let lies = lies_there facts location sound is referred types told in
        ap (λ (of : SourcePlace). address_on_machine context.activation of)
        (same_given (sym same ∙ lies.means s)) ∙ lies.is_at

-- the facts about A and HL, if a place is at a location
pub byte_known_at :
    (context : Context) (location : Option Location) (place : SourcePlace) (memory : List ℕ) (r : Registers)
    → PlaceLies context location place
    → ByteLiesAt context.activation memory (address_on_machine context.activation place) r.a
    → Know context (record no_facts { byte_in_a = location }) r memory
byte_known_at context None place memory r lies byte =
    record { byte_holds = tt; word_holds = tt; address_holds = tt; zero_holds = tt }
byte_known_at context (Some location) place memory r lies byte = record {
  byte_holds =
      (sym byte.is ∙ ap (byte_at memory) lies, subst (λ (n : ℕ). IsSteady context.activation n) lies byte.steady);
  word_holds = tt;
  address_holds = tt;
  zero_holds = tt;
}

pub word_known_at :
    (context : Context) (location : Option Location) (place : SourcePlace) (number : ℕ) (memory : List ℕ)
    (r : Registers)
    → PlaceLies context location place
    → r.h ≡ number / 256
    → r.l ≡ number % 256
    → WordLiesAt context.activation memory (address_on_machine context.activation place) number
    → Know context (record no_facts { word_in_hl = location }) r memory
word_known_at context None place number memory r lies h l word_is =
    record { byte_holds = tt; word_holds = tt; address_holds = tt; zero_holds = tt }
word_known_at context (Some location) place number memory r lies h l word_is = record {
  byte_holds = tt;
  word_holds = record {
    low_is =
        (l ∙ sym word_is.low ∙ ap (byte_at memory) lies, subst (λ (n : ℕ). IsSteady context.activation n) lies word_is.steady);
    high_is = (
      h ∙ sym word_is.high ∙ ap (λ (n : ℕ). byte_at memory (wrap (n + 1))) lies,
      subst (λ (n : ℕ). IsSteady context.activation (wrap (n + 1))) lies word_is.steady_too,
    );
  };
  address_holds = tt;
  zero_holds = tt;
}

-- HL is stored at a place in memory
pub shld_then :
    {A : Type 0} {Good : A → SourceState → State → Type 0}
    {context : Context} {facts last : Facts} {top from to : ℕ} {base : List ℕ} (others : List Step)
    (go : Unit {0} → SourceState → Outcome A) (static : Place) (place : SourcePlace) (number : ℕ)
    (t : SourceState) (r : Registers)
    (ended : List ℕ)
    → IsSound context
    → number < 65536
    → r.h ≡ number / 256
    → r.l ≡ number % 256
    → address_on_machine context.activation place ≡ place_at context.activation.layout static
    → FitsIn context.activation 2 place
    → StepsStand context (PartDoes context) facts from (Word StoreHl static ∷ others) last to
    → GoesOn context facts top base t.memory t.frame r ended
    → ((u : SourceState) (left : List ℕ) (middle : ℕ) (found : Facts)
    → WordLiesAt context.activation left (address_on_machine context.activation place) number
    → StepsStand context (PartDoes context) found middle others last to
    → GoesOn context found top base u.memory u.frame r left
    → Does (loaded_of context.activation) u.budget 0 (at_place middle r left u.events) (go tt u)
    Good)
    → Does (loaded_of context.activation) t.budget 1 (at_place from r ended t.events)
    (then_do (write_scalar context.activation.around.program Address place number t) go) Good
shld_then {Good = Good} {context = context} {facts = facts} {last = last} {top = top} {from = from} {to = to}
    {base = base} others go static place number t r ended sound small h l is_at fits
    (WordThere there stand) on rest =
    let loaded = loaded_of context.activation in
    let address : ℕ = place_at context.activation.layout static in
    word_written place number t go sound small on.ready fits
    (λ u events_same budget_same steady steady_too ready.
    let left : List ℕ =
    slice_set (slice_set ended address (low_byte (word r.h r.l))) (wrap (address + 1))
    (high_byte (word r.h r.l)) in
    let same : slice_set (slice_set ended (address_on_machine context.activation place) (number % 256))
    (wrap (address_on_machine context.activation place + 1)) (number / 256) ≡ left
    = ap (λ (n : ℕ). slice_set (slice_set ended n (number % 256)) (wrap (n + 1)) (number / 256)) is_at
    ∙ ap (λ (n : ℕ). slice_set (slice_set ended address n) (wrap (address + 1)) (number / 256))
    (low_of_halves r.h r.l number h l)
    ∙ ap (λ (n : ℕ). slice_set (slice_set ended address (low_byte (word r.h r.l))) (wrap (address + 1)) n)
    (high_of_halves r.h r.l number h l) in
    let lies : WordLiesAt context.activation left (address_on_machine context.activation place) number
    = subst (λ (memory : List ℕ). WordLiesAt context.activation memory
    (address_on_machine context.activation place) number) same
    (word_lies_at context.activation ended (address_on_machine context.activation place) number
    on.ready.shares.is_memory.size steady steady_too) in
    word_gains StoreHl static r r left sound there on (
      subst (λ (n : ℕ). IsSteadyByte context.activation n) is_at steady,
      subst (λ (n : ℕ). IsSteadyByte context.activation (wrap (n + 1))) is_at steady_too,
    ) refl
    (λ known.
    subst (λ (budget : ℕ). Does loaded budget 0 (at_place (from + 3) r left t.events) (go tt u) Good)
    budget_same
    (subst (λ (events : List Event). Does loaded u.budget 0 (at_place (from + 3) r left events)
    (go tt u) Good) events_same
    (rest u left (from + 3) _ lies stand
    (record {
      ready = subst (λ (memory : List ℕ). IsReady context.activation top base u.memory u.frame r memory) same
          ready;
      known = known;
    })))))
