-- A machine within the code by which a procedure that is not REENTRANT takes its arguments, and what it does
-- that comes to an instruction of it.
use Rattle.procedure_laws.proofs.Prelude.{◌≡◌, ◌≢◌, ℕ, ◌+◌, ◌-◌, ◌*◌, ◌/◌, ◌%◌, ◌<◌, ◌≤◌, inl, inr, List, [], ◌∷◌, Option, Some, None, length, slice_set, refl, sym, ap, subst, ◌∙◌, arith, length-set, set_comm, MEMORY_SIZE, byte_at, word_at, Event, ScalarType, Byte, Address, frame_bytes, Outcome, SourceState, Instr, Pop, Push, Xthl, StackPair, Psw, StackBc, StackDe, StackHl, act, HoldBytes, Registers, State, high_byte, low_byte, with_popped, wrap, WordForm, StoreA, StoreHl, instruction_with, Keeps, size_of_instruction, pushed, pushed_is_memory, pushed_keeps, pop_does, push_does, Location, Frame, Static, Place, Activation, FrameLies, IsReady, IsThere, IsVariable, LiesWell, MayChange, Owns, Shares, Does, loaded_of, at_place, plain_first, keeps_all, keeps_pushed, keeps_put, ready_with_variable, Asks, WordAsks, AddressHolds, ByteHolds, Distances, FactsHold, IsByteAt, IsSteady, IsWordAt, WordHolds, location_at, place_at, facts_after, facts_after_word, declared_is_steady, push_asks, Facts, after, after_word, word_item, Context, InRegister, IsSound, distances_in, Know, bytes_at_place, popped_bytes, word_acts, BodyContext, IsOfCall, byte_as_low, word_of_two}
use Rattle.asm8080.specs.declared.item.Item.TheVariants as items
use Rattle.procedure_laws.proofs.Puts.{IsPart, Slot, put, put_kept}
use Rattle.procedure_laws.proofs.Numbers.{two_less_again, two_more_one, wrapped_two_more}

-- the instruction that stores a value of a type from its register
abbrev pub store_form : ScalarType → WordForm
store_form Byte = StoreA
store_form Address = StoreHl

-- Along the entry the return address is pushed where the stack pointer of the body is to be, so no byte of
-- the stack is steady. What is known is said as in an activation without a frame at the end of the stack,
abbrev pub at_end : Activation → Activation
at_end activation = record activation {
  level = activation.around.program.placement.stack.start + activation.around.program.placement.stack.len;
  whole = 0;
}

-- with variables of a frame where they are:
abbrev pub distances_at_end : Context → Distances
distances_at_end context variable =
    distances_in context variable + context.activation.level
    + (MEMORY_SIZE - (at_end context.activation).level)

-- this is known there
abbrev pub KnownOutside : Context → Facts → Registers → (memory : List ℕ) → Type 0
KnownOutside context facts r memory =
    FactsHold (at_end context.activation) (distances_at_end context) facts r memory

-- so what is known there is known in the activation
steady_within : (activation : Activation) (address : ℕ) → LiesWell activation
    → IsSteady (at_end activation) address → IsSteady activation address
steady_within activation address lies steady =
    let above = lies.above in
    record { apart = λ low below. steady.apart low (omega (arith, below, above)) }

same_location : (context : Context) (location : Location) → LiesWell context.activation
    → location_at (at_end context.activation) (distances_at_end context) location
    ≡ location_at context.activation (distances_in context) location
same_location context (Static place) lies = refl
same_location context (Frame variable offset) lies =
    let stack = lies.placed.stack_in_memory in
    moved (at_end context.activation).level (distances_in context variable)
    context.activation.level offset stack
  where
    moved : (end distance level offset : ℕ) → end ≤ MEMORY_SIZE
        → wrap (end + (distance + level + (MEMORY_SIZE - end)) + offset) ≡ wrap (level + distance + offset)
    moved end distance level offset small = omega (arith, small)

byte_within : (context : Context) (memory : List ℕ) (address byte : ℕ) → LiesWell context.activation
    → IsByteAt (at_end context.activation) memory address byte
    → IsByteAt context.activation memory address byte
byte_within context memory address byte lies is = (is.0, steady_within context.activation address lies is.1)

byte_known : (context : Context) (held : Option Location) (a : ℕ) (memory : List ℕ)
    → LiesWell context.activation
    → ByteHolds (at_end context.activation) (distances_at_end context) held a memory
    → ByteHolds context.activation (distances_in context) held a memory
byte_known context None a memory lies holds = tt
byte_known context (Some location) a memory lies holds =
    subst (λ (address : ℕ). IsByteAt context.activation memory address a)
    (same_location context location lies)
    (byte_within context memory (location_at (at_end context.activation) (distances_at_end context) location)
    a lies
    holds)

word_known : (context : Context) (held : Option Location) (h l : ℕ) (memory : List ℕ)
    → LiesWell context.activation
    → WordHolds (at_end context.activation) (distances_at_end context) held h l memory
    → WordHolds context.activation (distances_in context) held h l memory
word_known context None h l memory lies holds = tt
word_known context (Some location) h l memory lies holds =
    let address = location_at (at_end context.activation) (distances_at_end context) location in
    subst (λ (address : ℕ). IsWordAt context.activation memory address h l)
    (same_location context location lies)
    (record {
      low_is = byte_within context memory address l lies holds.low_is;
      high_is = byte_within context memory (wrap (address + 1)) h lies holds.high_is;
    })

address_known : (context : Context) (held : Option Location) (h l : ℕ) → LiesWell context.activation
    → AddressHolds (at_end context.activation) (distances_at_end context) held h l
    → AddressHolds context.activation (distances_in context) held h l
address_known context None h l lies holds = tt
address_known context (Some location) h l lies holds = holds ∙ same_location context location lies

pub known_within : (context : Context) (facts : Facts) (r : Registers) (memory : List ℕ)
    → LiesWell context.activation
    → KnownOutside context facts r memory → Know context facts r memory
known_within context facts r memory lies known = record {
  byte_holds = byte_known context facts.byte_in_a r.a memory lies known.byte_holds;
  word_holds = word_known context facts.word_in_hl r.h r.l memory lies known.word_holds;
  address_holds = address_known context facts.address_in_hl r.h r.l lies known.address_holds;
  zero_holds = known.zero_holds;
}

-- a machine on its way: this is known, and the bytes of the stack are these
pub record Underway
    (at : BodyContext) (above : ℕ) (entered stacked : List ℕ) (facts : Facts) (top : ℕ) (source : List ℕ)
    (r : Registers) (memory : List ℕ) : Type 0 where
  pub pointer : r.sp ≡ wrap top
  pub registers : HoldBytes r
  pub shares : Shares at.context.activation.around.program at.context.activation.image source memory
  pub known : KnownOutside at.context facts r memory
  pub kept : Keeps (IsOfCall at.context.activation.around.program at.context.activation.floor above) entered
      memory
  pub stack : (address : ℕ) → at.context.activation.floor ≤ address
      → address < at.context.activation.around.program.placement.stack.start
      + at.context.activation.around.program.placement.stack.len
      → byte_at memory address ≡ byte_at stacked address

low_is : (h l value : ℕ) → h ≡ value / 256 → l ≡ value % 256 → low_byte (256 * h + l) ≡ value % 256
low_is h l value high low = omega (arith, high, low)

high_is : (h l value : ℕ) → h ≡ value / 256 → l ≡ value % 256 → high_byte (256 * h + l) ≡ value / 256
high_is h l value high low = omega (arith, high, low)

small_high : (h value : ℕ) → h ≡ value / 256 → h < 256 → value / 256 < 256
small_high h value same small = omega (arith, same, small)

module _ (at : BodyContext) (sound : IsSound at.context)
    (no_frame : (object : ℕ) → at.context.activation.size object ≡ 0)
    (above : ℕ) (entered : List ℕ) (frame : List (List ℕ))
    (none : (object : ℕ) → length (frame_bytes frame object) ≡ 0) where
  frame_lies : (memory : List ℕ) → FrameLies at.context.activation frame memory
  frame_lies memory = record {
    sizes = λ object. none object ∙ sym (no_frame object);
    bytes = λ object offset within. let empty = no_frame object in absurd (omega (arith, within, empty));
  }

  pub ready_of : {stacked : List ℕ} {facts : Facts} {top : ℕ} {source : List ℕ}
      {r : Registers} {memory : List ℕ}
      → Underway at above entered stacked facts top source r memory
      → IsReady at.context.activation top memory source frame r memory
  ready_of {top = top} {memory = memory} on = record {
    pointer = on.pointer;
    registers = on.registers;
    shares = on.shares;
    frame_lies = frame_lies memory;
    kept = keeps_all (Owns at.context.activation top) memory;
  }

  end_lies : LiesWell (at_end at.context.activation)
  end_lies = record {
    placed = sound.lies.placed;
    bottom = sound.lies.bottom;
    low = (let low = sound.lies.low in let above = sound.lies.above in omega (arith, low, above));
    above = omega arith;
    inside = λ object offset within. let empty = no_frame object in absurd (omega (arith, within, empty));
    not_back = λ object offset within. let empty = no_frame object in absurd (omega (arith, within, empty));
    differ = λ object offset other place within rest same.
        let empty = no_frame object in absurd (omega (arith, within, empty));
  }

  -- an instruction: what it does is left, and what is known after it holds then
  plain_on :
      {A : Type 0} {outcome : Outcome A} {Good : A → SourceState → State → Type 0} {budget : ℕ}
      {stacked : List ℕ} {facts : Facts} {top : ℕ} {source : List ℕ} {memory : List ℕ} {events : List Event}
      {i : Instr} {from : ℕ} (r now : Registers) (ended : List ℕ)
      → IsThere at.context.activation (items.Plain i ∷ []) from (from + size_of_instruction i)
      → Underway at above entered stacked facts top source r memory
      → Asks (at_end at.context.activation) (distances_at_end at.context) facts i
      (record r { pc = wrap (from + size_of_instruction i) })
      → act at.context.activation.around.program.script i
      (at_place (from + size_of_instruction i) r memory events)
      ≡ at_place (from + size_of_instruction i) now ended events
      → (KnownOutside at.context (after facts i) now ended
      → Does (loaded_of at.context.activation) budget 0
      (at_place (from + size_of_instruction i) now ended events) outcome Good)
      → Does (loaded_of at.context.activation) budget 0 (at_place from r memory events) outcome Good
  plain_on {outcome = outcome} {Good = Good} {budget = budget} {facts = facts} {memory = memory}
      {events = events} {i = i} {from = from} r now ended there on asks does rest =
      let script = at.context.activation.around.program.script in
      let loaded = loaded_of at.context.activation in
      let place = from + size_of_instruction i in
      let known : KnownOutside at.context (after facts i) now ended
      = subst (λ (s : State). KnownOutside at.context (after facts i) s.registers s.memory) does
      (facts_after script (at_end at.context.activation) (distances_at_end at.context) facts i
      (at_place place r memory events) on.shares.is_memory
      (bytes_at_place (wrap place) r on.registers) asks on.known) in
      plain_first r sound.lies on.shares.code there
      (subst (λ (s : State). Does loaded budget 0 s outcome Good) (sym does) (rest known))

  word_on :
      {A : Type 0} {outcome : Outcome A} {Good : A → SourceState → State → Type 0} {budget : ℕ}
      {stacked : List ℕ} {facts : Facts} {top : ℕ} {source : List ℕ} {memory : List ℕ} {events : List Event}
      {from : ℕ} (form : WordForm) (place : Place) (r now : Registers) (ended : List ℕ)
      → IsThere at.context.activation (word_item form place ∷ []) from (from + 3)
      → Underway at above entered stacked facts top source r memory
      → WordAsks (at_end at.context.activation) form (place_at at.context.activation.layout place)
      → act at.context.activation.around.program.script
      (instruction_with form (place_at at.context.activation.layout place))
      (at_place (from + 3) r memory events)
      ≡ at_place (from + 3) now ended events
      → (KnownOutside at.context (after_word facts form place) now ended
      → Does (loaded_of at.context.activation) budget 0
      (at_place (from + 3) now ended events) outcome Good)
      → Does (loaded_of at.context.activation) budget 0 (at_place from r memory events) outcome Good
  word_on {outcome = outcome} {Good = Good} {budget = budget} {facts = facts} {memory = memory}
      {events = events} {from = from} form place r now ended there on asks does rest =
      let script = at.context.activation.around.program.script in
      let loaded = loaded_of at.context.activation in
      let known : KnownOutside at.context (after_word facts form place) now ended
      = subst (λ (s : State). KnownOutside at.context (after_word facts form place) s.registers s.memory) does
      (facts_after_word script (at_end at.context.activation) (distances_at_end at.context) facts form place
      (at_place (from + 3) r memory events) on.shares.is_memory
      (bytes_at_place (wrap (from + 3)) r on.registers) asks
      on.known) in
      word_acts form place r sound on.shares.code there
      (subst (λ (s : State). Does loaded budget 0 s outcome Good) (sym does) (rest known))

  -- the bytes of a variable are no bytes of the stack
  stack_kept : (scalar : ScalarType) (start value : ℕ) (memory : List ℕ)
      → ((address : ℕ) → IsPart scalar start address
      → IsVariable at.context.activation.around.program address)
      → (address : ℕ) → at.context.activation.floor ≤ address
      → address < at.context.activation.around.program.placement.stack.start
      + at.context.activation.around.program.placement.stack.len
      → byte_at (put scalar start value memory) address ≡ byte_at memory address
  stack_kept scalar start value memory variables address low high =
      put_kept scalar start value memory address
      (λ part.
      let bottom = sound.lies.bottom in
      sound.lies.placed.stack_free address (variables address part).0 (omega (arith, bottom, low)) high)

  shares_put : (scalar : ScalarType) (start value : ℕ) {stacked : List ℕ} {facts : Facts} {top : ℕ}
      {source : List ℕ} {r : Registers}
      {memory : List ℕ}
      → ((address : ℕ) → IsPart scalar start address
      → IsVariable at.context.activation.around.program address)
      → start < MEMORY_SIZE
      → value / 256 < 256
      → Underway at above entered stacked facts top source r memory
      → Shares at.context.activation.around.program at.context.activation.image
      (put scalar start value source)
      (put scalar start value memory)
  shares_put Byte start value {top = top} {source = source} {r = r} {memory = memory}
      variables small high on =
      (ready_with_variable at.context.activation top memory source frame r memory start
      (value % 256) sound.lies
      (variables start refl) small (omega arith) (ready_of on)).shares
  shares_put Address start value {top = top} {source = source} {r = r} {memory = memory}
      variables small high on =
      (ready_with_variable at.context.activation top memory (slice_set source start (value % 256)) frame r
      (slice_set memory start (value % 256)) (wrap (start + 1)) (value / 256) sound.lies
      (variables (wrap (start + 1)) (inr refl)) (omega arith) high
      (ready_with_variable at.context.activation top memory source frame r memory start
      (value % 256) sound.lies
      (variables start (inl refl)) small (omega arith) (ready_of on))).shares

  kept_put : (scalar : ScalarType) (start value : ℕ) (memory : List ℕ)
      → ((address : ℕ) → IsPart scalar start address
      → IsVariable at.context.activation.around.program address)
      → Keeps (IsOfCall at.context.activation.around.program at.context.activation.floor above) entered memory
      → Keeps (IsOfCall at.context.activation.around.program at.context.activation.floor above) entered
      (put scalar start value memory)
  kept_put Byte start value memory variables kept =
      keeps_put (IsOfCall at.context.activation.around.program at.context.activation.floor above) entered
      memory start (value % 256)
      (inl (variables start refl)) kept
  kept_put Address start value memory variables kept =
      keeps_put (IsOfCall at.context.activation.around.program at.context.activation.floor above) entered
      (slice_set memory start (value % 256))
      (wrap (start + 1)) (value / 256) (inl (variables (wrap (start + 1)) (inr refl)))
      (keeps_put (IsOfCall at.context.activation.around.program at.context.activation.floor above) entered
      memory start (value % 256)
      (inl (variables start (inl refl))) kept)

  store_asks : (scalar : ScalarType) (start : ℕ)
      → ((address : ℕ) → IsPart scalar start address
      → IsVariable at.context.activation.around.program address)
      → start < MEMORY_SIZE
      → WordAsks (at_end at.context.activation) (store_form scalar) start
  store_asks Byte start variables small =
      (declared_is_steady (at_end at.context.activation) start end_lies (variables start refl).0, small)
  store_asks Address start variables small = (
    (declared_is_steady (at_end at.context.activation) start end_lies (variables start (inl refl)).0, small),
    (
      declared_is_steady (at_end at.context.activation) (wrap (start + 1)) end_lies
          (variables (wrap (start + 1)) (inr refl)).0,
      omega arith,
    ),
  )

  store_acts : (scalar : ScalarType) (start value place : ℕ) (r : Registers) (memory : List ℕ)
      (events : List Event)
      → InRegister scalar value r
      → HoldBytes r
      → act at.context.activation.around.program.script (instruction_with (store_form scalar) start)
      (at_place place r memory events)
      ≡ at_place place r (put scalar start value memory) events
  store_acts Byte start value place r memory events lies bytes =
      ap (λ (byte : ℕ). at_place place r (slice_set memory start byte) events)
      (byte_as_low r.a value lies bytes.a)
  store_acts Address start value place r memory events lies bytes =
      ap (λ (byte : ℕ).
      at_place place r
      (slice_set (slice_set memory start byte) (wrap (start + 1)) (high_byte (256 * r.h + r.l))) events)
      (low_is r.h r.l value lies.0 lies.1)
      ∙ ap (λ (byte : ℕ).
      at_place place r (slice_set (slice_set memory start (value % 256)) (wrap (start + 1)) byte) events)
      (high_is r.h r.l value lies.0 lies.1)

  value_small : (scalar : ScalarType) (value : ℕ) (r : Registers) → InRegister scalar value r → HoldBytes r
      → value / 256 < 256
  value_small Byte value r lies bytes = let a = bytes.a in omega (arith, lies, a)
  value_small Address value r lies bytes = small_high r.h value lies.0 bytes.h

  -- a value goes from its register to a parameter
  pub store_goes :
      {A : Type 0} {outcome : Outcome A} {Good : A → SourceState → State → Type 0} {budget : ℕ}
      {stacked : List ℕ} {facts : Facts} {top : ℕ} {source : List ℕ} {memory : List ℕ}
      {events : List Event} {from : ℕ}
      (slot : Slot) (value : ℕ) (r : Registers)
      → place_at at.context.activation.layout slot.place ≡ slot.at
      → ((address : ℕ) → IsPart slot.scalar slot.at address
      → IsVariable at.context.activation.around.program address)
      → slot.at < MEMORY_SIZE
      → InRegister slot.scalar value r
      → IsThere at.context.activation (word_item (store_form slot.scalar) slot.place ∷ []) from (from + 3)
      → Underway at above entered stacked facts top source r memory
      → (Underway at above entered stacked (after_word facts (store_form slot.scalar) slot.place) top
      (put slot.scalar slot.at value source) r (put slot.scalar slot.at value memory)
      → Does (loaded_of at.context.activation) budget 0
      (at_place (from + 3) r (put slot.scalar slot.at value memory) events) outcome Good)
      → Does (loaded_of at.context.activation) budget 0 (at_place from r memory events) outcome Good
  store_goes {memory = memory} {events = events} {from = from} slot value r is variables small
      lies there on rest =
      word_on (store_form slot.scalar) slot.place r r (put slot.scalar slot.at value memory) there on
      (subst (λ (address : ℕ). WordAsks (at_end at.context.activation) (store_form slot.scalar) address)
      (sym is)
      (store_asks slot.scalar slot.at variables small))
      (ap (λ (address : ℕ).
      act at.context.activation.around.program.script (instruction_with (store_form slot.scalar) address)
      (at_place (from + 3) r memory events)) is
      ∙ store_acts slot.scalar slot.at value (from + 3) r memory events lies on.registers)
      (λ known. rest (record {
        pointer = on.pointer;
        registers = on.registers;
        shares =
            shares_put slot.scalar slot.at value variables small
            (value_small slot.scalar value r lies on.registers) on;
        known = known;
        kept = kept_put slot.scalar slot.at value memory variables on.kept;
        stack = λ address low high.
            stack_kept slot.scalar slot.at value memory variables address low high
            ∙ on.stack address low high;
      }))

  pop_asks : (facts : Facts) (pair : StackPair) (r : Registers)
      → Asks (at_end at.context.activation) (distances_at_end at.context) facts (Pop pair) r
  pop_asks facts StackBc r = tt
  pop_asks facts StackDe r = tt
  pop_asks facts StackHl r = tt
  pop_asks facts Psw r = tt

  -- a word is taken from the stack
  pub pop_goes :
      {A : Type 0} {outcome : Outcome A} {Good : A → SourceState → State → Type 0} {budget : ℕ}
      {stacked : List ℕ} {facts : Facts} {top : ℕ} {source : List ℕ} {memory : List ℕ}
      {events : List Event} {from : ℕ}
      (pair : StackPair) (word : ℕ) (r : Registers)
      → word < MEMORY_SIZE
      → byte_at memory top ≡ low_byte word
      → byte_at memory (top + 1) ≡ high_byte word
      → top + 2 ≤ MEMORY_SIZE
      → IsThere at.context.activation (items.Plain (Pop pair) ∷ []) from
      (from + size_of_instruction (Pop pair))
      → Underway at above entered stacked facts top source r memory
      → (Underway at above entered stacked (after facts (Pop pair)) (top + 2) source
      (record (with_popped pair word r) { sp = wrap (top + 2) }) memory
      → Does (loaded_of at.context.activation) budget 0
      (at_place (from + size_of_instruction (Pop pair))
      (record (with_popped pair word r) { sp = wrap (top + 2) }) memory events) outcome Good)
      → Does (loaded_of at.context.activation) budget 0 (at_place from r memory events) outcome Good
  pop_goes {facts = facts} {top = top} {memory = memory} {events = events} {from = from} pair word r small low
      high limit there on rest =
      plain_on r (record (with_popped pair word r) { sp = wrap (top + 2) }) memory there on
      (pop_asks facts pair (record r { pc = wrap (from + size_of_instruction (Pop pair)) }))
      (pop_does at.context.activation.around.program.script pair
      (from + size_of_instruction (Pop pair)) (top + 2) word r memory events
      (on.pointer ∙ wrapped_two_more top) (omega arith) limit
      (record {
        high = ap (byte_at memory) (two_more_one top) ∙ high;
        low = ap (byte_at memory) (two_less_again top) ∙ low;
      }))
      (λ known. rest (record {
        pointer = refl;
        registers = popped_bytes pair word r (wrap (top + 2)) small on.registers;
        shares = on.shares;
        known = known;
        kept = on.kept;
        stack = on.stack;
      }))

  -- two bytes of the stack below a level are written
  stack_written :
      {stacked : List ℕ} {facts now_known : Facts} {top : ℕ} {source : List ℕ}
      {r : Registers} {memory : List ℕ}
      (level word : ℕ) (now : Registers)
      → at.context.activation.floor + 2 ≤ level
      → level ≤ above
      → above ≤ at.context.activation.around.program.placement.stack.start
      + at.context.activation.around.program.placement.stack.len
      → word < MEMORY_SIZE
      → Underway at above entered stacked facts top source r memory
      → now.sp ≡ wrap (level - 2)
      → HoldBytes now
      → KnownOutside at.context now_known now (pushed level word memory)
      → Underway at above entered (pushed level word memory) now_known (level - 2) source now
      (pushed level word memory)
  stack_written {memory = memory} level word now low high end small on pointer bytes known =
      let free = sound.lies.placed.stack_free in
      let apart = sound.lies.placed.apart in
      let bottom = sound.lies.bottom in
      record {
        pointer = pointer;
        registers = bytes;
        shares = record {
          is_memory = pushed_is_memory level word memory small on.shares.is_memory;
          size = on.shares.size;
          declared = λ address there.
              pushed_keeps level word memory address
              (λ same. free address there (omega (arith, same, low, bottom))
              (omega (arith, same, low, high, end)))
              (λ same. free address there (omega (arith, same, low, bottom))
              (omega (arith, same, low, high, end)))
              ∙ on.shares.declared address there;
          code = λ address there.
              pushed_keeps level word memory address
              (λ same.
              apart address there.0 there.1 (omega (arith, same, low, bottom))
              (omega (arith, same, low, high, end)))
              (λ same.
              apart address there.0 there.1 (omega (arith, same, low, bottom))
              (omega (arith, same, low, high, end)))
              ∙ on.shares.code address there;
          others = keeps_pushed (MayChange at.context.activation.around.program) level word
              at.context.activation.image memory
              (inr (omega (arith, low, bottom), omega (arith, low, high, end)))
              (inr (omega (arith, low, bottom), omega (arith, low, high, end))) on.shares.others;
        };
        known = known;
        kept = record {
          size =
              length-set (slice_set memory (level - 1) (high_byte word)) (level - 2) (low_byte word)
              ∙ length-set memory (level - 1) (high_byte word) ∙ on.kept.size;
          bytes = λ address outside.
              pushed_keeps level word memory address
              (λ same. outside (inr (omega (arith, same, low), omega (arith, same, low, high))))
              (λ same. outside (inr (omega (arith, same, low), omega (arith, same, low, high))))
              ∙ on.kept.bytes address outside;
        };
        stack = λ address below over. refl;
      }

  -- the return address, which is in DE, goes onto the stack
  pub push_goes :
      {A : Type 0} {outcome : Outcome A} {Good : A → SourceState → State → Type 0} {budget : ℕ}
      {stacked : List ℕ} {facts : Facts} {top : ℕ} {source : List ℕ} {memory : List ℕ}
      {events : List Event} {from : ℕ}
      (r : Registers)
      → at.context.activation.floor + 2 ≤ top
      → top ≤ above
      → above ≤ at.context.activation.around.program.placement.stack.start
      + at.context.activation.around.program.placement.stack.len
      → IsThere at.context.activation (items.Plain (Push StackDe) ∷ []) from (from + 1)
      → Underway at above entered stacked facts top source r memory
      → (Underway at above entered (pushed top (256 * r.d + r.e) memory)
      (after facts (Push StackDe)) (top - 2) source
      (record r { sp = wrap (top - 2) }) (pushed top (256 * r.d + r.e) memory)
      → Does (loaded_of at.context.activation) budget 0
      (at_place (from + 1) (record r { sp = wrap (top - 2) }) (pushed top (256 * r.d + r.e) memory) events)
      outcome Good)
      → Does (loaded_of at.context.activation) budget 0 (at_place from r memory events) outcome Good
  push_goes {top = top} {memory = memory} {events = events} {from = from} r low high end there on rest =
      let stack = sound.lies.placed.stack_in_memory in
      let limit : top ≤ MEMORY_SIZE = omega (arith, high, end, stack) in
      let bytes = on.registers in
      let d = bytes.d in
      let e = bytes.e in
      plain_on r (record r { sp = wrap (top - 2) }) (pushed top (256 * r.d + r.e) memory) there on
      (push_asks (at_end at.context.activation) r.sp top end_lies on.pointer low (omega (arith, high, end)))
      (push_does at.context.activation.around.program.script StackDe (from + 1) top r memory
      events on.pointer limit
      (omega (arith, low)))
      (λ known.
      rest (stack_written top (256 * r.d + r.e) (record r { sp = wrap (top - 2) }) low high end
      (omega (arith, d, e)) on refl
      (record { a = bytes.a; b = bytes.b; c = bytes.c; d = bytes.d; e = bytes.e; h = bytes.h; l = bytes.l })
      known))

  -- the return address, which is in HL, takes the place of the word on the stack
  pub exchange_goes :
      {A : Type 0} {outcome : Outcome A} {Good : A → SourceState → State → Type 0} {budget : ℕ}
      {stacked : List ℕ} {facts : Facts} {top : ℕ} {source : List ℕ} {memory : List ℕ}
      {events : List Event} {from : ℕ}
      (word : ℕ) (r : Registers)
      → word < MEMORY_SIZE
      → byte_at memory top ≡ low_byte word
      → byte_at memory (top + 1) ≡ high_byte word
      → at.context.activation.floor ≤ top
      → top + 2 ≤ above
      → above ≤ at.context.activation.around.program.placement.stack.start
      + at.context.activation.around.program.placement.stack.len
      → IsThere at.context.activation (items.Plain Xthl ∷ []) from (from + 1)
      → Underway at above entered stacked facts top source r memory
      → (Underway at above entered (pushed (top + 2) (256 * r.h + r.l) memory) (after facts Xthl)
      (top + 2 - 2) source
      (record r { h = high_byte word; l = low_byte word }) (pushed (top + 2) (256 * r.h + r.l) memory)
      → Does (loaded_of at.context.activation) budget 0
      (at_place (from + 1) (record r { h = high_byte word; l = low_byte word })
      (pushed (top + 2) (256 * r.h + r.l) memory) events) outcome Good)
      → Does (loaded_of at.context.activation) budget 0 (at_place from r memory events) outcome Good
  exchange_goes {top = top} {memory = memory} {events = events} {from = from} word r small low_byte_is
      high_byte_is low high end there on rest =
      let bytes = on.registers in
      let h = bytes.h in
      let l = bytes.l in
      plain_on r (record r { h = high_byte word; l = low_byte word })
      (pushed (top + 2) (256 * r.h + r.l) memory) there on
      tt acts
      (λ known.
      rest (stack_written (top + 2) (256 * r.h + r.l) (record r { h = high_byte word; l = low_byte word })
      (omega (arith, low)) high end (omega (arith, h, l)) on (on.pointer ∙ wrapped_two_more top)
      (record { a = bytes.a; b = bytes.b; c = bytes.c; d = bytes.d; e = bytes.e; h = omega (arith, small); l = omega arith })
      known))
    where
      limit : top + 2 ≤ MEMORY_SIZE
      limit =
          let stack = sound.lies.placed.stack_in_memory in
          omega (arith, high, end, stack)

      at_top : (top : ℕ) → top + 2 ≤ MEMORY_SIZE → wrap top ≡ top + 2 - 2
      at_top top limit = omega (arith, limit)

      at_next : (top : ℕ) → top + 2 ≤ MEMORY_SIZE → wrap (top + 2 - 2 + 1) ≡ top + 2 - 1
      at_next top limit = omega (arith, limit)

      is_next : (top : ℕ) → top + 2 ≤ MEMORY_SIZE → (top + 1) % MEMORY_SIZE ≡ top + 1
      is_next top limit = omega (arith, limit)

      word_is : word_at memory (top + 2 - 2) ≡ word
      word_is =
          ap (λ (address : ℕ). word_at memory address) (two_less_again top)
          ∙ word_of_two (byte_at memory top) (byte_at memory ((top + 1) % MEMORY_SIZE)) word low_byte_is
          (ap (byte_at memory) (is_next top limit) ∙ high_byte_is)

      acts : act at.context.activation.around.program.script Xthl (at_place (from + 1) r memory events)
          ≡ at_place (from + 1) (record r { h = high_byte word; l = low_byte word })
          (pushed (top + 2) (256 * r.h + r.l) memory) events
      acts =
          ap (λ (sp : ℕ).
          at_place (from + 1)
          (record r { h = high_byte (word_at memory sp); l = low_byte (word_at memory sp) })
          (slice_set (slice_set memory sp (low_byte (256 * r.h + r.l))) (wrap (sp + 1))
          (high_byte (256 * r.h + r.l)))
          events) (on.pointer ∙ at_top top limit)
          ∙ ap (λ (next : ℕ).
          at_place (from + 1)
          (record r { h = high_byte (word_at memory (top + 2 - 2)); l = low_byte (word_at memory (top + 2 - 2)) })
          (slice_set (slice_set memory (top + 2 - 2) (low_byte (256 * r.h + r.l))) next
          (high_byte (256 * r.h + r.l)))
          events) (at_next top limit)
          ∙ ap (λ (word : ℕ).
          at_place (from + 1) (record r { h = high_byte word; l = low_byte word })
          (slice_set (slice_set memory (top + 2 - 2) (low_byte (256 * r.h + r.l))) (top + 2 - 1)
          (high_byte (256 * r.h + r.l))) events) word_is
          ∙ ap (λ (memory : List ℕ).
          at_place (from + 1) (record r { h = high_byte word; l = low_byte word }) memory events)
          (set_comm memory (top + 2 - 2) (top + 2 - 1) (low_byte (256 * r.h + r.l))
          (high_byte (256 * r.h + r.l))
          (differ top))
        where
          differ : (top : ℕ) → top + 2 - 2 ≢ top + 2 - 1
          differ top same = omega (arith, same)
