-- Uses of facts: an instruction copies a byte from a register that is known to hold it.
use Rattle.code_meaning.proofs.Prelude.{◌≡◌, ℕ, ◌<◌, ◌⊎◌, inl, inr, Bool, true, false, ◌||◌, if◌then◌else◌, List, Option, Some, None, refl, ap, subst, ◌∙◌, MEMORY_SIZE, byte_at, Instr, A, H, L, State, word, act, with_registers, Location, Facts, before, byte_for_l, byte_from_hl, holds_byte, is_at, copy, load, Activation, AddressHolds, ByteHolds, Distances, FactsHold, IsByteAt, IsWordAt, WordHolds, location_at, false≢true}
use Rattle.code_meaning.proofs.Facts.Places.{after_before, same_locations}

-- A holds the byte at a location,
pub byte_in_a_is :
    (activation : Activation) (distance : Distances) (held : Option Location) (location : Location)
    (a : ℕ) (memory : List ℕ)
    → is_at held location ≡ true
    → ByteHolds activation distance held a memory
    → IsByteAt activation memory (location_at activation distance location) a
byte_in_a_is activation distance None location a memory here holds = absurd (false≢true here)
byte_in_a_is activation distance (Some other) location a memory here holds =
    subst (λ (address : ℕ). IsByteAt activation memory address a)
    (same_locations activation distance other location here)
    holds

-- HL holds the word there,
pub word_in_hl_is :
    (activation : Activation) (distance : Distances) (held : Option Location) (location : Location)
    (h l : ℕ) (memory : List ℕ)
    → is_at held location ≡ true
    → WordHolds activation distance held h l memory
    → IsWordAt activation memory (location_at activation distance location) h l
word_in_hl_is activation distance None location h l memory here holds = absurd (false≢true here)
word_in_hl_is activation distance (Some other) location h l memory here holds =
    subst (λ (address : ℕ). IsWordAt activation memory address h l)
    (same_locations activation distance other location here)
    holds

-- HL is its address
pub address_in_hl_is :
    (activation : Activation) (distance : Distances) (held : Option Location) (location : Location) (h l : ℕ)
    → is_at held location ≡ true
    → AddressHolds activation distance held h l
    → word h l ≡ location_at activation distance location
address_in_hl_is activation distance None location h l here holds = absurd (false≢true here)
address_in_hl_is activation distance (Some other) location h l here holds =
    holds ∙ same_locations activation distance other location here

-- H holds the byte at a location, if HL holds the word one byte before
pub byte_in_h_is :
    (activation : Activation) (distance : Distances) (held : Option Location) (location : Location)
    (h l : ℕ) (memory : List ℕ)
    → location_at activation distance location < MEMORY_SIZE
    → is_at held (before location) ≡ true
    → WordHolds activation distance held h l memory
    → IsByteAt activation memory (location_at activation distance location) h
byte_in_h_is activation distance held location h l memory small here holds =
    let is = word_in_hl_is activation distance held (before location) h l memory here holds in
    subst (λ (address : ℕ). IsByteAt activation memory address h)
    (after_before activation distance location small)
    is.high_is

-- an instruction, if there is one, that only puts a byte into A, or into L
abbrev pub PutsInA : (script : List (List ℕ)) → State → (byte : ℕ) → Option Instr → Type 0
PutsInA script s byte None = Unit {0}
PutsInA script s byte (Some i) = act script i s ≡ with_registers (record s.registers { a = byte }) s

abbrev pub PutsInL : (script : List (List ℕ)) → State → (byte : ℕ) → Option Instr → Type 0
PutsInL script s byte None = Unit {0}
PutsInL script s byte (Some i) = act script i s ≡ with_registers (record s.registers { l = byte }) s

put_in_a : (s : State) (one other : ℕ) → one ≡ other
    → with_registers (record s.registers { a = one }) s ≡ with_registers (record s.registers { a = other }) s
put_in_a s one other same = ap (λ n. with_registers (record s.registers { a = n }) s) same

put_in_l : (s : State) (one other : ℕ) → one ≡ other
    → with_registers (record s.registers { l = one }) s ≡ with_registers (record s.registers { l = other }) s
put_in_l s one other same = ap (λ n. with_registers (record s.registers { l = n }) s) same

-- the instruction that the facts give for a byte in A
pub byte_from_hl_puts :
    (script : List (List ℕ)) (activation : Activation) (distance : Distances) (facts : Facts)
    (location : Location) (s : State)
    → location_at activation distance location < MEMORY_SIZE
    → FactsHold activation distance facts s.registers s.memory
    → PutsInA script s (byte_at s.memory (location_at activation distance location))
    (byte_from_hl facts location)
byte_from_hl_puts script activation distance facts location s small hold =
    by_test (is_at facts.word_in_hl location) (is_at facts.word_in_hl (before location))
    (is_at facts.address_in_hl location) refl refl refl
  where
    by_test : (low high here : Bool)
        → is_at facts.word_in_hl location ≡ low
        → is_at facts.word_in_hl (before location) ≡ high
        → is_at facts.address_in_hl location ≡ here
        → PutsInA script s (byte_at s.memory (location_at activation distance location))
        (if low then Some (copy A L) else if high then Some
        (copy A H) else if here then Some (load A) else None)
    by_test true high here low_is high_is here_is =
        let is =
        word_in_hl_is activation distance facts.word_in_hl location s.registers.h s.registers.l s.memory
        low_is hold.word_holds in
        put_in_a s s.registers.l (byte_at s.memory (location_at activation distance location)) is.low_is.0
    by_test false true here low_is high_is here_is =
        let is =
        byte_in_h_is activation distance facts.word_in_hl location s.registers.h s.registers.l s.memory
        small high_is hold.word_holds in
        put_in_a s s.registers.h (byte_at s.memory (location_at activation distance location)) is.0
    by_test false false true low_is high_is here_is =
        put_in_a s (byte_at s.memory (word s.registers.h s.registers.l))
        (byte_at s.memory (location_at activation distance location))
        (ap (byte_at s.memory)
        (address_in_hl_is activation distance facts.address_in_hl location s.registers.h s.registers.l here_is
        hold.address_holds))
    by_test false false false low_is high_is here_is = tt

-- the instruction that the facts give for a byte in L
pub byte_for_l_puts :
    (script : List (List ℕ)) (activation : Activation) (distance : Distances) (facts : Facts)
    (location : Location) (s : State)
    → location_at activation distance location < MEMORY_SIZE
    → FactsHold activation distance facts s.registers s.memory
    → PutsInL script s (byte_at s.memory (location_at activation distance location))
    (byte_for_l facts location)
byte_for_l_puts script activation distance facts location s small hold =
    by_test (is_at facts.byte_in_a location) (is_at facts.word_in_hl (before location))
    (is_at facts.address_in_hl location) refl refl refl
  where
    by_test : (in_a high here : Bool)
        → is_at facts.byte_in_a location ≡ in_a
        → is_at facts.word_in_hl (before location) ≡ high
        → is_at facts.address_in_hl location ≡ here
        → PutsInL script s (byte_at s.memory (location_at activation distance location))
        (if in_a then Some (copy L A) else if high then Some
        (copy L H) else if here then Some (load L) else None)
    by_test true high here a_is high_is here_is =
        let is =
        byte_in_a_is activation distance facts.byte_in_a location s.registers.a s.memory
        a_is hold.byte_holds in
        put_in_l s s.registers.a (byte_at s.memory (location_at activation distance location)) is.0
    by_test false true here a_is high_is here_is =
        let is =
        byte_in_h_is activation distance facts.word_in_hl location s.registers.h s.registers.l s.memory
        small high_is hold.word_holds in
        put_in_l s s.registers.h (byte_at s.memory (location_at activation distance location)) is.0
    by_test false false true a_is high_is here_is =
        put_in_l s (byte_at s.memory (word s.registers.h s.registers.l))
        (byte_at s.memory (location_at activation distance location))
        (ap (byte_at s.memory)
        (address_in_hl_is activation distance facts.address_in_hl location s.registers.h s.registers.l here_is
        hold.address_holds))
    by_test false false false a_is high_is here_is = tt

-- a byte that A, L or H is known to hold
pub held_byte_is :
    (activation : Activation) (distance : Distances) (facts : Facts) (location : Location)
    (a h l : ℕ) (zero_flag : Bool) (memory : List ℕ)
    → location_at activation distance location < MEMORY_SIZE
    → holds_byte facts location ≡ true
    → Rattle.code_meaning.specs.internal.Holding.AllHold activation distance facts a h l zero_flag memory
    → IsByteAt activation memory (location_at activation distance location) a
    ⊎ (IsByteAt activation memory (location_at activation distance location) l
    ⊎ IsByteAt activation memory (location_at activation distance location) h)
held_byte_is activation distance facts location a h l zero_flag memory small told hold =
    by_test (is_at facts.byte_in_a location) (is_at facts.word_in_hl location)
    (is_at facts.word_in_hl (before location)) refl refl refl told
  where
    by_test : (in_a low high : Bool)
        → is_at facts.byte_in_a location ≡ in_a
        → is_at facts.word_in_hl location ≡ low
        → is_at facts.word_in_hl (before location) ≡ high
        → (in_a || low || high) ≡ true
        → IsByteAt activation memory (location_at activation distance location) a
        ⊎ (IsByteAt activation memory (location_at activation distance location) l
        ⊎ IsByteAt activation memory (location_at activation distance location) h)
    by_test true low high a_is low_is high_is any =
        inl (byte_in_a_is activation distance facts.byte_in_a location a memory a_is hold.byte_holds)
    by_test false true high a_is low_is high_is any =
        let is =
        word_in_hl_is activation distance facts.word_in_hl location h l memory low_is hold.word_holds in
        inr (inl is.low_is)
    by_test false false true a_is low_is high_is any =
        inr (inr (byte_in_h_is activation distance facts.word_in_hl location h l memory small
        high_is hold.word_holds))
    by_test false false false a_is low_is high_is any = absurd (false≢true any)
