-- Facts that still hold after a change that they do not refer to, and with fewer facts.
use Rattle.code_meaning.proofs.Prelude.{◌≡◌, ℕ, ◌+◌, ◌==◌, Bool, true, false, ◌||◌, List, Option, Some, None, ◌∙◌, byte_at, Register, B, C, D, E, H, L, A, Registers, with_register, wrap, Location, Facts, no_facts, with_facts, without_memory, without_a, without_hl, without_register, without_zero, Activation, AddressHolds, AllHold, ByteHolds, Distances, FactsHold, IsSteady, WordHolds, ZeroHolds, location_at}
use Rattle.std.specs.Option.{option_or}

-- no facts
pub no_facts_hold :
    {activation : Activation} {distance : Distances} {a h l : ℕ} {zero_flag : Bool} {memory : List ℕ}
    → AllHold activation distance no_facts a h l zero_flag memory
no_facts_hold = record { byte_holds = tt; word_holds = tt; address_holds = tt; zero_holds = tt }

-- bytes in memory may have changed,
pub without_memory_holds :
    {activation : Activation} {distance : Distances} {a h l : ℕ} {zero_flag : Bool} {memory other : List ℕ}
    (facts : Facts)
    → AllHold activation distance facts a h l zero_flag memory
    → AllHold activation distance (without_memory facts) a h l zero_flag other
without_memory_holds facts hold = record {
  byte_holds = tt;
  word_holds = tt;
  address_holds = hold.address_holds;
  zero_holds = hold.zero_holds;
}

-- A and the flags,
pub without_a_holds :
    {activation : Activation} {distance : Distances} {a h l other : ℕ} {zero_flag flag : Bool}
    {memory : List ℕ} (facts : Facts)
    → AllHold activation distance facts a h l zero_flag memory
    → AllHold activation distance (without_a facts) other h l flag memory
without_a_holds facts hold = record {
  byte_holds = tt;
  word_holds = hold.word_holds;
  address_holds = hold.address_holds;
  zero_holds = tt;
}

-- HL,
pub without_hl_holds :
    {activation : Activation} {distance : Distances} {a h l high low : ℕ} {zero_flag : Bool}
    {memory : List ℕ} (facts : Facts)
    → AllHold activation distance facts a h l zero_flag memory
    → AllHold activation distance (without_hl facts) a high low zero_flag memory
without_hl_holds facts hold = record {
  byte_holds = hold.byte_holds;
  word_holds = tt;
  address_holds = tt;
  zero_holds = hold.zero_holds;
}

-- the zero flag,
pub without_zero_holds :
    {activation : Activation} {distance : Distances} {a h l : ℕ} {zero_flag flag : Bool}
    {memory : List ℕ} (facts : Facts)
    → AllHold activation distance facts a h l zero_flag memory
    → AllHold activation distance (without_zero facts) a h l flag memory
without_zero_holds facts hold = record {
  byte_holds = hold.byte_holds;
  word_holds = hold.word_holds;
  address_holds = hold.address_holds;
  zero_holds = tt;
}

-- A, with a zero flag that shows whether it is 0,
pub with_result_holds :
    {activation : Activation} {distance : Distances} {a h l other : ℕ} {zero_flag flag : Bool}
    {memory : List ℕ} (facts : Facts)
    → flag ≡ (other == 0)
    → AllHold activation distance facts a h l zero_flag memory
    → AllHold activation distance (record facts { byte_in_a = None; zero_shows_a = true })
    other h l flag memory
with_result_holds facts shows hold = record {
  byte_holds = tt;
  word_holds = hold.word_holds;
  address_holds = hold.address_holds;
  zero_holds = shows;
}

-- a register
pub without_register_holds :
    {activation : Activation} {distance : Distances} {memory : List ℕ}
    (facts : Facts) (register : Register) (value : ℕ) (r : Registers)
    → FactsHold activation distance facts r memory
    → FactsHold activation distance (without_register facts register) (with_register register value r) memory
without_register_holds facts A value r hold = without_a_holds facts hold
without_register_holds facts B value r hold = hold
without_register_holds facts C value r hold = hold
without_register_holds facts D value r hold = hold
without_register_holds facts E value r hold = hold
without_register_holds facts H value r hold = without_hl_holds facts hold
without_register_holds facts L value r hold = without_hl_holds facts hold

byte_stays :
    (activation : Activation) (distance : Distances) (held : Option Location) (a : ℕ)
    (memory other : List ℕ)
    → ((address : ℕ) → IsSteady activation address → byte_at memory address ≡ byte_at other address)
    → ByteHolds activation distance held a memory
    → ByteHolds activation distance held a other
byte_stays activation distance None a memory other same holds = tt
byte_stays activation distance (Some location) a memory other same holds =
    (holds.0 ∙ same (location_at activation distance location) holds.1, holds.1)

word_stays :
    (activation : Activation) (distance : Distances) (held : Option Location) (h l : ℕ)
    (memory other : List ℕ)
    → ((address : ℕ) → IsSteady activation address → byte_at memory address ≡ byte_at other address)
    → WordHolds activation distance held h l memory
    → WordHolds activation distance held h l other
word_stays activation distance None h l memory other same holds = tt
word_stays activation distance (Some location) h l memory other same holds =
    let address = location_at activation distance location in
    let low = holds.low_is in
    let high = holds.high_is in
    record {
      low_is = (low.0 ∙ same address low.1, low.1);
      high_is = (high.0 ∙ same (wrap (address + 1)) high.1, high.1);
    }

-- bytes that are not steady may change
pub facts_stay :
    {activation : Activation} {distance : Distances} {a h l : ℕ} {zero_flag : Bool}
    (facts : Facts) (memory other : List ℕ)
    → ((address : ℕ) → IsSteady activation address → byte_at memory address ≡ byte_at other address)
    → AllHold activation distance facts a h l zero_flag memory
    → AllHold activation distance facts a h l zero_flag other
facts_stay {activation = activation} {distance = distance} {a = a} {h = h} {l = l} {zero_flag = zero_flag}
    facts memory other same hold = record {
      byte_holds = byte_stays activation distance facts.byte_in_a a memory other same hold.byte_holds;
      word_holds = word_stays activation distance facts.word_in_hl h l memory other same hold.word_holds;
      address_holds = hold.address_holds;
      zero_holds = hold.zero_holds;
    }

either_byte :
    (activation : Activation) (distance : Distances) (first second : Option Location) (a : ℕ)
    (memory : List ℕ)
    → ByteHolds activation distance first a memory
    → ByteHolds activation distance second a memory
    → ByteHolds activation distance (option_or first second) a memory
either_byte activation distance None second a memory one two = two
either_byte activation distance (Some first) second a memory one two = one

either_word :
    (activation : Activation) (distance : Distances) (first second : Option Location) (h l : ℕ)
    (memory : List ℕ)
    → WordHolds activation distance first h l memory
    → WordHolds activation distance second h l memory
    → WordHolds activation distance (option_or first second) h l memory
either_word activation distance None second h l memory one two = two
either_word activation distance (Some first) second h l memory one two = one

either_address :
    (activation : Activation) (distance : Distances) (first second : Option Location) (h l : ℕ)
    → AddressHolds activation distance first h l
    → AddressHolds activation distance second h l
    → AddressHolds activation distance (option_or first second) h l
either_address activation distance None second h l one two = two
either_address activation distance (Some first) second h l one two = one

either_zero :
    (first second : Bool) (zero_flag : Bool) (a : ℕ)
    → ZeroHolds first zero_flag a
    → ZeroHolds second zero_flag a
    → ZeroHolds (first || second) zero_flag a
either_zero true second zero_flag a one two = one
either_zero false second zero_flag a one two = two

-- two lists of facts
pub with_facts_hold :
    {activation : Activation} {distance : Distances} {a h l : ℕ} {zero_flag : Bool} {memory : List ℕ}
    (facts others : Facts)
    → AllHold activation distance facts a h l zero_flag memory
    → AllHold activation distance others a h l zero_flag memory
    → AllHold activation distance (with_facts facts others) a h l zero_flag memory
with_facts_hold {activation = activation} {distance = distance} {a = a} {h = h} {l = l}
    {zero_flag = zero_flag} {memory = memory} facts others one two = record {
      byte_holds =
          either_byte activation distance others.byte_in_a facts.byte_in_a a memory two.byte_holds one.byte_holds;
      word_holds =
          either_word activation distance others.word_in_hl facts.word_in_hl h l memory
          two.word_holds one.word_holds;
      address_holds =
          either_address activation distance others.address_in_hl facts.address_in_hl h l
          two.address_holds one.address_holds;
      zero_holds = either_zero others.zero_shows_a facts.zero_shows_a zero_flag a two.zero_holds one.zero_holds;
    }
