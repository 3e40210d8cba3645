-- The contents of registers after bytes and words were loaded and stored.
use Rattle.code_meaning.proofs.Prelude.{◌≡◌, ℕ, ◌+◌, ◌<◌, List, length, slice_set, Option, Some, None, option_map, sym, ap, ◌∙◌, arith, length-set, MEMORY_SIZE, IsMemory, byte_at, word_at, high_byte, low_byte, one_less, two_less, word, wrap, byte_kept, byte_put, Location, location_after, Activation, AddressAsks, IsSteadyByte, PushAsks, AddressHolds, ByteHolds, Distances, IsByteAt, IsSteady, IsWordAt, WordHolds, location_at, word_in_memory}
use Rattle.mem80.proofs.MemoryLemmas.{byte_small}
use Rattle.code_meaning.proofs.Facts.Places.{location_after_is}
use Rattle.code_meaning.proofs.Numbers.{differs_from_next, high_of_sum, low_of_sum, word_high_byte, word_low_byte}

-- a word that was loaded
pub loaded_word :
    (activation : Activation) (memory : List ℕ) (address : ℕ)
    → IsMemory memory
    → IsSteady activation address × IsSteady activation (wrap (address + 1))
    → IsWordAt activation memory address (high_byte (word_at memory address))
    (low_byte (word_at memory address))
loaded_word activation memory address is steady =
    let low = byte_at memory address in
    let high = byte_at memory (wrap (address + 1)) in
    record {
      low_is = (low_of_sum low high (byte_small memory address is), steady.0);
      high_is = (high_of_sum low high (byte_small memory address is), steady.1);
    }

-- a byte that was stored
pub stored_byte :
    (activation : Activation) (memory : List ℕ) (address byte : ℕ)
    → IsMemory memory
    → IsSteadyByte activation address
    → IsByteAt activation (slice_set memory address byte) address byte
stored_byte activation memory address byte is steady =
    let size = is.size in
    let inside : address < MEMORY_SIZE = steady.1 in
    (sym (byte_put memory address byte (omega (arith, size, inside))), steady.0)

-- a word that was stored
pub stored_word :
    (activation : Activation) (memory : List ℕ) (address high low : ℕ)
    → IsMemory memory
    → low < 256
    → IsSteadyByte activation address × IsSteadyByte activation (wrap (address + 1))
    → IsWordAt activation
    (slice_set (slice_set memory address (low_byte (word high low))) (wrap (address + 1))
    (high_byte (word high low)))
    address high low
stored_word activation memory address high low is small steady =
    let size = is.size in
    let inside : address < MEMORY_SIZE = steady.0.1 in
    let first = low_byte (word high low) in
    let last = high_byte (word high low) in
    let middle = slice_set memory address first in
    let long : length middle ≡ length memory = length-set memory address first in
    let next : wrap (address + 1) < MEMORY_SIZE = steady.1.1 in
    let next_is : byte_at (slice_set middle (wrap (address + 1)) last) (wrap (address + 1)) ≡ high
    = byte_put middle (wrap (address + 1)) last (omega (arith, size, long, next))
    ∙ word_high_byte high low small in
    let here_is : byte_at (slice_set middle (wrap (address + 1)) last) address ≡ low
    = byte_kept middle (wrap (address + 1)) address last (differs_from_next address inside)
    ∙ byte_put memory address first (omega (arith, size, inside)) ∙ word_low_byte high low small in
    record {
      low_is = (sym here_is, steady.0.0);
      high_is = (sym next_is, steady.1.0);
    }

-- a byte that was loaded from the address that HL is known to hold
pub loaded_byte :
    (activation : Activation) (distance : Distances) (held : Option Location) (h l : ℕ) (memory : List ℕ)
    → AddressAsks activation distance held
    → AddressHolds activation distance held h l
    → ByteHolds activation distance held (byte_at memory (word h l)) memory
loaded_byte activation distance None h l memory asks holds = tt
loaded_byte activation distance (Some location) h l memory asks holds = (ap (byte_at memory) holds, asks)

-- a byte that was stored there
pub put_byte :
    (activation : Activation) (distance : Distances) (held : Option Location) (a h l : ℕ) (memory : List ℕ)
    → IsMemory memory
    → h < 256
    → l < 256
    → AddressAsks activation distance held
    → AddressHolds activation distance held h l
    → ByteHolds activation distance held a (slice_set memory (word h l) a)
put_byte activation distance None a h l memory is one two asks holds = tt
put_byte activation distance (Some location) a h l memory is one two asks holds =
    let size = is.size in
    let inside : word h l < MEMORY_SIZE = word_in_memory h l one two in (
      sym (byte_put memory (word h l) a (omega (arith, size, inside)))
          ∙ ap (byte_at (slice_set memory (word h l) a)) holds,
      asks,
    )

-- the low and the high byte of a word that HL holds
pub low_holds :
    (activation : Activation) (distance : Distances) (held : Option Location) (h l : ℕ) (memory : List ℕ)
    → WordHolds activation distance held h l memory
    → ByteHolds activation distance held l memory
low_holds activation distance None h l memory holds = tt
low_holds activation distance (Some location) h l memory holds = holds.low_is

byte_elsewhere :
    (activation : Activation) (memory : List ℕ) (one other byte : ℕ)
    → one ≡ other
    → IsByteAt activation memory other byte
    → IsByteAt activation memory one byte
byte_elsewhere activation memory one other byte same given = rw same given

pub high_holds :
    (activation : Activation) (distance : Distances) (held : Option Location) (h l : ℕ) (memory : List ℕ)
    → WordHolds activation distance held h l memory
    → ByteHolds activation distance (option_map (λ location. location_after location 1) held) h memory
high_holds activation distance None h l memory holds = tt
high_holds activation distance (Some location) h l memory holds =
    byte_elsewhere activation memory (location_at activation distance (location_after location 1))
    (wrap (location_at activation distance location + 1)) h (location_after_is activation distance location 1)
    holds.high_is

-- steady bytes do not change when others are pushed
pub pushed_stays :
    (activation : Activation) (sp one other : ℕ) (memory : List ℕ)
    → PushAsks activation sp
    → (address : ℕ)
    → IsSteady activation address
    → byte_at memory address
    ≡ byte_at (slice_set (slice_set memory (one_less sp) one) (two_less sp) other) address
pushed_stays activation sp one other memory asks address steady =
    let differ = asks address steady in
    sym (byte_kept (slice_set memory (one_less sp) one) (two_less sp) address other differ.1
    ∙ byte_kept memory (one_less sp) address one differ.0)
