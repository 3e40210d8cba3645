-- Facts about the registers that hold for the registers and the memory of the machine.
use Rattle.std.specs.Prelude.{◌≡◌, ℕ, ◌+◌, ◌<◌, ◌≤◌, ◌==◌, Bool, true, false, List, Option, Some, None}
use Rattle.mem80.specs.Memory.{byte_at}
use Rattle.isa8080.specs.State.{Registers, word, wrap}
use Rattle.asm8080.specs.Items.{Layout, word_of}
use Rattle.treecode.specs.declared.place.Place.{Place}
use Rattle.treecode.specs.declared.place.Location.{Location}
use Rattle.treecode.specs.declared.place.Location.TheVariants.{Static, Frame}
use Rattle.steps8080.specs.declared.facts.Facts.{Facts}
use Rattle.steps8080.specs.internal.Writer.{reference_at}
use Rattle.code_meaning.specs.internal.Activations.{Activation}

-- the word of a place, from the addresses of labels and targets
abbrev pub place_at : Layout → Place → ℕ
place_at layout place = word_of layout (reference_at place)

-- the distance from the level of an activation up to each variable of its frame
abbrev pub Distances : Type 0
Distances = (variable : ℕ) → ℕ

-- the address of a location
abbrev pub location_at : Activation → Distances → Location → ℕ
location_at activation distance (Static place) = place_at activation.layout place
location_at activation distance (Frame variable offset) = wrap (activation.level + distance variable + offset)

-- a byte that does not change when others are pushed: it is outside the part of the stack below the level
pub record IsSteady (activation : Activation) (address : ℕ) : Type 0 where
  pub apart : activation.floor ≤ address → address < activation.level → ⊥

-- A byte is the one at an address; a word is the one at an address; all bytes there are steady.
abbrev pub IsByteAt : Activation → (memory : List ℕ) → (address byte : ℕ) → Type 0
IsByteAt activation memory address byte = (byte ≡ byte_at memory address) × IsSteady activation address

pub record IsWordAt (activation : Activation) (memory : List ℕ) (address high low : ℕ) : Type 0 where
  pub low_is : IsByteAt activation memory address low
  pub high_is : IsByteAt activation memory (wrap (address + 1)) high

-- Facts hold for A, H and L, the zero flag and a memory.
abbrev pub ByteHolds :
    Activation → Distances → Option Location → (a : ℕ) → (memory : List ℕ) → Type 0
ByteHolds activation distance None a memory = Unit {0}
ByteHolds activation distance (Some location) a memory =
    IsByteAt activation memory (location_at activation distance location) a

abbrev pub WordHolds :
    Activation → Distances → Option Location → (h l : ℕ) → (memory : List ℕ) → Type 0
WordHolds activation distance None h l memory = Unit {0}
WordHolds activation distance (Some location) h l memory =
    IsWordAt activation memory (location_at activation distance location) h l

abbrev pub AddressHolds : Activation → Distances → Option Location → (h l : ℕ) → Type 0
AddressHolds activation distance None h l = Unit {0}
AddressHolds activation distance (Some location) h l = word h l ≡ location_at activation distance location

abbrev pub ZeroHolds : (shows : Bool) → (zero_flag : Bool) → (a : ℕ) → Type 0
ZeroHolds true zero_flag a = zero_flag ≡ (a == 0)
ZeroHolds false zero_flag a = Unit {0}

pub record AllHold
    (activation : Activation) (distance : Distances) (facts : Facts)
    (a h l : ℕ) (zero_flag : Bool) (memory : List ℕ) : Type 0 where
  pub byte_holds : ByteHolds activation distance facts.byte_in_a a memory
  pub word_holds : WordHolds activation distance facts.word_in_hl h l memory
  pub address_holds : AddressHolds activation distance facts.address_in_hl h l
  pub zero_holds : ZeroHolds facts.zero_shows_a zero_flag a

abbrev pub FactsHold :
    Activation → Distances → Facts → Registers → (memory : List ℕ) → Type 0
FactsHold activation distance facts r memory =
    AllHold activation distance facts r.a r.h r.l r.flags.z memory
