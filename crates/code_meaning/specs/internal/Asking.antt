-- Requirements of instructions under which the facts after them are true: bytes that such a fact refers to
-- are steady, and bytes that are pushed are not.
use Rattle.std.specs.Prelude.{◌≢◌, ℕ, ◌+◌, ◌<◌, Option, Some, None}
use Rattle.mem80.specs.declared.memory.TheConstants.{MEMORY_SIZE}
use Rattle.isa8080.specs.declared.instr.Instr.{Instr}
use Rattle.isa8080.specs.declared.instr.Instr.TheVariants as instructions
use Rattle.isa8080.specs.declared.instr.Operand.TheVariants.{M}
use Rattle.isa8080.specs.declared.instr.Register.TheVariants.{A}
use Rattle.isa8080.specs.State.{Registers, one_less, two_less, wrap}
use Rattle.asm8080.specs.declared.item.WordForm.{WordForm}
use Rattle.asm8080.specs.declared.item.WordForm.TheVariants.{StoreHl, LoadHl, StoreA, LoadA}
use Rattle.treecode.specs.declared.place.Location.{Location}
use Rattle.steps8080.specs.declared.facts.Facts.{Facts}
use Rattle.code_meaning.specs.internal.Activations.{Activation}
use Rattle.code_meaning.specs.internal.Holding.{Distances, IsSteady, location_at}

-- a steady byte in memory, which may be stored to
abbrev pub IsSteadyByte : Activation → (address : ℕ) → Type 0
IsSteadyByte activation address = IsSteady activation address × (address < MEMORY_SIZE)

-- an instruction with a word requires that the bytes there are steady
abbrev pub WordAsks : Activation → WordForm → (address : ℕ) → Type 0
WordAsks activation StoreHl address =
    IsSteadyByte activation address × IsSteadyByte activation (wrap (address + 1))
WordAsks activation LoadHl address = IsSteady activation address × IsSteady activation (wrap (address + 1))
WordAsks activation StoreA address = IsSteadyByte activation address
WordAsks activation LoadA address = IsSteady activation address
WordAsks activation form address = Unit {0}

-- the byte at the address that HL is known to hold is steady
abbrev pub AddressAsks : Activation → Distances → Option Location → Type 0
AddressAsks activation distance None = Unit {0}
AddressAsks activation distance (Some location) =
    IsSteady activation (location_at activation distance location)

-- the two bytes below the stack pointer are not steady
abbrev pub PushAsks : Activation → (sp : ℕ) → Type 0
PushAsks activation sp =
    (address : ℕ) → IsSteady activation address → (address ≢ one_less sp) × (address ≢ two_less sp)

-- the requirement of an instruction, from the facts before it
abbrev pub Asks : Activation → Distances → Facts → Instr → Registers → Type 0
Asks activation distance facts (instructions.Shld number) r = WordAsks activation StoreHl number
Asks activation distance facts (instructions.Lhld number) r = WordAsks activation LoadHl number
Asks activation distance facts (instructions.Sta number) r = WordAsks activation StoreA number
Asks activation distance facts (instructions.Lda number) r = WordAsks activation LoadA number
Asks activation distance facts (instructions.Mov A M) r = AddressAsks activation distance facts.address_in_hl
Asks activation distance facts (instructions.MovToMemory A) r =
    AddressAsks activation distance facts.address_in_hl
Asks activation distance facts (instructions.Push pair) r = PushAsks activation r.sp
Asks activation distance facts instruction r = Unit {0}
