-- Calls from the entry of their procedure on, on the machine.
use Rattle.std.specs.Prelude.{◌≡◌, ◌≢◌, ℕ, ◌+◌, ◌-◌, ◌/◌, ◌%◌, ◌<◌, ◌≤◌, ◌⊎◌, List, Option, Some}
use Rattle.mem80.specs.Memory.{byte_at}
use Rattle.trees.specs.declared.declaration.ScalarType.{ScalarType}
use Rattle.typed_trees.specs.declared.parts.Visibility.TheVariants as visibilities
use Rattle.typed_trees.specs.Charge.{charge_of}
use Rattle.typed_trees.specs.TypedTrees.{TypedModule, TypedProcedure}
use Rattle.layout.specs.Joined.{InProgram}
use Rattle.meaning.specs.Meaning.{Later, entered, procedure_at}
use Rattle.meaning.specs.Outcomes.{Program, State as SourceState}
use Rattle.isa8080.specs.State.{HoldBytes, Registers, State, wrap}
use Rattle.asm8080.specs.Standing.{Keeps}
use Rattle.code_meaning.specs.Sharing.{IsVariable, Shares}
use Rattle.code_meaning.specs.Landing.{Does, at_place}
use Rattle.statement_laws.specs.CallingConvention.{ArgumentsLie, ResultLies, bytes_pushed}

-- a return address lies at an address
pub record ReturnLies (address back : ℕ) (memory : List ℕ) : Type 0 where
  pub low : byte_at memory address ≡ wrap back % 256
  pub high : byte_at memory (address + 1) ≡ wrap back / 256

-- The machine stands at the entry of a procedure, just after a CALL: the return address is next to the stack pointer, and
-- the arguments lie above it and in a register as calls have them. The caller had so much room before the CALL.
pub record IsEntered
    (program : Program) (image : List ℕ) (room : ℕ) (types : List ScalarType) (values : List ℕ) (top back : ℕ)
    (s : SourceState) (r : Registers) (memory : List ℕ) : Type 0 where
  pub shares : Shares program image s.memory memory
  pub registers : HoldBytes r
  pub pointer : r.sp ≡ wrap top
  pub return_lies : ReturnLies top back memory
  pub arguments : ArgumentsLie types values (top + 2) r memory
  pub low : program.placement.stack.start + room ≤ top + 2
  pub high : top + 2 + bytes_pushed values ≤ program.placement.stack.start + program.placement.stack.len

-- a byte that a call may change: a variable, or a byte of the stack from a floor up to the caller's
abbrev pub IsOfCall : Program → (floor above address : ℕ) → Type 0
IsOfCall program floor above address = IsVariable program address ⊎ ((floor ≤ address) × (address < above))

-- The machine came back after a call: at the return address, with the arguments taken from the stack and the result in
-- its register. Of memory no bytes changed but those of calls.
pub record ComesBack
    (program : Program) (image : List ℕ) (result : Option ScalarType) (floor above back : ℕ) (s : SourceState)
    (before : List ℕ) (value : ℕ) (t : SourceState) (end : State) : Type 0 where
  pub r : Registers
  pub memory : List ℕ
  pub is_at : end ≡ at_place back r memory t.events
  pub shares : Shares program image t.memory memory
  pub frame : t.frame ≡ s.frame
  pub registers : HoldBytes r
  pub pointer : r.sp ≡ wrap above
  pub kept : Keeps (IsOfCall program floor above) before memory
  pub lies : ResultLies result value r memory

-- From the entry of a procedure on the machine does what the call means, after it took one of the budget and its charge
-- from the room, in runs of less than a budget. It changes no byte of the stack below the room.
abbrev pub EntryDoes :
    Program → (image : List ℕ) → Later → (number : ℕ) → InProgram → TypedModule → TypedProcedure → (entry : ℕ) → Type 0
EntryDoes program image later number at typed found entry =
    (room top back : ℕ) (values : List ℕ) (s : SourceState) (r : Registers) (memory : List ℕ)
    → s.budget < number
    → charge_of found ≤ room
    → IsEntered program image room found.parameter_types values top back s r memory
    → Does (record { program = program; image = image }) s.budget 0 (at_place entry r memory s.events)
    (entered later typed at.number found values
    (record { program = program; number_of_module = at.number_of_module; room = room - charge_of found }) s)
    (ComesBack program image found.result (top + 2 - room) (top + 2 + bytes_pushed values) back s memory)

-- where the code of each procedure of a program begins
abbrev pub Entries : Type 0
Entries = (at : InProgram) → ℕ

-- calls of all procedures of a program are known in runs of less than a budget
abbrev pub CallsAreKnown : Program → (image : List ℕ) → Later → (number : ℕ) → Entries → Type 0
CallsAreKnown program image later number entries =
    (at : InProgram) (typed : TypedModule) (found : TypedProcedure)
    → procedure_at program.modules at ≡ Some (typed, found)
    → found.visibility ≢ visibilities.External
    → EntryDoes program image later number at typed found (entries at)
