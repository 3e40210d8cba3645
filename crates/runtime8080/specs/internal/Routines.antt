-- What each routine promises to who calls it.
use Rattle.std.specs.Prelude.{◌≡◌, ℕ, zero, suc, ◌+◌, ◌-◌, ◌*◌, ◌<◌, ◌≤◌, min, List, ◌++◌, All, Some, slice_set, not, IsTrue}
use Rattle.trees.specs.declared.declaration.ScalarType.TheVariants.{Byte, Address}
use Rattle.trees.specs.declared.expression.BinaryOperator.TheVariants.{Multiply, Divide, Modulo}
use Rattle.typed_trees.specs.declared.parts.ShiftFunction.TheVariants.{ShiftLeft, ShiftRight, RotateLeft, RotateRight}
use Rattle.meaning.specs.Values.{result_of, shifted}
use Rattle.mem80.specs.declared.memory.TheConstants.{MEMORY_SIZE}
use Rattle.mem80.specs.declared.range.Range.{Range}
use Rattle.mem80.specs.Memory.{IsMemory, byte_at}
use Rattle.mem80.specs.Range.{IsIn, Meets}
use Rattle.isa8080.specs.declared.instr.Pair.TheVariants.{Bc, De, Hl}
use Rattle.isa8080.specs.declared.instr.Instr.TheVariants.{Call}
use Rattle.isa8080.specs.declared.registers.Status.TheVariants.{Running}
use Rattle.isa8080.specs.State.{HoldBytes, State, Registers, pair_of, wrap}
use Rattle.asm8080.specs.declared.item.Reference.{Reference}
use Rattle.asm8080.specs.declared.item.Reference.TheVariants.{AtLabel, AtTarget, AtNumber}
use Rattle.asm8080.specs.declared.item.Item.{Item}
use Rattle.asm8080.specs.declared.item.Item.TheVariants as item_variants
use Rattle.asm8080.specs.Items.{Assembly, Layout, Stands, is_bound, size_of_items}
use Rattle.asm8080.specs.Runs.{Comes}
use Rattle.asm8080.specs.Standing.{InstructionStands, Keeps, StackIsAt, below}
use Rattle.runtime8080.specs.declared.routine.Routine.{Routine}
use Rattle.runtime8080.specs.declared.routine.Routine.TheVariants as routines

-- how many bytes below the end of the stack a CALL of a routine writes: its return address
abbrev pub CALL_BYTES : ℕ
CALL_BYTES = 2

-- the bytes of a block copied one after another from the first on, at addresses that go on from 65535 to 0
abbrev pub copied : (count source destination : ℕ) → (memory : List ℕ) → List ℕ
copied zero source destination memory = memory
copied (suc count) source destination memory =
    copied count (source + 1) (destination + 1)
    (slice_set memory (wrap destination) (byte_at memory (wrap source)))

-- an address that a block has a byte at
abbrev pub IsInBlock : (count start address : ℕ) → Type 0
IsInBlock count start address = (k : ℕ) × (k < count) × (address ≡ wrap (start + k))

-- a block has no byte in a range
abbrev pub BlockMisses : (count start : ℕ) → Range → Type 0
BlockMisses count start range = (address : ℕ) → IsInBlock count start address → IsIn address range → ⊥

-- What a routine leaves in the registers, by what they were when it was called. Multiply and divide take HL and
-- DE, and leave their value in HL, and divide its remainder in DE; the shifts of an ADDRESS take HL, and the
-- count in A, and leave their value in HL; the shifts of a BYTE and the rotations take A, and the count in E,
-- and leave their value in A. Of MOVE nothing is said here.
abbrev pub Computes : Routine → (before after : Registers) → Type 0
Computes routines.Multiply before after =
    result_of Address Multiply (pair_of Hl before) (pair_of De before) ≡ Some (pair_of Hl after)
Computes routines.Divide before after =
    (
    (quotient : ℕ) → result_of Address Divide (pair_of Hl before) (pair_of De before) ≡ Some quotient
    → pair_of Hl after ≡ quotient
    )
    × (
    (remainder : ℕ) → result_of Address Modulo (pair_of Hl before) (pair_of De before) ≡ Some remainder
    → pair_of De after ≡ remainder
    )
Computes routines.ShiftLeftByte before after = after.a ≡ shifted Byte ShiftLeft before.a before.e
Computes routines.ShiftRightByte before after = after.a ≡ shifted Byte ShiftRight before.a before.e
Computes routines.ShiftLeftAddress before after =
    pair_of Hl after ≡ shifted Address ShiftLeft (pair_of Hl before) before.a
Computes routines.ShiftRightAddress before after =
    pair_of Hl after ≡ shifted Address ShiftRight (pair_of Hl before) before.a
Computes routines.RotateLeft before after = after.a ≡ shifted Byte RotateLeft before.a before.e
Computes routines.RotateRight before after = after.a ≡ shifted Byte RotateRight before.a before.e
Computes routines.Move before after = Unit {0}

pub record LeavesBcAndHl (before after : Registers) : Type 0 where
  pub b : after.b ≡ before.b
  pub c : after.c ≡ before.c
  pub h : after.h ≡ before.h
  pub l : after.l ≡ before.l

pub record LeavesBcAndD (before after : Registers) : Type 0 where
  pub b : after.b ≡ before.b
  pub c : after.c ≡ before.c
  pub d : after.d ≡ before.d

pub record LeavesBcAndDe (before after : Registers) : Type 0 where
  pub b : after.b ≡ before.b
  pub c : after.c ≡ before.c
  pub d : after.d ≡ before.d
  pub e : after.e ≡ before.e

-- what memory is to be after a routine, but for the bytes below the stack: MOVE copies BC bytes from DE on to
-- HL on
abbrev pub memory_after : Routine → State → List ℕ
memory_after routines.Move s =
    copied (pair_of Bc s.registers) (pair_of De s.registers) (pair_of Hl s.registers) s.memory
memory_after routine s = s.memory

-- of a block and its copy, both have no byte in a range
abbrev pub BlocksMiss : Routine → State → Range → Type 0
BlocksMiss routines.Move s range =
    BlockMisses (pair_of Bc s.registers) (pair_of De s.registers) range
    × BlockMisses (pair_of Bc s.registers) (pair_of Hl s.registers) range
BlocksMiss routine s range = Unit {0}

-- and here the copy alone
abbrev pub CopyMisses : Routine → State → Range → Type 0
CopyMisses routines.Move s range =
    BlockMisses (pair_of Bc s.registers) (pair_of Hl s.registers) range
CopyMisses routine s range = Unit {0}

-- what a routine leaves as it was, of the registers that don't hold its value
abbrev pub Leaves : Routine → (before after : Registers) → Type 0
Leaves routines.Multiply before after = Unit {0}
Leaves routines.Divide before after = Unit {0}
Leaves routines.Move before after = Unit {0}
Leaves routines.ShiftLeftAddress before after = LeavesBcAndD before after
Leaves routines.ShiftRightAddress before after = LeavesBcAndDe before after
Leaves routine before after = LeavesBcAndHl before after

-- the greatest number of steps of a call, with its CALL and its return
abbrev pub most_steps : Routine → Registers → ℕ
most_steps routines.Multiply registers = 107
most_steps routines.Divide registers = 156
most_steps routines.ShiftLeftByte registers = 36
most_steps routines.ShiftRightByte registers = 43
most_steps routines.ShiftLeftAddress registers = min 66 (6 + 4 * registers.a)
most_steps routines.ShiftRightAddress registers = min 38 (8 + 4 * registers.a)
most_steps routines.RotateLeft registers = 29
most_steps routines.RotateRight registers = 29
most_steps routines.Move registers = 8 + 7 * pair_of Bc registers

-- how many bytes a routine has
abbrev pub size_of_routine : Routine → ℕ
size_of_routine routines.Multiply = 36
size_of_routine routines.Divide = 59
size_of_routine routines.ShiftLeftByte = 17
size_of_routine routines.ShiftRightByte = 18
size_of_routine routines.ShiftLeftAddress = 16
size_of_routine routines.ShiftRightAddress = 77
size_of_routine routines.RotateLeft = 13
size_of_routine routines.RotateRight = 13
size_of_routine routines.Move = 25

-- The machine is about to carry out a CALL of a routine that stands in memory, with room below the stack.
pub record MayCall
    (routine : Routine) (entry : ℕ) (code : Range) (level : ℕ) (s : State) : Type 0 where
  pub running : s.status ≡ Running
  pub place : s.registers.pc < MEMORY_SIZE
  pub registers : HoldBytes s.registers
  pub memory : IsMemory s.memory
  pub call : InstructionStands s.memory s.registers.pc (Call entry)
  pub stack : StackIsAt level s
  pub room : CALL_BYTES ≤ level
  pub apart : Meets code (below level CALL_BYTES) → ⊥
  pub blocks_miss_stack : BlocksMiss routine s (below level CALL_BYTES)
  pub copy_misses_code : CopyMisses routine s code

-- The machine is after that CALL again.
pub record HasReturned (routine : Routine) (level : ℕ) (before after : State) : Type 0 where
  pub running : after.status ≡ Running
  pub place : after.registers.pc ≡ wrap (before.registers.pc + 3)
  pub stack : after.registers.sp ≡ before.registers.sp
  pub events : after.events ≡ before.events
  pub registers : HoldBytes after.registers
  pub computes : Computes routine before.registers after.registers
  pub leaves : Leaves routine before.registers after.registers
  pub memory_is : IsMemory after.memory
  pub memory :
      Keeps (λ address. IsIn address (below level CALL_BYTES)) (memory_after routine before) after.memory

-- A run from the CALL to where the machine is after it.
pub record Returns
    (script : List (List ℕ)) (routine : Routine) (level : ℕ) (before : State) : Type 0 where
  pub count : ℕ
  pub after : State
  pub run : Comes script count before after
  pub some_steps : 1 ≤ count
  pub few_steps : count ≤ most_steps routine before.registers
  pub returned : HasReturned routine level before after

-- items whose first byte is the entry of a routine: wherever they stand, calls of it return
abbrev pub IsRoutine : Routine → List Item → Type 0
IsRoutine routine items =
    (layout : Layout) (from to : ℕ) (script : List (List ℕ)) (level : ℕ) (s : State)
    → to ≤ MEMORY_SIZE
    → Stands layout s.memory items from to
    → MayCall routine from (record { start = from; len = to - from }) level s
    → Returns script routine level s

-- labels from a number on, and before another
abbrev pub IsOwnLabel : (first past label : ℕ) → Type 0
IsOwnLabel first past label = (first ≤ label) × (label < past)

abbrev pub IsOwnReference : (first past : ℕ) → Reference → Type 0
IsOwnReference first past (AtLabel label) = IsOwnLabel first past label
IsOwnReference first past (AtTarget target offset) = ⊥
IsOwnReference first past (AtNumber number) = Unit {0}

-- what an item binds or refers to is one of these labels
abbrev pub HasOwnLabels : (first past : ℕ) → Item → Type 0
HasOwnLabels first past (item_variants.Plain instruction) = Unit {0}
HasOwnLabels first past (item_variants.WithWord form reference) = IsOwnReference first past reference
HasOwnLabels first past (item_variants.Byte value) = Unit {0}
HasOwnLabels first past (item_variants.Address reference) = IsOwnReference first past reference
HasOwnLabels first past (item_variants.Gap count) = Unit {0}
HasOwnLabels first past (item_variants.Mark label) = IsOwnLabel first past label

-- An assembly with a routine added.
pub record AddsRoutine (routine : Routine) (before after : Assembly) : Type 0 where
  pub items : List Item
  pub added : after.items ≡ before.items ++ items
  pub more : before.labels ≤ after.labels
  -- all labels that are new are bound by it, and no other is bound or referred to
  pub bound :
      (label : ℕ) → before.labels ≤ label → label < after.labels → IsTrue (is_bound label items)
  pub new : (label : ℕ) → label < before.labels → IsTrue (not (is_bound label items))
  pub own : All (HasOwnLabels before.labels after.labels) items
  pub size : size_of_items items ≡ size_of_routine routine
  pub is_routine : IsRoutine routine items
