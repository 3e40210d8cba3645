-- Reading and changing the bytes that a program declares (PL/M-80 Programming Manual, "Arrays and
-- structures" and "Based variables"). Which accesses go outside the language is this profile's own rule.
use Rattle.std.specs.Prelude.{ℕ, ◌+◌, ◌*◌, ◌/◌, ◌%◌, Bool, true, ◌&&◌, nat_le, nat_lt, List, [], slice_get, slice_index, slice_index_or, slice_set, if◌then◌else◌}
use Rattle.std.specs.Option.{option_map_or}
use Rattle.mem80.specs.declared.memory.TheConstants.{MEMORY_SIZE}
use Rattle.mem80.specs.Memory.{byte_at}
use Rattle.trees.specs.declared.declaration.ScalarType.{ScalarType}
use Rattle.trees.specs.declared.declaration.ScalarType.TheVariants.{Byte, Address}
use Rattle.typed_trees.specs.TypedTrees.{Home, InFrame, Nowhere, TypedObject, TypedModule}
use Rattle.layout.specs.Placement as placements
use Rattle.layout.specs.StartingMemory.{address_of_object}
use Rattle.meaning.specs.declared.reason.Reason.TheVariants.{Byte as UndeclaredByte, Constant}
use Rattle.meaning.specs.Outcomes.{Program, State, Outside, Outcome, Gave, Stopped, then_do}

abbrev pub is_declared : Program → (address : ℕ) → Bool
is_declared program address = placements.is_declared program.modules program.placement address

abbrev pub is_constant : Program → (address : ℕ) → Bool
is_constant program address = placements.is_constant program.modules program.placement address

-- Where something lies: in memory at an address; or in the frame, at an offset from the start of an object,
-- with whether each of its subscripts is below its dimension.
pub data Place : Type 0 where
  InMemory : (address : ℕ) → Place
  InTheFrame : (object offset : ℕ) → (is_inside : Bool) → Place

-- the place of the byte after
abbrev pub next_place : Place → Place
next_place (InMemory address) = InMemory ((address + 1) % MEMORY_SIZE)
next_place (InTheFrame object offset is_inside) = InTheFrame object (offset + 1) is_inside

-- the bytes of an object in a frame
abbrev pub frame_bytes : List (List ℕ) → (object : ℕ) → List ℕ
frame_bytes frame object = slice_index_or frame object []

-- a byte that is read is declared, and in a frame it is one of an existing element
abbrev pub read_byte : Program → Place → State → Outcome ℕ
read_byte program (InMemory address) s =
    if is_declared program address then Gave (byte_at s.memory address) s
    else Stopped (Outside UndeclaredByte) s
read_byte program (InTheFrame object offset is_inside) s =
    if is_inside then Gave (slice_index (frame_bytes s.frame object) offset) s
    else Stopped (Outside UndeclaredByte) s

-- a byte that is changed is also not a constant
abbrev pub write_byte : Program → Place → (byte : ℕ) → State → Outcome (Unit {0})
write_byte program (InMemory address) byte s =
    if is_declared program address
    then (if is_constant program address then Stopped (Outside Constant) s
    else Gave tt (record s { memory = slice_set s.memory address byte }))
    else Stopped (Outside UndeclaredByte) s
write_byte program (InTheFrame object offset is_inside) byte s =
    if is_inside
    then Gave tt (record s { frame = slice_set s.frame object (slice_set (frame_bytes s.frame object) offset byte) })
    else Stopped (Outside UndeclaredByte) s

-- a scalar; of an ADDRESS the low byte comes first
abbrev pub read_scalar : Program → ScalarType → Place → State → Outcome ℕ
read_scalar program Byte place s = read_byte program place s
read_scalar program Address place s =
    then_do (read_byte program place s)
    (λ low t. then_do (read_byte program (next_place place) t) (λ high u. Gave (low + 256 * high) u))

abbrev pub write_scalar : Program → ScalarType → Place → ℕ → State → Outcome (Unit {0})
write_scalar program Byte place number s = write_byte program place (number % 256) s
write_scalar program Address place number s =
    then_do (write_byte program place (number % 256) s)
    (λ _ t. write_byte program (next_place place) (number / 256) t)

-- What a part of a program is carried out in: its program, its module, and the room that is left on the
-- stack. In a body that is what is left after the charge of its own call.
pub record Surroundings : Type 0 where
  pub program : Program
  pub number_of_module : ℕ
  pub room : ℕ

-- where an object of a module lives
abbrev pub home_in : TypedModule → (object : ℕ) → Home
home_in typed object =
    option_map_or (λ (found : TypedObject). found.home) (slice_get typed.objects object) Nowhere

abbrev pub home_of : Surroundings → (object : ℕ) → Home
home_of around object =
    option_map_or (λ (typed : TypedModule). home_in typed object)
    (slice_get around.program.modules around.number_of_module) Nowhere

-- where an object begins that is not BASED, an EXTERNAL one where the PUBLIC of its name does
abbrev pub address_of : Surroundings → (object : ℕ) → ℕ
address_of around object =
    option_map_or
    (λ (typed : TypedModule).
    address_of_object around.program.modules around.program.placement around.number_of_module typed object)
    (slice_get around.program.modules around.number_of_module) 0

-- the place at an offset from the start of an object that is not BASED
abbrev pub place_in : Home → Surroundings → (object offset : ℕ) → (is_inside : Bool) → Place
place_in (InFrame procedure) around object offset is_inside = InTheFrame object offset is_inside
place_in home around object offset is_inside = InMemory ((address_of around object + offset) % MEMORY_SIZE)

abbrev pub place_of : Surroundings → (object : ℕ) → Place
place_of around object = place_in (home_of around object) around object 0 true
