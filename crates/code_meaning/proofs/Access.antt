-- Bytes and scalars that are read and written: the machine has to do the same only if the program may.
use Rattle.code_meaning.proofs.Prelude.{◌≡◌, ℕ, ◌+◌, ◌*◌, ◌/◌, ◌%◌, ◌<◌, ◌≤◌, Bool, true, false, if◌then◌else◌, slice_set, slice_index, refl, sym, ap, ◌∙◌, arith, MEMORY_SIZE, byte_at, UndeclaredByte, Constant, Program, SourceState, Outside, Outcome, Gave, Stopped, then_do, InMemory, InTheFrame, frame_bytes, is_declared, is_constant, next_place, read_byte, read_scalar, write_byte, write_scalar, State, Loaded, Does, IsVariable}
use Rattle.trees.specs.declared.declaration.ScalarType.TheVariants.{Byte, Address}
use Rattle.meaning.specs.Access.{Place}

-- if the source goes outside the language, any machine does it
pub outside_does :
    {A : Type 0} {loaded : Loaded} {budget more : ℕ} {from : State} {outcome : Outcome A}
    {Good : A → SourceState → State → Type 0}
    (reason : Rattle.meaning.specs.declared.reason.Reason.Reason) (s : SourceState)
    → outcome ≡ Stopped (Outside reason) s
    → Does loaded budget more from outcome Good
outside_does reason s same = rw same (record { told = tt })

-- the branch that a test chooses
picked_does :
    {A : Type 0} {loaded : Loaded} {budget more : ℕ} {from : State} {inside : Outcome A}
    {Good : A → SourceState → State → Type 0}
    (reason : Rattle.meaning.specs.declared.reason.Reason.Reason) (s : SourceState)
    (test : Bool)
    → (test ≡ true → Does loaded budget more from inside Good)
    → Does loaded budget more from (if test then inside else Stopped (Outside reason) s) Good
picked_does reason s true does = does refl
picked_does reason s false does = record { told = tt }

-- a byte in memory that is read
pub read_does :
    {loaded : Loaded} {budget more : ℕ} {from : State} {Good : ℕ → SourceState → State → Type 0}
    (program : Program) (address : ℕ) (s : SourceState)
    → (is_declared program address ≡ true
    → Does loaded budget more from (Gave (byte_at s.memory address) s) Good)
    → Does loaded budget more from (read_byte program (InMemory address) s) Good
read_does program address s does = picked_does UndeclaredByte s (is_declared program address) does

-- a byte in the frame
pub frame_read_does :
    {loaded : Loaded} {budget more : ℕ} {from : State} {Good : ℕ → SourceState → State → Type 0}
    (program : Program) (object offset : ℕ) (is_inside : Bool) (s : SourceState)
    → (is_inside ≡ true → Does loaded budget more from
    (Gave (slice_index (frame_bytes s.frame object) offset) s) Good)
    → Does loaded budget more from (read_byte program (InTheFrame object offset is_inside) s) Good
frame_read_does program object offset is_inside s does = picked_does UndeclaredByte s is_inside does

variable_picked :
    {loaded : Loaded} {budget more : ℕ} {from : State} {Good : Unit {0} → SourceState → State → Type 0}
    (address byte : ℕ) (s : SourceState) (declared constant : Bool)
    → (declared ≡ true → constant ≡ false
    → Does loaded budget more from (Gave tt (record s { memory = slice_set s.memory address byte })) Good)
    → Does loaded budget more from
    (if declared
    then (if constant then Stopped (Outside Constant) s
    else Gave tt (record s { memory = slice_set s.memory address byte }))
    else Stopped (Outside UndeclaredByte) s) Good
variable_picked address byte s true true does = record { told = tt }
variable_picked address byte s true false does = does refl refl
variable_picked address byte s false constant does = record { told = tt }

-- a byte in memory that is written
pub write_does :
    {loaded : Loaded} {budget more : ℕ} {from : State} {Good : Unit {0} → SourceState → State → Type 0}
    (program : Program) (address byte : ℕ) (s : SourceState)
    → (IsVariable program address
    → Does loaded budget more from (Gave tt (record s { memory = slice_set s.memory address byte })) Good)
    → Does loaded budget more from (write_byte program (InMemory address) byte s) Good
write_does program address byte s does =
    variable_picked address byte s (is_declared program address) (is_constant program address)
    (λ declared variable. does (declared, variable))

-- a byte in the frame
pub frame_write_does :
    {loaded : Loaded} {budget more : ℕ} {from : State} {Good : Unit {0} → SourceState → State → Type 0}
    (program : Program) (object offset : ℕ) (is_inside : Bool) (byte : ℕ) (s : SourceState)
    → (is_inside ≡ true
    → Does loaded budget more from
    (Gave tt
    (record s { frame = slice_set s.frame object (slice_set (frame_bytes s.frame object) offset byte) }))
    Good)
    → Does loaded budget more from (write_byte program (InTheFrame object offset is_inside) byte s) Good
frame_write_does program object offset is_inside byte s does = picked_does UndeclaredByte s is_inside does

-- an ADDRESS in memory that is read
pub read_word_does :
    {loaded : Loaded} {budget more : ℕ} {from : State} {Good : ℕ → SourceState → State → Type 0}
    (program : Program) (address : ℕ) (s : SourceState)
    → (is_declared program address ≡ true → is_declared program ((address + 1) % MEMORY_SIZE) ≡ true
    → Does loaded budget more from
    (Gave (byte_at s.memory address + 256 * byte_at s.memory ((address + 1) % MEMORY_SIZE)) s) Good)
    → Does loaded budget more from (read_scalar program Address (InMemory address) s) Good
read_word_does {loaded = loaded} {budget = budget} {more = more} {from = from} {Good = Good}
    program address s does =
    both (is_declared program address) (is_declared program ((address + 1) % MEMORY_SIZE)) does
  where
    both : (one two : Bool)
        → (one ≡ true → two ≡ true
        → Does loaded budget more from
        (Gave (byte_at s.memory address + 256 * byte_at s.memory ((address + 1) % MEMORY_SIZE)) s) Good)
        → Does loaded budget more from
        (then_do (if one then Gave (byte_at s.memory address) s else Stopped (Outside UndeclaredByte) s)
        (λ low t. then_do
        (if two then Gave (byte_at t.memory ((address + 1) % MEMORY_SIZE)) t else Stopped
        (Outside UndeclaredByte) t)
        (λ high u. Gave (low + 256 * high) u))) Good
    both true true given = given refl refl
    both true false given = record { told = tt }
    both false two given = record { told = tt }

-- an ADDRESS in memory that is written
pub write_word_does :
    {loaded : Loaded} {budget more : ℕ} {from : State} {Good : Unit {0} → SourceState → State → Type 0}
    (program : Program) (address number : ℕ) (s : SourceState)
    → (IsVariable program address → IsVariable program ((address + 1) % MEMORY_SIZE)
    → Does loaded budget more from
    (Gave tt (record s {
      memory =
          slice_set (slice_set s.memory address (number % 256)) ((address + 1) % MEMORY_SIZE) (number / 256);
    })) Good)
    → Does loaded budget more from (write_scalar program Address (InMemory address) number s) Good
write_word_does {loaded = loaded} {budget = budget} {more = more} {from = from} {Good = Good} program
    address number s does =
    both (is_declared program address) (is_constant program address)
    (is_declared program ((address + 1) % MEMORY_SIZE)) (is_constant program ((address + 1) % MEMORY_SIZE))
    (λ one const two none. does (one, const) (two, none))
  where
    both : (one const two none : Bool)
        → (one ≡ true → const ≡ false → two ≡ true → none ≡ false
        → Does loaded budget more from
        (Gave (tt {0}) (record s {
          memory =
              slice_set (slice_set s.memory address (number % 256))
              ((address + 1) % MEMORY_SIZE) (number / 256);
        })) Good)
        → Does loaded budget more from
        (then_do
        (if one
        then (if const then Stopped (Outside Constant) s
        else Gave (tt {0}) (record s { memory = slice_set s.memory address (number % 256) }))
        else Stopped (Outside UndeclaredByte) s)
        (λ _ t.
        if two
        then (if none then Stopped (Outside Constant) t
        else Gave (tt {0})
        (record t { memory = slice_set t.memory ((address + 1) % MEMORY_SIZE) (number / 256) }))
        else Stopped (Outside UndeclaredByte) t)) Good
    both true false true false given = given refl refl refl refl
    both true false true true given = record { told = tt }
    both true false false none given = record { told = tt }
    both true true two none given = record { told = tt }
    both false const two none given = record { told = tt }
