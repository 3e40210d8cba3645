-- Reads and writes of memory and of frames are those of the meaning.
use Rattle.declared.proofs.Prelude.{◌≡◌, ℕ, ◌+◌, ◌*◌, ◌/◌, ◌%◌, ◌==◌, Bool, true, false, cond, List, [], ◌∷◌, map, replicate, Result, Ok, Err, refl, ap, ◌∙◌, Home, InData, InConstants, Placed, BasedOn, Elsewhere, Nowhere, InFrame, TypedObject, TypedModule, size_of_object, Reason, UndeclaredByte, Constant, Program, State, Outside, Outcome, Gave, Stopped, then_do, InMemory, InTheFrame, is_declared, is_constant, read_byte, write_byte, read_scalar, write_scalar, is_frame_of, frame_of, is_declared_at, is_constant_at, byte_read, Written, written, refused, byte_written, next_address, number_of_bytes, scalar_read, then_write, scalar_written, frame_object_by, frame_object, module_frames, size_in, zeroed_frame, current_frame, with_current, frame_scalar, frame_with_scalar}
use Rattle.trees.specs.{declared.declaration.ScalarType.{ScalarType, TheVariants.{Byte, Address}}}

-- a part of a run that answers so
abbrev pub answered : {A : Type 0} → Result A Reason → State → Outcome A
answered (Ok found) s = Gave found s
answered (Err reason) s = Stopped (Outside reason) s

-- a part of a run that writes so
abbrev pub after_write : Written → State → Outcome (Unit {0})
after_write done s = answered done.answer (record s { memory = done.memory })

pub declared_same :
    (program : Program) (address : ℕ)
    → is_declared program address ≡ is_declared_at program.modules program.placement address
unfolding is_declared_at
declared_same program address = refl

pub constant_same :
    (program : Program) (address : ℕ)
    → is_constant program address ≡ is_constant_at program.modules program.placement address
unfolding is_constant_at
constant_same program address = refl

read_by :
    (is_declared : Bool) (byte : ℕ) (s : State)
    → cond is_declared (Gave byte s) (Stopped (Outside UndeclaredByte) s)
    ≡ answered (cond is_declared (Ok byte) (Err UndeclaredByte)) s
read_by true byte s = refl
read_by false byte s = refl

written_by :
    (is_declared is_constant : Bool) (after : List ℕ) (s : State)
    → cond is_declared
    (cond is_constant (Stopped (Outside Constant) s) (Gave tt (record s { memory = after })))
    (Stopped (Outside UndeclaredByte) s)
    ≡ after_write
    (cond is_declared (cond is_constant (refused Constant s.memory) (written after))
    (refused UndeclaredByte s.memory)) s
written_by true true after s = refl
written_by true false after s = refl
written_by false is_constant after s = refl

-- bytes in memory
pub byte_read_means :
    (program : Program) (address : ℕ) (s : State)
    → read_byte program (InMemory address) s
    ≡ answered (byte_read program.modules program.placement s.memory address) s
unfolding is_declared_at
byte_read_means program address s = read_by (is_declared program address) _ s

pub byte_written_means :
    (program : Program) (address byte : ℕ) (s : State)
    → write_byte program (InMemory address) byte s
    ≡ after_write (byte_written program.modules program.placement s.memory address byte) s
unfolding is_declared_at is_constant_at
byte_written_means program address byte s =
    written_by (is_declared program address) (is_constant program address) _ s

-- scalars in memory
high_read :
    (low : ℕ) (high : Result ℕ Reason) (s : State)
    → then_do (answered high s) (λ byte u. Gave (low + 256 * byte) u)
    ≡ answered (number_of_bytes (Ok low) high) s
high_read low (Ok byte) s = refl
high_read low (Err reason) s = refl

both_read :
    (first : Outcome ℕ) (second : State → Outcome ℕ) (low high : Result ℕ Reason) (s : State)
    → first ≡ answered low s
    → second s ≡ answered high s
    → then_do first (λ byte t. then_do (second t) (λ next u. Gave (byte + 256 * next) u))
    ≡ answered (number_of_bytes low high) s
both_read first second (Ok byte) high s is_first is_second =
    ap (λ outcome. then_do outcome (λ byte t. then_do (second t) (λ next u. Gave (byte + 256 * next) u)))
    is_first
    ∙ ap (λ outcome. then_do outcome (λ next u. Gave (byte + 256 * next) u)) is_second
    ∙ high_read byte high s
both_read first second (Err reason) high s is_first is_second =
    ap (λ outcome. then_do outcome (λ byte t. then_do (second t) (λ next u. Gave (byte + 256 * next) u)))
    is_first

pub scalar_read_means :
    (program : Program) (scalar : ScalarType) (address : ℕ) (s : State)
    → read_scalar program scalar (InMemory address) s
    ≡ answered (scalar_read program.modules program.placement s.memory scalar address) s
scalar_read_means program Byte address s = byte_read_means program address s
scalar_read_means program Address address s =
    both_read (read_byte program (InMemory address) s) (read_byte program (InMemory (next_address address)))
    (byte_read program.modules program.placement s.memory address)
    (byte_read program.modules program.placement s.memory (next_address address)) s
    (byte_read_means program address s) (byte_read_means program (next_address address) s)

pub written_then :
    (answer : Result (Unit {0}) Reason) (memory : List ℕ) (next : List ℕ → Written)
    (second : State → Outcome (Unit {0}))
    (s : State)
    → ((t : State) → second t ≡ after_write (next t.memory) t)
    → then_do (answered answer (record s { memory = memory })) (λ _ t. second t)
    ≡ after_write (then_write (record { answer = answer; memory = memory }) next) s
written_then (Ok _) memory next second s is_second = is_second (record s { memory = memory })
written_then (Err reason) memory next second s is_second = refl

both_written :
    (first : Outcome (Unit {0})) (second : State → Outcome (Unit {0})) (done : Written)
    (next : List ℕ → Written)
    (s : State)
    → first ≡ after_write done s
    → ((t : State) → second t ≡ after_write (next t.memory) t)
    → then_do first (λ _ t. second t) ≡ after_write (then_write done next) s
both_written first second done next s is_first is_second =
    ap (λ outcome. then_do outcome (λ _ t. second t)) is_first
    ∙ written_then done.answer done.memory next second s is_second

pub scalar_written_means :
    (program : Program) (scalar : ScalarType) (address number : ℕ) (s : State)
    → write_scalar program scalar (InMemory address) number s
    ≡ after_write (scalar_written program.modules program.placement s.memory scalar address number) s
scalar_written_means program Byte address number s = byte_written_means program address (number % 256) s
scalar_written_means program Address address number s =
    both_written (write_byte program (InMemory address) (number % 256) s)
    (write_byte program (InMemory (next_address address)) (number / 256))
    (byte_written program.modules program.placement s.memory address (number % 256))
    (λ after. byte_written program.modules program.placement after (next_address address) (number / 256)) s
    (byte_written_means program address (number % 256) s)
    (λ t. byte_written_means program (next_address address) (number / 256) t)

-- scalars in a frame
pub frame_scalar_means :
    (program : Program) (scalar : ScalarType) (object offset : ℕ) (s : State)
    → read_scalar program scalar (InTheFrame object offset true) s
    ≡ Gave (frame_scalar scalar s.frame object offset) s
frame_scalar_means program Byte object offset s = refl
frame_scalar_means program Address object offset s = refl

pub frame_written_means :
    (program : Program) (scalar : ScalarType) (object offset number : ℕ) (s : State)
    → write_scalar program scalar (InTheFrame object offset true) number s
    ≡ Gave tt (record s { frame = frame_with_scalar scalar object offset number s.frame })
frame_written_means program Byte object offset number s = refl
frame_written_means program Address object offset number s = refl

-- the last frame is the only one that changes, and where there is none, nothing does
pub current_written :
    (scalar : ScalarType) (object offset number : ℕ) (frames : List (List (List ℕ)))
    → current_frame (with_current (frame_with_scalar scalar object offset number) frames)
    ≡ frame_with_scalar scalar object offset number (current_frame frames)
current_written Byte object offset number [] = refl
current_written Address object offset number [] = refl
current_written Byte object offset number (frame ∷ callers) = refl
current_written Address object offset number (frame ∷ callers) = refl

-- the frame that a call begins with
zeros_of :
    (is_there : Bool) (size : ℕ)
    → replicate {A = ℕ} (cond is_there size 0) 0 ≡ cond is_there (replicate {A = ℕ} size 0) []
zeros_of true size = refl
zeros_of false size = refl

zeros_by_home :
    (procedure : ℕ) (home : Home) (size : ℕ)
    → replicate {A = ℕ} (size_in procedure (frame_object_by home size)) 0
    ≡ cond (is_frame_of procedure home) (replicate {A = ℕ} size 0) []
zeros_by_home procedure (InFrame other) size = zeros_of (procedure == other) size
zeros_by_home procedure (InData values) size = refl
zeros_by_home procedure (InConstants values) size = refl
zeros_by_home procedure (Placed address) size = refl
zeros_by_home procedure (BasedOn base) size = refl
zeros_by_home procedure Elsewhere size = refl
zeros_by_home procedure Nowhere size = refl

zeros_of_objects :
    (procedure : ℕ) (objects : List TypedObject)
    → map (λ size. replicate {A = ℕ} size 0) (map (size_in procedure) (map frame_object objects))
    ≡ map (λ (object : TypedObject).
    cond (is_frame_of procedure object.home) (replicate {A = ℕ} (size_of_object object) 0) [])
    objects
zeros_of_objects procedure [] = refl
zeros_of_objects procedure (object ∷ objects) =
    ap (λ zeros. zeros ∷ map (λ size. replicate {A = ℕ} size 0)
    (map (size_in procedure) (map frame_object objects)))
    (zeros_by_home procedure object.home (size_of_object object))
    ∙ ap (λ others. cond (is_frame_of procedure object.home) (replicate {A = ℕ} (size_of_object object) 0) []
    ∷ others)
    (zeros_of_objects procedure objects)

pub zeroed_frame_means :
    (procedure : ℕ) (typed : TypedModule)
    → zeroed_frame procedure (module_frames typed) ≡ frame_of procedure typed
zeroed_frame_means procedure typed = zeros_of_objects procedure typed.objects
