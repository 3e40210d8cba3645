-- Values that are read and written have their types: bytes of a state of the source, places, operators and
-- functions.
use Rattle.task_laws.proofs.Prelude.{◌≡◌, ◌≢◌, ◌⊎◌, inl, inr, ℕ, ◌+◌, ◌*◌, ◌/◌, ◌%◌, ◌<◌, ◌≤◌, Bool, true, false, List, [], length, All, option_map, Option, Some, None, slice_get, slice_index_or, slice_set, if◌then◌else◌, refl, subst, arith, option_map_or, All-get_or, All-nil, All-set, get_or_past, length-set, cases_lt, cases_eq, MEMORY_SIZE, byte_at, input_value, queue_of, reads_of, IsScript, ScalarType, Byte, Address, type_of_target, InData, InConstants, Placed, BasedOn, Elsewhere, Nowhere, InFrame, TypedModule, TypedTarget, StoredIn, SentTo, TypesHoldInTarget, Within, Reason, Constant, InMemory, InTheFrame, Surroundings, frame_bytes, is_constant, is_declared, next_place, place_of, read_byte, read_scalar, write_byte, write_scalar, address_in_memory, address_of_list, based_place, computed, Outside, Outcome, Gave, Stop, Stopped, then_do, values_of, Number, ModulePlacement, Event, byte_kept, byte_put, SourceFits, two_bytes_fit, ◌==◌, ◌-◌, More, taking_one}
use Rattle.typed_trees.specs.TypedTrees.{Home}
use Rattle.meaning.specs.{Access.{Place}, Outcomes.{State}}
use Rattle.task_laws.proofs.Machine.KnownOperands.{KnownFits, high_fits}

-- the value of an outcome, if it gives one
pub data Gives {A : Type 0} (Holds : A → State → Type 0) : Outcome A → Type 0 where
  IsGiven : {found : A} {t : State} → Holds found t → Gives Holds (Gave found t)
  IsStopped : {why : Stop} {t : State} → Gives Holds (Stopped why t)

pub gives_then :
    {A B : Type 0} {First : A → State → Type 0} {Holds : B → State → Type 0} (outcome : Outcome A)
    (go : A → State → Outcome B)
    → Gives First outcome
    → ((found : A) (t : State) → First found t → Gives Holds (go found t))
    → Gives Holds (then_do outcome go)
gives_then outcome go (IsGiven {found = found} {t = t} first) rest = rest found t first
gives_then outcome go IsStopped rest = IsStopped

pub picked :
    {A : Type 0} {Holds : A → State → Type 0} (test : Bool) (inside : Outcome A) (reason : Reason) (s : State)
    → (test ≡ true → Gives Holds inside)
    → Gives Holds (if test then inside else Stopped (Outside reason) s)
picked true inside reason s given = given refl
picked false inside reason s given = IsStopped

-- a byte of a byte list, or 0 past it
small_at : (bytes : List ℕ) (offset : ℕ) → All (λ byte. byte < 256) bytes
    → slice_index_or bytes offset 0 < 256
small_at bytes offset all = by (cases_lt offset (length bytes))
  where
    by : (offset < length bytes) ⊎ (length bytes ≤ offset) → slice_index_or bytes offset 0 < 256
    by (inl inside) = All-get_or (λ (byte : ℕ). byte < 256) bytes offset 0 inside all
    by (inr past) = rw (get_or_past bytes offset 0 past) (omega arith)

bytes_at : (frame : List (List ℕ)) (object : ℕ) → All (λ bytes. All (λ byte. byte < 256) bytes) frame
    → All (λ byte. byte < 256) (frame_bytes frame object)
bytes_at frame object all = by (cases_lt object (length frame))
  where
    by : (object < length frame) ⊎ (length frame ≤ object)
        → All (λ byte. byte < 256) (frame_bytes frame object)
    by (inl inside) =
        All-get_or (λ (bytes : List ℕ). All (λ byte. byte < 256) bytes) frame object [] inside all
    by (inr past) = rw (get_or_past frame object [] past) (All-nil (λ (byte : ℕ). byte < 256))

-- an address that a program can ask for
abbrev pub PlaceFits : Place → Type 0
PlaceFits (InMemory address) = address < 65536
PlaceFits (InTheFrame object offset is_inside) = Unit {0}

pub gives_from :
    {A : Type 0} {Holds : A → State → Type 0} (outcome : Outcome A)
    → ((found : A) (t : State) → outcome ≡ Gave found t → Holds found t)
    → Gives Holds outcome
gives_from (Gave found t) rest = IsGiven (rest found t refl)
gives_from (Stopped why t) rest = IsStopped

pub given_by :
    {A : Type 0} {Holds : A → State → Type 0} (outcome : Outcome A) (found : A) (t : State)
    → outcome ≡ Gave found t
    → Gives Holds outcome
    → Holds found t
given_by {A = A} {Holds = Holds} outcome found t same gives =
    by (subst (λ (given : Outcome A). Gives Holds given) same gives)
  where
    by : Gives Holds (Gave found t) → Holds found t
    by (IsGiven holds) = holds

pub computed_fits :
    (around : Surroundings) (scalar : ScalarType) (found : Option ℕ) (s : State)
    → KnownFits (option_map Number found) scalar
    → SourceFits around s
    → Gives (λ n t. (n < values_of scalar) × SourceFits around t) (computed found s)
computed_fits around scalar (Some n) s fits source = IsGiven (fits, source)
computed_fits around scalar None s fits source = IsStopped

address_small : (start bytes : ℕ) → (start + bytes) % MEMORY_SIZE < 65536
address_small start bytes = omega arith

module _ (around : Surroundings) where
  pub read_fits : (place : Place) (s : State) → SourceFits around s
      → Gives (λ n t. (n < 256) × SourceFits around t) (read_byte around.program place s)
  read_fits (InMemory address) s source =
      picked (is_declared around.program address) (Gave (byte_at s.memory address) s) _ s
      (λ declared. IsGiven (source.memory address declared, source))
  read_fits (InTheFrame object offset is_inside) s source =
      picked is_inside (Gave (slice_index_or (frame_bytes s.frame object) offset 0) s) _ s
      (λ inside. IsGiven
      (small_at (frame_bytes s.frame object) offset (bytes_at s.frame object source.frame), source))

  pub scalar_fits : (scalar : ScalarType) (place : Place) (s : State) → SourceFits around s
      → Gives (λ n t. (n < values_of scalar) × SourceFits around t)
      (read_scalar around.program scalar place s)
  scalar_fits Byte place s source = read_fits place s source
  scalar_fits Address place s source =
      gives_then (read_byte around.program place s)
      (λ low t. then_do (read_byte around.program (next_place place) t) (λ high u. Gave (low + 256 * high) u))
      (read_fits place s source)
      (λ low t one.
      gives_then (read_byte around.program (next_place place) t) (λ high u. Gave (low + 256 * high) u)
      (read_fits (next_place place) t one.1)
      (λ high u two. IsGiven (two_bytes_fit low high one.0 two.0, two.1)))

  put_fits : (memory : List ℕ) (address byte other : ℕ) → byte < 256
      → byte_at memory other < 256
      → byte_at (slice_set memory address byte) other < 256
  put_fits memory address byte other small before = by (cases_eq other address)
    where
      past : length memory ≤ address → length (slice_set memory address byte) ≤ address
      past less = rw (length-set memory address byte) less

      same : (address < length memory) ⊎ (length memory ≤ address)
          → byte_at (slice_set memory address byte) address < 256
      same (inl inside) = rw (byte_put memory address byte inside) small
      same (inr outside) =
          rw (get_or_past (slice_set memory address byte) address 0 (past outside)) (omega arith)

      by : (other ≡ address) ⊎ (other ≢ address) → byte_at (slice_set memory address byte) other < 256
      by (inl here) = rw here (same (cases_lt address (length memory)))
      by (inr apart) = rw (byte_kept memory address other byte apart) before

  pub byte_fits : (place : Place) (byte : ℕ) (s : State) → byte < 256 → SourceFits around s
      → Gives (λ found t. SourceFits around t) (write_byte around.program place byte s)
  byte_fits (InMemory address) byte s small source =
      picked (is_declared around.program address) _ _ s
      (λ declared. by (is_constant around.program address))
    where
      by : (constant : Bool)
          → Gives (λ (found : Unit {0}) (t : State). SourceFits around t)
          (if constant then Stopped (Outside Constant) s
          else Gave tt (record s { memory = slice_set s.memory address byte }))
      by true = IsStopped
      by false = IsGiven (record {
        memory = λ other there. put_fits s.memory address byte other small (source.memory other there);
        frame = source.frame;
      })
  byte_fits (InTheFrame object offset is_inside) byte s small source =
      picked is_inside
      (Gave tt
      (record s { frame = slice_set s.frame object (slice_set (frame_bytes s.frame object) offset byte) })) _ s
      (λ inside. IsGiven (record {
        memory = source.memory;
        frame =
            All-set (λ (bytes : List ℕ). All (λ byte. byte < 256) bytes) s.frame object
            (slice_set (frame_bytes s.frame object) offset byte)
            (All-set (λ (byte : ℕ). byte < 256) (frame_bytes s.frame object) offset byte small
            (bytes_at s.frame object source.frame))
            source.frame;
      }))

  pub write_fits : (scalar : ScalarType) (place : Place) (number : ℕ) (s : State) → number < values_of scalar
      → SourceFits around s
      → Gives (λ found t. SourceFits around t) (write_scalar around.program scalar place number s)
  write_fits Byte place number s small source = byte_fits place (number % 256) s (omega arith) source
  write_fits Address place number s small source =
      gives_then (write_byte around.program place (number % 256) s)
      (λ _ t. write_byte around.program (next_place place) (number / 256) t)
      (byte_fits place (number % 256) s (omega arith) source)
      (λ found t one. byte_fits (next_place place) (number / 256) t (high_fits number Address small) one)

  pub place_fits : (home : Home) (object bytes : ℕ) (is_inside : Bool) (s : State) → SourceFits around s
      → Gives (λ place t. PlaceFits place × SourceFits around t)
      (based_place home around object bytes is_inside s)
  place_fits (BasedOn base) object bytes is_inside s source =
      gives_then (read_scalar around.program Address (place_of around base) s)
      (λ start t. Gave (InMemory ((start + bytes) % MEMORY_SIZE)) t)
      (scalar_fits Address (place_of around base) s source)
      (λ start t one. IsGiven (address_small start bytes, one.1))
  place_fits (InData initial) object bytes is_inside s source = IsGiven (omega arith, source)
  place_fits (InConstants initial) object bytes is_inside s source = IsGiven (omega arith, source)
  place_fits (Placed address) object bytes is_inside s source = IsGiven (omega arith, source)
  place_fits Elsewhere object bytes is_inside s source = IsGiven (omega arith, source)
  place_fits Nowhere object bytes is_inside s source = IsGiven (omega arith, source)
  place_fits (InFrame procedure) object bytes is_inside s source = IsGiven (tt, source)

pub address_fits : (place : Place) → PlaceFits place → address_in_memory place < 65536
address_fits (InMemory address) fits = fits
address_fits (InTheFrame object offset is_inside) fits = omega arith

pub list_fits : (around : Surroundings) (list : ℕ) → address_of_list around list < 65536
list_fits around list = by (slice_get around.program.placement.modules around.number_of_module)
  where
    by : (found : Option ModulePlacement)
        → option_map_or (λ (placed : ModulePlacement). slice_index_or placed.lists list 0 % MEMORY_SIZE) found
        0 < 65536
    by (Some placed) = omega arith
    by None = omega arith

pub input_fits : (script : List (List ℕ)) (events : List Event) (port : ℕ) → IsScript script
    → input_value script events port < 256
input_fits script events port is = by (cases_lt (reads_of events port) (length (queue_of script port)))
  where
    by : (reads_of events port < length (queue_of script port))
        ⊎ (length (queue_of script port) ≤ reads_of events port)
        → input_value script events port < 256
    by (inl inside) =
        All-get_or (λ (byte : ℕ). byte < 256) (queue_of script port) (reads_of events port)
        255 inside (is port)
    by (inr past) = rw (get_or_past (queue_of script port) (reads_of events port) 255 past) (omega arith)

-- a value of a type
pub of_type : (one other : ScalarType) (n : ℕ) → one ≡ other → n < values_of one → n < values_of other
of_type one other n same small = subst (λ (scalar : ScalarType). n < values_of scalar) same small

-- a value that is stored has the type of its target
pub target_type : (typed : TypedModule) (within : Within) (to : TypedTarget) (scalar : ScalarType)
    → TypesHoldInTarget typed within scalar to → type_of_target to ≡ scalar
target_type typed within (StoredIn from to part) scalar types = types.0
target_type typed within (SentTo from port) scalar types = types.0

-- where a test decides
pub either :
    {A : Type 0} {Holds : A → State → Type 0} (test : Bool) (one other : Outcome A)
    → Gives Holds one → Gives Holds other → Gives Holds (if test then one else other)
either true one other first second = first
either false one other first second = second

-- where one is taken of the budget
pub after_taking :
    {A : Type 0} {Holds : A → State → Type 0} (around : Surroundings) (s : State) (go : State → Outcome A)
    → SourceFits around s
    → ((t : State) → SourceFits around t → Gives Holds (go t))
    → Gives Holds (taking_one s go)
after_taking {A = A} {Holds = Holds} around s go source rest =
    either (s.budget == 0) (Stopped More s) (go (record s { budget = s.budget - 1 })) IsStopped
    (rest (record s { budget = s.budget - 1 }) (record { memory = source.memory; frame = source.frame }))
