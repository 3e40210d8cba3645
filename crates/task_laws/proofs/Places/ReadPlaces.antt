-- Reads at places, on both sides: the bytes of the machine's memory, or the read goes outside the language.
use Rattle.task_laws.proofs.Prelude.{◌≡◌, ℕ, ◌+◌, ◌*◌, ◌/◌, ◌%◌, ◌<◌, ◌≤◌, ◌⊎◌, inl, inr, Bool, true, false, if◌then◌else◌, List, refl, sym, ap, ◌∙◌, arith, byte_at, byte_small, ScalarType, Byte, Address, size_of_scalar, UndeclaredByte, SourceState, Ended, More, Outside, Outcome, Gave, Stopped, then_do, InMemory, InTheFrame, is_declared, next_place, read_byte, read_scalar, values_of, Registers, State, wrap, Does, Loaded, IsReady, IsSteady, declared_is_steady, GoesOutside, Context, IsSound, address_on_machine, high_of_two, low_of_two, two_bytes_fit, byte_is_low}
use Rattle.meaning.specs.Access.{Place}
use Rattle.task_laws.proofs.Places.Reading.{FitsIn, frame_is, of_frame}
use Rattle.task_laws.proofs.Stores.WordWriting.{first_fits, second_fits}

-- if the source goes outside, any machine does it
pub does_outside :
    {A : Type 0} {loaded : Loaded} {budget more : ℕ} {from : State}
    {Good : A → SourceState → State → Type 0}
    (outcome : Outcome A)
    → GoesOutside outcome
    → Does loaded budget more from outcome Good
does_outside (Gave found t) is = absurd is
does_outside (Stopped (Outside reason) t) is = record { told = tt }
does_outside (Stopped Ended t) is = absurd is
does_outside (Stopped More t) is = absurd is

-- the first evaluation goes outside
pub then_outside :
    {A B : Type 0} (outcome : Outcome A) (go : A → SourceState → Outcome B)
    → GoesOutside outcome
    → GoesOutside (then_do outcome go)
then_outside (Gave found t) go is = absurd is
then_outside (Stopped (Outside reason) t) go is = tt
then_outside (Stopped Ended t) go is = absurd is
then_outside (Stopped More t) go is = absurd is

-- a value was given without a change of the state, and its low byte is at an address
pub record LowIsAt
    (context : Context) (scalar : ScalarType) (address : ℕ) (memory : List ℕ) (t : SourceState)
    (outcome : Outcome ℕ) : Type 0 where
  pub found : ℕ
  pub is : outcome ≡ Gave found t
  pub low : byte_at memory address ≡ found % 256
  pub small : found < values_of scalar
  pub steady : IsSteady context.activation address

-- the same for its high byte
pub record HighIsAt
    (context : Context) (address : ℕ) (memory : List ℕ) (t : SourceState) (outcome : Outcome ℕ) : Type 0 where
  pub found : ℕ
  pub is : outcome ≡ Gave found t
  pub high : byte_at memory address ≡ found / 256
  pub small : found < 65536
  pub steady : IsSteady context.activation address

-- a byte that is read
pub byte_found :
    {context : Context} {top : ℕ} {base memory : List ℕ} {r : Registers} (place : Place) (t : SourceState)
    → IsSound context
    → IsReady context.activation top base t.memory t.frame r memory
    → FitsIn context.activation 1 place
    → (IsSteady context.activation (address_on_machine context.activation place)
    × (read_byte context.activation.around.program place t ≡ Gave
    (byte_at memory (address_on_machine context.activation place)) t))
    ⊎ GoesOutside (read_byte context.activation.around.program place t)
byte_found {context = context} {memory = memory} (InMemory address) t sound ready fits =
    by_test (is_declared context.activation.around.program address) refl
  where
    by_test : (declared : Bool) → is_declared context.activation.around.program address ≡ declared
        → (IsSteady context.activation address
        × ((if declared then Gave (byte_at t.memory address) t else Stopped (Outside UndeclaredByte) t)
        ≡ Gave (byte_at memory address) t))
        ⊎ GoesOutside (if declared then Gave (byte_at t.memory address) t else Stopped
        (Outside UndeclaredByte) t)
    by_test true is =
        inl (declared_is_steady context.activation address sound.lies is, ap (λ (n : ℕ). Gave n t) (sym (ready.shares.declared address is)))
    by_test false is = inr tt
byte_found {context = context} {memory = memory} (InTheFrame object offset true) t sound ready fits =
    let within : offset + 1 ≤ context.activation.size object = fits refl in
    let less : offset < context.activation.size object = omega (arith, within) in
    let is = frame_is context object offset sound less in
    inl (
      of_frame context.activation object offset
          (wrap (context.activation.level + context.activation.distance object + offset)) less is,
      ap (λ (n : ℕ). Gave n t) (sym (ap (byte_at memory) is ∙ ready.frame_lies.bytes object offset less)),
    )
byte_found (InTheFrame object offset false) t sound ready fits = inr tt

-- an ADDRESS that is read; both its bytes are steady
pub record WordIsAt
    (context : Context) (place : Place) (memory : List ℕ) (t : SourceState)
    (outcome : Outcome ℕ) : Type 0 where
  pub low_is : LowIsAt context Address (address_on_machine context.activation place) memory t outcome
  pub high_is : HighIsAt context (address_on_machine context.activation (next_place place)) memory t outcome

pub word_found :
    {context : Context} {top : ℕ} {base memory : List ℕ} {r : Registers} (place : Place) (t : SourceState)
    → IsSound context
    → IsReady context.activation top base t.memory t.frame r memory
    → FitsIn context.activation 2 place
    → WordIsAt context place memory t (read_scalar context.activation.around.program Address place t)
    ⊎ GoesOutside (read_scalar context.activation.around.program Address place t)
word_found {context = context} {memory = memory} place t sound ready fits =
    by_first (byte_found place t sound ready (first_fits context.activation place fits))
    (byte_found (next_place place) t sound ready (second_fits context.activation place fits))
  where
    here : ℕ
    here = address_on_machine context.activation place

    next : ℕ
    next = address_on_machine context.activation (next_place place)

    by_first :
        (IsSteady context.activation here
        × (read_byte context.activation.around.program place t ≡ Gave (byte_at memory here) t))
        ⊎ GoesOutside (read_byte context.activation.around.program place t)
        → (IsSteady context.activation next
        × (read_byte context.activation.around.program (next_place place) t ≡ Gave (byte_at memory next) t))
        ⊎ GoesOutside (read_byte context.activation.around.program (next_place place) t)
        → WordIsAt context place memory t (read_scalar context.activation.around.program Address place t)
        ⊎ GoesOutside (read_scalar context.activation.around.program Address place t)
    by_first (inr outside) second =
        inr (then_outside (read_byte context.activation.around.program place t) _ outside)
    by_first (inl first) (inr outside) =
        inr (rw first.1 (then_outside (read_byte context.activation.around.program (next_place place) t)
        (λ high u. Gave (byte_at memory here + 256 * high) u) outside))
    by_first (inl first) (inl second) =
        let small = byte_small memory here ready.shares.is_memory in
        let small_too = byte_small memory next ready.shares.is_memory in
        let is : read_scalar context.activation.around.program Address place t
        ≡ Gave (byte_at memory here + 256 * byte_at memory next) t
        = ap (λ (outcome : Outcome ℕ). then_do outcome
        (λ low u. then_do (read_byte context.activation.around.program (next_place place) u)
        (λ high v. Gave (low + 256 * high) v))) first.1
        ∙ ap (λ (outcome : Outcome ℕ). then_do outcome (λ high v. Gave (byte_at memory here + 256 * high) v))
        second.1 in
        inl (record {
          low_is = record {
            found = byte_at memory here + 256 * byte_at memory next;
            is = is;
            low = low_of_two (byte_at memory here) (byte_at memory next) small;
            small = two_bytes_fit (byte_at memory here) (byte_at memory next) small small_too;
            steady = first.0;
          };
          high_is = record {
            found = byte_at memory here + 256 * byte_at memory next;
            is = is;
            high = high_of_two (byte_at memory here) (byte_at memory next) small;
            small = two_bytes_fit (byte_at memory here) (byte_at memory next) small small_too;
            steady = second.0;
          };
        })

-- a scalar that is read
pub scalar_found :
    {context : Context} {top : ℕ} {base memory : List ℕ} {r : Registers} (scalar : ScalarType) (place : Place)
    (t : SourceState)
    → IsSound context
    → IsReady context.activation top base t.memory t.frame r memory
    → FitsIn context.activation (size_of_scalar scalar) place
    → LowIsAt context scalar (address_on_machine context.activation place) memory t
    (read_scalar context.activation.around.program scalar place t)
    ⊎ GoesOutside (read_scalar context.activation.around.program scalar place t)
scalar_found {context = context} {memory = memory} Byte place t sound ready fits =
    by (byte_found place t sound ready fits)
  where
    here : ℕ
    here = address_on_machine context.activation place

    by : (IsSteady context.activation here
        × (read_byte context.activation.around.program place t ≡ Gave (byte_at memory here) t))
        ⊎ GoesOutside (read_byte context.activation.around.program place t)
        → LowIsAt context Byte here memory t (read_byte context.activation.around.program place t)
        ⊎ GoesOutside (read_byte context.activation.around.program place t)
    by (inr outside) = inr outside
    by (inl first) =
        let small = byte_small memory here ready.shares.is_memory in
        inl (record { found = byte_at memory here; is = first.1; low = byte_is_low (byte_at memory here) small; small = small; steady = first.0 })
scalar_found {context = context} {memory = memory} Address place t sound ready fits =
    by (word_found place t sound ready fits)
  where
    by : WordIsAt context place memory t (read_scalar context.activation.around.program Address place t)
        ⊎ GoesOutside (read_scalar context.activation.around.program Address place t)
        → LowIsAt context Address (address_on_machine context.activation place) memory t
        (read_scalar context.activation.around.program Address place t)
        ⊎ GoesOutside (read_scalar context.activation.around.program Address place t)
    by (inl found) = inl found.low_is
    by (inr outside) = inr outside
