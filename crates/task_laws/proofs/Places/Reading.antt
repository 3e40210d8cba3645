-- Scalars that are read: the machine has their bytes at the address of their place, and these bytes are
-- steady.
use Rattle.task_laws.proofs.Prelude.{◌≡◌, ℕ, ◌+◌, ◌*◌, ◌<◌, ◌≤◌, Bool, true, false, if◌then◌else◌, List, slice_index, refl, ap, subst, ◌∙◌, arith, MEMORY_SIZE, byte_at, Byte, Address, UndeclaredByte, SourceState, Outside, Outcome, Gave, Stopped, then_do, InMemory, InTheFrame, frame_bytes, is_declared, read_scalar, Registers, State, wrap, Does, loaded_of, Activation, IsReady, IsSteady, declared_is_steady, Context, IsSound, address_on_machine}
use Rattle.meaning.specs.Access.{Place}

-- `size` bytes from a place on are those of an object, if the place is inside it
abbrev pub FitsIn : Activation → (size : ℕ) → Place → Type 0
FitsIn activation size (InMemory address) = address < MEMORY_SIZE
FitsIn activation size (InTheFrame object offset is_inside) =
    is_inside ≡ true → offset + size ≤ activation.size object

pub frame_is :
    (context : Context) (object offset : ℕ)
    → IsSound context
    → offset < context.activation.size object
    → wrap (context.activation.level + context.activation.distance object + offset)
    ≡ context.activation.level + context.activation.distance object + offset
frame_is context object offset sound within =
    let inside = sound.lies.inside object offset within in
    let above = sound.lies.above in
    let stack = sound.lies.placed.stack_in_memory in
    omega (arith, inside, above, stack)

pub frame_next :
    (context : Context) (object offset : ℕ)
    → IsSound context
    → offset + 1 < context.activation.size object
    → wrap (wrap (context.activation.level + context.activation.distance object + offset) + 1)
    ≡ context.activation.level + context.activation.distance object + (offset + 1)
frame_next context object offset sound within =
    let inside = sound.lies.inside object (offset + 1) within in
    let above = sound.lies.above in
    let stack = sound.lies.placed.stack_in_memory in
    omega (arith, inside, above, stack)

pub of_frame :
    (activation : Activation) (object offset address : ℕ)
    → offset < activation.size object
    → address ≡ activation.level + activation.distance object + offset
    → IsSteady activation address
of_frame activation object offset address within is =
    record { apart = λ low below. omega (arith, is, below) }

-- a byte that is read
pub byte_read :
    {A : Type 0} {budget more : ℕ} {from : State} {Good : A → SourceState → State → Type 0}
    {context : Context} {top : ℕ} {base memory : List ℕ} {r : Registers} (place : Place) (s : SourceState)
    (go : ℕ → SourceState → Outcome A)
    → IsSound context
    → IsReady context.activation top base s.memory s.frame r memory
    → FitsIn context.activation 1 place
    → (IsSteady context.activation (address_on_machine context.activation place)
    → Does (loaded_of context.activation) budget more from
    (go (byte_at memory (address_on_machine context.activation place)) s) Good)
    → Does (loaded_of context.activation) budget more from
    (then_do (read_scalar context.activation.around.program Byte place s) go) Good
byte_read {budget = budget} {more = more} {from = from} {Good = Good} {context = context} {memory = memory}
    (InMemory address) s go sound ready fits does =
    by_test (is_declared context.activation.around.program address) refl
  where
    by_test : (declared : Bool) → is_declared context.activation.around.program address ≡ declared
        → Does (loaded_of context.activation) budget more from
        (then_do (if declared then Gave (byte_at s.memory address) s else Stopped (Outside UndeclaredByte) s)
        go) Good
    by_test true is =
        subst (λ (byte : ℕ). Does (loaded_of context.activation) budget more from (go byte s) Good)
        (ready.shares.declared address is)
        (does (declared_is_steady context.activation address sound.lies is))
    by_test false is = record { told = tt }
byte_read {budget = budget} {more = more} {from = from} {Good = Good} {context = context} {memory = memory}
    (InTheFrame object offset true) s go sound ready fits does =
    let within : offset + 1 ≤ context.activation.size object = fits refl in
    let less : offset < context.activation.size object = omega (arith, within) in
    let is = frame_is context object offset sound less in
    subst (λ (byte : ℕ). Does (loaded_of context.activation) budget more from (go byte s) Good)
    (ap (byte_at memory) is ∙ ready.frame_lies.bytes object offset less)
    (does (of_frame context.activation object offset
    (wrap (context.activation.level + context.activation.distance object + offset)) less is))
byte_read {Good = Good} (InTheFrame object offset false) s go sound ready fits does = record { told = tt }

-- and an ADDRESS
pub word_read :
    {A : Type 0} {budget more : ℕ} {from : State} {Good : A → SourceState → State → Type 0}
    {context : Context} {top : ℕ} {base memory : List ℕ} {r : Registers} (place : Place) (s : SourceState)
    (go : ℕ → SourceState → Outcome A)
    → IsSound context
    → IsReady context.activation top base s.memory s.frame r memory
    → FitsIn context.activation 2 place
    → (IsSteady context.activation (address_on_machine context.activation place)
    → IsSteady context.activation (wrap (address_on_machine context.activation place + 1))
    → Does (loaded_of context.activation) budget more from
    (go (byte_at memory (address_on_machine context.activation place)
    + 256 * byte_at memory (wrap (address_on_machine context.activation place + 1))) s) Good)
    → Does (loaded_of context.activation) budget more from
    (then_do (read_scalar context.activation.around.program Address place s) go) Good
word_read {budget = budget} {more = more} {from = from} {Good = Good} {context = context} {memory = memory}
    (InMemory address) s go sound ready fits does =
    by_test (is_declared context.activation.around.program address)
    (is_declared context.activation.around.program (wrap (address + 1))) refl refl
  where
    by_test : (first second : Bool)
        → is_declared context.activation.around.program address ≡ first
        → is_declared context.activation.around.program (wrap (address + 1)) ≡ second
        → Does (loaded_of context.activation) budget more from
        (then_do
        (then_do (if first then Gave (byte_at s.memory address) s else Stopped (Outside UndeclaredByte) s)
        (λ low t. then_do
        (if second then Gave (byte_at t.memory (wrap (address + 1))) t else Stopped
        (Outside UndeclaredByte) t)
        (λ high u. Gave (low + 256 * high) u)))
        go) Good
    by_test true true one two =
        subst (λ (number : ℕ). Does (loaded_of context.activation) budget more
        from (go number s) Good)
        (ap (λ (low : ℕ). low + 256 * byte_at memory (wrap (address + 1))) (ready.shares.declared address one)
        ∙ ap (λ (high : ℕ). byte_at s.memory address + 256 * high)
        (ready.shares.declared (wrap (address + 1)) two))
        (does (declared_is_steady context.activation address sound.lies one)
        (declared_is_steady context.activation (wrap (address + 1)) sound.lies two))
    by_test true false one two = record { told = tt }
    by_test false second one two = record { told = tt }
word_read {budget = budget} {more = more} {from = from} {Good = Good} {context = context} {memory = memory}
    (InTheFrame object offset true) s go sound ready fits does =
    let within : offset + 2 ≤ context.activation.size object = fits refl in
    let less : offset < context.activation.size object = omega (arith, within) in
    let less_too : offset + 1 < context.activation.size object = omega (arith, within) in
    let is = frame_is context object offset sound less in
    let next = frame_next context object offset sound less_too in
    let address : ℕ = wrap (context.activation.level + context.activation.distance object + offset) in
    subst (λ (number : ℕ). Does (loaded_of context.activation) budget more from (go number s) Good)
    (ap (λ (low : ℕ). low + 256 * byte_at memory (wrap (address + 1)))
    (ap (byte_at memory) is ∙ ready.frame_lies.bytes object offset less)
    ∙ ap (λ (high : ℕ). slice_index (frame_bytes s.frame object) offset + 256 * high)
    (ap (byte_at memory) next ∙ ready.frame_lies.bytes object (offset + 1) less_too))
    (does (of_frame context.activation object offset address less is)
    (of_frame context.activation object (offset + 1) (wrap (address + 1)) less_too next))
word_read {Good = Good} (InTheFrame object offset false) s go sound ready fits does = record { told = tt }
