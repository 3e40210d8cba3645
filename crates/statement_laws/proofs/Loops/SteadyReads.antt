-- The bytes of a place that the source reads are steady, or it goes outside.
use Rattle.statement_laws.proofs.Prelude.{◌≡◌, ℕ, ◌+◌, ◌*◌, ◌<◌, ◌≤◌, Bool, true, false, if◌then◌else◌, refl, sym, subst, arith, byte_at, Byte, Address, UndeclaredByte, SourceState, Outside, Outcome, Gave, Stopped, then_do, InMemory, InTheFrame, is_declared, read_scalar, State, wrap, Does, loaded_of, declared_is_steady, IsSteady, Context, IsSound, address_on_machine, FitsIn, frame_is, frame_next, of_frame}
use Rattle.meaning.specs.Access.{Place}

-- of an ADDRESS
pub steady_read :
    {A : Type 0} {budget more : ℕ} {from : State} {Good : A → SourceState → State → Type 0}
    {context : Context} (place : Place) (s : SourceState) (go : ℕ → SourceState → Outcome A)
    → IsSound context
    → FitsIn context.activation 2 place
    → ((IsSteady context.activation (address_on_machine context.activation place)
    × IsSteady context.activation (wrap (address_on_machine context.activation place + 1)))
    → Does (loaded_of context.activation) budget more from
    (then_do (read_scalar context.activation.around.program Address place s) go) Good)
    → Does (loaded_of context.activation) budget more from
    (then_do (read_scalar context.activation.around.program Address place s) go) Good
steady_read {A = A} {budget = budget} {more = more} {from = from} {Good = Good} {context = context}
    (InMemory address) s go sound fits does =
    by_test (is_declared context.activation.around.program address)
    (is_declared context.activation.around.program (wrap (address + 1))) refl refl
  where
    outcome : (first second : Bool) → Outcome A
    outcome first second =
        then_do
        (then_do (if first then Gave (byte_at s.memory address) s else Stopped (Outside UndeclaredByte) s)
        (λ low t. then_do
        (if second then Gave (byte_at t.memory (wrap (address + 1))) t else Stopped
        (Outside UndeclaredByte) t)
        (λ high u. Gave (low + 256 * high) u)))
        go

    by_test : (first second : Bool)
        → is_declared context.activation.around.program address ≡ first
        → is_declared context.activation.around.program (wrap (address + 1)) ≡ second
        → Does (loaded_of context.activation) budget more from
        (then_do (read_scalar context.activation.around.program Address (InMemory address) s) go) Good
    by_test true true one two = does (
      declared_is_steady context.activation address sound.lies one,
      declared_is_steady context.activation (wrap (address + 1)) sound.lies two,
    )
    by_test true false one two =
        subst (λ (first : Bool). Does (loaded_of context.activation) budget more from
        (outcome first (is_declared context.activation.around.program (wrap (address + 1)))) Good) (sym one)
        (subst (λ (second : Bool). Does (loaded_of context.activation) budget more from
        (outcome true second) Good) (sym two)
        (record { told = tt }))
    by_test false second one two =
        subst (λ (first : Bool). Does (loaded_of context.activation) budget more from
        (outcome first (is_declared context.activation.around.program (wrap (address + 1)))) Good) (sym one)
        (record { told = tt })
steady_read {context = context} (InTheFrame object offset true) s go sound fits does =
    let within : offset + 2 ≤ context.activation.size object = fits refl in
    let less : offset < context.activation.size object = omega (arith, within) in
    let less_too : offset + 1 < context.activation.size object = omega (arith, within) in
    let address : ℕ = wrap (context.activation.level + context.activation.distance object + offset) in
    does (
      of_frame context.activation object offset address less (frame_is context object offset sound less),
      of_frame context.activation object (offset + 1) (wrap (address + 1)) less_too
          (frame_next context object offset sound less_too),
    )
steady_read (InTheFrame object offset false) s go sound fits does = record { told = tt }

-- and of a BYTE
pub steady_byte_read :
    {A : Type 0} {budget more : ℕ} {from : State} {Good : A → SourceState → State → Type 0}
    {context : Context} (place : Place) (s : SourceState) (go : ℕ → SourceState → Outcome A)
    → IsSound context
    → FitsIn context.activation 1 place
    → (IsSteady context.activation (address_on_machine context.activation place)
    → Does (loaded_of context.activation) budget more from
    (then_do (read_scalar context.activation.around.program Byte place s) go) Good)
    → Does (loaded_of context.activation) budget more from
    (then_do (read_scalar context.activation.around.program Byte place s) go) Good
steady_byte_read {budget = budget} {more = more} {from = from} {Good = Good} {context = context}
    (InMemory address) s go sound fits does =
    by_test (is_declared context.activation.around.program address) refl
  where
    by_test : (first : Bool)
        → is_declared context.activation.around.program address ≡ first
        → Does (loaded_of context.activation) budget more from
        (then_do (read_scalar context.activation.around.program Byte (InMemory address) s) go) Good
    by_test true one = does (declared_is_steady context.activation address sound.lies one)
    by_test false one =
        subst (λ (first : Bool). Does (loaded_of context.activation) budget more from
        (then_do (if first then Gave (byte_at s.memory address) s else Stopped (Outside UndeclaredByte) s) go)
        Good) (sym one)
        (record { told = tt })
steady_byte_read {context = context} (InTheFrame object offset true) s go sound fits does =
    let within : offset + 1 ≤ context.activation.size object = fits refl in
    let less : offset < context.activation.size object = omega (arith, within) in
    does (of_frame context.activation object offset
    (wrap (context.activation.level + context.activation.distance object + offset)) less
    (frame_is context object offset sound less))
steady_byte_read (InTheFrame object offset false) s go sound fits does = record { told = tt }
