-- The first value of the variable of an iterative DO is there after its store.
use Rattle.statement_laws.proofs.Prelude.{◌≡◌, ℕ, ◌+◌, ◌*◌, ◌/◌, ◌%◌, ◌<◌, ◌≤◌, Bool, true, false, if◌then◌else◌, List, [], slice_set, refl, sym, ap, subst, ◌∙◌, arith, MEMORY_SIZE, byte_at, ScalarType, Byte, Address, size_of_scalar, UndeclaredByte, Constant, InMemory, InTheFrame, is_constant, is_declared, next_place, write_byte, write_scalar, SourceState, Outside, Outcome, Gave, Stopped, then_do, values_of, Registers, State, wrap, running, byte_put, Does, Loaded, Lands, Activation, IsReady, does_without_step, Context, IsSound, address_on_machine, FitsIn, frame_is, loaded_in, byte_written, first_fits, next_address, second_fits, word_written, low_of_byte}
use Rattle.meaning.specs.Access.{Place}
use Rattle.statement_laws.proofs.Loops.CountedVariables.{IsCounted, variable_address, variable_place}
use Rattle.statement_laws.proofs.Loops.LoopMeaning.{IsSteadyScalar, scalar_at}
use Rattle.statement_laws.proofs.Loops.WordCode.{with_word, word_put}

-- what a good end is of
record Reached {A : Type 0} (Good : A → SourceState → State → Type 0) (found : A)
    (t : SourceState) : Type 0 where
  pub end : State
  pub good : Good found t end

reached :
    {A : Type 0} {loaded : Loaded} {budget more : ℕ} {from : State} {outcome : Outcome A}
    (found : A) (t : SourceState)
    (Good : A → SourceState → State → Type 0)
    → outcome ≡ Gave found t
    → Does loaded budget more from outcome Good
    → Reached Good found t
reached {loaded = loaded} {budget = budget} {more = more} {from = from} found t Good same does =
    let told : Lands loaded.program.script budget more from t.budget (Good found t) =
    (subst (λ outcome. Does loaded budget more from outcome Good) same does).told in
    record { end = told.end; good = told.is_good }

-- a byte that the source has: a declared one, or one of an object in the frame
record IsInFrame (activation : Activation) (address : ℕ) : Type 0 where
  pub object : ℕ
  pub offset : ℕ
  pub within : offset < activation.size object
  pub is_there : address ≡ activation.level + activation.distance object + offset

data IsHeld (activation : Activation) (address : ℕ) : Type 0 where
  IsDeclared : is_declared activation.around.program address ≡ true → IsHeld activation address
  IsFramed : IsInFrame activation address → IsHeld activation address

-- two memories that one state of the source has
same_held_byte :
    {activation : Activation} {top other_top : ℕ} {base other_base source one other : List ℕ}
    {frame : List (List ℕ)}
    {r now : Registers} (address : ℕ)
    → IsReady activation top base source frame r one
    → IsReady activation other_top other_base source frame now other
    → IsHeld activation address
    → byte_at one address ≡ byte_at other address
same_held_byte address first second (IsDeclared declared) =
    first.shares.declared address declared ∙ sym (second.shares.declared address declared)
same_held_byte {one = one} {other = other} address first second (IsFramed of) =
    ap (byte_at one) of.is_there
    ∙ first.frame_lies.bytes of.object of.offset of.within
    ∙ sym (second.frame_lies.bytes of.object of.offset of.within)
    ∙ sym (ap (byte_at other) of.is_there)

-- a byte that was written is one that the source has
is_held :
    {context : Context} {u : SourceState} (place : Place) (byte : ℕ) (s : SourceState)
    → IsSound context
    → FitsIn context.activation 1 place
    → write_byte context.activation.around.program place byte s ≡ Gave tt u
    → IsHeld context.activation (address_on_machine context.activation place)
is_held {context = context} {u = u} (InMemory address) byte s sound fits is =
    by_test (is_declared context.activation.around.program address) refl
    (subst (λ (declared : Bool). written declared ≡ Gave tt u) refl is)
  where
    written : Bool → Outcome (Unit {0})
    written declared =
        if declared
        then (if is_constant context.activation.around.program address then Stopped (Outside Constant) s
        else Gave tt (record s { memory = slice_set s.memory address byte }))
        else Stopped (Outside UndeclaredByte) s

    by_test : (declared : Bool) → is_declared context.activation.around.program address ≡ declared
        → written declared ≡ Gave tt u
        → IsHeld context.activation address
    by_test true declared is = IsDeclared declared
    by_test false declared is = let never : ⊥ = cc in absurd never
is_held {context = context} (InTheFrame object offset true) byte s sound fits is =
    let within : offset + 1 ≤ context.activation.size object = fits refl in
    let less : offset < context.activation.size object = omega (arith, within) in
    IsFramed
    (record { object = object; offset = offset; within = less; is_there = frame_is context object offset sound less })
is_held (InTheFrame object offset false) byte s sound fits is = let never : ⊥ = cc in absurd never

-- what was written in two parts
record WrittenFirst {A B : Type 0} (outcome : Outcome A) (go : A → SourceState → Outcome B) (found : B)
    (u : SourceState) : Type 0 where
  pub given : A
  pub t : SourceState
  pub first : outcome ≡ Gave given t
  pub then_is : go given t ≡ Gave found u

written_first :
    {A B : Type 0} (outcome : Outcome A) (go : A → SourceState → Outcome B) (found : B) (u : SourceState)
    → then_do outcome go ≡ Gave found u
    → WrittenFirst outcome go found u
written_first (Gave given t) go found u is = record { given = given; t = t; first = refl; then_is = is }
written_first (Stopped why t) go found u is = let never : ⊥ = cc in absurd never

-- two memories have the same scalar where it was written
same_written :
    {context : Context} {top other_top : ℕ} {base other_base source one other : List ℕ}
    {frame : List (List ℕ)}
    {r now : Registers} {u : SourceState} (scalar : ScalarType) (place : Place) (number : ℕ) (s : SourceState)
    → IsSound context
    → FitsIn context.activation (size_of_scalar scalar) place
    → write_scalar context.activation.around.program scalar place number s ≡ Gave tt u
    → IsReady context.activation top base source frame r one
    → IsReady context.activation other_top other_base source frame now other
    → scalar_at scalar one (address_on_machine context.activation place)
    ≡ scalar_at scalar other (address_on_machine context.activation place)
same_written {context = context} Byte place number s sound fits is first second =
    same_held_byte (address_on_machine context.activation place) first second
    (is_held place (number % 256) s sound fits is)
same_written {context = context} {one = one} {other = other} {u = u} Address place number s sound
    fits is first second =
    let address : ℕ = address_on_machine context.activation place in
    let parts = written_first (write_byte context.activation.around.program place (number % 256) s)
    (λ _ t. write_byte context.activation.around.program (next_place place) (number / 256) t) tt u is in
    let low = is_held place (number % 256) s sound (first_fits context.activation place fits) parts.first in
    let high = subst (λ (n : ℕ). IsHeld context.activation n) (next_address context.activation place)
    (is_held (next_place place) (number / 256) parts.t sound
    (second_fits context.activation place fits) parts.then_is) in
    ap (λ (n : ℕ). n + 256 * byte_at one (wrap (address + 1))) (same_held_byte address first second low)
    ∙ ap (λ (n : ℕ). byte_at other address + 256 * n) (same_held_byte (wrap (address + 1)) first second high)

nowhere : State
nowhere = running (record {
  a = 0;
  b = 0;
  c = 0;
  d = 0;
  e = 0;
  h = 0;
  l = 0;
  sp = 0;
  pc = 0;
  flags = record { s = false; z = false; ac = false; p = false; cy = false };
}) [] []

-- the value that was written is there
pub written_is :
    {context : Context} {top other_top : ℕ} {base other_base memory memory_now : List ℕ}
    {r now : Registers} {variable : ℕ}
    (scalar : ScalarType) (number : ℕ) (s u : SourceState)
    → IsSound context
    → IsCounted context variable scalar
    → number < values_of scalar
    → IsReady context.activation top base s.memory s.frame r memory
    → write_scalar context.activation.around.program scalar (variable_place context variable) number s
    ≡ Gave tt u
    → IsReady context.activation other_top other_base u.memory u.frame now memory_now
    → IsSteadyScalar context.activation scalar (variable_address context variable)
    → scalar_at scalar memory_now (variable_address context variable) ≡ number
written_is {context = context} {top = top} {base = base} {memory = memory} {r = r} {variable = variable} Byte
    number s u sound counted small ready is ready_now steady =
    let address : ℕ = variable_address context variable in
    let size = ready.shares.is_memory.size in
    let Good : Unit {0} → SourceState → State → Type 0 = λ found t end.
    IsReady context.activation top base t.memory t.frame r (slice_set memory address (number % 256))
    × (address < MEMORY_SIZE) in
    let there =
    reached tt u Good (ap (λ (one : Outcome (Unit {0})). then_do one (λ found t. Gave found t)) is)
    (byte_written {budget = s.budget} {more = 0} {from = nowhere} {Good = Good}
    (variable_place context variable) (number % 256) s
    (λ found t. Gave found t) sound (omega arith) ready counted.fits
    (λ t events budget steady_there ready_there.
    subst (λ (budget : ℕ). Does (loaded_in context) budget 0 nowhere (Gave tt t) Good) budget
    (does_without_step (ready_there, steady_there.1)))) in
    let good = there.good in
    let below = good.1 in
    same_written Byte (variable_place context variable) number s sound counted.fits is ready_now good.0
    ∙ byte_put memory address (number % 256) (omega (arith, size, below))
    ∙ low_of_byte number small
written_is {context = context} {top = top} {base = base} {memory = memory} {r = r} {variable = variable}
    Address number s u sound counted small ready is ready_now steady =
    let address : ℕ = variable_address context variable in
    let size = ready.shares.is_memory.size in
    let Good : Unit {0} → SourceState → State → Type 0 = λ found t end.
    IsReady context.activation top base t.memory t.frame r (with_word memory address number)
    × (address < MEMORY_SIZE) × (wrap (address + 1) < MEMORY_SIZE) in
    let there =
    reached tt u Good (ap (λ (one : Outcome (Unit {0})). then_do one (λ found t. Gave found t)) is)
    (word_written {budget = s.budget} {more = 0} {from = nowhere} {Good = Good}
    (variable_place context variable) number s
    (λ found t. Gave found t) sound small ready counted.fits
    (λ t events budget steady_there steady_too ready_there.
    subst (λ (budget : ℕ). Does (loaded_in context) budget 0 nowhere (Gave tt t) Good) budget
    (does_without_step (ready_there, steady_there.1, steady_too.1)))) in
    let good = there.good in
    same_written Address (variable_place context variable) number s sound counted.fits is ready_now good.0
    ∙ word_put memory address number size good.1 good.2
