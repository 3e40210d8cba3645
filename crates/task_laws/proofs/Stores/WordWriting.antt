-- Words that are written on both sides.
use Rattle.task_laws.proofs.Prelude.{◌≡◌, ℕ, ◌+◌, ◌/◌, ◌%◌, ◌<◌, List, slice_set, refl, sym, subst, ◌∙◌, arith, Address, SourceState, Outcome, then_do, InMemory, InTheFrame, next_place, write_byte, write_scalar, Registers, State, wrap, Does, loaded_of, Activation, IsReady, IsSteadyByte, Context, IsSound, address_on_machine}
use Rattle.meaning.specs.Access.{Place}
use Rattle.task_laws.proofs.Places.Reading.{FitsIn}
use Rattle.task_laws.proofs.Stores.Writing.{byte_written}
use Rattle.task_laws.proofs.Machine.Effects.{then_again}
use Rattle.task_laws.proofs.Numbers.{wrapped_step}

pub first_fits : (activation : Activation) (place : Place) → FitsIn activation 2 place
    → FitsIn activation 1 place
first_fits activation (InMemory address) fits = fits
first_fits activation (InTheFrame object offset is_inside) fits =
    λ inside. let less = fits inside in omega (arith, less)

pub second_fits : (activation : Activation) (place : Place) → FitsIn activation 2 place
    → FitsIn activation 1 (next_place place)
second_fits activation (InMemory address) fits = omega arith
second_fits activation (InTheFrame object offset is_inside) fits =
    λ inside. let less = fits inside in omega (arith, less)

pub next_address : (activation : Activation) (place : Place)
    → address_on_machine activation (next_place place) ≡ wrap (address_on_machine activation place + 1)
next_address activation (InMemory address) = refl
next_address activation (InTheFrame object offset is_inside) =
    wrapped_step (activation.level + activation.distance object) offset

-- an ADDRESS that is written
pub word_written :
    {A : Type 0} {budget more : ℕ} {from : State} {Good : A → SourceState → State → Type 0}
    {context : Context} {top : ℕ} {base memory : List ℕ} {r : Registers} (place : Place)
    (number : ℕ) (s : SourceState)
    (go : Unit {0} → SourceState → Outcome A)
    → IsSound context
    → number < 65536
    → IsReady context.activation top base s.memory s.frame r memory
    → FitsIn context.activation 2 place
    → ((t : SourceState)
    → t.events ≡ s.events
    → t.budget ≡ s.budget
    → IsSteadyByte context.activation (address_on_machine context.activation place)
    → IsSteadyByte context.activation (wrap (address_on_machine context.activation place + 1))
    → IsReady context.activation top base t.memory t.frame r
    (slice_set (slice_set memory (address_on_machine context.activation place) (number % 256))
    (wrap (address_on_machine context.activation place + 1)) (number / 256))
    → Does (loaded_of context.activation) budget more from (go tt t) Good)
    → Does (loaded_of context.activation) budget more from
    (then_do (write_scalar context.activation.around.program Address place number s) go) Good
word_written {budget = budget} {more = more} {from = from} {Good = Good} {context = context} {top = top}
    {base = base} {memory = memory} {r = r} place number s go sound small ready fits does =
    let program = context.activation.around.program in
    let address : ℕ = address_on_machine context.activation place in
    let next = next_address context.activation place in
    subst (λ (outcome : Outcome _). Does (loaded_of context.activation) budget more from outcome Good)
    (sym (then_again (write_byte program place (number % 256) s)
    (λ _ t. write_byte program (next_place place) (number / 256) t) go))
    (byte_written place (number % 256) s
    (λ _ t. then_do (write_byte program (next_place place) (number / 256) t) go) sound
    (omega arith) ready (first_fits context.activation place fits)
    (λ t events_same budget_same steady ready_once.
    byte_written (next_place place) (number / 256) t go sound (omega (arith, small)) ready_once
    (second_fits context.activation place fits)
    (λ u events_again budget_again steady_too ready_twice.
    does u (events_again ∙ events_same) (budget_again ∙ budget_same) steady
    (subst (λ (n : ℕ). IsSteadyByte context.activation n) next steady_too)
    (subst (λ (n : ℕ). IsReady context.activation top base u.memory u.frame r
    (slice_set (slice_set memory address (number % 256)) n (number / 256))) next ready_twice))))
