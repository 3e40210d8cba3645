-- The code that puts the low byte of a value in memory into A.
use Rattle.task_laws.proofs.Prelude.{◌≡◌, ℕ, ◌+◌, ◌*◌, ◌%◌, ◌<◌, true, List, [], ◌∷◌, Option, Some, None, refl, sym, ap, subst, ◌∙◌, arith, MEMORY_SIZE, byte_at, byte_small, ScalarType, Byte, Address, height_of_reference, size_of_scalar, TypedReference, RefersToScalar, TypesHoldInReference, SourcePlace, InMemory, InTheFrame, read_scalar, SourceState, Outcome, Gave, then_do, values_of, Registers, State, wrap, Location, Reference, IsReference, is_static_location, Does, loaded_of, at_place, Activation, Arrives, IsReady, does_without_step, IsSteady, Facts, Plain, load, part, location_of, byte_in_memory_steps, location_byte_steps, knowing, Context, IsSound, nodes_in, StepsStand, PartThere, Carries, ChangesAOnly, Know, Nothing, PartDoes, address_on_machine, same_Some, two_bytes_fit, given_again}
use Rattle.isa8080.specs.declared.instr.Register.TheVariants as registers
use Rattle.steps8080.specs.declared.step.Task.TheVariants as tasks
use Rattle.task_laws.proofs.Machine.Values.{then_does_where}
use Rattle.task_laws.proofs.Places.Reading.{FitsIn, byte_read, word_read}
use Rattle.task_laws.proofs.Places.Located.{located_in}
use Rattle.task_laws.proofs.Places.Fitting.{located_fits, refers_is_referred}
use Rattle.task_laws.proofs.Places.LocationBytes.{load_a_goes, location_byte_goes}
use Rattle.task_laws.proofs.Loads.Loads.{lies_there, static_only}

low_of : (low high : ℕ) → low < 256 → (low + 256 * high) % 256 ≡ low
low_of low high small = omega (arith, small)

-- a scalar that is read: its low byte is at the address of its place
pub scalar_read :
    {A : Type 0} {budget more : ℕ} {from : State} {Good : A → SourceState → State → Type 0}
    {context : Context} {top : ℕ} {base memory : List ℕ} {r : Registers} (scalar : ScalarType)
    (place : SourcePlace)
    (s : SourceState) (go : ℕ → SourceState → Outcome A)
    → IsSound context
    → IsReady context.activation top base s.memory s.frame r memory
    → FitsIn context.activation (size_of_scalar scalar) place
    → ((n : ℕ) → IsSteady context.activation (address_on_machine context.activation place)
    → byte_at memory (address_on_machine context.activation place) ≡ n % 256
    → n < values_of scalar
    → Does (loaded_of context.activation) budget more from (go n s) Good)
    → Does (loaded_of context.activation) budget more from
    (then_do (read_scalar context.activation.around.program scalar place s) go) Good
scalar_read {context = context} {memory = memory} Byte place s go sound ready fits does =
    let address : ℕ = address_on_machine context.activation place in
    let small = byte_small memory address ready.shares.is_memory in
    byte_read place s go sound ready fits
    (λ steady. does (byte_at memory address) steady (omega (arith, small)) small)
scalar_read {context = context} {memory = memory} Address place s go sound ready fits does =
    let address : ℕ = address_on_machine context.activation place in
    let low : ℕ = byte_at memory address in
    let high : ℕ = byte_at memory (wrap (address + 1)) in
    let small = byte_small memory address ready.shares.is_memory in
    let small_too = byte_small memory (wrap (address + 1)) ready.shares.is_memory in
    word_read place s go sound ready fits
    (λ steady next. does (low + 256 * high) steady (sym (low_of low high small))
    (two_bytes_fit low high small small_too))

pub place_small : (activation : Activation) (size : ℕ) (place : SourcePlace) → FitsIn activation size place
    → address_on_machine activation place < MEMORY_SIZE
place_small activation size (InMemory address) fits = fits
place_small activation size (InTheFrame object offset is_inside) fits = omega arith

-- the low byte of a scalar in memory is in A
pub record ByteIsLoaded
    (context : Context) (before after : Facts) (reference : Reference) (scalar : ScalarType)
    (r : Registers) (memory : List ℕ) (found : ℕ) (now : Registers) (memory_now : List ℕ) : Type 0 where
  pub a : now.a ≡ found % 256
  pub small : found < values_of scalar
  pub known : Know context after now memory_now
  pub free : (location : Location) → location_of (knowing context.site before) reference ≡ Some location
      → is_static_location location ≡ true → ChangesAOnly r memory now memory_now

-- The code of the low byte of a part of memory.
pub byte_in_memory_law :
    {context : Context} {facts last : Facts} {reference : Reference} {pushed from to bound : ℕ}
    {tree : TypedReference}
    (scalar : ScalarType)
    → IsSound context
    → StepsStand context (PartDoes context) facts from
    (byte_in_memory_steps (knowing context.site facts) reference pushed) last to
    → IsReference (nodes_in context) context.storage bound reference tree
    → RefersToScalar context.typed context.within scalar tree
    → TypesHoldInReference context.typed context.within tree
    → Carries context facts pushed (2 * height_of_reference tree) 0 from to Nothing
    (λ s. then_do (located_in context tree s)
    (λ place t. read_scalar context.activation.around.program scalar place t))
    (ByteIsLoaded context facts last reference scalar)
byte_in_memory_law {context = context} {facts = facts} {last = last} {reference = reference} {pushed = pushed}
    {from = from} {to = to} {bound = bound} {tree = tree} scalar sound stand is refers types top base s r
    memory less room ready known asked =
    by_location (location_of (knowing context.site facts) reference) refl stand
  where
    by_location : (found : Option Location) → location_of (knowing context.site facts) reference ≡ found
        → StepsStand context (PartDoes context) facts from
        (elim found [
          | Some location ↦ location_byte_steps (knowing context.site facts) location pushed
          | None ↦ part (tasks.Address reference) pushed ∷ Plain (load registers.A) ∷ []
        ]) last to
        → Does (loaded_of context.activation) s.budget 0 (at_place from r memory s.events)
        (then_do (located_in context tree s)
        (λ place t. read_scalar context.activation.around.program scalar place t))
        (Arrives context.activation top base to (ByteIsLoaded context facts last reference scalar r memory))
    by_location (Some location) found stand =
        let lies =
        lies_there facts location sound is (refers_is_referred context scalar tree refers) types found in
        let fits = located_fits context scalar tree lies.place s s sound refers (lies.means s) in
        subst (λ (outcome : Outcome ℕ). Does (loaded_of context.activation) s.budget 0
        (at_place from r memory s.events) outcome
        (Arrives context.activation top base to (ByteIsLoaded context facts last reference scalar r memory)))
        (given_again (read_scalar context.activation.around.program scalar lies.place s)
        ∙ sym (ap (λ (outcome : Outcome SourcePlace). then_do outcome
        (λ place t. read_scalar context.activation.around.program scalar place t)) (lies.means s)))
        (scalar_read scalar lies.place s (λ n t. Gave n t) sound ready fits
        (λ n steady low small.
        location_byte_goes facts location r sound room
        (subst (λ (n : ℕ). n < MEMORY_SIZE) lies.is_at
        (place_small context.activation (size_of_scalar scalar) lies.place fits))
        (subst (λ (n : ℕ). IsSteady context.activation n) lies.is_at steady)
        known stand (record { ready = ready; known = known })
        (λ now loaded on. does_without_step (record {
          r = now;
          memory = memory;
          is_at = refl;
          ready = on.ready;
          holds = record {
            a = loaded.a ∙ ap (byte_at memory) (sym lies.is_at) ∙ low;
            small = small;
            known = on.known;
            free = λ other other_is static.
                loaded.others (ap is_static_location (same_Some _ _ (sym found ∙ other_is)) ∙ static);
          };
        }))))
    by_location None found (PartThere {middle = middle} does stand) =
        then_does_where
        (does bound tree is (refers_is_referred context scalar tree refers) types top base s r memory less
        room ready known tt)
        (λ place t end same given fewer.
        let there : Registers = given.r in
        let ended : List ℕ = given.memory in
        let address : ℕ = address_on_machine context.activation place in
        subst (λ (state : State). Does (loaded_of context.activation) t.budget 0 state
        (read_scalar context.activation.around.program scalar place t)
        (Arrives context.activation top base to (ByteIsLoaded context facts last reference scalar r memory)))
        (sym given.is_at)
        (subst (λ (outcome : Outcome ℕ). Does (loaded_of context.activation) t.budget 0
        (at_place middle there ended t.events) outcome
        (Arrives context.activation top base to (ByteIsLoaded context facts last reference scalar r memory)))
        (given_again (read_scalar context.activation.around.program scalar place t))
        (scalar_read scalar place t (λ n u. Gave n u) sound given.ready
        (located_fits context scalar tree place s t sound refers same)
        (λ n steady low small.
        load_a_goes address there sound steady (given.holds).hl stand
        (record { ready = given.ready; known = (given.holds).known })
        (λ now loaded on. does_without_step (record {
          r = now;
          memory = ended;
          is_at = refl;
          ready = on.ready;
          holds = record {
            a = loaded.a ∙ low;
            small = small;
            known = on.known;
            free = λ other other_is static. static_only found other_is;
          };
        }))))))
