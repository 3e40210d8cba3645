-- What code of loops does that comes to a store of the ADDRESS in HL, and to a comparison of it with a
-- number.
use Rattle.statement_laws.proofs.Prelude.{◌≡◌, ℕ, ◌+◌, ◌*◌, ◌/◌, ◌%◌, ◌<◌, Bool, false, nat_lt, List, ◌∷◌, length, slice_set, sym, ap, subst, ◌∙◌, arith, length-set, MEMORY_SIZE, byte_at, Event, Address, SourcePlace, write_scalar, SourceState, Outcome, then_do, subtract_of, bit, Registers, State, high_byte, low_byte, word, wrap, StoreHl, byte_kept, byte_put, Place, Does, at_place, borrow_shows, borrow_shows_more, word_borrow, IsSteadyByte, place_at, Facts, Step, after_word, Context, IsSound, WordThere, address_on_machine, FitsIn, word_goes, Stage, loaded_in, word_written, differs_from_next, halves_joined, high_of_halves, low_of_halves}
use Rattle.steps8080.specs.declared.step.Step.TheVariants as steps
use Rattle.statement_laws.proofs.Loops.LoopCode.{Steps}
use Rattle.statement_laws.proofs.Loops.LoopMeaning.{scalar_at}

-- a memory with a word put at an address
abbrev pub with_word : (memory : List ℕ) → (address number : ℕ) → List ℕ
with_word memory address number =
    slice_set (slice_set memory address (number % 256)) (wrap (address + 1)) (number / 256)

both_halves : (low high number : ℕ) → low ≡ number % 256 → high ≡ number / 256 → low + 256 * high ≡ number
both_halves low high number one two = omega (arith, one, two)

-- it is there
pub word_put : (memory : List ℕ) (address number : ℕ)
    → length memory ≡ MEMORY_SIZE
    → address < MEMORY_SIZE
    → wrap (address + 1) < MEMORY_SIZE
    → scalar_at Address (with_word memory address number) address ≡ number
word_put memory address number size small small_too =
    let first : List ℕ = slice_set memory address (number % 256) in
    let long = length-set memory address (number % 256) in
    both_halves (byte_at (with_word memory address number) address)
    (byte_at (with_word memory address number) (wrap (address + 1))) number
    (byte_kept first (wrap (address + 1)) address (number / 256) (differs_from_next address small)
    ∙ byte_put memory address (number % 256) (omega (arith, size, small)))
    (byte_put first (wrap (address + 1)) (number / 256) (omega (arith, long, size, small_too)))

-- SHLD at the place of an ADDRESS
pub shld_then :
    {A : Type 0} {context : Context} {top need more from to : ℕ} {base : List ℕ} {t : SourceState}
    {facts last : Facts}
    {r : Registers} {memory : List ℕ} {others : List Step} {Good : A → SourceState → State → Type 0}
    (static : Place) (place : SourcePlace) (number : ℕ) (go : Unit {0} → SourceState → Outcome A)
    → IsSound context
    → number < 65536
    → r.h ≡ number / 256
    → r.l ≡ number % 256
    → address_on_machine context.activation place ≡ place_at context.activation.layout static
    → FitsIn context.activation 2 place
    → Steps context facts from (steps.Word StoreHl static ∷ others) last to
    → Stage context top 0 need base t facts r memory
    → ((u : SourceState)
    → u.budget ≡ t.budget
    → IsSteadyByte context.activation (address_on_machine context.activation place)
    → IsSteadyByte context.activation (wrap (address_on_machine context.activation place + 1))
    → Steps context (after_word facts StoreHl static) (from + 3) others last to
    → Stage context top 0 need base u (after_word facts StoreHl static) r
    (with_word memory (address_on_machine context.activation place) number)
    → Does (loaded_in context) u.budget more
    (at_place (from + 3) r (with_word memory (address_on_machine context.activation place) number) u.events)
    (go tt u) Good)
    → Does (loaded_in context) t.budget more (at_place from r memory t.events)
    (then_do (write_scalar context.activation.around.program Address place number t) go) Good
shld_then {context = context} {top = top} {need = need} {more = more} {from = from} {base = base} {t = t}
    {facts = facts} {r = r} {memory = memory} {Good = Good} static place number go sound small h l is_at fits
    (WordThere there rest) stage next =
    let loaded = loaded_in context in
    let address : ℕ = place_at context.activation.layout static in
    let own : ℕ = address_on_machine context.activation place in
    let left : List ℕ = with_word memory own number in
    let same : slice_set (slice_set memory address (low_byte (word r.h r.l))) (wrap (address + 1))
    (high_byte (word r.h r.l)) ≡ left =
    sym (ap (λ (n : ℕ). slice_set (slice_set memory n (number % 256)) (wrap (n + 1)) (number / 256)) is_at
    ∙ ap (λ (n : ℕ). slice_set (slice_set memory address n) (wrap (address + 1)) (number / 256))
    (low_of_halves r.h r.l number h l)
    ∙ ap (λ (n : ℕ). slice_set (slice_set memory address (low_byte (word r.h r.l))) (wrap (address + 1)) n)
    (high_of_halves r.h r.l number h l)) in
    word_written place number t go sound small stage.ready fits
    (λ u events_same budget_same steady steady_too ready.
    word_goes StoreHl static r r left sound there (record { ready = stage.ready; known = stage.known }) (
      subst (λ (n : ℕ). IsSteadyByte context.activation n) is_at steady,
      subst (λ (n : ℕ). IsSteadyByte context.activation (wrap (n + 1))) is_at steady_too,
    )
    (ap (λ (bytes : List ℕ). at_place (from + 3) r bytes t.events) same)
    (λ known.
    subst (λ (events : List Event). Does loaded t.budget more (at_place (from + 3) r left events)
    (go tt u) Good) events_same
    (subst (λ (budget : ℕ). Does loaded budget more (at_place (from + 3) r left u.events) (go tt u) Good)
    budget_same
    (next u budget_same steady steady_too rest
    (record {
      below = (let below = stage.below in omega (arith, below, budget_same));
      room = stage.room;
      ready = ready;
      known = known;
    })))))

-- the borrow of a word that is compared byte by byte
pub word_is_less : (h l n : ℕ) → l < 256 → n < 65536
    → (subtract_of h (n / 256) (subtract_of l (n % 256) false).flags.cy).flags.cy ≡ nat_lt (256 * h + l) n
word_is_less h l n low small =
    borrow_shows_more h (n / 256) (subtract_of l (n % 256) false).flags.cy (omega (arith, small))
    ∙ ap (λ (borrow : Bool). nat_lt h (n / 256 + bit borrow)) (borrow_shows l (n % 256) (omega arith))
    ∙ word_borrow h l (n / 256) (n % 256) low (omega arith)
    ∙ ap (nat_lt (256 * h + l)) (halves_joined n)
