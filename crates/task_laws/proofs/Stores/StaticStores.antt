-- Instructions that store at known places.
use Rattle.task_laws.proofs.Prelude.{◌≡◌, ℕ, ◌+◌, ◌<◌, List, [], ◌∷◌, slice_set, refl, sym, ap, subst, ◌∙◌, Event, SourcePlace, write_byte, SourceState, Outcome, then_do, Registers, State, wrap, act, WordForm, StoreA, instruction_with, Place, Does, loaded_of, at_place, IsReady, IsThere, word_step, IsSteadyByte, WordAsks, place_at, facts_after_word, Facts, Word, after_word, word_item, Context, IsSound, distances_in, StepsStand, WordThere, Know, PartDoes, address_on_machine}
use Rattle.task_laws.proofs.Machine.Rules.{GoesOn, bytes_at_place}
use Rattle.task_laws.proofs.Machine.Addresses.{nothing_goes}
use Rattle.task_laws.proofs.Stores.Stores.{does_gaining}
use Rattle.task_laws.proofs.Stores.Writing.{byte_written}

-- an instruction with the word of a place that makes a step to spare
pub word_gains :
    {A : Type 0} {budget : ℕ} {outcome : Outcome A} {Good : A → SourceState → State → Type 0}
    {context : Context} {facts : Facts} {top : ℕ} {base source : List ℕ} {frame : List (List ℕ)}
    {memory : List ℕ} {events : List Event} {from : ℕ} (form : WordForm) (place : Place) (r now : Registers)
    (ended : List ℕ)
    → IsSound context
    → IsThere context.activation (word_item form place ∷ []) from (from + 3)
    → GoesOn context facts top base source frame r memory
    → WordAsks context.activation form (place_at context.activation.layout place)
    → act context.activation.around.program.script
    (instruction_with form (place_at context.activation.layout place)) (at_place (from + 3) r memory events)
    ≡ at_place (from + 3) now ended events
    → (Know context (after_word facts form place) now ended
    → Does (loaded_of context.activation) budget 0
    (at_place (from + 3) now ended events) outcome Good)
    → Does (loaded_of context.activation) budget 1 (at_place from r memory events) outcome Good
word_gains {A = A} {budget = budget} {outcome = outcome} {Good = Good} {context = context} {facts = facts}
    {memory = memory} {events = events} {from = from} form place r now ended sound there on asks does rest =
    let script = context.activation.around.program.script in
    let shares = on.ready.shares in
    let known : Know context (after_word facts form place) now ended
    = subst (λ (s : State). Know context (after_word facts form place) s.registers s.memory) does
    (facts_after_word script context.activation (distances_in context) facts form place
    (at_place (from + 3) r memory events)
    shares.is_memory (bytes_at_place (wrap (from + 3)) r on.ready.registers) asks on.known) in
    does_gaining
    (word_step script context.activation form _ [] from (from + 3) r memory events sound.lies
    shares.code there ∙ does)
    (rest known)

-- STA at the place of a byte
pub sta_stores :
    {A : Type 0} {Good : A → SourceState → State → Type 0}
    {context : Context} {facts last : Facts} {top from to : ℕ} {base : List ℕ}
    (go : Unit {0} → SourceState → Outcome A) (static : Place) (place : SourcePlace) (byte : ℕ)
    (t : SourceState) (r : Registers)
    (ended : List ℕ)
    → IsSound context
    → byte < 256
    → r.a ≡ byte
    → address_on_machine context.activation place ≡ place_at context.activation.layout static
    → Rattle.task_laws.proofs.Places.Reading.FitsIn context.activation 1 place
    → StepsStand context (PartDoes context) facts from (Word StoreA static ∷ []) last to
    → GoesOn context facts top base t.memory t.frame r ended
    → ((u : SourceState) (left : List ℕ)
    → GoesOn context last top base u.memory u.frame r left
    → Does (loaded_of context.activation) u.budget 0 (at_place to r left u.events) (go tt u) Good)
    → Does (loaded_of context.activation) t.budget 1 (at_place from r ended t.events)
    (then_do (write_byte context.activation.around.program place byte t) go) Good
sta_stores {Good = Good} {context = context} {facts = facts} {last = last} {top = top} {from = from} {to = to}
    {base = base} go static place byte t r ended sound small a is_at fits (WordThere there stand) on rest =
    let loaded = loaded_of context.activation in
    let address : ℕ = place_at context.activation.layout static in
    byte_written place byte t go sound small on.ready fits
    (λ u events_same budget_same steady ready.
    let left : List ℕ = slice_set ended address r.a in
    let same : slice_set ended (address_on_machine context.activation place) byte ≡ left
    = ap (λ (n : ℕ). slice_set ended n byte) is_at ∙ ap (λ (n : ℕ). slice_set ended address n) (sym a) in
    word_gains StoreA static r r left sound there on
    (subst (λ (n : ℕ). IsSteadyByte context.activation n) is_at steady) refl
    (λ known.
    nothing_goes r stand
    (record {
      ready = subst (λ (memory : List ℕ). IsReady context.activation top base u.memory u.frame r memory) same
          ready;
      known = known;
    })
    (λ on_left.
    subst (λ (budget : ℕ). Does loaded budget 0 (at_place to r left t.events) (go tt u) Good) budget_same
    (subst (λ (events : List Event). Does loaded u.budget 0 (at_place to r left events) (go tt u) Good)
    events_same
    (rest u left on_left)))))
