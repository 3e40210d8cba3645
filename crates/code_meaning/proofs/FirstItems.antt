-- The run of a machine at an item: the effect of the item, and then the run from there.
use Rattle.code_meaning.proofs.Prelude.{◌≡◌, ℕ, suc, ◌+◌, true, false, if◌then◌else◌, List, ◌∷◌, ap, ◌∙◌, SourceState, Outcome, Condition, Instr, Registers, State, holds, act, step_of, Item, Plain, WithWord, Reference, AtLabel, WordForm, Jump, JumpWhere, instruction_with, word_of, AgreesIn, size_of_instruction, plain_item_step, word_item_step, Loaded, Does, at_place, Activation, IsThere, LiesWell}
use Rattle.ports.specs.declared.event.Event.{Event}
use Rattle.code_meaning.proofs.Landing.{after_step, after_paid_step}
use Rattle.code_meaning.proofs.Standing.{stands_now}

-- an instruction
pub plain_step :
    (script : List (List ℕ)) (activation : Activation) (i : Instr) (items : List Item) (from to : ℕ)
    (r : Registers) (memory : List ℕ) (events : List Event)
    → LiesWell activation
    → AgreesIn activation.around.program.placement.code activation.image memory
    → IsThere activation (Plain i ∷ items) from to
    → step_of script (at_place from r memory events)
    ≡ act script i (at_place (from + size_of_instruction i) r memory events)
plain_step script activation i items from to r memory events lies agrees there =
    plain_item_step script activation.layout i items from to r memory events
    (stands_now activation memory (Plain i ∷ items) from to lies agrees there)

-- an instruction with a word
pub word_step :
    (script : List (List ℕ)) (activation : Activation) (form : WordForm)
    (reference : Reference) (items : List Item)
    (from to : ℕ) (r : Registers) (memory : List ℕ) (events : List Event)
    → LiesWell activation
    → AgreesIn activation.around.program.placement.code activation.image memory
    → IsThere activation (WithWord form reference ∷ items) from to
    → step_of script (at_place from r memory events)
    ≡ act script (instruction_with form (word_of activation.layout reference))
    (at_place (from + 3) r memory events)
word_step script activation form reference items from to r memory events lies agrees there =
    word_item_step script activation.layout form reference items from to r memory events
    (stands_now activation memory (WithWord form reference ∷ items) from to lies agrees there)

-- a machine at an instruction
pub plain_first :
    {A : Type 0} {loaded : Loaded} {budget more : ℕ} {outcome : Outcome A}
    {Good : A → SourceState → State → Type 0}
    {activation : Activation} {i : Instr} {items : List Item} {from to : ℕ}
    {memory : List ℕ} {events : List Event} (r : Registers)
    → LiesWell activation
    → AgreesIn activation.around.program.placement.code activation.image memory
    → IsThere activation (Plain i ∷ items) from to
    → Does loaded budget more
    (act loaded.program.script i (at_place (from + size_of_instruction i) r memory events))
    outcome Good
    → Does loaded budget more (at_place from r memory events) outcome Good
plain_first {loaded = loaded} {activation = activation} {i = i} {items = items} {from = from} {to = to}
    {memory = memory} {events = events} r lies agrees there rest =
    after_step
    (plain_step loaded.program.script activation i items from to r memory events lies agrees there)
    rest

-- a machine at an instruction with a word
pub word_first :
    {A : Type 0} {loaded : Loaded} {budget more : ℕ} {outcome : Outcome A}
    {Good : A → SourceState → State → Type 0}
    {activation : Activation} {form : WordForm} {reference : Reference} {items : List Item} {from to : ℕ}
    {memory : List ℕ} {events : List Event} (r : Registers)
    → LiesWell activation
    → AgreesIn activation.around.program.placement.code activation.image memory
    → IsThere activation (WithWord form reference ∷ items) from to
    → Does loaded budget more
    (act loaded.program.script (instruction_with form (word_of activation.layout reference))
    (at_place (from + 3) r memory events))
    outcome Good
    → Does loaded budget more (at_place from r memory events) outcome Good
word_first {loaded = loaded} {activation = activation} {form = form} {reference = reference} {items = items}
    {from = from} {to = to} {memory = memory} {events = events} r lies agrees there rest =
    after_step
    (word_step loaded.program.script activation form reference items from to r memory events lies agrees
    there)
    rest

-- a jump, which may pay for one unit of the budget
pub jump_paid :
    {A : Type 0} {loaded : Loaded} {budget more : ℕ} {outcome : Outcome A}
    {Good : A → SourceState → State → Type 0}
    {activation : Activation} {label : ℕ} {items : List Item} {from to : ℕ}
    {memory : List ℕ} {events : List Event} (r : Registers)
    → LiesWell activation
    → AgreesIn activation.around.program.placement.code activation.image memory
    → IsThere activation (WithWord Jump (AtLabel label) ∷ items) from to
    → Does loaded budget more (at_place (activation.layout.place_of label) r memory events) outcome Good
    → Does loaded (suc budget) more (at_place from r memory events) outcome Good
jump_paid {loaded = loaded} {activation = activation} {label = label} {items = items} {from = from} {to = to}
    {memory = memory} {events = events} r lies agrees there rest =
    after_paid_step
    (word_step loaded.program.script activation Jump (AtLabel label) items from to r memory events lies agrees
    there)
    rest

-- a jump with a condition that holds
pub jump_taken :
    {A : Type 0} {loaded : Loaded} {budget more : ℕ} {outcome : Outcome A}
    {Good : A → SourceState → State → Type 0}
    {activation : Activation} {c : Condition} {label : ℕ} {items : List Item} {from to : ℕ}
    {memory : List ℕ} {events : List Event} (r : Registers)
    → LiesWell activation
    → AgreesIn activation.around.program.placement.code activation.image memory
    → IsThere activation (WithWord (JumpWhere c) (AtLabel label) ∷ items) from to
    → holds c r.flags ≡ true
    → Does loaded budget more (at_place (activation.layout.place_of label) r memory events) outcome Good
    → Does loaded budget more (at_place from r memory events) outcome Good
jump_taken {loaded = loaded} {activation = activation} {c = c} {label = label} {items = items} {from = from}
    {to = to} {memory = memory} {events = events} r lies agrees there true_here rest =
    after_step
    (word_step loaded.program.script activation (JumpWhere c) (AtLabel label) items from to r memory events
    lies agrees there
    ∙ ap (λ b. if b then at_place (activation.layout.place_of label) r memory events else at_place (from + 3)
    r memory events) true_here)
    rest

-- a jump with a condition that does not hold
pub jump_passed :
    {A : Type 0} {loaded : Loaded} {budget more : ℕ} {outcome : Outcome A}
    {Good : A → SourceState → State → Type 0}
    {activation : Activation} {c : Condition} {label : ℕ} {items : List Item} {from to : ℕ}
    {memory : List ℕ} {events : List Event} (r : Registers)
    → LiesWell activation
    → AgreesIn activation.around.program.placement.code activation.image memory
    → IsThere activation (WithWord (JumpWhere c) (AtLabel label) ∷ items) from to
    → holds c r.flags ≡ false
    → Does loaded budget more (at_place (from + 3) r memory events) outcome Good
    → Does loaded budget more (at_place from r memory events) outcome Good
jump_passed {loaded = loaded} {activation = activation} {c = c} {label = label} {items = items} {from = from}
    {to = to} {memory = memory} {events = events} r lies agrees there false_here rest =
    after_step
    (word_step loaded.program.script activation (JumpWhere c) (AtLabel label) items from to r memory events
    lies agrees there
    ∙ ap (λ b. if b then at_place (activation.layout.place_of label) r memory events else at_place (from + 3)
    r memory events) false_here)
    rest
