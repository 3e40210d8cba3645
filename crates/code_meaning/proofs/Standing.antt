-- Items in the code as it was loaded are in each memory with that code.
use Rattle.code_meaning.proofs.Prelude.{◌≡◌, ℕ, ◌+◌, List, ◌∷◌, arith, Instr, Item, Plain, WithWord, Mark, Reference, WordForm, Stands, AgreesIn, size_of_instruction, stands_in, Activation, IsThere, LiesWell}

-- items are in a memory with the code
pub stands_now :
    (activation : Activation) (memory : List ℕ) (items : List Item) (from to : ℕ)
    → LiesWell activation
    → AgreesIn activation.around.program.placement.code activation.image memory
    → IsThere activation items from to
    → Stands activation.layout memory items from to
stands_now activation memory items from to lies agrees there =
    stands_in activation.layout activation.around.program.placement.code activation.image memory items from to
    lies.placed.code_in_memory there.low there.high agrees there.stands

-- the items after an instruction
pub after_plain :
    {activation : Activation} {i : Instr} {items : List Item} {from to : ℕ}
    → IsThere activation (Plain i ∷ items) from to
    → IsThere activation items (from + size_of_instruction i) to
after_plain {activation = activation} {i = i} {items = items} {from = from} {to = to} there =
    let low = there.low in
    record { stands = there.stands.1; low = omega (arith, low); high = there.high }

-- the items after an instruction with a word
pub after_word :
    {activation : Activation} {form : WordForm} {reference : Reference} {items : List Item} {from to : ℕ}
    → IsThere activation (WithWord form reference ∷ items) from to
    → IsThere activation items (from + 3) to
after_word {activation = activation} {form = form} {reference = reference} {items = items}
    {from = from} {to = to} there =
    let low = there.low in
    record { stands = there.stands.1; low = omega (arith, low); high = there.high }

-- the items after a label, and the place of the label
pub after_mark :
    {activation : Activation} {label : ℕ} {items : List Item} {from to : ℕ}
    → IsThere activation (Mark label ∷ items) from to
    → IsThere activation items from to
after_mark there = record { stands = there.stands.1; low = there.low; high = there.high }

pub mark_lies :
    {activation : Activation} {label : ℕ} {items : List Item} {from to : ℕ}
    → IsThere activation (Mark label ∷ items) from to
    → activation.layout.place_of label ≡ from
mark_lies there = there.stands.0
