-- Code in parts: what stands of one after another, where a label is and where a jump goes.
use Rattle.asm8080.proofs.Prelude.{◌≡◌, ℕ, ◌+◌, ◌||◌, List, [], ◌∷◌, ◌++◌, refl, sym, subst, ap, ◌∙◌, arith, wrap, Item, Plain, WithWord, Byte, Address, Gap, Mark, AtLabel, WordForm, InstructionStands, Layout, Stands, instruction_with, is_bound, marks, size_of, size_of_items, or_assoc}

pub size_in_parts :
    (items others : List Item) → size_of_items (items ++ others) ≡ size_of_items items + size_of_items others
size_in_parts [] others = omega arith
size_in_parts (item ∷ rest) others = omega (arith, size_in_parts rest others)

pub bound_in_parts :
    (label : ℕ) (items others : List Item)
    → is_bound label (items ++ others) ≡ (is_bound label items || is_bound label others)
bound_in_parts label [] others = refl
bound_in_parts label (item ∷ rest) others =
    ap (λ later. marks label item || later) (bound_in_parts label rest others)
    ∙ sym (or_assoc (marks label item) (is_bound label rest) (is_bound label others))

-- two parts, the second from where the first ends
pub record StandsInParts (layout : Layout) (memory : List ℕ) (items others : List Item)
    (from to : ℕ) : Type 0 where
  pub first : Stands layout memory items from (from + size_of_items items)
  pub second : Stands layout memory others (from + size_of_items items) to

with_first :
    (layout : Layout) (memory : List ℕ) (item : Item) (rest others : List Item) (from to : ℕ)
    → ((end : ℕ) → Stands layout memory rest (from + size_of item) end
    → Stands layout memory (item ∷ rest) from end)
    → StandsInParts layout memory rest others (from + size_of item) to
    → StandsInParts layout memory (item ∷ rest) others from to
with_first layout memory item rest others from to more parts =
    let same : from + size_of item + size_of_items rest ≡ from + size_of_items (item ∷ rest) = omega arith in
    record {
      first = subst (λ n. Stands layout memory (item ∷ rest) from n) same (more _ parts.first);
      second = subst (λ n. Stands layout memory others n to) same parts.second;
    }

pub stands_in_parts :
    (layout : Layout) (memory : List ℕ) (items others : List Item) (from to : ℕ)
    → Stands layout memory (items ++ others) from to
    → StandsInParts layout memory items others from to
stands_in_parts layout memory [] others from to h =
    let same : from ≡ from + 0 = omega arith in
    record { first = same; second = subst (λ n. Stands layout memory others n to) same h }
stands_in_parts layout memory (Plain instruction ∷ rest) others from to h =
    with_first layout memory (Plain instruction) rest others from to (λ end later. (h.0, later))
    (stands_in_parts layout memory rest others (from + size_of (Plain instruction)) to h.1)
stands_in_parts layout memory (WithWord form reference ∷ rest) others from to h =
    with_first layout memory (WithWord form reference) rest others from to (λ end later. (h.0, later))
    (stands_in_parts layout memory rest others (from + 3) to h.1)
stands_in_parts layout memory (Byte value ∷ rest) others from to h =
    with_first layout memory (Byte value) rest others from to (λ end later. (h.0, later))
    (stands_in_parts layout memory rest others (from + 1) to h.1)
stands_in_parts layout memory (Address reference ∷ rest) others from to h =
    with_first layout memory (Address reference) rest others from to (λ end later. (h.0, later))
    (stands_in_parts layout memory rest others (from + 2) to h.1)
stands_in_parts layout memory (Gap count ∷ rest) others from to h =
    with_first layout memory (Gap count) rest others from to (λ end later. later)
    (stands_in_parts layout memory rest others (from + count) to h)
stands_in_parts layout memory (Mark label ∷ rest) others from to h =
    let same : from ≡ from + 0 = omega arith in
    with_first layout memory (Mark label) rest others from to
    (λ end later. (h.0, subst (λ n. Stands layout memory rest n end) (sym same) later))
    (subst (λ n. StandsInParts layout memory rest others n to) same
    (stands_in_parts layout memory rest others from to h.1))

pub parts_stand :
    (layout : Layout) (memory : List ℕ) (items others : List Item) (from middle to : ℕ)
    → Stands layout memory items from middle
    → Stands layout memory others middle to
    → Stands layout memory (items ++ others) from to
parts_stand layout memory [] others from middle to first second =
    subst (λ n. Stands layout memory others n to) (sym first) second
parts_stand layout memory (Plain instruction ∷ rest) others from middle to first second =
    (first.0, parts_stand layout memory rest others (from + size_of (Plain instruction)) middle to first.1 second)
parts_stand layout memory (WithWord form reference ∷ rest) others from middle to first second =
    (first.0, parts_stand layout memory rest others (from + 3) middle to first.1 second)
parts_stand layout memory (Byte value ∷ rest) others from middle to first second =
    (first.0, parts_stand layout memory rest others (from + 1) middle to first.1 second)
parts_stand layout memory (Address reference ∷ rest) others from middle to first second =
    (first.0, parts_stand layout memory rest others (from + 2) middle to first.1 second)
parts_stand layout memory (Gap count ∷ rest) others from middle to first second =
    parts_stand layout memory rest others (from + count) middle to first second
parts_stand layout memory (Mark label ∷ rest) others from middle to first second =
    (first.0, parts_stand layout memory rest others from middle to first.1 second)

-- a label is where the items before it end
pub label_is :
    (layout : Layout) (memory : List ℕ) (items others : List Item) (label from to : ℕ)
    → Stands layout memory (items ++ Mark label ∷ others) from to
    → layout.place_of label ≡ from + size_of_items items
label_is layout memory items others label from to h =
    (stands_in_parts layout memory items (Mark label ∷ others) from to h).second.0

-- the word of a jump is the place of its label
pub jump_goes :
    (layout : Layout) (memory : List ℕ) (items others : List Item) (form : WordForm) (label from to : ℕ)
    → Stands layout memory (items ++ WithWord form (AtLabel label) ∷ others) from to
    → InstructionStands memory (from + size_of_items items)
    (instruction_with form (wrap (layout.place_of label)))
jump_goes layout memory items others form label from to h =
    (stands_in_parts layout memory items (WithWord form (AtLabel label) ∷ others) from to h).second.0
