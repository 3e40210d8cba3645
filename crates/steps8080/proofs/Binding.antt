-- Labels that items bind, one after another.
use Rattle.steps8080.proofs.Prelude.{◌≡◌, ◌||◌, ◌⊎◌, inl, inr, ℕ, Bool, true, false, List, [], ◌∷◌, ◌++◌, refl, sym, ◌∙◌, list_any-append, Item, BoundOnce, is_bound, marks, use_name, uses_name}
use Rattle.steps8080.specs.internal.Writer.{AreNamed}
use Rattle.steps8080.proofs.Numbered.{either_true, false_by, not_both}

pub true_of : (one other : Bool) → (one || other) ≡ true → (one ≡ true) ⊎ (other ≡ true)
true_of true other found = inl refl
true_of false other found = inr found

-- of two lists of items, the first binds a label, or the second does
pub bound_in : (label : ℕ) (items later : List Item)
    → is_bound label (items ++ later) ≡ true
    → (is_bound label items ≡ true) ⊎ (is_bound label later ≡ true)
bound_in label items later found =
    true_of (is_bound label items) (is_bound label later)
    (sym (list_any-append (marks label) items later) ∙ found)

-- items refer to names below a number, if both halves of them do
pub named_both : (count : ℕ) (items later : List Item)
    → AreNamed count items
    → AreNamed count later
    → AreNamed count (items ++ later)
named_both count items later one other = record {
  below = λ name used.
      elim (true_of (use_name name items) (use_name name later)
      (sym (list_any-append (uses_name name) items later) ∙ used)) [
        | inl here ↦ one.below name here
        | inr there ↦ other.below name there
      ];
}

-- items that bind no common label
pub once_both : (items later : List Item)
    → BoundOnce items
    → BoundOnce later
    → ((label : ℕ) → is_bound label items ≡ true → is_bound label later ≡ true → ⊥)
    → BoundOnce (items ++ later)
once_both [] later one other apart = other
once_both (item ∷ items) later one other apart = (
  λ label binds. false_by (is_bound label (items ++ later)) (λ bound.
      elim (bound_in label items later bound) [
        | inl here ↦ not_both (is_bound label items) here (one.0 label binds)
        | inr there ↦ apart label (either_true (marks label item) (is_bound label items) (inl binds)) there
      ]),
  once_both items later one.1 other (λ label here there.
      apart label (either_true (marks label item) (is_bound label items) (inr here)) there),
)
