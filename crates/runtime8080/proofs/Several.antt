-- Routines one after another in one code.
use Rattle.runtime8080.proofs.Prelude.{◌≡◌, ℕ, ◌≤◌, List, [], ◌∷◌, ◌++◌, ap, ◌∙◌, All, All-nil, All-cons, All-head, All-tail, AtLabel, AtTarget, AtNumber, Item, Plain, WithWord, Byte, Address, Gap, Mark, Assembly, ListsExternals, Routine, AddsRoutine, HasOwnLabels, IsRoutine}

-- an assembly with two routines added: each has labels of its own
pub record AddsBoth (first second : Routine) (before after : Assembly) : Type 0 where
  pub items : List Item
  pub others : List Item
  pub middle : ℕ
  pub added : after.items ≡ (before.items ++ items) ++ others
  pub from : before.labels ≤ middle
  pub to : middle ≤ after.labels
  pub first_own : All (HasOwnLabels before.labels middle) items
  pub second_own : All (HasOwnLabels middle after.labels) others
  pub first_is : IsRoutine first items
  pub second_is : IsRoutine second others

pub adds_both :
    (first second : Routine) (before between after : Assembly)
    → AddsRoutine first before between
    → AddsRoutine second between after
    → AddsBoth first second before after
adds_both first second before between after one two = record {
  items = one.items;
  others = two.items;
  middle = between.labels;
  added = two.added ∙ ap (λ (items : List Item). items ++ two.items) one.added;
  from = one.more;
  to = two.more;
  first_own = one.own;
  second_own = two.own;
  first_is = one.is_routine;
  second_is = two.is_routine;
}

-- a routine refers to no external name
own_label :
    (first past count : ℕ) (item : Item) → HasOwnLabels first past item → ListsExternals count item
own_label first past count (Plain instruction) own = tt
own_label first past count (WithWord form (AtLabel label)) own = tt
own_label first past count (WithWord form (AtTarget target offset)) own = absurd own
own_label first past count (WithWord form (AtNumber number)) own = tt
own_label first past count (Byte value) own = tt
own_label first past count (Address (AtLabel label)) own = tt
own_label first past count (Address (AtTarget target offset)) own = absurd own
own_label first past count (Address (AtNumber number)) own = tt
own_label first past count (Gap size) own = tt
own_label first past count (Mark label) own = tt

pub no_externals :
    (first past count : ℕ) (items : List Item)
    → All (HasOwnLabels first past) items
    → All (ListsExternals count) items
no_externals first past count [] own = All-nil (ListsExternals count)
no_externals first past count (item ∷ others) own =
    All-cons (ListsExternals count) item others
    (own_label first past count item (All-head (HasOwnLabels first past) item others own))
    (no_externals first past count others (All-tail (HasOwnLabels first past) item others own))
