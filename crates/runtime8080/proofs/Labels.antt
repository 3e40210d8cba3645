-- The labels of a routine: items that may be added, by the labels that they bind.
use Rattle.runtime8080.proofs.Prelude.{◌≡◌, ◌≢◌, ℕ, ◌≤◌, ◌==◌, Bool, true, false, not, List, [], ◌∷◌, ◌++◌, All, IsTrue, refl, sym, subst, ◌∙◌, eqb-true, eq-eqb, All-nil, All-cons, Item, Plain, WithWord, Byte, Address, Gap, Mark, BindsNew, KnowsLabels, is_bound, marks, bound_more, not_equal, HasOwnLabels, FitItems, item_of, or_from, or_parts}
use Rattle.runtime8080.specs.declared.parts.Part.{Part}
use Rattle.runtime8080.specs.declared.parts.Part.TheVariants.{Here}

-- the labels that items bind, in their order
abbrev pub bound_by : List Item → List ℕ
bound_by [] = []
bound_by (Mark label ∷ others) = label ∷ bound_by others
bound_by (item ∷ others) = bound_by others

abbrev pub Differs : ℕ → List ℕ → Type 0
Differs label [] = Unit {0}
Differs label (other ∷ others) = (label ≢ other) × Differs label others

abbrev pub AllDiffer : List ℕ → Type 0
AllDiffer [] = Unit {0}
AllDiffer (label ∷ others) = Differs label others × AllDiffer others

abbrev pub AllFrom : ℕ → List ℕ → Type 0
AllFrom first [] = Unit {0}
AllFrom first (label ∷ others) = (first ≤ label) × AllFrom first others

abbrev pub AllKnown : ℕ → List Item → Type 0
AllKnown labels [] = Unit {0}
AllKnown labels (item ∷ others) = KnowsLabels labels item × AllKnown labels others

abbrev pub AllOwn : (first past : ℕ) → List Item → Type 0
AllOwn first past [] = Unit {0}
AllOwn first past (item ∷ others) = HasOwnLabels first past item × AllOwn first past others

pub all_own : (first past : ℕ) (items : List Item) → AllOwn first past items
    → All (HasOwnLabels first past) items
all_own first past [] own = All-nil (HasOwnLabels first past)
all_own first past (item ∷ others) own =
    All-cons (HasOwnLabels first past) item others own.0 (all_own first past others own.1)

abbrev pub NoneBound : List Item → List ℕ → Type 0
NoneBound items [] = Unit {0}
NoneBound items (label ∷ others) = (is_bound label items ≡ false) × NoneBound items others

pub none_bound :
    (items : List Item) (first : ℕ) (labels : List ℕ)
    → ((label : ℕ) → first ≤ label → is_bound label items ≡ false)
    → AllFrom first labels
    → NoneBound items labels
none_bound items first [] fresh from = tt
none_bound items first (label ∷ others) fresh from =
    (fresh label from.0, none_bound items first others fresh from.1)

still_none :
    (items : List Item) (item : Item) (labels : List ℕ)
    → ((label : ℕ) → marks label item ≡ false)
    → NoneBound items labels
    → NoneBound (items ++ item ∷ []) labels
still_none items item [] unmarked none = tt
still_none items item (label ∷ others) unmarked none =
    (bound_more label items item none.0 (unmarked label), still_none items item others unmarked none.1)

none_after_mark :
    (items : List Item) (mark : ℕ) (labels : List ℕ)
    → Differs mark labels
    → NoneBound items labels
    → NoneBound (items ++ Mark mark ∷ []) labels
none_after_mark items mark [] differs none = tt
none_after_mark items mark (label ∷ others) differs none = (
  bound_more label items (Mark mark) none.0 (not_equal label mark (λ e. differs.0 (sym e))),
  none_after_mark items mark others differs.1 none.1,
)

no_mark : (label : ℕ) (items : List Item) → false ≡ true → is_bound label items ≡ false
no_mark label items h = let bad : false ≡ true = h in cc

-- items may be added where they know their labels, which differ and are not bound before
pub fit_items :
    (labels : ℕ) (items more : List Item)
    → AllKnown labels more
    → AllDiffer (bound_by more)
    → NoneBound items (bound_by more)
    → FitItems labels items more
fit_items labels items [] known differ none = tt
fit_items labels items (Mark label ∷ others) known differ none = (
  known.0,
  (λ other m. subst (λ n. is_bound n items ≡ false) (sym (eqb-true other label m)) none.0),
  fit_items labels (items ++ Mark label ∷ []) others known.1 differ.1
      (none_after_mark items label (bound_by others) differ.0 none.1),
)
fit_items labels items (Plain i ∷ others) known differ none = (
  known.0,
  (λ label m. no_mark label items m),
  fit_items labels (items ++ Plain i ∷ []) others known.1 differ
      (still_none items (Plain i) (bound_by others) (λ label. refl) none),
)
fit_items labels items (WithWord form reference ∷ others) known differ none = (
  known.0,
  (λ label m. no_mark label items m),
  fit_items labels (items ++ WithWord form reference ∷ []) others known.1 differ
      (still_none items (WithWord form reference) (bound_by others) (λ label. refl) none),
)
fit_items labels items (Byte value ∷ others) known differ none = (
  known.0,
  (λ label m. no_mark label items m),
  fit_items labels (items ++ Byte value ∷ []) others known.1 differ
      (still_none items (Byte value) (bound_by others) (λ label. refl) none),
)
fit_items labels items (Address reference ∷ others) known differ none = (
  known.0,
  (λ label m. no_mark label items m),
  fit_items labels (items ++ Address reference ∷ []) others known.1 differ
      (still_none items (Address reference) (bound_by others) (λ label. refl) none),
)
fit_items labels items (Gap count ∷ others) known differ none = (
  known.0,
  (λ label m. no_mark label items m),
  fit_items labels (items ++ Gap count ∷ []) others known.1 differ
      (still_none items (Gap count) (bound_by others) (λ label. refl) none),
)

-- a label that differs from those that are bound is not bound
pub not_bound :
    (label : ℕ) (items : List Item) → Differs label (bound_by items) → is_bound label items ≡ false
not_bound label [] h = refl
not_bound label (Mark other ∷ others) h =
    or_from (label == other) (is_bound label others) (not_equal label other h.0) (not_bound label others h.1)
not_bound label (Plain i ∷ others) h = not_bound label others h
not_bound label (WithWord form reference ∷ others) h = not_bound label others h
not_bound label (Byte value ∷ others) h = not_bound label others h
not_bound label (Address reference ∷ others) h = not_bound label others h
not_bound label (Gap count ∷ others) h = not_bound label others h

pub differs_by : (label other : ℕ) → (label == other) ≡ false → label ≢ other
differs_by label other h e = let bad : true ≡ false = sym (eq-eqb label other e) ∙ h in cc

-- and the other way round
pub unbound_differs :
    (label : ℕ) (items : List Item) → is_bound label items ≡ false → Differs label (bound_by items)
unbound_differs label [] h = tt
unbound_differs label (Mark other ∷ others) h = (
  differs_by label other (or_parts (label == other) (is_bound label others) h).0,
  unbound_differs label others (or_parts (label == other) (is_bound label others) h).1,
)
unbound_differs label (Plain i ∷ others) h = unbound_differs label others h
unbound_differs label (WithWord form reference ∷ others) h = unbound_differs label others h
unbound_differs label (Byte value ∷ others) h = unbound_differs label others h
unbound_differs label (Address reference ∷ others) h = unbound_differs label others h
unbound_differs label (Gap count ∷ others) h = unbound_differs label others h

pub true_unless : (b : Bool) → (b ≡ false → ⊥) → IsTrue b
true_unless true h = refl
true_unless false h = absurd (h refl)

pub not_true : (b : Bool) → b ≡ false → IsTrue (not b)
not_true false h = refl
not_true true h = let bad : true ≡ false = h in cc

-- a part that is the place of a label binds it first
pub mark_is_new :
    (part : Part) (label : ℕ) (items : List Item)
    → BindsNew (item_of part) items
    → part ≡ Here label
    → is_bound label items ≡ false
mark_is_new part label items new is =
    let h : BindsNew (Mark label) items = subst (λ (p : Part). BindsNew (item_of p) items) is new in
    h label (eq-eqb label label refl)
