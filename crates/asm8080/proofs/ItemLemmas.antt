-- What one item more at the end does.
use Rattle.asm8080.proofs.Prelude.{◌≡◌, ℕ, ◌<◌, ◌≤◌, ◌==◌, Bool, true, false, ◌||◌, List, [], ◌∷◌, ◌++◌, All, refl, sym, subst, ap, ◌∙◌, arith, All-head, All-tail, All-push, eqb-true, ne_eqb, Item, Plain, WithWord, Byte, Address, Gap, Mark, Assembly, BindsNew, BindsSame, BindsSameBut, BoundOnce, IsAssembly, KnowsLabels, is_bound, marks, or_from, or_parts}

-- a label that one item binds, and another would bind only where that one didn't
other_false : (here new others : Bool) → here ≡ true → (new ≡ true → (here || others) ≡ false) → new ≡ false
other_false here false others h n = refl
other_false true true others h n = n refl
other_false false true others h n = let bad : false ≡ true = h in cc

pub bound_more :
    (label : ℕ) (items : List Item) (item : Item)
    → is_bound label items ≡ false
    → marks label item ≡ false
    → is_bound label (items ++ item ∷ []) ≡ false
bound_more label [] item b m = or_from (marks label item) false m refl
bound_more label (first ∷ others) item b m =
    or_from (marks label first) (is_bound label (others ++ item ∷ []))
    (or_parts (marks label first) (is_bound label others) b).0
    (bound_more label others item (or_parts (marks label first) (is_bound label others) b).1 m)

pub once_more :
    (items : List Item) (item : Item)
    → BoundOnce items
    → BindsNew item items
    → BoundOnce (items ++ item ∷ [])
once_more [] item once new = ((λ label m. refl), tt)
once_more (first ∷ others) item once new = (
  (λ label m.
      bound_more label others item (once.0 label m)
      (other_false (marks label first) (marks label item) (is_bound label others) m (new label))),
  once_more others item once.1
      (λ label m. (or_parts (marks label first) (is_bound label others) (new label m)).1),
)

-- an assembly with one item more
pub assembly_more :
    (items after : List Item) (labels : ℕ) (item : Item)
    → IsAssembly (record { items = items; labels = labels })
    → KnowsLabels labels item
    → BindsNew item items
    → after ≡ items ++ item ∷ []
    → IsAssembly (record { items = after; labels = labels })
assembly_more items after labels item is knows new same =
    subst (λ (list : List Item). IsAssembly (record { items = list; labels = labels })) (sym same)
    (record {
      known = All-push (KnowsLabels labels) items item is.known knows;
      once = once_more items item is.once new;
    })

-- with an item more that binds no label
pub other_more :
    (items after : List Item) (labels : ℕ) (item : Item)
    → IsAssembly (record { items = items; labels = labels })
    → KnowsLabels labels item
    → ((label : ℕ) → marks label item ≡ false)
    → after ≡ items ++ item ∷ []
    → IsAssembly (record { items = after; labels = labels })
other_more items after labels item is knows unmarked same =
    assembly_more items after labels item is knows
    (λ label m. let bad : true ≡ false = sym m ∙ unmarked label in cc) same

-- with a label more that is bound
pub mark_more :
    (items after : List Item) (labels label : ℕ)
    → IsAssembly (record { items = items; labels = labels })
    → label < labels
    → is_bound label items ≡ false
    → after ≡ items ++ Mark label ∷ []
    → IsAssembly (record { items = after; labels = labels })
mark_more items after labels label is known unbound same =
    assembly_more items after labels (Mark label) is known
    (λ other m. subst (λ n. is_bound n items ≡ false) (sym (eqb-true other label m)) unbound) same

-- no label is bound that there isn't yet
pub unbound_from :
    (assembly : Assembly) (label : ℕ)
    → IsAssembly assembly
    → assembly.labels ≤ label
    → is_bound label assembly.items ≡ false
unbound_from assembly label is from = none_of assembly.items is.known
  where
    unmarked : (item : Item) → KnowsLabels assembly.labels item → marks label item ≡ false
    unmarked (Plain instruction) known = refl
    unmarked (WithWord form reference) known = refl
    unmarked (Byte value) known = refl
    unmarked (Address reference) known = refl
    unmarked (Gap count) known = refl
    unmarked (Mark other) known =
        let within : other < assembly.labels = known in
        ne_eqb label other (λ e. absurd (omega (arith, e, within, from)))

    none_of : (items : List Item) → All (KnowsLabels assembly.labels) items → is_bound label items ≡ false
    none_of [] known = refl
    none_of (item ∷ others) known =
        or_from (marks label item) (is_bound label others)
        (unmarked item (All-head (KnowsLabels assembly.labels) item others known))
        (none_of others (All-tail (KnowsLabels assembly.labels) item others known))

-- the next label, where a view is of these fields
pub label_unbound :
    (now inside : Assembly)
    → inside ≡ now
    → IsAssembly inside
    → is_bound inside.labels now.items ≡ false
label_unbound now inside same is =
    subst (λ (view : Assembly). is_bound inside.labels view.items ≡ false) same
    (unbound_from inside inside.labels is (omega arith))

-- what is said of a view is so of the fields that it is of
pub of_fields :
    (now inside : Assembly) (P : Assembly → Type 0)
    → now ≡ inside
    → P now
    → P inside
of_fields now inside P same h = subst P same h

pub of_fields_back :
    (now inside : Assembly) (P : Assembly → Type 0)
    → inside ≡ now
    → P now
    → P inside
of_fields_back now inside P same h = subst P (sym same) h

-- an item more binds no label but those that it marks
is_bound_more :
    (label : ℕ) (items : List Item) (item : Item)
    → marks label item ≡ false
    → is_bound label (items ++ item ∷ []) ≡ is_bound label items
is_bound_more label [] item m = ap (λ here. here || false) m
is_bound_more label (first ∷ others) item m =
    ap (λ later. marks label first || later) (is_bound_more label others item m)

pub bound_kept :
    (now inside : Assembly) (item : Item) (after : List Item)
    → inside ≡ now
    → ((label : ℕ) → marks label item ≡ false)
    → after ≡ inside.items ++ item ∷ []
    → BindsSame now.items after
bound_kept now inside item after same unmarked added label =
    ap (is_bound label) added
    ∙ is_bound_more label inside.items item (unmarked label)
    ∙ ap (λ (view : Assembly). is_bound label view.items) same

pub others_kept :
    (now inside : Assembly) (label shown : ℕ) (after : List Item)
    → inside ≡ now
    → label ≡ shown
    → after ≡ inside.items ++ Mark label ∷ []
    → BindsSameBut shown now.items after
others_kept now inside label shown after same seen added other apart =
    ap (is_bound other) added
    ∙ is_bound_more other inside.items (Mark label) (ap (λ n. other == n) seen ∙ apart)
    ∙ ap (λ (view : Assembly). is_bound other view.items) same
