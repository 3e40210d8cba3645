-- Each label of the code of a module has its place in it.
use Rattle.codegen8080.proofs.Prelude.{◌≡◌, ◌⊎◌, inl, inr, ℕ, ◌+◌, ◌<◌, ◌∙◌, Bool, true, false, List, [], ◌∷◌, ◌++◌, Option, Some, None, same_Some, none-some, refl, sym, ap, subst, arith, eq-eqb, option_map, Item, Reference, AtLabel, AtTarget, AtNumber, Routine, Content, TreeModule, Written, Writes, entry, in_front, numbered, numbered_item, has_routine, module_label_of_routine, AreRoutines, IsCodeOfRoutine, IsCodeWritten, all_routines, content_items, contents_items}
use Rattle.std.proofs.lemmas.Bool.{eqb-true, ltb-true}
use Rattle.asm8080.specs.Assembled.{AllBound}
use Rattle.asm8080.specs.Items.{is_bound, marks}
use Rattle.asm8080.specs.declared.item.Item.TheVariants as items
use Rattle.runtime8080.specs.declared.routine.Routine.TheVariants as routines
use Rattle.treecode.specs.declared.module.Content.TheVariants as contents
use Rattle.treecode.specs.declared.place.Place.{Place}
use Rattle.treecode.specs.declared.place.Place.TheVariants as places
use Rattle.steps8080.proofs.{Binding.{true_of}, Numbered.{either_true, not_both}}
use Rattle.steps8080.specs.internal.Writer.{address_items, is_to_label, name_label, names_label}
use Rattle.codegen8080.specs.internal.ItemLabels.{Binds, HasItsPlace, ItemGoes, ItemsBind, ItemsGo, LabelsHavePlaces, ReferenceGoes}
use Rattle.codegen8080.proofs.{BoundModules.{contents_unbound}, RoutinesStand.{IsOneOf}}

-- items after others
pub items_both :
    (ok : ℕ → Type 0) (first others : List Item) → ItemsGo ok first → ItemsGo ok others
    → ItemsGo ok (first ++ others)
items_both ok [] others one two = two
items_both ok (item ∷ first) others one two = (one.0, items_both ok first others one.1 two)

-- labels that items bind
pub bound_first : (label : ℕ) (first others : List Item) → ItemsBind label first
    → ItemsBind label (first ++ others)
bound_first label [] others is = absurd is
bound_first label (item ∷ first) others is = elim is [
  | inl here ↦ inl here
  | inr later ↦ inr (bound_first label first others later)
]

pub bound_after : (label : ℕ) (first others : List Item) → ItemsBind label others
    → ItemsBind label (first ++ others)
bound_after label [] others is = is
bound_after label (item ∷ first) others is = inr (bound_after label first others is)

-- a constant refers to no label
address_goes : (ok : ℕ → Type 0) (place : Place) → ItemsGo ok (address_items place)
address_goes ok (places.Number number) = (tt, (tt, tt))
address_goes ok other = (tt, tt)

content_goes : (ok : ℕ → Type 0) (content : Content) → ItemsGo ok (content_items content)
content_goes ok (contents.Byte value) = (tt, tt)
content_goes ok (contents.Word place) = address_goes ok place
content_goes ok (contents.Gap count) = (tt, tt)

pub contents_go : (ok : ℕ → Type 0) (list : List Content) → ItemsGo ok (contents_items list)
contents_go ok [] = tt
contents_go ok (content ∷ others) =
    items_both ok (content_items content) (contents_items others) (content_goes ok content)
    (contents_go ok others)

-- a label that items bind, as a test says it
pub binds_bound : (label : ℕ) (list : List Item) → ItemsBind label list → is_bound label list ≡ true
binds_bound label [] is = absurd is
binds_bound label (item ∷ others) is = either_true (marks label item) (is_bound label others) (elim is [
  | inl here ↦ inl (one item here)
  | inr later ↦ inr (binds_bound label others later)
])
  where
    one : (item : Item) → Binds label item → marks label item ≡ true
    one (items.Mark other) same = eq-eqb label other same
    one item none = absurd none

pub bound_binds : (label : ℕ) (list : List Item) → is_bound label list ≡ true → ItemsBind label list
bound_binds label [] found = absurd (not_both false found refl)
bound_binds label (item ∷ others) found =
    elim (true_of (marks label item) (is_bound label others) found) [
      | inl here ↦ inl (one item here)
      | inr later ↦ inr (bound_binds label others later)
    ]
  where
    one : (item : Item) → marks label item ≡ true → Binds label item
    one (items.Mark other) same = eqb-true label other same
    one (items.Plain instruction) never = absurd (not_both false never refl)
    one (items.WithWord form reference) never = absurd (not_both false never refl)
    one (items.Byte value) never = absurd (not_both false never refl)
    one (items.Address reference) never = absurd (not_both false never refl)
    one (items.Gap count) never = absurd (not_both false never refl)

-- a label that items name is bound by them, or is one that they refer to
module _ (ok : ℕ → Type 0) (number : ℕ) where
  named_reference : (reference : Reference) → ReferenceGoes ok reference → is_to_label number reference ≡ true
      → ok number
  named_reference (AtLabel other) go is = subst ok (sym (eqb-true number other is)) go
  named_reference (AtTarget target offset) go is = absurd (not_both false is refl)
  named_reference (AtNumber value) go is = absurd (not_both false is refl)

  named_item : (item : Item) → ItemGoes ok item → names_label number item ≡ true
      → ok number ⊎ Binds number item
  named_item (items.WithWord form reference) go is = inl (named_reference reference go is)
  named_item (items.Address reference) go is = inl (named_reference reference go is)
  named_item (items.Mark other) go is = inr (eqb-true number other is)
  named_item (items.Plain instruction) go is = absurd (not_both false is refl)
  named_item (items.Byte value) go is = absurd (not_both false is refl)
  named_item (items.Gap count) go is = absurd (not_both false is refl)

  named_goes : (list : List Item) → ItemsGo ok list → name_label number list ≡ true
      → ok number ⊎ ItemsBind number list
  named_goes [] go named = absurd (not_both false named refl)
  named_goes (item ∷ others) go named =
      elim (true_of (names_label number item) (name_label number others) named) [
        | inl here ↦ elim (named_item item go.0 here) [ inl goes ↦ inl goes | inr binds ↦ inr (inl binds) ]
        | inr later ↦ elim (named_goes others go.1 later) [ inl goes ↦ inl goes | inr binds ↦ inr (inr binds) ]
      ]

-- items of a module that bind a label bind the code's number of it
module _ (written : Written) (number label : ℕ) (known : entry written.labels number ≡ Some label) where
  mark_binds : (item given : Item) → Binds number item → numbered_item written item ≡ Some given
      → Binds label given
  mark_binds (items.Mark other) given same is =
      let there : Some (items.Mark label) ≡ Some given =
      ap (option_map items.Mark) (sym known)
      ∙ ap (λ (n : ℕ). option_map items.Mark (entry written.labels n)) same
      ∙ is in
      subst (Binds label) (same_Some (items.Mark label) given there) refl
  mark_binds item given none is = absurd none

  front_binds :
      (item : Item) (others made : List Item) (one : Option Item) (rest : Option (List Item))
      → ((given : Item) → one ≡ Some given → Binds number item → Binds label given)
      → ((given : List Item) → rest ≡ Some given → ItemsBind number others → ItemsBind label given)
      → ItemsBind number (item ∷ others)
      → in_front one rest ≡ Some made
      → ItemsBind label made
  front_binds item others made (Some first) (Some more) here later is made_is =
      subst (ItemsBind label) (same_Some (first ∷ more) made made_is) (elim is [
        | inl one ↦ inl (here first refl one)
        | inr rest ↦ inr (later more refl rest)
      ])
  front_binds item others made (Some first) None here later is made_is = absurd (none-some made made_is)
  front_binds item others made None rest here later is made_is = absurd (none-some made made_is)

  made_binds : (list made : List Item) → numbered written list ≡ Some made → ItemsBind number list
      → ItemsBind label made
  made_binds [] made made_is is = absurd is
  made_binds (item ∷ others) made made_is is =
      front_binds item others made (numbered_item written item) (numbered written others)
      (λ given one binds. mark_binds item given binds one)
      (λ given rest binds. made_binds others given rest binds)
      is made_is

-- the label of a routine that is called is bound by the routine
module _ (tree : TreeModule) (called : List Bool) (written : Written) (routine : Routine) (label : ℕ)
    (set : has_routine called routine ≡ true)
    (known : entry written.labels (module_label_of_routine tree routine).index ≡ Some label)
  where
    routine_binds : (is_called : Bool) (list : List Item)
        → is_called ≡ true
        → IsCodeOfRoutine tree written routine is_called list
        → ItemsBind label list
    routine_binds true list same is =
        let one : label ≡ is.label = same_Some label is.label (sym known ∙ is.known) in
        subst (ItemsBind label) (sym is.list_is) (inl one)
    routine_binds false list same is = absurd (not_both false same refl)

    routines_bind : (routines : List Routine) (list : List Item)
        → AreRoutines tree called written routines list
        → IsOneOf routine routines
        → ItemsBind label list
    routines_bind [] list are one = absurd one
    routines_bind (first ∷ others) list are (inl same) =
        subst (ItemsBind label) (sym are.4) (bound_first label are.0 are.1
        (routine_binds (has_routine called routine) are.0 set
        (subst (λ (one : Routine). IsCodeOfRoutine tree written one (has_routine called one) are.0) (sym same)
        are.2)))
    routines_bind (first ∷ others) list are (inr later) =
        subst (ItemsBind label) (sym are.4) (bound_after label are.0 are.1 (routines_bind others are.1 are.3 later))

pub is_a_routine : (routine : Routine) → IsOneOf routine all_routines
is_a_routine routines.Multiply = inl refl
is_a_routine routines.Divide = inr (inl refl)
is_a_routine routines.ShiftLeftByte = inr (inr (inl refl))
is_a_routine routines.ShiftRightByte = inr (inr (inr (inl refl)))
is_a_routine routines.ShiftLeftAddress = inr (inr (inr (inr (inl refl))))
is_a_routine routines.ShiftRightAddress = inr (inr (inr (inr (inr (inl refl)))))
is_a_routine routines.RotateLeft = inr (inr (inr (inr (inr (inr (inl refl))))))
is_a_routine routines.RotateRight = inr (inr (inr (inr (inr (inr (inr (inl refl)))))))
is_a_routine routines.Move = inr (inr (inr (inr (inr (inr (inr (inr (inl refl))))))))

-- each label of the code of a module is bound, if those that its own code refers to have their places
pub all_bound :
    (tree : TreeModule) (start : ℕ) (written : Written) (is : IsCodeWritten tree start written)
    → LabelsHavePlaces tree is.called is.own
    → ((label : ℕ) → label < written.code.labels
    → ((number : ℕ) × (entry written.labels number ≡ Some label) × (name_label number is.own ≡ true))
    ⊎ ItemsBind label is.listed)
    → AllBound written.code
all_bound tree start written is placed counted = λ label below.
    binds_bound label written.code.items
    (subst (ItemsBind label) (sym is.items_are)
    (elim (counted label (ltb-true label written.code.labels below)) [
      | inl named ↦
          by label named.0 named.1
          (named_goes (HasItsPlace tree is.called is.own) named.0 is.own placed named.2)
      | inr listed ↦ bound_after label is.made is.listed listed
    ]))
  where
    own_binds : (label number : ℕ)
        → entry written.labels number ≡ Some label
        → ItemsBind number is.own
        → ItemsBind label (is.made ++ is.listed)
    own_binds label number known binds =
        bound_first label is.made is.listed (made_binds written number label known is.own is.made is.same binds)

    by : (label number : ℕ)
        → entry written.labels number ≡ Some label
        → HasItsPlace tree is.called is.own number ⊎ ItemsBind number is.own
        → ItemsBind label (is.made ++ is.listed)
    by label number known (inr binds) = own_binds label number known binds
    by label number known (inl (inl binds)) = own_binds label number known binds
    by label number known (inl (inr has)) =
        bound_after label is.made is.listed
        (routines_bind tree is.called written has.0 label has.1
        (ap (entry written.labels) has.2 ∙ known) all_routines is.listed is.listed_are (is_a_routine has.0))

-- data have no labels
pub data_bound :
    (before after : Written) (list : List Content)
    → before.code.labels ≡ 0
    → Writes before after (contents_items list)
    → AllBound after.code
data_bound before after list none writes = λ label below.
    elim (writes.counted label (ltb-true label after.code.labels below)) [
      | inl old ↦ absurd (omega (arith, old, none))
      | inr named ↦ elim
          (named_goes (λ (number : ℕ). ⊥) named.0 (contents_items list) (contents_go (λ (number : ℕ). ⊥) list) named.2) [
            | inl never ↦ absurd never
            | inr binds ↦
                let low = (contents_unbound list).bound named.0 (binds_bound named.0 (contents_items list) binds) in
                absurd (omega (arith, low.1))
          ]
    ]
