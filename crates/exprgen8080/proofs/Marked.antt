-- The labels that the code of steps binds: those that the steps mark, and those that their parts take.
use Rattle.exprgen8080.proofs.Prelude.{◌≡◌, ◌==◌, ◌||◌, ◌⊎◌, inl, inr, ℕ, zero, suc, ◌+◌, ◌<◌, ◌≤◌, Bool, true, false, if◌then◌else◌, List, [], ◌∷◌, ◌++◌, Option, Some, None, slice_get, refl, sym, ap, subst, ◌∙◌, arith, IsIn, Differ, labels_from, marks_of, Item, Facts, LabelNumber, Part, Step, Site, AreWritten, IsWritten, NoneWritten, PlainWritten, WordWritten, JumpWritten, MarkWritten, RoutineWritten, CallWritten, TestWritten, HoldsWritten, ChangeWritten, PartWritten, Planned, AreLabelled, IsLabelled, call_items, knowing, test_items, task_labels, task_steps, NumbersRise, nodes_of}
use Rattle.std.proofs.lemmas.Bool.{eqb-true}
use Rattle.asm8080.specs.Items.{BoundOnce, is_bound, marks}
use Rattle.asm8080.specs.declared.item.Item.TheVariants as items
use Rattle.treecode.specs.declared.procedure.ProcedureKind.{ProcedureKind}
use Rattle.treecode.specs.declared.procedure.ProcedureKind.TheVariants as kinds
use Rattle.treecode.specs.declared.procedure.TreeProcedure.{TreeProcedure}
use Rattle.steps8080.proofs.{Binding.{bound_in, once_both, true_of}, Numbered.{false_by, not_both}}
use Rattle.steps8080.specs.declared.step.Step.TheVariants as steps
use Rattle.exprgen8080.specs.internal.Emission.{items_of_call, test_of_a}
use Rattle.exprgen8080.proofs.Ranks.Tasks.{part_marks}

-- consecutive labels differ
pub in_labels : (label first count : ℕ) → IsIn label (labels_from first count)
    → (first ≤ label) × (label < first + count)
in_labels label first zero is = absurd is
in_labels label first (suc count) (inl same) = (omega (arith, same), omega (arith, same))
in_labels label first (suc count) (inr is) =
    let rest = in_labels label (suc first) count is in (omega (arith, rest.0), omega (arith, rest.1))

pub labels_differ : (first count : ℕ) → Differ (labels_from first count)
labels_differ first zero = tt
labels_differ first (suc count) = (
  λ is. let low = in_labels first (suc first) count is in omega (arith, low.0),
  labels_differ (suc first) count,
)

-- labels are taken in their order
mutual
  pub steps_rise :
      {site : Site} {called : List Bool} {facts last : Facts} {planned : List Step} {list : List Item}
      (label next : ℕ) (written : AreWritten site called facts planned list last)
      → AreLabelled written label next → next < 4294967295 → label ≤ next
  steps_rise label next NoneWritten labels few = omega (arith, labels)
  steps_rise label next (PlainWritten others) labels few = steps_rise label next others labels few
  steps_rise label next (WordWritten others) labels few = steps_rise label next others labels few
  steps_rise label next (JumpWritten others) labels few = steps_rise label next others labels few
  steps_rise label next (MarkWritten others) labels few = steps_rise label next others labels few
  steps_rise label next (RoutineWritten is_called others) labels few = steps_rise label next others labels few
  steps_rise label next (CallWritten others) labels few = steps_rise label next others labels few
  steps_rise label next (TestWritten others) labels few = steps_rise label next others labels few
  steps_rise label next (HoldsWritten others) labels few = steps_rise label next others labels few
  steps_rise label next (ChangeWritten others) labels few = steps_rise label next others labels few
  steps_rise label next (PartWritten first others) labels few =
      let rest : labels.0 ≤ next = steps_rise labels.0 next others labels.2 few in
      let this : label ≤ labels.0 = part_rises label labels.0 first labels.1 (omega (arith, rest, few)) in
      omega (arith, rest, this)

  part_rises :
      {site : Site} {called : List Bool} {facts last : Facts} {part : Part} {list : List Item}
      (label next : ℕ) (written : IsWritten site called facts part list last)
      → IsLabelled written label next → next < 4294967295 → label ≤ next
  part_rises {site = site} {facts = facts} {part = part} label next (Planned at steps) labels few =
      let rest = steps_rise _ next steps labels.1 few in omega (arith, rest, few)

-- the labels that are bound by the items of steps
pub record StepsBound (planned : List Step) (list : List Item) (label next : ℕ) : Type 0 where
  pub once : BoundOnce list
  pub bound :
      (one : ℕ) → is_bound one list ≡ true → IsIn one (marks_of planned) ⊎ ((label ≤ one) × (one < next))

-- by those of a part
pub record PartBound (list : List Item) (label next : ℕ) : Type 0 where
  pub once : BoundOnce list
  pub bound : (one : ℕ) → is_bound one list ≡ true → (label ≤ one) × (one < next)

-- an item that binds no label
before_item :
    {planned after : List Step} {list : List Item} {label next : ℕ} (item : Item)
    → ((one : ℕ) → marks one item ≡ false)
    → marks_of after ≡ marks_of planned
    → StepsBound planned list label next
    → StepsBound after (item ∷ list) label next
before_item {list = list} item none same is = record {
  once = (λ one binds. absurd (not_both (marks one item) binds (none one)), is.once);
  bound = λ one found.
      elim (is.bound one (sym (ap (λ (test : Bool). test || is_bound one list) (none one)) ∙ found)) [
        | inl own ↦ inl (subst (IsIn one) (sym same) own)
        | inr taken ↦ inr taken
      ];
}

-- items that bind no label
before_items :
    {planned after : List Step} {list : List Item} {label next : ℕ} (first : List Item)
    → BoundOnce first
    → ((one : ℕ) → is_bound one first ≡ false)
    → marks_of after ≡ marks_of planned
    → StepsBound planned list label next
    → StepsBound after (first ++ list) label next
before_items {list = list} first once none same is = record {
  once = once_both first list once is.once (λ one here there. not_both (is_bound one first) here (none one));
  bound = λ one found. elim (bound_in one first list found) [
    | inl here ↦ absurd (not_both (is_bound one first) here (none one))
    | inr there ↦ elim (is.bound one there) [
      | inl own ↦ inl (subst (IsIn one) (sym same) own)
      | inr taken ↦ inr taken
    ]
  ];
}

kind_unbound : (procedure : ℕ) (kind : ProcedureKind)
    → BoundOnce (items_of_call procedure kind)
    × ((one : ℕ) → is_bound one (items_of_call procedure kind) ≡ false)
kind_unbound procedure kinds.Static =
    ((λ one binds. absurd (not_both false binds refl), tt), λ one. refl)
kind_unbound procedure kinds.Reentrant =
    ((λ one binds. absurd (not_both false binds refl), tt), λ one. refl)
kind_unbound procedure (kinds.External name) =
    ((λ one binds. absurd (not_both false binds refl), tt), λ one. refl)

call_unbound : (site : Site) (procedure : ℕ)
    → BoundOnce (call_items site procedure) × ((one : ℕ) → is_bound one (call_items site procedure) ≡ false)
call_unbound site procedure = by (slice_get site.tree.now.procedures.items procedure)
  where
    by : (found : Option TreeProcedure)
        → BoundOnce (elim found [ Some one ↦ items_of_call procedure one.kind | None ↦ [] ])
        × ((label : ℕ)
        → is_bound label (elim found [ Some one ↦ items_of_call procedure one.kind | None ↦ [] ]) ≡ false)
    by (Some one) = kind_unbound procedure one.kind
    by None = (tt, λ label. refl)

test_unbound : (facts : Facts)
    → BoundOnce (test_items facts) × ((one : ℕ) → is_bound one (test_items facts) ≡ false)
test_unbound facts = by facts.zero_shows_a
  where
    by : (shown : Bool)
        → BoundOnce (if shown then [] else items.Plain test_of_a ∷ [])
        × ((one : ℕ) → is_bound one (if shown then [] else items.Plain test_of_a ∷ []) ≡ false)
    by true = (tt, λ one. refl)
    by false = ((λ one binds. absurd (not_both false binds refl), tt), λ one. refl)

-- a label is bound
before_mark :
    {planned : List Step} {list : List Item} {label next : ℕ} (own : LabelNumber)
    → own.index < label
    → (IsIn own.index (marks_of planned) → ⊥)
    → StepsBound planned list label next
    → StepsBound (steps.Mark own ∷ planned) (items.Mark own.index ∷ list) label next
before_mark {planned = planned} {list = list} {label = label} own low new is = record {
  once = (
    λ one binds. false_by (is_bound one list) (λ found.
        let same : one ≡ own.index = eqb-true one own.index binds in
        elim (is.bound one found) [
          | inl also ↦ new (subst (λ (n : ℕ). IsIn n (marks_of planned)) same also)
          | inr taken ↦ omega (arith, same, low, taken.0)
        ]),
    is.once,
  );
  bound = λ one found. elim (true_of (one == own.index) (is_bound one list) found) [
    | inl here ↦ inl (inl (eqb-true one own.index here))
    | inr there ↦ elim (is.bound one there) [
      | inl also ↦ inl (inr also)
      | inr taken ↦ inr taken
    ]
  ];
}

-- a part
before_part :
    {part : Part} {planned : List Step} {first list : List Item} {label middle next : ℕ}
    → label ≤ middle
    → middle ≤ next
    → ((one : ℕ) → IsIn one (marks_of planned) → one < label)
    → PartBound first label middle
    → StepsBound planned list middle next
    → StepsBound (steps.Part part ∷ planned) (first ++ list) label next
before_part {first = first} {list = list} less more low this rest = record {
  once = once_both first list this.once rest.once (λ one here there.
      let taken = this.bound one here in
      elim (rest.bound one there) [
        | inl own ↦ let less_than = low one own in omega (arith, taken.0, less_than)
        | inr further ↦ omega (arith, taken.1, further.0)
      ]);
  bound = λ one found. elim (bound_in one first list found) [
    | inl here ↦ let taken = this.bound one here in inr (taken.0, omega (arith, taken.1, more))
    | inr there ↦ elim (rest.bound one there) [
      | inl own ↦ inl own
      | inr further ↦ inr (omega (arith, further.0, less), further.1)
    ]
  ];
}

mutual
  -- the labels that the steps mark are taken before
  pub steps_bound :
      {site : Site} {called : List Bool} {facts last : Facts} {planned : List Step} {list : List Item}
      (label next : ℕ) (written : AreWritten site called facts planned list last)
      → AreLabelled written label next
      → NumbersRise (nodes_of site.tree.now)
      → next < 4294967295
      → Differ (marks_of planned)
      → ((one : ℕ) → IsIn one (marks_of planned) → one < label)
      → StepsBound planned list label next
  steps_bound label next NoneWritten labels rise few differ low =
      record { once = tt; bound = λ one found. let no : false ≡ true = found in absurd (not_both false no refl) }
  steps_bound label next (PlainWritten {i = i} others) labels rise few differ low =
      before_item (items.Plain i) (λ one. refl) refl (steps_bound label next others labels rise few differ low)
  steps_bound label next (WordWritten others) labels rise few differ low =
      before_item _ (λ one. refl) refl (steps_bound label next others labels rise few differ low)
  steps_bound label next (JumpWritten others) labels rise few differ low =
      before_item _ (λ one. refl) refl (steps_bound label next others labels rise few differ low)
  steps_bound label next (MarkWritten {label = own} others) labels rise few differ low =
      before_mark own (low own.index (inl refl)) differ.0
      (steps_bound label next others labels rise few differ.1 (λ one is. low one (inr is)))
  steps_bound label next (RoutineWritten is_called others) labels rise few differ low =
      before_item _ (λ one. refl) refl (steps_bound label next others labels rise few differ low)
  steps_bound {site = site} label next (CallWritten {procedure = procedure} others) labels rise few differ low =
      let none = call_unbound site procedure in
      before_items (call_items site procedure) none.0 none.1 refl
      (steps_bound label next others labels rise few differ low)
  steps_bound {facts = facts} label next (TestWritten others) labels rise few differ low =
      let none = test_unbound facts in
      before_items (test_items facts) none.0 none.1 refl
      (steps_bound label next others labels rise few differ low)
  steps_bound label next (HoldsWritten others) labels rise few differ low =
      let rest = steps_bound label next others labels rise few differ low in
      record { once = rest.once; bound = rest.bound }
  steps_bound label next (ChangeWritten others) labels rise few differ low =
      let rest = steps_bound label next others labels rise few differ low in
      record { once = rest.once; bound = rest.bound }
  steps_bound label next (PartWritten first others) labels rise few differ low =
      let more : labels.0 ≤ next = steps_rise labels.0 next others labels.2 few in
      let few_here : labels.0 < 4294967295 = omega (arith, more, few) in
      let less : label ≤ labels.0 = part_rises label labels.0 first labels.1 few_here in
      before_part less more low (part_bound label labels.0 first labels.1 rise few_here)
      (steps_bound labels.0 next others labels.2 rise few differ
      (λ one is. let below = low one is in omega (arith, below, less)))

  pub part_bound :
      {site : Site} {called : List Bool} {facts last : Facts} {part : Part} {list : List Item}
      (label next : ℕ) (written : IsWritten site called facts part list last)
      → IsLabelled written label next
      → NumbersRise (nodes_of site.tree.now)
      → next < 4294967295
      → PartBound list label next
  part_bound {site = site} {facts = facts} {part = part} label next (Planned at steps) labels rise few =
      let count : ℕ = task_labels (knowing site facts) part in
      let marked : marks_of (task_steps (knowing site facts) part at) ≡ labels_from at count =
      part_marks (knowing site facts) part at rise in
      let rest = steps_rise _ next steps labels.1 few in
      let own : (one : ℕ) → IsIn one (marks_of (task_steps (knowing site facts) part at))
      → (at ≤ one) × (one < at + count) =
      λ one is. in_labels one at count (subst (IsIn one) marked is) in
      let all = steps_bound _ next steps labels.1 rise few
      (subst Differ (sym marked) (labels_differ at count))
      (λ one is. let low = own one is in omega (arith, low.1, labels.0, rest, few)) in
      record {
        once = all.once;
        bound = λ one found. elim (all.bound one found) [
          | inl is ↦
              let low = own one is in
              (omega (arith, low.0, labels.0), omega (arith, low.1, labels.0, rest, few))
          | inr taken ↦ (omega (arith, taken.0, rest, few), taken.1)
        ];
      }
