-- The code of steps as it is written step by step.
use Rattle.exprgen8080.proofs.Prelude.{◌≡◌, ◌==◌, ◌||◌, ◌⊎◌, inl, inr, ℕ, ◌+◌, ◌≤◌, ◌<◌, zero, suc, Bool, true, false, set, slice_index_or, List, [], ◌∷◌, ◌++◌, length, Some, None, slice_get, drop, take, refl, sym, ap, subst, ◌∙◌, arith, append_assoc, append-nil, list_any-append, drop_at, drop_all, take_at, Item, CallTo, TreeModule, Facts, Part, Step, AddsWithLabels, label_after, Writes, jump_item, Site, Emission, AreWritten, IsWritten, NoneWritten, PlainWritten, WordWritten, JumpWritten, MarkWritten, RoutineWritten, CallWritten, TestWritten, HoldsWritten, ChangeWritten, PartWritten, Planned, call_items, call_routine, calls_label, has_routine, module_label_of_routine, module_routine_label, index_of_routine, knowing, test_items, AddsItems, Emits, EmitsSteps, HasAll, IsAlone, NotesCalled, NotesOnly, after_step, step_items, task_labels, task_steps, AreLabelled, IsLabelled, drop_found, AreBelow, rank, NumbersRise, nodes_of}
use Rattle.std.specs.Prelude.{Option}
use Rattle.std.proofs.lemmas.Option.{slice_get_past}
use Rattle.runtime8080.specs.declared.routine.Routine.{Routine}
use Rattle.treecode.specs.declared.procedure.TreeProcedure.{TreeProcedure}
use Rattle.steps8080.specs.internal.Facts.{no_facts}
use Rattle.exprgen8080.specs.internal.Emission.{items_of_call, module_call_items}
use Rattle.steps8080.specs.declared.step.Step.TheVariants as steps
use Rattle.steps8080.proofs.Numbered.{either_true, is_itself, writes_nothing, writes_then}
use Rattle.exprgen8080.proofs.Ranks.Tasks.{next_below, parts_below}

-- a table marks all that it marks
pub has_itself : (called : List Bool) → HasAll called called
has_itself called = λ routine given. given

kept_at : (called : List Bool) (index number : ℕ) → slice_index_or called number false ≡ true
    → slice_index_or (set called index true) number false ≡ true
kept_at [] index number given = let bad : false ≡ true = given in cc
kept_at (first ∷ others) zero zero given = refl
kept_at (first ∷ others) zero (suc number) given = given
kept_at (first ∷ others) (suc index) zero given = given
kept_at (first ∷ others) (suc index) (suc number) given = kept_at others index number given

-- a table with one more routine marked
pub note_kept : (before after : List Bool) (index : ℕ) → after ≡ set before index true → HasAll before after
note_kept before after index same = subst (λ to. HasAll before to) (sym same)
    (λ routine given. kept_at before index (index_of_routine routine) given)

-- no routine is marked
pub none_noted : (tree : TreeModule) (before after : Emission) (list : List Item)
    → after.is_called ≡ before.is_called
    → NotesCalled tree before.is_called.items after.is_called.items list
none_noted tree before after list same = λ routine given.
    inl (ap (λ flags. has_routine flags.items routine) (sym same) ∙ given)

-- a step that changes facts alone has no items
pub facts_alone_change : (tree : TreeModule) (before : Emission) (known : Facts) (step here : Step)
    → step ≡ here
    → step_items tree before.facts here ≡ []
    → known ≡ after_step before.facts here
    → AddsItems before (record before { facts = known }) (step_items tree before.facts step)
    (after_step before.facts step)
facts_alone_change tree before known step here same none is =
    subst
    (λ (one : Step). AddsItems before (record before { facts = known }) (step_items tree before.facts one)
    (after_step before.facts one))
    (sym same)
    (record {
      writes = subst (Writes before.writer before.writer) (sym none) (writes_nothing before.writer);
      facts = is;
      called = has_itself before.is_called.items;
      steps = refl;
    })

-- a call of a procedure that is not there has no items
pub no_call_added : (tree : TreeModule) (procedure : ℕ) (before after : Emission)
    → length tree.procedures.items ≤ procedure
    → after ≡ record before { facts = after.facts }
    → after.facts ≡ no_facts
    → AddsItems before after (module_call_items tree procedure) no_facts
no_call_added tree procedure before after past same facts = record {
  writes = subst (Writes before.writer after.writer) (sym no_items)
      (subst (λ writer. Writes before.writer writer []) (sym (ap (λ (to : Emission). to.writer) same))
      (writes_nothing before.writer));
  facts = facts;
  called = subst (λ (to : Emission). HasAll before.is_called.items to.is_called.items) (sym same)
      (has_itself before.is_called.items);
  steps = ap (λ (to : Emission). to.steps) same;
}
  where
    no_items : module_call_items tree procedure ≡ []
    no_items = ap (λ (entry : Option TreeProcedure). elim entry [
      | Some found ↦ items_of_call procedure found.kind
      | None ↦ []
    ]) (slice_get_past tree.procedures.items procedure past)

-- one routine is marked
pub note_only : (before after : List Bool) (index : ℕ) → after ≡ set before index true
    → NotesOnly index before after
note_only before after index same = subst (NotesOnly index before) (sym same) (only before index)
  where
    only : (flags : List Bool) (index : ℕ) → NotesOnly index flags (set flags index true)
    only [] index other given = inl given
    only (first ∷ others) zero zero given = inr refl
    only (first ∷ others) zero (suc other) given = inl given
    only (first ∷ others) (suc index) zero given = inl given
    only (first ∷ others) (suc index) (suc other) given =
        elim (only others index other given) [ inl kept ↦ inl kept | inr same ↦ inr (ap suc same) ]

-- it is called
pub call_noted : (tree : TreeModule) (routine : Routine) (before after : List Bool)
    → NotesOnly (index_of_routine routine) before after
    → NotesCalled tree before after (jump_item CallTo (module_label_of_routine tree routine) ∷ [])
call_noted tree routine before after only = λ other given.
    elim (only (index_of_routine other) given) [
      | inl kept ↦ inl kept
      | inr same ↦ inr (
          ap
          (λ index. ((module_routine_label tree index).index == (module_label_of_routine tree routine).index)
          || false)
          same
          ∙ is_itself (module_label_of_routine tree routine).index
          )
    ]

-- routines that are marked one after another
pub notes_then : (tree : TreeModule) (before between after : List Bool) (list later : List Item)
    → NotesCalled tree before between list
    → NotesCalled tree between after later
    → NotesCalled tree before after (list ++ later)
notes_then tree before between after list later first second = λ routine given.
    elim (second routine given) [
      | inl noted ↦ elim (first routine noted) [
        | inl old ↦ inl old
        | inr called ↦ inr (either routine (inl called))
      ]
      | inr called ↦ inr (either routine (inr called))
    ]
  where
    either : (routine : Routine)
        → (call_routine tree routine list ≡ true) ⊎ (call_routine tree routine later ≡ true)
        → call_routine tree routine (list ++ later) ≡ true
    either routine found =
        list_any-append (calls_label (module_label_of_routine tree routine).index) list later
        ∙ either_true (call_routine tree routine list) (call_routine tree routine later) found

module _ {site : Site} {called wider : List Bool} (more : HasAll called wider) where
  mutual
    -- code that is written with some routines called is also written with more
    pub are_kept : {facts last : Facts} {list : List Step} {items : List Item}
        → AreWritten site called facts list items last → AreWritten site wider facts list items last
    are_kept NoneWritten = NoneWritten
    are_kept (PlainWritten others) = PlainWritten (are_kept others)
    are_kept (WordWritten others) = WordWritten (are_kept others)
    are_kept (JumpWritten others) = JumpWritten (are_kept others)
    are_kept (MarkWritten others) = MarkWritten (are_kept others)
    are_kept (RoutineWritten {routine = routine} is_called others) =
        RoutineWritten (more routine is_called) (are_kept others)
    are_kept (CallWritten others) = CallWritten (are_kept others)
    are_kept (TestWritten others) = TestWritten (are_kept others)
    are_kept (HoldsWritten others) = HoldsWritten (are_kept others)
    are_kept (ChangeWritten others) = ChangeWritten (are_kept others)
    are_kept (PartWritten first others) = PartWritten (is_kept first) (are_kept others)

    pub is_kept : {facts last : Facts} {part : Part} {items : List Item}
        → IsWritten site called facts part items last → IsWritten site wider facts part items last
    is_kept (Planned label steps) = Planned label (are_kept steps)

module _ {site : Site} {called : List Bool} (wider : List Bool) (more : HasAll called wider) where
  mutual
    unfolding are_kept

    -- with the same labels
    pub are_labels_kept : {facts last : Facts} {list : List Step} {items : List Item} (label next : ℕ)
        → (written : AreWritten site called facts list items last)
        → AreLabelled written label next → AreLabelled (are_kept more written) label next
    are_labels_kept label next NoneWritten labels = labels
    are_labels_kept label next (PlainWritten others) labels = are_labels_kept label next others labels
    are_labels_kept label next (WordWritten others) labels = are_labels_kept label next others labels
    are_labels_kept label next (JumpWritten others) labels = are_labels_kept label next others labels
    are_labels_kept label next (MarkWritten others) labels = are_labels_kept label next others labels
    are_labels_kept label next (RoutineWritten is_called others) labels =
        are_labels_kept label next others labels
    are_labels_kept label next (CallWritten others) labels = are_labels_kept label next others labels
    are_labels_kept label next (TestWritten others) labels = are_labels_kept label next others labels
    are_labels_kept label next (HoldsWritten others) labels = are_labels_kept label next others labels
    are_labels_kept label next (ChangeWritten others) labels = are_labels_kept label next others labels
    are_labels_kept label next (PartWritten first others) labels = (
      labels.0,
      is_labels_kept label labels.0 first labels.1,
      are_labels_kept labels.0 next others labels.2,
    )

    pub is_labels_kept : {facts last : Facts} {part : Part} {items : List Item} (label next : ℕ)
        → (written : IsWritten site called facts part items last)
        → IsLabelled written label next → IsLabelled (is_kept more written) label next
    is_labels_kept {facts = facts} {part = part} label next (Planned at steps) labels = (
      labels.0,
      are_labels_kept (label_after label (task_labels (knowing site facts) part)) next steps labels.1,
    )

-- steps that are written, with labels from `label` on, up to the next one
abbrev pub LabelledSteps : (site : Site) (called : List Bool) (facts : Facts)
    (list : List Step) (items : List Item)
    (last : Facts) (label next : ℕ) → Type 0
LabelledSteps site called facts list items last label next =
    (written : AreWritten site called facts list items last) × AreLabelled written label next

-- the same for a part
abbrev pub LabelledPart : (site : Site) (called : List Bool) (facts : Facts) (part : Part) (items : List Item)
    (last : Facts) (label next : ℕ) → Type 0
LabelledPart site called facts part items last label next =
    (written : IsWritten site called facts part items last) × IsLabelled written label next

-- a step that is not a part is written, and others after it
pub step_written : (site : Site) (called : List Bool) (facts last : Facts) (step : Step)
    (others : List Step) (more : List Item) (label next : ℕ)
    → IsAlone called step
    → LabelledSteps site called (after_step facts step) others more last label next
    → LabelledSteps site called facts (step ∷ others)
    (step_items site.tree.now facts step ++ more) last label next
step_written site called facts last (steps.Plain i) others more label next alone written =
    (PlainWritten written.0, written.1)
step_written site called facts last (steps.Word form place) others more label next alone written =
    (WordWritten written.0, written.1)
step_written site called facts last (steps.Jump form to) others more label next alone written =
    (JumpWritten written.0, written.1)
step_written site called facts last (steps.Mark at) others more label next alone written =
    (MarkWritten written.0, written.1)
step_written site called facts last (steps.CallRoutine routine) others more label next alone written =
    (RoutineWritten alone written.0, written.1)
step_written site called facts last (steps.CallProcedure procedure) others more label next alone written =
    (CallWritten written.0, written.1)
step_written site called facts last steps.TestA others more label next alone written =
    (TestWritten written.0, written.1)
step_written site called facts last (steps.Holds held) others more label next alone written =
    (HoldsWritten written.0, written.1)
step_written site called facts last steps.MemoryChanged others more label next alone written =
    (ChangeWritten written.0, written.1)
step_written site called facts last (steps.Part part) others more label next alone written = absurd alone

-- a step is alone, also with more routines called
pub alone_kept : (called wider : List Bool) (step : Step) → HasAll called wider
    → IsAlone called step → IsAlone wider step
alone_kept called wider (steps.CallRoutine routine) more alone = more routine alone
alone_kept called wider (steps.Part part) more alone = alone
alone_kept called wider (steps.Plain i) more alone = alone
alone_kept called wider (steps.Word form place) more alone = alone
alone_kept called wider (steps.Jump form label) more alone = alone
alone_kept called wider (steps.Mark label) more alone = alone
alone_kept called wider (steps.CallProcedure procedure) more alone = alone
alone_kept called wider steps.TestA more alone = alone
alone_kept called wider (steps.Holds held) more alone = alone
alone_kept called wider steps.MemoryChanged more alone = alone

-- steps are written one after another
pub appended : {site : Site} {called : List Bool} {facts middle last : Facts}
    {list others : List Step} {items more : List Item} {label between next : ℕ}
    → (written : AreWritten site called facts list items middle) → AreLabelled written label between
    → LabelledSteps site called middle others more last between next
    → LabelledSteps site called facts (list ++ others) (items ++ more) last label next
appended {site = site} {called = called} {middle = middle} {last = last} {others = others}
    {more = more} {next = next}
    NoneWritten labels then =
    subst (λ at. LabelledSteps site called middle others more last at next) labels then
appended (PlainWritten first) labels then =
    let rest = appended first labels then in (PlainWritten rest.0, rest.1)
appended (WordWritten first) labels then =
    let rest = appended first labels then in (WordWritten rest.0, rest.1)
appended (JumpWritten first) labels then =
    let rest = appended first labels then in (JumpWritten rest.0, rest.1)
appended (MarkWritten first) labels then =
    let rest = appended first labels then in (MarkWritten rest.0, rest.1)
appended (RoutineWritten is_called first) labels then =
    let rest = appended first labels then in (RoutineWritten is_called rest.0, rest.1)
appended {site = site} {called = called} {facts = facts} {last = last} {others = others}
    {more = more} {label = label}
    {next = next} (CallWritten {procedure = procedure} {others = list} {more = items} first) labels then =
    let rest = appended first labels then in
    subst (λ all. LabelledSteps site called facts (steps.CallProcedure procedure ∷ (list ++ others))
    all last label next)
    (sym (append_assoc (call_items site procedure) items more))
    (CallWritten rest.0, rest.1)
appended {site = site} {called = called} {facts = facts} {last = last} {others = others}
    {more = more} {label = label}
    {next = next} (TestWritten {others = list} {more = items} first) labels then =
    let rest = appended first labels then in
    subst (λ all. LabelledSteps site called facts (steps.TestA ∷ (list ++ others)) all last label next)
    (sym (append_assoc (test_items facts) items more))
    (TestWritten rest.0, rest.1)
appended (HoldsWritten first) labels then =
    let rest = appended first labels then in (HoldsWritten rest.0, rest.1)
appended (ChangeWritten first) labels then =
    let rest = appended first labels then in (ChangeWritten rest.0, rest.1)
appended {site = site} {called = called} {facts = facts} {last = last} {others = others}
    {more = more} {label = label}
    {next = next} (PartWritten {part = part} {others = list} {first = here} {more = items} is first)
    labels then =
    let rest = appended first labels.2 then in
    subst (λ all. LabelledSteps site called facts (steps.Part part ∷ (list ++ others)) all last label next)
    (sym (append_assoc here items more))
    (PartWritten is rest.0, (labels.0, labels.1, rest.1))

-- no step is added
pub emits_nothing : (site : Site) (emission : Emission) → EmitsSteps site [] emission emission
emits_nothing site emission = record {
  list = [];
  writes = writes_nothing emission.writer;
  written = NoneWritten;
  called = has_itself emission.is_called.items;
  notes = λ routine given. inl given;
  steps = refl;
  labels = refl;
}

-- the code of steps is added one after another
pub emits_then : (site : Site) (first second : List Step) (before between after : Emission)
    → EmitsSteps site first before between → EmitsSteps site second between after
    → EmitsSteps site (first ++ second) before after
emits_then site first second before between after here next =
    let all =
    appended (are_kept next.called here.written)
    (are_labels_kept after.is_called.items next.called before.steps.labels between.steps.labels
    here.written here.labels)
    (next.written, next.labels) in
    record {
      list = here.list ++ next.list;
      writes =
          writes_then before.writer between.writer after.writer here.list next.list here.writes next.writes;
      written = all.0;
      called = λ routine given. next.called routine (here.called routine given);
      notes =
          notes_then site.tree.now before.is_called.items between.is_called.items
          after.is_called.items here.list
          next.list here.notes next.notes;
      steps = next.steps ∙ here.steps;
      labels = all.1;
    }

-- a step that is not a part
pub emits_step : (site : Site) (step : Step) (before after : Emission)
    → AddsItems before after (step_items site.tree.now before.facts step) (after_step before.facts step)
    → IsAlone after.is_called.items step
    → NotesCalled site.tree.now before.is_called.items after.is_called.items
    (step_items site.tree.now before.facts step)
    → EmitsSteps site (step ∷ []) before after
emits_step site step before after adds alone notes =
    let called : List Bool = after.is_called.items in
    let list : List Item = step_items site.tree.now before.facts step in
    let label : ℕ = before.steps.labels in
    let written : LabelledSteps site called before.facts (step ∷ []) list after.facts label
    after.steps.labels =
    subst (λ next. LabelledSteps site called before.facts (step ∷ []) list after.facts label next)
    (sym (ap (λ at. at.labels) adds.steps))
    (subst (λ known. LabelledSteps site called before.facts (step ∷ []) list known label label)
    (sym adds.facts)
    (subst (λ all. LabelledSteps site called before.facts (step ∷ []) all
    (after_step before.facts step) label label)
    (append-nil list)
    (step_written site called before.facts (after_step before.facts step) step [] [] label label alone
    (NoneWritten, refl)))) in
    record {
      list = list;
      writes = adds.writes;
      written = written.0;
      called = adds.called;
      notes = notes;
      steps = ap (λ at. at.list.items) adds.steps;
      labels = written.1;
    }

-- a part
pub emits_part : (site : Site) (part : Part) (before after : Emission)
    → Emits site part before after
    → EmitsSteps site (steps.Part part ∷ []) before after
emits_part site part before after emits =
    let label : ℕ = before.steps.labels in
    let next : ℕ = after.steps.labels in
    let written : LabelledSteps site after.is_called.items before.facts (steps.Part part ∷ []) emits.list
    after.facts label next =
    subst
    (λ all. LabelledSteps site after.is_called.items before.facts (steps.Part part ∷ []) all
    after.facts label next)
    (append-nil emits.list) (PartWritten emits.written NoneWritten, (next, emits.labels, refl)) in
    record {
      list = emits.list;
      writes = emits.writes;
      written = written.0;
      called = emits.called;
      notes = emits.notes;
      steps = emits.steps;
      labels = written.1;
    }

-- The steps of a part are being written, up to an end; those from an index on remain.
pub record IsWriting (site : Site) (part : Part) (before now : Emission) (index end : ℕ) : Type 0 where
  pub list : List Item
  pub writes : Writes before.writer now.writer list
  pub left : (called : List Bool) (more : List Item) (last : Facts) (next : ℕ)
      → HasAll now.is_called.items called
      → LabelledSteps site called now.facts (drop index now.steps.list.items) more last now.steps.labels next
      → LabelledPart site called before.facts part (list ++ more) last before.steps.labels next
  pub called : HasAll before.is_called.items now.is_called.items
  pub notes : NotesCalled site.tree.now before.is_called.items now.is_called.items list
  pub begins : take (length before.steps.list.items) now.steps.list.items ≡ before.steps.list.items
  pub count : length now.steps.list.items ≡ end
  pub below : AreBelow site.tree.now (rank site.tree.now part.task) (drop index now.steps.list.items)

module _ (site : Site) (part : Part) (before now : Emission) where
  -- all steps of a part remain
  pub writing_begins : (planned : Emission) (end : ℕ)
      → planned ≡ record before { steps = planned.steps }
      → AddsWithLabels before.steps planned.steps
      (task_labels (knowing site before.facts) part) (task_steps (knowing site before.facts) part)
      → planned.steps.labels < 4294967296
      → NumbersRise (nodes_of site.tree.now)
      → length planned.steps.list.items ≡ end
      → IsWriting site part before planned (length before.steps.list.items) end
  writing_begins planned end same adds small rises count =
      let first : List Step = before.steps.list.items in
      let label : ℕ = before.steps.labels in
      let list : List Step = task_steps (knowing site before.facts) part label in
      let facts : planned.facts ≡ before.facts = ap (λ (at : Emission). at.facts) same in
      let is_left : drop (length first) planned.steps.list.items ≡ list =
      ap (drop (length first)) adds.added ∙ drop_at first list (length first) refl in
      let next_label : ℕ = label_after label (task_labels (knowing site before.facts) part) in
      let labels : planned.steps.labels ≡ next_label = omega (arith, adds.labels, small) in
      record {
        list = [];
        writes = subst (λ (to : Emission). Writes before.writer to.writer []) (sym same)
            (writes_nothing before.writer);
        left = λ called more last next wider written.
            let steps : LabelledSteps site called before.facts list more last next_label next =
            subst (λ known. LabelledSteps site called known list more last next_label next) facts
            (subst (λ at. LabelledSteps site called planned.facts list more last at next) labels
            (subst (λ left. LabelledSteps site called planned.facts left more last planned.steps.labels next)
            is_left
            written)) in
            (Planned label steps.0, (refl, steps.1));
        called = subst (λ (to : Emission). HasAll before.is_called.items to.is_called.items) (sym same)
            (has_itself before.is_called.items);
        notes = subst
            (λ (to : Emission). NotesCalled site.tree.now before.is_called.items to.is_called.items [])
            (sym same) (λ routine given. inl given);
        begins = ap (take (length first)) adds.added ∙ take_at first list (length first) refl;
        count = count;
        below = subst (AreBelow site.tree.now (rank site.tree.now part.task)) (sym is_left)
            (parts_below (knowing site before.facts) part label rises);
      }

  module _ (next : Emission) (index end : ℕ) (so_far : IsWriting site part before now index end) where
    -- a step is written
    pub step_passed : (step : Step)
        → slice_get now.steps.list.items index ≡ Some step
        → EmitsSteps site (step ∷ []) now next
        → IsWriting site part before next (index + 1) end
    step_passed step is emits =
        let steps_now : List Step = now.steps.list.items in
        let list : List Item = emits.list in
        record {
          list = so_far.list ++ list;
          writes =
              writes_then before.writer now.writer next.writer so_far.list list so_far.writes emits.writes;
          left = λ called more last after wider written.
              let others : LabelledSteps site called next.facts (drop (index + 1) steps_now) more last
              next.steps.labels after =
              subst (λ at. LabelledSteps site called next.facts (drop (index + 1) at) more last
              next.steps.labels after)
              emits.steps written in
              subst (λ all. LabelledPart site called before.facts part all last before.steps.labels after)
              (sym (append_assoc so_far.list list more))
              (so_far.left called (list ++ more) last after
              (λ routine given. wider routine (emits.called routine given))
              (subst (λ left. LabelledSteps site called now.facts left (list ++ more) last
              now.steps.labels after)
              (sym (drop_found steps_now index step is))
              (appended (are_kept wider emits.written)
              (are_labels_kept called wider now.steps.labels next.steps.labels emits.written emits.labels)
              others)));
          called = λ routine given. emits.called routine (so_far.called routine given);
          notes =
              notes_then site.tree.now before.is_called.items now.is_called.items
              next.is_called.items so_far.list list
              so_far.notes emits.notes;
          begins = ap (take (length before.steps.list.items)) emits.steps ∙ so_far.begins;
          count = ap length emits.steps ∙ so_far.count;
          below = subst
              (λ (at : List Step). AreBelow site.tree.now (rank site.tree.now part.task)
              (drop (index + 1) at))
              (sym emits.steps)
              (next_below site.tree.now (rank site.tree.now part.task) steps_now index step so_far.below is);
        }

  -- all steps are written
  pub writing_ends : (after : Emission) (index end : ℕ)
      → IsWriting site part before now index end
      → end ≤ index
      → after ≡ record now { steps = after.steps }
      → after.steps.list.items ≡ take (length before.steps.list.items) now.steps.list.items
      → after.steps.labels ≡ now.steps.labels
      → Emits site part before after
  writing_ends after index end so_far done same list labels =
      let none : drop index now.steps.list.items ≡ [] =
      drop_all index now.steps.list.items (omega (arith, so_far.count, done)) in
      let label : ℕ = before.steps.labels in
      let written :
      LabelledPart site after.is_called.items before.facts part so_far.list after.facts label
      after.steps.labels =
      subst
      (λ (to : Emission).
      LabelledPart site to.is_called.items before.facts part so_far.list to.facts label after.steps.labels)
      (sym same)
      (subst (λ next. LabelledPart site now.is_called.items before.facts part so_far.list now.facts
      label next) (sym labels)
      (subst (λ all. LabelledPart site now.is_called.items before.facts part all now.facts
      label now.steps.labels)
      (append-nil so_far.list)
      (so_far.left now.is_called.items [] now.facts now.steps.labels (has_itself now.is_called.items)
      (subst (λ left. LabelledSteps site now.is_called.items now.facts left [] now.facts
      now.steps.labels now.steps.labels)
      (sym none) (NoneWritten, refl))))) in
      record {
        list = so_far.list;
        writes =
            subst (λ (to : Emission). Writes before.writer to.writer so_far.list) (sym same) so_far.writes;
        written = written.0;
        called = subst (λ (to : Emission). HasAll before.is_called.items to.is_called.items) (sym same)
            so_far.called;
        notes =
            subst
            (λ (to : Emission). NotesCalled site.tree.now before.is_called.items
            to.is_called.items so_far.list)
            (sym same) so_far.notes;
        steps = list ∙ so_far.begins;
        labels = written.1;
      }

-- past the end no step remains
pub none_is : {A : Type 0} (list : List A) (index : ℕ) → slice_get list index ≡ None
    → drop index list ≡ drop (index + 1) list
none_is list index none = past list index none ∙ ap (λ at. drop at list) (next index)
  where
    next : (n : ℕ) → suc n ≡ n + 1
    next n = omega arith

    past : {A : Type 0} (list : List A) (index : ℕ) → slice_get list index ≡ None
        → drop index list ≡ drop (suc index) list
    past [] zero none = refl
    past [] (suc index) none = refl
    past (first ∷ others) zero none = let bad : Some first ≡ None = none in cc
    past (first ∷ others) (suc index) none = past others index none

-- no step remains
pub none_passed : (site : Site) (part : Part) (before now : Emission) (index end : ℕ)
    → IsWriting site part before now index end
    → slice_get now.steps.list.items index ≡ None
    → IsWriting site part before now (index + 1) end
none_passed site part before now index end so_far none = record {
  list = so_far.list;
  writes = so_far.writes;
  left = λ called more last next wider written.
      so_far.left called more last next wider
      (subst (λ left. LabelledSteps site called now.facts left more last now.steps.labels next)
      (sym (none_is now.steps.list.items index none)) written);
  called = so_far.called;
  notes = so_far.notes;
  begins = so_far.begins;
  count = so_far.count;
  below = subst (AreBelow site.tree.now (rank site.tree.now part.task)) (none_is now.steps.list.items index none) so_far.below;
}
