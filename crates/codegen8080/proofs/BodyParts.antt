-- The code of procedures and of main programs, from the code of their parts.
use Rattle.codegen8080.proofs.Prelude.{◌≡◌, ◌⊎◌, ℕ, inl, inr, Bool, true, false, List, [], ◌∷◌, ◌++◌, length, None, Result, Ok, Err, OnOk, drop, refl, sym, ap, subst, ◌∙◌, drop_at, IfOk, Instr, Hlt, Sp, Item, LoadPair, Routine, TreeModule, TreeProcedure, FramePlan, HasFrame, HasNothing, IsPlanOf, LiesApart, Facts, LabelNumber, no_facts, label_after, label_of, Writes, stack_end_item, writes_nothing, writes_then, Site, Emission, AreWritten, call_routine, MarkWritten, NoneWritten, PlainWritten, EmitsSteps, HasAll, NotesCalled, AreLabelled, has_itself, none_noted, notes_then, Body, Planned, Generator, Here, AddsCode, AddsList, AddsPlanned, here_of, LabelledList, LabelledSteps, IsFrameOf, IsMainCode, IsProcedureCode, end_steps, entry_labels, entry_steps, AddsEnd, AddsEntry, AddsMain, AddsOwn, AddsProcedure, LabelledCode, LabelledEnd}
use Rattle.asm8080.specs.declared.item.Item.TheVariants as items
use Rattle.treecode.specs.declared.procedure.ProcedureKind.TheVariants as kinds
use Rattle.steps8080.specs.declared.step.Step.TheVariants as steps
use Rattle.codegen8080.proofs.Driving.{labelled_list_kept, labelled_steps_kept}

-- the plan of a frame follows from the kind of the procedure
pub frame_is :
    (procedure : TreeProcedure) {E : Type 0} (result : Result FramePlan E)
    → (procedure.kind ≡ kinds.Reentrant → HasFrame procedure → IfOk result (λ plan. IsPlanOf procedure plan))
    → (procedure.kind ≡ kinds.Reentrant → HasFrame procedure → IfOk result (λ plan. LiesApart procedure plan))
    → ((procedure.kind ≡ kinds.Reentrant → ⊥) → IfOk result (λ plan. HasNothing plan))
    → IfOk result (λ plan. IsFrameOf procedure plan)
frame_is procedure (Ok plan) planned apart empty = record { planned = planned; apart = apart; empty = empty }
frame_is procedure (Err fault) planned apart empty = tt

-- steps that are planned after others are carried out, with labels from the next free one on
pub planned_added :
    (body : Body) (list : List Planned) (start : ℕ) (free : (label : ℕ) → ℕ) (before ready after : Generator)
    → ready.emission ≡ record (before.emission) { steps = ready.emission.steps }
    → ready.emission.steps.labels ≡ free before.emission.steps.labels
    → ready.goes_on ≡ before.goes_on
    → ready.plan.list.items ≡ before.plan.list.items ++ list
    → start ≡ length before.plan.list.items
    → AddsPlanned body (drop start ready.plan.list.items) ready after
    → AddsCode body.tree.now
    (λ called added label next.
    LabelledSteps body called (here_of before) None list added (here_of after) (free label) next)
    before after
planned_added body list start free before ready after emission labels goes_on plan begins adds =
    let from : ℕ = ready.emission.steps.labels in
    let next : ℕ = after.emission.steps.labels in
    let called : List Bool = after.emission.is_called.items in
    let left : drop start ready.plan.list.items ≡ list =
    ap (drop start) plan ∙ drop_at before.plan.list.items list start (sym begins) in
    let written : LabelledSteps body called (here_of ready) None list adds.list (here_of after) from next =
    subst (λ all. LabelledSteps body called (here_of ready) None all adds.list (here_of after) from next) left
    adds.written in
    record {
      list = adds.list;
      writes =
          subst (λ (from : Emission). Writes from.writer after.emission.writer adds.list)
          emission adds.writes;
      written =
          subst (λ first. LabelledSteps body called (here_of before) None list adds.list
          (here_of after) first next)
          labels
          (subst (λ (at : Emission). LabelledSteps body called
          (record { facts = at.facts; goes_on = before.goes_on }) None list adds.list
          (here_of after) from next)
          emission
          (subst (λ goes. LabelledSteps body called
          (record { facts = ready.emission.facts; goes_on = goes }) None
          list adds.list (here_of after) from next) goes_on written));
      called = subst (λ (from : Emission). HasAll from.is_called.items called) emission adds.called;
      notes = subst (λ (from : Emission). NotesCalled body.tree.now from.is_called.items called adds.list)
          emission
          adds.notes;
    }

-- the entry of a procedure is added
pub entry_added :
    (body : Body) (start : ℕ) (before ready after : Generator) {E : Type 0} (result : Result (Unit {0}) E)
    → ready.emission ≡ record (before.emission) { steps = ready.emission.steps }
    → ready.emission.steps.labels ≡ label_after before.emission.steps.labels (entry_labels body)
    → ready.goes_on ≡ before.goes_on
    → ready.plan.list.items ≡ before.plan.list.items ++ entry_steps body before.emission.steps.labels
    → start ≡ length before.plan.list.items
    → OnOk result (AddsPlanned body (drop start ready.plan.list.items) ready after)
    → OnOk result (AddsEntry body before after)
entry_added body start before ready after (Ok done) emission labels goes_on plan begins adds =
    let added =
    planned_added body (entry_steps body before.emission.steps.labels) start
    (λ label. label_after label (entry_labels body)) before ready after emission labels
    goes_on plan begins adds in
    record {
      list = added.list;
      writes = added.writes;
      written = added.written;
      called = added.called;
      notes = added.notes;
    }
entry_added body start before ready after (Err fault) emission labels goes_on plan begins adds = adds

-- its end is added
pub end_added :
    (body : Body) (start : ℕ) (before ready after : Generator) {E : Type 0} (result : Result (Unit {0}) E)
    → body.procedure.now.reaches_its_end ≡ true
    → ready.emission ≡ before.emission
    → ready.goes_on ≡ before.goes_on
    → ready.plan.list.items ≡ before.plan.list.items ++ end_steps body
    → start ≡ length before.plan.list.items
    → OnOk result (AddsPlanned body (drop start ready.plan.list.items) ready after)
    → OnOk result (AddsEnd body before after)
end_added body start before ready after (Ok done) reached emission goes_on plan begins adds =
    let same : ready.emission ≡ record (before.emission) { steps = ready.emission.steps } =
    emission ∙ ap (λ (from : Emission). record (before.emission) { steps = from.steps }) (sym emission) in
    let labels : ready.emission.steps.labels ≡ before.emission.steps.labels =
    ap (λ (from : Emission). from.steps.labels) emission in
    let added =
    planned_added body (end_steps body) start (λ label. label) before ready after same labels
    goes_on plan begins adds in
    record {
      list = added.list;
      writes = added.writes;
      written =
          subst
          (λ is_reached. LabelledEnd body after.emission.is_called.items (here_of before)
          is_reached added.list
          before.emission.steps.labels after.emission.steps.labels)
          (sym reached) ((here_of after, added.written.0), added.written.1);
      called = added.called;
      notes = added.notes;
    }
end_added body start before ready after (Err fault) reached emission goes_on plan begins adds = adds

pub no_end_added :
    (body : Body) (before : Generator) → body.procedure.now.reaches_its_end ≡ false
    → AddsEnd body before before
no_end_added body before reached = record {
  list = [];
  writes = writes_nothing before.emission.writer;
  written =
      subst
      (λ is_reached. LabelledEnd body before.emission.is_called.items (here_of before) is_reached []
      before.emission.steps.labels before.emission.steps.labels)
      (sym reached) (refl, refl);
  called = has_itself before.emission.is_called.items;
  notes = λ routine given. inl given;
}

-- an item that calls no routine is added
alone_noted :
    (tree other : TreeModule) (before after : List Bool) (list : List Item) (item : Item)
    → ((routine : Routine) → call_routine tree routine (item ∷ []) ≡ false)
    → list ≡ item ∷ []
    → NotesCalled tree before after list
    → NotesCalled other before after (item ∷ [])
alone_noted tree other before after list item calls_none same notes = λ routine given.
    elim (notes routine given) [
      | inl old ↦ inl old
      | inr bad ↦ absurd (
          let no : false ≡ true =
          sym (calls_none routine) ∙ ap (call_routine tree routine) (sym same) ∙ bad in cc
          )
    ]

-- a label is added
record IsMarked (label : ℕ) (before after : Emission) : Type 0 where
  writes : Writes before.writer after.writer (items.Mark label ∷ [])
  facts : after.facts ≡ no_facts
  labels : after.steps.labels ≡ before.steps.labels
  called : HasAll before.is_called.items after.is_called.items
  notes : (tree : TreeModule) → NotesCalled tree before.is_called.items after.is_called.items
      (items.Mark label ∷ [])

mark_is :
    {site : Site} {called : List Bool} {facts last : Facts} {label : LabelNumber} {list : List Item}
    → AreWritten site called facts (steps.Mark label ∷ []) list last
    → (list ≡ items.Mark label.index ∷ []) × (last ≡ no_facts)
mark_is (MarkWritten NoneWritten) = (refl, refl)

mark_labels :
    {site : Site} {called : List Bool} {facts last : Facts} {label : LabelNumber} {list : List Item}
    (written : AreWritten site called facts (steps.Mark label ∷ []) list last) (from next : ℕ)
    → AreLabelled written from next
    → next ≡ from
mark_labels (MarkWritten NoneWritten) from next labels = labels

marked : (site : Site) (label : LabelNumber) (before after : Emission)
    → EmitsSteps site (steps.Mark label ∷ []) before after
    → IsMarked label.index before after
marked site label before after emits =
    let is = mark_is emits.written in
    record {
      writes = subst (Writes before.writer after.writer) is.0 emits.writes;
      facts = is.1;
      labels = mark_labels emits.written before.steps.labels after.steps.labels emits.labels;
      called = emits.called;
      notes = λ tree.
          alone_noted site.tree.now tree before.is_called.items after.is_called.items emits.list
          (items.Mark label.index) (λ routine. refl) is.0 emits.notes;
    }

-- an instruction is added
plain_is :
    {site : Site} {called : List Bool} {facts last : Facts} {i : Instr} {list : List Item}
    → AreWritten site called facts (steps.Plain i ∷ []) list last
    → list ≡ items.Plain i ∷ []
plain_is (PlainWritten NoneWritten) = refl

plain_labels :
    {site : Site} {called : List Bool} {facts last : Facts} {i : Instr} {list : List Item}
    (written : AreWritten site called facts (steps.Plain i ∷ []) list last) (from next : ℕ)
    → AreLabelled written from next
    → next ≡ from
plain_labels (PlainWritten NoneWritten) from next labels = labels

-- the code of the end of a procedure, with more routines called
pub end_kept :
    (body : Body) (called wider : List Bool) (here : Here) (is_reached : Bool)
    (list : List Item) (label next : ℕ)
    → HasAll called wider
    → LabelledEnd body called here is_reached list label next
    → LabelledEnd body wider here is_reached list label next
end_kept body called wider here true list label next more is =
    let kept = labelled_steps_kept wider more label next (is.0.1, is.1) in ((is.0.0, kept.0), kept.1)
end_kept body called wider here false list label next more is = is

-- a procedure is written part by part
pub own_added :
    (tree : TreeModule) (procedure : TreeProcedure) (label : LabelNumber) (body : Body) (site : Site)
    (before begun labelled entered listed after : Generator)
    → body.tree.now ≡ tree
    → body.procedure.now ≡ procedure
    → IsFrameOf procedure body.frame.now
    → body.first_label ≡ label_of before.emission.steps.labels
    → begun.emission ≡ record (before.emission) { steps = begun.emission.steps }
    → begun.emission.steps.labels ≡ label_after before.emission.steps.labels procedure.label_count
    → EmitsSteps site (steps.Mark label ∷ []) begun.emission labelled.emission
    → labelled.goes_on ≡ true
    → AddsEntry body labelled entered
    → AddsList body procedure.body entered listed
    → AddsEnd body listed after
    → AddsOwn tree label.index procedure before after
own_added tree procedure label body site before begun labelled entered listed after tree_is
    procedure_is frame named
    same labels emits goes_on entry list end =
    let called : List Bool = after.emission.is_called.items in
    let mark = marked site label begun.emission labelled.emission emits in
    let from_entry : HasAll entered.emission.is_called.items called =
    λ routine given. end.called routine (list.called routine given) in
    let here : here_of labelled ≡ record { facts = no_facts; goes_on = true } =
    ap (λ (facts : Facts). record { facts = facts; goes_on = labelled.goes_on }) mark.facts
    ∙ ap (λ goes. record { facts = no_facts; goes_on = goes }) goes_on in
    let first : ℕ = labelled.emission.steps.labels in
    let begun_label : ℕ = entered.emission.steps.labels in
    let ended_label : ℕ = listed.emission.steps.labels in
    let next : ℕ = after.emission.steps.labels in
    let begins : LabelledSteps body called (record { facts = no_facts; goes_on = true }) None
    (entry_steps body first)
    entry.list (here_of entered) (label_after first (entry_labels body)) begun_label =
    subst (λ at. LabelledSteps body called at None (entry_steps body first) entry.list (here_of entered)
    (label_after first (entry_labels body)) begun_label) here (labelled_steps_kept called from_entry
    (label_after first (entry_labels body)) begun_label entry.written) in
    let written : LabelledList body called entered.emission.facts procedure.body list.list (here_of listed)
    begun_label ended_label =
    labelled_list_kept called end.called begun_label ended_label list.written in
    let ends : LabelledEnd body called (here_of listed) procedure.reaches_its_end end.list ended_label next =
    subst (λ (own : TreeProcedure). LabelledEnd body called (here_of listed) own.reaches_its_end
    end.list ended_label
    next) procedure_is end.written in
    let code : IsProcedureCode tree called label.index procedure
    (items.Mark label.index ∷ (entry.list ++ (list.list ++ end.list))) =
    record {
      body = body;
      tree_is = tree_is;
      procedure_is = procedure_is;
      frame = frame;
      first = first;
      beginning = entry.list;
      statements = list.list;
      ending = end.list;
      entered = here_of entered;
      last = here_of listed;
      begins = begins.0;
      written = written.0;
      ends = ends.0;
      list_is = refl;
    } in
    record {
      list = items.Mark label.index ∷ (entry.list ++ (list.list ++ end.list));
      writes =
          subst
          (λ (from : Emission). Writes from.writer after.emission.writer
          (items.Mark label.index ∷ (entry.list ++ (list.list ++ end.list))))
          same
          (writes_then begun.emission.writer labelled.emission.writer after.emission.writer
          (items.Mark label.index ∷ []) (entry.list ++ (list.list ++ end.list)) mark.writes
          (writes_then labelled.emission.writer entered.emission.writer after.emission.writer entry.list
          (list.list ++ end.list) entry.writes
          (writes_then entered.emission.writer listed.emission.writer after.emission.writer list.list end.list
          list.writes end.writes)));
      written = (
        code,
        record {
          begun = begun_label;
          ended = ended_label;
          named = named;
          first = mark.labels ∙ labels;
          begins = begins.1;
          written = written.1;
          ends = ends.1;
        },
      );
      called =
          subst (λ (from : Emission). HasAll from.is_called.items called) same
          (λ routine given. from_entry routine (entry.called routine (mark.called routine given)));
      notes =
          subst
          (λ (from : Emission). NotesCalled tree from.is_called.items called
          (items.Mark label.index ∷ (entry.list ++ (list.list ++ end.list))))
          same
          (subst
          (λ (at : TreeModule). NotesCalled at begun.emission.is_called.items called
          (items.Mark label.index ∷ (entry.list ++ (list.list ++ end.list))))
          tree_is
          (notes_then body.tree.now begun.emission.is_called.items labelled.emission.is_called.items called
          (items.Mark label.index ∷ []) (entry.list ++ (list.list ++ end.list)) (mark.notes body.tree.now)
          (notes_then body.tree.now labelled.emission.is_called.items entered.emission.is_called.items called
          entry.list (list.list ++ end.list) entry.notes
          (notes_then body.tree.now entered.emission.is_called.items
          listed.emission.is_called.items called list.list
          end.list list.notes end.notes))));
    }

-- a main program is written part by part
pub main_added :
    (tree : TreeModule) (label : LabelNumber) (body : Body) (site last : Site)
    (before begun labelled ready listed after : Generator)
    → body.tree.now ≡ tree
    → body.procedure.now ≡ tree.main
    → HasNothing body.frame.now
    → body.first_label ≡ label_of before.emission.steps.labels
    → begun.emission ≡ record (before.emission) { steps = begun.emission.steps }
    → begun.emission.steps.labels ≡ label_after before.emission.steps.labels tree.main.label_count
    → EmitsSteps site (steps.Mark label ∷ []) begun.emission labelled.emission
    → Writes labelled.emission.writer ready.emission.writer (stack_end_item (LoadPair Sp) ∷ [])
    → ready.emission ≡ record (labelled.emission) { writer = ready.emission.writer }
    → AddsList body tree.main.body ready listed
    → EmitsSteps last (steps.Plain Hlt ∷ []) listed.emission after.emission
    → AddsMain tree label.index before after
main_added tree label body site last before begun labelled ready listed after tree_is
    procedure_is frame named same
    labels emits stack kept list halts =
    let called : List Bool = after.emission.is_called.items in
    let mark = marked site label begun.emission labelled.emission emits in
    let facts : ready.emission.facts ≡ no_facts = ap (λ (at : Emission). at.facts) kept ∙ mark.facts in
    let table : ready.emission.is_called.items ≡ labelled.emission.is_called.items =
    ap (λ (at : Emission). at.is_called.items) kept in
    let from : ℕ = label_after before.emission.steps.labels tree.main.label_count in
    let begins : ready.emission.steps.labels ≡ from =
    ap (λ (at : Emission). at.steps.labels) kept ∙ (mark.labels ∙ labels) in
    let next : ℕ = after.emission.steps.labels in
    let ends : next ≡ listed.emission.steps.labels =
    plain_labels halts.written listed.emission.steps.labels next halts.labels in
    let written : LabelledList body called no_facts tree.main.body list.list (here_of listed) from next =
    subst (λ at. LabelledList body called no_facts tree.main.body list.list (here_of listed) from at)
    (sym ends)
    (subst (λ at. LabelledList body called no_facts tree.main.body list.list (here_of listed) at
    listed.emission.steps.labels) begins
    (subst (λ at. LabelledList body called at tree.main.body list.list (here_of listed)
    ready.emission.steps.labels
    listed.emission.steps.labels) facts
    (labelled_list_kept called halts.called ready.emission.steps.labels
    listed.emission.steps.labels list.written))) in
    let code : IsMainCode tree called label.index
    (items.Mark label.index ∷ stack_end_item (LoadPair Sp) ∷ (list.list ++ (items.Plain Hlt ∷ []))) =
    record {
      body = body;
      tree_is = tree_is;
      procedure_is = procedure_is;
      frame = frame;
      statements = list.list;
      last = here_of listed;
      written = written.0;
      list_is = refl;
    } in
    let halt : Writes listed.emission.writer after.emission.writer (items.Plain Hlt ∷ []) =
    subst (Writes listed.emission.writer after.emission.writer) (plain_is halts.written) halts.writes in
    record {
      list = items.Mark label.index ∷ stack_end_item (LoadPair Sp) ∷ (list.list ++ (items.Plain Hlt ∷ []));
      writes =
          subst
          (λ (from : Emission). Writes from.writer after.emission.writer
          (items.Mark label.index ∷ stack_end_item (LoadPair Sp) ∷ (list.list ++ (items.Plain Hlt ∷ []))))
          same
          (writes_then begun.emission.writer labelled.emission.writer after.emission.writer
          (items.Mark label.index ∷ []) (stack_end_item (LoadPair Sp) ∷ (list.list ++ (items.Plain Hlt ∷ [])))
          mark.writes
          (writes_then labelled.emission.writer ready.emission.writer after.emission.writer
          (stack_end_item (LoadPair Sp) ∷ []) (list.list ++ (items.Plain Hlt ∷ [])) stack
          (writes_then ready.emission.writer listed.emission.writer after.emission.writer list.list
          (items.Plain Hlt ∷ []) list.writes halt)));
      written = (code, record { named = named; written = written.1 });
      called =
          subst (λ (from : Emission). HasAll from.is_called.items called) same
          (λ routine given. halts.called routine (list.called routine
          (subst (λ at. HasAll labelled.emission.is_called.items at) (sym table)
          (λ one is. is) routine (mark.called routine given))));
      notes =
          subst
          (λ (from : Emission). NotesCalled tree from.is_called.items called
          (items.Mark label.index ∷ stack_end_item (LoadPair Sp) ∷ (list.list ++ (items.Plain Hlt ∷ []))))
          same
          (subst
          (λ (at : TreeModule). NotesCalled at begun.emission.is_called.items called
          (items.Mark label.index ∷ stack_end_item (LoadPair Sp) ∷ (list.list ++ (items.Plain Hlt ∷ []))))
          tree_is
          (notes_then body.tree.now begun.emission.is_called.items labelled.emission.is_called.items called
          (items.Mark label.index ∷ []) (stack_end_item (LoadPair Sp) ∷ (list.list ++ (items.Plain Hlt ∷ [])))
          (mark.notes body.tree.now)
          (notes_then body.tree.now labelled.emission.is_called.items ready.emission.is_called.items called
          (stack_end_item (LoadPair Sp) ∷ []) (list.list ++ (items.Plain Hlt ∷ []))
          (none_noted body.tree.now labelled.emission ready.emission (stack_end_item (LoadPair Sp) ∷ [])
          (ap (λ (at : Emission). at.is_called) kept))
          (notes_then body.tree.now ready.emission.is_called.items
          listed.emission.is_called.items called list.list
          (items.Plain Hlt ∷ []) list.notes
          (alone_noted last.tree.now body.tree.now listed.emission.is_called.items called
          halts.list (items.Plain Hlt)
          (λ routine. refl) (plain_is halts.written) halts.notes)))));
    }

-- no code is added for an EXTERNAL procedure
pub external_added :
    (tree : TreeModule) (number name : ℕ) (procedure : TreeProcedure) (before : Generator)
    → procedure.kind ≡ kinds.External name
    → AddsProcedure tree number procedure before before
external_added tree number name procedure before kind = record {
  list = [];
  writes = writes_nothing before.emission.writer;
  written =
      subst
      (λ at. LabelledCode tree before.emission.is_called.items number procedure at []
      before.emission.steps.labels
      before.emission.steps.labels)
      (sym kind) (refl, refl);
  called = has_itself before.emission.is_called.items;
  notes = λ routine given. inl given;
}

-- its own code is added for any other
pub procedure_added :
    (tree : TreeModule) (number : ℕ) (procedure : TreeProcedure) (before after : Generator) {E : Type 0}
    (result : Result (Unit {0}) E)
    → (procedure.kind ≡ kinds.Static) ⊎ (procedure.kind ≡ kinds.Reentrant)
    → OnOk result (AddsOwn tree number procedure before after)
    → OnOk result (AddsProcedure tree number procedure before after)
procedure_added tree number procedure before after (Ok done) kind adds =
    let called : List Bool = after.emission.is_called.items in
    let label : ℕ = before.emission.steps.labels in
    let next : ℕ = after.emission.steps.labels in
    record {
      list = adds.list;
      writes = adds.writes;
      written = elim kind [
        | inl static ↦
            subst (λ at. LabelledCode tree called number procedure at adds.list label next)
            (sym static) adds.written
        | inr reentrant ↦
            subst (λ at. LabelledCode tree called number procedure at adds.list label next)
            (sym reentrant) adds.written
      ];
      called = adds.called;
      notes = adds.notes;
    }
procedure_added tree number procedure before after (Err fault) kind adds = adds
