-- The code of statements as it is written step by step.
use Rattle.codegen8080.proofs.Prelude.{◌≡◌, ℕ, suc, ◌+◌, ◌-◌, ◌≤◌, ◌<◌, inl, Bool, true, List, [], ◌++◌, length, Option, Some, None, Result, Ok, Err, OnOk, slice_get, drop, refl, sym, ap, subst, ◌∙◌, arith, append_assoc, append-nil, drop_at, drop_all, IfOk, Item, Range, TreeStatement, StatementNumber, Facts, Step, label_after, Writes, writes_nothing, writes_then, Site, Emission, knowing, EmitsSteps, HasAll, NotesCalled, are_kept, are_labels_kept, emits_then, has_itself, none_is, notes_then, Body, Planned, Generator, Here, AddsList, AddsPlanned, AddsStatement, AddsStep, here_of, AreAllCarriedOut, AreCarriedOut, HoldsNoStatement, IsCarriedOut, IsListCarriedOut, ListCarriedOut, ListPlanned, MoreStatements, NoStatements, NoneCarriedOut, StatementCarriedOut, StatementPlanned, StepCarriedOut, carried_steps, here_after, site_of, waiting_after, AreAllLabelled, AreStepsLabelled, IsListLabelled, IsStatementLabelled, LabelledList, LabelledStatement, LabelledStatements, LabelledSteps, statement_labels, statement_steps, CarriesOut, drop_found}
use Rattle.treecode.specs.internal.Nodes.{nodes_of}
use Rattle.statements8080.specs.declared.plan.Planned.TheVariants as planned
use Rattle.codegen8080.specs.internal.Standing.{StepsStand}
use Rattle.codegen8080.proofs.Standing.{step_there}

-- steps that may not be added, after others
pub emits_after : (site : Site) (first second : List Step) (before between after : Emission)
    {E : Type 0} (result : Result (Unit {0}) E)
    → EmitsSteps site first before between
    → OnOk result (EmitsSteps site second between after)
    → OnOk result (EmitsSteps site (first ++ second) before after)
emits_after site first second before between after (Ok done) here next =
    emits_then site first second before between after here next
emits_after site first second before between after (Err fault) here next = next

-- Code that is written with some routines called is also written with more, with the same labels.
module _ {body : Body} {called : List Bool} (wider : List Bool) (more : HasAll called wider) where
  mutual
    steps_kept : {here last : Here} {waiting : Option Facts} {steps : List Planned} {items : List Item}
        (code : AreCarriedOut body called here waiting steps items last) (label next : ℕ)
        → AreStepsLabelled code label next
        → LabelledSteps body wider here waiting steps items last label next
    steps_kept NoneCarriedOut label next labels = (NoneCarriedOut, labels)
    steps_kept (StepCarriedOut alone first others) label next labels =
        let kept = steps_kept others labels.0 next labels.2 in (
          StepCarriedOut alone (are_kept more first) kept.0,
          (labels.0, are_labels_kept wider more label labels.0 first labels.1, kept.1),
        )
    steps_kept (StatementCarriedOut first others) label next labels =
        let one = statement_kept first label labels.0 labels.1 in
        let kept = steps_kept others labels.0 next labels.2 in
        (StatementCarriedOut one.0 kept.0, (labels.0, one.1, kept.1))
    steps_kept (ListCarriedOut first others) label next labels =
        let one = list_kept first label labels.0 labels.1 in
        let kept = steps_kept others labels.0 next labels.2 in
        (ListCarriedOut one.0 kept.0, (labels.0, one.1, kept.1))

    statement_kept : {facts : Facts} {number : StatementNumber} {items : List Item} {last : Here}
        (code : IsCarriedOut body called facts number items last) (label next : ℕ)
        → IsStatementLabelled code label next
        → LabelledStatement body wider facts number items last label next
    statement_kept (StatementPlanned first at steps) label next labels =
        let kept = steps_kept steps _ next labels.1 in
        (StatementPlanned first at kept.0, (labels.0, kept.1))

    list_kept : {facts : Facts} {range : Range} {items : List Item} {last : Here}
        (code : IsListCarriedOut body called facts range items last) (label next : ℕ)
        → IsListLabelled code label next
        → LabelledList body wider facts range items last label next
    list_kept (ListPlanned statements) label next labels =
        let kept = statements_kept statements label next labels in
        (ListPlanned kept.0, kept.1)

    statements_kept : {here last : Here} {first count : ℕ} {items : List Item}
        (code : AreAllCarriedOut body called here first count items last) (label next : ℕ)
        → AreAllLabelled code label next
        → LabelledStatements body wider here first count items last label next
    statements_kept NoStatements label next labels = (NoStatements, labels)
    statements_kept (MoreStatements at first others) label next labels =
        let one = statement_kept first label labels.0 labels.1 in
        let kept = statements_kept others labels.0 next labels.2 in
        (MoreStatements at one.0 kept.0, (labels.0, one.1, kept.1))

  pub labelled_steps_kept : {here last : Here} {waiting : Option Facts}
      {steps : List Planned} {items : List Item}
      (label next : ℕ)
      → LabelledSteps body called here waiting steps items last label next
      → LabelledSteps body wider here waiting steps items last label next
  labelled_steps_kept label next code = steps_kept code.0 label next code.1

  pub labelled_statement_kept : {facts : Facts} {number : StatementNumber} {items : List Item} {last : Here}
      (label next : ℕ)
      → LabelledStatement body called facts number items last label next
      → LabelledStatement body wider facts number items last label next
  labelled_statement_kept label next code = statement_kept code.0 label next code.1

  pub labelled_list_kept : {facts : Facts} {range : Range} {items : List Item} {last : Here}
      (label next : ℕ)
      → LabelledList body called facts range items last label next
      → LabelledList body wider facts range items last label next
  labelled_list_kept label next code = list_kept code.0 label next code.1

-- a planned step that is neither a statement nor a list holds no statement
pub holds_none : (step : Planned)
    → ((number : StatementNumber) → step ≡ planned.Statement number → ⊥)
    → ((list : Range) → step ≡ planned.List list → ⊥)
    → HoldsNoStatement step
holds_none (planned.Code step) no_statement no_list = tt
holds_none (planned.LoadByte reference) no_statement no_list = tt
holds_none (planned.LoadWord reference) no_statement no_list = tt
holds_none (planned.JumpOn label) no_statement no_list = tt
holds_none (planned.Turn other end) no_statement no_list = tt
holds_none (planned.Meet label) no_statement no_list = tt
holds_none (planned.Again label facts is_entered) no_statement no_list = tt
holds_none (planned.Jumped is_the_only_one) no_statement no_list = tt
holds_none (planned.Reaches goes_on) no_statement no_list = tt
holds_none (planned.Statement number) no_statement no_list = absurd (no_statement number refl)
holds_none (planned.List list) no_statement no_list = absurd (no_list list refl)

module _ (body : Body) (waiting : Option Facts) (before after : Generator) where
  -- a step that holds no statement is carried out
  pub step_carried : (step : Planned) (waits : Option Facts)
      → AddsStep body step waiting before after waits
      → HoldsNoStatement step
      → CarriesOut body step waiting before after waits
  step_carried step waits adds alone =
      let written : Emission = adds.written in
      let emission : Emission = record written { facts = after.emission.facts } in
      let same : emission ≡ after.emission = sym adds.emission in
      record {
        list = adds.emits.list;
        writes = subst (λ (to : Emission). Writes before.emission.writer to.writer adds.emits.list) same
            adds.emits.writes;
        followed = λ called others more last next wider rest.
            let kept : HasAll written.is_called.items called =
            subst (λ (to : Emission). HasAll to.is_called.items called) (sym same) wider in
            let left : LabelledSteps body called (here_after (here_of before) waiting written.facts step)
            (waiting_after (here_of before) waiting step) others more last written.steps.labels next =
            subst (λ here. LabelledSteps body called here
            (waiting_after (here_of before) waiting step) others more last
            written.steps.labels next)
            adds.here
            (subst (λ at. LabelledSteps body called (here_of after) at others more last
            written.steps.labels next)
            adds.waiting_is
            (subst (λ (to : Emission). LabelledSteps body called (here_of after) waits others more
            last to.steps.labels
            next) (sym same) rest)) in (
              StepCarriedOut alone (are_kept kept adds.emits.written) left.0,
              (
                written.steps.labels,
                are_labels_kept called kept before.emission.steps.labels
                    written.steps.labels adds.emits.written
                    adds.emits.labels,
                left.1,
              ),
            );
        called = subst (λ (to : Emission). HasAll before.emission.is_called.items to.is_called.items) same
            adds.emits.called;
        notes =
            subst
            (λ (to : Emission). NotesCalled body.tree.now before.emission.is_called.items to.is_called.items
            adds.emits.list)
            same adds.emits.notes;
        plan = ap (λ at. at.list.items) adds.plan;
      }

  pub step_carried_if : (step : Planned) {E : Type 0} (result : Result (Option Facts) E)
      → IfOk result (λ waits. AddsStep body step waiting before after waits)
      → HoldsNoStatement step
      → IfOk result (λ waits. CarriesOut body step waiting before after waits)
  step_carried_if step (Ok waits) adds alone = step_carried step waits adds alone
  step_carried_if step (Err fault) adds alone = adds

  -- a statement is carried out
  pub statement_carried : (number : StatementNumber)
      → AddsStatement body number before after
      → after.plan.list.items ≡ before.plan.list.items
      → CarriesOut body (planned.Statement number) waiting before after waiting
  statement_carried number adds plan = record {
    list = adds.list;
    writes = adds.writes;
    followed = λ called others more last next wider rest.
        let first =
        labelled_statement_kept called wider before.emission.steps.labels
        after.emission.steps.labels adds.written in
        (StatementCarriedOut first.0 rest.0, (after.emission.steps.labels, first.1, rest.1));
    called = adds.called;
    notes = adds.notes;
    plan = plan;
  }

  -- a list is carried out
  pub list_carried : (list : Range)
      → AddsList body list before after
      → after.plan.list.items ≡ before.plan.list.items
      → CarriesOut body (planned.List list) waiting before after waiting
  list_carried list adds plan = record {
    list = adds.list;
    writes = adds.writes;
    followed = λ called others more last next wider rest.
        let first =
        labelled_list_kept called wider before.emission.steps.labels
        after.emission.steps.labels adds.written in
        (ListCarriedOut first.0 rest.0, (after.emission.steps.labels, first.1, rest.1));
    called = adds.called;
    notes = adds.notes;
    plan = plan;
  }

-- the code added for a step that holds no statement
pub step_added : (body : Body) (step : Planned) (waiting waits : Option Facts) (before after : Generator)
    (written : Emission) (here : Here)
    → EmitsSteps (site_of body) (carried_steps (site_of body) (here_of before) step) before.emission written
    → here ≡ here_after (here_of before) waiting written.facts step
    → after ≡ record before { emission = record written { facts = here.facts }; goes_on = here.goes_on }
    → waits ≡ waiting_after (here_of before) waiting step
    → AddsStep body step waiting before after waits
step_added body step waiting waits before after written here emits arrives same wait = record {
  written = written;
  emits = emits;
  emission = ap (λ (to : Generator). to.emission) same
      ∙ ap (λ (facts : Facts). record written { facts = facts })
      (sym (ap (λ (to : Generator). to.emission.facts) same));
  here = ap here_of same ∙ arrives;
  waiting_is = wait;
  plan = ap (λ (to : Generator). to.plan) same;
}

-- Planned steps from one on are being carried out; those from an index on remain.
pub record IsCarrying
    (body : Body) (before now : Generator) (waiting : Option Facts) (start index : ℕ) : Type 0 where
  pub list : List Item
  pub writes : Writes before.emission.writer now.emission.writer list
  pub left : (called : List Bool) (more : List Item) (last : Here) (next : ℕ)
      → HasAll now.emission.is_called.items called
      → LabelledSteps body called (here_of now) waiting (drop index now.plan.list.items) more last
      now.emission.steps.labels next
      → LabelledSteps body called (here_of before) None
      (drop start before.plan.list.items) (list ++ more) last
      before.emission.steps.labels next
  pub called : HasAll before.emission.is_called.items now.emission.is_called.items
  pub notes : NotesCalled body.tree.now before.emission.is_called.items now.emission.is_called.items list
  pub plan : now.plan.list.items ≡ before.plan.list.items

-- The same for steps that stand: those that remain stand too.
pub record IsCarryingBelow
    (bound : ℕ) (body : Body) (before now : Generator) (waiting : Option Facts) (start index : ℕ) : Type 0 where
  pub carrying : IsCarrying body before now waiting start index
  pub stand : StepsStand (nodes_of body.tree.now) bound (drop index now.plan.list.items)

pub carrying_begins : (body : Body) (before : Generator) (start : ℕ)
    → IsCarrying body before before None start start
carrying_begins body before start = record {
  list = [];
  writes = writes_nothing before.emission.writer;
  left = λ called more last next wider rest. rest;
  called = has_itself before.emission.is_called.items;
  notes = λ routine given. inl given;
  plan = refl;
}

module _ (body : Body) (before now : Generator) (waiting : Option Facts) (start index : ℕ) where
  pub step_passed : (next : Generator) (waits : Option Facts) (step : Planned)
      → IsCarrying body before now waiting start index
      → slice_get now.plan.list.items index ≡ Some step
      → CarriesOut body step waiting now next waits
      → IsCarrying body before next waits start (index + 1)
  step_passed next waits step so_far is carries =
      let steps : List Planned = now.plan.list.items in
      record {
        list = so_far.list ++ carries.list;
        writes = writes_then before.emission.writer now.emission.writer next.emission.writer so_far.list
            carries.list so_far.writes carries.writes;
        left = λ called more last end wider rest.
            subst (λ all. LabelledSteps body called (here_of before) None
            (drop start before.plan.list.items) all last
            before.emission.steps.labels end)
            (sym (append_assoc so_far.list carries.list more))
            (so_far.left called (carries.list ++ more) last end
            (λ routine given. wider routine (carries.called routine given))
            (subst (λ left. LabelledSteps body called (here_of now) waiting left (carries.list ++ more) last
            now.emission.steps.labels end)
            (sym (drop_found steps index step is))
            (carries.followed called (drop (index + 1) steps) more last end wider
            (subst (λ at. LabelledSteps body called (here_of next) waits (drop (index + 1) at) more last
            next.emission.steps.labels end)
            carries.plan rest))));
        called = λ routine given. carries.called routine (so_far.called routine given);
        notes =
            notes_then body.tree.now before.emission.is_called.items now.emission.is_called.items
            next.emission.is_called.items so_far.list carries.list so_far.notes carries.notes;
        plan = carries.plan ∙ so_far.plan;
      }

  pub none_passed :
      IsCarrying body before now waiting start index
      → slice_get now.plan.list.items index ≡ None
      → IsCarrying body before now waiting start (index + 1)
  none_passed so_far none = record {
    list = so_far.list;
    writes = so_far.writes;
    left = λ called more last next wider rest.
        so_far.left called more last next wider
        (subst (λ left. LabelledSteps body called (here_of now) waiting left more last
        now.emission.steps.labels next)
        (sym (none_is now.plan.list.items index none)) rest);
    called = so_far.called;
    notes = so_far.notes;
    plan = so_far.plan;
  }

  -- the steps that remain stand too
  pub step_passed_below : (bound : ℕ) (next : Generator) (waits : Option Facts) (step : Planned)
      → IsCarryingBelow bound body before now waiting start index
      → slice_get now.plan.list.items index ≡ Some step
      → CarriesOut body step waiting now next waits
      → IsCarryingBelow bound body before next waits start (index + 1)
  step_passed_below bound next waits step so_far is carries = record {
    carrying = step_passed next waits step so_far.carrying is carries;
    stand = subst (λ (steps : List Planned). StepsStand (nodes_of body.tree.now) bound (drop (index + 1) steps))
        (sym carries.plan) (step_there now.plan.list.items index step is so_far.stand).1;
  }

  pub none_passed_below : (bound : ℕ)
      → IsCarryingBelow bound body before now waiting start index
      → slice_get now.plan.list.items index ≡ None
      → IsCarryingBelow bound body before now waiting start (index + 1)
  none_passed_below bound so_far none = record {
    carrying = none_passed so_far.carrying none;
    stand = subst (λ (steps : List Planned). StepsStand (nodes_of body.tree.now) bound steps)
        (none_is now.plan.list.items index none) so_far.stand;
  }

  pub carrying_ends : (after : Generator)
      → IsCarrying body before now waiting start index
      → length before.plan.list.items ≤ index
      → after.emission ≡ now.emission
      → after.goes_on ≡ now.goes_on
      → AddsPlanned body (drop start before.plan.list.items) before after
  carrying_ends after so_far done emission goes_on =
      let called : List Bool = now.emission.is_called.items in
      let steps : List Planned = drop start before.plan.list.items in
      let none : drop index now.plan.list.items ≡ [] =
      drop_all index now.plan.list.items (omega (arith, ap length so_far.plan, done)) in
      let label : ℕ = before.emission.steps.labels in
      let next : ℕ = now.emission.steps.labels in
      let written : LabelledSteps body called (here_of before) None steps so_far.list
      (here_of now) label next =
      subst (λ all. LabelledSteps body called (here_of before) None steps all (here_of now) label next)
      (append-nil so_far.list)
      (so_far.left called [] (here_of now) next (has_itself called)
      (subst (λ left. LabelledSteps body called (here_of now) waiting left [] (here_of now) next next)
      (sym none)
      (NoneCarriedOut, refl))) in
      record {
        list = so_far.list;
        writes = subst (λ (to : Emission). Writes before.emission.writer to.writer so_far.list) (sym emission)
            so_far.writes;
        written =
            subst (λ goes. LabelledSteps body after.emission.is_called.items (here_of before)
            None steps so_far.list
            (record { facts = after.emission.facts; goes_on = goes }) label
            after.emission.steps.labels) (sym goes_on)
            (subst (λ (to : Emission). LabelledSteps body to.is_called.items (here_of before)
            None steps so_far.list
            (record { facts = to.facts; goes_on = now.goes_on }) label to.steps.labels)
            (sym emission) written);
        called =
            subst (λ (to : Emission). HasAll before.emission.is_called.items to.is_called.items)
            (sym emission)
            so_far.called;
        notes =
            subst
            (λ (to : Emission). NotesCalled body.tree.now before.emission.is_called.items to.is_called.items
            so_far.list)
            (sym emission) so_far.notes;
      }

-- a statement is carried out by the steps that are planned for it
pub statement_added : (body : Body) (number : StatementNumber) (statement : TreeStatement)
    (before ready after : Generator)
    → slice_get body.tree.now.statements.items number.index ≡ Some statement
    → ready.emission ≡ record (before.emission) { steps = ready.emission.steps }
    → ready.emission.steps.labels ≡ label_after before.emission.steps.labels
    (statement_labels body (knowing (site_of body) before.emission.facts) statement)
    → ready.goes_on ≡ true
    → ready.plan.list.items ≡ before.plan.list.items
    ++ statement_steps body (knowing (site_of body) before.emission.facts) statement
    before.emission.steps.labels
    → AddsPlanned body (drop (length before.plan.list.items) ready.plan.list.items) ready after
    → AddsStatement body number before after
statement_added body number statement before ready after at emission labels goes_on plan adds =
    let label : ℕ = before.emission.steps.labels in
    let next : ℕ = after.emission.steps.labels in
    let steps : List Planned =
    statement_steps body (knowing (site_of body) before.emission.facts) statement label in
    let called : List Bool = after.emission.is_called.items in
    let left : drop (length before.plan.list.items) ready.plan.list.items ≡ steps =
    ap (drop (length before.plan.list.items)) plan
    ∙ drop_at before.plan.list.items steps (length before.plan.list.items) refl in
    let here : Here = record { facts = before.emission.facts; goes_on = true } in
    let from : ℕ =
    label_after label (statement_labels body (knowing (site_of body) before.emission.facts) statement) in
    let written : LabelledSteps body called here None steps adds.list (here_of after) from next =
    subst (λ first. LabelledSteps body called here None steps adds.list (here_of after) first next) labels
    (subst (λ (from : Emission). LabelledSteps body called
    (record { facts = from.facts; goes_on = true }) None
    steps adds.list (here_of after) ready.emission.steps.labels next) emission
    (subst (λ goes. LabelledSteps body called (record { facts = ready.emission.facts; goes_on = goes }) None
    steps adds.list (here_of after) ready.emission.steps.labels next) goes_on
    (subst (λ all. LabelledSteps body called (here_of ready) None all adds.list (here_of after)
    ready.emission.steps.labels next) left adds.written))) in
    record {
      list = adds.list;
      writes =
          subst (λ (from : Emission). Writes from.writer after.emission.writer adds.list)
          emission adds.writes;
      written = (StatementPlanned label at written.0, (refl, written.1));
      called = subst (λ (from : Emission). HasAll from.is_called.items called) emission adds.called;
      notes = subst (λ (from : Emission). NotesCalled body.tree.now from.is_called.items called adds.list)
          emission
          adds.notes;
    }

pub statement_added_if : (body : Body) (number : StatementNumber) (statement : TreeStatement) (start : ℕ)
    (before ready after : Generator) {E : Type 0} (result : Result (Unit {0}) E)
    → slice_get body.tree.now.statements.items number.index ≡ Some statement
    → ready.emission ≡ record (before.emission) { steps = ready.emission.steps }
    → ready.emission.steps.labels ≡ label_after before.emission.steps.labels
    (statement_labels body (knowing (site_of body) before.emission.facts) statement)
    → ready.goes_on ≡ true
    → ready.plan.list.items ≡ before.plan.list.items
    ++ statement_steps body (knowing (site_of body) before.emission.facts) statement
    before.emission.steps.labels
    → start ≡ length before.plan.list.items
    → OnOk result (AddsPlanned body (drop start ready.plan.list.items) ready after)
    → OnOk result (AddsStatement body number before after)
statement_added_if body number statement start before ready after (Ok done) at emission labels
    goes_on plan begins adds =
    statement_added body number statement before ready after at emission labels goes_on plan
    (subst (λ from. AddsPlanned body (drop from ready.plan.list.items) ready after) begins adds)
statement_added_if body number statement start before ready after (Err fault) at emission
    labels goes_on plan begins
    adds =
    adds

-- The statements of a list are being written; those from an index on remain.
pub record IsListing (body : Body) (range : Range) (before now : Generator) (index : ℕ) : Type 0 where
  pub list : List Item
  pub writes : Writes before.emission.writer now.emission.writer list
  pub left : (called : List Bool) (more : List Item) (last : Here) (next : ℕ)
      → HasAll now.emission.is_called.items called
      → LabelledStatements body called (here_of now) (range.first + index) (range.count - index) more last
      now.emission.steps.labels next
      → LabelledList body called before.emission.facts range (list ++ more) last
      before.emission.steps.labels next
  pub called : HasAll before.emission.is_called.items now.emission.is_called.items
  pub notes : NotesCalled body.tree.now before.emission.is_called.items now.emission.is_called.items list
  pub plan : now.plan.list.items ≡ before.plan.list.items

module _ (body : Body) (range : Range) (before now : Generator) where
  pub listing_begins : now ≡ record before { goes_on = true } → IsListing body range before now 0
  listing_begins same =
      let first : range.first + 0 ≡ range.first = omega arith in
      let count : range.count - 0 ≡ range.count = omega arith in
      subst (λ (to : Generator). IsListing body range before to 0) (sym same) (record {
        list = [];
        writes = writes_nothing before.emission.writer;
        left = λ called more last next wider rest.
            let label : ℕ = before.emission.steps.labels in
            let all : LabelledStatements body called
            (record { facts = before.emission.facts; goes_on = true })
            range.first range.count more last label next =
            subst (λ at. LabelledStatements body called
            (record { facts = before.emission.facts; goes_on = true }) at
            range.count more last label next) first
            (subst (λ at. LabelledStatements body called
            (record { facts = before.emission.facts; goes_on = true })
            (range.first + 0) at more last label next) count rest) in
            (ListPlanned all.0, all.1);
        called = has_itself before.emission.is_called.items;
        notes = λ routine given. inl given;
        plan = refl;
      })

  module _ (index : ℕ) (so_far : IsListing body range before now index) where
    pub statement_passed : (next : Generator) (number : StatementNumber)
        → index < range.count
        → slice_get body.tree.now.lists.items (range.first + index) ≡ Some number
        → AddsStatement body number now next
        → next.plan.list.items ≡ now.plan.list.items
        → IsListing body range before next (index + 1)
    statement_passed next number below at adds plan =
        let following : range.first + (index + 1) ≡ suc (range.first + index) = omega arith in
        let one_more : range.count - index ≡ suc (range.count - (index + 1)) = omega (arith, below) in
        record {
          list = so_far.list ++ adds.list;
          writes = writes_then before.emission.writer now.emission.writer next.emission.writer so_far.list
              adds.list so_far.writes adds.writes;
          left = λ called more last end wider rest.
              let first =
              labelled_statement_kept called wider now.emission.steps.labels
              next.emission.steps.labels adds.written in
              let others : LabelledStatements body called (here_of next) (suc (range.first + index))
              (range.count - (index + 1)) more last next.emission.steps.labels end =
              subst (λ first. LabelledStatements body called (here_of next) first
              (range.count - (index + 1)) more last
              next.emission.steps.labels end)
              following rest in
              subst (λ all. LabelledList body called before.emission.facts range all last
              before.emission.steps.labels
              end)
              (sym (append_assoc so_far.list adds.list more))
              (so_far.left called (adds.list ++ more) last end
              (λ routine given. wider routine (adds.called routine given))
              (subst (λ count. LabelledStatements body called (here_of now) (range.first + index) count
              (adds.list ++ more) last now.emission.steps.labels end) (sym one_more)
              (MoreStatements at first.0 others.0, (next.emission.steps.labels, first.1, others.1))));
          called = λ routine given. adds.called routine (so_far.called routine given);
          notes =
              notes_then body.tree.now before.emission.is_called.items now.emission.is_called.items
              next.emission.is_called.items so_far.list adds.list so_far.notes adds.notes;
          plan = plan ∙ so_far.plan;
        }

    pub listing_ends : range.count ≤ index → AddsList body range before now
    listing_ends done =
        let called : List Bool = now.emission.is_called.items in
        let next : ℕ = now.emission.steps.labels in
        let none : range.count - index ≡ 0 = omega (arith, done) in
        record {
          list = so_far.list;
          writes = so_far.writes;
          written =
              subst (λ all. LabelledList body called before.emission.facts range all (here_of now)
              before.emission.steps.labels next)
              (append-nil so_far.list)
              (so_far.left called [] (here_of now) next (has_itself called)
              (subst (λ count. LabelledStatements body called (here_of now) (range.first + index)
              count [] (here_of now)
              next next)
              (sym none) (NoStatements, refl)));
          called = so_far.called;
          notes = so_far.notes;
        }
