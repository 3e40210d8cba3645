-- The code of a module, from the code of its parts.
use Rattle.codegen8080.proofs.Prelude.{◌≡◌, ℕ, suc, ◌+◌, inl, inr, Bool, true, false, List, [], ◌∷◌, ◌++◌, Option, Some, None, Result, Ok, Err, OnOk, slice_get, length, take, drop, ◌-◌, ◌<◌, arith, refl, sym, ap, subst, ◌∙◌, append_assoc, append-nil, add-one, option_map, none-some, Item, Routine, Content, TreeModule, ProcedureKind, TreeProcedure, Extends, entry, no_facts, label_after, Written, Writes, in_front, items_stay, writes_nothing, writes_then, has_routine, index_of_routine, module_routine_label, HasAll, IsEmpty, NotesCalled, has_itself, none_noted, notes_then, Generator, LabelledList, LabelledSteps, AreRoutines, IsCodeOfRoutine, IsCodeWritten, IsMainCode, IsMainLabelled, IsOwnCode, IsProcedureCode, IsProcedureLabelled, all_routines, content_items, contents_items, has_main, entry_labels, entry_steps, AddsCalled, AddsCodeOfMain, AddsMain, AddsOwnCode, AddsProcedure, AddsProcedures, AddsRoutineIf, AddsRoutines, LabelledCode, LabelledCodeOfMain, LabelledEnd, LabelledProcedure, LabelledProcedures, same_Some}
use Rattle.std.proofs.Common.{◌==◌, ◌≤◌, ◌⊎◌}
use Rattle.std.proofs.lemmas.Bool.{cases_lt, eqb-true}
use Rattle.asm8080.specs.Assembled.{AllBound}
use Rattle.asm8080.specs.Items.{is_bound}
use Rattle.steps8080.proofs.{Binding.{true_of}, Labels.{all_off}, Numbered.{false_by, not_both}}
use Rattle.steps8080.specs.internal.Writer.{AreWritable, CountsNamed, GrowsFor, is_marked, name_label, numbered}
use Rattle.exprgen8080.specs.internal.Emission.{module_label_of_routine}
use Rattle.codegen8080.specs.internal.Bodies.{AreFree, IsLabelOf}
use Rattle.codegen8080.specs.internal.ItemLabels.{ItemsBind}
use Rattle.codegen8080.specs.internal.Modules.{IsWrittenWith}
use Rattle.codegen8080.specs.internal.Sources.{IsOfModule}
use Rattle.codegen8080.specs.internal.Standing.{AllStand}
use Rattle.codegen8080.proofs.BoundModules.{contents_unbound, own_code_bound}
use Rattle.codegen8080.proofs.NamedItems.{contents_named, own_code_named, own_names}
use Rattle.codegen8080.proofs.PlacedLabels.{all_bound, bound_after, bound_binds, bound_first}
use Rattle.asm8080.specs.declared.item.Item.TheVariants as items
use Rattle.treecode.specs.declared.procedure.ProcedureKind.TheVariants as kinds
use Rattle.codegen8080.proofs.BodyParts.{end_kept}
use Rattle.codegen8080.proofs.Driving.{labelled_list_kept, labelled_steps_kept}

-- as many items of a list as it has are the list
pub take_all : {A : Type 0} (list : List A) (count : ℕ) → count ≡ length list → take count list ≡ list
take_all [] count same = ap (λ number. take number []) same
take_all (first ∷ others) count same =
    ap (λ number. take number (first ∷ others)) same
    ∙ ap (λ rest. first ∷ rest) (take_all others (length others) refl)

-- The contents of a segment are being added; some of them remain.
pub record IsPutting (before now : Written) (whole left : List Content) : Type 0 where
  pub list : List Item
  pub writes : Writes before now list
  pub left_is : list ++ contents_items left ≡ contents_items whole

pub putting_begins : (before : Written) (whole : List Content) → IsPutting before before whole whole
putting_begins before whole = record { list = []; writes = writes_nothing before; left_is = refl }

pub putting_goes_on :
    (before now next : Written) (whole : List Content) (content : Content) (others : List Content)
    → IsPutting before now whole (content ∷ others)
    → Writes now next (content_items content)
    → IsPutting before next whole others
putting_goes_on before now next whole content others putting writes = record {
  list = putting.list ++ content_items content;
  writes = writes_then before now next putting.list (content_items content) putting.writes writes;
  left_is = append_assoc putting.list (content_items content) (contents_items others) ∙ putting.left_is;
}

pub putting_step :
    (before now next : Written) (whole left : List Content) (content : Content)
    → slice_get left 0 ≡ Some content
    → IsPutting before now whole left
    → Writes now next (content_items content)
    → IsPutting before next whole (take (length left - 1) (drop 1 left))
putting_step before now next whole [] content at putting writes = absurd (none-some content at)
putting_step before now next whole (first ∷ others) content at putting writes =
    subst (IsPutting before next whole) (sym (take_all others (length (first ∷ others) - 1) (omega arith)))
    (putting_goes_on before now next whole first others putting
    (subst (λ one. Writes now next (content_items one)) (same_Some content first (sym at)) writes))

pub putting_ends :
    (before now : Written) (whole : List Content)
    → IsPutting before now whole []
    → Writes before now (contents_items whole)
putting_ends before now whole putting =
    subst (Writes before now) (sym (append-nil putting.list) ∙ putting.left_is) putting.writes

-- data, which bind no label
pub data_items :
    (before after : Written) (list : List Content)
    → before.code.items ≡ []
    → Writes before after (contents_items list)
    → numbered after (contents_items list) ≡ Some after.code.items
data_items before after list nothing writes =
    let unbound = contents_unbound list in
    writes.same (record {
      once = unbound.once;
      new = λ label bound. let low = unbound.bound label bound in absurd (omega (arith, low.1));
    })
    ∙ ap Some (sym (writes.added ∙ ap (λ made. made ++ writes.made) nothing))

-- The code of a procedure with more routines called.
module _ (tree : TreeModule) (called wider : List Bool) (more : HasAll called wider) where
  own_kept : (number : ℕ) (procedure : TreeProcedure) (list : List Item) (label next : ℕ)
      → LabelledProcedure tree called number procedure list label next
      → LabelledProcedure tree wider number procedure list label next
  own_kept number procedure list label next both =
      let is : IsProcedureCode tree called number procedure list = both.0 in
      let labels : IsProcedureLabelled is label next = both.1 in
      let begins : LabelledSteps is.body wider (record { facts = no_facts; goes_on = true }) None
      (entry_steps is.body is.first) is.beginning is.entered
      (label_after is.first (entry_labels is.body)) labels.begun =
      labelled_steps_kept wider more (label_after is.first (entry_labels is.body)) labels.begun
      (is.begins, labels.begins) in
      let written : LabelledList is.body wider is.entered.facts procedure.body is.statements
      is.last labels.begun
      labels.ended =
      labelled_list_kept wider more labels.begun labels.ended (is.written, labels.written) in
      let ends : LabelledEnd is.body wider is.last procedure.reaches_its_end is.ending labels.ended next =
      end_kept is.body called wider is.last procedure.reaches_its_end is.ending labels.ended next more
      (is.ends, labels.ends) in
      let code : IsProcedureCode tree wider number procedure list = record {
        body = is.body;
        tree_is = is.tree_is;
        procedure_is = is.procedure_is;
        frame = is.frame;
        first = is.first;
        beginning = is.beginning;
        statements = is.statements;
        ending = is.ending;
        entered = is.entered;
        last = is.last;
        begins = begins.0;
        written = written.0;
        ends = ends.0;
        list_is = is.list_is;
      } in (
        code,
        record {
          begun = labels.begun;
          ended = labels.ended;
          named = labels.named;
          first = labels.first;
          begins = begins.1;
          written = written.1;
          ends = ends.1;
        },
      )

  kind_kept : (number : ℕ) (procedure : TreeProcedure) (kind : ProcedureKind)
      (list : List Item) (label next : ℕ)
      → LabelledCode tree called number procedure kind list label next
      → LabelledCode tree wider number procedure kind list label next
  kind_kept number procedure (kinds.External name) list label next is = is
  kind_kept number procedure kinds.Static list label next is = own_kept number procedure list label next is
  kind_kept number procedure kinds.Reentrant list label next is = own_kept number procedure list label next is

  -- the code of a main program with more routines called
  main_kept : (start : ℕ) (is_there : Bool) (list : List Item) (label next : ℕ)
      → LabelledCodeOfMain tree called start is_there list label next
      → LabelledCodeOfMain tree wider start is_there list label next
  main_kept start true list label next both =
      let is : IsMainCode tree called start list = both.0 in
      let labels : IsMainLabelled is label next = both.1 in
      let written : LabelledList is.body wider no_facts tree.main.body is.statements is.last
      (label_after label tree.main.label_count) next =
      labelled_list_kept wider more (label_after label tree.main.label_count) next
      (is.written, labels.written) in
      let code : IsMainCode tree wider start list = record {
        body = is.body;
        tree_is = is.tree_is;
        procedure_is = is.procedure_is;
        frame = is.frame;
        statements = is.statements;
        last = is.last;
        written = written.0;
        list_is = is.list_is;
      } in
      (code, record { named = labels.named; written = written.1 })
  main_kept start false list label next is = is

-- Procedures are being added; some remain, from the first with this number on.
pub record AreBeingPut
    (tree : TreeModule) (before now : Generator) (number : ℕ) (whole left : List TreeProcedure) : Type 0 where
  pub list : List Item
  pub writes : Writes before.emission.writer now.emission.writer list
  pub left_is : (called : List Bool) (more : List Item) (next : ℕ)
      → HasAll now.emission.is_called.items called
      → LabelledProcedures tree called number left more now.emission.steps.labels next
      → LabelledProcedures tree called 0 whole (list ++ more) before.emission.steps.labels next
  pub called : HasAll before.emission.is_called.items now.emission.is_called.items
  pub notes : NotesCalled tree before.emission.is_called.items now.emission.is_called.items list

pub procedures_begin :
    (tree : TreeModule) (before : Generator) (whole : List TreeProcedure)
    → AreBeingPut tree before before 0 whole whole
procedures_begin tree before whole = record {
  list = [];
  writes = writes_nothing before.emission.writer;
  left_is = λ called more next wider rest. rest;
  called = has_itself before.emission.is_called.items;
  notes = λ routine given. inl given;
}

-- The same for procedures whose bodies stand: those that remain stand too.
pub record StandingArePut
    (tree : TreeModule) (before now : Generator) (number : ℕ) (whole left : List TreeProcedure) : Type 0 where
  pub putting : AreBeingPut tree before now number whole left
  pub stand : AllStand tree left

pub standing_begins :
    (tree : TreeModule) (before : Generator) (whole : List TreeProcedure)
    → AllStand tree whole
    → StandingArePut tree before before 0 whole whole
standing_begins tree before whole stand = record { putting = procedures_begin tree before whole; stand = stand }

-- the bodies after the first one
pub others_stand :
    (tree : TreeModule) (left : List TreeProcedure) (first : TreeProcedure)
    → slice_get left 0 ≡ Some first
    → AllStand tree left
    → AllStand tree (take (length left - 1) (drop 1 left))
others_stand tree [] first at stand = absurd (none-some first at)
others_stand tree (one ∷ others) first at stand =
    subst (AllStand tree) (sym (take_all others (length (one ∷ others) - 1) (omega arith)))
    (λ number procedure there. stand (suc number) procedure there)

pub procedures_go_on :
    (tree : TreeModule) (before now next : Generator) (number following : ℕ) (whole : List TreeProcedure)
    (procedure : TreeProcedure) (others : List TreeProcedure)
    → following ≡ number + 1
    → AreBeingPut tree before now number whole (procedure ∷ others)
    → AddsProcedure tree number procedure now next
    → AreBeingPut tree before next following whole others
procedures_go_on tree before now next number following whole procedure others follows putting adds = record {
  list = putting.list ++ adds.list;
  writes = writes_then before.emission.writer now.emission.writer next.emission.writer putting.list adds.list
      putting.writes adds.writes;
  left_is = λ called more end wider rest.
      let label : ℕ = now.emission.steps.labels in
      let middle : ℕ = next.emission.steps.labels in
      let first : LabelledCode tree called number procedure procedure.kind adds.list label middle =
      kind_kept tree next.emission.is_called.items called wider number procedure procedure.kind
      adds.list label middle
      adds.written in
      let left : LabelledProcedures tree called (suc number) others more middle end =
      subst (λ at. LabelledProcedures tree called at others more middle end)
      (follows ∙ add-one number) rest in
      subst (λ all. LabelledProcedures tree called 0 whole all before.emission.steps.labels end)
      (sym (append_assoc putting.list adds.list more))
      (putting.left_is called (adds.list ++ more) end
      (λ routine given. wider routine (adds.called routine given))
      ((adds.list, more, first.0, left.0, refl), (middle, first.1, left.1)));
  called = λ routine given. adds.called routine (putting.called routine given);
  notes =
      notes_then tree before.emission.is_called.items now.emission.is_called.items
      next.emission.is_called.items
      putting.list adds.list putting.notes adds.notes;
}

pub procedures_step :
    (tree : TreeModule) (before now next : Generator) (number following : ℕ) (whole left : List TreeProcedure)
    (procedure : TreeProcedure)
    → following ≡ number + 1
    → slice_get left 0 ≡ Some procedure
    → AreBeingPut tree before now number whole left
    → AddsProcedure tree number procedure now next
    → AreBeingPut tree before next following whole (take (length left - 1) (drop 1 left))
procedures_step tree before now next number following whole [] procedure follows at putting adds =
    absurd (none-some procedure at)
procedures_step tree before now next number following whole (first ∷ others) procedure
    follows at putting adds =
    subst (AreBeingPut tree before next following whole)
    (sym (take_all others (length (first ∷ others) - 1) (omega arith)))
    (procedures_go_on tree before now next number following whole first others follows putting
    (subst (λ one. AddsProcedure tree number one now next) (same_Some procedure first (sym at)) adds))

procedures_end :
    (tree : TreeModule) (before now : Generator) (number : ℕ) (whole : List TreeProcedure)
    → AreBeingPut tree before now number whole []
    → AddsProcedures tree 0 whole before now
procedures_end tree before now number whole putting = record {
  list = putting.list;
  writes = putting.writes;
  written =
      subst
      (λ all. LabelledProcedures tree now.emission.is_called.items 0 whole all before.emission.steps.labels
      now.emission.steps.labels)
      (append-nil putting.list)
      (putting.left_is now.emission.is_called.items [] now.emission.steps.labels
      (has_itself now.emission.is_called.items) (refl, refl));
  called = putting.called;
  notes = putting.notes;
}

pub procedures_done :
    (tree : TreeModule) (before now : Generator) (number : ℕ) (whole left : List TreeProcedure)
    → length left < 1
    → AreBeingPut tree before now number whole left
    → AddsProcedures tree 0 whole before now
procedures_done tree before now number whole [] none putting =
    procedures_end tree before now number whole putting
procedures_done tree before now number whole (first ∷ others) none putting = absurd (omega (arith, none))

-- a main program is added, if there is one
pub main_there :
    (tree : TreeModule) (start : ℕ) (before after : Generator) {E : Type 0} (result : Result (Unit {0}) E)
    → has_main tree ≡ true
    → OnOk result (AddsMain tree start before after)
    → OnOk result (AddsCodeOfMain tree start before after)
main_there tree start before after (Err fault) there adds = tt
main_there tree start before after (Ok done) there adds = record {
  list = adds.list;
  writes = adds.writes;
  written =
      subst
      (λ is_there. LabelledCodeOfMain tree after.emission.is_called.items start is_there adds.list
      before.emission.steps.labels after.emission.steps.labels)
      (sym there) adds.written;
  called = adds.called;
  notes = adds.notes;
}

pub no_main_there :
    (tree : TreeModule) (start : ℕ) (before : Generator)
    → has_main tree ≡ false
    → AddsCodeOfMain tree start before before
no_main_there tree start before none = record {
  list = [];
  writes = writes_nothing before.emission.writer;
  written =
      subst
      (λ is_there. LabelledCodeOfMain tree before.emission.is_called.items start is_there []
      before.emission.steps.labels before.emission.steps.labels)
      (sym none) (refl, refl);
  called = has_itself before.emission.is_called.items;
  notes = λ routine given. inl given;
}

-- all of a module's code but the routines
pub own_code_added :
    (tree : TreeModule) (start : ℕ) (before ready between after : Generator)
    → Writes before.emission.writer ready.emission.writer (contents_items tree.constants.items)
    → ready.emission.is_called ≡ before.emission.is_called
    → start ≡ before.emission.steps.labels
    → ready.emission.steps.labels ≡ label_after before.emission.steps.labels 1
    → AddsCodeOfMain tree start ready between
    → AddsProcedures tree 0 tree.procedures.items between after
    → AddsOwnCode tree start before after
own_code_added tree start before ready between after constants same start_is taken main procedures =
    let begun : ℕ = between.emission.steps.labels in
    let next : ℕ = after.emission.steps.labels in
    let kept : LabelledCodeOfMain tree after.emission.is_called.items start (has_main tree) main.list
    (label_after start 1) begun =
    main_kept tree between.emission.is_called.items after.emission.is_called.items procedures.called start
    (has_main tree) main.list (label_after start 1) begun
    (subst
    (λ at. LabelledCodeOfMain tree between.emission.is_called.items start (has_main tree) main.list at begun)
    (taken ∙ ap (λ at. label_after at 1) (sym start_is)) main.written) in
    let code : IsOwnCode tree after.emission.is_called.items start
    (contents_items tree.constants.items ++ (main.list ++ procedures.list)) = record {
      main = main.list;
      procedures = procedures.list;
      main_is = kept.0;
      procedures_are = procedures.written.0;
      list_is = refl;
    } in
    record {
      list = contents_items tree.constants.items ++ (main.list ++ procedures.list);
      writes =
          writes_then before.emission.writer ready.emission.writer after.emission.writer
          (contents_items tree.constants.items) (main.list ++ procedures.list) constants
          (writes_then ready.emission.writer between.emission.writer after.emission.writer
          main.list procedures.list
          main.writes procedures.writes);
      written = (
        code,
        λ given. record {
          begun = begun;
          start_is = start_is ∙ given;
          main = kept.1;
          procedures = procedures.written.1;
        },
      );
      called =
          subst (λ table. HasAll table after.emission.is_called.items)
          (ap (λ (flags : _). flags.items) same)
          (λ routine given. procedures.called routine (main.called routine given));
      notes =
          notes_then tree before.emission.is_called.items ready.emission.is_called.items
          after.emission.is_called.items
          (contents_items tree.constants.items) (main.list ++ procedures.list)
          (none_noted tree before.emission ready.emission (contents_items tree.constants.items) same)
          (notes_then tree ready.emission.is_called.items between.emission.is_called.items
          after.emission.is_called.items main.list procedures.list main.notes procedures.notes);
    }

-- The code of a routine, if code has more labels.
routine_kept :
    (tree : TreeModule) (before after : Written) (routine : Routine) (is_called : Bool) (list : List Item)
    → Extends before.labels after.labels
    → IsCodeOfRoutine tree before routine is_called list
    → IsCodeOfRoutine tree after routine is_called list
routine_kept tree before after routine true list labels is = record {
  label = is.label;
  known = labels _ is.label is.known;
  listing = is.listing;
  is_routine = is.is_routine;
  size = is.size;
  list_is = is.list_is;
}
routine_kept tree before after routine false list labels is = is

-- one item by its number
abbrev OneFront : List Item → Option ℕ → Type 0
OneFront made label = (found : ℕ) × (label ≡ Some found) × (made ≡ items.Mark found ∷ [])

one_front : (made : List Item) (label : Option ℕ)
    → in_front (option_map items.Mark label) (Some []) ≡ Some made
    → OneFront made label
one_front made None given = let bad : None ≡ Some made = given in cc
one_front made (Some found) given =
    (found, refl, ap (λ (list : Option (List Item)). elim list [ Some all ↦ all | None ↦ [] ]) (sym given))

-- the items added for a routine, if it is called
record AddsOne (tree : TreeModule) (is_called : Bool) (routine : Routine)
    (before after : Written) : Type 0 where
  list : List Item
  added : after.code.items ≡ before.code.items ++ list
  is :
      is_marked before.marked (module_label_of_routine tree routine).index ≡ false
      → IsCodeOfRoutine tree after routine is_called list
  counted :
      is_marked before.marked (module_label_of_routine tree routine).index ≡ false
      → (label : ℕ) → label < after.code.labels → (label < before.code.labels) ⊎ ItemsBind label list
  marked :
      (label : ℕ) → is_marked after.marked label ≡ true
      → (is_marked before.marked label ≡ true) ⊎ (label ≡ (module_label_of_routine tree routine).index)
  labels : Extends before.labels after.labels
  externals : Extends before.externals after.externals
  no_names : Extends after.externals before.externals
  count : length after.externals ≡ length before.externals

-- one label is new
one_label : (label at : ℕ) → is_bound label (items.Mark at ∷ []) ≡ true → label ≡ at
one_label label at bound = elim (true_of (label == at) false bound) [
  | inl same ↦ eqb-true label at same
  | inr never ↦ absurd (not_both false never refl)
]

one_label_writable : (before : Written) (at : ℕ)
    → is_marked before.marked at ≡ false
    → AreWritable before (items.Mark at ∷ [])
one_label_writable before at free = record {
  once = (λ label binds. refl, tt);
  new = λ label bound. ap (λ (one : ℕ). is_marked before.marked one) (one_label label at bound) ∙ free;
}

-- a label is no name, so the table of names stays as long as it is
label_needs_none : (before after : List (Option ℕ)) (at : ℕ)
    → GrowsFor before after (items.Mark at ∷ [])
    → length after ≡ length before
label_needs_none before after at grown =
    let most : length after ≤ length before = grown.within (length before)
    (record { below = λ name used. absurd (not_both false used refl) }) (omega arith) in
    let least : length before ≤ length after = grown.longer in
    omega (arith, most, least)

-- routines whose labels have no place, after one is added
free_after :
    (tree : TreeModule) (before after : List Bool) (routines : List Routine) (label : ℕ)
    → AreFree tree before routines
    → ((one : ℕ) → is_marked after one ≡ true → (is_marked before one ≡ true) ⊎ (one ≡ label))
    → (IsLabelOf tree routines label → ⊥)
    → AreFree tree after routines
free_after tree before after [] label free only apart = tt
free_after tree before after (routine ∷ others) label free only apart = (
  false_by (is_marked after (module_label_of_routine tree routine).index) (λ given.
      elim (only (module_label_of_routine tree routine).index given) [
        | inl old ↦ not_both (is_marked before (module_label_of_routine tree routine).index) old free.0
        | inr same ↦ apart (inl (sym same))
      ]),
  free.1,
  free_after tree before after others label free.2 only (λ is. apart (inr is)),
)

-- the first of them, and those after them
label_first : (tree : TreeModule) (routines others : List Routine) (label : ℕ)
    → IsLabelOf tree routines label → IsLabelOf tree (routines ++ others) label
label_first tree [] others label is = absurd is
label_first tree (routine ∷ routines) others label (inl same) = inl same
label_first tree (routine ∷ routines) others label (inr is) = inr (label_first tree routines others label is)

label_later : (tree : TreeModule) (routines others : List Routine) (label : ℕ)
    → IsLabelOf tree others label → IsLabelOf tree (routines ++ others) label
label_later tree [] others label is = is
label_later tree (routine ∷ routines) others label is = inr (label_later tree routines others label is)

free_first : (tree : TreeModule) (marked : List Bool) (routines others : List Routine)
    → AreFree tree marked (routines ++ others) → AreFree tree marked routines
free_first tree marked [] others free = tt
free_first tree marked (routine ∷ routines) others free = (
  free.0,
  λ is. free.1 (label_first tree routines others (module_label_of_routine tree routine).index is),
  free_first tree marked routines others free.2,
)

free_apart : (tree : TreeModule) (marked : List Bool) (routines others : List Routine) (label : ℕ)
    → AreFree tree marked (routines ++ others)
    → IsLabelOf tree routines label → IsLabelOf tree others label → ⊥
free_apart tree marked [] others label free here later = here
free_apart tree marked (routine ∷ routines) others label free (inl same) later =
    free.1 (label_later tree routines others (module_label_of_routine tree routine).index
    (subst (IsLabelOf tree others) same later))
free_apart tree marked (routine ∷ routines) others label free (inr here) later =
    free_apart tree marked routines others label free.2 here later

free_later : (tree : TreeModule) (marked : List Bool) (routines others : List Routine)
    → AreFree tree marked (routines ++ others) → AreFree tree marked others
free_later tree marked [] others free = free
free_later tree marked (routine ∷ routines) others free = free_later tree marked routines others free.2

free_between :
    (tree : TreeModule) (before after : List Bool) (routines others : List Routine)
    → AreFree tree before others
    → ((one : ℕ) → is_marked after one ≡ true → (is_marked before one ≡ true) ⊎ IsLabelOf tree routines one)
    → ((one : ℕ) → IsLabelOf tree routines one → IsLabelOf tree others one → ⊥)
    → AreFree tree after others
free_between tree before after routines [] free only apart = tt
free_between tree before after routines (routine ∷ others) free only apart = (
  false_by (is_marked after (module_label_of_routine tree routine).index) (λ given.
      elim (only (module_label_of_routine tree routine).index given) [
        | inl old ↦ not_both (is_marked before (module_label_of_routine tree routine).index) old free.0
        | inr is ↦ apart (module_label_of_routine tree routine).index is (inl refl)
      ]),
  free.1,
  free_between tree before after routines others free.2 only (λ one here later. apart one here (inr later)),
)

one_added :
    (tree : TreeModule) (routine : Routine) (is_called : Bool) (before after : Written)
    → AddsRoutineIf tree (index_of_routine routine) routine before after is_called
    → AddsOne tree is_called routine before after
one_added tree routine false before after same = record {
  list = [];
  added = ap (λ (written : Written). written.code.items) same ∙ sym (append-nil before.code.items);
  is = λ free. refl;
  counted = λ free label low.
      let count : after.code.labels ≡ before.code.labels = ap (λ (written : Written). written.code.labels) same in
      inl (omega (arith, low, count));
  marked = λ label given. inl (ap (λ (written : Written). is_marked written.marked label) (sym same) ∙ given);
  labels = λ number found given. ap (λ (written : Written). entry written.labels number) same ∙ given;
  externals = λ number found given. ap (λ (written : Written). entry written.externals number) same ∙ given;
  no_names =
      λ number found given. ap (λ (written : Written). entry written.externals number) (sym same) ∙ given;
  count = ap (λ (written : Written). length written.externals) same;
}
one_added tree routine true before after writes =
    let entered : Written = writes.entered in
    let at : ℕ = (module_routine_label tree (index_of_routine routine)).index in
    let front : is_marked before.marked at ≡ false → OneFront writes.marked.made (entry entered.labels at) =
    λ free.
    one_front writes.marked.made (entry entered.labels at) (writes.marked.same (one_label_writable before at free)) in
    record {
      list = writes.marked.made ++ writes.added.items;
      added =
          writes.added.added
          ∙ ap (λ list. list ++ writes.added.items) writes.marked.added
          ∙ append_assoc before.code.items writes.marked.made writes.added.items;
      is = λ free. record {
        label = (front free).0;
        known = ap (λ table. entry table at) writes.labels ∙ (front free).1;
        listing = writes.added.items;
        is_routine = writes.added.is_routine;
        size = writes.added.size;
        list_is = ap (λ list. list ++ writes.added.items) (front free).2;
      };
      counted = λ free label low. elim (cases_lt label entered.code.labels) [
        | inl known ↦ elim (writes.marked.counted label known) [
          | inl old ↦ inl old
          | inr named ↦
              let same : label ≡ (front free).0 =
              same_Some label (front free).0
              (sym named.1 ∙ ap (entry entered.labels) (one_label named.0 at named.2) ∙ (front free).1) in
              inr (bound_first label writes.marked.made writes.added.items
              (subst (ItemsBind label) (sym (front free).2) (inl same)))
        ]
        | inr past ↦ inr (bound_after label writes.marked.made writes.added.items
            (bound_binds label writes.added.items (writes.added.bound label past low)))
      ];
      marked = λ label given.
          elim (writes.marked.marked label (ap (λ flags. is_marked flags label) (sym writes.places) ∙ given)) [
            | inl old ↦ inl old
            | inr bound ↦ inr (one_label label at bound)
          ];
      labels = λ number found given.
          ap (λ table. entry table number) writes.labels ∙ writes.marked.labels number found given;
      externals = λ number found given.
          ap (λ table. entry table number) writes.externals ∙ writes.marked.externals number found given;
      no_names = λ number found given.
          elim (writes.marked.names number found
          (ap (λ table. entry table number) (sym writes.externals) ∙ given)) [
            | inl old ↦ old
            | inr bad ↦ absurd (let no : false ≡ true = bad in cc)
          ];
      count =
          ap (λ table. length table) writes.externals
          ∙ label_needs_none before.externals entered.externals at writes.marked.grown;
    }

-- no routine is added
pub no_routines : (tree : TreeModule) (called : List Bool) (written : Written)
    → AddsRoutines tree called [] written written
no_routines tree called written = record {
  list = [];
  added = sym (append-nil written.code.items);
  are = λ free. refl;
  counted = λ free label low. inl low;
  marked = λ label given. inl given;
  labels = λ number found given. given;
  externals = λ number found given. given;
  no_names = λ number found given. given;
  count = refl;
}

-- a routine is added, and others after it
pub routine_then :
    (tree : TreeModule) (called : List Bool) (routine : Routine) (others : List Routine)
    (before between after : Written)
    → AddsCalled tree called (index_of_routine routine) routine before between
    → AddsRoutines tree called others between after
    → AddsRoutines tree called (routine ∷ others) before after
routine_then tree called routine others before between after first rest =
    let one = one_added tree routine (has_routine called routine) before between first in
    record {
      list = one.list ++ rest.list;
      added =
          rest.added ∙ ap (λ list. list ++ rest.list) one.added
          ∙ append_assoc before.code.items one.list rest.list;
      are = λ free. (
        one.list,
        rest.list,
        routine_kept tree between after routine (has_routine called routine) one.list rest.labels (one.is free.0),
        rest.are
            (free_after tree before.marked between.marked others (module_label_of_routine tree routine).index free.2
            one.marked free.1),
        refl,
      );
      counted = λ free label low.
          elim
          (rest.counted
          (free_after tree before.marked between.marked others (module_label_of_routine tree routine).index free.2
          one.marked free.1) label low) [
            | inl known ↦ elim (one.counted free.0 label known) [
              | inl old ↦ inl old
              | inr bound ↦ inr (bound_first label one.list rest.list bound)
            ]
            | inr bound ↦ inr (bound_after label one.list rest.list bound)
          ];
      marked = λ label given. elim (rest.marked label given) [
        | inl known ↦ elim (one.marked label known) [ inl old ↦ inl old | inr same ↦ inr (inl same) ]
        | inr is ↦ inr (inr is)
      ];
      labels = λ number found given. rest.labels number found (one.labels number found given);
      externals = λ number found given. rest.externals number found (one.externals number found given);
      no_names = λ number found given. one.no_names number found (rest.no_names number found given);
      count = rest.count ∙ one.count;
    }

-- the code of routines, if code has more labels
are_kept :
    (tree : TreeModule) (called : List Bool) (before after : Written)
    (routines : List Routine) (list : List Item)
    → Extends before.labels after.labels
    → AreRoutines tree called before routines list
    → AreRoutines tree called after routines list
are_kept tree called before after [] list labels are = are
are_kept tree called before after (routine ∷ others) list labels are = (
  are.0,
  are.1,
  routine_kept tree before after routine (has_routine called routine) are.0 labels are.2,
  are_kept tree called before after others are.1 labels are.3,
  are.4,
)

-- the code of routines before others
are_then :
    (tree : TreeModule) (called : List Bool) (written : Written) (routines others : List Routine)
    (list more : List Item)
    → AreRoutines tree called written routines list
    → AreRoutines tree called written others more
    → AreRoutines tree called written (routines ++ others) (list ++ more)
are_then tree called written [] others list more first second =
    subst (λ all. AreRoutines tree called written others (all ++ more)) (sym first) second
are_then tree called written (routine ∷ routines) others list more first second = (
  first.0,
  first.1 ++ more,
  first.2,
  are_then tree called written routines others first.1 more first.3 second,
  ap (λ all. all ++ more) first.4 ∙ append_assoc first.0 first.1 more,
)

-- routines are added, and others after them
pub routines_then :
    (tree : TreeModule) (called : List Bool) (routines others : List Routine) (before between after : Written)
    → AddsRoutines tree called routines before between
    → AddsRoutines tree called others between after
    → AddsRoutines tree called (routines ++ others) before after
routines_then tree called routines others before between after first second = record {
  list = first.list ++ second.list;
  added =
      second.added ∙ ap (λ list. list ++ second.list) first.added
      ∙ append_assoc before.code.items first.list second.list;
  are = λ free.
      are_then tree called after routines others first.list second.list
      (are_kept tree called between after routines first.list second.labels
      (first.are (free_first tree before.marked routines others free)))
      (second.are
      (free_between tree before.marked between.marked routines others
      (free_later tree before.marked routines others free) first.marked
      (λ one here later. free_apart tree before.marked routines others one free here later)));
  counted = λ free label low.
      elim
      (second.counted
      (free_between tree before.marked between.marked routines others
      (free_later tree before.marked routines others free) first.marked
      (λ one here later. free_apart tree before.marked routines others one free here later)) label low) [
        | inl known ↦ elim (first.counted (free_first tree before.marked routines others free) label known) [
          | inl old ↦ inl old
          | inr bound ↦ inr (bound_first label first.list second.list bound)
        ]
        | inr bound ↦ inr (bound_after label first.list second.list bound)
      ];
  marked = λ label given. elim (second.marked label given) [
    | inl known ↦ elim (first.marked label known) [
      | inl old ↦ inl old
      | inr is ↦ inr (label_first tree routines others label is)
    ]
    | inr is ↦ inr (label_later tree routines others label is)
  ];
  labels = λ number found given. second.labels number found (first.labels number found given);
  externals = λ number found given. second.externals number found (first.externals number found given);
  no_names = λ number found given. first.no_names number found (second.no_names number found given);
  count = second.count ∙ first.count;
}

-- the labels of routines that are numbered from an index on
abbrev AreIndexed : (index : ℕ) → List Routine → Type 0
AreIndexed index [] = Unit {0}
AreIndexed index (routine ∷ others) = (index_of_routine routine ≡ index) × AreIndexed (suc index) others

indexed_label :
    (tree : TreeModule) (index : ℕ) (routines : List Routine) (label : ℕ)
    → AreIndexed index routines
    → IsLabelOf tree routines label
    → length tree.procedures.items + index + length routines < 4294967295
    → (length tree.procedures.items + index ≤ label) × (label < length tree.procedures.items + index + length routines)
indexed_label tree index [] label are is few = absurd is
indexed_label tree index (routine ∷ others) label are (inl same) few =
    (omega (arith, same, are.0, few), omega (arith, same, are.0, few))
indexed_label tree index (routine ∷ others) label are (inr is) few =
    let rest = indexed_label tree (suc index) others label are.1 is (omega (arith, few)) in
    (omega (arith, rest.0), omega (arith, rest.1))

indexed_free :
    (tree : TreeModule) (marked : List Bool) (index : ℕ) (routines : List Routine)
    → AreIndexed index routines
    → length tree.procedures.items + index + length routines < 4294967295
    → ((label : ℕ) → length tree.procedures.items + index ≤ label
    → label < length tree.procedures.items + index + length routines
    → is_marked marked label ≡ false)
    → AreFree tree marked routines
indexed_free tree marked index [] are few free = tt
indexed_free tree marked index (routine ∷ others) are few free =
    let own : ℕ = (module_label_of_routine tree routine).index in
    let is : own ≡ length tree.procedures.items + index = omega (arith, are.0, few) in (
      free own (omega (arith, is)) (omega (arith, is)),
      λ also.
          let after = indexed_label tree (suc index) others own are.1 also (omega (arith, few)) in
          omega (arith, after.0, is),
      indexed_free tree marked (suc index) others are.1 (omega (arith, few))
          (λ label low high. free label (omega (arith, low)) (omega (arith, high))),
    )

-- no flag is set
no_marks : (label : ℕ) → is_marked [] label ≡ true → ⊥
no_marks label given = not_both false given refl

-- the own code of a module is writable where there is none yet
own_writable :
    (tree : TreeModule) (start : ℕ) (before between : Generator)
    → IsOfModule tree
    → IsEmpty tree before.emission
    → (own : AddsOwnCode tree start before between)
    → between.emission.steps.labels < 4294967295
    → AreWritable before.emission.writer own.list
    × AreFree tree between.emission.writer.marked all_routines
own_writable tree start before between made none own few =
    let bound =
    own_code_bound tree made.typed made.storage made.jumps made.lowered between.emission.is_called.items start own.list
    between.emission.steps.labels own.written.0 (own.written.1 none.labels) few in
    let nothing : before.emission.writer.marked ≡ [] = ap (λ (written : Written). written.marked) none.items in
    let unmarked : (label : ℕ) → is_marked before.emission.writer.marked label ≡ true → ⊥ =
    λ label given. no_marks label (ap (λ flags. is_marked flags label) (sym nothing) ∙ given) in (
      record {
        once = bound.0;
        new = λ label is. false_by (is_marked before.emission.writer.marked label) (unmarked label);
      },
      indexed_free tree between.emission.writer.marked 0 all_routines
          (refl, (refl, (refl, (refl, (refl, (refl, (refl, (refl, (refl, tt)))))))))
          (omega (arith, bound.2))
          (λ label low high. false_by (is_marked between.emission.writer.marked label) (λ given.
          elim (own.writes.marked label given) [
            | inl old ↦ unmarked label old
            | inr is ↦ elim (bound.1 label is) [
              | inl entry ↦ omega (arith, entry, low)
              | inr after ↦ omega (arith, after, high)
            ]
          ])),
    )

-- the routines are added to the own code
from_own :
    (tree : TreeModule) (between : Generator) (called : List Bool) (written after : Written)
    → called ≡ between.emission.is_called.items
    → written ≡ between.emission.writer
    → AddsRoutines tree called all_routines written after
    → AddsRoutines tree between.emission.is_called.items all_routines between.emission.writer after
from_own tree between called written after called_is written_is added =
    subst (λ (from : Written). AddsRoutines tree between.emission.is_called.items all_routines from after)
    written_is
    (subst (λ table. AddsRoutines tree table all_routines written after) called_is added)

-- the code of a module, from its own code and the routines
pub code_written :
    (tree : TreeModule) (start : ℕ) (before between : Generator) (called : List Bool)
    (written after : Written)
    → IsEmpty tree before.emission
    → AddsOwnCode tree start before between
    → called ≡ between.emission.is_called.items
    → written ≡ between.emission.writer
    → AddsRoutines tree called all_routines written after
    → IsOfModule tree
    → between.emission.steps.labels < 4294967295
    → IsCodeWritten tree start after
code_written tree start before between called written after none own called_is written_is added made few =
    let writable = own_writable tree start before between made none own few in
    let routines = from_own tree between called written after called_is written_is added in
    let nothing : before.emission.writer.code.items ≡ [] =
    ap (λ (written : Written). written.code.items) none.items in
    record {
      called = between.emission.is_called.items;
      own = own.list;
      made = own.writes.made;
      listed = routines.list;
      own_is = own.written.0;
      next_label = between.emission.steps.labels;
      labels = own.written.1 none.labels;
      same =
          items_stay between.emission.writer after own.list own.writes.made routines.labels routines.externals
          (own.writes.same writable.0);
      listed_are = routines.are writable.1;
      items_are =
          routines.added
          ∙ ap (λ list. list ++ routines.list)
          (own.writes.added ∙ ap (λ list. list ++ own.writes.made) nothing);
      within =
          let first : length before.emission.writer.externals ≡ 0 =
          ap (λ (written : Written). length written.externals) none.items in
          let same : length after.externals ≡ length between.emission.writer.externals = routines.count in
          let own_within : length between.emission.writer.externals ≤ length tree.externals.items =
          own.writes.grown.within (length tree.externals.items)
          (own_code_named tree made.lowered.order (own_names tree made) between.emission.is_called.items start own.list
          own.written.0)
          (omega (arith, first)) in omega (arith, same, own_within);
      names = λ name number given.
          elim (own.writes.names name number (routines.no_names name number given)) [
            | inl old ↦ absurd (none-some number
                (ap (λ (written : Written). entry written.externals name) (sym none.items) ∙ old))
            | inr used ↦ used
          ];
      calls = λ routine given.
          elim (own.notes routine given) [
            | inl old ↦ absurd (all_off 9 (index_of_routine routine)
                (ap (λ flags. has_routine flags routine) (sym none.called) ∙ old))
            | inr is_called ↦ is_called
          ];
    }

-- the same, with the table that marks the routines that are called
pub code_written_with :
    (tree : TreeModule) (start : ℕ) (before between : Generator) (called table : List Bool)
    (written after : Written)
    → IsEmpty tree before.emission
    → AddsOwnCode tree start before between
    → called ≡ between.emission.is_called.items
    → table ≡ between.emission.is_called.items
    → written ≡ between.emission.writer
    → AddsRoutines tree called all_routines written after
    → IsOfModule tree
    → between.emission.steps.labels < 4294967295
    → IsWrittenWith tree start table after
unfolding code_written
code_written_with tree start before between called table written after none own called_is table_is written_is added made few =
    record {
      code = code_written tree start before between called written after none own called_is written_is added made few;
      called_is = sym table_is;
    }

-- each label of code is named by the first items that are added to none, or bound by the others
counted_in_both :
    (before between after : Written) (list more : List Item)
    → before.code.labels ≡ 0
    → CountsNamed before between list
    → Extends between.labels after.labels
    → ((label : ℕ) → label < after.code.labels → (label < between.code.labels) ⊎ ItemsBind label more)
    → (label : ℕ) → label < after.code.labels
    → ((number : ℕ) × (entry after.labels number ≡ Some label) × (name_label number list ≡ true))
    ⊎ ItemsBind label more
counted_in_both before between after list more none counted labels further label low =
    elim (further label low) [
      | inl known ↦ elim (counted label known) [
        | inl old ↦ absurd (omega (arith, old, none))
        | inr named ↦ inl (named.0, labels named.0 label named.1, named.2)
      ]
      | inr bound ↦ inr bound
    ]

-- each label of that code is bound
pub code_all_bound :
    (tree : TreeModule) (start : ℕ) (before between : Generator) (called : List Bool)
    (written after : Written)
    → IsEmpty tree before.emission
    → AddsOwnCode tree start before between
    → called ≡ between.emission.is_called.items
    → written ≡ between.emission.writer
    → AddsRoutines tree called all_routines written after
    → IsOfModule tree
    → between.emission.steps.labels < 4294967295
    → AllBound after.code
unfolding code_written
code_all_bound tree start before between called written after none own called_is written_is added made few =
    let writable = own_writable tree start before between made none own few in
    let routines = from_own tree between called written after called_is written_is added in
    let nothing : before.emission.writer.code.labels ≡ 0 =
    ap (λ (written : Written). written.code.labels) none.items in
    all_bound tree start after
    (code_written tree start before between called written after none own called_is written_is added made few)
    (made.placed between.emission.is_called.items start own.list own.written.0)
    (counted_in_both before.emission.writer between.emission.writer after own.list routines.list nothing
    own.writes.counted routines.labels (routines.counted writable.1))

-- the data of a module use no name past its own, if its code uses none
pub data_within :
    (tree : TreeModule) (code first variables last : List (Option ℕ))
    → IsOfModule tree
    → length code ≤ length tree.externals.items
    → first ≡ code
    → GrowsFor first variables (contents_items tree.variables.items)
    → last ≡ variables
    → length last ≤ length tree.externals.items
data_within tree code first variables last made within begun grown ended =
    let same : length first ≡ length code = ap (λ table. length table) begun in
    let end : length last ≡ length variables = ap (λ table. length table) ended in
    let most : length variables ≤ length tree.externals.items =
    grown.within (length tree.externals.items)
    (contents_named (length tree.externals.items) tree.variables.items (own_names tree made).variables)
    (omega (arith, same, within)) in omega (arith, end, most)
