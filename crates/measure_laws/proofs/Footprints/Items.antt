-- The items of steps, as the footprint of the steps says: they find room, they have no more bytes, and they
-- refer to labels that may be referred to. These are the laws of sizes, of heights and of labels.
use Rattle.measure_laws.proofs.Prelude.{bound_after, bound_first, items_both, inl, inr, ℕ, ◌+◌, ◌-◌, ◌≤◌, Bool, true, false, List, [], ◌∷◌, ◌++◌, Option, Some, None, if◌then◌else◌, refl, subst, slice_get, arith, Instr, Sp, size_of_instruction, Item, WordForm, size_of_items, ProcedureKind, TreeProcedure, Place, Number, Facts, LabelNumber, Part, Step, Task, jump_item, word_item, Site, AreWritten, CallWritten, ChangeWritten, HoldsWritten, IsWritten, JumpWritten, MarkWritten, NoneWritten, PartWritten, PlainWritten, RoutineWritten, TestWritten, WordWritten, call_items, items_of_call, knowing, test_items, test_of_a, steps_of, task_steps, BranchThere, ByteDropped, CallThere, FindsRoom, HaltThere, InstructionThere, JumpThere, LabelThere, NothingThere, PopThere, PushThere, ReturnThere, RoutineThere, TableJumpThere, WordThere, GoesOn, GoesOnWithLabel, GoesOnWithWord, size_of_steps, ItemGoes, ItemsBind, ItemsGo, Knows, StepsBind, size_in_parts, taken_by, Source}
use Rattle.isa8080.specs.declared.instr.Instr.TheVariants as instructions
use Rattle.asm8080.specs.declared.item.Item.TheVariants as items
use Rattle.asm8080.specs.declared.item.WordForm.TheVariants as word_forms
use Rattle.treecode.specs.declared.procedure.ProcedureKind.TheVariants as kinds
use Rattle.steps8080.specs.declared.step.Task.TheVariants as tasks
use Rattle.exprgen8080.specs.internal.Emission.{Planned}
use Rattle.measure_laws.specs.internal.Footprints.{Footprint, Go, Ground, IsOfTree, bytes_of_task}
use Rattle.measure_laws.proofs.{Footprints.Addresses.{address_footprint}, Footprints.Calls.{call_footprint, effects_footprint}, Footprints.Relations.{branch_footprint}, Footprints.Stores.{store_footprint}, Footprints.Values.{byte_footprint, word_footprint}, Heights.Rooms.{room_joined}}

-- what is known of items: these are what a footprint says of the steps that they are written for
pub record Measured (at : Ground) (free : ℕ) (list : List Item) (after size : ℕ) : Type 0 where
  pub room : FindsRoom at.site.tree.now at.level free list after
  pub small : size_of_items list ≤ size
  pub goes : ItemsGo at.ok list

-- an item before others
put :
    {at : Ground} {free left after size : ℕ} {item : Item} {more : List Item} (here : ℕ)
    → FindsRoom at.site.tree.now at.level free (item ∷ more) after
    → ItemGoes at.ok item
    → size_of_items (item ∷ more) ≤ here + size_of_items more
    → Measured at left more after size
    → Measured at free (item ∷ more) after (here + size)
put here room goes less rest =
    record { room = room; small = omega (arith, less, rest.small); goes = (goes, rest.goes) }

-- an instruction
plain_measured :
    {at : Ground} {free after size : ℕ} {more : List Item} (i : Instr) {Rest : ℕ → Type 0}
    → GoesOn at.level free i Rest
    → ((left : ℕ) → Rest left → Measured at left more after size)
    → Measured at free (items.Plain i ∷ more) after (size_of_instruction i + size)
plain_measured {free = free} (instructions.Push pair) is go =
    let rest = go (free - 2) is.1 in put _ (PushThere is.0 rest.room) tt (omega arith) rest
plain_measured {free = free} (instructions.Pop pair) is go =
    let rest = go (free + 2) is in put _ (PopThere rest.room) tt (omega arith) rest
plain_measured {free = free} (instructions.Inx Sp) is go =
    let rest = go (free + 1) is in put _ (ByteDropped rest.room) tt (omega arith) rest
plain_measured {free = free} (instructions.Inx pair) is go =
    let rest = go free is in put _ (InstructionThere refl rest.room) tt (omega arith) rest
plain_measured (instructions.Lxi Sp word) is go = absurd is
plain_measured {free = free} (instructions.Lxi pair word) is go =
    let rest = go free is in put _ (InstructionThere refl rest.room) tt (omega arith) rest
plain_measured (instructions.Dcx Sp) is go = absurd is
plain_measured {free = free} (instructions.Dcx pair) is go =
    let rest = go free is in put _ (InstructionThere refl rest.room) tt (omega arith) rest
plain_measured {at = at} instructions.Hlt is go =
    let rest = go at.level is in put _ (HaltThere rest.room) tt (omega arith) rest
plain_measured {at = at} instructions.Ret is go =
    let rest = go at.level is in put _ (ReturnThere rest.room) tt (omega arith) rest
plain_measured {at = at} instructions.Pchl is go =
    let rest = go at.level is.1 in put _ (TableJumpThere is.0 rest.room) tt (omega arith) rest
plain_measured (instructions.ReturnIf condition) is go = absurd is
plain_measured (instructions.JumpIf condition word) is go = absurd is
plain_measured (instructions.CallIf condition word) is go = absurd is
plain_measured (instructions.Jmp word) is go = absurd is
plain_measured (instructions.Call word) is go = absurd is
plain_measured (instructions.Rst number) is go = absurd is
plain_measured instructions.Sphl is go = absurd is
plain_measured {free = free} i is go =
    let rest = go free is in put _ (InstructionThere refl rest.room) tt (omega arith) rest

-- an instruction with a word
pub word_goes : (ok : ℕ → Type 0) (form : WordForm) (place : Place) → ItemGoes ok (word_item form place)
word_goes ok form (Number number) = tt
word_goes ok form other = tt

word_measured :
    {at : Ground} {free after size : ℕ} {more : List Item} (form : WordForm)
    (place : Place) {Rest : ℕ → Type 0}
    → GoesOnWithWord free form Rest
    → ((left : ℕ) → Rest left → Measured at left more after size)
    → Measured at free (word_item form place ∷ more) after (3 + size)
word_measured (word_forms.LoadPair Sp) place is go = absurd is
word_measured word_forms.Jump place is go = absurd is
word_measured (word_forms.JumpWhere condition) place is go = absurd is
word_measured word_forms.CallTo place is go = absurd is
word_measured (word_forms.CallWhere condition) place is go = absurd is
word_measured {at = at} {free = free} form place is go =
    let rest = go free is in put _ (WordThere refl rest.room) (word_goes at.ok form place) (omega arith) rest

-- an instruction with a label
label_measured :
    {at : Ground} {free after size : ℕ} {more : List Item} (form : WordForm)
    (label : LabelNumber) {Rest : ℕ → Type 0}
    → at.ok label.index
    → GoesOnWithLabel at.level free form Rest
    → ((left : ℕ) → Rest left → Measured at left more after size)
    → Measured at free (jump_item form label ∷ more) after (3 + size)
label_measured (word_forms.LoadPair Sp) label to is go = absurd is
label_measured {at = at} word_forms.Jump label to is go =
    let rest = go at.level is.1 in put _ (JumpThere is.0 rest.room) to (omega arith) rest
label_measured {free = free} (word_forms.JumpWhere condition) label to is go =
    let rest = go free is.1 in put _ (BranchThere is.0 rest.room) to (omega arith) rest
label_measured word_forms.CallTo label to is go = absurd is
label_measured (word_forms.CallWhere condition) label to is go = absurd is
label_measured {free = free} form label to is go =
    let rest = go free is in put _ (WordThere refl rest.room) to (omega arith) rest

pub both_measured :
    {at : Ground} {free middle after one two : ℕ} (first more : List Item)
    → Measured at free first middle one
    → Measured at middle more after two
    → Measured at free (first ++ more) after (one + two)
both_measured {at = at} first more begun rest = record {
  room = room_joined begun.room rest.room;
  small = omega (arith, size_in_parts first more, begun.small, rest.small);
  goes = items_both at.ok first more begun.goes rest.goes;
}

-- the test of A
test_measured :
    {at : Ground} {free after size : ℕ} {more : List Item} (shown : Bool)
    → Measured at free more after size
    → Measured at free ((if shown then [] else items.Plain test_of_a ∷ []) ++ more) after (1 + size)
test_measured true rest = record { room = rest.room; small = omega (arith, rest.small); goes = rest.goes }
test_measured false rest = put _ (InstructionThere refl rest.room) tt (omega arith) rest

size_of_kind : (procedure : ℕ) (kind : ProcedureKind) → size_of_items (items_of_call procedure kind) ≤ 3
size_of_kind procedure kinds.Static = omega arith
size_of_kind procedure kinds.Reentrant = omega arith
size_of_kind procedure (kinds.External name) = omega arith

pub size_of_call : (site : Site) (procedure : ℕ) → size_of_items (call_items site procedure) ≤ 3
size_of_call site procedure = by (slice_get site.tree.now.procedures.items procedure)
  where
    by : (found : Option TreeProcedure)
        → size_of_items (elim found [ Some one ↦ items_of_call procedure one.kind | None ↦ [] ]) ≤ 3
    by (Some one) = size_of_kind procedure one.kind
    by None = omega arith

-- labels that steps bind are bound by their items
pub steps_bound :
    (label : ℕ) {site : Site} {called : List Bool} {facts last : Facts}
    {planned : List Step} {list : List Item}
    → AreWritten site called facts planned list last
    → StepsBind label planned
    → ItemsBind label list
steps_bound label NoneWritten is = absurd is
steps_bound label (PlainWritten rest) is = inr (steps_bound label rest is)
steps_bound label (WordWritten rest) is = inr (steps_bound label rest is)
steps_bound label (JumpWritten rest) is = inr (steps_bound label rest is)
steps_bound label (MarkWritten rest) is = elim is [
  | inl here ↦ inl here
  | inr later ↦ inr (steps_bound label rest later)
]
steps_bound label (RoutineWritten has rest) is = inr (steps_bound label rest is)
steps_bound label {site = site} (CallWritten {procedure = procedure} {more = more} rest) is =
    bound_after label (call_items site procedure) more (steps_bound label rest is)
steps_bound label {facts = facts} (TestWritten {more = more} rest) is =
    bound_after label (test_items facts) more (steps_bound label rest is)
steps_bound label (HoldsWritten rest) is = steps_bound label rest is
steps_bound label (ChangeWritten rest) is = steps_bound label rest is
steps_bound label (PartWritten {first = first} {more = more} one rest) is =
    bound_after label first more (steps_bound label rest is)

-- the ground with these facts about the registers
abbrev on : Ground → Facts → Ground
on at facts = record { site = knowing at.site facts; source = at.source; level = at.level; ok = at.ok }

-- the steps of each task
task_footprint :
    (at : Ground) (free : ℕ) (facts : Facts) (part : Part) (label : ℕ) (task : Task)
    → IsOfTree at free task
    → ((other : ℕ) → StepsBind other (steps_of (knowing at.site facts) task part.pushed label) → at.ok other)
    → Footprint (on at facts) free (steps_of (knowing at.site facts) task part.pushed label) free
    (bytes_of_task at.site.tree.now task)
unfolding steps_of
task_footprint at free facts part label (tasks.Byte number) is own =
    byte_footprint {at = on at facts} number part.pushed is
task_footprint at free facts part label (tasks.Word number) is own =
    word_footprint {at = on at facts} number part.pushed is
task_footprint at free facts part label (tasks.Effects number) is own =
    effects_footprint {at = on at facts} number part.pushed is
task_footprint at free facts part label (tasks.Address reference) is own =
    address_footprint {at = on at facts} reference part.pushed is
task_footprint at free facts part label (tasks.Branch condition target sense) is own =
    subst (λ n. Footprint (on at facts) n
    (steps_of (knowing at.site facts) (tasks.Branch condition target sense) part.pushed label) n
    (bytes_of_task at.site.tree.now (tasks.Branch condition target sense)))
    is.1 (branch_footprint {at = on at facts} condition target sense part.pushed label is.0 is.2 own)
task_footprint at free facts part label (tasks.Store target is_wanted) is own =
    store_footprint {at = on at facts} target is_wanted part.pushed is
task_footprint at free facts part label (tasks.Call procedure arguments) is own =
    call_footprint {at = on at facts} procedure arguments part.pushed is

part_footprint :
    (at : Ground) (free : ℕ) (facts : Facts) (part : Part) (label : ℕ)
    → IsOfTree at free part.task
    → ((other : ℕ) → StepsBind other (task_steps (knowing at.site facts) part label) → at.ok other)
    → Footprint at free (task_steps (knowing at.site facts) part label) free
    (bytes_of_task at.site.tree.now part.task)
unfolding task_steps
part_footprint at free facts part label is own =
    let footprint = task_footprint at free facts part label part.task is own in
    record { go = footprint.go; small = footprint.small }

abbrev pub ground : (site : Site) → Source site.tree.now → (level : ℕ) (ok : ℕ → Type 0) → Ground
ground site source level ok = record { site = site; source = source; level = level; ok = ok }

mutual
  -- the items of steps
  pub steps_measured :
      (site : Site) (source : Source site.tree.now) (level : ℕ) (ok : ℕ → Type 0) (called : List Bool)
      (free after : ℕ) {facts last : Facts} {planned : List Step} {list : List Item}
      → Knows ok site called
      → AreWritten site called facts planned list last
      → Go (ground site source level ok) free planned after
      → ((label : ℕ) → ItemsBind label list → ok label)
      → Measured (ground site source level ok) free list after
      (size_of_steps (bytes_of_task site.tree.now) planned)
  steps_measured site source level ok called free after knows NoneWritten same own = record {
    room = subst (λ n. FindsRoom site.tree.now level free [] n) same NothingThere;
    small = omega arith;
    goes = tt;
  }
  steps_measured site source level ok called free after knows (PlainWritten {i = i} rest) go own =
      plain_measured {at = ground site source level ok} i go
      (λ left is. steps_measured site source level ok called left after knows rest is
      (λ label bound. own label (inr bound)))
  steps_measured site source level ok called free after knows
      (WordWritten {form = form} {place = place} rest) go own =
      word_measured {at = ground site source level ok} form place go
      (λ left is. steps_measured site source level ok called left after knows rest is
      (λ label bound. own label (inr bound)))
  steps_measured site source level ok called free after knows
      (JumpWritten {form = form} {label = label} rest) go own =
      label_measured {at = ground site source level ok} form label go.0 go.1
      (λ left is. steps_measured site source level ok called left after knows rest is
      (λ other bound. own other (inr bound)))
  steps_measured site source level ok called free after knows (MarkWritten rest) go own =
      let more =
      steps_measured site source level ok called level after knows rest go.1
      (λ label bound. own label (inr bound)) in
      put {at = ground site source level ok} _ (LabelThere go.0 more.room) tt (omega arith) more
  steps_measured site source level ok called free after knows
      (RoutineWritten {routine = routine} has rest) go own =
      let more =
      steps_measured site source level ok called free after knows rest go.1
      (λ label bound. own label (inr bound)) in
      put {at = ground site source level ok} _ (RoutineThere routine go.0 more.room)
      (knows.routines routine has) (omega arith) more
  steps_measured site source level ok called free after knows
      (CallWritten {procedure = procedure} {more = others} rest) go own =
      let more =
      steps_measured site source level ok called (free + taken_by site.tree.now procedure)
      after knows rest go.1
      (λ label bound. own label (bound_after label (call_items site procedure) others bound)) in
      record {
        room = CallThere procedure go.0 more.room;
        small = omega
            (arith, more.small, size_of_call site procedure, size_in_parts (call_items site procedure) others);
        goes = items_both ok (call_items site procedure) others (knows.calls procedure) more.goes;
      }
  steps_measured site source level ok called free after knows
      (TestWritten {facts = facts} {more = others} rest) go own =
      test_measured {at = ground site source level ok} facts.zero_shows_a
      (steps_measured site source level ok called free after knows rest go
      (λ label bound. own label (bound_after label (test_items facts) others bound)))
  steps_measured site source level ok called free after knows (HoldsWritten rest) go own =
      let more = steps_measured site source level ok called free after knows rest go own in
      record { room = more.room; small = omega (arith, more.small); goes = more.goes }
  steps_measured site source level ok called free after knows (ChangeWritten rest) go own =
      let more = steps_measured site source level ok called free after knows rest go own in
      record { room = more.room; small = omega (arith, more.small); goes = more.goes }
  steps_measured site source level ok called free after knows
      (PartWritten {first = first} {more = others} one rest) go own =
      both_measured {at = ground site source level ok} first others
      (part_measured site source level ok called free knows one go.0
      (λ label bound. own label (bound_first label first others bound)))
      (steps_measured site source level ok called free after knows rest go.1
      (λ label bound. own label (bound_after label first others bound)))

  -- the items of a part
  pub part_measured :
      (site : Site) (source : Source site.tree.now) (level : ℕ) (ok : ℕ → Type 0)
      (called : List Bool) (free : ℕ)
      {facts last : Facts} {part : Part} {list : List Item}
      → Knows ok site called
      → IsWritten site called facts part list last
      → IsOfTree (ground site source level ok) free part.task
      → ((label : ℕ) → ItemsBind label list → ok label)
      → Measured (ground site source level ok) free list free (bytes_of_task site.tree.now part.task)
  part_measured site source level ok called free {facts = facts} {last = last} {part = part} {list = list}
      knows (Planned label written) is own =
      let footprint = part_footprint (ground site source level ok) free facts part label is
      (λ other bound. own other (steps_bound other written bound)) in
      let all = steps_measured site source level ok called free free knows written footprint.go own in
      record { room = all.room; small = omega (arith, all.small, footprint.small); goes = all.goes }
