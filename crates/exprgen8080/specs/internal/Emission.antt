-- The code of steps: their items, and the facts about the registers after them.
use Rattle.std.specs.Prelude.{◌≡◌, ◌==◌, ℕ, Bool, true, false, if◌then◌else◌, List, [], ◌∷◌, ◌++◌, length, Some, None, slice_get, slice_index_or}
use Rattle.std.specs.List.{list_any}
use Rattle.isa8080.specs.declared.instr.Instr.{Instr}
use Rattle.isa8080.specs.declared.instr.Instr.TheVariants.{Accumulate}
use Rattle.isa8080.specs.declared.instr.Operand.TheVariants.{Of}
use Rattle.isa8080.specs.declared.instr.Operation.TheVariants.{Or}
use Rattle.isa8080.specs.declared.instr.Register.TheVariants.{A}
use Rattle.asm8080.specs.declared.item.Item.{Item}
use Rattle.asm8080.specs.declared.item.Item.TheVariants as items
use Rattle.asm8080.specs.declared.item.Reference.TheVariants.{AtLabel}
use Rattle.asm8080.specs.declared.item.WordForm.{WordForm}
use Rattle.asm8080.specs.declared.item.WordForm.TheVariants.{CallTo}
use Rattle.runtime8080.specs.declared.routine.Routine.{Routine}
use Rattle.runtime8080.specs.declared.routine.Routine.TheVariants as routines
use Rattle.treecode.specs.declared.place.Place.{Place}
use Rattle.treecode.specs.declared.procedure.ProcedureKind.{ProcedureKind}
use Rattle.treecode.specs.declared.procedure.ProcedureKind.TheVariants as kinds
use Rattle.treecode.specs.declared.module.TreeModule.{TreeModule}
use Rattle.steps8080.specs.declared.facts.Facts.{Facts}
use Rattle.steps8080.specs.declared.step.LabelNumber.{LabelNumber}
use Rattle.steps8080.specs.declared.step.Part.{Part}
use Rattle.steps8080.specs.declared.step.Step.{Step}
use Rattle.steps8080.specs.declared.step.Step.TheVariants as steps
use Rattle.steps8080.specs.internal.Facts.{after, after_form, after_word, no_facts, with_facts, without_memory}
use Rattle.steps8080.specs.internal.Step.{label_after, label_of}
use Rattle.steps8080.specs.internal.Writer.{external_call_item, jump_item, word_item}
use Rattle.steps8080.specs.declared.sites.site.Site.{Site}
use Rattle.exprgen8080.specs.internal.Forms.{task_steps}

-- the index of each routine, in the order of their labels
abbrev pub index_of_routine : Routine → ℕ
index_of_routine routines.Multiply = 0
index_of_routine routines.Divide = 1
index_of_routine routines.ShiftLeftByte = 2
index_of_routine routines.ShiftRightByte = 3
index_of_routine routines.ShiftLeftAddress = 4
index_of_routine routines.ShiftRightAddress = 5
index_of_routine routines.RotateLeft = 6
index_of_routine routines.RotateRight = 7
index_of_routine routines.Move = 8

-- the first label after those of the procedures of a module and of the routines
abbrev pub first_label : TreeModule → ℕ
first_label tree = label_after (length tree.procedures.items) 9

-- the label of the routine with this index, after those of the procedures of the module
abbrev pub module_routine_label : TreeModule → (index : ℕ) → LabelNumber
module_routine_label tree index = label_of (label_after (length tree.procedures.items) index)

abbrev pub module_label_of_routine : TreeModule → Routine → LabelNumber
module_label_of_routine tree routine = module_routine_label tree (index_of_routine routine)

-- the label of a routine in the module of a site
abbrev pub label_of_routine : Site → Routine → LabelNumber
label_of_routine site routine = module_label_of_routine site.tree.now routine

-- whether a table marks a routine as called
abbrev pub has_routine : (called : List Bool) → Routine → Bool
has_routine called routine = slice_index_or called (index_of_routine routine) false

-- whether an item calls a label; whether one of items calls a routine of a module
abbrev pub calls_label : (label : ℕ) → Item → Bool
calls_label label (items.WithWord CallTo (AtLabel other)) = label == other
calls_label label item = false

abbrev pub call_routine : TreeModule → Routine → List Item → Bool
call_routine tree routine list = list_any (calls_label (module_label_of_routine tree routine).index) list

-- the site with these facts
abbrev pub knowing : Site → Facts → Site
knowing site facts = record site { facts = facts }

-- the call of the procedure with this number: of its label, or of its name if it is in another module
abbrev pub items_of_call : (procedure : ℕ) → ProcedureKind → List Item
items_of_call procedure (kinds.External name) = external_call_item name ∷ []
items_of_call procedure kind = jump_item CallTo (label_of procedure) ∷ []

abbrev pub module_call_items : TreeModule → (procedure : ℕ) → List Item
module_call_items tree procedure = elim (slice_get tree.procedures.items procedure) [
  | Some found ↦ items_of_call procedure found.kind
  | None ↦ []
]

abbrev pub call_items : Site → (procedure : ℕ) → List Item
call_items site procedure = module_call_items site.tree.now procedure

-- the test of A
abbrev pub test_of_a : Instr
test_of_a = Accumulate Or (Of A)

-- the test of A, unless the zero flag shows already whether A is 0
abbrev pub test_items : Facts → List Item
test_items facts = if facts.zero_shows_a then [] else items.Plain test_of_a ∷ []

abbrev pub after_test : Facts → Facts
after_test facts = if facts.zero_shows_a then facts else after facts test_of_a

mutual
  -- Steps with the facts before them, the items of their code, and the facts after them. The table marks the
  -- routines that are called.
  pub data AreWritten (site : Site) (called : List Bool) : Facts → List Step → List Item → Facts → Type 0 where
    NoneWritten : {facts : Facts} → AreWritten site called facts [] [] facts
    PlainWritten : {facts last : Facts} {i : Instr} {others : List Step} {more : List Item}
        → AreWritten site called (after facts i) others more last
        → AreWritten site called facts (steps.Plain i ∷ others) (items.Plain i ∷ more) last
    WordWritten : {facts last : Facts} {form : WordForm} {place : Place} {others : List Step} {more : List Item}
        → AreWritten site called (after_word facts form place) others more last
        → AreWritten site called facts (steps.Word form place ∷ others) (word_item form place ∷ more) last
    JumpWritten : {facts last : Facts} {form : WordForm} {label : LabelNumber} {others : List Step}
        {more : List Item}
        → AreWritten site called (after_form facts form) others more last
        → AreWritten site called facts (steps.Jump form label ∷ others) (jump_item form label ∷ more) last
    MarkWritten : {facts last : Facts} {label : LabelNumber} {others : List Step} {more : List Item}
        → AreWritten site called no_facts others more last
        → AreWritten site called facts (steps.Mark label ∷ others) (items.Mark label.index ∷ more) last
    RoutineWritten : {facts last : Facts} {routine : Routine} {others : List Step} {more : List Item}
        → has_routine called routine ≡ true
        → AreWritten site called no_facts others more last
        → AreWritten site called facts (steps.CallRoutine routine ∷ others)
        (jump_item CallTo (label_of_routine site routine) ∷ more) last
    CallWritten : {facts last : Facts} {procedure : ℕ} {others : List Step} {more : List Item}
        → AreWritten site called no_facts others more last
        → AreWritten site called facts (steps.CallProcedure procedure ∷ others)
        (call_items site procedure ++ more) last
    TestWritten : {facts last : Facts} {others : List Step} {more : List Item}
        → AreWritten site called (after_test facts) others more last
        → AreWritten site called facts (steps.TestA ∷ others) (test_items facts ++ more) last
    HoldsWritten : {facts held last : Facts} {others : List Step} {more : List Item}
        → AreWritten site called (with_facts facts held) others more last
        → AreWritten site called facts (steps.Holds held ∷ others) more last
    ChangeWritten : {facts last : Facts} {others : List Step} {more : List Item}
        → AreWritten site called (without_memory facts) others more last
        → AreWritten site called facts (steps.MemoryChanged ∷ others) more last
    PartWritten : {facts middle last : Facts} {part : Part} {others : List Step} {first more : List Item}
        → IsWritten site called facts part first middle
        → AreWritten site called middle others more last
        → AreWritten site called facts (steps.Part part ∷ others) (first ++ more) last

  -- a part with steps that are planned from these facts, with labels from a number on (see `IsLabelled`)
  pub data IsWritten (site : Site) (called : List Bool) : Facts → Part → List Item → Facts → Type 0 where
    Planned : {facts last : Facts} {part : Part} {list : List Item} (label : ℕ)
        → AreWritten site called facts (task_steps (knowing site facts) part label) list last
        → IsWritten site called facts part list last
