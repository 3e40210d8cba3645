-- Relations for the parts of a module's code that are added.
use Rattle.std.specs.Prelude.{◌≡◌, ◌<◌, ◌⊎◌, ℕ, Bool, true, false, List, [], ◌∷◌, ◌++◌, length, None, slice_index_or}
use Rattle.asm8080.specs.declared.item.Item.{Item}
use Rattle.runtime8080.specs.declared.routine.Routine.{Routine}
use Rattle.runtime8080.specs.declared.routine.Routine.TheVariants as names
use Rattle.treecode.specs.declared.module.TreeModule.{TreeModule}
use Rattle.treecode.specs.declared.procedure.ProcedureKind.{ProcedureKind}
use Rattle.treecode.specs.declared.procedure.TreeProcedure.{TreeProcedure}
use Rattle.steps8080.specs.internal.Externals.{Extends}
use Rattle.steps8080.specs.internal.Step.{label_after}
use Rattle.steps8080.specs.internal.Writer.{Written, WritesRoutine, is_marked}
use Rattle.exprgen8080.specs.internal.Emission.{first_label, module_label_of_routine, module_routine_label}
use Rattle.statements8080.specs.declared.body.Body.{Body}
use Rattle.codegen8080.specs.declared.generator.Generator.{Generator}
use Rattle.codegen8080.specs.declared.meeting.Here.{Here}
use Rattle.codegen8080.specs.internal.Driven.{AddsCode, here_of}
use Rattle.codegen8080.specs.internal.ItemLabels.{ItemsBind}
use Rattle.codegen8080.specs.internal.Labelled.{LabelledSteps}
use Rattle.codegen8080.specs.internal.Modules.{AreCodeOf, AreProceduresLabelled, AreRoutines, IsCodeLabelled, IsCodeOf, IsCodeOfMain, IsCodeOfMainLabelled, IsEndCode, IsEndLabelled, IsMainCode, IsMainLabelled, IsOwnCode, IsOwnLabelled, IsProcedureCode, IsProcedureLabelled, has_main}
use Rattle.codegen8080.specs.internal.Procedures.{entry_labels, entry_steps}

-- the code of the end of a procedure, if it can be reached, with these labels
abbrev pub LabelledEnd :
    (body : Body) (called : List Bool) (here : Here) (is_reached : Bool) (items : List Item) (label next : ℕ) → Type 0
LabelledEnd body called here is_reached items label next =
    (code : IsEndCode body called here is_reached items)
    × IsEndLabelled body called here is_reached items code label next

-- the same for a main program, and if there is one
abbrev pub LabelledMain :
    (tree : TreeModule) (called : List Bool) (start : ℕ) (items : List Item) (label next : ℕ) → Type 0
LabelledMain tree called start items label next =
    (code : IsMainCode tree called start items) × IsMainLabelled code label next

abbrev pub LabelledCodeOfMain :
    (tree : TreeModule) (called : List Bool) (start : ℕ) (is_there : Bool) (items : List Item) (label next : ℕ) → Type 0
LabelledCodeOfMain tree called start is_there items label next =
    (code : IsCodeOfMain tree called start is_there items)
    × IsCodeOfMainLabelled tree called start is_there items code label next

-- the same for a procedure that is not EXTERNAL, for any, and for procedures one after another
abbrev pub LabelledProcedure :
    (tree : TreeModule) (called : List Bool) (number : ℕ) (procedure : TreeProcedure) (items : List Item)
    (label next : ℕ)
    → Type 0
LabelledProcedure tree called number procedure items label next =
    (code : IsProcedureCode tree called number procedure items) × IsProcedureLabelled code label next

abbrev pub LabelledCode :
    (tree : TreeModule) (called : List Bool) (number : ℕ) (procedure : TreeProcedure) (kind : ProcedureKind)
    (items : List Item) (label next : ℕ)
    → Type 0
LabelledCode tree called number procedure kind items label next =
    (code : IsCodeOf tree called number procedure kind items)
    × IsCodeLabelled tree called number procedure kind items code label next

abbrev pub LabelledProcedures :
    (tree : TreeModule) (called : List Bool) (number : ℕ) (procedures : List TreeProcedure) (items : List Item)
    (label next : ℕ)
    → Type 0
LabelledProcedures tree called number procedures items label next =
    (code : AreCodeOf tree called number procedures items)
    × AreProceduresLabelled tree called number procedures items code label next

-- the entry of a procedure is added, with the next labels
abbrev pub AddsEntry : Body → (before after : Generator) → Type 0
AddsEntry body before after =
    AddsCode body.tree.now
    (λ called list label next.
    LabelledSteps body called (here_of before) None (entry_steps body label) list (here_of after)
    (label_after label (entry_labels body)) next)
    before after

-- its end is added, if it can be reached
abbrev pub AddsEnd : Body → (before after : Generator) → Type 0
AddsEnd body before after =
    AddsCode body.tree.now
    (λ called list label next.
    LabelledEnd body called (here_of before) body.procedure.now.reaches_its_end list label next)
    before after

-- a whole procedure is added: one that is not EXTERNAL, or any
abbrev pub AddsOwn : TreeModule → (number : ℕ) → TreeProcedure → (before after : Generator) → Type 0
AddsOwn tree number procedure before after =
    AddsCode tree (λ called list label next. LabelledProcedure tree called number procedure list label next) before after

abbrev pub AddsProcedure : TreeModule → (number : ℕ) → TreeProcedure → (before after : Generator) → Type 0
AddsProcedure tree number procedure before after =
    AddsCode tree
    (λ called list label next. LabelledCode tree called number procedure procedure.kind list label next)
    before after

-- procedures are added one after another
abbrev pub AddsProcedures : TreeModule → (number : ℕ) → List TreeProcedure → (before after : Generator) → Type 0
AddsProcedures tree number procedures before after =
    AddsCode tree (λ called list label next. LabelledProcedures tree called number procedures list label next) before after

-- a main program is added
abbrev pub AddsMain : TreeModule → (start : ℕ) → (before after : Generator) → Type 0
AddsMain tree start before after =
    AddsCode tree (λ called list label next. LabelledMain tree called start list label next) before after

-- the same, if there is one
abbrev pub AddsCodeOfMain : TreeModule → (start : ℕ) → (before after : Generator) → Type 0
AddsCodeOfMain tree start before after =
    AddsCode tree
    (λ called list label next. LabelledCodeOfMain tree called start (has_main tree) list label next)
    before after

-- all code of a module but the routines is added; the labels of its procedures and of the routines are taken
-- before
abbrev pub AddsOwnCode : TreeModule → (start : ℕ) → (before after : Generator) → Type 0
AddsOwnCode tree start before after =
    AddsCode tree
    (λ called list label next.
    (code : IsOwnCode tree called start list)
    × (label ≡ first_label tree → IsOwnLabelled code next))
    before after

-- a routine is added if the table marks it
abbrev pub AddsRoutineIf :
    TreeModule → (index : ℕ) → Routine → (before after : Written) → (is_called : Bool) → Type 0
AddsRoutineIf tree index routine before after true =
    WritesRoutine routine (module_routine_label tree index) before after
AddsRoutineIf tree index routine before after false = after ≡ before

abbrev pub AddsCalled :
    TreeModule → (called : List Bool) → (index : ℕ) → Routine → (before after : Written) → Type 0
AddsCalled tree called index routine before after =
    AddsRoutineIf tree index routine before after (slice_index_or called index false)

-- a label is that of one of these routines
abbrev pub IsLabelOf : TreeModule → List Routine → (label : ℕ) → Type 0
IsLabelOf tree [] label = ⊥
IsLabelOf tree (routine ∷ others) label =
    (label ≡ (module_label_of_routine tree routine).index) ⊎ IsLabelOf tree others label

-- none of these routines has its place, and no two have the same label
abbrev pub AreFree : TreeModule → (marked : List Bool) → List Routine → Type 0
AreFree tree marked [] = Unit {0}
AreFree tree marked (routine ∷ others) =
    (is_marked marked (module_label_of_routine tree routine).index ≡ false)
    × (IsLabelOf tree others (module_label_of_routine tree routine).index → ⊥)
    × AreFree tree marked others

-- those of these routines that are called are added; they bind each label that the code gets by that
pub record AddsRoutines
    (tree : TreeModule) (called : List Bool) (routines : List Routine) (before after : Written) : Type 0 where
  pub list : List Item
  pub added : after.code.items ≡ before.code.items ++ list
  pub are : AreFree tree before.marked routines → AreRoutines tree called after routines list
  pub counted :
      AreFree tree before.marked routines
      → (label : ℕ) → label < after.code.labels → (label < before.code.labels) ⊎ ItemsBind label list
  pub marked :
      (label : ℕ) → is_marked after.marked label ≡ true
      → (is_marked before.marked label ≡ true) ⊎ IsLabelOf tree routines label
  pub labels : Extends before.labels after.labels
  pub externals : Extends before.externals after.externals
  pub no_names : Extends after.externals before.externals
  pub count : length after.externals ≡ length before.externals

-- the routines in three parts
abbrev pub first_routines : List Routine
first_routines = names.Multiply ∷ names.Divide ∷ names.ShiftLeftByte ∷ []

abbrev pub next_routines : List Routine
next_routines = names.ShiftRightByte ∷ names.ShiftLeftAddress ∷ names.ShiftRightAddress ∷ []

abbrev pub last_routines : List Routine
last_routines = names.RotateLeft ∷ names.RotateRight ∷ names.Move ∷ []
