-- What the laws of procedures take from those of statements, of the meaning, and of frames.
use Rattle.std.specs.Prelude.{◌≡◌, ℕ, ◌+◌, ◌-◌, ◌*◌, ◌≤◌, List, length, slice_get, Some, None}
use Rattle.std.specs.Borrow.{Bor}
use Rattle.typed_trees.specs.Charge.{charge_of}
use Rattle.typed_trees.specs.TypedTrees.{TypedProcedure}
use Rattle.typed_trees.specs.WellTyped.{Within, WithinProcedure}
use Rattle.asm8080.specs.declared.item.Item.{Item}
use Rattle.treecode.specs.declared.lists.Range.{Range}
use Rattle.treecode.specs.declared.module.TreeModule.{TreeModule}
use Rattle.treecode.specs.declared.procedure.ProcedureKind.TheVariants as kinds
use Rattle.treecode.specs.declared.procedure.TreeProcedure.{TreeProcedure}
use Rattle.frames.specs.declared.frame_plan.FramePlan.{FramePlan}
use Rattle.frames.specs.internal.Frames.{IsPlanOf, return_of}
use Rattle.code_meaning.specs.internal.Activations.{IsThere}
use Rattle.steps8080.specs.declared.facts.Facts.{Facts}
use Rattle.statements8080.specs.declared.body.Body.{Body}
use Rattle.statement_laws.specs.Here.{Here}
use Rattle.statement_laws.specs.internal.Generated.{AreCarriedOut, IsListCarriedOut}
use Rattle.statement_laws.specs.internal.GeneratedProcedures.{entry_steps}
use Rattle.statement_laws.specs.internal.CodeContexts.{CallsFit}
use Rattle.statement_laws.specs.internal.Bodies.{BodyContext, IsSoundBody}
use Rattle.statement_laws.specs.internal.Statements.{ListDoes}
use Rattle.procedure_laws.specs.internal.Contexts.{Shape, body_in, context_in, frame_shape, static_shape}
use Rattle.procedure_laws.specs.internal.Modules.{ModuleCode, at_start}
use Rattle.procedure_laws.specs.internal.Procedures.{BeginDoes, ReturnDoes}

-- a module whose tree code is this one
abbrev pub with_tree : ModuleCode → Bor TreeModule → ModuleCode
with_tree code tree = record code { tree = tree }

-- something holds of a module, wherever its tree code lies
abbrev pub Anywhere : (Holds : ModuleCode → Type 0) → ModuleCode → Type 0
Anywhere Holds code = (tree : Bor TreeModule) → tree.now ≡ code.tree.now → Holds (with_tree code tree)

-- the code of a list does what the list says, wherever it stands
abbrev pub ListsAreDone : Type 0
ListsAreDone =
    (at : BodyContext) (facts : Facts) (range : Range) (list : List Item) (last : Here) (from to : ℕ)
    → IsSoundBody at
    → IsListCarriedOut at.body at.context.called facts range list last
    → IsThere at.context.activation list from to
    → ListDoes at facts range from last to

-- calls in a module give values of their types, and leave bytes
abbrev pub CallsOfModuleFit : ModuleCode → (bound : ℕ) → Type 0
CallsOfModuleFit code bound =
    (within : Within) (frame : Bor FramePlan) (number room : ℕ) (shape : Shape)
    → CallsFit (context_in code within frame bound number room shape)

-- where the stack pointer is in the body of a procedure, which was at the return address when it was entered
abbrev pub static_level : TypedProcedure → (top : ℕ) → ℕ
static_level found top = top + 2 * (length found.parameter_types - 1)

abbrev pub frame_level : FramePlan → (top : ℕ) → ℕ
frame_level plan top = top - (return_of plan).start

-- the body of a procedure that was entered there with so much room
abbrev pub static_body :
    ModuleCode → (index : ℕ) → TypedProcedure → Body → (bound number room top : ℕ) → BodyContext
static_body code index found body bound number room top =
    body_in code (WithinProcedure index found.result) body found bound number (room - charge_of found)
    (static_shape (top + 2 - room) (static_level found top))

abbrev pub reentrant_body :
    ModuleCode → (index : ℕ) → TypedProcedure → Body → (bound number room top : ℕ) → BodyContext
reentrant_body code index found body bound number room top =
    body_in code (WithinProcedure index found.result) body found bound number (room - charge_of found)
    (frame_shape code.typed index found body.frame.now (top + 2 - room) (frame_level body.frame.now top))

-- what is true of a procedure of a module and its body
pub record IsBodyOf
    (code : ModuleCode) (index : ℕ) (procedure : TreeProcedure) (found : TypedProcedure) (body : Body) : Type 0 where
  pub there : slice_get code.tree.now.procedures.items index ≡ Some procedure
  pub is : slice_get code.typed.procedures index ≡ Some found
  pub tree : body.tree ≡ code.tree
  pub is_procedure : body.procedure.now ≡ procedure
  pub frame : procedure.kind ≡ kinds.Reentrant → IsPlanOf procedure body.frame.now

-- procedures that are not REENTRANT begin and return as they are meant to
abbrev pub StaticBegins : ModuleCode → (bound : ℕ) → Type 0
StaticBegins code bound =
    (index number room from to top first : ℕ) (procedure : TreeProcedure) (found : TypedProcedure) (body : Body)
    (list : List Item) (begun : Here)
    → IsBodyOf code index procedure found body
    → procedure.kind ≡ kinds.Static
    → charge_of found ≤ room
    → IsSoundBody (static_body code index found body bound number room top)
    → AreCarriedOut body code.called at_start None (entry_steps body first) list begun
    → IsThere (static_body code index found body bound number room top).context.activation list from to
    → BeginDoes (static_body code index found body bound number room top) index found room from to top begun.facts

abbrev pub StaticReturns : ModuleCode → (bound : ℕ) → Type 0
StaticReturns code bound =
    (index number room top : ℕ) (procedure : TreeProcedure) (found : TypedProcedure) (body : Body)
    → IsBodyOf code index procedure found body
    → procedure.kind ≡ kinds.Static
    → charge_of found ≤ room
    → IsSoundBody (static_body code index found body bound number room top)
    → ReturnDoes (static_body code index found body bound number room top) (static_level found top + 2)

-- and so do REENTRANT ones
abbrev pub ReentrantBegins : ModuleCode → (bound : ℕ) → Type 0
ReentrantBegins code bound =
    (index number room from to top first : ℕ) (procedure : TreeProcedure) (found : TypedProcedure) (body : Body)
    (list : List Item) (begun : Here)
    → IsBodyOf code index procedure found body
    → procedure.kind ≡ kinds.Reentrant
    → charge_of found ≤ room
    → IsSoundBody (reentrant_body code index found body bound number room top)
    → AreCarriedOut body code.called at_start None (entry_steps body first) list begun
    → IsThere (reentrant_body code index found body bound number room top).context.activation list from to
    → BeginDoes (reentrant_body code index found body bound number room top) index found room from to top begun.facts

abbrev pub ReentrantReturns : ModuleCode → (bound : ℕ) → Type 0
ReentrantReturns code bound =
    (index number room top : ℕ) (procedure : TreeProcedure) (found : TypedProcedure) (body : Body)
    → IsBodyOf code index procedure found body
    → procedure.kind ≡ kinds.Reentrant
    → charge_of found ≤ room
    → IsSoundBody (reentrant_body code index found body bound number room top)
    → ReturnDoes (reentrant_body code index found body bound number room top)
    (frame_level body.frame.now top + (2 + 2 * length found.parameters + found.frame_bytes))
