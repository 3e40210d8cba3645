-- How a procedure begins and how it returns, on the machine.
use Rattle.std.specs.Prelude.{◌≡◌, ℕ, ◌+◌, List, Option}
use Rattle.trees.specs.declared.declaration.ScalarType.{ScalarType}
use Rattle.typed_trees.specs.TypedTrees.{TypedProcedure}
use Rattle.meaning.specs.Meaning.{frame_of, parameters_set}
use Rattle.meaning.specs.Outcomes.{State as SourceState}
use Rattle.isa8080.specs.State.{HoldBytes, Registers, State, wrap}
use Rattle.asm8080.specs.Standing.{Keeps}
use Rattle.code_meaning.specs.internal.Activations.{IsReady, Shares, loaded_of}
use Rattle.code_meaning.specs.Landing.{Does, Lands, at_place}
use Rattle.steps8080.specs.declared.facts.Facts.{Facts}
use Rattle.statement_laws.specs.internal.CodeContexts.{ResultLies, bytes_pushed}
use Rattle.statement_laws.specs.internal.Tasks.{Know}
use Rattle.statement_laws.specs.internal.Bodies.{BodyContext, ReturnStands}
use Rattle.procedure_laws.specs.Calls.{IsEntered, IsOfCall, ReturnLies}

-- A procedure has begun: the machine is ready at the begin of its body, where this is known, with the return address
-- at its distance; no byte changed but those of the call.
pub record HasBegun
    (at : BodyContext) (to above back : ℕ) (facts : Facts) (before : List ℕ) (t : SourceState) (end : State) :
    Type 0 where
  pub r : Registers
  pub memory : List ℕ
  pub is_at : end ≡ at_place to r memory t.events
  pub ready : IsReady at.context.activation at.context.activation.level memory t.memory t.frame r memory
  pub known : Know at.context facts r memory
  pub return_lies : ReturnLies (at.context.activation.level + at.context.activation.back) back memory
  pub kept : Keeps (IsOfCall at.context.activation.around.program at.context.activation.floor above) before memory

-- From its entry on, a procedure sets its parameters, in a new frame, and has begun then at a place.
abbrev pub BeginDoes :
    BodyContext → (number : ℕ) → TypedProcedure → (room entry to top : ℕ) → (facts : Facts) → Type 0
BeginDoes at number found room entry to top facts =
    (back : ℕ) (values : List ℕ) (s : SourceState) (r : Registers) (memory : List ℕ)
    → IsEntered at.context.activation.around.program at.context.activation.image room found.parameter_types values
    top back s r memory
    → Does (loaded_of at.context.activation) s.budget 0 (at_place entry r memory s.events)
    (parameters_set at.context.activation.around found.parameter_types found.parameters values
    (record s { frame = frame_of number at.context.typed }))
    (λ given t end. HasBegun at to (top + 2 + bytes_pushed values) back facts memory t end)

-- a return came back
pub record HasReturned
    (at : BodyContext) (result : Option ScalarType) (above back : ℕ) (before : List ℕ) (value : ℕ)
    (t : SourceState) (end : State) : Type 0 where
  pub r : Registers
  pub memory : List ℕ
  pub is_at : end ≡ at_place back r memory t.events
  pub shares : Shares at.context.activation.around.program at.context.activation.image t.memory memory
  pub registers : HoldBytes r
  pub pointer : r.sp ≡ wrap above
  pub kept : Keeps (IsOfCall at.context.activation.around.program at.context.activation.floor above) before memory
  pub lies : ResultLies result value r memory

-- Wherever the code of the return stands, a ready machine with the result in its register comes back, with the caller's
-- stack pointer.
abbrev pub ReturnDoes : BodyContext → (above : ℕ) → Type 0
ReturnDoes at above =
    (place back value : ℕ) (base : List ℕ) (t : SourceState) (r : Registers) (memory : List ℕ)
    → ReturnStands at place
    → IsReady at.context.activation at.context.activation.level base t.memory t.frame r memory
    → ResultLies at.body.procedure.now.result value r memory
    → ReturnLies (at.context.activation.level + at.context.activation.back) back memory
    → Lands at.context.activation.around.program.script t.budget 0 (at_place place r memory t.events) t.budget
    (HasReturned at at.body.procedure.now.result above back memory value t)
