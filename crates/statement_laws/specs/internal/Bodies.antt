-- A body whose code is carried out, and the ways that lead out of a statement of it.
use Rattle.std.specs.Prelude.{◌≡◌, ◌≢◌, ℕ, ◌<◌, ◌≤◌, true, List, Some, None, AllPairs, slice_get}
use Rattle.asm8080.specs.declared.item.Item.{Item}
use Rattle.typed_trees.specs.WellTyped.{Within, WithinProcedure, WithinMain}
use Rattle.meaning.specs.Meaning.{later_by}
use Rattle.meaning.specs.Outcomes.{State as SourceState, Outcome, Flow, Onward, Returned, Jumped}
use Rattle.isa8080.specs.State.{Registers, State}
use Rattle.code_meaning.specs.internal.Activations.{Arrives, HasRoom, IsReady, IsThere, loaded_of}
use Rattle.code_meaning.specs.Landing.{Does, at_place}
use Rattle.steps8080.specs.declared.facts.Facts.{Facts}
use Rattle.statements8080.specs.declared.body.Body.{Body}
use Rattle.statements8080.specs.internal.Bodies.{body_label}
use Rattle.codegen8080.specs.declared.meeting.Here.{Here}
use Rattle.codegen8080.specs.internal.Generated.{AreCarriedOut, site_of}
use Rattle.codegen8080.specs.internal.Procedures.{return_steps}
use Rattle.task_laws.specs.internal.Contexts.{Context, IsSound, ResultLies}
use Rattle.task_laws.specs.internal.Tasks.{Know}

-- What a body is carried out in; the body; and the numbers that its labels have in the module, in the order of their
-- numbers in the body.
pub record BodyContext : Type 0 where
  pub context : Context
  pub body : Body
  pub labels : List ℕ

-- the body is that of the procedure whose it is; a main program does not return
abbrev pub IsWithin : Within → Body → Type 0
IsWithin WithinMain body = Unit {0}
IsWithin (WithinProcedure number result) body = body.procedure.now.result ≡ result

-- What is true of where a body is carried out: further turns and jumps are tied by a number that is not below the one
-- below which its calls are known.
pub record IsSoundBody (at : BodyContext) : Type 0 where
  pub sound : IsSound at.context
  pub site : at.context.site ≡ site_of at.body
  pub within : IsWithin at.context.within at.body
  pub bound : ℕ
  pub later : at.context.later ≡ later_by bound
  pub number : at.context.number ≤ bound
  pub labels : AllPairs (λ (one other : ℕ). one ≢ other) at.labels

-- the place of a label of the body
pub record LabelLies (at : BodyContext) (label place : ℕ) : Type 0 where
  pub number : ℕ
  pub is_label : slice_get at.labels number ≡ Some label
  pub place_is : place ≡ at.context.activation.layout.place_of (body_label at.body number).index

-- the code of the return stands at a place
pub record ReturnStands (at : BodyContext) (place : ℕ) : Type 0 where
  pub here : Here
  pub last : Here
  pub list : List Item
  pub to : ℕ
  pub written : AreCarriedOut at.body at.context.called here None (return_steps at.body) list last
  pub there : IsThere at.context.activation list place to

-- a machine of the body at a place, with nothing pushed, where something holds
abbrev pub Comes :
    BodyContext → (base : List ℕ) → (place : ℕ) → (Holds : Registers → List ℕ → Type 0) → SourceState → State
    → Type 0
Comes at base place Holds t end =
    Arrives at.context.activation at.context.activation.level base place
    (λ (given : Unit {0}) (r : Registers) (memory : List ℕ). Holds r memory) tt t end

-- the end of a statement is reached, where this is known, if the code goes on there
pub record GoesOn (at : BodyContext) (base : List ℕ) (to : ℕ) (after : Here) (t : SourceState) (end : State) :
    Type 0 where
  pub goes_on : after.goes_on ≡ true
  pub comes : Comes at base to (λ r memory. Know at.context after.facts r memory) t end

-- the code of the return is reached, with the value where results lie
pub record ComesToReturn (at : BodyContext) (base : List ℕ) (value : ℕ) (t : SourceState) (end : State) :
    Type 0 where
  pub place : ℕ
  pub stands : ReturnStands at place
  pub comes : Comes at base place (λ r memory. ResultLies at.body.procedure.now.result value r memory) t end

-- a label is reached, after less of the budget is left
pub record ComesToLabel
    (at : BodyContext) (base : List ℕ) (before label : ℕ) (t : SourceState) (end : State) : Type 0 where
  pub place : ℕ
  pub lies : LabelLies at label place
  pub spent : t.budget < before
  pub comes : Comes at base place (λ r memory. Unit {0}) t end

-- The ways out of a statement that ends at a place, by how it leaves what follows; so much of the budget was there
-- before it.
abbrev pub Leaves :
    BodyContext → (base : List ℕ) → (to : ℕ) → (after : Here) → (before : ℕ) → Flow → SourceState → State → Type 0
Leaves at base to after before Onward t end = GoesOn at base to after t end
Leaves at base to after before (Returned value) t end = ComesToReturn at base value t end
Leaves at base to after before (Jumped label) t end = ComesToLabel at base before label t end

-- Code from one place to another does what is meant, with nothing pushed, where this is known at its start.
abbrev pub Behaves :
    BodyContext → (before : Facts) → (need from : ℕ) → (after : Here) → (to : ℕ)
    → (meant : SourceState → Outcome Flow) → Type 0
Behaves at before need from after to meant =
    (base : List ℕ) (s : SourceState) (r : Registers) (memory : List ℕ)
    → s.budget < at.context.number
    → HasRoom at.context.activation at.context.activation.level 0 need
    → IsReady at.context.activation at.context.activation.level base s.memory s.frame r memory
    → Know at.context before r memory
    → Does (loaded_of at.context.activation) s.budget 0 (at_place from r memory s.events) (meant s)
    (Leaves at base to after s.budget)
