-- What the code of a body needs of the tables: the statements and the lists in it are there, and each statement has a
-- higher number than those in it.
use Rattle.std.specs.Prelude.{◌≡◌, ℕ, ◌<◌, List, [], ◌∷◌, length, Some, slice_get}
use Rattle.typed_trees.specs.TypedTrees.{TypedStatement, TypedStatements}
use Rattle.layout.specs.Storage.{Storage}
use Rattle.treecode.specs.declared.lists.Range.{Range}
use Rattle.treecode.specs.declared.module.TreeModule.{TreeModule}
use Rattle.treecode.specs.declared.procedure.TreeProcedure.{TreeProcedure}
use Rattle.treecode.specs.declared.statement.Statement.{Statement}
use Rattle.treecode.specs.internal.Lowered.{AreStatements, IsStatementForm}
use Rattle.treecode.specs.internal.Nodes.{Nodes, nodes_of}
use Rattle.statements8080.specs.declared.plan.Planned.{Planned}
use Rattle.statements8080.specs.declared.plan.Planned.TheVariants as planned

-- a form of a statement represents one of a typed module; the statements in it have numbers below a bound
pub record FormStands (nodes : Nodes) (bound : ℕ) (statement : Statement) : Type 0 where
  pub storage : Storage
  pub labels : List ℕ
  pub tree : TypedStatement
  pub is : IsStatementForm nodes storage labels bound statement tree

-- the statement with this number is in the table
pub record StatementStands (nodes : Nodes) (number : ℕ) : Type 0 where
  pub statement : Statement
  pub there : slice_get nodes.statements number ≡ Some statement
  pub form : FormStands nodes number statement

-- the statements of a list are in the tables, with numbers below a bound
pub record ListStands (nodes : Nodes) (bound : ℕ) (range : Range) : Type 0 where
  pub storage : Storage
  pub labels : List ℕ
  pub trees : TypedStatements
  pub are : AreStatements nodes storage labels bound range.first range.count trees

-- the statement or the list that a planned step holds
abbrev pub StepStands : Nodes → (bound : ℕ) → Planned → Type 0
StepStands nodes bound (planned.Statement number) = (number.index < bound) × StatementStands nodes number.index
StepStands nodes bound (planned.List range) = ListStands nodes bound range
StepStands nodes bound step = Unit {0}

-- those that planned steps hold
pub data StepsStand (nodes : Nodes) (bound : ℕ) : List Planned → Type 0 where
  NoneStand : StepsStand nodes bound []
  MoreStand : {step : Planned} {others : List Planned}
      → StepStands nodes bound step
      → StepsStand nodes bound others
      → StepsStand nodes bound (step ∷ others)

-- the statements of a body
abbrev pub BodyStands : TreeModule → TreeProcedure → Type 0
BodyStands tree procedure = ListStands (nodes_of tree) (length tree.statements.items) procedure.body

-- those of the bodies of procedures
abbrev pub AllStand : TreeModule → List TreeProcedure → Type 0
AllStand tree procedures =
    (number : ℕ) (procedure : TreeProcedure)
    → slice_get procedures number ≡ Some procedure
    → BodyStands tree procedure

-- those of the main program and of each procedure
pub record BodiesStand (tree : TreeModule) : Type 0 where
  pub main : BodyStands tree tree.main
  pub procedures : AllStand tree tree.procedures.items
