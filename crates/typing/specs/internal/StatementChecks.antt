-- The typing of what statements need beside the statements in them, by functions.
use Rattle.std.specs.Prelude.{ℕ, ◌==◌, not, ◌&&◌, List, [], ◌∷◌, Option, Some, None, is_none, Ok}
use Rattle.trees.specs.declared.declaration.ScalarType.{ScalarType}
use Rattle.trees.specs.declared.declaration.ScalarType.TheVariants.{Address}
use Rattle.trees.specs.declared.identifier.Identifier.{Identifier}
use Rattle.trees.specs.declared.identifier.Place.{Place}
use Rattle.trees.specs.Trees.{ExpressionTree, ReferenceTree, IterationTree, LoopHeadTree, WhileHead, CountHead, StatementTrees}
use Rattle.names.specs.declared.entity.Binding.{Binding}
use Rattle.names.specs.declared.entity.Binding.TheVariants.{Declared, BuiltInName}
use Rattle.names.specs.declared.entity.BuiltIn.TheVariants.{Move}
use Rattle.names.specs.declared.entity.Entity.TheVariants.{Object, Procedure, Label}
use Rattle.names.specs.Environment.{Here, into_list, out_of_list, with_label, is_label_again}
use Rattle.names.specs.BuiltIns.{jump_of}
use Rattle.names.specs.DeclaredNames.{labels_of}
use Rattle.typing.specs.declared.fault.Cause.TheVariants.{DeclaredTwice, ArgumentCount, CallOfTyped, CallOfNoProcedure, NoVariable, NoCounter, ReturnMismatch, ReturnOutside, MisplacedLabel, UnknownLabel}
use Rattle.typed_trees.specs.TypedTrees.{TypedExpression, TypedArguments, NoArguments as NoTyped, MoreArguments as MoreTyped, TypedIteration, TypedHead, WhileHead as TypedWhile, CountHead as TypedCount, TypedStatement, CallStatement as TypedCall, MoveStatement, ReturnStatement as TypedReturn, GotoStatement as TypedGoto, TypedStatements, TypedList, ListOf, Constants}
use Rattle.typing.specs.internal.Checks.{Checked, ◌>>=◌, refuse, require, found}
use Rattle.typing.specs.Nodes.{as_type, Destination}
use Rattle.typing.specs.References.{Known, place_of, scalar_of}
use Rattle.typing.specs.internal.ReferenceChecks.{Given, count_of_given, bound, object_of, procedure_of, is_writable, destination_of}
use Rattle.typing.specs.internal.Functions.{call_arguments}
use Rattle.typing.specs.internal.Expressions.{expression, given_reference}
use Rattle.typing.specs.Blocks.{Owner, TheModule, OfProcedure, Progress}
use Rattle.typing.specs.Items.{is_not_based}
use Rattle.typing.specs.Statements.{with_here, with_constants, assigned, places_from}

-- an expression in a statement
abbrev pub value : ExpressionTree → Progress → Checked (TypedExpression × Progress)
value tree progress = do
  typed ← expression progress.known tree progress.constants
  Ok (typed.0, with_constants typed.1 progress)

-- targets from left to right, and then the value that all of them get
abbrev pub destinations : Known → List ReferenceTree → Constants → Checked (List Destination × Constants)
destinations known [] constants = Ok ([], constants)
destinations known (first ∷ others) constants = do
  destination ← destination_of known (given_reference known first) constants
  rest ← destinations known others destination.1
  Ok (destination.0 ∷ rest.0, rest.1)

abbrev pub assignment : List ReferenceTree → ExpressionTree → Progress → Checked (TypedStatement × Progress)
assignment targets source progress = do
  places ← destinations progress.known targets progress.constants
  typed ← value source (with_constants places.1 progress)
  Ok (assigned places.0 typed.0, typed.1)

-- CALL of an untyped procedure, or of MOVE, whose arguments are ADDRESSes
abbrev pub moved : (place : Place) → TypedArguments → Checked TypedStatement
moved place (MoreTyped count (MoreTyped source (MoreTyped destination NoTyped))) =
    Ok (MoveStatement (as_type Address count) (as_type Address source) (as_type Address destination))
moved place values = refuse ArgumentCount place

abbrev pub call_bound :
    Known → Binding → Identifier → Given → Constants → Checked (TypedStatement × Constants)
call_bound known (Declared (Procedure number)) name given constants = do
  procedure ← procedure_of known name number
  _ ← require (is_none procedure.result) CallOfTyped (place_of name)
  typed ← call_arguments procedure (place_of name) given constants
  Ok (TypedCall number typed.0, typed.1)
call_bound known (BuiltInName Move) name given constants = do
  _ ← require (count_of_given given == 3) ArgumentCount (place_of name)
  typed ← given.typed constants
  moving ← moved (place_of name) typed.0
  Ok (moving, typed.1)
call_bound known binding name given constants = refuse CallOfNoProcedure (place_of name)

abbrev pub call : Identifier → Given → Progress → Checked (TypedStatement × Progress)
call name given progress = do
  binding ← bound progress.known name
  typed ← call_bound progress.known binding name given progress.constants
  Ok (typed.0, with_constants typed.1 progress)

-- RETURN stands in procedures, with a value exactly in typed ones
abbrev pub return_with :
    (place : Place) → Option ScalarType → Option ExpressionTree → Progress → Checked (TypedStatement × Progress)
return_with place None None progress = Ok (TypedReturn None, progress)
return_with place (Some scalar) (Some tree) progress = do
  typed ← value tree progress
  Ok (TypedReturn (Some (as_type scalar typed.0)), typed.1)
return_with place result tree progress = refuse ReturnMismatch place

abbrev pub return_from :
    (place : Place) → Owner → Option ExpressionTree → Progress → Checked (TypedStatement × Progress)
return_from place TheModule tree progress = refuse ReturnOutside place
return_from place (OfProcedure number heading) tree progress = return_with place heading.result tree progress

-- GOTO goes to a label that is known there
abbrev pub goto_bound : (place : Place) → Binding → Checked TypedStatement
goto_bound place (Declared (Label label)) = Ok (TypedGoto label)
goto_bound place binding = refuse UnknownLabel place

abbrev pub goto : Identifier → Progress → Checked (TypedStatement × Progress)
goto label progress = do
  typed ← goto_bound (place_of label) (jump_of progress.known.here label.name)
  Ok (typed, progress)

-- the variable of an iterative DO: a scalar without a subscript, neither BASED nor DATA
pub record Counter : Type 0 where
  pub object : ℕ
  pub scalar : ScalarType

abbrev pub counter_bound : Known → Binding → Identifier → Checked Counter
counter_bound known (Declared (Object number)) name = do
  object ← object_of known name number
  _ ← is_writable object name
  _ ← require (is_none object.dimension && is_not_based object.home) NoCounter (place_of name)
  scalar ← found (scalar_of object.object_type) NoCounter (place_of name)
  Ok (record { object = number; scalar = scalar })
counter_bound known binding name = refuse NoVariable (place_of name)

abbrev pub step : Option ExpressionTree → Progress → Checked (Option TypedExpression × Progress)
step None progress = Ok (None, progress)
step (Some tree) progress = do
  typed ← value tree progress
  Ok (Some typed.0, typed.1)

abbrev pub iteration_with :
    Counter → TypedExpression → TypedExpression → Option TypedExpression → TypedIteration
iteration_with counter first last by =
    record { variable = counter.object; scalar = counter.scalar; first = first; last = last; step = by }

abbrev pub iteration : IterationTree → Progress → Checked (TypedIteration × Progress)
iteration tree progress = do
  binding ← bound progress.known tree.variable
  counter ← counter_bound progress.known binding tree.variable
  first ← value tree.first progress
  last ← value tree.last first.1
  by ← step tree.step last.1
  Ok (iteration_with counter first.0 last.0 by.0, by.1)

-- the head of a loop
abbrev pub loop_head : LoopHeadTree → Progress → Checked (TypedHead × Progress)
loop_head (WhileHead condition) progress = do
  tested ← value condition progress
  Ok (TypedWhile tested.0, tested.1)
loop_head (CountHead counting) progress = do
  counted ← iteration counting progress
  Ok (TypedCount counted.0, counted.1)

-- labels differ from each other and from what their body declares
abbrev pub declare_labels : List Identifier → Here → Checked Here
declare_labels [] here = Ok here
declare_labels (label ∷ others) here = do
  _ ← require (not (is_label_again here label.name)) DeclaredTwice (place_of label)
  declare_labels others (with_label label.name here)

-- a statement after THEN or ELSE or of a DO CASE has no label
abbrev pub without_label : List Identifier → Checked (Unit {0})
without_label [] = Ok tt
without_label (label ∷ others) = refuse MisplacedLabel (place_of label)

-- A list of statements, with its labels known in the whole of it. They are numbered when the list is
-- entered.
abbrev pub list_of :
    StatementTrees
    → (ℕ → Progress → Checked (TypedStatements × Progress))
    → Progress
    → Checked (TypedList × Progress)
list_of trees typed_from progress = do
  typed ← typed_from progress.known.here.labels
      (with_here (into_list (labels_of trees) progress.known.here) progress)
  Ok (
    ListOf progress.known.here.labels (places_from 0 trees) typed.0,
    with_here (out_of_list typed.1.known.here) typed.1,
  )
