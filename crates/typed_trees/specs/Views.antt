-- The typed trees of the code as trees without where their parts lie in memory.
use Rattle.std.specs.Prelude.{◌≡◌, Result, IfOk, List, [], ◌∷◌, map, Option, Some, None, option_map, vec_items}
use Rattle.typed_trees.specs.declared.expression.TypedExpression.{TypedExpression as Expression, Row_of-TypedExpression, end_of-TypedExpression, more_of-TypedExpression}
use Rattle.typed_trees.specs.declared.expression.TypedExpression.TheVariants as expressions
use Rattle.typed_trees.specs.declared.expression.TypedReference.{TypedReference as Reference}
use Rattle.typed_trees.specs.declared.expression.TypedSubscript.{TypedSubscript as IndexTree}
use Rattle.typed_trees.specs.declared.expression.TypedSubscript.TheVariants as subscripts
use Rattle.typed_trees.specs.declared.expression.TypedTarget.{TypedTarget as Target}
use Rattle.typed_trees.specs.declared.expression.TypedTarget.TheVariants as targets
use Rattle.typed_trees.specs.declared.module.Home.{Home as CodeHome}
use Rattle.typed_trees.specs.declared.module.Home.TheVariants as homes
use Rattle.typed_trees.specs.declared.module.ObjectType.{ObjectType as CodeType}
use Rattle.typed_trees.specs.declared.module.ObjectType.TheVariants as object_types
use Rattle.typed_trees.specs.declared.module.Typed.{Typed}
use Rattle.typed_trees.specs.declared.module.TypedObject.{TypedObject as Object}
use Rattle.typed_trees.specs.declared.module.TypedProcedure.{TypedProcedure as Procedure}
use Rattle.typed_trees.specs.declared.statement.TypedHead.{TypedHead as Head}
use Rattle.typed_trees.specs.declared.statement.TypedHead.TheVariants as heads
use Rattle.typed_trees.specs.declared.statement.TypedIteration.{TypedIteration as Iteration}
use Rattle.typed_trees.specs.declared.statement.TypedList.{TypedList as StatementList}
use Rattle.typed_trees.specs.declared.statement.TypedStatement.{TypedStatement as Statement, Row_of-TypedStatement, end_of-TypedStatement, more_of-TypedStatement, Held-TypedIf-otherwise, None' as NoElse', Some' as SomeElse'}
use Rattle.typed_trees.specs.declared.statement.TypedStatement.TheVariants as statements
use Rattle.typed_trees.specs.TypedTrees.{TypedExpression, NumberNode, ValueNode, LocationNode, ListNode, ConversionNode, AssignmentNode, UnaryNode, BinaryNode, CallNode, FunctionNode, ShiftNode, InputNode, TypedReference, PartOf, Subscript, NoSubscript, At, TypedTarget, StoredIn, SentTo, TypedArguments, NoArguments, MoreArguments, TypedIteration, TypedHead, WhileHead, CountHead, TypedStatement, LabelStatement, NullStatement, AssignmentStatement, CallStatement, MoveStatement, ReturnStatement, HaltStatement, GotoStatement, IfStatement, DoStatement, LoopStatement, CaseStatement, TypedElse, NoElse, ElseStatement, TypedStatements, NoStatements, MoreStatements, TypedList, ListOf, ObjectType, ScalarObject, StructureObject, Home, InData, InConstants, Placed, BasedOn, Elsewhere, Nowhere, InFrame, TypedObject, TypedProcedure, TypedModule}

abbrev mutual
  pub expression_view : Expression → TypedExpression
  expression_view (expressions.Number scalar word origin) = NumberNode scalar word.value origin
  expression_view (expressions.Value' scalar p object subscript member offset member_subscript) =
      ValueNode scalar (PartOf object (subscript_view subscript) member offset
      (subscript_view member_subscript))
  expression_view (expressions.Location' p object subscript member offset member_subscript) =
      LocationNode (PartOf object (subscript_view subscript) member offset (subscript_view member_subscript))
  expression_view (expressions.List list) = ListNode list
  expression_view (expressions.Conversion' scalar p inner) = ConversionNode scalar (expression_view inner)
  expression_view (expressions.Assignment' p target q value) =
      AssignmentNode (target_view target) (expression_view value)
  expression_view (expressions.Unary' scalar operator p operand) =
      UnaryNode scalar operator (expression_view operand)
  expression_view (expressions.Binary' operands operator p left q right) =
      BinaryNode operands operator (expression_view left) (expression_view right)
  expression_view (expressions.Call' procedure scalar shape values) =
      CallNode procedure scalar (argument_rows values)
  expression_view (expressions.Function' function p operand) = FunctionNode function (expression_view operand)
  expression_view (expressions.Shift' scalar function p value q count) =
      ShiftNode scalar function (expression_view value) (expression_view count)
  expression_view (expressions.Input port) = InputNode port

  pub subscript_view : IndexTree → Subscript
  subscript_view subscripts.Absent = NoSubscript
  subscript_view (subscripts.Present' stride count p index) = At stride count (expression_view index)

  pub target_view : Target → TypedTarget
  target_view (targets.Stored' from to object subscript member offset member_subscript) =
      StoredIn from to (PartOf object (subscript_view subscript) member offset
      (subscript_view member_subscript))
  target_view (targets.Sent from port) = SentTo from port

  pub argument_rows : {count : _} → Row_of-TypedExpression count → TypedArguments
  argument_rows end_of-TypedExpression = NoArguments
  argument_rows (more_of-TypedExpression first rest) =
      MoreArguments (expression_view first) (argument_rows rest)

abbrev pub reference_view : Reference → TypedReference
reference_view reference =
    PartOf reference.object (subscript_view reference.subscript) reference.member reference.offset
    (subscript_view reference.member_subscript)

-- if memory did not run out, an expression with this view was made
abbrev pub Makes : {E : Type 0} → Result Expression E → TypedExpression → Type 0
Makes result node = IfOk result (λ made. expression_view made ≡ node)

-- the arguments in a list
abbrev pub arguments_view : List Expression → TypedArguments
arguments_view [] = NoArguments
arguments_view (first ∷ rest) = MoreArguments (expression_view first) (arguments_view rest)

abbrev pub iteration_view : Iteration → TypedIteration
iteration_view head = record {
  variable = head.variable;
  scalar = head.scalar;
  first = expression_view head.first;
  last = expression_view head.last;
  step = option_map expression_view head.step;
}

abbrev pub head_view : Head → TypedHead
head_view (heads.While condition) = WhileHead (expression_view condition)
head_view (heads.Count iteration) = CountHead (iteration_view iteration)

abbrev mutual
  pub statement_view : Statement → TypedStatement
  statement_view (statements.Label label) = LabelStatement label
  statement_view statements.Null = NullStatement
  statement_view (statements.Assignment assignment) =
      AssignmentStatement (map target_view assignment.value.targets.items)
      (expression_view assignment.value.value)
  statement_view (statements.Call procedure values) = CallStatement procedure (arguments_view values.items)
  statement_view (statements.Move moved) =
      MoveStatement (expression_view moved.value.count) (expression_view moved.value.source)
      (expression_view moved.value.destination)
  statement_view (statements.Return value) =
      ReturnStatement (option_map (λ held. expression_view held.value) value)
  statement_view statements.Halt = HaltStatement
  statement_view (statements.Goto label) = GotoStatement label
  statement_view (statements.If' p condition body otherwise) =
      IfStatement (expression_view condition) (statement_view body) (held_else_view otherwise)
  statement_view (statements.Do' p first places shape rows) =
      DoStatement (ListOf first places.items (statement_rows rows))
  statement_view (statements.Loop' p head first places shape rows) =
      LoopStatement (head_view head) (ListOf first places.items (statement_rows rows))
  statement_view (statements.Case' p choice shape rows) =
      CaseStatement (expression_view choice) (statement_rows rows)

  pub held_else_view : Held-TypedIf-otherwise → TypedElse
  held_else_view NoElse' = NoElse
  held_else_view (SomeElse' statement) = ElseStatement (statement_view statement)

  pub statement_rows : {count : _} → Row_of-TypedStatement count → TypedStatements
  statement_rows end_of-TypedStatement = NoStatements
  statement_rows (more_of-TypedStatement first rest) =
      MoreStatements (statement_view first) (statement_rows rest)

-- if memory did not run out, a statement with this view was built
abbrev pub Builds : {E : Type 0} → Result Statement E → TypedStatement → Type 0
Builds result statement = IfOk result (λ made. statement_view made ≡ statement)

-- the statements in a list
abbrev pub statements_view : List Statement → TypedStatements
statements_view [] = NoStatements
statements_view (first ∷ rest) = MoreStatements (statement_view first) (statements_view rest)

abbrev pub list_view : StatementList → TypedList
list_view list = ListOf list.first_label list.places.items (statements_view list.statements.items)

-- the statement after ELSE, if there is one
abbrev pub else_view : Option Statement → TypedElse
else_view None = NoElse
else_view (Some statement) = ElseStatement (statement_view statement)

abbrev pub type_view : CodeType → ObjectType
type_view (object_types.Scalar scalar) = ScalarObject scalar
type_view (object_types.Structure members) = StructureObject members.value

abbrev pub home_view : CodeHome → Home
home_view (homes.Data values) = InData values.items
home_view (homes.Constant values) = InConstants values.items
home_view (homes.At address) = Placed address
home_view (homes.Based base) = BasedOn base
home_view homes.External = Elsewhere
home_view homes.Absent = Nowhere
home_view (homes.Frame procedure) = InFrame procedure

abbrev pub object_view : Object → TypedObject
object_view object = record {
  name = object.name;
  dimension = object.dimension;
  object_type = type_view object.object_type;
  home = home_view object.home;
  is_public = object.is_public;
  is_parameter = object.is_parameter;
}

abbrev pub procedure_view : Procedure → TypedProcedure
procedure_view procedure = record {
  name = procedure.name;
  visibility = procedure.visibility;
  result = procedure.result;
  is_reentrant = procedure.is_reentrant;
  parameter_types = procedure.parameter_types.items;
  parameters = procedure.parameters.items;
  frame_bytes = procedure.frame_bytes;
  body = list_view procedure.body;
}

abbrev pub module_view : Typed → TypedModule
module_view typed = record {
  name = typed.name;
  objects = map object_view typed.objects.items;
  procedures = map procedure_view typed.procedures.items;
  constants = record { lists = map vec_items typed.lists.items; items = typed.constants.items };
  globals = typed.globals.items;
  main = procedure_view typed.main;
}

-- The end of `Views`.
