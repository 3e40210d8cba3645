-- The amount of code to generate for a module: statements, expression nodes, conversions, targets, procedures and
-- parameters; and the most bytes that its code segment may have. This is the profile's own measure.
use Rattle.std.specs.Prelude.{ℕ, ◌+◌, ◌*◌, length, Option, Some, None, sum_by, slice_get}
use Rattle.std.specs.Option.{option_map_or}
use Rattle.trees.specs.declared.declaration.ScalarType.{ScalarType}
use Rattle.trees.specs.declared.declaration.ScalarType.TheVariants.{Byte, Address}
use Rattle.typed_trees.specs.declared.limits.TheConstants.{CODE_BYTES, CODE_BYTES_FOR_WEIGHT}
use Rattle.typed_trees.specs.declared.parts.ConstantItem.TheVariants.{ConstantObject, ConstantList}
use Rattle.typed_trees.specs.declared.parts.ConstantItem.{ConstantItem}
use Rattle.typed_trees.specs.TypedTrees.{TypedExpression, NumberNode, ValueNode, LocationNode, ListNode, ConversionNode, AssignmentNode, UnaryNode, BinaryNode, CallNode, FunctionNode, ShiftNode, InputNode, TypedReference, PartOf, Subscript, NoSubscript, At, TypedTarget, StoredIn, SentTo, TypedArguments, NoArguments, MoreArguments, TypedIteration, TypedHead, of_head, TypedStatement, LabelStatement, NullStatement, AssignmentStatement, CallStatement, MoveStatement, ReturnStatement, HaltStatement, GotoStatement, IfStatement, DoStatement, LoopStatement, CaseStatement, TypedElse, NoElse, ElseStatement, TypedStatements, NoStatements, MoreStatements, TypedList, ListOf, TypedProcedure, TypedModule}
use Rattle.typed_trees.specs.Sizes.{size_of_object}
use Rattle.typed_trees.specs.ExpressionTypes.{type_of}

-- 1 if a value is converted as it is stored
abbrev pub weight_of_storing : (from to : ScalarType) → ℕ
weight_of_storing Byte Byte = 0
weight_of_storing Address Address = 0
weight_of_storing from to = 1

abbrev mutual
  -- each node weighs 1, and INPUT 2, as its port is a node
  pub weight_of_expression : TypedExpression → ℕ
  weight_of_expression (NumberNode scalar value origin) = 1
  weight_of_expression (ValueNode scalar reference) = 1 + weight_of_reference reference
  weight_of_expression (LocationNode reference) = 1 + weight_of_reference reference
  weight_of_expression (ListNode list) = 1
  weight_of_expression (ConversionNode scalar inner) = 1 + weight_of_expression inner
  weight_of_expression (AssignmentNode target value) =
      1 + weight_of_target target + weight_of_expression value
  weight_of_expression (UnaryNode scalar operator operand) = 1 + weight_of_expression operand
  weight_of_expression (BinaryNode operands operator left right) =
      1 + weight_of_expression left + weight_of_expression right
  weight_of_expression (CallNode procedure scalar values) = 1 + weight_of_arguments values
  weight_of_expression (FunctionNode function operand) = 1 + weight_of_expression operand
  weight_of_expression (ShiftNode scalar function value count) =
      1 + weight_of_expression value + weight_of_expression count
  weight_of_expression (InputNode port) = 2

  -- the subscripts of a reference
  pub weight_of_reference : TypedReference → ℕ
  weight_of_reference (PartOf object subscript member offset member_subscript) =
      weight_of_subscript subscript + weight_of_subscript member_subscript

  pub weight_of_subscript : Subscript → ℕ
  weight_of_subscript NoSubscript = 0
  weight_of_subscript (At stride count index) = weight_of_expression index

  -- a target weighs 1, its subscripts, and 1 more if it converts; a port takes a BYTE
  pub weight_of_target : TypedTarget → ℕ
  weight_of_target (StoredIn from to reference) =
      1 + weight_of_storing from to + weight_of_reference reference
  weight_of_target (SentTo from port) = 1 + weight_of_storing from Byte

  pub weight_of_arguments : TypedArguments → ℕ
  weight_of_arguments NoArguments = 0
  weight_of_arguments (MoreArguments first others) = weight_of_expression first + weight_of_arguments others

abbrev pub weight_of_optional : Option TypedExpression → ℕ
weight_of_optional None = 0
weight_of_optional (Some value) = weight_of_expression value

-- the variable of an iterative DO is a target of the first value
abbrev pub weight_of_iteration : TypedIteration → ℕ
weight_of_iteration head =
    1 + weight_of_storing (type_of head.first) head.scalar + weight_of_expression head.first
    + weight_of_expression head.last + weight_of_optional head.step

-- the head of a loop
abbrev pub weight_of_head : TypedHead → ℕ
weight_of_head = of_head weight_of_expression weight_of_iteration

abbrev mutual
  -- each statement weighs 1, but for labels
  pub weight_of_statement : TypedStatement → ℕ
  weight_of_statement (LabelStatement label) = 0
  weight_of_statement NullStatement = 1
  weight_of_statement (AssignmentStatement targets value) =
      1 + sum_by weight_of_target targets + weight_of_expression value
  weight_of_statement (CallStatement procedure values) = 1 + weight_of_arguments values
  weight_of_statement (MoveStatement count source destination) =
      1 + weight_of_expression count + weight_of_expression source + weight_of_expression destination
  weight_of_statement (ReturnStatement value) = 1 + weight_of_optional value
  weight_of_statement HaltStatement = 1
  weight_of_statement (GotoStatement label) = 1
  weight_of_statement (IfStatement condition body otherwise) =
      1 + weight_of_expression condition + weight_of_statement body + weight_of_else otherwise
  weight_of_statement (DoStatement body) = 1 + weight_of_list body
  weight_of_statement (LoopStatement head body) = 1 + weight_of_head head + weight_of_list body
  weight_of_statement (CaseStatement choice body) =
      1 + weight_of_expression choice + weight_of_statements body

  pub weight_of_else : TypedElse → ℕ
  weight_of_else NoElse = 0
  weight_of_else (ElseStatement statement) = weight_of_statement statement

  pub weight_of_statements : TypedStatements → ℕ
  weight_of_statements NoStatements = 0
  weight_of_statements (MoreStatements first others) = weight_of_statement first + weight_of_statements others

  pub weight_of_list : TypedList → ℕ
  weight_of_list (ListOf first_label places statements) = weight_of_statements statements

-- a procedure weighs 1, and each of its parameters 1; EXTERNAL ones do too
abbrev pub weight_of_procedure : TypedProcedure → ℕ
weight_of_procedure procedure = 1 + length procedure.parameters + weight_of_list procedure.body

-- the main program does not count as a procedure
unfoldable pub weight_of : TypedModule → ℕ
weight_of typed = sum_by weight_of_procedure typed.procedures + weight_of_list typed.main.body

-- how many bytes the objects with DATA and the constant lists of a module take
abbrev pub size_of_constant : TypedModule → ConstantItem → ℕ
size_of_constant typed (ConstantObject object) =
    option_map_or size_of_object (slice_get typed.objects object) 0
size_of_constant typed (ConstantList list) = option_map_or length (slice_get typed.constants.lists list) 0

abbrev pub constant_bytes : TypedModule → ℕ
constant_bytes typed = sum_by (size_of_constant typed) typed.constants.items

-- the greatest number of bytes that the code segment of a module may need
unfoldable pub code_bound : TypedModule → ℕ
code_bound typed = constant_bytes typed + CODE_BYTES + CODE_BYTES_FOR_WEIGHT * weight_of typed
