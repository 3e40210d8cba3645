-- How much of the stack a call of a procedure is charged: its return address and spare bytes, its parameters
-- and variables in a frame, and two bytes for each level of its highest expression. This is the profile's own
-- measure.
use Rattle.std.specs.Prelude.{ℕ, ◌+◌, ◌*◌, max, List, [], ◌∷◌, length, Option, Some, None}
use Rattle.typed_trees.specs.TypedTrees.{TypedExpression, NumberNode, ValueNode, LocationNode, ListNode, ConversionNode, AssignmentNode, UnaryNode, BinaryNode, CallNode, FunctionNode, ShiftNode, InputNode, TypedReference, PartOf, Subscript, NoSubscript, At, TypedTarget, StoredIn, SentTo, TypedArguments, NoArguments, MoreArguments, TypedIteration, TypedHead, of_head, TypedStatement, LabelStatement, NullStatement, AssignmentStatement, CallStatement, MoveStatement, ReturnStatement, HaltStatement, GotoStatement, IfStatement, DoStatement, LoopStatement, CaseStatement, TypedElse, NoElse, ElseStatement, TypedStatements, NoStatements, MoreStatements, TypedList, ListOf, TypedProcedure}

abbrev mutual
  -- The height of an expression: 1 if it has no parts, else one more than the highest part; of a call also
  -- one more for each argument. Conversions add nothing.
  pub height_of : TypedExpression → ℕ
  height_of (NumberNode scalar value origin) = 1
  height_of (ValueNode scalar reference) = height_of_reference reference
  height_of (LocationNode reference) = height_of_reference reference
  height_of (ListNode list) = 1
  height_of (ConversionNode scalar inner) = height_of inner
  height_of (AssignmentNode target value) = 1 + max (height_of_target target) (height_of value)
  height_of (UnaryNode scalar operator operand) = 1 + height_of operand
  height_of (BinaryNode operands operator left right) = 1 + max (height_of left) (height_of right)
  height_of (CallNode procedure scalar values) = 1 + count_of_arguments values + height_of_arguments values
  height_of (FunctionNode function operand) = 2 + height_of operand
  height_of (ShiftNode scalar function value count) = 3 + max (height_of value) (height_of count)
  height_of (InputNode port) = 3

  -- 1 without subscripts, else one more than the highest subscript
  pub height_of_reference : TypedReference → ℕ
  height_of_reference (PartOf object subscript member offset member_subscript) =
      1 + max (height_of_subscript subscript) (height_of_subscript member_subscript)

  pub height_of_subscript : Subscript → ℕ
  height_of_subscript NoSubscript = 0
  height_of_subscript (At stride count index) = height_of index

  pub height_of_target : TypedTarget → ℕ
  height_of_target (StoredIn from to reference) = height_of_reference reference
  height_of_target (SentTo from port) = 1

  -- the greatest height of an argument, 0 if there are no arguments
  pub height_of_arguments : TypedArguments → ℕ
  height_of_arguments NoArguments = 0
  height_of_arguments (MoreArguments first others) = max (height_of first) (height_of_arguments others)

  pub count_of_arguments : TypedArguments → ℕ
  count_of_arguments NoArguments = 0
  count_of_arguments (MoreArguments first others) = 1 + count_of_arguments others

abbrev pub height_of_targets : List TypedTarget → ℕ
height_of_targets [] = 0
height_of_targets (first ∷ others) = max (height_of_target first) (height_of_targets others)

abbrev pub height_of_optional : Option TypedExpression → ℕ
height_of_optional None = 0
height_of_optional (Some value) = height_of value

-- the variable of an iterative DO counts 1
abbrev pub height_of_iteration : TypedIteration → ℕ
height_of_iteration head =
    max 1 (max (height_of head.first) (max (height_of head.last) (height_of_optional head.step)))

-- the head of a loop
abbrev pub height_of_head : TypedHead → ℕ
height_of_head = of_head height_of height_of_iteration

abbrev mutual
  -- the height of a statement: that of its highest expression, call or target, 0 if it has none
  pub height_of_statement : TypedStatement → ℕ
  height_of_statement (LabelStatement label) = 0
  height_of_statement NullStatement = 0
  height_of_statement (AssignmentStatement targets value) = max (height_of_targets targets) (height_of value)
  height_of_statement (CallStatement procedure values) =
      1 + count_of_arguments values + height_of_arguments values
  height_of_statement (MoveStatement count source destination) =
      4 + max (height_of count) (max (height_of source) (height_of destination))
  height_of_statement (ReturnStatement value) = height_of_optional value
  height_of_statement HaltStatement = 0
  height_of_statement (GotoStatement label) = 0
  height_of_statement (IfStatement condition body otherwise) =
      max (height_of condition) (max (height_of_statement body) (height_of_else otherwise))
  height_of_statement (DoStatement body) = height_of_list body
  height_of_statement (LoopStatement head body) = max (height_of_head head) (height_of_list body)
  height_of_statement (CaseStatement choice body) = max (height_of choice) (height_of_statements body)

  pub height_of_else : TypedElse → ℕ
  height_of_else NoElse = 0
  height_of_else (ElseStatement statement) = height_of_statement statement

  pub height_of_statements : TypedStatements → ℕ
  height_of_statements NoStatements = 0
  height_of_statements (MoreStatements first others) =
      max (height_of_statement first) (height_of_statements others)

  pub height_of_list : TypedList → ℕ
  height_of_list (ListOf first_label places statements) = height_of_statements statements

-- the charge of a procedure, or of the main module
unfoldable pub charge_of : TypedProcedure → ℕ
charge_of procedure =
    10 + 2 * length procedure.parameters + procedure.frame_bytes + 2 * height_of_list procedure.body
