-- The calls that are written in a body, by the numbers of the procedures, each as often as it is written, from
-- left to right (in an assignment those of the value first, as they are made).
use Rattle.std.specs.Prelude.{ℕ, List, [], ◌∷◌, ◌++◌, Option, Some, None}
use Rattle.typed_trees.specs.TypedTrees.{TypedExpression, NumberNode, ValueNode, LocationNode, ListNode, ConversionNode, AssignmentNode, UnaryNode, BinaryNode, CallNode, FunctionNode, ShiftNode, InputNode, TypedReference, PartOf, Subscript, NoSubscript, At, TypedTarget, StoredIn, SentTo, TypedArguments, NoArguments, MoreArguments, TypedIteration, TypedHead, of_head, TypedStatement, LabelStatement, NullStatement, AssignmentStatement, CallStatement, MoveStatement, ReturnStatement, HaltStatement, GotoStatement, IfStatement, DoStatement, LoopStatement, CaseStatement, TypedElse, NoElse, ElseStatement, TypedStatements, NoStatements, MoreStatements, TypedList, ListOf}

abbrev mutual
  -- the calls in an expression
  pub calls_in : TypedExpression → List ℕ
  calls_in (NumberNode scalar value origin) = []
  calls_in (ValueNode scalar reference) = calls_in_reference reference
  calls_in (LocationNode reference) = calls_in_reference reference
  calls_in (ListNode list) = []
  calls_in (ConversionNode scalar inner) = calls_in inner
  calls_in (AssignmentNode target value) = calls_in value ++ calls_in_target target
  calls_in (UnaryNode scalar operator operand) = calls_in operand
  calls_in (BinaryNode operands operator left right) = calls_in left ++ calls_in right
  calls_in (CallNode procedure scalar values) = calls_in_arguments values ++ procedure ∷ []
  calls_in (FunctionNode function operand) = calls_in operand
  calls_in (ShiftNode scalar function value count) = calls_in value ++ calls_in count
  calls_in (InputNode port) = []

  pub calls_in_reference : TypedReference → List ℕ
  calls_in_reference (PartOf object subscript member offset member_subscript) =
      calls_in_subscript subscript ++ calls_in_subscript member_subscript

  pub calls_in_subscript : Subscript → List ℕ
  calls_in_subscript NoSubscript = []
  calls_in_subscript (At stride count index) = calls_in index

  pub calls_in_target : TypedTarget → List ℕ
  calls_in_target (StoredIn from to reference) = calls_in_reference reference
  calls_in_target (SentTo from port) = []

  pub calls_in_arguments : TypedArguments → List ℕ
  calls_in_arguments NoArguments = []
  calls_in_arguments (MoreArguments first others) = calls_in first ++ calls_in_arguments others

abbrev pub calls_in_targets : List TypedTarget → List ℕ
calls_in_targets [] = []
calls_in_targets (first ∷ others) = calls_in_target first ++ calls_in_targets others

abbrev pub calls_in_optional : Option TypedExpression → List ℕ
calls_in_optional None = []
calls_in_optional (Some value) = calls_in value

abbrev pub calls_in_iteration : TypedIteration → List ℕ
calls_in_iteration head = calls_in head.first ++ (calls_in head.last ++ calls_in_optional head.step)

-- the calls in the head of a loop
abbrev pub calls_in_head : TypedHead → List ℕ
calls_in_head = of_head calls_in calls_in_iteration

abbrev mutual
  -- the calls in a statement
  pub calls_in_statement : TypedStatement → List ℕ
  calls_in_statement (LabelStatement label) = []
  calls_in_statement NullStatement = []
  calls_in_statement (AssignmentStatement targets value) = calls_in value ++ calls_in_targets targets
  calls_in_statement (CallStatement procedure values) = calls_in_arguments values ++ procedure ∷ []
  calls_in_statement (MoveStatement count source destination) =
      calls_in count ++ (calls_in source ++ calls_in destination)
  calls_in_statement (ReturnStatement value) = calls_in_optional value
  calls_in_statement HaltStatement = []
  calls_in_statement (GotoStatement label) = []
  calls_in_statement (IfStatement condition body otherwise) =
      calls_in condition ++ (calls_in_statement body ++ calls_in_else otherwise)
  calls_in_statement (DoStatement body) = calls_in_list body
  calls_in_statement (LoopStatement head body) = calls_in_head head ++ calls_in_list body
  calls_in_statement (CaseStatement choice body) = calls_in choice ++ calls_in_statements body

  pub calls_in_else : TypedElse → List ℕ
  calls_in_else NoElse = []
  calls_in_else (ElseStatement statement) = calls_in_statement statement

  pub calls_in_statements : TypedStatements → List ℕ
  calls_in_statements NoStatements = []
  calls_in_statements (MoreStatements first others) = calls_in_statement first ++ calls_in_statements others

  pub calls_in_list : TypedList → List ℕ
  calls_in_list (ListOf first_label places statements) = calls_in_statements statements
