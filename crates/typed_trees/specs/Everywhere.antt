-- One condition at each node of typed trees: what is asked of a node beside its parts. A predicate that says something of each
-- node and of all of its parts is an instance of `Everywhere` and `EverywhereIn`, and so has their laws.
use Rattle.std.specs.Prelude.{List, [], ◌∷◌, Option, Some, None}
use Rattle.typed_trees.specs.TypedTrees.{TypedExpression, NumberNode, ValueNode, LocationNode, ListNode, ConversionNode, AssignmentNode, UnaryNode, BinaryNode, CallNode, FunctionNode, ShiftNode, InputNode, TypedReference, PartOf, Subscript, NoSubscript, At, TypedTarget, StoredIn, SentTo, TypedArguments, NoArguments, MoreArguments, TypedIteration, TypedHead, of_head, TypedStatement, LabelStatement, NullStatement, AssignmentStatement, CallStatement, MoveStatement, ReturnStatement, HaltStatement, GotoStatement, IfStatement, DoStatement, LoopStatement, CaseStatement, TypedElse, NoElse, ElseStatement, TypedStatements, NoStatements, MoreStatements, TypedList, ListOf}

-- what is asked of a node: nothing, or a condition
pub data Asked : Type 1 where
  Nothing : Asked
  That : Type 0 → Asked

-- what is asked of a node without parts
abbrev pub alone : Asked → Type 0
alone Nothing = Unit {0}
alone (That condition) = condition

-- what is asked of a node, before that of its parts
abbrev pub beside : Asked → Type 0 → Type 0
beside Nothing parts = parts
beside (That condition) parts = condition × parts

-- what is asked of each kind of node
pub record Questions : Type 1 where
  pub expression : TypedExpression → Asked
  pub reference : TypedReference → Asked
  pub target : TypedTarget → Asked
  pub iteration : TypedIteration → Asked
  pub statement : TypedStatement → Asked

abbrev mutual
  -- at each node of an expression
  pub Everywhere : Questions → TypedExpression → Type 0
  Everywhere asks (NumberNode scalar value origin) = alone (asks.expression (NumberNode scalar value origin))
  Everywhere asks (ValueNode scalar reference) =
      beside (asks.expression (ValueNode scalar reference))
      (EverywhereInReference asks reference)
  Everywhere asks (LocationNode reference) =
      beside (asks.expression (LocationNode reference))
      (EverywhereInReference asks reference)
  Everywhere asks (ListNode list) = alone (asks.expression (ListNode list))
  Everywhere asks (ConversionNode scalar inner) =
      beside (asks.expression (ConversionNode scalar inner))
      (Everywhere asks inner)
  Everywhere asks (AssignmentNode target value) =
      beside (asks.expression (AssignmentNode target value))
      (Everywhere asks value × EverywhereInTarget asks target)
  Everywhere asks (UnaryNode scalar operator operand) =
      beside (asks.expression (UnaryNode scalar operator operand))
      (Everywhere asks operand)
  Everywhere asks (BinaryNode operands operator left right) =
      beside (asks.expression (BinaryNode operands operator left right))
      (Everywhere asks left × Everywhere asks right)
  Everywhere asks (CallNode procedure scalar values) =
      beside (asks.expression (CallNode procedure scalar values))
      (EverywhereInArguments asks values)
  Everywhere asks (FunctionNode function operand) =
      beside (asks.expression (FunctionNode function operand))
      (Everywhere asks operand)
  Everywhere asks (ShiftNode scalar function value count) =
      beside (asks.expression (ShiftNode scalar function value count))
      (Everywhere asks value × Everywhere asks count)
  Everywhere asks (InputNode port) = alone (asks.expression (InputNode port))

  pub EverywhereInReference : Questions → TypedReference → Type 0
  EverywhereInReference asks (PartOf object subscript member offset member_subscript) =
      beside (asks.reference (PartOf object subscript member offset member_subscript))
      (EverywhereInSubscript asks subscript × EverywhereInSubscript asks member_subscript)

  pub EverywhereInSubscript : Questions → Subscript → Type 0
  EverywhereInSubscript asks NoSubscript = Unit {0}
  EverywhereInSubscript asks (At stride count index) = Everywhere asks index

  pub EverywhereInTarget : Questions → TypedTarget → Type 0
  EverywhereInTarget asks (StoredIn from to reference) =
      beside (asks.target (StoredIn from to reference)) (EverywhereInReference asks reference)
  EverywhereInTarget asks (SentTo from port) = alone (asks.target (SentTo from port))

  pub EverywhereInArguments : Questions → TypedArguments → Type 0
  EverywhereInArguments asks NoArguments = Unit {0}
  EverywhereInArguments asks (MoreArguments first others) =
      Everywhere asks first × EverywhereInArguments asks others

abbrev pub EverywhereInTargets : Questions → List TypedTarget → Type 0
EverywhereInTargets asks [] = Unit {0}
EverywhereInTargets asks (first ∷ others) = EverywhereInTarget asks first × EverywhereInTargets asks others

-- in an expression, if there is one
abbrev pub EverywhereIfSome : Questions → Option TypedExpression → Type 0
EverywhereIfSome asks None = Unit {0}
EverywhereIfSome asks (Some expression) = Everywhere asks expression

-- in the head of an iterative DO
abbrev pub EverywhereInIteration : Questions → TypedIteration → Type 0
EverywhereInIteration asks head =
    beside (asks.iteration head)
    (Everywhere asks head.first × Everywhere asks head.last × EverywhereIfSome asks head.step)

-- in the head of a loop
abbrev pub EverywhereInHead : Questions → TypedHead → Type 0
EverywhereInHead asks = of_head (Everywhere asks) (EverywhereInIteration asks)

abbrev mutual
  -- at each node of a statement
  pub EverywhereIn : Questions → TypedStatement → Type 0
  EverywhereIn asks (LabelStatement label) = alone (asks.statement (LabelStatement label))
  EverywhereIn asks NullStatement = alone (asks.statement NullStatement)
  EverywhereIn asks (AssignmentStatement targets value) =
      beside (asks.statement (AssignmentStatement targets value))
      (Everywhere asks value × EverywhereInTargets asks targets)
  EverywhereIn asks (CallStatement procedure values) =
      beside (asks.statement (CallStatement procedure values))
      (EverywhereInArguments asks values)
  EverywhereIn asks (MoveStatement count source destination) =
      beside (asks.statement (MoveStatement count source destination))
      (Everywhere asks count × Everywhere asks source × Everywhere asks destination)
  EverywhereIn asks (ReturnStatement value) =
      beside (asks.statement (ReturnStatement value))
      (EverywhereIfSome asks value)
  EverywhereIn asks HaltStatement = alone (asks.statement HaltStatement)
  EverywhereIn asks (GotoStatement label) = alone (asks.statement (GotoStatement label))
  EverywhereIn asks (IfStatement condition body otherwise) =
      beside (asks.statement (IfStatement condition body otherwise))
      (Everywhere asks condition × EverywhereIn asks body × EverywhereInElse asks otherwise)
  EverywhereIn asks (DoStatement body) =
      beside (asks.statement (DoStatement body))
      (EverywhereInList asks body)
  EverywhereIn asks (LoopStatement head body) =
      beside (asks.statement (LoopStatement head body))
      (EverywhereInHead asks head × EverywhereInList asks body)
  EverywhereIn asks (CaseStatement choice body) =
      beside (asks.statement (CaseStatement choice body))
      (Everywhere asks choice × EverywhereInStatements asks body)

  pub EverywhereInElse : Questions → TypedElse → Type 0
  EverywhereInElse asks NoElse = Unit {0}
  EverywhereInElse asks (ElseStatement statement) = EverywhereIn asks statement

  pub EverywhereInStatements : Questions → TypedStatements → Type 0
  EverywhereInStatements asks NoStatements = Unit {0}
  EverywhereInStatements asks (MoreStatements first others) =
      EverywhereIn asks first × EverywhereInStatements asks others

  pub EverywhereInList : Questions → TypedList → Type 0
  EverywhereInList asks (ListOf first places statements) = EverywhereInStatements asks statements
