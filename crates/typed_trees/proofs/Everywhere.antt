-- If what is asked of each node by one follows from what is asked by another, the one holds everywhere if the other does.
use Rattle.typed_trees.proofs.Prelude.{List, [], ◌∷◌, Option, Some, None}
use Rattle.typed_trees.proofs.Heads.{head_gives}
use Rattle.typed_trees.specs.Everywhere.{Asked, Nothing, That, alone, beside, Questions, Everywhere, EverywhereInReference, EverywhereInSubscript, EverywhereInTarget, EverywhereInArguments, EverywhereInTargets, EverywhereIfSome, EverywhereInIteration, EverywhereInHead, EverywhereIn, EverywhereInElse, EverywhereInStatements, EverywhereInList}
use Rattle.typed_trees.specs.TypedTrees.{TypedExpression, NumberNode, ValueNode, LocationNode, ListNode, ConversionNode, AssignmentNode, UnaryNode, BinaryNode, CallNode, FunctionNode, ShiftNode, InputNode, TypedReference, PartOf, Subscript, NoSubscript, At, TypedTarget, StoredIn, SentTo, TypedArguments, NoArguments, MoreArguments, TypedIteration, TypedHead, TypedStatement, LabelStatement, NullStatement, AssignmentStatement, CallStatement, MoveStatement, ReturnStatement, HaltStatement, GotoStatement, IfStatement, DoStatement, LoopStatement, CaseStatement, TypedElse, NoElse, ElseStatement, TypedStatements, NoStatements, MoreStatements, TypedList, ListOf}

-- at each node, what one asks follows from what another asks
pub record Gives (given wanted : Questions) : Type 0 where
  pub expression : (node : TypedExpression) → alone (given.expression node) → alone (wanted.expression node)
  pub reference : (node : TypedReference) → alone (given.reference node) → alone (wanted.reference node)
  pub target : (node : TypedTarget) → alone (given.target node) → alone (wanted.target node)
  pub iteration : (node : TypedIteration) → alone (given.iteration node) → alone (wanted.iteration node)
  pub statement : (node : TypedStatement) → alone (given.statement node) → alone (wanted.statement node)

-- a node with its parts
pub with_parts : (given wanted : Asked) {P Q : Type 0} → (alone given → alone wanted) → (P → Q)
    → beside given P → beside wanted Q
with_parts Nothing Nothing own parts holds = parts holds
with_parts Nothing (That condition) own parts holds = (own tt, parts holds)
with_parts (That one) Nothing own parts holds = parts holds.1
with_parts (That one) (That condition) own parts holds = (own holds.0, parts holds.1)

module _ (given wanted : Questions) (gives : Gives given wanted) where
  mutual
    pub gives_everywhere : (expression : TypedExpression) → Everywhere given expression
        → Everywhere wanted expression
    gives_everywhere (NumberNode scalar value origin) holds =
        gives.expression (NumberNode scalar value origin) holds
    gives_everywhere (ValueNode scalar reference) holds =
        with_parts (given.expression (ValueNode scalar reference))
        (wanted.expression (ValueNode scalar reference)) (gives.expression (ValueNode scalar reference))
        (gives_reference reference) holds
    gives_everywhere (LocationNode reference) holds =
        with_parts (given.expression (LocationNode reference)) (wanted.expression (LocationNode reference))
        (gives.expression (LocationNode reference))
        (gives_reference reference) holds
    gives_everywhere (ListNode list) holds = gives.expression (ListNode list) holds
    gives_everywhere (ConversionNode scalar inner) holds =
        with_parts (given.expression (ConversionNode scalar inner))
        (wanted.expression (ConversionNode scalar inner)) (gives.expression (ConversionNode scalar inner))
        (gives_everywhere inner) holds
    gives_everywhere (AssignmentNode target value) holds =
        with_parts (given.expression (AssignmentNode target value))
        (wanted.expression (AssignmentNode target value)) (gives.expression (AssignmentNode target value))
        (λ parts. (gives_everywhere value parts.0, gives_target target parts.1)) holds
    gives_everywhere (UnaryNode scalar operator operand) holds =
        with_parts (given.expression (UnaryNode scalar operator operand))
        (wanted.expression (UnaryNode scalar operator operand))
        (gives.expression (UnaryNode scalar operator operand))
        (gives_everywhere operand) holds
    gives_everywhere (BinaryNode operands operator left right) holds =
        with_parts (given.expression (BinaryNode operands operator left right))
        (wanted.expression (BinaryNode operands operator left right))
        (gives.expression (BinaryNode operands operator left right))
        (λ parts. (gives_everywhere left parts.0, gives_everywhere right parts.1)) holds
    gives_everywhere (CallNode procedure scalar values) holds =
        with_parts (given.expression (CallNode procedure scalar values))
        (wanted.expression (CallNode procedure scalar values))
        (gives.expression (CallNode procedure scalar values))
        (gives_arguments values) holds
    gives_everywhere (FunctionNode function operand) holds =
        with_parts (given.expression (FunctionNode function operand))
        (wanted.expression (FunctionNode function operand))
        (gives.expression (FunctionNode function operand))
        (gives_everywhere operand) holds
    gives_everywhere (ShiftNode scalar function value count) holds =
        with_parts (given.expression (ShiftNode scalar function value count))
        (wanted.expression (ShiftNode scalar function value count))
        (gives.expression (ShiftNode scalar function value count))
        (λ parts. (gives_everywhere value parts.0, gives_everywhere count parts.1)) holds
    gives_everywhere (InputNode port) holds = gives.expression (InputNode port) holds

    pub gives_reference : (reference : TypedReference) → EverywhereInReference given reference
        → EverywhereInReference wanted reference
    gives_reference (PartOf object subscript member offset member_subscript) holds =
        with_parts (given.reference (PartOf object subscript member offset member_subscript))
        (wanted.reference (PartOf object subscript member offset member_subscript))
        (gives.reference (PartOf object subscript member offset member_subscript))
        (λ parts. (gives_subscript subscript parts.0, gives_subscript member_subscript parts.1)) holds

    gives_subscript : (subscript : Subscript) → EverywhereInSubscript given subscript
        → EverywhereInSubscript wanted subscript
    gives_subscript NoSubscript holds = tt
    gives_subscript (At stride count index) holds = gives_everywhere index holds

    pub gives_target : (target : TypedTarget) → EverywhereInTarget given target
        → EverywhereInTarget wanted target
    gives_target (StoredIn from to reference) holds =
        with_parts (given.target (StoredIn from to reference)) (wanted.target (StoredIn from to reference))
        (gives.target (StoredIn from to reference)) (gives_reference reference) holds
    gives_target (SentTo from port) holds = gives.target (SentTo from port) holds

    pub gives_arguments : (values : TypedArguments) → EverywhereInArguments given values
        → EverywhereInArguments wanted values
    gives_arguments NoArguments holds = tt
    gives_arguments (MoreArguments first others) holds =
        (gives_everywhere first holds.0, gives_arguments others holds.1)

  pub gives_targets : (targets : List TypedTarget) → EverywhereInTargets given targets
      → EverywhereInTargets wanted targets
  gives_targets [] holds = tt
  gives_targets (first ∷ others) holds = (gives_target first holds.0, gives_targets others holds.1)

  pub gives_if_some : (value : Option TypedExpression) → EverywhereIfSome given value
      → EverywhereIfSome wanted value
  gives_if_some None holds = tt
  gives_if_some (Some value) holds = gives_everywhere value holds

  gives_iteration : (head : TypedIteration) → EverywhereInIteration given head
      → EverywhereInIteration wanted head
  gives_iteration head holds =
      with_parts (given.iteration head) (wanted.iteration head) (gives.iteration head)
      (λ parts. (gives_everywhere head.first parts.0, gives_everywhere head.last parts.1, gives_if_some head.step parts.2)) holds

  pub gives_head : (head : TypedHead) → EverywhereInHead given head → EverywhereInHead wanted head
  gives_head head holds = head_gives gives_everywhere gives_iteration head holds

  mutual
    pub gives_statement : (statement : TypedStatement) → EverywhereIn given statement
        → EverywhereIn wanted statement
    gives_statement (LabelStatement label) holds = gives.statement (LabelStatement label) holds
    gives_statement NullStatement holds = gives.statement NullStatement holds
    gives_statement (AssignmentStatement targets value) holds =
        with_parts (given.statement (AssignmentStatement targets value))
        (wanted.statement (AssignmentStatement targets value))
        (gives.statement (AssignmentStatement targets value))
        (λ parts. (gives_everywhere value parts.0, gives_targets targets parts.1)) holds
    gives_statement (CallStatement procedure values) holds =
        with_parts (given.statement (CallStatement procedure values))
        (wanted.statement (CallStatement procedure values))
        (gives.statement (CallStatement procedure values))
        (gives_arguments values) holds
    gives_statement (MoveStatement count source destination) holds =
        with_parts (given.statement (MoveStatement count source destination))
        (wanted.statement (MoveStatement count source destination))
        (gives.statement (MoveStatement count source destination))
        (λ parts. (gives_everywhere count parts.0, gives_everywhere source parts.1, gives_everywhere destination parts.2)) holds
    gives_statement (ReturnStatement value) holds =
        with_parts (given.statement (ReturnStatement value)) (wanted.statement (ReturnStatement value))
        (gives.statement (ReturnStatement value))
        (gives_if_some value) holds
    gives_statement HaltStatement holds = gives.statement HaltStatement holds
    gives_statement (GotoStatement label) holds = gives.statement (GotoStatement label) holds
    gives_statement (IfStatement condition body otherwise) holds =
        with_parts (given.statement (IfStatement condition body otherwise))
        (wanted.statement (IfStatement condition body otherwise))
        (gives.statement (IfStatement condition body otherwise))
        (λ parts. (gives_everywhere condition parts.0, gives_statement body parts.1, gives_else otherwise parts.2)) holds
    gives_statement (DoStatement body) holds =
        with_parts (given.statement (DoStatement body)) (wanted.statement (DoStatement body))
        (gives.statement (DoStatement body))
        (gives_list body) holds
    gives_statement (LoopStatement head body) holds =
        with_parts (given.statement (LoopStatement head body))
        (wanted.statement (LoopStatement head body)) (gives.statement (LoopStatement head body))
        (λ parts. (gives_head head parts.0, gives_list body parts.1)) holds
    gives_statement (CaseStatement choice body) holds =
        with_parts (given.statement (CaseStatement choice body))
        (wanted.statement (CaseStatement choice body)) (gives.statement (CaseStatement choice body))
        (λ parts. (gives_everywhere choice parts.0, gives_statements body parts.1)) holds

    gives_else : (otherwise : TypedElse) → EverywhereInElse given otherwise
        → EverywhereInElse wanted otherwise
    gives_else NoElse holds = tt
    gives_else (ElseStatement statement) holds = gives_statement statement holds

    gives_statements : (statements : TypedStatements) → EverywhereInStatements given statements
        → EverywhereInStatements wanted statements
    gives_statements NoStatements holds = tt
    gives_statements (MoreStatements first others) holds =
        (gives_statement first holds.0, gives_statements others holds.1)

    pub gives_list : (list : TypedList) → EverywhereInList given list → EverywhereInList wanted list
    gives_list (ListOf first places statements) holds = gives_statements statements holds
