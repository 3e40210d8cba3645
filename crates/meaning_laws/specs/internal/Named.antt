-- The parts of a program that the statements and expressions of a module name are there: the objects of references
-- and their bases, the variables of iterative DOs, the constant lists, and the procedures that calls stand
-- for.
use Rattle.std.specs.Prelude.{ℕ, List, [], ◌∷◌, IfSome, All, Some, None}
use Rattle.std.specs.List.{enumerate_from}
use Rattle.typed_trees.specs.TypedTrees.{TypedExpression, NumberNode, ValueNode, LocationNode, ListNode, ConversionNode, AssignmentNode, UnaryNode, BinaryNode, CallNode, FunctionNode, ShiftNode, InputNode, TypedReference, PartOf, Subscript, NoSubscript, At, TypedTarget, StoredIn, SentTo, TypedArguments, NoArguments, MoreArguments, TypedIteration, TypedHead, of_head, TypedStatement, LabelStatement, NullStatement, AssignmentStatement, CallStatement, MoveStatement, ReturnStatement, HaltStatement, GotoStatement, IfStatement, DoStatement, LoopStatement, CaseStatement, TypedElse, NoElse, ElseStatement, TypedStatements, NoStatements, MoreStatements, TypedList, ListOf, TypedProcedure, TypedModule}
use Rattle.typed_trees.specs.WellTyped.{Within, WithinProcedure, WithinMain}
use Rattle.meaning.specs.Access.{Surroundings}
use Rattle.meaning_laws.specs.internal.Meant.{CallIsMeant, ListIsPlaced, ReferenceIsMeant, VariableIsMeant}

abbrev mutual
  -- in an expression of a part of a module
  pub AreNamed : Surroundings → TypedModule → Within → TypedExpression → Type 0
  AreNamed around typed within (NumberNode scalar value origin) = Unit {0}
  AreNamed around typed within (ValueNode scalar reference) =
      AreNamedInReference around typed within reference
  AreNamed around typed within (LocationNode reference) = AreNamedInReference around typed within reference
  AreNamed around typed within (ListNode list) = ListIsPlaced around.program around.number_of_module list
  AreNamed around typed within (ConversionNode scalar inner) = AreNamed around typed within inner
  AreNamed around typed within (AssignmentNode target value) =
      AreNamed around typed within value × AreNamedInTarget around typed within target
  AreNamed around typed within (UnaryNode scalar operator operand) = AreNamed around typed within operand
  AreNamed around typed within (BinaryNode operands operator left right) =
      AreNamed around typed within left × AreNamed around typed within right
  AreNamed around typed within (CallNode procedure scalar values) =
      CallIsMeant around typed procedure (Some scalar) values × AreNamedInArguments around typed within values
  AreNamed around typed within (FunctionNode function operand) = AreNamed around typed within operand
  AreNamed around typed within (ShiftNode scalar function value count) =
      AreNamed around typed within value × AreNamed around typed within count
  AreNamed around typed within (InputNode port) = Unit {0}

  pub AreNamedInReference : Surroundings → TypedModule → Within → TypedReference → Type 0
  AreNamedInReference around typed within (PartOf object subscript member offset member_subscript) =
      ReferenceIsMeant around.program around.number_of_module typed within
      (PartOf object subscript member offset member_subscript)
      × AreNamedInSubscript around typed within subscript
      × AreNamedInSubscript around typed within member_subscript

  pub AreNamedInSubscript : Surroundings → TypedModule → Within → Subscript → Type 0
  AreNamedInSubscript around typed within NoSubscript = Unit {0}
  AreNamedInSubscript around typed within (At stride count index) = AreNamed around typed within index

  pub AreNamedInTarget : Surroundings → TypedModule → Within → TypedTarget → Type 0
  AreNamedInTarget around typed within (StoredIn from to reference) =
      AreNamedInReference around typed within reference
  AreNamedInTarget around typed within (SentTo from port) = Unit {0}

  pub AreNamedInArguments : Surroundings → TypedModule → Within → TypedArguments → Type 0
  AreNamedInArguments around typed within NoArguments = Unit {0}
  AreNamedInArguments around typed within (MoreArguments first others) =
      AreNamed around typed within first × AreNamedInArguments around typed within others

abbrev pub AreNamedInTargets : Surroundings → TypedModule → Within → List TypedTarget → Type 0
AreNamedInTargets around typed within [] = Unit {0}
AreNamedInTargets around typed within (first ∷ others) =
    AreNamedInTarget around typed within first × AreNamedInTargets around typed within others

abbrev pub AreNamedInIteration : Surroundings → TypedModule → Within → TypedIteration → Type 0
AreNamedInIteration around typed within head =
    VariableIsMeant around.program around.number_of_module typed within head.variable
    × AreNamed around typed within head.first × AreNamed around typed within head.last
    × IfSome head.step (AreNamed around typed within)

abbrev pub AreNamedInHead : Surroundings → TypedModule → Within → TypedHead → Type 0
AreNamedInHead around typed within =
    of_head (AreNamed around typed within) (AreNamedInIteration around typed within)

abbrev mutual
  -- in a statement
  pub AreNamedIn : Surroundings → TypedModule → Within → TypedStatement → Type 0
  AreNamedIn around typed within (LabelStatement label) = Unit {0}
  AreNamedIn around typed within NullStatement = Unit {0}
  AreNamedIn around typed within (AssignmentStatement targets value) =
      AreNamed around typed within value × AreNamedInTargets around typed within targets
  AreNamedIn around typed within (CallStatement procedure values) =
      CallIsMeant around typed procedure None values × AreNamedInArguments around typed within values
  AreNamedIn around typed within (MoveStatement count source destination) =
      AreNamed around typed within count × AreNamed around typed within source
      × AreNamed around typed within destination
  AreNamedIn around typed within (ReturnStatement value) = IfSome value (AreNamed around typed within)
  AreNamedIn around typed within HaltStatement = Unit {0}
  AreNamedIn around typed within (GotoStatement label) = Unit {0}
  AreNamedIn around typed within (IfStatement condition body otherwise) =
      AreNamed around typed within condition × AreNamedIn around typed within body
      × AreNamedInElse around typed within otherwise
  AreNamedIn around typed within (DoStatement body) = AreNamedInList around typed within body
  AreNamedIn around typed within (LoopStatement head body) =
      AreNamedInHead around typed within head × AreNamedInList around typed within body
  AreNamedIn around typed within (CaseStatement choice body) =
      AreNamed around typed within choice × AreNamedInStatements around typed within body

  pub AreNamedInElse : Surroundings → TypedModule → Within → TypedElse → Type 0
  AreNamedInElse around typed within NoElse = Unit {0}
  AreNamedInElse around typed within (ElseStatement statement) = AreNamedIn around typed within statement

  pub AreNamedInStatements : Surroundings → TypedModule → Within → TypedStatements → Type 0
  AreNamedInStatements around typed within NoStatements = Unit {0}
  AreNamedInStatements around typed within (MoreStatements first others) =
      AreNamedIn around typed within first × AreNamedInStatements around typed within others

  pub AreNamedInList : Surroundings → TypedModule → Within → TypedList → Type 0
  AreNamedInList around typed within (ListOf first places statements) =
      AreNamedInStatements around typed within statements

-- in the body of a procedure of a number
abbrev pub AreNamedInProcedure : Surroundings → TypedModule → ℕ × TypedProcedure → Type 0
AreNamedInProcedure around typed numbered =
    AreNamedInList around typed (WithinProcedure numbered.0 (numbered.1).result) (numbered.1).body

-- in all bodies of a module
pub record NamesAreMeant (around : Surroundings) (typed : TypedModule) : Type 0 where
  pub procedures : All (AreNamedInProcedure around typed) (enumerate_from 0 typed.procedures)
  pub main : AreNamedInList around typed WithinMain typed.main.body
