-- The trees of a module, without where their parts lie in memory. Names, numbers, operators and the like are those of
-- the code.
use Rattle.std.specs.Prelude.{ℕ, List, Option}
use Rattle.trees.specs.declared.declaration.Dimension.{Dimension}
use Rattle.trees.specs.declared.declaration.Linkage.{Linkage}
use Rattle.trees.specs.declared.declaration.Member.{Member}
use Rattle.trees.specs.declared.declaration.ScalarType.{ScalarType}
use Rattle.trees.specs.declared.declaration.Sign.{Sign}
use Rattle.trees.specs.declared.declaration.Storage.{Storage}
use Rattle.trees.specs.declared.expression.BinaryOperator.{BinaryOperator}
use Rattle.trees.specs.declared.expression.UnaryOperator.{UnaryOperator}
use Rattle.trees.specs.declared.identifier.Identifier.{Identifier}
use Rattle.trees.specs.declared.identifier.Number.{Number}
use Rattle.trees.specs.declared.identifier.Place.{Place}

-- a string: the bytes that it stands for, and its place
pub record StringTree : Type 0 where
  pub characters : List ℕ
  pub place : Place

-- a number or a string
pub data ConstantTree : Type 0 where
  NumberConstant : Number → ConstantTree
  StringConstant : StringTree → ConstantTree

mutual
  pub data ExpressionTree : Type 0 where
    ConstantLeaf : ConstantTree → ExpressionTree
    ReferenceLeaf : ReferenceTree → ExpressionTree
    LocationLeaf : ReferenceTree → ExpressionTree
    ListLeaf : List ConstantTree → ExpressionTree
    ParenthesizedNode : ExpressionTree → ExpressionTree
    AssignmentNode : ReferenceTree → ExpressionTree → ExpressionTree
    UnaryNode : UnaryOperator → ExpressionTree → ExpressionTree
    BinaryNode : BinaryOperator → ExpressionTree → ExpressionTree → ExpressionTree

  -- a name with its arguments, and a member of it, if one is named
  pub data ReferenceTree : Type 0 where
    ReferenceTo : Identifier → ArgumentTrees → MemberTree → ReferenceTree

  -- a member with its arguments, or none
  pub data MemberTree : Type 0 where
    NoMember : MemberTree
    MemberOf : Identifier → ArgumentTrees → MemberTree

  -- a list of expressions
  pub data ArgumentTrees : Type 0 where
    NoArguments : ArgumentTrees
    MoreArguments : ExpressionTree → ArgumentTrees → ArgumentTrees

-- the beginning of a restricted expression
pub data OriginTree : Type 0 where
  ConstantOrigin : ConstantTree → OriginTree
  LocationOrigin : Identifier → OriginTree

pub record OffsetTree : Type 0 where
  pub sign : Sign
  pub constant : ConstantTree

-- a constant or a location, with constants added and subtracted
pub record RestrictedTree : Type 0 where
  pub origin : OriginTree
  pub offsets : List OffsetTree

pub data ItemTypeTree : Type 0 where
  ScalarItem : ScalarType → ItemTypeTree
  StructureItem : List Member → ItemTypeTree

pub record AtTree : Type 0 where
  pub place : Place
  pub address : RestrictedTree

pub record ValueListTree : Type 0 where
  pub storage : Storage
  pub values : List RestrictedTree

-- one name, with the name of its base, if there is one, or several names
pub data SubjectTree : Type 0 where
  SingleSubject : Identifier → Option Identifier → SubjectTree
  GroupSubject : List Identifier → SubjectTree

pub record ItemTree : Type 0 where
  pub subject : SubjectTree
  pub dimension : Option Dimension
  pub item_type : ItemTypeTree
  pub linkage : Option Linkage
  pub at : Option AtTree
  pub value_list : Option ValueListTree

pub data ElementTree : Type 0 where
  LiterallyElement : Identifier → StringTree → ElementTree
  ItemElement : ItemTree → ElementTree

pub record HeadingTree : Type 0 where
  pub name : Identifier
  pub parameters : List Identifier
  pub result : Option ScalarType
  pub linkage : Option Linkage
  pub reentrant : Option Place

-- the head of an iterative DO: variable = first TO last [BY step]
pub record IterationTree : Type 0 where
  pub variable : Identifier
  pub first : ExpressionTree
  pub last : ExpressionTree
  pub step : Option ExpressionTree

-- the head of a loop, between DO and the semicolon: WHILE a condition, or that of an iterative DO
pub data LoopHeadTree : Type 0 where
  WhileHead : ExpressionTree → LoopHeadTree
  CountHead : IterationTree → LoopHeadTree

-- a head by what it holds, one expression alone or an iteration; what is asked of every head goes through this
abbrev pub of_loop_head : {A : Type 0} → (ExpressionTree → A) → (IterationTree → A) → LoopHeadTree → A
of_loop_head of_expression of_iteration (WhileHead condition) = of_expression condition
of_loop_head of_expression of_iteration (CountHead iteration) = of_iteration iteration

mutual
  -- a statement with the labels before it
  pub data StatementTree : Type 0 where
    LabelledStatement : List Identifier → StatementKindTree → StatementTree

  -- a statement without its labels, with the place of its first word if that is a reserved one or a semicolon
  pub data StatementKindTree : Type 0 where
    NullStatement : Place → StatementKindTree
    AssignmentStatement : List ReferenceTree → ExpressionTree → StatementKindTree
    CallStatement : Place → Identifier → ArgumentTrees → StatementKindTree
    ReturnStatement : Place → Option ExpressionTree → StatementKindTree
    HaltStatement : Place → StatementKindTree
    GotoStatement : Place → Identifier → StatementKindTree
    IfStatement : Place → ExpressionTree → StatementTree → ElseTree → StatementKindTree
    DoStatement : Place → DeclarationTrees → StatementTrees → StatementKindTree
    LoopStatement : Place → LoopHeadTree → StatementTrees → StatementKindTree
    CaseStatement : Place → ExpressionTree → StatementTrees → StatementKindTree

  -- the statement after ELSE, or none
  pub data ElseTree : Type 0 where
    NoElse : ElseTree
    ElseStatement : StatementTree → ElseTree

  pub data StatementTrees : Type 0 where
    NoStatements : StatementTrees
    MoreStatements : StatementTree → StatementTrees → StatementTrees

  pub data DeclarationTree : Type 0 where
    DeclareTree : List ElementTree → DeclarationTree
    -- a heading, the declarations and the statements of the procedure, and the name after its END
    ProcedureTree : HeadingTree → DeclarationTrees → StatementTrees → Option Identifier → DeclarationTree

  pub data DeclarationTrees : Type 0 where
    NoDeclarations : DeclarationTrees
    MoreDeclarations : DeclarationTree → DeclarationTrees → DeclarationTrees

-- a module, with the place of its DO
pub record ModuleTree : Type 0 where
  pub name : Identifier
  pub place : Place
  pub declarations : DeclarationTrees
  pub statements : StatementTrees
  pub end_name : Option Identifier
