-- Typed trees: names are resolved to the entities of the module's tables, each expression has its type, and
-- each conversion is written out. Parentheses are gone. Objects, procedures and constant lists are numbered
-- from 0 in the order of the text. So are labels, but that all labels of a list are numbered where it begins,
-- before those of the lists in it.
use Rattle.std.specs.Prelude.{ℕ, Bool, List, Option}
use Rattle.trees.specs.declared.declaration.ScalarType.{ScalarType}
use Rattle.trees.specs.declared.expression.BinaryOperator.{BinaryOperator}
use Rattle.trees.specs.declared.expression.UnaryOperator.{UnaryOperator}
use Rattle.typed_trees.specs.declared.parts.ShiftFunction.{ShiftFunction}
use Rattle.trees.specs.declared.functions.UnaryFunction.{UnaryFunction}
use Rattle.typed_trees.specs.declared.parts.Visibility.{Visibility}
use Rattle.typed_trees.specs.declared.parts.AtAddress.{AtAddress}
use Rattle.typed_trees.specs.declared.parts.ConstantItem.{ConstantItem}
use Rattle.typed_trees.specs.declared.parts.GlobalItem.{GlobalItem}
use Rattle.typed_trees.specs.declared.parts.InitialValue.{InitialValue}
use Rattle.typed_trees.specs.declared.parts.NumberOrigin.{NumberOrigin}
use Rattle.typed_trees.specs.declared.parts.TypedMember.{TypedMember}

mutual
  pub data TypedExpression : Type 0 where
    -- a number of a type; its origin does not change its value
    NumberNode : ScalarType → (value : ℕ) → NumberOrigin → TypedExpression
    -- the value of a scalar
    ValueNode : ScalarType → TypedReference → TypedExpression
    -- the location of an object or of a part of it
    LocationNode : TypedReference → TypedExpression
    -- the location of a constant list
    ListNode : (list : ℕ) → TypedExpression
    -- to BYTE the low byte, to ADDRESS with zeros added
    ConversionNode : ScalarType → TypedExpression → TypedExpression
    -- (target := value), with the type and the value that stands there
    AssignmentNode : TypedTarget → TypedExpression → TypedExpression
    -- an operator with one operand, whose type is that of the result
    UnaryNode : ScalarType → UnaryOperator → TypedExpression → TypedExpression
    -- an operator with two operands of one type
    BinaryNode :
        (operands : ScalarType) → BinaryOperator → TypedExpression → TypedExpression → TypedExpression
    -- a call of a procedure with a result of a type
    CallNode : (procedure : ℕ) → ScalarType → TypedArguments → TypedExpression
    -- LOW, HIGH or DOUBLE
    FunctionNode : UnaryFunction → TypedExpression → TypedExpression
    -- a shift or a rotation of a value, whose type is that of the result, by a count, which is a BYTE
    ShiftNode : ScalarType → ShiftFunction → (value count : TypedExpression) → TypedExpression
    -- INPUT(port)
    InputNode : (port : ℕ) → TypedExpression

  -- An object or a part of it: an element by its subscript, and a member by its position in the structure and by
  -- its offset in the element (0 if no member is meant). A subscript of the member gives an element of the
  -- member.
  pub data TypedReference : Type 0 where
    PartOf : (object : ℕ) → Subscript → (member : Option ℕ) → (offset : ℕ) → Subscript → TypedReference

  -- a subscript, which is an ADDRESS, with the size of an element and how many there are
  pub data Subscript : Type 0 where
    NoSubscript : Subscript
    At : (stride count : ℕ) → TypedExpression → Subscript

  -- The destination of a value: a scalar, to whose type the value is converted if the types differ; or a port,
  -- which takes the low byte. The type `from` is that of the value.
  pub data TypedTarget : Type 0 where
    StoredIn : (from to : ScalarType) → TypedReference → TypedTarget
    SentTo : (from : ScalarType) → (port : ℕ) → TypedTarget

  -- arguments, each of the type of its parameter
  pub data TypedArguments : Type 0 where
    NoArguments : TypedArguments
    MoreArguments : TypedExpression → TypedArguments → TypedArguments

-- The head of an iterative DO: the variable with its type, to which the first value is converted as it is
-- stored, and the values, of types of their own.
pub record TypedIteration : Type 0 where
  pub variable : ℕ
  pub scalar : ScalarType
  pub first : TypedExpression
  pub last : TypedExpression
  pub step : Option TypedExpression

-- the head of a loop: WHILE a condition, or that of an iterative DO
pub data TypedHead : Type 0 where
  WhileHead : TypedExpression → TypedHead
  CountHead : TypedIteration → TypedHead

-- a head by what it holds, one expression alone or an iteration; what is asked of every head goes through this
abbrev pub of_head {ℓ} : {A : Type ℓ} → (TypedExpression → A) → (TypedIteration → A) → TypedHead → A
of_head of_expression of_iteration (WhileHead condition) = of_expression condition
of_head of_expression of_iteration (CountHead iteration) = of_iteration iteration

mutual
  pub data TypedStatement : Type 0 where
    -- a label, which stands before the statement that it names
    LabelStatement : (label : ℕ) → TypedStatement
    NullStatement : TypedStatement
    AssignmentStatement : List TypedTarget → TypedExpression → TypedStatement
    CallStatement : (procedure : ℕ) → TypedArguments → TypedStatement
    -- CALL MOVE(count, source, destination), each an ADDRESS
    MoveStatement : (count source destination : TypedExpression) → TypedStatement
    -- in a typed procedure with a value of its type
    ReturnStatement : Option TypedExpression → TypedStatement
    HaltStatement : TypedStatement
    GotoStatement : (label : ℕ) → TypedStatement
    IfStatement : TypedExpression → TypedStatement → TypedElse → TypedStatement
    DoStatement : TypedList → TypedStatement
    LoopStatement : TypedHead → TypedList → TypedStatement
    CaseStatement : TypedExpression → TypedStatements → TypedStatement

  -- the statement after ELSE, or none
  pub data TypedElse : Type 0 where
    NoElse : TypedElse
    ElseStatement : TypedStatement → TypedElse

  pub data TypedStatements : Type 0 where
    NoStatements : TypedStatements
    MoreStatements : TypedStatement → TypedStatements → TypedStatements

  -- A list of statements that may hold labels. Their numbers follow each other from the first on; where a
  -- label stands in the list, counted from 0, is at its position among the places.
  pub data TypedList : Type 0 where
    ListOf : (first_label : ℕ) → (places : List ℕ) → TypedStatements → TypedList

-- the type of an object, or of the elements of an array
pub data ObjectType : Type 0 where
  ScalarObject : ScalarType → ObjectType
  StructureObject : List TypedMember → ObjectType

-- where an object lives
pub data Home : Type 0 where
  -- in the data segment, filled by INITIAL from its start on, without gaps
  InData : List InitialValue → Home
  -- among the constants, filled by DATA in the same way
  InConstants : List InitialValue → Home
  -- where AT puts it
  Placed : AtAddress → Home
  -- at the address that its base, a scalar ADDRESS object, has as its value
  BasedOn : (base : ℕ) → Home
  -- in another module
  Elsewhere : Home
  -- nowhere: a parameter of an EXTERNAL procedure
  Nowhere : Home
  -- in the frame of each call of a REENTRANT procedure
  InFrame : (procedure : ℕ) → Home

-- a variable or a parameter
pub record TypedObject : Type 0 where
  pub name : List ℕ
  -- how many elements an array has; an array of one element is an array
  pub dimension : Option ℕ
  pub object_type : ObjectType
  pub home : Home
  pub is_public : Bool
  pub is_parameter : Bool

pub record TypedProcedure : Type 0 where
  pub name : List ℕ
  pub visibility : Visibility
  pub result : Option ScalarType
  pub is_reentrant : Bool
  -- the types of the parameters, and their objects, in the order of the heading
  pub parameter_types : List ScalarType
  pub parameters : List ℕ
  -- the bytes of the variables of a REENTRANT procedure, without its parameters and BASED ones; else 0
  pub frame_bytes : ℕ
  -- its statements; none if it is EXTERNAL
  pub body : TypedList

-- the constants of a module: the bytes of each constant list, and the objects with DATA and the constant
-- lists together, in the order of the text
pub record Constants : Type 0 where
  pub lists : List (List ℕ)
  pub items : List ConstantItem

-- a module
pub record TypedModule : Type 0 where
  pub name : List ℕ
  pub objects : List TypedObject
  pub procedures : List TypedProcedure
  pub constants : Constants
  -- in the order of the text
  pub globals : List GlobalItem
  -- the statements at the outer level, as a procedure without parameters that has the name of the module
  pub main : TypedProcedure
