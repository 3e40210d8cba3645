-- Well-typed trees: operands, arguments, targets and heads of loops have the types that their places require,
-- and each object and procedure that they refer to exists (PL/M-80 Programming Manual, "Expressions and assignments").
use Rattle.std.specs.Prelude.{◌≡◌, ℕ, ◌<◌, List, [], ◌∷◌, length, Option, Some, None, IfSome, IsSomeAnd, slice_get, All}
use Rattle.std.specs.List.{enumerate_from}
use Rattle.trees.specs.declared.declaration.ScalarType.{ScalarType}
use Rattle.trees.specs.declared.declaration.ScalarType.TheVariants.{Byte, Address}
use Rattle.trees.specs.declared.expression.BinaryOperator.{BinaryOperator}
use Rattle.trees.specs.declared.expression.BinaryOperator.TheVariants.{Multiply, Divide, Modulo}
use Rattle.typed_trees.specs.declared.parts.ShiftFunction.{ShiftFunction}
use Rattle.typed_trees.specs.declared.parts.ShiftFunction.TheVariants.{RotateLeft, RotateRight}
use Rattle.typed_trees.specs.TypedTrees.{TypedExpression, NumberNode, ValueNode, LocationNode, ListNode, ConversionNode, AssignmentNode, UnaryNode, BinaryNode, CallNode, FunctionNode, ShiftNode, InputNode, TypedReference, PartOf, Subscript, NoSubscript, At, TypedTarget, StoredIn, SentTo, TypedArguments, NoArguments, MoreArguments, TypedIteration, TypedHead, of_head, TypedStatement, LabelStatement, NullStatement, AssignmentStatement, CallStatement, MoveStatement, ReturnStatement, HaltStatement, GotoStatement, IfStatement, DoStatement, LoopStatement, CaseStatement, TypedElse, NoElse, ElseStatement, TypedStatements, NoStatements, MoreStatements, TypedList, ListOf, Home, BasedOn, Nowhere, InFrame, TypedObject, TypedProcedure, TypedModule}
use Rattle.typed_trees.specs.ObjectParts.{IsPartOf, IsScalarOf, IsScalar}
use Rattle.typed_trees.specs.ExpressionTypes.{type_of}

-- the place of a part of a module: in a procedure, with its number and its result, or in the main program
pub data Within : Type 0 where
  WithinProcedure : (number : ℕ) → (result : Option ScalarType) → Within
  WithinMain : Within

-- an object that has an address of its own, or is in the frame of the procedure that the part is in
abbrev pub LiesFor : Within → Home → Type 0
LiesFor within (BasedOn base) = ⊥
LiesFor within Nowhere = ⊥
LiesFor (WithinProcedure number result) (InFrame procedure) = procedure ≡ number
LiesFor WithinMain (InFrame procedure) = ⊥
LiesFor within home = Unit {0}

-- an object that can be referred to: one that lies so, or whose base, a scalar ADDRESS, does
abbrev pub IsSeen : TypedModule → Within → Home → Type 0
IsSeen typed within (BasedOn base) =
    IsSomeAnd (slice_get typed.objects base)
    (λ (object : TypedObject). IsScalar Address object × LiesFor within object.home)
IsSeen typed within home = LiesFor within home

-- a scalar
abbrev pub RefersToScalar : TypedModule → Within → ScalarType → TypedReference → Type 0
RefersToScalar typed within scalar (PartOf number subscript member offset member_subscript) =
    IsSomeAnd (slice_get typed.objects number)
    (λ (object : TypedObject). IsSeen typed within object.home
    × IsScalarOf object scalar (PartOf number subscript member offset member_subscript))

-- an object with a location: it is not in a frame
abbrev pub HasLocation : Home → Type 0
HasLocation (InFrame procedure) = ⊥
HasLocation home = Unit {0}

-- a part of an object that has a location
abbrev pub RefersToLocation : TypedModule → Within → TypedReference → Type 0
RefersToLocation typed within (PartOf number subscript member offset member_subscript) =
    IsSomeAnd (slice_get typed.objects number)
    (λ (object : TypedObject). IsSeen typed within object.home × HasLocation object.home
    × IsPartOf object (PartOf number subscript member offset member_subscript))

-- A number of a type. By the widths of the code's own numbers, no number is above 65535.
abbrev pub IsNumberOf : ScalarType → ℕ → Type 0
IsNumberOf Byte value = value < 256
IsNumberOf Address value = Unit {0}

-- `*`, `/` and MOD have ADDRESSes as operands
abbrev pub WorksOn : BinaryOperator → ScalarType → Type 0
WorksOn Multiply operands = operands ≡ Address
WorksOn Divide operands = operands ≡ Address
WorksOn Modulo operands = operands ≡ Address
WorksOn operator operands = Unit {0}

-- rotations work on BYTEs
abbrev pub ShiftsIn : ShiftFunction → ScalarType → Type 0
ShiftsIn RotateLeft scalar = scalar ≡ Byte
ShiftsIn RotateRight scalar = scalar ≡ Byte
ShiftsIn function scalar = Unit {0}

-- the types of arguments
abbrev pub types_of : TypedArguments → List ScalarType
types_of NoArguments = []
types_of (MoreArguments first others) = type_of first ∷ types_of others

-- a procedure of the module that has this result, and parameters of the types of these arguments
abbrev pub Takes : TypedModule → (procedure : ℕ) → (result : Option ScalarType) → TypedArguments → Type 0
Takes typed procedure result values =
    IsSomeAnd (slice_get typed.procedures procedure)
    (λ (found : TypedProcedure). (found.result ≡ result) × (found.parameter_types ≡ types_of values))

abbrev mutual
  -- an expression whose parts have the types that their places require
  pub TypesHold : TypedModule → Within → TypedExpression → Type 0
  TypesHold typed within (NumberNode scalar value origin) = IsNumberOf scalar value
  TypesHold typed within (ValueNode scalar reference) =
      RefersToScalar typed within scalar reference × TypesHoldInReference typed within reference
  TypesHold typed within (LocationNode reference) =
      RefersToLocation typed within reference × TypesHoldInReference typed within reference
  TypesHold typed within (ListNode list) = list < length typed.constants.lists
  TypesHold typed within (ConversionNode scalar inner) = TypesHold typed within inner
  TypesHold typed within (AssignmentNode target value) =
      TypesHold typed within value × TypesHoldInTarget typed within (type_of value) target
  TypesHold typed within (UnaryNode scalar operator operand) =
      TypesHold typed within operand × (type_of operand ≡ scalar)
  TypesHold typed within (BinaryNode operands operator left right) =
      WorksOn operator operands × (TypesHold typed within left × (type_of left ≡ operands))
      × (TypesHold typed within right × (type_of right ≡ operands))
  TypesHold typed within (CallNode procedure scalar values) =
      Takes typed procedure (Some scalar) values × TypesHoldInArguments typed within values
  TypesHold typed within (FunctionNode function operand) = TypesHold typed within operand
  TypesHold typed within (ShiftNode scalar function value count) =
      ShiftsIn function scalar × (TypesHold typed within value × (type_of value ≡ scalar))
      × (TypesHold typed within count × (type_of count ≡ Byte))
  TypesHold typed within (InputNode port) = port < 256

  pub TypesHoldInReference : TypedModule → Within → TypedReference → Type 0
  TypesHoldInReference typed within (PartOf object subscript member offset member_subscript) =
      TypesHoldInSubscript typed within subscript × TypesHoldInSubscript typed within member_subscript

  -- a subscript is an ADDRESS
  pub TypesHoldInSubscript : TypedModule → Within → Subscript → Type 0
  TypesHoldInSubscript typed within NoSubscript = Unit {0}
  TypesHoldInSubscript typed within (At stride count index) =
      TypesHold typed within index × (type_of index ≡ Address)

  -- a target of a value of a type
  pub TypesHoldInTarget : TypedModule → Within → ScalarType → TypedTarget → Type 0
  TypesHoldInTarget typed within value (StoredIn from to reference) =
      (from ≡ value) × RefersToScalar typed within to reference × TypesHoldInReference typed within reference
  TypesHoldInTarget typed within value (SentTo from port) = (from ≡ value) × (port < 256)

  pub TypesHoldInArguments : TypedModule → Within → TypedArguments → Type 0
  TypesHoldInArguments typed within NoArguments = Unit {0}
  TypesHoldInArguments typed within (MoreArguments first others) =
      TypesHold typed within first × TypesHoldInArguments typed within others

-- an expression of a type
abbrev pub HasType : TypedModule → Within → ScalarType → TypedExpression → Type 0
HasType typed within scalar expression = TypesHold typed within expression × (type_of expression ≡ scalar)

abbrev pub TypesHoldInTargets : TypedModule → Within → ScalarType → List TypedTarget → Type 0
TypesHoldInTargets typed within value [] = Unit {0}
TypesHoldInTargets typed within value (first ∷ others) =
    TypesHoldInTarget typed within value first × TypesHoldInTargets typed within value others

-- RETURN is in a procedure, with a value of the type of the result exactly if it has a result
abbrev pub IsReturned : TypedModule → Within → Option TypedExpression → Type 0
IsReturned typed (WithinProcedure number None) None = Unit {0}
IsReturned typed (WithinProcedure number (Some scalar)) (Some value) =
    HasType typed (WithinProcedure number (Some scalar)) scalar value
IsReturned typed within value = ⊥

-- the variable of an iterative DO is a scalar of the type that its iteration has, and not BASED
abbrev pub Counts : TypedModule → Within → TypedIteration → Type 0
Counts typed within head =
    IsSomeAnd (slice_get typed.objects head.variable)
    (λ (object : TypedObject). IsScalar head.scalar object × LiesFor within object.home)

abbrev pub TypesHoldInIteration : TypedModule → Within → TypedIteration → Type 0
TypesHoldInIteration typed within head =
    Counts typed within head × TypesHold typed within head.first × TypesHold typed within head.last
    × IfSome head.step (TypesHold typed within)

-- the head of a loop whose values have types
abbrev pub TypesHoldInHead : TypedModule → Within → TypedHead → Type 0
TypesHoldInHead typed within = of_head (TypesHold typed within) (TypesHoldInIteration typed within)

abbrev mutual
  -- a statement whose parts have the types that their places require
  pub TypesHoldIn : TypedModule → Within → TypedStatement → Type 0
  TypesHoldIn typed within (LabelStatement label) = Unit {0}
  TypesHoldIn typed within NullStatement = Unit {0}
  TypesHoldIn typed within (AssignmentStatement targets value) =
      TypesHold typed within value × TypesHoldInTargets typed within (type_of value) targets
  TypesHoldIn typed within (CallStatement procedure values) =
      Takes typed procedure None values × TypesHoldInArguments typed within values
  TypesHoldIn typed within (MoveStatement count source destination) =
      HasType typed within Address count × HasType typed within Address source
      × HasType typed within Address destination
  TypesHoldIn typed within (ReturnStatement value) = IsReturned typed within value
  TypesHoldIn typed within HaltStatement = Unit {0}
  TypesHoldIn typed within (GotoStatement label) = Unit {0}
  TypesHoldIn typed within (IfStatement condition body otherwise) =
      TypesHold typed within condition × TypesHoldIn typed within body
      × TypesHoldInElse typed within otherwise
  TypesHoldIn typed within (DoStatement body) = TypesHoldInList typed within body
  TypesHoldIn typed within (LoopStatement head body) =
      TypesHoldInHead typed within head × TypesHoldInList typed within body
  TypesHoldIn typed within (CaseStatement choice body) =
      TypesHold typed within choice × TypesHoldInStatements typed within body

  pub TypesHoldInElse : TypedModule → Within → TypedElse → Type 0
  TypesHoldInElse typed within NoElse = Unit {0}
  TypesHoldInElse typed within (ElseStatement statement) = TypesHoldIn typed within statement

  pub TypesHoldInStatements : TypedModule → Within → TypedStatements → Type 0
  TypesHoldInStatements typed within NoStatements = Unit {0}
  TypesHoldInStatements typed within (MoreStatements first others) =
      TypesHoldIn typed within first × TypesHoldInStatements typed within others

  pub TypesHoldInList : TypedModule → Within → TypedList → Type 0
  TypesHoldInList typed within (ListOf first places statements) =
      TypesHoldInStatements typed within statements

-- the statements of a procedure, by its number
abbrev pub TypesHoldInProcedure : TypedModule → ℕ × TypedProcedure → Type 0
TypesHoldInProcedure typed numbered =
    TypesHoldInList typed (WithinProcedure numbered.0 (numbered.1).result) (numbered.1).body

-- a module all of whose statements have parts of the types that their places require
pub record IsWellTyped (typed : TypedModule) : Type 0 where
  pub procedures : All (TypesHoldInProcedure typed) (enumerate_from 0 typed.procedures)
  pub main : TypesHoldInList typed WithinMain typed.main.body
