-- When an expression is well typed, and what it is as a typed one: a rule for each construct of the language (PL/M-80
-- Programming Manual, "Expressions and assignments"). The constant lists `.(..)` are numbered in the order of the text:
-- each rule tells which constants the module has before its construct, and which after it.
use Rattle.std.specs.Prelude.{◌≡◌, ℕ, ◌-◌, false, true, List, length, Option, Some, None}
use Rattle.trees.specs.declared.declaration.ScalarType.{ScalarType}
use Rattle.trees.specs.declared.declaration.ScalarType.TheVariants.{Address}
use Rattle.trees.specs.declared.expression.BinaryOperator.{BinaryOperator}
use Rattle.trees.specs.declared.expression.UnaryOperator.{UnaryOperator}
use Rattle.trees.specs.declared.identifier.Identifier.{Identifier}
use Rattle.trees.specs.Trees.{ConstantTree, ExpressionTree, ConstantLeaf, ReferenceLeaf, LocationLeaf, ListLeaf, ParenthesizedNode, AssignmentNode, UnaryNode, BinaryNode, ReferenceTree, ReferenceTo, MemberTree, NoMember, MemberOf, ArgumentTrees, NoArguments, MoreArguments}
use Rattle.names.specs.declared.entity.BuiltIn.{BuiltIn}
use Rattle.names.specs.declared.entity.BuiltIn.TheVariants as built_ins
use Rattle.typed_trees.specs.declared.members.FoundMember.{FoundMember}
use Rattle.typed_trees.specs.declared.parts.Measure.{Measure}
use Rattle.typed_trees.specs.declared.parts.Measure.TheVariants as measures
use Rattle.typed_trees.specs.declared.parts.NumberOrigin.TheVariants.{FromMeasure}
use Rattle.typed_trees.specs.declared.parts.ShiftFunction.{ShiftFunction}
use Rattle.typed_trees.specs.declared.parts.ShiftFunction.TheVariants as shifts
use Rattle.typed_trees.specs.declared.parts.TypedMember.{TypedMember}
use Rattle.trees.specs.declared.functions.UnaryFunction.{UnaryFunction}
use Rattle.typed_trees.specs.ExpressionTypes.{type_of}
use Rattle.typed_trees.specs.Sizes.{size_of_scalar, size_of_member, size_of_element, size_of_object, member_named}
use Rattle.typed_trees.specs.TypedTrees.{TypedExpression, NumberNode, ValueNode, LocationNode, ListNode, AssignmentNode as TypedAssignment, UnaryNode as TypedUnary, CallNode, FunctionNode, InputNode, TypedReference, PartOf, Subscript, NoSubscript, At, TypedArguments, NoArguments as NoTyped, MoreArguments as MoreTyped, StructureObject, TypedObject, TypedProcedure, Constants}
use Rattle.typing.specs.Constants.{type_of_number, origin_of, with_list}
use Rattle.typing.specs.References.{Measured, Known, Extent, AnElement, AlsoTheWhole, number_of_arguments, scalar_of, has_location, is_constant}
use Rattle.typing.specs.Nodes.{as_type, binary_node, shift_node, arguments_as, Destination, Variable, Port, target_of}
use Rattle.typing_rules.specs.Constants.{IsNumber, IsPort}
use Rattle.typing_rules.specs.Names.{IsVariable, IsProcedure, IsBuiltIn}

-- the built-in functions of a value and a count, and of a variable
abbrev pub named_shift : ShiftFunction → BuiltIn
named_shift shifts.ShiftLeft = built_ins.ShiftLeft
named_shift shifts.ShiftRight = built_ins.ShiftRight
named_shift shifts.RotateLeft = built_ins.RotateLeft
named_shift shifts.RotateRight = built_ins.RotateRight

abbrev pub named_measure : Measure → BuiltIn
named_measure measures.Length = built_ins.Length
named_measure measures.Last = built_ins.Last
named_measure measures.Size = built_ins.Size

-- a member of a structure, by its name
pub record IsMember (object : TypedObject) (name : Identifier) (place : FoundMember) : Type 0 where
  pub members : List TypedMember
  pub structure : object.object_type ≡ StructureObject members
  pub there : member_named members name.name ≡ Some place

-- what LENGTH, LAST and SIZE measure: a variable or a member, without subscripts
pub data IsMeasured (known : Known) (name : Identifier) : MemberTree → Measured → Type 0 where
  a_variable : {number : ℕ} {object : TypedObject}
      → IsVariable known name number object
      → IsMeasured known name NoMember (record {
        object = number;
        member = None;
        dimension = object.dimension;
        size = size_of_object object;
      })
  a_member : {number : ℕ} {object : TypedObject} {member : Identifier} {place : FoundMember}
      → IsVariable known name number object
      → IsMember object member place
      → IsMeasured known name (MemberOf member NoArguments) (record {
        object = number;
        member = Some place.position;
        dimension = place.member.dimension;
        size = size_of_member place.member;
      })

-- the number of elements of an array, one less, and the bytes of anything
pub data IsMeasure (measured : Measured) : Measure → ℕ → Type 0 where
  a_length : {count : ℕ} → measured.dimension ≡ Some count → IsMeasure measured measures.Length count
  a_last : {count : ℕ} → measured.dimension ≡ Some count → IsMeasure measured measures.Last (count - 1)
  a_size : IsMeasure measured measures.Size measured.size

mutual
  pub data ExpressionTyping (known : Known) : Constants → ExpressionTree → TypedExpression → Constants → Type 0 where
    -- A number, or a string of one or two characters. One up to 255 is a BYTE, a greater one an ADDRESS.
    constant : {constants : Constants} {leaf : ConstantTree} {number : ℕ}
        → IsNumber leaf number
        → ExpressionTyping known constants (ConstantLeaf leaf)
        (NumberNode (type_of_number number) number (origin_of leaf)) constants
    -- the value of a scalar: of a variable, of an element of an array, or of a member
    scalar_value : {before after : Constants} {name : Identifier} {subscripts : ArgumentTrees}
        {part : MemberTree} {number : ℕ} {object : TypedObject} {reference : TypedReference}
        {scalar : ScalarType}
        → IsVariable known name number object
        → PartTyping known AnElement number object before subscripts part reference (Some scalar) after
        → ExpressionTyping known before (ReferenceLeaf (ReferenceTo name subscripts part)) (ValueNode scalar reference) after
    -- The result of a typed procedure. There are as many arguments as parameters, each converted to the type of its own.
    typed_call : {before after : Constants} {name : Identifier} {trees : ArgumentTrees} {number : ℕ}
        {procedure : TypedProcedure} {result : ScalarType} {values : TypedArguments}
        → IsProcedure known name number procedure
        → procedure.result ≡ Some result
        → number_of_arguments trees ≡ length procedure.parameter_types
        → ValuesTyping known before trees values after
        → ExpressionTyping known before (ReferenceLeaf (ReferenceTo name trees NoMember))
        (CallNode number result (arguments_as procedure.parameter_types values)) after
    -- INPUT of a port gives a BYTE
    input : {constants : Constants} {name : Identifier} {trees : ArgumentTrees} {port : ℕ}
        → IsBuiltIn known name built_ins.Input
        → IsPort trees port
        → ExpressionTyping known constants (ReferenceLeaf (ReferenceTo name trees NoMember)) (InputNode port) constants
    -- LOW and HIGH of a value give a BYTE, DOUBLE an ADDRESS
    function_call : {before after : Constants} {name : Identifier} {operand : ExpressionTree}
        {typed : TypedExpression} {function : UnaryFunction}
        → IsBuiltIn known name (built_ins.Unary function)
        → ExpressionTyping known before operand typed after
        → ExpressionTyping known before (ReferenceLeaf (ReferenceTo name (MoreArguments operand NoArguments) NoMember))
        (FunctionNode function typed) after
    -- SHL and SHR give the type of the value, ROL and ROR a BYTE of its low byte. The count is converted to a BYTE.
    shift_call : {before middle after : Constants} {name : Identifier} {value count : ExpressionTree}
        {typed counted : TypedExpression} {function : ShiftFunction}
        → IsBuiltIn known name (named_shift function)
        → ExpressionTyping known before value typed middle
        → ExpressionTyping known middle count counted after
        → ExpressionTyping known before
        (ReferenceLeaf (ReferenceTo name (MoreArguments value (MoreArguments count NoArguments)) NoMember))
        (shift_node function typed counted) after
    -- LENGTH and LAST of an array, and SIZE of a variable, or of such a member: a number
    measure_call : {constants : Constants} {name variable : Identifier} {part : MemberTree} {measure : Measure}
        {measured : Measured} {number : ℕ}
        → IsBuiltIn known name (named_measure measure)
        → IsMeasured known variable part measured
        → IsMeasure measured measure number
        → ExpressionTyping known constants
        (ReferenceLeaf (ReferenceTo name
        (MoreArguments (ReferenceLeaf (ReferenceTo variable NoArguments part)) NoArguments) NoMember))
        (NumberNode (type_of_number number) number (FromMeasure measure measured.object measured.member)) constants
    -- The location of a variable or of a part of it, an ADDRESS; of an array or a structure where it begins. What lies in
    -- the frames of the calls of a REENTRANT procedure has none.
    location : {before after : Constants} {name : Identifier} {subscripts : ArgumentTrees} {part : MemberTree}
        {number : ℕ} {object : TypedObject} {reference : TypedReference} {scalar : Option ScalarType}
        → IsVariable known name number object
        → has_location object.home ≡ true
        → PartTyping known AlsoTheWhole number object before subscripts part reference scalar after
        → ExpressionTyping known before (LocationLeaf (ReferenceTo name subscripts part)) (LocationNode reference) after
    -- the location of a constant list, an ADDRESS
    constant_list : {constants : Constants} {list : List ConstantTree}
        → ExpressionTyping known constants (ListLeaf list) (ListNode (length constants.lists)) (with_list list constants)
    parenthesized : {before after : Constants} {inner : ExpressionTree} {typed : TypedExpression}
        → ExpressionTyping known before inner typed after
        → ExpressionTyping known before (ParenthesizedNode inner) typed after
    -- (target := value), which has the type and the value of what is assigned
    embedded_assignment : {before middle after : Constants} {target : ReferenceTree} {value : ExpressionTree}
        {destination : Destination} {typed : TypedExpression}
        → TargetTyping known before target destination middle
        → ExpressionTyping known middle value typed after
        → ExpressionTyping known before (AssignmentNode target value)
        (TypedAssignment (target_of destination (type_of typed)) typed) after
    -- NOT and the minus sign preserve the type
    unary : {before after : Constants} {operator : UnaryOperator} {operand : ExpressionTree}
        {typed : TypedExpression}
        → ExpressionTyping known before operand typed after
        → ExpressionTyping known before (UnaryNode operator operand) (TypedUnary (type_of typed) operator typed) after
    -- The operands of * / and MOD are extended to ADDRESS. Those of another operator are too, unless both are BYTE.
    binary : {before middle after : Constants} {operator : BinaryOperator} {left right : ExpressionTree}
        {first second : TypedExpression}
        → ExpressionTyping known before left first middle
        → ExpressionTyping known middle right second after
        → ExpressionTyping known before (BinaryNode operator left right) (binary_node operator first second) after

  -- values one after another, each of the type that it has by itself
  pub data ValuesTyping (known : Known) : Constants → ArgumentTrees → TypedArguments → Constants → Type 0 where
    no_values : {constants : Constants} → ValuesTyping known constants NoArguments NoTyped constants
    next_value : {before middle after : Constants} {first : ExpressionTree} {others : ArgumentTrees}
        {typed : TypedExpression} {rest : TypedArguments}
        → ExpressionTyping known before first typed middle
        → ValuesTyping known middle others rest after
        → ValuesTyping known before (MoreArguments first others) (MoreTyped typed rest) after

  -- The subscripts of a variable or of a member: of this dimension, with elements of this size. Whether an array can be
  -- meant as a whole depends on where it stands.
  pub data SubscriptTyping (known : Known) :
      Extent → (dimension : Option ℕ) → (size : ℕ) → Constants → ArgumentTrees → Subscript → Constants → Type 0 where
    -- what is no array has no subscript
    no_array : {extent : Extent} {size : ℕ} {constants : Constants}
        → SubscriptTyping known extent None size constants NoArguments NoSubscript constants
    -- an array has one, which is converted to an ADDRESS
    element : {extent : Extent} {count size : ℕ} {before after : Constants} {index : ExpressionTree}
        {typed : TypedExpression}
        → ExpressionTyping known before index typed after
        → SubscriptTyping known extent (Some count) size before (MoreArguments index NoArguments)
        (At size count (as_type Address typed)) after
    -- an array that is located may have none
    whole_array : {count size : ℕ} {constants : Constants}
        → SubscriptTyping known AlsoTheWhole (Some count) size constants NoArguments NoSubscript constants

  -- An object or a part of it, by the subscripts and the member after its name. A scalar, or an array of scalars that is
  -- located, has their type.
  pub data PartTyping (known : Known) :
      Extent → (number : ℕ) → TypedObject → Constants → ArgumentTrees → MemberTree → TypedReference → Option ScalarType
      → Constants → Type 0 where
    without_member : {extent : Extent} {number : ℕ} {object : TypedObject} {before after : Constants}
        {subscripts : ArgumentTrees} {subscript : Subscript}
        → SubscriptTyping known extent object.dimension (size_of_element object.object_type) before subscripts subscript after
        → PartTyping known extent number object before subscripts NoMember
        (PartOf number subscript None 0 NoSubscript) (scalar_of object.object_type) after
    with_member : {extent : Extent} {number : ℕ} {object : TypedObject} {before middle after : Constants}
        {subscripts its_subscripts : ArgumentTrees} {member : Identifier} {subscript its_subscript : Subscript}
        {place : FoundMember}
        → SubscriptTyping known extent object.dimension (size_of_element object.object_type) before subscripts subscript middle
        → IsMember object member place
        → SubscriptTyping known extent place.member.dimension (size_of_scalar place.member.scalar) middle its_subscripts
        its_subscript after
        → PartTyping known extent number object before subscripts (MemberOf member its_subscripts)
        (PartOf number subscript (Some place.position) place.offset its_subscript) (Some place.member.scalar) after

  -- the destination of an assigned value
  pub data TargetTyping (known : Known) : Constants → ReferenceTree → Destination → Constants → Type 0 where
    -- a scalar, which is none of DATA
    scalar_target : {before after : Constants} {name : Identifier} {subscripts : ArgumentTrees}
        {part : MemberTree} {number : ℕ} {object : TypedObject} {reference : TypedReference}
        {scalar : ScalarType}
        → IsVariable known name number object
        → is_constant object.home ≡ false
        → PartTyping known AnElement number object before subscripts part reference (Some scalar) after
        → TargetTyping known before (ReferenceTo name subscripts part) (Variable scalar reference) after
    -- OUTPUT of a port
    output : {constants : Constants} {name : Identifier} {trees : ArgumentTrees} {port : ℕ}
        → IsBuiltIn known name built_ins.Output
        → IsPort trees port
        → TargetTyping known constants (ReferenceTo name trees NoMember) (Port port) constants
