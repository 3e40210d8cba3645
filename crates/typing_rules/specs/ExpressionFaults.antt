-- Which fault an expression has: a rule for each cause, with the place that it concerns, and one for each part that a
-- construct may have a fault in. What comes before that part is well typed, so the fault is the first one of the text; only
-- a reference is judged as a whole after its subscripts.
use Rattle.std.specs.Prelude.{◌≡◌, ℕ, ◌<◌, false, true, List, [], ◌∷◌, length, Option, Some, None}
use Rattle.trees.specs.declared.declaration.ScalarType.{ScalarType}
use Rattle.trees.specs.declared.expression.BinaryOperator.{BinaryOperator}
use Rattle.trees.specs.declared.expression.UnaryOperator.{UnaryOperator}
use Rattle.trees.specs.declared.identifier.Identifier.{Identifier}
use Rattle.trees.specs.declared.identifier.Number.{Number}
use Rattle.trees.specs.Trees.{StringTree, ConstantTree, NumberConstant, StringConstant, ExpressionTree, ConstantLeaf, ReferenceLeaf, LocationLeaf, ParenthesizedNode, AssignmentNode, UnaryNode, BinaryNode, ReferenceTree, ReferenceTo, MemberTree, NoMember, MemberOf, ArgumentTrees, NoArguments, MoreArguments}
use Rattle.names.specs.declared.entity.Binding.TheVariants.{Declared}
use Rattle.names.specs.declared.entity.BuiltIn.{BuiltIn}
use Rattle.names.specs.declared.entity.BuiltIn.TheVariants as built_ins
use Rattle.names.specs.declared.entity.Entity.TheVariants.{Procedure}
use Rattle.typing.specs.declared.fault.Cause.TheVariants.{UnknownName, SubscriptMismatch, MemberMismatch, ArgumentCount, ValueOfUntyped, CallOfNoProcedure, NoVariable, NotMeasurable, PortNotConstant, StringNotNumber, PortTooLarge, ConstantWritten, NoLocation}
use Rattle.typing.specs.declared.fault.Fault.{Fault}
use Rattle.typed_trees.specs.declared.members.FoundMember.{FoundMember}
use Rattle.typed_trees.specs.declared.parts.Measure.{Measure}
use Rattle.typed_trees.specs.declared.parts.Measure.TheVariants as measures
use Rattle.typed_trees.specs.declared.parts.ShiftFunction.{ShiftFunction}
use Rattle.typed_trees.specs.declared.parts.TypedMember.{TypedMember}
use Rattle.trees.specs.declared.functions.UnaryFunction.{UnaryFunction}
use Rattle.typed_trees.specs.Sizes.{size_of_element, member_named}
use Rattle.typed_trees.specs.TypedTrees.{TypedExpression, TypedReference, Subscript, ScalarObject, StructureObject, TypedObject, TypedProcedure, Constants}
use Rattle.typing.specs.References.{Measured, Known, Extent, AnElement, AlsoTheWhole, number_of_arguments, has_location, is_constant}
use Rattle.typing.specs.Nodes.{Destination}
use Rattle.typing_rules.specs.Constants.{IsPort}
use Rattle.typing_rules.specs.Expressions.{named_shift, named_measure, IsMember, IsMeasured, ExpressionTyping, SubscriptTyping, PartTyping, TargetTyping}
use Rattle.typing_rules.specs.Names.{StandsFor, IsUnknown, IsVariable, IsProcedure, IsBuiltIn, IsNoVariable, at_name}

-- a string that is no number, since it has no characters or more than two
pub record IsNoNumber (string : StringTree) : Type 0 where
  pub not_one : (character : ℕ) → ¬ (string.characters ≡ character ∷ [])
  pub not_two : (high low : ℕ) → ¬ (string.characters ≡ high ∷ low ∷ [])

-- an argument of INPUT or OUTPUT, whose name is given, that is no port
pub data PortFault (name : Identifier) : ArgumentTrees → Fault → Type 0 where
  -- C15
  number_too_great : {number : Number}
      → 255 < number.value
      → PortFault name (MoreArguments (ConstantLeaf (NumberConstant number)) NoArguments)
      (record { cause = PortTooLarge; place = number.place })
  character_too_great : {string : StringTree} {character : ℕ}
      → string.characters ≡ character ∷ []
      → 255 < character
      → PortFault name (MoreArguments (ConstantLeaf (StringConstant string)) NoArguments) (at_name PortTooLarge name)
  -- C13
  no_character : {string : StringTree}
      → ((character : ℕ) → ¬ (string.characters ≡ character ∷ []))
      → PortFault name (MoreArguments (ConstantLeaf (StringConstant string)) NoArguments) (at_name PortNotConstant name)
  no_constant : {trees : ArgumentTrees}
      → ((leaf : ConstantTree) → ¬ (trees ≡ MoreArguments (ConstantLeaf leaf) NoArguments))
      → PortFault name trees (at_name PortNotConstant name)

-- a name after a period that is no member of an object
pub data MemberFault (object : TypedObject) (member : Identifier) : Fault → Type 0 where
  -- C13
  no_structure : {scalar : ScalarType}
      → object.object_type ≡ ScalarObject scalar
      → MemberFault object member (at_name MemberMismatch member)
  -- C11
  no_such_member : {members : List TypedMember}
      → object.object_type ≡ StructureObject members
      → member_named members member.name ≡ None
      → MemberFault object member (at_name UnknownName member)

-- what LENGTH, LAST or SIZE cannot measure
pub data MeasureFault (known : Known) (name : Identifier) (measure : Measure) : ArgumentTrees → Fault → Type 0 where
  -- C13: not a variable alone
  no_reference : {trees : ArgumentTrees}
      → ((variable : Identifier) (part : MemberTree)
      → ¬ (trees ≡ MoreArguments (ReferenceLeaf (ReferenceTo variable NoArguments part)) NoArguments))
      → MeasureFault known name measure trees (at_name NotMeasurable name)
  -- C11
  unknown_variable : {variable : Identifier} {part : MemberTree}
      → IsUnknown known variable
      → MeasureFault known name measure (MoreArguments (ReferenceLeaf (ReferenceTo variable NoArguments part)) NoArguments)
      (at_name UnknownName variable)
  -- C13
  no_variable : {variable : Identifier} {part : MemberTree}
      → IsNoVariable known variable
      → MeasureFault known name measure (MoreArguments (ReferenceLeaf (ReferenceTo variable NoArguments part)) NoArguments)
      (at_name NoVariable variable)
  -- C13: a member with a subscript
  subscripted : {variable member : Identifier} {first : ExpressionTree} {others : ArgumentTrees} {number : ℕ}
      {object : TypedObject}
      → IsVariable known variable number object
      → MeasureFault known name measure
      (MoreArguments (ReferenceLeaf (ReferenceTo variable NoArguments (MemberOf member (MoreArguments first others))))
      NoArguments)
      (at_name NotMeasurable member)
  in_member : {variable member : Identifier} {number : ℕ} {object : TypedObject} {fault : Fault}
      → IsVariable known variable number object
      → MemberFault object member fault
      → MeasureFault known name measure
      (MoreArguments (ReferenceLeaf (ReferenceTo variable NoArguments (MemberOf member NoArguments))) NoArguments) fault
  -- C13, at the variable: the length of what is no array
  no_dimension : {variable : Identifier} {part : MemberTree} {measured : Measured}
      → IsMeasured known variable part measured
      → measured.dimension ≡ None
      → ¬ (measure ≡ measures.Size)
      → MeasureFault known name measure (MoreArguments (ReferenceLeaf (ReferenceTo variable NoArguments part)) NoArguments)
      (at_name NotMeasurable variable)

-- A number of subscripts that does not go with a dimension. Where an array cannot be meant as a whole, it has one.
pub data IsWrongNumber : Extent → Option ℕ → ℕ → Type 0 where
  of_no_array : {extent : Extent} {count : ℕ} → 0 < count → IsWrongNumber extent None count
  more_than_one : {extent : Extent} {dimension count : ℕ}
      → 1 < count
      → IsWrongNumber extent (Some dimension) count
  no_element : {dimension : ℕ} → IsWrongNumber AnElement (Some dimension) 0

-- a name that is known, but of nothing that has a value: a label or a definition
pub record HasNoValue (known : Known) (name : Identifier) : Type 0 where
  pub is_no_variable : IsNoVariable known name
  pub no_procedure : (number : ℕ) → ¬ StandsFor known name (Declared (Procedure number))
  pub no_built_in : (built_in : BuiltIn) → ¬ IsBuiltIn known name built_in

-- the built-in functions of one value, and of a value and a count
pub data TakesValues : BuiltIn → ℕ → Type 0 where
  takes_one : (function : UnaryFunction) → TakesValues (built_ins.Unary function) 1
  takes_two : (function : ShiftFunction) → TakesValues (named_shift function) 2

mutual
  pub data ExpressionFault (known : Known) : Constants → ExpressionTree → Fault → Type 0 where
    -- C15
    no_number : {constants : Constants} {string : StringTree}
        → IsNoNumber string
        → ExpressionFault known constants (ConstantLeaf (StringConstant string))
        (record { cause = StringNotNumber; place = string.place })
    in_value : {before : Constants} {reference : ReferenceTree} {fault : Fault}
        → ValueFault known before reference fault
        → ExpressionFault known before (ReferenceLeaf reference) fault
    in_location : {before : Constants} {reference : ReferenceTree} {fault : Fault}
        → LocationFault known before reference fault
        → ExpressionFault known before (LocationLeaf reference) fault
    in_parentheses : {before : Constants} {inner : ExpressionTree} {fault : Fault}
        → ExpressionFault known before inner fault
        → ExpressionFault known before (ParenthesizedNode inner) fault
    in_target : {before : Constants} {target : ReferenceTree} {value : ExpressionTree} {fault : Fault}
        → TargetFault known before target fault
        → ExpressionFault known before (AssignmentNode target value) fault
    in_assigned_value : {before middle : Constants} {target : ReferenceTree} {value : ExpressionTree}
        {destination : Destination} {fault : Fault}
        → TargetTyping known before target destination middle
        → ExpressionFault known middle value fault
        → ExpressionFault known before (AssignmentNode target value) fault
    in_operand : {before : Constants} {operator : UnaryOperator} {operand : ExpressionTree} {fault : Fault}
        → ExpressionFault known before operand fault
        → ExpressionFault known before (UnaryNode operator operand) fault
    in_left : {before : Constants} {operator : BinaryOperator} {left right : ExpressionTree} {fault : Fault}
        → ExpressionFault known before left fault
        → ExpressionFault known before (BinaryNode operator left right) fault
    in_right : {before middle : Constants} {operator : BinaryOperator} {left right : ExpressionTree}
        {first : TypedExpression} {fault : Fault}
        → ExpressionTyping known before left first middle
        → ExpressionFault known middle right fault
        → ExpressionFault known before (BinaryNode operator left right) fault

  -- values one after another
  pub data ValuesFault (known : Known) : Constants → ArgumentTrees → Fault → Type 0 where
    in_first : {before : Constants} {first : ExpressionTree} {others : ArgumentTrees} {fault : Fault}
        → ExpressionFault known before first fault
        → ValuesFault known before (MoreArguments first others) fault
    in_others : {before middle : Constants} {first : ExpressionTree} {others : ArgumentTrees}
        {typed : TypedExpression} {fault : Fault}
        → ExpressionTyping known before first typed middle
        → ValuesFault known middle others fault
        → ValuesFault known before (MoreArguments first others) fault

  -- a reference as a value
  pub data ValueFault (known : Known) : Constants → ReferenceTree → Fault → Type 0 where
    -- C11
    unknown_value : {before : Constants} {name : Identifier} {trees : ArgumentTrees} {part : MemberTree}
        → IsUnknown known name
        → ValueFault known before (ReferenceTo name trees part) (at_name UnknownName name)
    -- C13
    no_value : {before : Constants} {name : Identifier} {trees : ArgumentTrees} {part : MemberTree}
        → HasNoValue known name
        → ValueFault known before (ReferenceTo name trees part) (at_name NoVariable name)
    in_part : {before : Constants} {name : Identifier} {trees : ArgumentTrees} {part : MemberTree} {number : ℕ}
        {object : TypedObject} {fault : Fault}
        → IsVariable known name number object
        → PartFault known AnElement object name before trees part fault
        → ValueFault known before (ReferenceTo name trees part) fault
    -- C13: a structure as a value, once its subscripts are well typed
    no_scalar : {before after : Constants} {name : Identifier} {trees : ArgumentTrees} {part : MemberTree}
        {number : ℕ} {object : TypedObject} {reference : TypedReference}
        → IsVariable known name number object
        → PartTyping known AnElement number object before trees part reference None after
        → ValueFault known before (ReferenceTo name trees part) (at_name MemberMismatch name)
    -- C13: the number of a procedure that is none of the table; no name of a text has one
    no_procedure : {before : Constants} {name : Identifier} {trees : ArgumentTrees} {part : MemberTree}
        {number : ℕ}
        → StandsFor known name (Declared (Procedure number))
        → ((procedure : TypedProcedure) → ¬ IsProcedure known name number procedure)
        → ValueFault known before (ReferenceTo name trees part) (at_name CallOfNoProcedure name)
    -- C13: a procedure without a type, or OUTPUT or MOVE
    untyped : {before : Constants} {name : Identifier} {trees : ArgumentTrees} {part : MemberTree} {number : ℕ}
        {procedure : TypedProcedure}
        → IsProcedure known name number procedure
        → procedure.result ≡ None
        → ValueFault known before (ReferenceTo name trees part) (at_name ValueOfUntyped name)
    value_of_output : {before : Constants} {name : Identifier} {trees : ArgumentTrees} {part : MemberTree}
        → IsBuiltIn known name built_ins.Output
        → ValueFault known before (ReferenceTo name trees part) (at_name ValueOfUntyped name)
    value_of_move : {before : Constants} {name : Identifier} {trees : ArgumentTrees} {part : MemberTree}
        → IsBuiltIn known name built_ins.Move
        → ValueFault known before (ReferenceTo name trees part) (at_name ValueOfUntyped name)
    -- C13: not as many arguments as the procedure has parameters
    wrong_count : {before : Constants} {name : Identifier} {trees : ArgumentTrees} {part : MemberTree}
        {number : ℕ} {procedure : TypedProcedure} {result : ScalarType}
        → IsProcedure known name number procedure
        → procedure.result ≡ Some result
        → ¬ (number_of_arguments trees ≡ length procedure.parameter_types)
        → ValueFault known before (ReferenceTo name trees part) (at_name ArgumentCount name)
    in_argument : {before : Constants} {name : Identifier} {trees : ArgumentTrees} {part : MemberTree}
        {number : ℕ} {procedure : TypedProcedure} {result : ScalarType} {fault : Fault}
        → IsProcedure known name number procedure
        → procedure.result ≡ Some result
        → number_of_arguments trees ≡ length procedure.parameter_types
        → ValuesFault known before trees fault
        → ValueFault known before (ReferenceTo name trees part) fault
    -- C13: not as many values as the built-in function takes
    wrong_count_of_values : {before : Constants} {name : Identifier} {trees : ArgumentTrees} {part : MemberTree}
        {built_in : BuiltIn} {count : ℕ}
        → IsBuiltIn known name built_in
        → TakesValues built_in count
        → ¬ (number_of_arguments trees ≡ count)
        → ValueFault known before (ReferenceTo name trees part) (at_name ArgumentCount name)
    in_values : {before : Constants} {name : Identifier} {trees : ArgumentTrees} {part : MemberTree}
        {built_in : BuiltIn} {count : ℕ} {fault : Fault}
        → IsBuiltIn known name built_in
        → TakesValues built_in count
        → number_of_arguments trees ≡ count
        → ValuesFault known before trees fault
        → ValueFault known before (ReferenceTo name trees part) fault
    in_port : {before : Constants} {name : Identifier} {trees : ArgumentTrees} {part : MemberTree}
        {fault : Fault}
        → IsBuiltIn known name built_ins.Input
        → PortFault name trees fault
        → ValueFault known before (ReferenceTo name trees part) fault
    in_measure : {before : Constants} {name : Identifier} {trees : ArgumentTrees} {part : MemberTree}
        {measure : Measure} {fault : Fault}
        → IsBuiltIn known name (named_measure measure)
        → MeasureFault known name measure trees fault
        → ValueFault known before (ReferenceTo name trees part) fault
    -- C13: the result of a procedure or of a built-in function has no members
    member_of_result : {before after : Constants} {name member : Identifier}
        {trees its_subscripts : ArgumentTrees} {typed : TypedExpression}
        → IsNoVariable known name
        → ExpressionTyping known before (ReferenceLeaf (ReferenceTo name trees NoMember)) typed after
        → ValueFault known before (ReferenceTo name trees (MemberOf member its_subscripts)) (at_name MemberMismatch member)

  -- a reference whose location is taken
  pub data LocationFault (known : Known) : Constants → ReferenceTree → Fault → Type 0 where
    -- C11
    unknown_location : {before : Constants} {name : Identifier} {trees : ArgumentTrees} {part : MemberTree}
        → IsUnknown known name
        → LocationFault known before (ReferenceTo name trees part) (at_name UnknownName name)
    -- C17
    location_of_procedure : {before : Constants} {name : Identifier} {trees : ArgumentTrees} {part : MemberTree}
        {number : ℕ}
        → StandsFor known name (Declared (Procedure number))
        → LocationFault known before (ReferenceTo name trees part) (at_name NoLocation name)
    location_in_frame : {before : Constants} {name : Identifier} {trees : ArgumentTrees} {part : MemberTree}
        {number : ℕ} {object : TypedObject}
        → IsVariable known name number object
        → has_location object.home ≡ false
        → LocationFault known before (ReferenceTo name trees part) (at_name NoLocation name)
    -- C13
    location_of_no_variable : {before : Constants} {name : Identifier} {trees : ArgumentTrees}
        {part : MemberTree}
        → IsNoVariable known name
        → ((number : ℕ) → ¬ StandsFor known name (Declared (Procedure number)))
        → LocationFault known before (ReferenceTo name trees part) (at_name NoVariable name)
    in_located_part : {before : Constants} {name : Identifier} {trees : ArgumentTrees} {part : MemberTree}
        {number : ℕ} {object : TypedObject} {fault : Fault}
        → IsVariable known name number object
        → has_location object.home ≡ true
        → PartFault known AlsoTheWhole object name before trees part fault
        → LocationFault known before (ReferenceTo name trees part) fault

  -- a reference that a value is assigned to
  pub data TargetFault (known : Known) : Constants → ReferenceTree → Fault → Type 0 where
    -- C11
    unknown_target : {before : Constants} {name : Identifier} {trees : ArgumentTrees} {part : MemberTree}
        → IsUnknown known name
        → TargetFault known before (ReferenceTo name trees part) (at_name UnknownName name)
    -- C13
    no_target : {before : Constants} {name : Identifier} {trees : ArgumentTrees} {part : MemberTree}
        → IsNoVariable known name
        → ¬ IsBuiltIn known name built_ins.Output
        → TargetFault known before (ReferenceTo name trees part) (at_name NoVariable name)
    -- C16
    target_with_data : {before : Constants} {name : Identifier} {trees : ArgumentTrees} {part : MemberTree}
        {number : ℕ} {object : TypedObject}
        → IsVariable known name number object
        → is_constant object.home ≡ true
        → TargetFault known before (ReferenceTo name trees part) (at_name ConstantWritten name)
    in_target_part : {before : Constants} {name : Identifier} {trees : ArgumentTrees} {part : MemberTree}
        {number : ℕ} {object : TypedObject} {fault : Fault}
        → IsVariable known name number object
        → is_constant object.home ≡ false
        → PartFault known AnElement object name before trees part fault
        → TargetFault known before (ReferenceTo name trees part) fault
    -- C13: a structure as a target, once its subscripts are well typed
    no_scalar_target : {before after : Constants} {name : Identifier} {trees : ArgumentTrees}
        {part : MemberTree} {number : ℕ} {object : TypedObject} {reference : TypedReference}
        → IsVariable known name number object
        → is_constant object.home ≡ false
        → PartTyping known AnElement number object before trees part reference None after
        → TargetFault known before (ReferenceTo name trees part) (at_name MemberMismatch name)
    in_output : {before : Constants} {name : Identifier} {trees : ArgumentTrees} {part : MemberTree}
        {fault : Fault}
        → IsBuiltIn known name built_ins.Output
        → PortFault name trees fault
        → TargetFault known before (ReferenceTo name trees part) fault
    -- C13
    member_of_output : {before : Constants} {name member : Identifier} {trees its_subscripts : ArgumentTrees}
        {port : ℕ}
        → IsBuiltIn known name built_ins.Output
        → IsPort trees port
        → TargetFault known before (ReferenceTo name trees (MemberOf member its_subscripts)) (at_name MemberMismatch member)

  -- the subscripts after a name, of something with this dimension
  pub data SubscriptFault (known : Known) : Extent → Option ℕ → Identifier → Constants → ArgumentTrees → Fault → Type 0 where
    -- C13
    wrong_number : {extent : Extent} {dimension : Option ℕ} {name : Identifier} {before : Constants}
        {trees : ArgumentTrees}
        → IsWrongNumber extent dimension (number_of_arguments trees)
        → SubscriptFault known extent dimension name before trees (at_name SubscriptMismatch name)
    in_subscript : {extent : Extent} {count : ℕ} {name : Identifier} {before : Constants}
        {index : ExpressionTree} {fault : Fault}
        → ExpressionFault known before index fault
        → SubscriptFault known extent (Some count) name before (MoreArguments index NoArguments) fault

  -- the subscripts and the member after the name of an object
  pub data PartFault (known : Known) :
      Extent → TypedObject → Identifier → Constants → ArgumentTrees → MemberTree → Fault → Type 0 where
    in_subscripts : {extent : Extent} {object : TypedObject} {name : Identifier} {before : Constants}
        {trees : ArgumentTrees} {part : MemberTree} {fault : Fault}
        → SubscriptFault known extent object.dimension name before trees fault
        → PartFault known extent object name before trees part fault
    no_member : {extent : Extent} {object : TypedObject} {name member : Identifier} {before middle : Constants}
        {trees its_subscripts : ArgumentTrees} {subscript : Subscript} {fault : Fault}
        → SubscriptTyping known extent object.dimension (size_of_element object.object_type) before trees subscript middle
        → MemberFault object member fault
        → PartFault known extent object name before trees (MemberOf member its_subscripts) fault
    in_member_subscripts : {extent : Extent} {object : TypedObject} {name member : Identifier}
        {before middle : Constants} {trees its_subscripts : ArgumentTrees} {subscript : Subscript}
        {place : FoundMember} {fault : Fault}
        → SubscriptTyping known extent object.dimension (size_of_element object.object_type) before trees subscript middle
        → IsMember object member place
        → SubscriptFault known extent place.member.dimension member middle its_subscripts fault
        → PartFault known extent object name before trees (MemberOf member its_subscripts) fault
