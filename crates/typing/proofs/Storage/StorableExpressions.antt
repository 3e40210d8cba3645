-- Expressions add nothing to the constants but constant lists, with a place each.
use Rattle.typing.proofs.Prelude.{ℕ, List, IfOk, ◌==◌, length, ExpressionTree, ConstantLeaf, ReferenceLeaf, LocationLeaf, ListLeaf, ParenthesizedNode, AssignmentNode, UnaryNode, BinaryNode, ReferenceTree, ReferenceTo, NoMember, MemberOf, ArgumentTrees, NoArguments, MoreArguments, Binding, Declared, BuiltInName, BuiltIn, Object, Procedure, Measure, ShiftFunction, UnaryFunction, Subscript, ObjectType, TypedObject, TypedProcedure, Constants, member_named, UnknownName, SubscriptMismatch, MemberMismatch, ArgumentCount, ValueOfUntyped, NoLocation, require, found, Known, Given, GivenMember, WithoutMember, WithMember, GivenReference, place_of, count_of_given, bound, object_of, procedure_of, Extent, AnElement, AlsoTheWhole, takes_subscripts, members_of, part_with_member, part_of, scalar_part, has_location, location_of_bound, location_of, port_of, without_member, is_writable, destination_of_bound, destination_of, call_arguments, call_of, function_of, unary_function, shift_of, shift_function, input_value, measurement, number_of_variable, built_in_value, value_of_bound, value_of, number_node, expression, given_reference, arguments, Place}
use Rattle.names.specs.declared.entity.BuiltIn.TheVariants as built_ins
use Rattle.typed_trees.specs.declared.parts.Measure.TheVariants as measures
use Rattle.typed_trees.specs.declared.parts.ShiftFunction.TheVariants as shifts
use Rattle.typing.proofs.Steps.{then_checks, then_any}
use Rattle.typing.proofs.Storage.Storable.{AreStorable, list_more}

-- arguments, a member or a reference that keep the constants of these objects storable
abbrev pub GivenKeeps : List TypedObject → Given → Type 0
GivenKeeps objects given = (constants : Constants)
    → AreStorable objects constants → IfOk (given.typed constants) (λ typed. AreStorable objects typed.1)

abbrev pub MemberKeeps : List TypedObject → GivenMember → Type 0
MemberKeeps objects WithoutMember = Unit {0}
MemberKeeps objects (WithMember name given) = GivenKeeps objects given

pub record ReferenceKeeps (objects : List TypedObject) (given : GivenReference) : Type 0 where
  pub arguments : GivenKeeps objects given.arguments
  pub member : MemberKeeps objects given.member

module _ {objects : List TypedObject} where
  -- parts of objects
  part_with_member_is : (object : ℕ) (object_type : ObjectType) (index : Subscript) (extent : Extent)
      (member : GivenMember) (constants : Constants)
      → MemberKeeps objects member → AreStorable objects constants
      → IfOk (part_with_member object object_type index extent member constants)
      (λ typed. AreStorable objects typed.1)
  part_with_member_is object object_type index extent WithoutMember constants keeps are = are
  part_with_member_is object object_type index extent (WithMember name given) constants keeps are =
      then_any _ (found (members_of object_type) MemberMismatch (place_of name)) _ (λ members.
      then_any _ (found (member_named members name.name) UnknownName (place_of name)) _ (λ place.
      then_any _
      (require (takes_subscripts extent place.member.dimension (count_of_given given)) SubscriptMismatch
      (place_of name)) _ (λ takes.
      then_checks _ _ (given.typed constants) _ (keeps constants are) (λ typed is. is))))

  part_of_is : (number : ℕ) (object : TypedObject) (extent : Extent) (given : GivenReference)
      (constants : Constants)
      → ReferenceKeeps objects given → AreStorable objects constants
      → IfOk (part_of number object extent given constants) (λ typed. AreStorable objects typed.1)
  part_of_is number object extent given constants keeps are =
      then_any _
      (require (takes_subscripts extent object.dimension (count_of_given given.arguments))
      SubscriptMismatch
      (place_of given.name)) _ (λ takes.
      then_checks _ _ (given.arguments.typed constants) _ (keeps.arguments constants are) (λ typed is.
      part_with_member_is number object.object_type _ extent given.member typed.1 keeps.member is))

  scalar_part_is : (number : ℕ) (object : TypedObject) (given : GivenReference) (constants : Constants)
      → ReferenceKeeps objects given → AreStorable objects constants
      → IfOk (scalar_part number object given constants) (λ typed. AreStorable objects typed.2)
  scalar_part_is number object given constants keeps are =
      then_checks _ _ (part_of number object AnElement given constants) _
      (part_of_is number object AnElement given constants keeps are) (λ part is.
      then_any _ (found part.0.scalar MemberMismatch (place_of given.name)) _ (λ scalar. is))

  -- locations
  location_of_bound_is : (known : Known) (binding : Binding) (given : GivenReference) (constants : Constants)
      → ReferenceKeeps objects given → AreStorable objects constants
      → IfOk (location_of_bound known binding given constants) (λ typed. AreStorable objects typed.1)
  location_of_bound_is known (Declared (Object number)) given constants keeps are =
      then_any _ (object_of known given.name number) _ (λ object.
      then_any _ (require (has_location object.home) NoLocation (place_of given.name)) _ (λ has.
      then_checks _ _ (part_of number object AlsoTheWhole given constants) _
      (part_of_is number object AlsoTheWhole given constants keeps are) (λ part is. is)))
  location_of_bound_is known (Declared (Procedure number)) given constants keeps are = tt
  location_of_bound_is known binding given constants keeps are = tt

  location_of_is : (known : Known) (given : GivenReference) (constants : Constants)
      → ReferenceKeeps objects given → AreStorable objects constants
      → IfOk (location_of known given constants) (λ typed. AreStorable objects typed.1)
  location_of_is known given constants keeps are =
      then_any _ (bound known given.name) _ (λ binding.
      location_of_bound_is known binding given constants keeps are)

  -- what values go to
  destination_of_bound_is : (known : Known) (binding : Binding) (given : GivenReference)
      (constants : Constants)
      → ReferenceKeeps objects given → AreStorable objects constants
      → IfOk (destination_of_bound known binding given constants) (λ typed. AreStorable objects typed.1)
  destination_of_bound_is known (Declared (Object number)) given constants keeps are =
      then_any _ (object_of known given.name number) _ (λ object.
      then_any _ (is_writable object given.name) _ (λ is_variable.
      then_checks _ _ (scalar_part number object given constants) _
      (scalar_part_is number object given constants keeps are) (λ part is. is)))
  destination_of_bound_is known (BuiltInName built_ins.Output) given constants keeps are =
      then_any _ (port_of (place_of given.name) given.arguments.trees) _ (λ port.
      then_any _ (without_member given.member) _ (λ has_none. are))
  destination_of_bound_is known binding given constants keeps are = tt

  destination_of_is : (known : Known) (given : GivenReference) (constants : Constants)
      → ReferenceKeeps objects given → AreStorable objects constants
      → IfOk (destination_of known given constants) (λ typed. AreStorable objects typed.1)
  destination_of_is known given constants keeps are =
      then_any _ (bound known given.name) _ (λ binding.
      destination_of_bound_is known binding given constants keeps are)

  -- calls
  pub call_arguments_is : (procedure : TypedProcedure) (place : Place) (given : Given) (constants : Constants)
      → GivenKeeps objects given → AreStorable objects constants
      → IfOk (call_arguments procedure place given constants) (λ typed. AreStorable objects typed.1)
  call_arguments_is procedure place given constants keeps are =
      then_any _ (require (count_of_given given == length procedure.parameter_types) ArgumentCount place) _
      (λ are_all.
      then_checks _ _ (given.typed constants) _ (keeps constants are) (λ typed is. is))

  call_of_is : (number : ℕ) (procedure : TypedProcedure) (given : GivenReference) (constants : Constants)
      → ReferenceKeeps objects given → AreStorable objects constants
      → IfOk (call_of number procedure given constants) (λ typed. AreStorable objects typed.1)
  call_of_is number procedure given constants keeps are =
      then_any _ (found procedure.result ValueOfUntyped (place_of given.name)) _ (λ result.
      then_checks _ _ (call_arguments procedure (place_of given.name) given.arguments constants) _
      (call_arguments_is procedure (place_of given.name) given.arguments constants keeps.arguments are)
      (λ typed is.
      then_any _ (without_member given.member) _ (λ has_none. is)))

  -- built-in functions
  unary_function_is : (function : UnaryFunction) (given : GivenReference) (constants : Constants)
      → ReferenceKeeps objects given → AreStorable objects constants
      → IfOk (unary_function function given constants) (λ typed. AreStorable objects typed.1)
  unary_function_is function given constants keeps are =
      then_any _ (require (count_of_given given.arguments == 1) ArgumentCount (place_of given.name)) _
      (λ is_one.
      then_checks _ _ (given.arguments.typed constants) _ (keeps.arguments constants are) (λ typed is.
      then_any _ (without_member given.member) _ (λ has_none.
      then_any _ (function_of function (place_of given.name) typed.0) _ (λ node. is))))

  shift_function_is : (function : ShiftFunction) (given : GivenReference) (constants : Constants)
      → ReferenceKeeps objects given → AreStorable objects constants
      → IfOk (shift_function function given constants) (λ typed. AreStorable objects typed.1)
  shift_function_is function given constants keeps are =
      then_any _ (require (count_of_given given.arguments == 2) ArgumentCount (place_of given.name)) _
      (λ are_two.
      then_checks _ _ (given.arguments.typed constants) _ (keeps.arguments constants are) (λ typed is.
      then_any _ (without_member given.member) _ (λ has_none.
      then_any _ (shift_of function (place_of given.name) typed.0) _ (λ node. is))))

  input_value_is : (given : GivenReference) (constants : Constants) → AreStorable objects constants
      → IfOk (input_value given constants) (λ typed. AreStorable objects typed.1)
  input_value_is given constants are =
      then_any _ (port_of (place_of given.name) given.arguments.trees) _ (λ port.
      then_any _ (without_member given.member) _ (λ has_none. are))

  number_of_variable_is : (known : Known) (measure : Measure) (given : GivenReference) (constants : Constants)
      → AreStorable objects constants
      → IfOk (number_of_variable known measure given constants) (λ typed. AreStorable objects typed.1)
  number_of_variable_is known measure given constants are =
      then_any _ (measurement known measure (place_of given.name) given.arguments.trees) _ (λ node.
      then_any _ (without_member given.member) _ (λ has_none. are))

  built_in_value_is : (known : Known) (built_in : BuiltIn) (given : GivenReference) (constants : Constants)
      → ReferenceKeeps objects given → AreStorable objects constants
      → IfOk (built_in_value known built_in given constants) (λ typed. AreStorable objects typed.1)
  built_in_value_is known built_ins.Input given constants keeps are = input_value_is given constants are
  built_in_value_is known built_ins.Output given constants keeps are = tt
  built_in_value_is known (built_ins.Unary function) given constants keeps are =
      unary_function_is function given constants keeps are
  built_in_value_is known built_ins.Length given constants keeps are =
      number_of_variable_is known measures.Length given constants are
  built_in_value_is known built_ins.Last given constants keeps are =
      number_of_variable_is known measures.Last given constants are
  built_in_value_is known built_ins.Size given constants keeps are =
      number_of_variable_is known measures.Size given constants are
  built_in_value_is known built_ins.ShiftLeft given constants keeps are =
      shift_function_is shifts.ShiftLeft given constants keeps are
  built_in_value_is known built_ins.ShiftRight given constants keeps are =
      shift_function_is shifts.ShiftRight given constants keeps are
  built_in_value_is known built_ins.RotateLeft given constants keeps are =
      shift_function_is shifts.RotateLeft given constants keeps are
  built_in_value_is known built_ins.RotateRight given constants keeps are =
      shift_function_is shifts.RotateRight given constants keeps are
  built_in_value_is known built_ins.Move given constants keeps are = tt

  -- values of references
  value_of_bound_is : (known : Known) (binding : Binding) (given : GivenReference) (constants : Constants)
      → ReferenceKeeps objects given → AreStorable objects constants
      → IfOk (value_of_bound known binding given constants) (λ typed. AreStorable objects typed.1)
  value_of_bound_is known (Declared (Object number)) given constants keeps are =
      then_any _ (object_of known given.name number) _ (λ object.
      then_checks _ _ (scalar_part number object given constants) _
      (scalar_part_is number object given constants keeps are) (λ part is. is))
  value_of_bound_is known (Declared (Procedure number)) given constants keeps are =
      then_any _ (procedure_of known given.name number) _ (λ procedure.
      call_of_is number procedure given constants keeps are)
  value_of_bound_is known (BuiltInName built_in) given constants keeps are =
      built_in_value_is known built_in given constants keeps are
  value_of_bound_is known binding given constants keeps are = tt

  value_of_is : (known : Known) (given : GivenReference) (constants : Constants)
      → ReferenceKeeps objects given → AreStorable objects constants
      → IfOk (value_of known given constants) (λ typed. AreStorable objects typed.1)
  value_of_is known given constants keeps are =
      then_any _ (bound known given.name) _
      (λ binding. value_of_bound_is known binding given constants keeps are)

  mutual
    pub expression_is : (known : Known) (tree : ExpressionTree) (constants : Constants)
        → AreStorable objects constants
        → IfOk (expression known tree constants) (λ typed. AreStorable objects typed.1)
    expression_is known (ConstantLeaf constant) constants are =
        then_any _ (number_node constant) _ (λ node. are)
    expression_is known (ReferenceLeaf reference) constants are =
        value_of_is known (given_reference known reference) constants (reference_is known reference) are
    expression_is known (LocationLeaf reference) constants are =
        location_of_is known (given_reference known reference) constants (reference_is known reference) are
    expression_is known (ListLeaf list) constants are = list_more list are
    expression_is known (ParenthesizedNode inner) constants are = expression_is known inner constants are
    expression_is known (AssignmentNode target value) constants are =
        then_checks _ _ (destination_of known (given_reference known target) constants) _
        (destination_of_is known (given_reference known target) constants (reference_is known target) are)
        (λ destination is.
        then_checks _ _ (expression known value destination.1) _ (expression_is known value destination.1 is)
        (λ typed after. after))
    expression_is known (UnaryNode operator operand) constants are =
        then_checks _ _ (expression known operand constants) _
        (expression_is known operand constants are) (λ typed is. is)
    expression_is known (BinaryNode operator left right) constants are =
        then_checks _ _ (expression known left constants) _
        (expression_is known left constants are) (λ first is.
        then_checks _ _ (expression known right first.1) _ (expression_is known right first.1 is)
        (λ second after. after))

    reference_is : (known : Known) (reference : ReferenceTree)
        → ReferenceKeeps objects (given_reference known reference)
    reference_is known (ReferenceTo name trees NoMember) =
        record { arguments = λ constants are. arguments_is known trees constants are; member = tt }
    reference_is known (ReferenceTo name trees (MemberOf part others)) = record {
      arguments = λ constants are. arguments_is known trees constants are;
      member = λ constants are. arguments_is known others constants are;
    }

    pub arguments_is : (known : Known) (trees : ArgumentTrees) (constants : Constants)
        → AreStorable objects constants
        → IfOk (arguments known trees constants) (λ typed. AreStorable objects typed.1)
    arguments_is known NoArguments constants are = are
    arguments_is known (MoreArguments first others) constants are =
        then_checks _ _ (expression known first constants) _
        (expression_is known first constants are) (λ typed is.
        then_checks _ _ (arguments known others typed.1) _ (arguments_is known others typed.1 is)
        (λ rest after. after))

  pub destination_is : (known : Known) (reference : ReferenceTree) (constants : Constants)
      → AreStorable objects constants
      → IfOk (destination_of known (given_reference known reference) constants)
      (λ typed. AreStorable objects typed.1)
  destination_is known reference constants are =
      destination_of_is known (given_reference known reference) constants (reference_is known reference) are
