-- The names in expressions are known where these are typed, and where they are not typed for a name, one is
-- to blame.
use Rattle.typing.proofs.Prelude.{nat_le, ◌≡◌, ◌==◌, ℕ, List, [], ◌∷◌, ◌++◌, length, Option, None, Some, inl, inr, refl, sym, subst, append-nil, arith, Contains-append_right, Identifier, Place, NumberConstant, StringConstant, ExpressionTree, ConstantLeaf, ReferenceLeaf, LocationLeaf, ListLeaf, ParenthesizedNode, AssignmentNode, UnaryNode, BinaryNode, ReferenceTree, ReferenceTo, MemberTree, NoMember, MemberOf, ArgumentTrees, NoArguments, MoreArguments, Binding, Declared, BuiltInName, BuiltIn, Object, Procedure, Here, names_in_expression, names_in_reference, names_in_member, names_in_arguments, Measure, ShiftFunction, UnaryFunction, Subscript, ObjectType, TypedObject, TypedProcedure, Constants, member_named, size_of_element, UnknownName, SubscriptMismatch, MemberMismatch, ArgumentCount, ValueOfUntyped, NoVariable, NotMeasurable, PortNotConstant, PortTooLarge, NoLocation, Checked, ◌>>=◌, found, Known, Given, count_of_given, takes_subscripts, members_of, has_location, subscript_of, GivenMember, WithoutMember, WithMember, GivenReference, Extent, AnElement, AlsoTheWhole, place_of, bound, part_with_member, part_of, scalar_part, location_of_bound, location_of, port_of_character, port_of, without_member, destination_of_bound, destination_of, call_arguments, call_of, measured_object, measured_member, measurement, number_of_variable, unary_function, shift_function, input_value, built_in_value, value_of_bound, value_of, expression, given_reference, given_member, arguments, Fault, members_in_expression, members_in_reference, members_in_member, members_in_arguments, unknown_member}
use Rattle.names.specs.declared.entity.BuiltIn.TheVariants as built_ins
use Rattle.typed_trees.specs.declared.parts.Measure.TheVariants as measures
use Rattle.typed_trees.specs.declared.parts.ShiftFunction.TheVariants as shifts
use Rattle.typing.proofs.Names.Meeting.{Joins, IsOther, meets_ok, meets_fault, meets_then, meets_as, after_other, before_other, other_required, other_found}
use Rattle.typing.proofs.Names.ChecksWithoutNames.{not_of_names, number-other, object-other, procedure-other, writable-other, measure-other, function-other, shift-other}
use Rattle.typing.proofs.Names.Bound.{AreKnown, IsUnknown, Finds, names_join, bound-finds}

-- arguments as they are typed
abbrev pub ArgumentsFit : Here → Given → Type 0
ArgumentsFit here given =
    (constants : Constants)
    → Finds here (names_in_arguments given.trees) (members_in_arguments given.trees) (given.typed constants)

abbrev pub MemberFits : Here → GivenMember → Type 0
MemberFits here WithoutMember = Unit {0}
MemberFits here (WithMember name given) = ArgumentsFit here given

abbrev pub names_of_member : GivenMember → List Identifier
names_of_member WithoutMember = []
names_of_member (WithMember name given) = names_in_arguments given.trees

abbrev pub members_of_member : GivenMember → List Fault
members_of_member WithoutMember = []
members_of_member (WithMember name given) = unknown_member name ∷ members_in_arguments given.trees

-- a reference as it is given
pub record ReferenceFits (known : Known) (given : GivenReference) : Type 0 where
  pub arguments : ArgumentsFit known.here given.arguments
  pub member : MemberFits known.here given.member

-- the names in it beside its own, and its members
abbrev pub names_after : GivenReference → List Identifier
names_after given = names_in_arguments given.arguments.trees ++ names_of_member given.member

abbrev pub members_after : GivenReference → List Fault
members_after given = members_in_arguments given.arguments.trees ++ members_of_member given.member

-- a member whose name is unknown
member-finds : {A B : Type 0} (here : Here) (names : List Identifier) (members : List Fault)
    (name : Identifier) (option : Option A)
    {next : A → Checked B}
    → ((a : A) → Finds here names members (next a))
    → Finds here names (unknown_member name ∷ members) (found option UnknownName (place_of name) >>= next)
member-finds here names members name (Some a) then_is =
    meets_as (λ known. known) (λ refusal wrong. more refusal wrong) (then_is a)
  where
    more : (refusal : Fault) → IsUnknown here names members refusal
        → IsUnknown here names (unknown_member name ∷ members) refusal
    more refusal (inl blamed) = inl blamed
    more refusal (inr member) = inr (Contains-append_right (unknown_member name ∷ []) members refusal member)
member-finds here names members name None then_is = record {
  given = λ a e. absurd cc;
  refused = λ refusal e is_name.
      let same : unknown_member name ≡ refusal = cc in
      inr (0, omega arith, same);
}

-- where there is no member
without_member-finds : (here : Here) (member : GivenMember)
    → Finds here (names_of_member member) (members_of_member member) (without_member member)
without_member-finds here WithoutMember = meets_ok tt tt
without_member-finds here (WithMember name given) = meets_fault MemberMismatch (place_of name) not_of_names

-- a port, in which no name stands
character-other : (place : Place) (characters : List ℕ) → IsOther (port_of_character place characters)
character-other place (character ∷ []) =
    after_other (other_required (nat_le character 255) PortTooLarge place not_of_names) λ _ _. meets_ok tt tt
character-other place characters = meets_fault PortNotConstant place not_of_names

port_of-finds : (here : Here) (place : Place) (trees : ArgumentTrees)
    → Finds here (names_in_arguments trees) (members_in_arguments trees) (port_of place trees)
port_of-finds here place (MoreArguments (ConstantLeaf (NumberConstant number)) NoArguments) =
    after_other (other_required (nat_le number.value 255) PortTooLarge number.place not_of_names) λ _ _.
    meets_ok tt tt
port_of-finds here place (MoreArguments (ConstantLeaf (StringConstant string)) NoArguments) =
    meets_as (λ _. tt) (λ refusal never. absurd never) (character-other place string.characters)
port_of-finds here place trees = meets_fault PortNotConstant place not_of_names

-- parts of objects
part_with_member-finds : (here : Here) (number : ℕ) (object_type : ObjectType)
    (element : Subscript) (extent : Extent)
    (member : GivenMember) (constants : Constants)
    → MemberFits here member
    → Finds here (names_of_member member) (members_of_member member)
    (part_with_member number object_type element extent member constants)
part_with_member-finds here number object_type element extent WithoutMember constants fits = meets_ok tt tt
part_with_member-finds here number object_type element extent (WithMember name given) constants fits =
    after_other (other_found (members_of object_type) MemberMismatch (place_of name) not_of_names)
    λ members _.
    member-finds here (names_in_arguments given.trees) (members_in_arguments given.trees) name
    (member_named members name.name) λ place.
    after_other
    (other_required (takes_subscripts extent place.member.dimension (count_of_given given))
    SubscriptMismatch (place_of name)
    not_of_names) λ _ _.
    before_other (fits constants) λ typed _.
    meets_ok tt tt

-- LENGTH, LAST and SIZE of a variable, whose member has no subscripts
measured_member-finds : (here : Here) (number : ℕ) (object : TypedObject) (part : MemberTree)
    → Finds here (names_in_member part) (members_in_member part) (measured_member number object part)
measured_member-finds here number object NoMember = meets_ok tt tt
measured_member-finds here number object (MemberOf name NoArguments) =
    after_other (other_found (members_of object.object_type) MemberMismatch (place_of name) not_of_names)
    λ members _.
    member-finds here [] [] name (member_named members name.name) λ place.
    meets_ok tt tt
measured_member-finds here number object (MemberOf name (MoreArguments first others)) =
    meets_fault NotMeasurable (place_of name) not_of_names

measured_object-finds : (known : Known) (binding : Binding) (name : Identifier) (part : MemberTree)
    → Finds known.here (names_in_member part) (members_in_member part)
    (measured_object known binding name part)
measured_object-finds known (Declared (Object number)) name part =
    after_other (object-other known name number) λ object _.
    measured_member-finds known.here number object part
measured_object-finds known binding name part = meets_fault NoVariable (place_of name) not_of_names

measurement-finds : (known : Known) (measure : Measure) (place : Place) (trees : ArgumentTrees)
    → Finds known.here (names_in_arguments trees) (members_in_arguments trees)
    (measurement known measure place trees)
measurement-finds known measure place
    (MoreArguments (ReferenceLeaf (ReferenceTo name NoArguments part)) NoArguments) =
    subst
    (λ (names : List Identifier). Finds known.here names (members_in_member part ++ [])
    (measurement known measure place (MoreArguments
    (ReferenceLeaf (ReferenceTo name NoArguments part)) NoArguments)))
    (sym (append-nil (name ∷ names_in_member part)))
    (subst
    (λ (members : List Fault). Finds known.here (name ∷ names_in_member part) members
    (measurement known measure place (MoreArguments
    (ReferenceLeaf (ReferenceTo name NoArguments part)) NoArguments)))
    (sym (append-nil (members_in_member part)))
    (meets_then (names_join known.here (name ∷ []) (names_in_member part) [] (members_in_member part))
    (bound-finds known name) λ binding _.
    before_other (measured_object-finds known binding name part) λ measured _.
    after_other (measure-other measure measured (place_of name)) λ value _.
    meets_ok tt tt))
measurement-finds known measure place trees = meets_fault NotMeasurable place not_of_names

-- A reference whose arguments are typed.
module _ (known : Known) (given : GivenReference) (fits : ReferenceFits known given) where
  abbrev FindsAfter : {A : Type 0} → Checked A → Type 0
  FindsAfter result = Finds known.here (names_after given) (members_after given) result

  then_member : Joins (AreKnown known.here (names_in_arguments given.arguments.trees))
      (AreKnown known.here (names_of_member given.member)) (AreKnown known.here (names_after given))
      (IsUnknown known.here (names_in_arguments given.arguments.trees)
      (members_in_arguments given.arguments.trees))
      (IsUnknown known.here (names_of_member given.member) (members_of_member given.member))
      (IsUnknown known.here (names_after given) (members_after given))
  then_member =
      names_join known.here (names_in_arguments given.arguments.trees) (names_of_member given.member)
      (members_in_arguments given.arguments.trees) (members_of_member given.member)

  part_of-finds : (number : ℕ) (object : TypedObject) (extent : Extent) (constants : Constants)
      → FindsAfter (part_of number object extent given constants)
  part_of-finds number object extent constants =
      after_other
      (other_required (takes_subscripts extent object.dimension (count_of_given given.arguments))
      SubscriptMismatch
      (place_of given.name) not_of_names) λ _ _.
      meets_then then_member (fits.arguments constants) λ typed _.
      part_with_member-finds known.here number object.object_type
      (subscript_of (size_of_element object.object_type) object.dimension typed.0) extent given.member typed.1
      fits.member

  scalar_part-finds : (number : ℕ) (object : TypedObject) (constants : Constants)
      → FindsAfter (scalar_part number object given constants)
  scalar_part-finds number object constants =
      before_other (part_of-finds number object AnElement constants) λ part _.
      after_other (other_found part.0.scalar MemberMismatch (place_of given.name) not_of_names) λ scalar _.
      meets_ok tt tt

  call_arguments-finds : (procedure : TypedProcedure) (place : Place) (constants : Constants)
      → Finds known.here (names_in_arguments given.arguments.trees)
      (members_in_arguments given.arguments.trees)
      (call_arguments procedure place given.arguments constants)
  call_arguments-finds procedure place constants =
      after_other
      (other_required (count_of_given given.arguments == length procedure.parameter_types)
      ArgumentCount place not_of_names)
      λ _ _.
      before_other (fits.arguments constants) λ typed _.
      meets_ok tt tt

  call_of-finds : (number : ℕ) (procedure : TypedProcedure) (constants : Constants)
      → FindsAfter (call_of number procedure given constants)
  call_of-finds number procedure constants =
      after_other (other_found procedure.result ValueOfUntyped (place_of given.name) not_of_names) λ result _.
      meets_then then_member (call_arguments-finds procedure (place_of given.name) constants) λ typed _.
      before_other (without_member-finds known.here given.member) λ _ _.
      meets_ok tt tt

  unary_function-finds : (function : UnaryFunction) (constants : Constants)
      → FindsAfter (unary_function function given constants)
  unary_function-finds function constants =
      after_other
      (other_required (count_of_given given.arguments == 1) ArgumentCount (place_of given.name) not_of_names)
      λ _ _.
      meets_then then_member (fits.arguments constants) λ typed _.
      before_other (without_member-finds known.here given.member) λ _ _.
      after_other (function-other function (place_of given.name) typed.0) λ node _.
      meets_ok tt tt

  shift_function-finds : (function : ShiftFunction) (constants : Constants)
      → FindsAfter (shift_function function given constants)
  shift_function-finds function constants =
      after_other
      (other_required (count_of_given given.arguments == 2) ArgumentCount (place_of given.name) not_of_names)
      λ _ _.
      meets_then then_member (fits.arguments constants) λ typed _.
      before_other (without_member-finds known.here given.member) λ _ _.
      after_other (shift-other function (place_of given.name) typed.0) λ node _.
      meets_ok tt tt

  input_value-finds : (constants : Constants) → FindsAfter (input_value given constants)
  input_value-finds constants =
      meets_then then_member (port_of-finds known.here (place_of given.name) given.arguments.trees) λ port _.
      before_other (without_member-finds known.here given.member) λ _ _.
      meets_ok tt tt

  number_of_variable-finds : (measure : Measure) (constants : Constants)
      → FindsAfter (number_of_variable known measure given constants)
  number_of_variable-finds measure constants =
      meets_then then_member (measurement-finds known measure (place_of given.name) given.arguments.trees)
      λ node _.
      before_other (without_member-finds known.here given.member) λ _ _.
      meets_ok tt tt

  built_in_value-finds : (built_in : BuiltIn) (constants : Constants)
      → FindsAfter (built_in_value known built_in given constants)
  built_in_value-finds built_ins.Input constants = input_value-finds constants
  built_in_value-finds built_ins.Output constants =
      meets_fault ValueOfUntyped (place_of given.name) not_of_names
  built_in_value-finds (built_ins.Unary function) constants = unary_function-finds function constants
  built_in_value-finds built_ins.Length constants = number_of_variable-finds measures.Length constants
  built_in_value-finds built_ins.Last constants = number_of_variable-finds measures.Last constants
  built_in_value-finds built_ins.Size constants = number_of_variable-finds measures.Size constants
  built_in_value-finds built_ins.ShiftLeft constants = shift_function-finds shifts.ShiftLeft constants
  built_in_value-finds built_ins.ShiftRight constants = shift_function-finds shifts.ShiftRight constants
  built_in_value-finds built_ins.RotateLeft constants = shift_function-finds shifts.RotateLeft constants
  built_in_value-finds built_ins.RotateRight constants = shift_function-finds shifts.RotateRight constants
  built_in_value-finds built_ins.Move constants =
      meets_fault ValueOfUntyped (place_of given.name) not_of_names

  value_of_bound-finds : (binding : Binding) (constants : Constants)
      → FindsAfter (value_of_bound known binding given constants)
  value_of_bound-finds (Declared (Object number)) constants =
      after_other (object-other known given.name number) λ object _.
      before_other (scalar_part-finds number object constants) λ part _.
      meets_ok tt tt
  value_of_bound-finds (Declared (Procedure number)) constants =
      after_other (procedure-other known given.name number) λ procedure _.
      call_of-finds number procedure constants
  value_of_bound-finds (BuiltInName built_in) constants = built_in_value-finds built_in constants
  value_of_bound-finds binding constants = meets_fault NoVariable (place_of given.name) not_of_names

  location_of_bound-finds : (binding : Binding) (constants : Constants)
      → FindsAfter (location_of_bound known binding given constants)
  location_of_bound-finds (Declared (Object number)) constants =
      after_other (object-other known given.name number) λ object _.
      after_other (other_required (has_location object.home) NoLocation (place_of given.name) not_of_names)
      λ _ _.
      before_other (part_of-finds number object AlsoTheWhole constants) λ part _.
      meets_ok tt tt
  location_of_bound-finds (Declared (Procedure number)) constants =
      meets_fault NoLocation (place_of given.name) not_of_names
  location_of_bound-finds binding constants = meets_fault NoVariable (place_of given.name) not_of_names

  destination_of_bound-finds : (binding : Binding) (constants : Constants)
      → FindsAfter (destination_of_bound known binding given constants)
  destination_of_bound-finds (Declared (Object number)) constants =
      after_other (object-other known given.name number) λ object _.
      after_other (writable-other object given.name) λ _ _.
      before_other (scalar_part-finds number object constants) λ part _.
      meets_ok tt tt
  destination_of_bound-finds (BuiltInName built_ins.Output) constants =
      meets_then then_member (port_of-finds known.here (place_of given.name) given.arguments.trees) λ port _.
      before_other (without_member-finds known.here given.member) λ _ _.
      meets_ok tt tt
  destination_of_bound-finds binding constants = meets_fault NoVariable (place_of given.name) not_of_names

  -- with its own name, which is bound first
  with_name : {A : Type 0} {next : Binding → Checked A}
      → ((binding : Binding) → FindsAfter (next binding))
      → Finds known.here (given.name ∷ names_after given) (members_after given)
      (bound known given.name >>= next)
  with_name each =
      meets_then (names_join known.here (given.name ∷ []) (names_after given) [] (members_after given))
      (bound-finds known given.name) λ binding _. each binding

  value_of-finds : (constants : Constants)
      → Finds known.here (given.name ∷ names_after given) (members_after given)
      (value_of known given constants)
  value_of-finds constants = with_name (λ binding. value_of_bound-finds binding constants)

  location_of-finds : (constants : Constants)
      → Finds known.here (given.name ∷ names_after given) (members_after given)
      (location_of known given constants)
  location_of-finds constants = with_name (λ binding. location_of_bound-finds binding constants)

  destination_of-finds : (constants : Constants)
      → Finds known.here (given.name ∷ names_after given) (members_after given)
      (destination_of known given constants)
  destination_of-finds constants = with_name (λ binding. destination_of_bound-finds binding constants)

-- the names of a reference are those that are given
names_given : (known : Known) (reference : ReferenceTree)
    → (given_reference known reference).name ∷ names_after (given_reference known reference)
    ≡ names_in_reference reference
names_given known (ReferenceTo name trees NoMember) = refl
names_given known (ReferenceTo name trees (MemberOf member subscripts)) = refl

members_given : (known : Known) (reference : ReferenceTree)
    → members_after (given_reference known reference) ≡ members_in_reference reference
members_given known (ReferenceTo name trees NoMember) = refl
members_given known (ReferenceTo name trees (MemberOf member subscripts)) = refl

as_names : {A : Type 0} (known : Known) (reference : ReferenceTree) (result : Checked A)
    → Finds known.here
    ((given_reference known reference).name ∷ names_after (given_reference known reference))
    (members_after (given_reference known reference)) result
    → Finds known.here (names_in_reference reference) (members_in_reference reference) result
as_names known reference result finds =
    subst (λ (members : List Fault). Finds known.here (names_in_reference reference) members result)
    (members_given known reference)
    (subst (λ (names : List Identifier). Finds known.here names
    (members_after (given_reference known reference)) result)
    (names_given known reference) finds)

mutual
  pub expression-finds : (known : Known) (tree : ExpressionTree) (constants : Constants)
      → Finds known.here (names_in_expression tree) (members_in_expression tree)
      (expression known tree constants)
  expression-finds known (ConstantLeaf constant) constants =
      after_other (number-other constant) λ node _.
      meets_ok tt tt
  expression-finds known (ReferenceLeaf reference) constants =
      as_names known reference _
      (value_of-finds known (given_reference known reference) (reference-fits known reference) constants)
  expression-finds known (LocationLeaf reference) constants =
      as_names known reference _
      (location_of-finds known (given_reference known reference) (reference-fits known reference) constants)
  expression-finds known (ListLeaf list) constants = meets_ok tt tt
  expression-finds known (ParenthesizedNode inner) constants = expression-finds known inner constants
  expression-finds known (AssignmentNode target value) constants =
      meets_then
      (names_join known.here (names_in_reference target) (names_in_expression value)
      (members_in_reference target)
      (members_in_expression value))
      (as_names known target _
      (destination_of-finds known (given_reference known target) (reference-fits known target) constants))
      λ destination _.
      before_other (expression-finds known value destination.1) λ typed _.
      meets_ok tt tt
  expression-finds known (UnaryNode operator operand) constants =
      before_other (expression-finds known operand constants) λ typed _.
      meets_ok tt tt
  expression-finds known (BinaryNode operator left right) constants =
      meets_then
      (names_join known.here (names_in_expression left) (names_in_expression right)
      (members_in_expression left)
      (members_in_expression right))
      (expression-finds known left constants) λ one _.
      before_other (expression-finds known right one.1) λ other _.
      meets_ok tt tt

  pub reference-fits : (known : Known) (reference : ReferenceTree)
      → ReferenceFits known (given_reference known reference)
  reference-fits known (ReferenceTo name trees part) =
      record { arguments = λ constants. arguments-find known trees constants; member = member-fits known part }

  member-fits : (known : Known) (part : MemberTree) → MemberFits known.here (given_member known part)
  member-fits known NoMember = tt
  member-fits known (MemberOf name trees) = λ constants. arguments-find known trees constants

  pub arguments-find : (known : Known) (trees : ArgumentTrees) (constants : Constants)
      → Finds known.here (names_in_arguments trees) (members_in_arguments trees)
      (arguments known trees constants)
  arguments-find known NoArguments constants = meets_ok tt tt
  arguments-find known (MoreArguments first others) constants =
      meets_then
      (names_join known.here (names_in_expression first) (names_in_arguments others)
      (members_in_expression first)
      (members_in_arguments others))
      (expression-finds known first constants) λ typed _.
      before_other (arguments-find known others typed.1) λ rest _.
      meets_ok tt tt

-- what a value goes to
pub target-finds : (known : Known) (reference : ReferenceTree) (constants : Constants)
    → Finds known.here (names_in_reference reference) (members_in_reference reference)
    (destination_of known (given_reference known reference) constants)
target-finds known reference constants =
    as_names known reference _
    (destination_of-finds known (given_reference known reference) (reference-fits known reference) constants)

-- the arguments of a CALL
abbrev pub arguments_given : Known → ArgumentTrees → Given
arguments_given known trees = record { trees = trees; typed = arguments known trees }

pub call-finds : (known : Known) (procedure : TypedProcedure) (place : Place) (trees : ArgumentTrees)
    (constants : Constants)
    → Finds known.here (names_in_arguments trees) (members_in_arguments trees)
    (call_arguments procedure place (arguments_given known trees) constants)
call-finds known procedure place trees constants =
    after_other
    (other_required (count_of_given (arguments_given known trees) == length procedure.parameter_types)
    ArgumentCount place
    not_of_names) λ _ _.
    before_other (arguments-find known trees constants) λ typed _.
    meets_ok tt tt
