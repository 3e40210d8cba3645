-- References: what the typing gives of them has a typing by the rules, and the fault that it gives is one of
-- the rules.
use Rattle.typing_rules.proofs.Prelude.{not-false, not-true, ◌≡◌, ℕ, zero, suc, ◌==◌, true, false, List, [], ◌∷◌, length, Option, Some, None, Ok, nat_le, refl, ap, subst, arith, slice_get, leb-true, leb-false, eqb-true, eqb-false, Identifier, NumberConstant, StringConstant, StringTree, ExpressionTree, ConstantLeaf, ReferenceLeaf, LocationLeaf, ReferenceTo, MemberTree, NoMember, MemberOf, ArgumentTrees, NoArguments, MoreArguments, Binding, Declared, BuiltInName, UnknownLabel, BuiltIn, Object, Procedure, Label, Definition, binding_of, FoundMember, Measure, ShiftFunction, TypedMember, UnaryFunction, size_of_scalar, size_of_element, member_named, TypedExpression, CallNode, InputNode, TypedReference, PartOf, Subscript, NoSubscript, TypedArguments, ObjectType, ScalarObject, StructureObject, TypedObject, TypedProcedure, Constants, ArgumentCount, CallOfNoProcedure, ConstantWritten, MemberMismatch, NoLocation, NoVariable, NotMeasurable, PortTooLarge, SubscriptMismatch, UnknownName, ValueOfUntyped, Fault, Checked, ◌>>=◌, require, found, given_member, arguments, call_of, Measured, measured_member, measured_object, measure_of, measurement, number_of_variable, function_of, unary_function, shift_of, shift_function, input_value, built_in_value, value_of_bound, value_of, Destination, Known, GivenReference, Extent, AnElement, AlsoTheWhole, number_of_arguments, takes_subscripts, subscript_of, members_of, FoundPart, part_with_member, part_of, scalar_part, has_location, location_of_bound, location_of, port_of, port_of_character, without_member, is_constant, destination_of_bound, destination_of, Port, not, IsPort, port_number, port_character, StandsFor, IsVariable, IsProcedure, IsBuiltIn, IsNoVariable, at_name, named_shift, named_measure, IsMember, IsMeasured, a_variable, a_member, IsMeasure, a_length, a_last, a_size, ExpressionTyping, scalar_value, typed_call, input, function_call, shift_call, measure_call, location, ValuesTyping, no_values, next_value, SubscriptTyping, no_array, element, whole_array, PartTyping, has_no_member, has_member, TargetTyping, scalar_target, output, PortFault, number_too_great, character_too_great, no_character, no_constant, MemberFault, no_structure, no_such_member, MeasureFault, no_reference, unknown_variable, no_variable, subscripted, in_member, no_dimension, IsWrongNumber, of_no_array, more_than_one, no_element, HasNoValue, takes_one, takes_two, ExpressionFault, ValuesFault, in_first, in_others, ValueFault, unknown_value, no_value, in_part, no_scalar, no_procedure, untyped, value_of_output, value_of_move, wrong_count, in_argument, wrong_count_of_values, in_values, in_port, in_measure, member_of_result, LocationFault, unknown_location, location_of_procedure, location_in_frame, location_of_no_variable, in_located_part, TargetFault, unknown_target, no_target, target_with_data, in_target_part, no_scalar_target, in_output, member_of_output, SubscriptFault, wrong_number, in_subscript, PartFault, in_subscripts, no_member, in_member_subscripts}
use Rattle.names.specs.declared.entity.BuiltIn.TheVariants as built_ins
use Rattle.typed_trees.specs.declared.parts.Measure.TheVariants as measures
use Rattle.typed_trees.specs.declared.parts.ShiftFunction.TheVariants as shifts
use Rattle.typing_rules.proofs.Judged.{Judged, judged_ok, judged_fault, then_judged, then_when, is_found, then_found}

-- arguments are judged by the rules, wherever constant lists have come to
abbrev pub ValuesJudged : Known → ArgumentTrees → Type 0
ValuesJudged known trees =
    (before : Constants)
    → Judged (λ found. ValuesTyping known before trees found.0 found.1) (ValuesFault known before trees)
    (arguments known trees before)

abbrev pub MemberJudged : Known → MemberTree → Type 0
MemberJudged known NoMember = Unit {0}
MemberJudged known (MemberOf name trees) = ValuesJudged known trees

abbrev pub given_name : Known → Identifier → ArgumentTrees → MemberTree → GivenReference
given_name known name trees part = record {
  name = name;
  arguments = record { trees = trees; typed = arguments known trees };
  member = given_member known part;
}

-- the number of subscripts
is_wrong : (extent : Extent) (dimension : Option ℕ) (count : ℕ)
    → takes_subscripts extent dimension count ≡ false
    → IsWrongNumber extent dimension count
is_wrong extent None zero wrong = absurd cc
is_wrong extent None (suc count) wrong = of_no_array (omega arith)
is_wrong AnElement (Some dimension) zero wrong = no_element
is_wrong AnElement (Some dimension) (suc zero) wrong = absurd cc
is_wrong AnElement (Some dimension) (suc (suc count)) wrong = more_than_one (omega arith)
is_wrong AlsoTheWhole (Some dimension) zero wrong = absurd cc
is_wrong AlsoTheWhole (Some dimension) (suc zero) wrong = absurd cc
is_wrong AlsoTheWhole (Some dimension) (suc (suc count)) wrong = more_than_one (omega arith)

only_fault : {known : Known} {before : Constants} {index : ExpressionTree} {fault : Fault}
    → ValuesFault known before (MoreArguments index NoArguments) fault
    → ExpressionFault known before index fault
only_fault (in_first is) = is
only_fault (in_others typing rest) = elim rest [ ]

module _ {B : Type 0} {P : B → Type 0} {Q : Fault → Type 0} (known : Known)
    (next : Subscript → Constants → Checked B) where
  one_subscript : (extent : Extent) (count size : ℕ) {before : Constants} {index : ExpressionTree}
      {typed : TypedArguments}
      {after : Constants}
      → ValuesTyping known before (MoreArguments index NoArguments) typed after
      → ((subscript : Subscript) (after : Constants)
      → SubscriptTyping known extent (Some count) size before
      (MoreArguments index NoArguments) subscript after
      → Judged P Q (next subscript after))
      → Judged P Q (next (subscript_of size (Some count) typed) after)
  one_subscript extent count size (next_value one no_values) then_is = then_is _ _ (element one)

  right_subscripts : (extent : Extent) (dimension : Option ℕ) (size : ℕ) (name : Identifier)
      (trees : ArgumentTrees)
      (before : Constants)
      → takes_subscripts extent dimension (number_of_arguments trees) ≡ true
      → ValuesJudged known trees
      → ((fault : Fault) → SubscriptFault known extent dimension name before trees fault → Q fault)
      → ((subscript : Subscript) (after : Constants)
      → SubscriptTyping known extent dimension size before trees subscript after
      → Judged P Q (next subscript after))
      → Judged P Q
      (arguments known trees before >>= λ typed. next (subscript_of size dimension typed.0) typed.1)
  right_subscripts extent None size name NoArguments before right judged fails then_is =
      then_is NoSubscript before no_array
  right_subscripts extent None size name (MoreArguments first others) before right judged fails then_is =
      absurd (omega (arith, eqb-true _ _ right))
  right_subscripts AnElement (Some count) size name NoArguments before right judged fails then_is = absurd cc
  right_subscripts AlsoTheWhole (Some count) size name NoArguments before right judged fails then_is =
      then_is NoSubscript before whole_array
  right_subscripts extent (Some count) size name (MoreArguments index NoArguments) before right
      judged fails then_is =
      then_judged (judged before) (λ fault is. fails fault (in_subscript (only_fault is)))
      (λ typed is. one_subscript extent count size is then_is)
  right_subscripts AnElement (Some count) size name (MoreArguments first (MoreArguments second others))
      before right judged fails
      then_is =
      absurd (omega (arith, eqb-true _ _ right))
  right_subscripts AlsoTheWhole (Some count) size name (MoreArguments first (MoreArguments second others))
      before right judged fails
      then_is =
      absurd (omega (arith, leb-true _ _ right))

  then_subscripts : (extent : Extent) (dimension : Option ℕ) (size : ℕ) (name : Identifier)
      (trees : ArgumentTrees)
      (before : Constants)
      → ValuesJudged known trees
      → ((fault : Fault) → SubscriptFault known extent dimension name before trees fault → Q fault)
      → ((subscript : Subscript) (after : Constants)
      → SubscriptTyping known extent dimension size before trees subscript after
      → Judged P Q (next subscript after))
      → Judged P Q
      (require (takes_subscripts extent dimension (number_of_arguments trees))
      SubscriptMismatch name.place
      >>= λ _. arguments known trees before >>= λ typed. next (subscript_of size dimension typed.0) typed.1)
  then_subscripts extent dimension size name trees before judged fails then_is =
      then_when (takes_subscripts extent dimension (number_of_arguments trees)) SubscriptMismatch name.place
      (λ wrong. fails _ (wrong_number (is_wrong extent dimension (number_of_arguments trees) wrong)))
      (λ _ right. right_subscripts extent dimension size name trees before right judged fails then_is)

-- members
is_scalar : (object_type : ObjectType) → members_of object_type ≡ None
    → (scalar : _) × (object_type ≡ ScalarObject scalar)
is_scalar (ScalarObject scalar) none = (scalar, refl)
is_scalar (StructureObject members) none = absurd cc

is_structure : (object_type : ObjectType) (members : List TypedMember)
    → members_of object_type ≡ Some members
    → object_type ≡ StructureObject members
is_structure (ScalarObject scalar) members are = absurd cc
is_structure (StructureObject found) members are = let same : found ≡ members = cc in ap StructureObject same

module _ {B : Type 0} {P : B → Type 0} {Q : Fault → Type 0} (object : TypedObject) (name : Identifier) where
  then_member : {next : FoundMember → Checked B}
      → ((fault : Fault) → MemberFault object name fault → Q fault)
      → ((place : FoundMember) → IsMember object name place → Judged P Q (next place))
      → Judged P Q (found (members_of object.object_type) MemberMismatch name.place
      >>= λ members. found (member_named members name.name) UnknownName name.place >>= next)
  then_member fails then_is =
      then_found (members_of object.object_type) MemberMismatch name.place
      (λ none. fails _ (no_structure (is_scalar object.object_type none).1))
      (λ members are. then_found (member_named members name.name) UnknownName name.place
      (λ none. fails _ (no_such_member (is_structure object.object_type members are) none))
      (λ place there. then_is place (record {
        members = members;
        structure = is_structure object.object_type members are;
        there = there;
      })))

-- parts of an object
abbrev PartJudged : Known → ℕ → TypedObject → Extent → Identifier → ArgumentTrees → MemberTree → Constants
    → Checked (FoundPart × Constants) → Type 0
PartJudged known number object extent name trees part before checked =
    Judged (λ found. PartTyping known extent number object before trees part found.0.reference
    found.0.scalar found.1)
    (PartFault known extent object name before trees part)
    checked

member_judged : (known : Known) (number : ℕ) (object : TypedObject) (extent : Extent) (name : Identifier)
    (trees : ArgumentTrees)
    (part : MemberTree) (before middle : Constants) (subscript : Subscript)
    → SubscriptTyping known extent object.dimension (size_of_element object.object_type) before
    trees subscript middle
    → MemberJudged known part
    → PartJudged known number object extent name trees part before
    (part_with_member number object.object_type subscript extent (given_member known part) middle)
member_judged known number object extent name trees NoMember before middle element_of typing judged =
    judged_ok (has_no_member typing)
member_judged known number object extent name trees (MemberOf member its) before middle
    element_of typing judged =
    then_member object member (λ fault is. no_member typing is) (λ place there.
    then_subscripts known
    (λ its_subscript after. Ok (
      record {
        reference = PartOf number element_of (Some place.position) place.offset its_subscript;
        scalar = Some place.member.scalar;
      },
      after,
    ))
    extent place.member.dimension (size_of_scalar place.member.scalar) member its middle judged
    (λ fault is. in_member_subscripts typing there is)
    (λ its_subscript after its_typing. judged_ok (has_member typing there its_typing)))

part_judged : (known : Known) (number : ℕ) (object : TypedObject) (extent : Extent) (name : Identifier)
    (trees : ArgumentTrees)
    (part : MemberTree) (before : Constants)
    → ValuesJudged known trees
    → MemberJudged known part
    → PartJudged known number object extent name trees part before
    (part_of number object extent (given_name known name trees part) before)
part_judged known number object extent name trees part before judged its_judged =
    then_subscripts known
    (λ subscript after. part_with_member number object.object_type subscript extent
    (given_member known part) after)
    extent object.dimension (size_of_element object.object_type) name trees before judged
    (λ fault is. in_subscripts is)
    (λ subscript middle typing.
    member_judged known number object extent name trees part before middle subscript typing its_judged)

-- a scalar, with what is said of a structure in its place
scalar_judged : {Q : Fault → Type 0} (known : Known) (number : ℕ) (object : TypedObject) (name : Identifier)
    (trees : ArgumentTrees)
    (part : MemberTree) (before : Constants)
    → ValuesJudged known trees
    → MemberJudged known part
    → ((fault : Fault) → PartFault known AnElement object name before trees part fault → Q fault)
    → ((reference : TypedReference) (after : Constants)
    → PartTyping known AnElement number object before trees part reference None after
    → Q (at_name MemberMismatch name))
    → Judged
    (λ found. PartTyping known AnElement number object before trees part found.0 (Some found.1) found.2) Q
    (scalar_part number object (given_name known name trees part) before)
scalar_judged known number object name trees part before judged its_judged fails none_fails =
    then_judged (part_judged known number object AnElement name trees part before judged its_judged)
    fails (λ found typing.
    then_found found.0.scalar MemberMismatch name.place
    (λ none. none_fails found.0.reference found.1
    (subst (λ scalar. PartTyping known AnElement number object before trees part found.0.reference scalar
    found.1) none typing))
    (λ scalar some. judged_ok
    (subst (λ it. PartTyping known AnElement number object before trees part found.0.reference it found.1)
    some typing)))

-- names
pub is_no_variable : {known : Known} {name : Identifier} (binding : Binding)
    → StandsFor known name binding
    → ((number : ℕ) (object : TypedObject) → binding ≡ Declared (Object number)
    → slice_get known.objects number ≡ Some object → ⊥)
    → IsNoVariable known name
is_no_variable binding named none = record {
  binding = binding;
  named = named;
  no_variable = λ number object is.
      let here = is.named in
      let same : binding ≡ Declared (Object number) = cc in
      none number object same is.listed;
}

has_no_value : {known : Known} {name : Identifier} (binding : Binding)
    → StandsFor known name binding
    → ((number : ℕ) (object : TypedObject) → binding ≡ Declared (Object number)
    → slice_get known.objects number ≡ Some object → ⊥)
    → ((number : ℕ) → ¬ (binding ≡ Declared (Procedure number)))
    → ((built_in : BuiltIn) → ¬ (binding ≡ BuiltInName built_in))
    → HasNoValue known name
has_no_value binding named none neither nor = record {
  is_no_variable = is_no_variable binding named none;
  no_procedure = λ number is. let same : binding ≡ Declared (Procedure number) = cc in neither number same;
  no_built_in = λ built_in is. let same : binding ≡ BuiltInName built_in = cc in nor built_in same;
}

-- ports
character_judged : (name : Identifier) (string : StringTree) (characters : List ℕ)
    → string.characters ≡ characters
    → Judged (IsPort (MoreArguments (ConstantLeaf (StringConstant string)) NoArguments))
    (PortFault name (MoreArguments (ConstantLeaf (StringConstant string)) NoArguments))
    (port_of_character name.place characters)
character_judged name string [] is = judged_fault (no_character (λ character e. absurd cc))
character_judged name string (character ∷ []) is =
    then_when (nat_le character 255) PortTooLarge name.place
    (λ over. character_too_great is (leb-false _ _ over))
    (λ _ fits. judged_ok (port_character is (leb-true _ _ fits)))
character_judged name string (character ∷ second ∷ others) is =
    judged_fault (no_character (λ it e. absurd cc))

port_judged : (name : Identifier) (trees : ArgumentTrees)
    → Judged (IsPort trees) (PortFault name trees) (port_of name.place trees)
port_judged name (MoreArguments (ConstantLeaf (NumberConstant number)) NoArguments) =
    then_when (nat_le number.value 255) PortTooLarge number.place
    (λ over. number_too_great (leb-false _ _ over))
    (λ _ fits. judged_ok (port_number (leb-true _ _ fits)))
port_judged name (MoreArguments (ConstantLeaf (StringConstant string)) NoArguments) =
    character_judged name string string.characters refl
port_judged name trees = judged_fault (no_constant (λ leaf e. absurd cc))

-- LENGTH, LAST and SIZE
measured_member_judged : (known : Known) (name : Identifier) (measure : Measure)
    (variable : Identifier) (number : ℕ)
    (object : TypedObject) (part : MemberTree)
    → IsVariable known variable number object
    → Judged (IsMeasured known variable part)
    (MeasureFault known name measure (MoreArguments
    (ReferenceLeaf (ReferenceTo variable NoArguments part)) NoArguments))
    (measured_member number object part)
measured_member_judged known name measure variable number object NoMember is = judged_ok (a_variable is)
measured_member_judged known name measure variable number object (MemberOf member NoArguments) is =
    then_member object member (λ fault none. in_member is none) (λ place there. judged_ok (a_member is there))
measured_member_judged known name measure variable number object
    (MemberOf member (MoreArguments first others)) is =
    judged_fault (subscripted is)

measured_judged : (known : Known) (name : Identifier) (measure : Measure) (variable : Identifier)
    (part : MemberTree) (binding : Binding)
    → StandsFor known variable binding
    → Judged (IsMeasured known variable part)
    (MeasureFault known name measure (MoreArguments
    (ReferenceLeaf (ReferenceTo variable NoArguments part)) NoArguments))
    (measured_object known binding variable part)
measured_judged known name measure variable part (Declared (Object number)) named =
    then_found (slice_get known.objects number) NoVariable variable.place
    (λ none. no_variable (is_no_variable (Declared (Object number)) named
    (λ other object e listed. absurd cc)))
    (λ object listed.
    measured_member_judged known name measure variable number object part
    (record { named = named; listed = listed }))
measured_judged known name measure variable part (Declared (Procedure number)) named =
    judged_fault (no_variable (is_no_variable _ named (λ other object e listed. absurd cc)))
measured_judged known name measure variable part (Declared (Label number)) named =
    judged_fault (no_variable (is_no_variable _ named (λ other object e listed. absurd cc)))
measured_judged known name measure variable part (Declared Definition) named =
    judged_fault (no_variable (is_no_variable _ named (λ other object e listed. absurd cc)))
measured_judged known name measure variable part (BuiltInName built_in) named =
    judged_fault (no_variable (is_no_variable _ named (λ other object e listed. absurd cc)))
measured_judged known name measure variable part UnknownLabel named =
    judged_fault (no_variable (is_no_variable _ named (λ other object e listed. absurd cc)))

measure_judged : (known : Known) (name : Identifier) (measure : Measure) (variable : Identifier)
    (part : MemberTree) (measured : Measured)
    → IsMeasured known variable part measured
    → Judged (IsMeasure measured measure)
    (MeasureFault known name measure (MoreArguments
    (ReferenceLeaf (ReferenceTo variable NoArguments part)) NoArguments))
    (measure_of measure measured variable.place)
measure_judged known name measures.Length variable part measured is =
    is_found measured.dimension NotMeasurable variable.place
    (λ none. no_dimension is none (λ e. absurd cc)) (λ count some. a_length some)
measure_judged known name measures.Last variable part measured is =
    then_found measured.dimension NotMeasurable variable.place
    (λ none. no_dimension is none (λ e. absurd cc)) (λ count some. judged_ok (a_last some))
measure_judged known name measures.Size variable part measured is = judged_ok a_size

measurement_judged : (known : Known) (name : Identifier) (measure : Measure) (trees : ArgumentTrees)
    (before : Constants)
    → IsBuiltIn known name (named_measure measure)
    → Judged
    (λ node. ExpressionTyping known before (ReferenceLeaf (ReferenceTo name trees NoMember)) node before)
    (MeasureFault known name measure trees)
    (measurement known measure name.place trees)
measurement_judged known name measure
    (MoreArguments (ReferenceLeaf (ReferenceTo variable NoArguments part)) NoArguments) before named =
    then_found (binding_of known.here variable.name) UnknownName variable.place
    unknown_variable (λ binding stands.
    then_judged (measured_judged known name measure variable part binding stands)
    (λ fault is. is) (λ measured is.
    then_judged (measure_judged known name measure variable part measured is)
    (λ fault none. none) (λ number counts.
    judged_ok (measure_call named is counts))))
measurement_judged known name measure trees before named =
    judged_fault (no_reference (λ variable part e. absurd cc))

-- the value of a procedure or of a built-in function
abbrev ValueJudged : Known → Identifier → ArgumentTrees → MemberTree → Constants
    → Checked (TypedExpression × Constants) → Type 0
ValueJudged known name trees part before checked =
    Judged (λ found. ExpressionTyping known before
    (ReferenceLeaf (ReferenceTo name trees part)) found.0 found.1)
    (ValueFault known before (ReferenceTo name trees part))
    checked

result_judged : (known : Known) (name : Identifier) (trees : ArgumentTrees) (part : MemberTree)
    (before after : Constants)
    (typed : TypedExpression)
    → IsNoVariable known name
    → ExpressionTyping known before (ReferenceLeaf (ReferenceTo name trees NoMember)) typed after
    → ValueJudged known name trees part before
    (without_member (given_member known part) >>= λ _. Ok (typed, after))
result_judged known name trees NoMember before after typed none is = judged_ok is
result_judged known name trees (MemberOf member its) before after typed none is =
    judged_fault (member_of_result none is)

call_judged : (known : Known) (number : ℕ) (procedure : TypedProcedure) (name : Identifier)
    (trees : ArgumentTrees)
    (part : MemberTree) (before : Constants)
    → IsProcedure known name number procedure
    → ValuesJudged known trees
    → ValueJudged known name trees part before
    (call_of number procedure (given_name known name trees part) before)
call_judged known number procedure name trees part before is judged =
    then_found procedure.result ValueOfUntyped name.place (untyped is) (λ result typed.
    then_judged
    (then_when (number_of_arguments trees == length procedure.parameter_types) ArgumentCount name.place
    (λ wrong. wrong_count is typed (eqb-false _ _ wrong))
    (λ _ right. then_judged (judged before)
    (λ fault its. in_argument is typed (eqb-true _ _ right) its) (λ values its.
    judged_ok (typed_call is typed (eqb-true _ _ right) its))))
    (λ fault its. its)
    (λ values its. result_judged known name trees part before values.1 (CallNode number result values.0)
    (is_no_variable _ is.named (λ other object e listed. absurd cc)) its))

-- the built-in functions of one value
one_value : (known : Known) (function : UnaryFunction) (name : Identifier) (part : MemberTree)
    (before : Constants)
    {operand : ExpressionTree} {typed : TypedArguments} {after : Constants}
    → IsBuiltIn known name (built_ins.Unary function)
    → ValuesTyping known before (MoreArguments operand NoArguments) typed after
    → ValueJudged known name (MoreArguments operand NoArguments) part before
    (without_member (given_member known part) >>= λ _. function_of function name.place typed
    >>= λ node. Ok (node, after))
one_value known function name part before named (next_value one no_values) =
    result_judged known name _ part before _ _ (is_no_variable _ named (λ other object e listed. absurd cc))
    (function_call named one)

unary_judged : (known : Known) (function : UnaryFunction) (name : Identifier)
    (trees : ArgumentTrees) (part : MemberTree)
    (before : Constants)
    → IsBuiltIn known name (built_ins.Unary function)
    → ValuesJudged known trees
    → ValueJudged known name trees part before
    (unary_function function (given_name known name trees part) before)
unary_judged known function name NoArguments part before named judged =
    judged_fault (wrong_count_of_values named (takes_one function) (λ e. absurd (omega (arith, e))))
unary_judged known function name (MoreArguments operand NoArguments) part before named judged =
    then_judged (judged before) (λ fault is. in_values named (takes_one function) refl is) (λ typed is.
    one_value known function name part before named is)
unary_judged known function name (MoreArguments first (MoreArguments second others)) part
    before named judged =
    then_when (number_of_arguments (MoreArguments first (MoreArguments second others)) == 1)
    ArgumentCount name.place
    (λ wrong. wrong_count_of_values named (takes_one function) (λ e. absurd (omega (arith, e))))
    (λ _ right. absurd (omega (arith, eqb-true _ _ right)))

-- SHL, SHR, ROL and ROR
two_values : (known : Known) (function : ShiftFunction) (name : Identifier) (part : MemberTree)
    (before : Constants)
    {value count : ExpressionTree} {typed : TypedArguments} {after : Constants}
    → IsBuiltIn known name (named_shift function)
    → ValuesTyping known before (MoreArguments value (MoreArguments count NoArguments)) typed after
    → ValueJudged known name (MoreArguments value (MoreArguments count NoArguments)) part before
    (without_member (given_member known part) >>= λ _. shift_of function name.place typed
    >>= λ node. Ok (node, after))
two_values known function name part before named (next_value one (next_value other no_values)) =
    result_judged known name _ part before _ _ (is_no_variable _ named (λ it object e listed. absurd cc))
    (shift_call named one other)

shift_judged : (known : Known) (function : ShiftFunction) (name : Identifier)
    (trees : ArgumentTrees) (part : MemberTree)
    (before : Constants)
    → IsBuiltIn known name (named_shift function)
    → ValuesJudged known trees
    → ValueJudged known name trees part before
    (shift_function function (given_name known name trees part) before)
shift_judged known function name NoArguments part before named judged =
    judged_fault (wrong_count_of_values named (takes_two function) (λ e. absurd (omega (arith, e))))
shift_judged known function name (MoreArguments value NoArguments) part before named judged =
    judged_fault (wrong_count_of_values named (takes_two function) (λ e. absurd (omega (arith, e))))
shift_judged known function name (MoreArguments value (MoreArguments count NoArguments)) part
    before named judged =
    then_judged (judged before) (λ fault is. in_values named (takes_two function) refl is) (λ typed is.
    two_values known function name part before named is)
shift_judged known function name (MoreArguments first (MoreArguments second (MoreArguments third others)))
    part before named judged =
    then_when
    (number_of_arguments (MoreArguments first (MoreArguments second (MoreArguments third others))) == 2)
    ArgumentCount
    name.place
    (λ wrong. wrong_count_of_values named (takes_two function) (λ e. absurd (omega (arith, e))))
    (λ _ right. absurd (omega (arith, eqb-true _ _ right)))

input_judged : (known : Known) (name : Identifier) (trees : ArgumentTrees) (part : MemberTree)
    (before : Constants)
    → IsBuiltIn known name built_ins.Input
    → ValueJudged known name trees part before (input_value (given_name known name trees part) before)
input_judged known name trees part before named =
    then_judged (port_judged name trees) (λ fault is. in_port named is) (λ port is.
    result_judged known name trees part before before (InputNode port)
    (is_no_variable _ named (λ it object e listed. absurd cc)) (input named is))

number_judged : (known : Known) (measure : Measure) (name : Identifier) (trees : ArgumentTrees)
    (part : MemberTree) (before : Constants)
    → IsBuiltIn known name (named_measure measure)
    → ValueJudged known name trees part before
    (number_of_variable known measure (given_name known name trees part) before)
number_judged known measure name trees part before named =
    then_judged (measurement_judged known name measure trees before named)
    (λ fault is. in_measure named is) (λ node is.
    result_judged known name trees part before before node
    (is_no_variable _ named (λ it object e listed. absurd cc)) is)

built_in_judged : (known : Known) (built_in : BuiltIn) (name : Identifier) (trees : ArgumentTrees)
    (part : MemberTree) (before : Constants)
    → IsBuiltIn known name built_in
    → ValuesJudged known trees
    → ValueJudged known name trees part before
    (built_in_value known built_in (given_name known name trees part) before)
built_in_judged known built_ins.Input name trees part before named judged =
    input_judged known name trees part before named
built_in_judged known built_ins.Output name trees part before named judged =
    judged_fault (value_of_output named)
built_in_judged known (built_ins.Unary function) name trees part before named judged =
    unary_judged known function name trees part before named judged
built_in_judged known built_ins.Length name trees part before named judged =
    number_judged known measures.Length name trees part before named
built_in_judged known built_ins.Last name trees part before named judged =
    number_judged known measures.Last name trees part before named
built_in_judged known built_ins.Size name trees part before named judged =
    number_judged known measures.Size name trees part before named
built_in_judged known built_ins.ShiftLeft name trees part before named judged =
    shift_judged known shifts.ShiftLeft name trees part before named judged
built_in_judged known built_ins.ShiftRight name trees part before named judged =
    shift_judged known shifts.ShiftRight name trees part before named judged
built_in_judged known built_ins.RotateLeft name trees part before named judged =
    shift_judged known shifts.RotateLeft name trees part before named judged
built_in_judged known built_ins.RotateRight name trees part before named judged =
    shift_judged known shifts.RotateRight name trees part before named judged
built_in_judged known built_ins.Move name trees part before named judged = judged_fault (value_of_move named)

-- references as values
bound_value_judged : (known : Known) (binding : Binding) (name : Identifier)
    (trees : ArgumentTrees) (part : MemberTree)
    (before : Constants)
    → StandsFor known name binding
    → ValuesJudged known trees
    → MemberJudged known part
    → ValueJudged known name trees part before
    (value_of_bound known binding (given_name known name trees part) before)
bound_value_judged known (Declared (Object number)) name trees part before named judged its_judged =
    then_found (slice_get known.objects number) NoVariable name.place
    (λ none. no_value (has_no_value _ named (λ other object e listed. absurd cc) (λ other e. absurd cc)
    (λ built_in e. absurd cc)))
    (λ object listed.
    let is : IsVariable known name number object = record { named = named; listed = listed } in
    then_judged (scalar_judged known number object name trees part before judged its_judged
    (λ fault its. in_part is its) (λ reference after typing. no_scalar is typing))
    (λ fault its. its) (λ found typing.
    judged_ok (scalar_value is typing)))
bound_value_judged known (Declared (Procedure number)) name trees part before named judged its_judged =
    then_found (slice_get known.procedures number) CallOfNoProcedure name.place
    (λ none. no_procedure named (λ procedure is. let there = is.listed in absurd cc))
    (λ procedure listed.
    call_judged known number procedure name trees part before
    (record { named = named; listed = listed }) judged)
bound_value_judged known (Declared (Label number)) name trees part before named judged its_judged =
    judged_fault (no_value (has_no_value _ named (λ other object e listed. absurd cc) (λ other e. absurd cc)
    (λ built_in e. absurd cc)))
bound_value_judged known (Declared Definition) name trees part before named judged its_judged =
    judged_fault (no_value (has_no_value _ named (λ other object e listed. absurd cc) (λ other e. absurd cc)
    (λ built_in e. absurd cc)))
bound_value_judged known (BuiltInName built_in) name trees part before named judged its_judged =
    built_in_judged known built_in name trees part before named judged
bound_value_judged known UnknownLabel name trees part before named judged its_judged =
    judged_fault (no_value (has_no_value _ named (λ other object e listed. absurd cc) (λ other e. absurd cc)
    (λ built_in e. absurd cc)))

pub value_judged : (known : Known) (name : Identifier) (trees : ArgumentTrees) (part : MemberTree)
    (before : Constants)
    → ValuesJudged known trees
    → MemberJudged known part
    → ValueJudged known name trees part before (value_of known (given_name known name trees part) before)
value_judged known name trees part before judged its_judged =
    then_found (binding_of known.here name.name) UnknownName name.place unknown_value (λ binding named.
    bound_value_judged known binding name trees part before named judged its_judged)

-- locations
abbrev LocationJudged : Known → Identifier → ArgumentTrees → MemberTree → Constants
    → Checked (TypedExpression × Constants) → Type 0
LocationJudged known name trees part before checked =
    Judged (λ found. ExpressionTyping known before
    (LocationLeaf (ReferenceTo name trees part)) found.0 found.1)
    (LocationFault known before (ReferenceTo name trees part))
    checked

bound_location_judged : (known : Known) (binding : Binding) (name : Identifier)
    (trees : ArgumentTrees) (part : MemberTree)
    (before : Constants)
    → StandsFor known name binding
    → ValuesJudged known trees
    → MemberJudged known part
    → LocationJudged known name trees part before
    (location_of_bound known binding (given_name known name trees part) before)
bound_location_judged known (Declared (Object number)) name trees part before named judged its_judged =
    then_found (slice_get known.objects number) NoVariable name.place
    (λ none. location_of_no_variable (is_no_variable _ named (λ other object e listed. absurd cc))
    (λ other e. absurd cc))
    (λ object listed.
    let is : IsVariable known name number object = record { named = named; listed = listed } in
    then_when (has_location object.home) NoLocation name.place (location_in_frame is) (λ _ has.
    then_judged (part_judged known number object AlsoTheWhole name trees part before judged its_judged)
    (λ fault its. in_located_part is has its) (λ found typing.
    judged_ok (location is has typing))))
bound_location_judged known (Declared (Procedure number)) name trees part before named judged its_judged =
    judged_fault (location_of_procedure named)
bound_location_judged known (Declared (Label number)) name trees part before named judged its_judged =
    judged_fault
    (location_of_no_variable (is_no_variable _ named (λ other object e listed. absurd cc))
    (λ other e. absurd cc))
bound_location_judged known (Declared Definition) name trees part before named judged its_judged =
    judged_fault
    (location_of_no_variable (is_no_variable _ named (λ other object e listed. absurd cc))
    (λ other e. absurd cc))
bound_location_judged known (BuiltInName built_in) name trees part before named judged its_judged =
    judged_fault
    (location_of_no_variable (is_no_variable _ named (λ other object e listed. absurd cc))
    (λ other e. absurd cc))
bound_location_judged known UnknownLabel name trees part before named judged its_judged =
    judged_fault
    (location_of_no_variable (is_no_variable _ named (λ other object e listed. absurd cc))
    (λ other e. absurd cc))

pub location_judged : (known : Known) (name : Identifier) (trees : ArgumentTrees) (part : MemberTree)
    (before : Constants)
    → ValuesJudged known trees
    → MemberJudged known part
    → LocationJudged known name trees part before
    (location_of known (given_name known name trees part) before)
location_judged known name trees part before judged its_judged =
    then_found (binding_of known.here name.name) UnknownName name.place unknown_location (λ binding named.
    bound_location_judged known binding name trees part before named judged its_judged)

-- targets
abbrev pub TargetJudged : Known → Identifier → ArgumentTrees → MemberTree → Constants
    → Checked (Destination × Constants) → Type 0
TargetJudged known name trees part before checked =
    Judged (λ found. TargetTyping known before (ReferenceTo name trees part) found.0 found.1)
    (TargetFault known before (ReferenceTo name trees part))
    checked

output_judged : (known : Known) (name : Identifier) (trees : ArgumentTrees) (part : MemberTree)
    (before : Constants) (port : ℕ)
    → IsBuiltIn known name built_ins.Output
    → IsPort trees port
    → TargetJudged known name trees part before
    (without_member (given_member known part) >>= λ _. Ok (Port port, before))
output_judged known name trees NoMember before port named is = judged_ok (output named is)
output_judged known name trees (MemberOf member its) before port named is =
    judged_fault (member_of_output named is)

built_in_target_judged : (known : Known) (built_in : BuiltIn) (name : Identifier)
    (trees : ArgumentTrees) (part : MemberTree)
    (before : Constants)
    → IsBuiltIn known name built_in
    → TargetJudged known name trees part before
    (destination_of_bound known (BuiltInName built_in) (given_name known name trees part) before)
built_in_target_judged known built_ins.Output name trees part before named =
    then_judged (port_judged name trees) (λ fault is. in_output named is) (λ port is.
    output_judged known name trees part before port named is)
built_in_target_judged known built_in name trees part before named =
    judged_fault (no_target (is_no_variable _ named (λ other object e listed. absurd cc)) (λ is. absurd cc))

bound_target_judged : (known : Known) (binding : Binding) (name : Identifier)
    (trees : ArgumentTrees) (part : MemberTree)
    (before : Constants)
    → StandsFor known name binding
    → ValuesJudged known trees
    → MemberJudged known part
    → TargetJudged known name trees part before
    (destination_of_bound known binding (given_name known name trees part) before)
bound_target_judged known (Declared (Object number)) name trees part before named judged its_judged =
    then_found (slice_get known.objects number) NoVariable name.place
    (λ none. no_target (is_no_variable _ named (λ other object e listed. absurd cc)) (λ is. absurd cc))
    (λ object listed.
    let is : IsVariable known name number object = record { named = named; listed = listed } in
    then_when (not (is_constant object.home)) ConstantWritten name.place
    (λ has_data. target_with_data is (not-false _ has_data))
    (λ _ plain.
    then_judged (scalar_judged known number object name trees part before judged its_judged
    (λ fault its. in_target_part is (not-true _ plain) its)
    (λ reference after typing. no_scalar_target is (not-true _ plain) typing))
    (λ fault its. its) (λ found typing.
    judged_ok (scalar_target is (not-true _ plain) typing))))
bound_target_judged known (Declared (Procedure number)) name trees part before named judged its_judged =
    judged_fault (no_target (is_no_variable _ named (λ other object e listed. absurd cc)) (λ is. absurd cc))
bound_target_judged known (Declared (Label number)) name trees part before named judged its_judged =
    judged_fault (no_target (is_no_variable _ named (λ other object e listed. absurd cc)) (λ is. absurd cc))
bound_target_judged known (Declared Definition) name trees part before named judged its_judged =
    judged_fault (no_target (is_no_variable _ named (λ other object e listed. absurd cc)) (λ is. absurd cc))
bound_target_judged known (BuiltInName built_in) name trees part before named judged its_judged =
    built_in_target_judged known built_in name trees part before named
bound_target_judged known UnknownLabel name trees part before named judged its_judged =
    judged_fault (no_target (is_no_variable _ named (λ other object e listed. absurd cc)) (λ is. absurd cc))

pub target_judged : (known : Known) (name : Identifier) (trees : ArgumentTrees) (part : MemberTree)
    (before : Constants)
    → ValuesJudged known trees
    → MemberJudged known part
    → TargetJudged known name trees part before
    (destination_of known (given_name known name trees part) before)
target_judged known name trees part before judged its_judged =
    then_found (binding_of known.here name.name) UnknownName name.place unknown_target (λ binding named.
    bound_target_judged known binding name trees part before named judged its_judged)
