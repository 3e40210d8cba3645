-- A fault of an expression by the rules is the one that the typing gives. So there is at most one, and none
-- where the expression has a typing.
use Rattle.typing_rules.proofs.Prelude.{◌≡◌, ◌∙◌, ℕ, true, false, List, [], ◌∷◌, Option, Some, None, Err, not, refl, sym, ap, subst, arith, slice_get, lt-leb, eq-eqb, ne_eqb, Identifier, Place, ConstantTree, NumberConstant, StringConstant, StringTree, ExpressionTree, ConstantLeaf, ReferenceLeaf, ReferenceTree, ReferenceTo, MemberTree, NoMember, MemberOf, ArgumentTrees, NoArguments, MoreArguments, Binding, Declared, BuiltInName, UnknownLabel, BuiltIn, Object, Procedure, Label, Definition, FoundMember, Measure, TypedExpression, member_named, TypedObject, TypedArguments, Constants, ArgumentCount, SubscriptMismatch, MemberMismatch, NotMeasurable, NoVariable, PortNotConstant, PortTooLarge, UnknownName, Fault, Checked, ◌>>=◌, require, found, inl, inr, ◌⊎◌, number_of_characters, expression, given_reference, arguments, Measured, measured_object, measure_of, measurement, value_of_bound, value_of, location_of_bound, location_of, destination_of_bound, destination_of, Known, Extent, AnElement, AlsoTheWhole, number_of_arguments, takes_subscripts, members_of, part_of, port_of, port_of_character, IsNoVariable, at_name, ExpressionTyping, scalar_value, typed_call, input, function_call, shift_call, measure_call, IsNoNumber, PortFault, number_too_great, character_too_great, no_character, no_constant, MemberFault, no_structure, no_such_member, MeasureFault, no_reference, unknown_variable, no_variable, subscripted, in_member, no_dimension, IsWrongNumber, of_no_array, more_than_one, no_element, TakesValues, takes_one, takes_two, ExpressionFault, no_number, in_value, in_location, in_parentheses, in_target, in_assigned_value, in_operand, in_left, in_right, ValuesFault, in_first, in_others, ValueFault, unknown_value, no_value, in_part, no_scalar, no_procedure, untyped, value_of_output, value_of_move, wrong_count, in_argument, wrong_count_of_values, in_values, in_port, in_measure, member_of_result, LocationFault, unknown_location, location_of_procedure, location_in_frame, location_of_no_variable, in_located_part, TargetFault, unknown_target, no_target, target_with_data, in_target_part, no_scalar_target, in_output, member_of_output, SubscriptFault, wrong_number, in_subscript, PartFault, in_subscripts, no_member, in_member_subscripts}
use Rattle.names.specs.declared.entity.BuiltIn.TheVariants as built_ins
use Rattle.typed_trees.specs.declared.parts.Measure.TheVariants as measures
use Rattle.typing_rules.proofs.Judged.{fault_of, then_ok, then_fault, passed, failed, got, got_none}
use Rattle.typing_rules.proofs.ReferencesJudged.{given_name}
use Rattle.typing_rules.proofs.ExpressionsTyped.{port_is, shift_is, measure_function_is, then_member_ok, measured_is, measure_is, one_fits, typing_is, values_is, subscript_is, part_is, target_is}
use Rattle.typing.specs.Blocks.{Progress}
use Rattle.typing.specs.internal.StatementChecks.{value}

pub is_nothing : {A : Type 0} (option : Option A) → ((a : A) → ¬ (option ≡ Some a)) → option ≡ None
is_nothing None none = refl
is_nothing (Some a) none = absurd (none a refl)

-- constants and ports
pub no_number_is : (string : StringTree) (characters : List ℕ)
    → IsNoNumber string
    → string.characters ≡ characters
    → number_of_characters characters ≡ None
no_number_is string [] none is = refl
no_number_is string (character ∷ []) none is = absurd (none.not_one character is)
no_number_is string (high ∷ low ∷ []) none is = absurd (none.not_two high low is)
no_number_is string (first ∷ second ∷ third ∷ others) none is = refl

no_character_is : (string : StringTree) (place : Place) (characters : List ℕ)
    → ((character : ℕ) → ¬ (string.characters ≡ character ∷ []))
    → string.characters ≡ characters
    → port_of_character place characters ≡ Err (fault_of PortNotConstant place)
no_character_is string place [] none is = refl
no_character_is string place (character ∷ []) none is = absurd (none character is)
no_character_is string place (first ∷ second ∷ others) none is = refl

no_constant_is : (place : Place) (trees : ArgumentTrees)
    → ((leaf : ConstantTree) → ¬ (trees ≡ MoreArguments (ConstantLeaf leaf) NoArguments))
    → port_of place trees ≡ Err (fault_of PortNotConstant place)
no_constant_is place (MoreArguments (ConstantLeaf (NumberConstant number)) NoArguments) none =
    absurd (none _ refl)
no_constant_is place (MoreArguments (ConstantLeaf (StringConstant string)) NoArguments) none =
    absurd (none _ refl)
no_constant_is place trees none = refl

port_fault_is : {name : Identifier} {trees : ArgumentTrees} {fault : Fault}
    → PortFault name trees fault
    → port_of name.place trees ≡ Err fault
port_fault_is (number_too_great over) = then_fault _ (failed _ _ (lt-leb _ _ over))
port_fault_is {name = name} (character_too_great is over) =
    subst (λ characters. port_of_character name.place characters ≡ Err (at_name PortTooLarge name)) (sym is)
    (then_fault _ (failed _ _ (lt-leb _ _ over)))
port_fault_is {name = name} (no_character {string = string} none) =
    no_character_is string name.place string.characters none refl
port_fault_is {name = name} (no_constant {trees = trees} none) = no_constant_is name.place trees none

-- members
member_fault_is : {B : Type 0} {object : TypedObject} {name : Identifier} {fault : Fault}
    (next : FoundMember → Checked B)
    → MemberFault object name fault
    → (found (members_of object.object_type) MemberMismatch name.place
    >>= λ members. found (member_named members name.name) UnknownName name.place >>= next) ≡ Err fault
member_fault_is next (no_structure is) = then_fault _ (got_none _ _ (ap members_of is))
member_fault_is next (no_such_member is none) =
    then_ok _ (got _ _ (ap members_of is)) (then_fault _ (got_none _ _ none))

-- names
abbrev pub NoObject : Known → Binding → Type 0
NoObject known binding =
    (number : ℕ) (object : TypedObject) → binding ≡ Declared (Object number)
    → ¬ (slice_get known.objects number ≡ Some object)

pub no_object : {known : Known} {name : Identifier} (is : IsNoVariable known name) → NoObject known is.binding
no_object is number object e listed =
    is.no_variable number object (record { named = is.named ∙ ap Some e; listed = listed })

-- LENGTH, LAST and SIZE
no_reference_is : (known : Known) (measure : Measure) (place : Place) (trees : ArgumentTrees)
    → ((variable : Identifier) (part : MemberTree)
    → ¬ (trees ≡ MoreArguments (ReferenceLeaf (ReferenceTo variable NoArguments part)) NoArguments))
    → measurement known measure place trees ≡ Err (fault_of NotMeasurable place)
no_reference_is known measure place
    (MoreArguments (ReferenceLeaf (ReferenceTo name NoArguments part)) NoArguments) none =
    absurd (none name part refl)
no_reference_is known measure place trees none = refl

not_measured : (known : Known) (name : Identifier) (part : MemberTree) (binding : Binding)
    → NoObject known binding
    → measured_object known binding name part ≡ Err (at_name NoVariable name)
not_measured known name part (Declared (Object number)) none =
    then_fault _
    (got_none _ _ (is_nothing (slice_get known.objects number) (λ object e. none number object refl e)))
not_measured known name part (Declared (Procedure number)) none = refl
not_measured known name part (Declared (Label number)) none = refl
not_measured known name part (Declared Definition) none = refl
not_measured known name part (BuiltInName built_in) none = refl
not_measured known name part UnknownLabel none = refl

no_dimension_is : (measure : Measure) (measured : Measured) (place : Place)
    → measured.dimension ≡ None
    → ¬ (measure ≡ measures.Size)
    → measure_of measure measured place ≡ Err (fault_of NotMeasurable place)
no_dimension_is measures.Length measured place none not_size = got_none _ _ none
no_dimension_is measures.Last measured place none not_size = then_fault _ (got_none _ _ none)
no_dimension_is measures.Size measured place none not_size = absurd (not_size refl)

measure_fault_is : {known : Known} {name : Identifier} {measure : Measure}
    {trees : ArgumentTrees} {fault : Fault}
    → MeasureFault known name measure trees fault
    → measurement known measure name.place trees ≡ Err fault
measure_fault_is {known = known} {name = name} {measure = measure} (no_reference {trees = trees} none) =
    no_reference_is known measure name.place trees none
measure_fault_is (unknown_variable none) = then_fault _ (got_none _ _ none)
measure_fault_is {known = known} (no_variable {variable = variable} {part = part} is) =
    then_ok _ (got _ _ is.named) (then_fault _ (not_measured known variable part is.binding (no_object is)))
measure_fault_is (subscripted is) =
    then_ok _ (got _ _ is.named) (then_fault _ (then_ok _ (got _ _ is.listed) refl))
measure_fault_is (in_member is none) =
    then_ok _ (got _ _ is.named) (then_fault _ (then_ok _ (got _ _ is.listed) (member_fault_is _ none)))
measure_fault_is {measure = measure} (no_dimension {measured = measured} is none not_size) =
    let m = measured_is is in
    then_ok _ (got _ _ m.1) (then_ok _ m.2 (then_fault _ (no_dimension_is measure measured _ none not_size)))

-- subscripts
wrong_number_is : {extent : Extent} {dimension : Option ℕ} {count : ℕ}
    → IsWrongNumber extent dimension count
    → takes_subscripts extent dimension count ≡ false
wrong_number_is (of_no_array more) = ne_eqb _ _ (λ e. omega (arith, more, e))
wrong_number_is {extent = AnElement} (more_than_one more) = ne_eqb _ _ (λ e. omega (arith, more, e))
wrong_number_is {extent = AlsoTheWhole} (more_than_one more) = lt-leb _ _ more
wrong_number_is no_element = refl

-- what has no value, no location, and is no target
no_value_is : (known : Known) (name : Identifier) (trees : ArgumentTrees) (part : MemberTree)
    (before : Constants) (binding : Binding)
    → NoObject known binding
    → ((number : ℕ) → ¬ (binding ≡ Declared (Procedure number)))
    → ((built_in : BuiltIn) → ¬ (binding ≡ BuiltInName built_in))
    → value_of_bound known binding (given_name known name trees part) before ≡ Err (at_name NoVariable name)
no_value_is known name trees part before (Declared (Object number)) none neither nor =
    then_fault _
    (got_none _ _ (is_nothing (slice_get known.objects number) (λ object e. none number object refl e)))
no_value_is known name trees part before (Declared (Procedure number)) none neither nor =
    absurd (neither number refl)
no_value_is known name trees part before (Declared (Label number)) none neither nor = refl
no_value_is known name trees part before (Declared Definition) none neither nor = refl
no_value_is known name trees part before (BuiltInName built_in) none neither nor = absurd (nor built_in refl)
no_value_is known name trees part before UnknownLabel none neither nor = refl

no_location_is : (known : Known) (name : Identifier) (trees : ArgumentTrees) (part : MemberTree)
    (before : Constants) (binding : Binding)
    → NoObject known binding
    → ((number : ℕ) → ¬ (binding ≡ Declared (Procedure number)))
    → location_of_bound known binding (given_name known name trees part) before
    ≡ Err (at_name NoVariable name)
no_location_is known name trees part before (Declared (Object number)) none neither =
    then_fault _
    (got_none _ _ (is_nothing (slice_get known.objects number) (λ object e. none number object refl e)))
no_location_is known name trees part before (Declared (Procedure number)) none neither =
    absurd (neither number refl)
no_location_is known name trees part before (Declared (Label number)) none neither = refl
no_location_is known name trees part before (Declared Definition) none neither = refl
no_location_is known name trees part before (BuiltInName built_in) none neither = refl
no_location_is known name trees part before UnknownLabel none neither = refl

built_in_target_is : (known : Known) (name : Identifier) (trees : ArgumentTrees) (part : MemberTree)
    (before : Constants)
    (built_in : BuiltIn)
    → ¬ (built_in ≡ built_ins.Output)
    → destination_of_bound known (BuiltInName built_in) (given_name known name trees part) before
    ≡ Err (at_name NoVariable name)
built_in_target_is known name trees part before built_ins.Output other = absurd (other refl)
built_in_target_is known name trees part before built_in other = refl

no_target_is : (known : Known) (name : Identifier) (trees : ArgumentTrees) (part : MemberTree)
    (before : Constants) (binding : Binding)
    → NoObject known binding
    → ¬ (binding ≡ BuiltInName built_ins.Output)
    → destination_of_bound known binding (given_name known name trees part) before
    ≡ Err (at_name NoVariable name)
no_target_is known name trees part before (Declared (Object number)) none other =
    then_fault _
    (got_none _ _ (is_nothing (slice_get known.objects number) (λ object e. none number object refl e)))
no_target_is known name trees part before (Declared (Procedure number)) none other = refl
no_target_is known name trees part before (Declared (Label number)) none other = refl
no_target_is known name trees part before (Declared Definition) none other = refl
no_target_is known name trees part before (BuiltInName built_in) none other =
    built_in_target_is known name trees part before built_in (λ e. other (ap BuiltInName e))
no_target_is known name trees part before UnknownLabel none other = refl

-- a member of a result
member_of_result_is : {known : Known} {before after : Constants} {name : Identifier} {trees : ArgumentTrees}
    {typed : TypedExpression}
    (member : Identifier) (its : ArgumentTrees)
    → IsNoVariable known name
    → ExpressionTyping known before (ReferenceLeaf (ReferenceTo name trees NoMember)) typed after
    → value_of known (given_name known name trees (MemberOf member its)) before
    ≡ Err (at_name MemberMismatch member)
member_of_result_is member its none (scalar_value {number = number} {object = object} is part) =
    absurd (none.no_variable number object is)
member_of_result_is member its none (typed_call is typed count values) =
    then_ok _ (got _ _ is.named) (then_ok _ (got _ _ is.listed) (then_ok _ (got _ _ typed)
    (then_ok _ (then_ok _ (passed _ _ (eq-eqb _ _ count)) (then_ok _ (values_is values) refl)) refl)))
member_of_result_is member its none (input named is) =
    then_ok _ (got _ _ named) (then_ok _ (port_is is _) refl)
member_of_result_is member its none (function_call named one) =
    then_ok _ (got _ _ named) (then_ok _ (then_ok _ (typing_is one) refl) refl)
member_of_result_is {known = known} member its none
    (shift_call {before = before} {name = name} {value = value} {count = count}
    {function = function} named one other) =
    then_ok _ (got _ _ named) (shift_is known
    (given_name known name (MoreArguments value (MoreArguments count NoArguments)) (MemberOf member its))
    before function
    (then_ok _ (then_ok _ (typing_is one) (then_ok _ (then_ok _ (typing_is other) refl) refl)) refl))
member_of_result_is {known = known} member its none
    (measure_call {constants = before} {name = name} {variable = variable} {part = part}
    {measure = measure} named measured counts) =
    let m = measured_is measured in
    then_ok _ (got _ _ named) (measure_function_is known
    (given_name known name (MoreArguments (ReferenceLeaf (ReferenceTo variable NoArguments part)) NoArguments)
    (MemberOf member its))
    before measure
    (then_ok _ (then_ok _ (got _ _ m.1) (then_ok _ m.2 (then_ok _ (measure_is counts _) refl))) refl))

-- built-in functions of values
wrong_values_are : {built_in : BuiltIn} {count : ℕ} (known : Known) (name : Identifier)
    (trees : ArgumentTrees) (part : MemberTree)
    (before : Constants)
    → TakesValues built_in count
    → ¬ (number_of_arguments trees ≡ count)
    → value_of_bound known (BuiltInName built_in) (given_name known name trees part) before
    ≡ Err (at_name ArgumentCount name)
wrong_values_are known name trees part before (takes_one function) wrong =
    then_fault _ (failed _ _ (ne_eqb _ _ wrong))
wrong_values_are known name trees part before (takes_two function) wrong =
    shift_is known (given_name known name trees part) before function
    (then_fault _ (failed _ _ (ne_eqb _ _ wrong)))

values_fault_is : {built_in : BuiltIn} {count : ℕ} (known : Known) (name : Identifier)
    (trees : ArgumentTrees) (part : MemberTree)
    (before : Constants) (fault : Fault)
    → TakesValues built_in count
    → number_of_arguments trees ≡ count
    → arguments known trees before ≡ Err fault
    → value_of_bound known (BuiltInName built_in) (given_name known name trees part) before ≡ Err fault
values_fault_is known name trees part before fault (takes_one function) count is =
    then_ok _ (passed _ _ (eq-eqb _ _ count)) (then_fault _ is)
values_fault_is known name trees part before fault (takes_two function) count is =
    shift_is known (given_name known name trees part) before function
    (then_ok _ (passed _ _ (eq-eqb _ _ count)) (then_fault _ is))

-- What a number of subscripts that is wrong, or a fault in one of them, comes to.
abbrev SubscriptsRefused : Known → Extent → Option ℕ → Identifier → Constants → ArgumentTrees → Fault → Type 0
SubscriptsRefused known extent dimension name before trees fault =
    (takes_subscripts extent dimension (number_of_arguments trees) ≡ false)
    × (at_name SubscriptMismatch name ≡ fault)
    ⊎ (takes_subscripts extent dimension (number_of_arguments trees) ≡ true)
    × (arguments known trees before ≡ Err fault)

subscripts_refused : {B : Type 0} {fault : Fault} (known : Known) (extent : Extent)
    (dimension : Option ℕ) (name : Identifier)
    (before : Constants) (trees : ArgumentTrees) (next : TypedArguments × Constants → Checked B)
    → SubscriptsRefused known extent dimension name before trees fault
    → (require (takes_subscripts extent dimension (number_of_arguments trees)) SubscriptMismatch name.place
    >>= λ _. arguments known trees before >>= next) ≡ Err fault
subscripts_refused known extent dimension name before trees next (inl is) =
    then_fault _ (failed _ _ is.0) ∙ ap Err is.1
subscripts_refused known extent dimension name before trees next (inr is) =
    then_ok _ (passed _ _ is.0) (then_fault next is.1)

mutual
  pub fault_is : {known : Known} {before : Constants} {tree : ExpressionTree} {fault : Fault}
      → ExpressionFault known before tree fault
      → expression known tree before ≡ Err fault
  fault_is (no_number {string = string} none) =
      then_fault _ (then_fault _ (got_none _ _ (no_number_is string string.characters none refl)))
  fault_is (in_value is) = value_fault_is is
  fault_is (in_location is) = location_fault_is is
  fault_is (in_parentheses is) = fault_is is
  fault_is (in_target is) = then_fault _ (target_fault_is is)
  fault_is (in_assigned_value target is) = then_ok _ (target_is target) (then_fault _ (fault_is is))
  fault_is (in_operand is) = then_fault _ (fault_is is)
  fault_is (in_left is) = then_fault _ (fault_is is)
  fault_is (in_right one is) = then_ok _ (typing_is one) (then_fault _ (fault_is is))

  pub values_fault : {known : Known} {before : Constants} {trees : ArgumentTrees} {fault : Fault}
      → ValuesFault known before trees fault
      → arguments known trees before ≡ Err fault
  values_fault (in_first is) = then_fault _ (fault_is is)
  values_fault (in_others one is) = then_ok _ (typing_is one) (then_fault _ (values_fault is))

  pub value_fault_is : {known : Known} {before : Constants} {reference : ReferenceTree} {fault : Fault}
      → ValueFault known before reference fault
      → value_of known (given_reference known reference) before ≡ Err fault
  value_fault_is (unknown_value none) = then_fault _ (got_none _ _ none)
  value_fault_is {known = known} (no_value {before = before} {name = name} {trees = trees} {part = part} is) =
      then_ok _ (got _ _ is.is_no_variable.named)
      (no_value_is known name trees part before is.is_no_variable.binding (no_object is.is_no_variable)
      (λ number e. is.no_procedure number (is.is_no_variable.named ∙ ap Some e))
      (λ built_in e. is.no_built_in built_in (is.is_no_variable.named ∙ ap Some e)))
  value_fault_is (in_part {number = number} is fault) =
      then_ok _ (got _ _ is.named)
      (then_ok _ (got _ _ is.listed) (then_fault _ (then_fault _ (part_fault_is fault number))))
  value_fault_is (no_scalar {name = name} is part) =
      then_ok _ (got _ _ is.named)
      (then_ok _ (got _ _ is.listed) (then_fault _ (then_ok _ (part_is part name) refl)))
  value_fault_is {known = known} (no_procedure {number = number} named none) =
      then_ok _ (got _ _ named) (then_fault _ (got_none _ _ (is_nothing (slice_get known.procedures number)
      (λ procedure e. none procedure (record { named = named; listed = e })))))
  value_fault_is (untyped is none) =
      then_ok _ (got _ _ is.named) (then_ok _ (got _ _ is.listed) (then_fault _ (got_none _ _ none)))
  value_fault_is (value_of_output named) = then_ok _ (got _ _ named) refl
  value_fault_is (value_of_move named) = then_ok _ (got _ _ named) refl
  value_fault_is (wrong_count is typed wrong) =
      then_ok _ (got _ _ is.named) (then_ok _ (got _ _ is.listed) (then_ok _ (got _ _ typed)
      (then_fault _ (then_fault _ (failed _ _ (ne_eqb _ _ wrong))))))
  value_fault_is (in_argument is typed count fault) =
      then_ok _ (got _ _ is.named) (then_ok _ (got _ _ is.listed) (then_ok _ (got _ _ typed)
      (then_fault _ (then_ok _ (passed _ _ (eq-eqb _ _ count)) (then_fault _ (values_fault fault))))))
  value_fault_is {known = known}
      (wrong_count_of_values {before = before} {name = name} {trees = trees} {part = part}
      named takes wrong) =
      then_ok _ (got _ _ named) (wrong_values_are known name trees part before takes wrong)
  value_fault_is {known = known}
      (in_values {before = before} {name = name} {trees = trees} {part = part}
      {fault = fault} named takes count
      is) =
      then_ok _ (got _ _ named)
      (values_fault_is known name trees part before fault takes count (values_fault is))
  value_fault_is (in_port named is) = then_ok _ (got _ _ named) (then_fault _ (port_fault_is is))
  value_fault_is {known = known}
      (in_measure {before = before} {name = name} {trees = trees} {part = part}
      {measure = measure} named is) =
      then_ok _ (got _ _ named) (measure_function_is known (given_name known name trees part) before measure
      (then_fault _ (measure_fault_is is)))
  value_fault_is (member_of_result {member = member} {its_subscripts = its} none typing) =
      member_of_result_is member its none typing

  pub location_fault_is : {known : Known} {before : Constants} {reference : ReferenceTree} {fault : Fault}
      → LocationFault known before reference fault
      → location_of known (given_reference known reference) before ≡ Err fault
  location_fault_is (unknown_location none) = then_fault _ (got_none _ _ none)
  location_fault_is (location_of_procedure named) = then_ok _ (got _ _ named) refl
  location_fault_is (location_in_frame is none) =
      then_ok _ (got _ _ is.named) (then_ok _ (got _ _ is.listed) (then_fault _ (failed _ _ none)))
  location_fault_is {known = known}
      (location_of_no_variable {before = before} {name = name} {trees = trees} {part = part} is neither) =
      then_ok _ (got _ _ is.named) (no_location_is known name trees part before is.binding (no_object is)
      (λ number e. neither number (is.named ∙ ap Some e)))
  location_fault_is (in_located_part {number = number} is has fault) =
      then_ok _ (got _ _ is.named)
      (then_ok _ (got _ _ is.listed) (then_ok _ (passed _ _ has)
      (then_fault _ (part_fault_is fault number))))

  pub target_fault_is : {known : Known} {before : Constants} {reference : ReferenceTree} {fault : Fault}
      → TargetFault known before reference fault
      → destination_of known (given_reference known reference) before ≡ Err fault
  target_fault_is (unknown_target none) = then_fault _ (got_none _ _ none)
  target_fault_is {known = known}
      (no_target {before = before} {name = name} {trees = trees} {part = part} is other) =
      then_ok _ (got _ _ is.named) (no_target_is known name trees part before is.binding (no_object is)
      (λ e. other (is.named ∙ ap Some e)))
  target_fault_is (target_with_data is has) =
      then_ok _ (got _ _ is.named) (then_ok _ (got _ _ is.listed) (then_fault _ (failed _ _ (ap not has))))
  target_fault_is (in_target_part {number = number} is plain fault) =
      then_ok _ (got _ _ is.named) (then_ok _ (got _ _ is.listed) (then_ok _ (passed _ _ (ap not plain))
      (then_fault _ (then_fault _ (part_fault_is fault number)))))
  target_fault_is (no_scalar_target {name = name} is plain part) =
      then_ok _ (got _ _ is.named) (then_ok _ (got _ _ is.listed) (then_ok _ (passed _ _ (ap not plain))
      (then_fault _ (then_ok _ (part_is part name) refl))))
  target_fault_is (in_output named is) = then_ok _ (got _ _ named) (then_fault _ (port_fault_is is))
  target_fault_is (member_of_output named is) = then_ok _ (got _ _ named) (then_ok _ (port_is is _) refl)

  pub subscript_fault_is : {known : Known} {extent : Extent} {dimension : Option ℕ} {name : Identifier}
      {before : Constants}
      {trees : ArgumentTrees} {fault : Fault}
      → SubscriptFault known extent dimension name before trees fault
      → SubscriptsRefused known extent dimension name before trees fault
  subscript_fault_is (wrong_number wrong) = inl (wrong_number_is wrong, refl)
  subscript_fault_is (in_subscript {extent = extent} {count = count} is) =
      inr (one_fits extent count, then_fault _ (fault_is is))

  pub part_fault_is : {known : Known} {extent : Extent} {object : TypedObject} {name : Identifier}
      {before : Constants}
      {trees : ArgumentTrees} {part : MemberTree} {fault : Fault}
      → PartFault known extent object name before trees part fault
      → (number : ℕ)
      → part_of number object extent (given_name known name trees part) before ≡ Err fault
  part_fault_is {known = known}
      (in_subscripts {extent = extent} {object = object} {name = name} {before = before} {trees = trees} is)
      number =
      subscripts_refused known extent object.dimension name before trees _ (subscript_fault_is is)
  part_fault_is (no_member typing fault) number =
      let s = subscript_is typing in
      then_ok _ (passed _ _ s.0) (then_ok _ s.2 (member_fault_is _ fault))
  part_fault_is {known = known}
      (in_member_subscripts {extent = extent} {member = member} {middle = middle} {its_subscripts = its}
      {place = place} typing there is) number =
      let s = subscript_is typing in
      then_ok _ (passed _ _ s.0) (then_ok _ s.2 (then_member_ok _ there
      (subscripts_refused known extent place.member.dimension member middle its _ (subscript_fault_is is))))

-- in a statement
pub value_fault : {tree : ExpressionTree} {fault : Fault} (progress : Progress)
    → ExpressionFault progress.known progress.constants tree fault
    → value tree progress ≡ Err fault
value_fault progress is = then_fault _ (fault_is is)
