-- Taking the conversions away from a typed reference gives back the reference that it was typed from.
use Rattle.typing.proofs.Prelude.{◌≡◌, ℕ, suc, ◌==◌, Bool, true, false, List, [], ◌∷◌, length, Option, Some, None, nat_le, refl, sym, ap, subst, ◌∙◌, arith, unwrap_or, slice_get, codes, if◌then◌else◌, option_map, option_map_or, bytes_eq, bytes_eq-Decides, eqb-true, leb-true, ScalarType, Byte, Address, Identifier, Place, ExpressionTree, NumberConstant, StringConstant, ConstantLeaf, ReferenceLeaf, LocationLeaf, ReferenceTree, ReferenceTo, MemberTree, NoMember, MemberOf, ArgumentTrees, NoArguments, MoreArguments, Binding, Declared, BuiltInName, BuiltIn, Object, Procedure, TypedMember, ShiftFunction, UnaryFunction, Measure, TypedExpression, Subscript, TypedReference, TypedArguments, NoTyped, MoreTyped, TypedObject, TypedProcedure, TypedModule, Constants, FoundMember, member_named, after_member, size_of_scalar, size_of_element, type_of, converted, as_type, arguments_as, type_of_shift, Destination, target_of, Known, Given, GivenMember, WithoutMember, WithMember, GivenReference, place_of, number_of_arguments, count_of_given, Extent, AnElement, AlsoTheWhole, takes_subscripts, subscript_of, members_of, FoundPart, part_with_member, part_of, scalar_part, without_member, port_of, port_of_character, has_location, location_of_bound, location_of, is_writable, destination_of_bound, destination_of, call_arguments, call_of, function_of, unary_function, shift_of, shift_function, input_value, Measured, measured_member, measured_object, measure_of, measurement, number_of_variable, built_in_value, value_of_bound, value_of, Agrees, number_of_characters, untyped_expression, untyped_arguments, untyped_subscript, plain_arguments, plain_member, one_argument, member_tree, untyped_target, named, number_leaf, call_tree, function_name, shift_name, measure_name, procedure_name, object_name, untyped_reference, member_name, Checked}
use Rattle.names.specs.declared.entity.BuiltIn.TheVariants as built_in_names
use Rattle.typed_trees.specs.declared.parts.ShiftFunction.TheVariants as shifts
use Rattle.typed_trees.specs.declared.parts.Measure.TheVariants as measures
use Rattle.typing.proofs.Kept.{Gives, then_more, anything, gives_ok, gives_fault, in_turn, required, is_found, Kept, kept_at, kept_more, kept_both}
use Rattle.typing.proofs.NamesBack.{spelled, bound_spelled, StandsFor, is_bound, Binds, is_object, is_procedure}

-- a conversion is taken away
converted_back : (tables : TypedModule) (to from : ScalarType) (typed : TypedExpression)
    → untyped_expression tables (converted to from typed) ≡ untyped_expression tables typed
converted_back tables Byte Byte typed = refl
converted_back tables Byte Address typed = refl
converted_back tables Address Byte typed = refl
converted_back tables Address Address typed = refl

pub as_type_back : (tables : TypedModule) (to : ScalarType) (typed : TypedExpression)
    → untyped_expression tables (as_type to typed) ≡ untyped_expression tables typed
as_type_back tables to typed = converted_back tables to (type_of typed) typed

arguments_as_back : (tables : TypedModule) (scalars : List ScalarType) (typed : TypedArguments)
    → untyped_arguments tables (arguments_as scalars typed) ≡ untyped_arguments tables typed
arguments_as_back tables [] typed = refl
arguments_as_back tables (scalar ∷ scalars) NoTyped = refl
arguments_as_back tables (scalar ∷ scalars) (MoreTyped first others) =
    let one = as_type_back tables scalar first in
    let more = arguments_as_back tables scalars others in
    cc

-- as many arguments as there are in the text
plain_number : (trees : ArgumentTrees)
    → number_of_arguments (plain_arguments trees) ≡ number_of_arguments trees
plain_number NoArguments = refl
plain_number (MoreArguments first others) = ap suc (plain_number others)

no_arguments : (trees : ArgumentTrees) → (number_of_arguments trees == 0) ≡ true
    → plain_arguments trees ≡ NoArguments
no_arguments NoArguments none = refl
no_arguments (MoreArguments first others) none = absurd (omega (arith, eqb-true _ _ none))

-- a subscript in brackets, or none
subscript_back : (tables : TypedModule) (extent : Extent) (stride : ℕ) (dimension : Option ℕ)
    (trees : ArgumentTrees) (typed : TypedArguments)
    → takes_subscripts extent dimension (number_of_arguments trees) ≡ true
    → untyped_arguments tables typed ≡ plain_arguments trees
    → untyped_subscript tables (subscript_of stride dimension typed) ≡ plain_arguments trees
subscript_back tables extent stride None trees typed fits is = sym (no_arguments trees fits)
subscript_back tables extent stride (Some dimension) trees NoTyped fits is = is
subscript_back tables extent stride (Some dimension) trees (MoreTyped index NoTyped) fits is =
    ap one_argument (as_type_back tables Address index) ∙ is
subscript_back tables AnElement stride (Some dimension) trees
    (MoreTyped first (MoreTyped second others)) fits is =
    absurd (omega (arith, eqb-true _ _ fits, ap number_of_arguments is, plain_number trees))
subscript_back tables AlsoTheWhole stride (Some dimension) trees
    (MoreTyped first (MoreTyped second others)) fits is =
    absurd (omega (arith, leb-true _ _ fits, ap number_of_arguments is, plain_number trees))

-- the member that a structure has by a name has that name
abbrev name_at : List TypedMember → ℕ → List ℕ
name_at members position =
    option_map_or (λ (found : TypedMember). found.name) (slice_get members position) []

abbrev first_member : TypedMember → FoundMember
first_member member = record { position = 0; offset = 0; member = member }

member_name_back : (members : List TypedMember) (name : List ℕ) (place : FoundMember)
    → member_named members name ≡ Some place
    → name_at members place.position ≡ name
member_name_back [] name place e = absurd cc
member_name_back (member ∷ others) name place e =
    go (bytes_eq member.name name) (member_named others name) refl (member_name_back others name) e
  where
    go : (same : Bool) (later : Option FoundMember)
        → bytes_eq member.name name ≡ same
        → ((found : FoundMember) → later ≡ Some found → name_at others found.position ≡ name)
        → (if same then Some (first_member member) else option_map (after_member member) later) ≡ Some place
        → name_at (member ∷ others) place.position ≡ name
    go true later test inner e =
        let is : first_member member ≡ place = cc in
        subst (λ (found : FoundMember). name_at (member ∷ others) found.position ≡ name) is
        ((bytes_eq-Decides member.name name).0 test)
    go false None test inner e = absurd cc
    go false (Some found) test inner e =
        let is : after_member member found ≡ place = cc in
        subst (λ (found : FoundMember). name_at (member ∷ others) found.position ≡ name) is (inner found refl)

-- a reference as it is given, without places
abbrev pub plain_given_member : GivenMember → MemberTree
plain_given_member WithoutMember = NoMember
plain_given_member (WithMember name given) = MemberOf (named name.name) (plain_arguments given.trees)

abbrev pub plain_given : GivenReference → ReferenceTree
plain_given given =
    ReferenceTo (named given.name.name) (plain_arguments given.arguments.trees)
    (plain_given_member given.member)

-- what is typed gives back a tree, once its conversions are taken away
abbrev pub GivesTree : {A B : Type 0} → Known → (TypedModule → A → B) → B → Constants → A × Constants → Type 0
GivesTree known untyped tree before found =
    Kept known before found.1 (λ tables. untyped tables found.0 ≡ tree)

-- arguments give back their trees, wherever constant lists have come to
abbrev pub GivenBack : Known → Given → Type 0
GivenBack known given =
    (constants : Constants)
    → Gives (GivesTree known untyped_arguments (plain_arguments given.trees) constants)
    (given.typed constants)

abbrev pub MemberBack : Known → GivenMember → Type 0
MemberBack known WithoutMember = Unit
MemberBack known (WithMember name given) = GivenBack known given

abbrev pub ReferenceBack : Known → GivenReference → Type 0
ReferenceBack known given = GivenBack known given.arguments × MemberBack known given.member

-- a member of an object has in the tables the name that it has in the text
member_called : {known : Known} {name : List ℕ} {number : ℕ} {object : TypedObject}
    → StandsFor known name number object
    → (tables : TypedModule)
    → Agrees tables known
    → (members : List TypedMember) (member : List ℕ) (place : FoundMember)
    → members_of object.object_type ≡ Some members
    → member_named members member ≡ Some place
    → member_name tables number place.position ≡ member
member_called stands tables agrees members member place are at =
    ap (λ all. name_at all place.position)
    ((stands.in_tables tables agrees).1 ∙ ap (λ found. unwrap_or found []) are)
    ∙ member_name_back members member place at

-- what a part of it gives back, once its own subscript is given back
abbrev GivesPart : Known → Subscript → GivenReference → Constants → FoundPart × Constants → Type 0
GivesPart known element given before found = Kept known before found.1 (λ tables.
    untyped_subscript tables element ≡ plain_arguments given.arguments.trees
    → untyped_reference tables found.0.reference ≡ plain_given given)

part_with_member_back : (known : Known) (number : ℕ) (object : TypedObject)
    (element : Subscript) (extent : Extent)
    (name : Identifier) (values : Given) (part : GivenMember) (constants : Constants)
    → StandsFor known name.name number object
    → MemberBack known part
    → Gives (GivesPart known element (record { name = name; arguments = values; member = part }) constants)
    (part_with_member number object.object_type element extent part constants)
part_with_member_back known number object element extent name values WithoutMember constants stands back =
    gives_ok (kept_at (λ tables agrees is.
    let own = (stands.in_tables tables agrees).0 in
    cc))
part_with_member_back known number object element extent name values (WithMember member given)
    constants stands back =
    in_turn (is_found (members_of object.object_type) _ _) (λ members are.
    in_turn (is_found (member_named members member.name) _ _) (λ place at.
    in_turn (required (takes_subscripts extent place.member.dimension (count_of_given given)) _ _) (λ _ fits.
    in_turn (back constants) (λ typed kept.
    gives_ok (kept_more kept (λ tables agrees values_back is.
    let own = (stands.in_tables tables agrees).0 in
    let called = member_called stands tables agrees members member.name place are at in
    let stride = size_of_scalar place.member.scalar in
    let index =
    subscript_back tables extent stride place.member.dimension given.trees typed.0 fits values_back in
    cc))))))

has_no_member : (member : GivenMember) → Gives (λ _. member ≡ WithoutMember) (without_member member)
has_no_member WithoutMember = gives_ok refl
has_no_member (WithMember name given) = gives_fault

-- arguments of the parameters' types
pub call_arguments_kept : (known : Known) (procedure : TypedProcedure) (place : Place) (given : Given)
    (constants : Constants)
    → GivenBack known given
    → Gives (GivesTree known untyped_arguments (plain_arguments given.trees) constants)
    (call_arguments procedure place given constants)
call_arguments_kept known procedure place given constants back =
    in_turn (required (count_of_given given == length procedure.parameter_types) _ _) (λ _ _.
    in_turn (back constants) (λ typed kept.
    gives_ok (kept_more kept (λ tables agrees is.
    arguments_as_back tables procedure.parameter_types typed.0 ∙ is))))

-- what a built-in function of its arguments gives back
abbrev GivesFunction : List ℕ → TypedArguments → Checked TypedExpression → Type 0
GivesFunction name values =
    Gives (λ node. (tables : TypedModule)
    → untyped_expression tables node ≡ ReferenceLeaf (call_tree name (untyped_arguments tables values)))

function_back : (function : UnaryFunction) (place : Place) (values : TypedArguments)
    → GivesFunction (function_name function) values (function_of function place values)
function_back function place (MoreTyped operand NoTyped) = gives_ok (λ tables. refl)
function_back function place values = gives_fault

shift_back : (function : ShiftFunction) (place : Place) (values : TypedArguments)
    → GivesFunction (shift_name function) values (shift_of function place values)
shift_back function place (MoreTyped value (MoreTyped count NoTyped)) = gives_ok (λ tables.
    let one = as_type_back tables (type_of_shift function (type_of value)) value in
    let other = as_type_back tables Byte count in
    cc)
shift_back function place values = gives_fault

-- ports
character_back : (place : Place) (characters : List ℕ)
    → Gives (λ port. unwrap_or (number_of_characters characters) 0 ≡ port)
    (port_of_character place characters)
character_back place (character ∷ []) = in_turn (required (nat_le character 255) _ _) (λ _ _. gives_ok refl)
character_back place characters = gives_fault

port_back : (place : Place) (trees : ArgumentTrees)
    → Gives (λ port. plain_arguments trees ≡ one_argument (number_leaf port)) (port_of place trees)
port_back place (MoreArguments (ConstantLeaf (NumberConstant number)) NoArguments) =
    in_turn (required (nat_le number.value 255) _ _) (λ _ _. gives_ok refl)
port_back place (MoreArguments (ConstantLeaf (StringConstant string)) NoArguments) =
    then_more (character_back place string.characters)
    (λ port e. ap (λ found. one_argument (number_leaf found)) e)
port_back place trees = gives_fault

-- LENGTH, LAST and SIZE: the number of what is measured says which object or member that is
abbrev GivesMeasured : Known → Identifier → MemberTree → Checked Measured → Type 0
GivesMeasured known name part =
    Gives (λ measured. (tables : TypedModule) → Agrees tables known
    → ReferenceTo (named (object_name tables measured.object)) NoArguments
    (member_tree tables measured.object measured.member NoArguments)
    ≡ ReferenceTo (named name.name) NoArguments (plain_member part))

measured_member_back : (known : Known) (name : Identifier) (number : ℕ)
    (object : TypedObject) (part : MemberTree)
    → StandsFor known name.name number object
    → GivesMeasured known name part (measured_member number object part)
measured_member_back known name number object NoMember stands =
    gives_ok (λ tables agrees.
    let own = (stands.in_tables tables agrees).0 in
    cc)
measured_member_back known name number object (MemberOf member NoArguments) stands =
    in_turn (is_found (members_of object.object_type) _ _) (λ members are.
    in_turn (is_found (member_named members member.name) _ _) (λ place at.
    gives_ok (λ tables agrees.
    let own = (stands.in_tables tables agrees).0 in
    let called = member_called stands tables agrees members member.name place are at in
    cc)))
measured_member_back known name number object part stands = gives_fault

measured_object_back : (known : Known) (binding : Binding) (name : Identifier) (part : MemberTree)
    → Binds known name binding
    → GivesMeasured known name part (measured_object known binding name part)
measured_object_back known (Declared (Object number)) name part bound_to =
    in_turn (is_object known name number bound_to) (λ object stands.
    measured_member_back known name number object part stands)
measured_object_back known binding name part bound_to = gives_fault

measurement_back : (known : Known) (measure : Measure) (place : Place) (trees : ArgumentTrees)
    → Gives (λ node. (tables : TypedModule) → Agrees tables known
    → untyped_expression tables node ≡ ReferenceLeaf
    (call_tree (measure_name measure) (plain_arguments trees)))
    (measurement known measure place trees)
measurement_back known measure place
    (MoreArguments (ReferenceLeaf (ReferenceTo name NoArguments part)) NoArguments) =
    in_turn (is_bound known name) (λ binding bound_to.
    in_turn (measured_object_back known binding name part bound_to) (λ measured back.
    in_turn (anything (measure_of measure measured (place_of name))) (λ value _.
    gives_ok (λ tables agrees.
    ap (λ tree. ReferenceLeaf (call_tree (measure_name measure) (one_argument (ReferenceLeaf tree))))
    (back tables agrees)))))
measurement_back known measure place trees = gives_fault

-- what a value goes to
abbrev pub GivesTarget : Known → ReferenceTree → Constants → Destination × Constants → Type 0
GivesTarget known tree before found =
    Kept known before found.1 (λ tables.
    (from : ScalarType) → untyped_target tables (target_of found.0 from) ≡ tree)

-- A reference whose arguments give back their trees.
module _ (known : Known) (given : GivenReference) (constants : Constants)
    (back : ReferenceBack known given) where
  abbrev ReadsAs : ExpressionTree → Checked (TypedExpression × Constants) → Type 0
  ReadsAs tree = Gives (GivesTree known untyped_expression tree constants)

  abbrev GivesValue : Checked (TypedExpression × Constants) → Type 0
  GivesValue = ReadsAs (ReferenceLeaf (plain_given given))

  part_back : (number : ℕ) (object : TypedObject) (extent : Extent)
      → StandsFor known given.name.name number object
      → Gives (λ (found : FoundPart × Constants).
      GivesTree known untyped_reference (plain_given given) constants (found.0.reference, found.1))
      (part_of number object extent given constants)
  part_back number object extent stands =
      let stride = size_of_element object.object_type in
      in_turn (required (takes_subscripts extent object.dimension (count_of_given given.arguments)) _ _)
      (λ _ fits.
      in_turn (back.0 constants) (λ typed kept.
      then_more (part_with_member_back known number object (subscript_of stride object.dimension typed.0)
      extent given.name given.arguments given.member typed.1 stands back.1) (λ found part.
      kept_both kept part (λ tables agrees are is.
      is (subscript_back tables extent stride object.dimension given.arguments.trees typed.0 fits are)))))

  scalar_part_back : (number : ℕ) (object : TypedObject)
      → StandsFor known given.name.name number object
      → Gives (λ (found : TypedReference × ScalarType × Constants).
      GivesTree known untyped_reference (plain_given given) constants (found.0, found.2))
      (scalar_part number object given constants)
  scalar_part_back number object stands =
      in_turn (part_back number object AnElement stands) (λ part kept.
      in_turn (is_found part.0.scalar _ _) (λ scalar _.
      gives_ok kept))

  -- a reference with arguments alone
  plain_call : (name : List ℕ) (values : ArgumentTrees)
      → given.name.name ≡ name
      → plain_arguments given.arguments.trees ≡ values
      → given.member ≡ WithoutMember
      → call_tree name values ≡ plain_given given
  plain_call name values is are none =
      let part : plain_given_member given.member ≡ NoMember = ap plain_given_member none in
      cc

  call_back : (number : ℕ) (procedure : TypedProcedure)
      → ((tables : TypedModule) → Agrees tables known → procedure_name tables number ≡ given.name.name)
      → GivesValue (call_of number procedure given constants)
  call_back number procedure called =
      in_turn (is_found procedure.result _ _) (λ result _.
      in_turn (call_arguments_kept known procedure (place_of given.name) given.arguments constants back.0)
      (λ typed kept.
      in_turn (has_no_member given.member) (λ _ none.
      gives_ok (kept_more kept (λ tables agrees is.
      ap ReferenceLeaf (plain_call _ _ (sym (called tables agrees)) (sym is) none))))))

  unary_function_back : (function : UnaryFunction)
      → given.name.name ≡ function_name function
      → GivesValue (unary_function function given constants)
  unary_function_back function called =
      in_turn (required (count_of_given given.arguments == 1) _ _) (λ _ _.
      in_turn (back.0 constants) (λ typed kept.
      in_turn (has_no_member given.member) (λ _ none.
      in_turn (function_back function (place_of given.name) typed.0) (λ node made.
      gives_ok (kept_more kept (λ tables agrees is.
      made tables ∙ ap ReferenceLeaf (plain_call _ _ called (sym is) none)))))))

  shift_function_back : (function : ShiftFunction)
      → given.name.name ≡ shift_name function
      → GivesValue (shift_function function given constants)
  shift_function_back function called =
      in_turn (required (count_of_given given.arguments == 2) _ _) (λ _ _.
      in_turn (back.0 constants) (λ typed kept.
      in_turn (has_no_member given.member) (λ _ none.
      in_turn (shift_back function (place_of given.name) typed.0) (λ node made.
      gives_ok (kept_more kept (λ tables agrees is.
      made tables ∙ ap ReferenceLeaf (plain_call _ _ called (sym is) none)))))))

  input_back : given.name.name ≡ codes "INPUT" → GivesValue (input_value given constants)
  input_back called =
      in_turn (port_back (place_of given.name) given.arguments.trees) (λ port is.
      in_turn (has_no_member given.member) (λ _ none.
      gives_ok (kept_at (λ tables agrees. ap ReferenceLeaf (plain_call _ _ called is none)))))

  variable_back : (measure : Measure)
      → given.name.name ≡ measure_name measure
      → GivesValue (number_of_variable known measure given constants)
  variable_back measure called =
      in_turn (measurement_back known measure (place_of given.name) given.arguments.trees) (λ node is.
      in_turn (has_no_member given.member) (λ _ none.
      gives_ok (kept_at (λ tables agrees.
      is tables agrees ∙ ap ReferenceLeaf (plain_call _ _ called refl none)))))

  -- the value of what the name is bound to
  built_in_back : (built_in : BuiltIn)
      → given.name.name ≡ spelled built_in
      → GivesValue (built_in_value known built_in given constants)
  built_in_back built_in_names.Input called = input_back called
  built_in_back (built_in_names.Unary function) called = unary_function_back function called
  built_in_back built_in_names.Length called = variable_back measures.Length called
  built_in_back built_in_names.Last called = variable_back measures.Last called
  built_in_back built_in_names.Size called = variable_back measures.Size called
  built_in_back built_in_names.ShiftLeft called = shift_function_back shifts.ShiftLeft called
  built_in_back built_in_names.ShiftRight called = shift_function_back shifts.ShiftRight called
  built_in_back built_in_names.RotateLeft called = shift_function_back shifts.RotateLeft called
  built_in_back built_in_names.RotateRight called = shift_function_back shifts.RotateRight called
  built_in_back built_in called = gives_fault

  bound_value_back : (binding : Binding)
      → Binds known given.name binding
      → GivesValue (value_of_bound known binding given constants)
  bound_value_back (Declared (Object number)) bound_to =
      in_turn (is_object known given.name number bound_to) (λ object stands.
      in_turn (scalar_part_back number object stands) (λ part kept.
      gives_ok (kept_more kept (λ tables agrees is. ap ReferenceLeaf is))))
  bound_value_back (Declared (Procedure number)) bound_to =
      in_turn (is_procedure known given.name number bound_to) (λ procedure called.
      call_back number procedure called)
  bound_value_back (BuiltInName built_in) bound_to =
      built_in_back built_in (bound_spelled known.here given.name.name built_in bound_to)
  bound_value_back binding bound_to = gives_fault

  pub value_back : GivesValue (value_of known given constants)
  value_back = in_turn (is_bound known given.name) bound_value_back

  -- where what the name is bound to lies
  bound_location_back : (binding : Binding)
      → Binds known given.name binding
      → ReadsAs (LocationLeaf (plain_given given)) (location_of_bound known binding given constants)
  bound_location_back (Declared (Object number)) bound_to =
      in_turn (is_object known given.name number bound_to) (λ object stands.
      in_turn (required (has_location object.home) _ _) (λ _ _.
      in_turn (part_back number object AlsoTheWhole stands) (λ part kept.
      gives_ok (kept_more kept (λ tables agrees is. ap LocationLeaf is)))))
  bound_location_back binding bound_to = gives_fault

  pub location_back : ReadsAs (LocationLeaf (plain_given given)) (location_of known given constants)
  location_back = in_turn (is_bound known given.name) bound_location_back

  -- the target that the name is bound to
  bound_target_back : (binding : Binding)
      → Binds known given.name binding
      → Gives (GivesTarget known (plain_given given) constants)
      (destination_of_bound known binding given constants)
  bound_target_back (Declared (Object number)) bound_to =
      in_turn (is_object known given.name number bound_to) (λ object stands.
      in_turn (anything (is_writable object given.name)) (λ _ _.
      in_turn (scalar_part_back number object stands) (λ part kept.
      gives_ok (kept_more kept (λ tables agrees is from. is)))))
  bound_target_back (BuiltInName built_in_names.Output) bound_to =
      in_turn (port_back (place_of given.name) given.arguments.trees) (λ port is.
      in_turn (has_no_member given.member) (λ _ none.
      gives_ok (kept_at (λ tables agrees from.
      plain_call _ _ (bound_spelled known.here given.name.name built_in_names.Output bound_to) is none))))
  bound_target_back binding bound_to = gives_fault

  pub target_back : Gives (GivesTarget known (plain_given given) constants)
      (destination_of known given constants)
  target_back = in_turn (is_bound known given.name) bound_target_back
