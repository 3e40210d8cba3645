-- References, calls and targets have the types that are asked of their parts.
use Rattle.typing.proofs.Prelude.{◌≡◌, ℕ, ◌+◌, ◌<◌, ◌==◌, Bool, true, false, List, [], ◌∷◌, length, take, Option, Some, None, nat_le, sum_by, slice_get, refl, sym, ap, ap₂, subst, ◌∙◌, arith, if◌then◌else◌, IsSomeAnd, option_map, bytes_eq, eqb-true, leb-true, sum_by-cons, slice_get-map, ScalarType, Byte, Address, Identifier, Place, NumberConstant, StringConstant, ConstantLeaf, ReferenceLeaf, ReferenceTo, ArgumentTrees, NoArguments, MoreArguments, Binding, Declared, BuiltInName, BuiltIn, Object, Procedure, entity_of, FoundMember, TypedMember, ShiftFunction, UnaryFunction, Measure, TypedExpression, TypedReference, PartOf, Subscript, NoSubscript, TypedArguments, NoTyped, MoreTyped, ObjectType, ScalarObject, StructureObject, Home, InFrame, TypedObject, TypedProcedure, TypedModule, Constants, member_named, after_member, size_of_scalar, size_of_member, size_of_element, IsSubscriptOf, IsMemberOf, IsInElement, IsPartOf, IsOneOf, IsScalarIn, IsScalarOf, type_of, Within, IsSeen, RefersToScalar, HasLocation, RefersToLocation, IsNumberOf, ShiftsIn, types_of, Takes, TypesHold, TypesHoldInReference, TypesHoldInSubscript, TypesHoldInTarget, TypesHoldInArguments, HasType, type_of_number, converted, as_type, arguments_as, type_of_shift, shift_node, Destination, target_of, Known, Given, GivenMember, WithoutMember, WithMember, GivenReference, place_of, number_of_arguments, count_of_given, Extent, AnElement, AlsoTheWhole, takes_subscripts, subscript_of, members_of, scalar_of, FoundPart, whole_part, part_with_member, bound, part_of, scalar_part, without_member, port_from, port_of_character, port_of, has_location, location_of_bound, location_of, is_writable, destination_of_bound, destination_of, call_arguments, function_of, unary_function, shift_of, shift_function, measured_object, measure_of, measurement, number_of_variable, built_in_value, value_of_bound, value_of, ArgumentCount, Checked, require, some_and}
use Rattle.names.specs.declared.entity.BuiltIn.TheVariants as built_in_names
use Rattle.typed_trees.specs.declared.parts.ShiftFunction.TheVariants as shifts
use Rattle.typed_trees.specs.declared.parts.Measure.TheVariants as measures
use Rattle.typing.proofs.Kept.{Gives, then_more, gives_ok, gives_fault, gives_after, in_turn, required, is_found}
use Rattle.typing.proofs.NamesBack.{bound_entity, is_bound, Binds}
use Rattle.typing.proofs.Tables.{Keeps}
use Rattle.typing.proofs.Types.TypesKept.{Heading, heading_of, Has, Holding, holding_at, holding_more, holding_both, of_some}

-- a port
port_is_low : (place : Place) (number : ℕ) → Gives (λ port. port < 256) (port_from place number)
port_is_low place number =
    in_turn (required (nat_le number 255) _ _) (λ _ is.
    gives_ok (let low = leb-true number 255 is in omega (arith, low)))

port_holds : (place : Place) (trees : ArgumentTrees) → Gives (λ port. port < 256) (port_of place trees)
port_holds place (MoreArguments (ConstantLeaf (NumberConstant number)) NoArguments) =
    port_is_low number.place number.value
port_holds place (MoreArguments (ConstantLeaf (StringConstant string)) NoArguments) = by string.characters
  where
    by : (characters : List ℕ) → Gives (λ port. port < 256) (port_of_character place characters)
    by (character ∷ []) = port_is_low place character
    by characters = gives_fault
port_holds place trees = gives_fault

-- a conversion to a type
converted_holds : (tables : TypedModule) (within : Within) (to from : ScalarType) (typed : TypedExpression)
    → type_of typed ≡ from → TypesHold tables within typed
    → HasType tables within to (converted to from typed)
converted_holds tables within Byte Byte typed is holds = (holds, is)
converted_holds tables within Address Address typed is holds = (holds, is)
converted_holds tables within Byte Address typed is holds = (holds, refl)
converted_holds tables within Address Byte typed is holds = (holds, refl)

pub as_type_holds : (tables : TypedModule) (within : Within) (to : ScalarType) (typed : TypedExpression)
    → TypesHold tables within typed → HasType tables within to (as_type to typed)
as_type_holds tables within to typed holds = converted_holds tables within to (type_of typed) typed refl holds

-- as many typed arguments as there are in the text
abbrev pub AreSo : Within → ArgumentTrees → TypedArguments → TypedModule → Type 0
AreSo within trees typed tables =
    (length (types_of typed) ≡ number_of_arguments trees) × TypesHoldInArguments tables within typed

-- arguments of the parameters' types
arguments_hold : (tables : TypedModule) (within : Within) (scalars : List ScalarType) (typed : TypedArguments)
    → length (types_of typed) ≡ length scalars → TypesHoldInArguments tables within typed
    → (scalars ≡ types_of (arguments_as scalars typed))
    × TypesHoldInArguments tables within (arguments_as scalars typed)
arguments_hold tables within [] NoTyped same hold = (refl, tt)
arguments_hold tables within [] (MoreTyped first others) same hold = absurd (omega (arith, same))
arguments_hold tables within (scalar ∷ scalars) NoTyped same hold = absurd (omega (arith, same))
arguments_hold tables within (scalar ∷ scalars) (MoreTyped first others) same hold =
    let one = as_type_holds tables within scalar first hold.0 in
    let more = arguments_hold tables within scalars others (omega (arith, same)) hold.1 in
    (ap₂ (λ (type : ScalarType) (types : List ScalarType). type ∷ types) (sym one.1) more.0, (one.0, more.1))

-- the subscript of an array
subscript_of_is : (size : ℕ) (dimension : Option ℕ) (typed : TypedArguments)
    → IsSubscriptOf size dimension (subscript_of size dimension typed)
subscript_of_is size None typed = tt
subscript_of_is size (Some count) NoTyped = tt
subscript_of_is size (Some count) (MoreTyped index NoTyped) = (refl, refl)
subscript_of_is size (Some count) (MoreTyped first (MoreTyped second others)) = tt

subscript_holds : (tables : TypedModule) (within : Within) (size : ℕ) (dimension : Option ℕ)
    (typed : TypedArguments)
    → TypesHoldInArguments tables within typed
    → TypesHoldInSubscript tables within (subscript_of size dimension typed)
subscript_holds tables within size None typed hold = tt
subscript_holds tables within size (Some count) NoTyped hold = tt
subscript_holds tables within size (Some count) (MoreTyped index NoTyped) hold =
    as_type_holds tables within Address index hold.0
subscript_holds tables within size (Some count) (MoreTyped first (MoreTyped second others)) hold = tt

-- where an element alone may stand
abbrev IsAnElement : Extent → Type 0
IsAnElement AnElement = Unit {0}
IsAnElement AlsoTheWhole = ⊥

one_element : (extent : Extent) (size : ℕ) (dimension : Option ℕ) (trees : ArgumentTrees)
    (typed : TypedArguments)
    → IsAnElement extent
    → takes_subscripts extent dimension (number_of_arguments trees) ≡ true
    → length (types_of typed) ≡ number_of_arguments trees
    → IsOneOf dimension (subscript_of size dimension typed)
one_element AlsoTheWhole size dimension trees typed is fits same = absurd is
one_element AnElement size None trees typed is fits same = refl
one_element AnElement size (Some count) trees NoTyped is fits same =
    absurd (omega (arith, eqb-true _ _ fits, same))
one_element AnElement size (Some count) trees (MoreTyped index NoTyped) is fits same = tt
one_element AnElement size (Some count) trees (MoreTyped first (MoreTyped second others)) is fits same =
    absurd (omega (arith, eqb-true _ _ fits, same))

-- the member that a structure has by a name
abbrev Stands : List TypedMember → FoundMember → Type 0
Stands members place =
    (slice_get members place.position ≡ Some place.member)
    × (place.offset ≡ sum_by size_of_member (take place.position members))

abbrev first_member : TypedMember → FoundMember
first_member member = record { position = 0; offset = 0; member = member }

member_stands : (members : List TypedMember) (name : List ℕ) (place : FoundMember)
    → member_named members name ≡ Some place → Stands members place
member_stands [] name place e = absurd cc
member_stands (member ∷ others) name place e =
    go (bytes_eq member.name name) (member_named others name) (member_stands others name) e
  where
    go : (same : Bool) (later : Option FoundMember)
        → ((found : FoundMember) → later ≡ Some found → Stands others found)
        → (if same then Some (first_member member) else option_map (after_member member) later) ≡ Some place
        → Stands (member ∷ others) place
    go true later inner e =
        let is : first_member member ≡ place = cc in
        subst (Stands (member ∷ others)) is (refl, refl)
    go false None inner e = absurd cc
    go false (Some found) inner e =
        let is : after_member member found ≡ place = cc in
        let stands = inner found refl in
        subst (Stands (member ∷ others)) is (
          stands.0,
          ap (λ (offset : ℕ). size_of_member member + offset) stands.1
              ∙ sym (sum_by-cons size_of_member member (take found.position others)),
        )

structure_is : (object_type : ObjectType) (members : List TypedMember)
    → members_of object_type ≡ Some members → object_type ≡ StructureObject members
structure_is (ScalarObject scalar) members e = absurd cc
structure_is (StructureObject its) members e = cc

pub scalar_is : (object_type : ObjectType) (scalar : ScalarType)
    → scalar_of object_type ≡ Some scalar → object_type ≡ ScalarObject scalar
scalar_is (ScalarObject own) scalar e = cc
scalar_is (StructureObject members) scalar e = absurd cc

-- numbers
pub number_holds : (value : ℕ) → IsNumberOf (type_of_number value) value
number_holds value = go (nat_le value 255) refl
  where
    go : (small : Bool) → nat_le value 255 ≡ small → IsNumberOf (if small then Byte else Address) value
    go true is = omega (arith, leb-true _ _ is)
    go false is = tt

-- shifts
pub shift_holds : (tables : TypedModule) (within : Within) (function : ShiftFunction)
    (value count : TypedExpression)
    → TypesHold tables within value → TypesHold tables within count
    → TypesHold tables within (shift_node function value count)
shift_holds tables within function value count one other =
    let scalar : ScalarType = type_of_shift function (type_of value) in (
      shifts_in function,
      as_type_holds tables within scalar value one,
      as_type_holds tables within Byte count other,
    )
  where
    shifts_in : (function : ShiftFunction) → ShiftsIn function (type_of_shift function (type_of value))
    shifts_in shifts.ShiftLeft = tt
    shifts_in shifts.ShiftRight = tt
    shifts_in shifts.RotateLeft = refl
    shifts_in shifts.RotateRight = refl

-- Names of objects are of such as can be referred to.
abbrev pub Sees : Within → Known → Type 0
Sees within known =
    (name : List ℕ) (number : ℕ) → entity_of known.here name ≡ Some (Object number)
    → (tables : TypedModule) → Keeps known.objects tables.objects
    → IsSomeAnd (slice_get tables.objects number) (λ (object : TypedObject). IsSeen tables within object.home)

-- an object that a name is bound to
pub record SeenObject (within : Within) (known : Known) (number : ℕ) (object : TypedObject) : Type 0 where
  pub at : (tables : TypedModule) → Has tables known → slice_get tables.objects number ≡ Some object
  pub seen : (tables : TypedModule) → Has tables known → IsSeen tables within object.home

pub seen_object : {within : Within} {known : Known} {number : ℕ} {object : TypedObject} (name : Identifier)
    → Sees within known → Binds known name (Declared (Object number))
    → slice_get known.objects number ≡ Some object
    → SeenObject within known number object
seen_object {within} {known} {number} {object} name sees bound_to entry = record {
  at = λ tables has. has.0 number object entry;
  seen = λ tables has.
      of_some (λ (object : TypedObject). IsSeen tables within object.home) _ object
      (has.0 number object entry)
      (sees name.name number (bound_entity known.here name.name (Object number) bound_to) tables has.0);
}

-- a procedure that a call finds takes the same in the module
pub takes_holds : (tables : TypedModule) (known : Known) (number : ℕ) (procedure : TypedProcedure)
    (result : Option ScalarType) (typed : TypedArguments)
    → Has tables known → slice_get known.procedures number ≡ Some procedure
    → procedure.result ≡ result → procedure.parameter_types ≡ types_of typed
    → Takes tables number result typed
takes_holds tables known number procedure result typed has entry is same =
    go (slice_get tables.procedures number)
    (sym (slice_get-map heading_of tables.procedures number)
    ∙ has.1 number (heading_of procedure)
    (slice_get-map heading_of known.procedures number ∙ ap (option_map heading_of) entry))
  where
    go : (found : Option TypedProcedure) → option_map heading_of found ≡ Some (heading_of procedure)
        → IsSomeAnd found
        (λ (its : TypedProcedure). (its.result ≡ result) × (its.parameter_types ≡ types_of typed))
    go None e = absurd cc
    go (Some its) e =
        let heading : heading_of its ≡ heading_of procedure = cc in
        (ap (λ (one : Heading). one.0) heading ∙ is, ap (λ (one : Heading). one.1) heading ∙ same)

-- what typed arguments of a text say
abbrev pub GivenHolds : Within → Known → Given → Type 0
GivenHolds within known given =
    (constants : Constants)
    → Gives
    (λ (found : TypedArguments × Constants).
    Holding known constants found.1 (AreSo within given.trees found.0))
    (given.typed constants)

abbrev pub MemberHolds : Within → Known → GivenMember → Type 0
MemberHolds within known WithoutMember = Unit
MemberHolds within known (WithMember name given) = GivenHolds within known given

-- what a found part of an object says
record PartHolds (within : Within) (home : Home) (extent : Extent) (part : FoundPart)
    (tables : TypedModule) : Type 0 where
  types : TypesHoldInReference tables within part.reference
  located : HasLocation home → RefersToLocation tables within part.reference
  scalar : (scalar : ScalarType) → IsAnElement extent → part.scalar ≡ Some scalar
      → RefersToScalar tables within scalar part.reference

-- an element with its subscript, of which all is meant or a member
record ElementHolds (within : Within) (object : TypedObject) (extent : Extent) (subscript : Subscript)
    (tables : TypedModule) : Type 0 where
  is : IsSubscriptOf (size_of_element object.object_type) object.dimension subscript
  types : TypesHoldInSubscript tables within subscript
  one : IsAnElement extent → IsOneOf object.dimension subscript

module _ {within : Within} {known : Known} (number : ℕ) (object : TypedObject)
    (seen : SeenObject within known number object) where
  -- a part of the object, with what is known of it
  located_part : (tables : TypedModule) (subscript : Subscript) (member : Option ℕ) (offset : ℕ)
      (member_subscript : Subscript)
      → Has tables known
      → IsPartOf object (PartOf number subscript member offset member_subscript)
      → HasLocation object.home
      → RefersToLocation tables within (PartOf number subscript member offset member_subscript)
  located_part tables its_subscript member offset member_subscript has is located =
      some_and _ (slice_get tables.objects number) object (seen.at tables has)
      (seen.seen tables has, located, is)

  scalar_part_holds : (tables : TypedModule) (scalar : ScalarType) (subscript : Subscript)
      (member : Option ℕ) (offset : ℕ)
      (member_subscript : Subscript)
      → Has tables known
      → IsScalarOf object scalar (PartOf number subscript member offset member_subscript)
      → RefersToScalar tables within scalar (PartOf number subscript member offset member_subscript)
  scalar_part_holds tables scalar its_subscript member offset member_subscript has is =
      some_and _ (slice_get tables.objects number) object (seen.at tables has) (seen.seen tables has, is)

  -- all of an element
  whole_holds : (tables : TypedModule) (extent : Extent) (subscript : Subscript)
      → Has tables known → ElementHolds within object extent subscript tables
      → PartHolds within object.home extent (whole_part number subscript object.object_type) tables
  whole_holds tables extent subscript has element = record {
    types = (element.types, tt);
    located = located_part tables subscript None 0 NoSubscript has (element.is, (refl, refl));
    scalar = λ scalar one e.
        scalar_part_holds tables scalar subscript None 0 NoSubscript has
        ((element.is, (refl, refl)), element.one one, in_scalar scalar (scalar_is object.object_type scalar e));
  }
    where
      in_scalar : (scalar : ScalarType) → object.object_type ≡ ScalarObject scalar
          → IsScalarIn object.object_type None NoSubscript scalar
      in_scalar scalar is = subst (λ its. IsScalarIn its None NoSubscript scalar) (sym is) refl

  -- a member of an element
  member_holds : (tables : TypedModule) (extent : Extent) (subscript : Subscript) (members : List TypedMember)
      (place : FoundMember) (trees : ArgumentTrees) (typed : TypedArguments)
      → Has tables known → ElementHolds within object extent subscript tables
      → object.object_type ≡ StructureObject members → Stands members place
      → takes_subscripts extent place.member.dimension (number_of_arguments trees) ≡ true
      → AreSo within trees typed tables
      → PartHolds within object.home extent
      (record {
        reference = PartOf number subscript (Some place.position) place.offset
            (subscript_of (size_of_scalar place.member.scalar) place.member.dimension typed);
        scalar = Some place.member.scalar;
      }) tables
  member_holds tables extent subscript members place trees typed has element are stands fits so =
      let size : ℕ = size_of_scalar place.member.scalar in
      let index : Subscript = subscript_of size place.member.dimension typed in
      let in_members : IsMemberOf members place.position place.offset index = (
        stands.1,
        some_and _ (slice_get members place.position) place.member stands.0
            (subscript_of_is size place.member.dimension typed),
      ) in
      let in_element : IsInElement object.object_type (Some place.position) place.offset index =
      subst (λ its. IsInElement its (Some place.position) place.offset index) (sym are) in_members in
      record {
        types = (element.types, subscript_holds tables within size place.member.dimension typed so.1);
        located =
            located_part tables subscript (Some place.position) place.offset index has
            (element.is, in_element);
        scalar = λ scalar one e.
            scalar_part_holds tables scalar subscript (Some place.position) place.offset index has (
              (element.is, in_element),
              element.one one,
              subst (λ its. IsScalarIn its (Some place.position) index scalar) (sym are)
                  (some_and _ (slice_get members place.position) place.member stands.0
                  (of_scalar scalar e, one_element extent size place.member.dimension trees typed one fits so.0)),
            );
      }
    where
      of_scalar : (scalar : ScalarType) → Some place.member.scalar ≡ Some scalar
          → place.member.scalar ≡ scalar
      of_scalar scalar e = cc

  part_with_member_holds : (extent : Extent) (subscript : Subscript) (part : GivenMember)
      (constants : Constants)
      → MemberHolds within known part
      → Gives
      (λ (found : FoundPart × Constants). Holding known constants found.1
      (λ tables. ElementHolds within object extent subscript tables
      → PartHolds within object.home extent found.0 tables))
      (part_with_member number object.object_type subscript extent part constants)
  part_with_member_holds extent subscript WithoutMember constants holds =
      gives_ok (holding_at (λ tables has element. whole_holds tables extent subscript has element))
  part_with_member_holds extent subscript (WithMember member given) constants holds =
      in_turn (is_found (members_of object.object_type) _ _) (λ members are.
      in_turn (is_found (member_named members member.name) _ _) (λ place at.
      in_turn (required (takes_subscripts extent place.member.dimension (count_of_given given)) _ _)
      (λ _ fits.
      in_turn (holds constants) (λ typed so.
      gives_ok (holding_more so (λ tables has are_so element.
      member_holds tables extent subscript members place given.trees typed.0 has element
      (structure_is object.object_type members are)
      (member_stands members member.name place at) fits are_so))))))

abbrev pub ReferenceHolds : Within → Known → GivenReference → Type 0
ReferenceHolds within known given =
    GivenHolds within known given.arguments × MemberHolds within known given.member

-- what a value is to say, and a target of a value of any type
abbrev pub ValueHolds : Within → Known → Constants → TypedExpression × Constants → Type 0
ValueHolds within known before found =
    Holding known before found.1 (λ tables. TypesHold tables within found.0)

abbrev pub TargetHolds : Within → Known → Constants → Destination × Constants → Type 0
TargetHolds within known before found =
    Holding known before found.1
    (λ tables. (from : ScalarType) → TypesHoldInTarget tables within from (target_of found.0 from))

function_holds : (within : Within) (function : UnaryFunction) (place : Place) (trees : ArgumentTrees)
    (values : TypedArguments)
    → Gives (λ node. (tables : TypedModule) → AreSo within trees values tables → TypesHold tables within node)
    (function_of function place values)
function_holds within function place trees (MoreTyped operand NoTyped) = gives_ok (λ tables so. so.1.0)
function_holds within function place trees values = gives_fault

shift_of_holds : (within : Within) (function : ShiftFunction) (place : Place) (trees : ArgumentTrees)
    (values : TypedArguments)
    → Gives (λ node. (tables : TypedModule) → AreSo within trees values tables → TypesHold tables within node)
    (shift_of function place values)
shift_of_holds within function place trees (MoreTyped value (MoreTyped count NoTyped)) =
    gives_ok (λ tables so. shift_holds tables within function value count so.1.0 so.1.1.0)
shift_of_holds within function place trees values = gives_fault

measurement_holds : (within : Within) (known : Known) (measure : Measure) (place : Place)
    (trees : ArgumentTrees)
    → Gives (λ node. (tables : TypedModule) → TypesHold tables within node)
    (measurement known measure place trees)
measurement_holds within known measure place
    (MoreArguments (ReferenceLeaf (ReferenceTo name NoArguments part)) NoArguments) =
    gives_after (bound known name) λ binding.
    gives_after (measured_object known binding name part) λ measured.
    gives_after (measure_of measure measured (place_of name)) λ value.
    gives_ok (λ tables. number_holds value)
measurement_holds within known measure place trees = gives_fault

-- arguments of a call
pub call_arguments_hold : (within : Within) (known : Known) (number : ℕ) (procedure : TypedProcedure)
    (result : Option ScalarType) (place : Place) (given : Given) (constants : Constants)
    → slice_get known.procedures number ≡ Some procedure → procedure.result ≡ result
    → GivenHolds within known given
    → Gives
    (λ (found : TypedArguments × Constants). Holding known constants found.1
    (λ tables. Takes tables number result found.0 × TypesHoldInArguments tables within found.0))
    (call_arguments procedure place given constants)
call_arguments_hold within known number procedure result place given constants entry is holds =
    in_turn (required (count_of_given given == length procedure.parameter_types) _ _) (λ _ are_all.
    in_turn (holds constants) (λ typed so.
    gives_ok (holding_more so (λ tables has are_so.
    let hold = arguments_hold tables within procedure.parameter_types typed.0
    (omega (arith, are_so.0, eqb-true _ _ are_all)) are_so.1 in (
      takes_holds tables known number procedure result (arguments_as procedure.parameter_types typed.0)
          has entry is hold.0,
      hold.1,
    )))))

-- A reference whose arguments hold, at a place where names are seen.
module _ (within : Within) (known : Known) (sees : Sees within known) (given : GivenReference)
    (constants : Constants)
    (holds : ReferenceHolds within known given) where
  part_holds : (number : ℕ) (object : TypedObject) (extent : Extent)
      → SeenObject within known number object
      → Gives
      (λ (found : FoundPart × Constants). Holding known constants found.1
      (PartHolds within object.home extent found.0))
      (part_of number object extent given constants)
  part_holds number object extent seen =
      let size = size_of_element object.object_type in
      in_turn (required (takes_subscripts extent object.dimension (count_of_given given.arguments)) _ _)
      (λ _ fits.
      in_turn (holds.0 constants) (λ typed so.
      then_more (part_with_member_holds number object seen extent (subscript_of size object.dimension typed.0)
      given.member typed.1 holds.1) (λ found part.
      holding_both so part (λ tables has are_so of_element.
      of_element (record {
        is = subscript_of_is size object.dimension typed.0;
        types = subscript_holds tables within size object.dimension typed.0 are_so.1;
        one = λ is. one_element extent size object.dimension given.arguments.trees typed.0 is fits are_so.0;
      })))))

  abbrev ScalarHolds : TypedReference × ScalarType × Constants → TypedModule → Type 0
  ScalarHolds found tables =
      RefersToScalar tables within found.1 found.0 × TypesHoldInReference tables within found.0

  scalar_holds : (number : ℕ) (object : TypedObject)
      → SeenObject within known number object
      → Gives
      (λ (found : TypedReference × ScalarType × Constants). Holding known constants found.2
      (ScalarHolds found))
      (scalar_part number object given constants)
  scalar_holds number object seen =
      in_turn (part_holds number object AnElement seen) (λ part is.
      in_turn (is_found part.0.scalar _ _) (λ scalar e.
      gives_ok (holding_more is (λ tables has part_is. (part_is.scalar scalar tt e, part_is.types)))))

  abbrev ValueSays : Checked (TypedExpression × Constants) → Type 0
  ValueSays = Gives (ValueHolds within known constants)

  unary_holds : (function : UnaryFunction) → ValueSays (unary_function function given constants)
  unary_holds function =
      gives_after (require (count_of_given given.arguments == 1) ArgumentCount (place_of given.name))
      λ is_one.
      in_turn (holds.0 constants) (λ typed so.
      gives_after (without_member given.member) λ none.
      in_turn (function_holds within function (place_of given.name) given.arguments.trees typed.0) (λ node is.
      gives_ok (holding_more so (λ tables has are_so. is tables are_so))))

  shifted_holds : (function : ShiftFunction) → ValueSays (shift_function function given constants)
  shifted_holds function =
      gives_after (require (count_of_given given.arguments == 2) ArgumentCount (place_of given.name))
      λ are_two.
      in_turn (holds.0 constants) (λ typed so.
      gives_after (without_member given.member) λ none.
      in_turn (shift_of_holds within function (place_of given.name) given.arguments.trees typed.0) (λ node is.
      gives_ok (holding_more so (λ tables has are_so. is tables are_so))))

  variable_holds : (measure : Measure) → ValueSays (number_of_variable known measure given constants)
  variable_holds measure =
      in_turn (measurement_holds within known measure (place_of given.name) given.arguments.trees) (λ node is.
      gives_after (without_member given.member) λ none.
      gives_ok (holding_at (λ tables has. is tables)))

  built_in_holds : (built_in : BuiltIn) → ValueSays (built_in_value known built_in given constants)
  built_in_holds built_in_names.Input =
      in_turn (port_holds (place_of given.name) given.arguments.trees) λ port low.
      gives_after (without_member given.member) λ none.
      gives_ok (holding_at (λ tables has. low))
  built_in_holds (built_in_names.Unary function) = unary_holds function
  built_in_holds built_in_names.Length = variable_holds measures.Length
  built_in_holds built_in_names.Last = variable_holds measures.Last
  built_in_holds built_in_names.Size = variable_holds measures.Size
  built_in_holds built_in_names.ShiftLeft = shifted_holds shifts.ShiftLeft
  built_in_holds built_in_names.ShiftRight = shifted_holds shifts.ShiftRight
  built_in_holds built_in_names.RotateLeft = shifted_holds shifts.RotateLeft
  built_in_holds built_in_names.RotateRight = shifted_holds shifts.RotateRight
  built_in_holds built_in = gives_fault

  value_of_bound_holds : (binding : Binding) → Binds known given.name binding
      → ValueSays (value_of_bound known binding given constants)
  value_of_bound_holds (Declared (Object number)) bound_to =
      in_turn (is_found (slice_get known.objects number) _ _) (λ object entry.
      in_turn (scalar_holds number object (seen_object given.name sees bound_to entry)) (λ part is.
      gives_ok is))
  value_of_bound_holds (Declared (Procedure number)) bound_to =
      in_turn (is_found (slice_get known.procedures number) _ _) (λ procedure entry.
      in_turn (is_found procedure.result _ _) (λ result is.
      in_turn (call_arguments_hold within known number procedure (Some result)
      (place_of given.name) given.arguments
      constants entry is holds.0) (λ typed says.
      gives_after (without_member given.member) λ none.
      gives_ok says)))
  value_of_bound_holds (BuiltInName built_in) bound_to = built_in_holds built_in
  value_of_bound_holds binding bound_to = gives_fault

  pub value_holds : ValueSays (value_of known given constants)
  value_holds = in_turn (is_bound known given.name) value_of_bound_holds

  location_of_bound_holds : (binding : Binding) → Binds known given.name binding
      → ValueSays (location_of_bound known binding given constants)
  location_of_bound_holds (Declared (Object number)) bound_to =
      in_turn (is_found (slice_get known.objects number) _ _) (λ object entry.
      in_turn (required (has_location object.home) _ _) (λ _ located.
      in_turn (part_holds number object AlsoTheWhole (seen_object given.name sees bound_to entry)) (λ part is.
      gives_ok (holding_more is (λ tables has part_is.
      (part_is.located (location_is object.home located), part_is.types))))))
    where
      location_is : (home : Home) → has_location home ≡ true → HasLocation home
      location_is (InFrame procedure) is = absurd cc
      location_is home is = tt
  location_of_bound_holds binding bound_to = gives_fault

  pub location_holds : ValueSays (location_of known given constants)
  location_holds = in_turn (is_bound known given.name) location_of_bound_holds

  destination_of_bound_holds : (binding : Binding) → Binds known given.name binding
      → Gives (TargetHolds within known constants) (destination_of_bound known binding given constants)
  destination_of_bound_holds (Declared (Object number)) bound_to =
      in_turn (is_found (slice_get known.objects number) _ _) (λ object entry.
      gives_after (is_writable object given.name) λ writable.
      in_turn (scalar_holds number object (seen_object given.name sees bound_to entry)) (λ part is.
      gives_ok (holding_more is (λ tables has part_is from. (refl, part_is.0, part_is.1)))))
  destination_of_bound_holds (BuiltInName built_in_names.Output) bound_to =
      in_turn (port_holds (place_of given.name) given.arguments.trees) λ port low.
      gives_after (without_member given.member) λ none.
      gives_ok (holding_at (λ tables has from. (refl, low)))
  destination_of_bound_holds binding bound_to = gives_fault

  pub target_holds : Gives (TargetHolds within known constants) (destination_of known given constants)
  target_holds = in_turn (is_bound known given.name) destination_of_bound_holds
