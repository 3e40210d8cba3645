-- The typing of references to objects, by functions: values, locations and targets, or the first fault.
use Rattle.std.specs.Prelude.{ℕ, Bool, not, ◌==◌, List, [], ◌∷◌, Option, Some, None, Ok, nat_le, slice_get}
use Rattle.trees.specs.declared.declaration.ScalarType.{ScalarType}
use Rattle.trees.specs.declared.declaration.ScalarType.TheVariants.{Address}
use Rattle.trees.specs.declared.identifier.Identifier.{Identifier}
use Rattle.trees.specs.declared.identifier.Place.{Place}
use Rattle.trees.specs.Trees.{NumberConstant, StringConstant, ConstantLeaf, ArgumentTrees, NoArguments, MoreArguments}
use Rattle.names.specs.declared.entity.Binding.{Binding}
use Rattle.names.specs.declared.entity.Binding.TheVariants.{Declared, BuiltInName}
use Rattle.names.specs.declared.entity.BuiltIn.TheVariants.{Output}
use Rattle.names.specs.declared.entity.Entity.TheVariants.{Object, Procedure}
use Rattle.names.specs.BuiltIns.{binding_of}
use Rattle.typing.specs.declared.fault.Cause.TheVariants.{UnknownName, SubscriptMismatch, MemberMismatch, CallOfNoProcedure, NoVariable, PortNotConstant, PortTooLarge, ConstantWritten, NoLocation}
use Rattle.typed_trees.specs.TypedTrees.{TypedExpression, LocationNode, TypedReference, PartOf, Subscript, NoSubscript, At, TypedArguments, NoArguments as NoTyped, MoreArguments as MoreTyped, ObjectType, TypedObject, TypedProcedure, Constants}
use Rattle.typed_trees.specs.declared.members.FoundMember.{FoundMember}
use Rattle.typed_trees.specs.Sizes.{size_of_scalar, size_of_element, member_named}
use Rattle.typing.specs.internal.Checks.{Checked, ◌>>=◌, refuse, require, found}
use Rattle.typing.specs.Nodes.{as_type, Destination, Variable, Port}
use Rattle.typing.specs.References.{Known, place_of, number_of_arguments, Extent, AlsoTheWhole, AnElement, members_of, scalar_of, has_location, is_constant}

-- Arguments or subscripts as they stand in the text, with their typing. Constant lists in them are numbered
-- on.
pub record Given : Type 0 where
  pub trees : ArgumentTrees
  pub typed : Constants → Checked (TypedArguments × Constants)

-- a member in a reference, or none
pub data GivenMember : Type 0 where
  WithoutMember : GivenMember
  WithMember : Identifier → Given → GivenMember

pub record GivenReference : Type 0 where
  pub name : Identifier
  pub arguments : Given
  pub member : GivenMember

abbrev pub count_of_given : Given → ℕ
count_of_given given = number_of_arguments given.trees

-- the binding of a name
abbrev pub bound : Known → Identifier → Checked Binding
bound known name = found (binding_of known.here name.name) UnknownName (place_of name)

-- an object, or a procedure, by its number; every number that a name stands for is one of the table
abbrev pub object_of : Known → Identifier → (number : ℕ) → Checked TypedObject
object_of known name number = found (slice_get known.objects number) NoVariable (place_of name)

abbrev pub procedure_of : Known → Identifier → (number : ℕ) → Checked TypedProcedure
procedure_of known name number = found (slice_get known.procedures number) CallOfNoProcedure (place_of name)

-- Whether a number of subscripts goes with a dimension: one with an array, none with anything else, and none with
-- an array that may be meant as a whole.
abbrev pub takes_subscripts : Extent → Option ℕ → (count : ℕ) → Bool
takes_subscripts extent None count = count == 0
takes_subscripts AnElement (Some dimension) count = count == 1
takes_subscripts AlsoTheWhole (Some dimension) count = nat_le count 1

-- the subscript of an array, as an ADDRESS; an object that is not an array has no subscript
abbrev pub subscript_of : (stride : ℕ) → Option ℕ → TypedArguments → Subscript
subscript_of stride (Some count) (MoreTyped index NoTyped) = At stride count (as_type Address index)
subscript_of stride dimension indices = NoSubscript

-- a part of an object that is found, with its type if it is a scalar or an array of scalars
pub record FoundPart : Type 0 where
  pub reference : TypedReference
  pub scalar : Option ScalarType

-- an object, or an element of it
abbrev pub whole_part : (object : ℕ) → Subscript → ObjectType → FoundPart
whole_part object subscript object_type =
    record { reference = PartOf object subscript None 0 NoSubscript; scalar = scalar_of object_type }

-- the meaning of a reference once the subscript of its object is known: the element, or a member of it
abbrev pub part_with_member :
    (object : ℕ) → ObjectType → Subscript → Extent → GivenMember → Constants → Checked (FoundPart × Constants)
part_with_member object object_type subscript extent WithoutMember constants =
    Ok (whole_part object subscript object_type, constants)
part_with_member object object_type subscript extent (WithMember name given) constants = do
  members ← found (members_of object_type) MemberMismatch (place_of name)
  place ← found (member_named members name.name) UnknownName (place_of name)
  _ ← require (takes_subscripts extent place.member.dimension (count_of_given given)) SubscriptMismatch (place_of name)
  typed ← given.typed constants
  Ok (part_of_member object subscript place typed.0, typed.1)
  where
    part_of_member : ℕ → Subscript → FoundMember → TypedArguments → FoundPart
    part_of_member object subscript place indices = record {
      reference = PartOf object subscript (Some place.position) place.offset
          (subscript_of (size_of_scalar place.member.scalar) place.member.dimension indices);
      scalar = Some place.member.scalar;
    }

-- the meaning of a reference to an object
abbrev pub part_of :
    (number : ℕ) → TypedObject → Extent → GivenReference → Constants → Checked (FoundPart × Constants)
part_of number object extent given constants = do
  _ ← require (takes_subscripts extent object.dimension (count_of_given given.arguments)) SubscriptMismatch
      (place_of given.name)
  typed ← given.arguments.typed constants
  part_with_member number object.object_type
      (subscript_of (size_of_element object.object_type) object.dimension typed.0)
      extent given.member typed.1

-- a reference to a scalar: an array without a subscript and a structure are not scalars
abbrev pub scalar_part :
    (number : ℕ) → TypedObject → GivenReference → Constants
    → Checked (TypedReference × ScalarType × Constants)
scalar_part number object given constants = do
  part ← part_of number object AnElement given constants
  scalar ← found part.0.scalar MemberMismatch (place_of given.name)
  Ok (part.0.reference, scalar, part.1)

-- the location of an object or of a part of it, by the binding of a name; of an array or a structure the start
abbrev pub location_of_bound :
    Known → Binding → GivenReference → Constants → Checked (TypedExpression × Constants)
location_of_bound known (Declared (Object number)) given constants = do
  object ← object_of known given.name number
  _ ← require (has_location object.home) NoLocation (place_of given.name)
  part ← part_of number object AlsoTheWhole given constants
  Ok (LocationNode part.0.reference, part.1)
location_of_bound known (Declared (Procedure number)) given constants = refuse NoLocation (place_of given.name)
location_of_bound known binding given constants = refuse NoVariable (place_of given.name)

abbrev pub location_of : Known → GivenReference → Constants → Checked (TypedExpression × Constants)
location_of known given constants = do
  binding ← bound known given.name
  location_of_bound known binding given constants

-- a port: a number up to 255, or a string of one character
abbrev pub port_from : (place : Place) (number : ℕ) → Checked ℕ
port_from place number = do
  _ ← require (nat_le number 255) PortTooLarge place
  Ok number

abbrev pub port_of_character : (place : Place) → List ℕ → Checked ℕ
port_of_character place (character ∷ []) = port_from place character
port_of_character place characters = refuse PortNotConstant place

abbrev pub port_of : (place : Place) → ArgumentTrees → Checked ℕ
port_of place (MoreArguments (ConstantLeaf (NumberConstant number)) NoArguments) =
    port_from number.place number.value
port_of place (MoreArguments (ConstantLeaf (StringConstant string)) NoArguments) =
    port_of_character place string.characters
port_of place trees = refuse PortNotConstant place

-- the result of a procedure has no members
abbrev pub without_member : GivenMember → Checked (Unit {0})
without_member WithoutMember = Ok tt
without_member (WithMember name given) = refuse MemberMismatch (place_of name)

abbrev pub is_writable : TypedObject → Identifier → Checked (Unit {0})
is_writable object name = require (not (is_constant object.home)) ConstantWritten (place_of name)

-- the destination of an assigned value: a scalar, or OUTPUT
abbrev pub destination_of_bound :
    Known → Binding → GivenReference → Constants → Checked (Destination × Constants)
destination_of_bound known (Declared (Object number)) given constants = do
  object ← object_of known given.name number
  _ ← is_writable object given.name
  part ← scalar_part number object given constants
  Ok (Variable part.1 part.0, part.2)
destination_of_bound known (BuiltInName Output) given constants = do
  port ← port_of (place_of given.name) given.arguments.trees
  _ ← without_member given.member
  Ok (Port port, constants)
destination_of_bound known binding given constants = refuse NoVariable (place_of given.name)

abbrev pub destination_of : Known → GivenReference → Constants → Checked (Destination × Constants)
destination_of known given constants = do
  binding ← bound known given.name
  destination_of_bound known binding given constants
