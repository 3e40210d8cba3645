-- References and their parts as the code has them.
use Rattle.std.specs.Prelude.{◌≡◌, ℕ, Bool, true, false, List, Option, None, Some, Result, Ok, Err}
use Rattle.std.specs.Global.{Box}
use Rattle.trees.specs.declared.expression.Expression.{Expression}
use Rattle.trees.specs.declared.expression.Reference.{Reference, out-Reference}
use Rattle.trees.specs.declared.expression.Selector.{Selector}
use Rattle.trees.specs.Trees.{ExpressionTree, ReferenceLeaf, ReferenceTo, MemberTree, NoMember, MemberOf, ArgumentTrees, NoArguments, MoreArguments}
use Rattle.trees.specs.internal.Views.{argument_trees}
use Rattle.typed_trees.specs.Views.{reference_view}
use Rattle.typed_expressions.specs.declared.known.Known.{Known as CodeKnown}
use Rattle.failure.specs.declared.Failure.{Failure}
use Rattle.trees.specs.declared.identifier.Identifier.{Identifier}
use Rattle.trees.specs.declared.declaration.ScalarType.{ScalarType}
use Rattle.typed_trees.specs.declared.members.FoundMember.{FoundMember}
use Rattle.typed_trees.specs.Sizes.{member_named, size_of_scalar}
use Rattle.typed_trees.specs.TypedTrees.{TypedExpression, TypedReference, PartOf, Subscript, TypedArguments, ObjectType, Constants}
use Rattle.typing.specs.declared.fault.Cause.TheVariants.{UnknownName, MemberMismatch}
use Rattle.typing.specs.declared.fault.Fault.{Fault}
use Rattle.typed_expressions.specs.declared.functions.Measured.{Measured as CodeMeasured}
use Rattle.typed_expressions.specs.declared.members.MemberPlace.{MemberPlace}
use Rattle.typed_expressions.specs.declared.references.FoundScalar.{FoundScalar}
use Rattle.typing.specs.internal.Checks.{Checked, ◌>>=◌, found}
use Rattle.typing.specs.internal.Results.{FailsBy, fault_in}
use Rattle.typed_expressions.specs.declared.references.Extent.{Extent as CodeExtent}
use Rattle.typed_expressions.specs.declared.references.Extent.TheVariants as extents
use Rattle.typed_expressions.specs.declared.references.FoundPart.{FoundPart as CodePart}
use Rattle.typing.specs.internal.ReferenceChecks.{Given, GivenMember, WithoutMember, WithMember, GivenReference, FoundPart, subscript_of}
use Rattle.typing.specs.References.{Extent, AnElement, AlsoTheWhole, place_of, members_of, Measured}
use Rattle.typing.specs.Nodes.{as_type}
use Rattle.typing.specs.internal.Expressions.{arguments}
use Rattle.typed_expressions.specs.internal.Views.{known_view}

abbrev pub extent_view : CodeExtent → Extent
extent_view extents.AnElement = AnElement
extent_view extents.AlsoTheWhole = AlsoTheWhole

abbrev pub part_view : CodePart → FoundPart
part_view part = record { reference = reference_view part.reference; scalar = part.scalar }

-- an argument that stands alone
abbrev pub only_tree : ArgumentTrees → Option ExpressionTree
only_tree (MoreArguments first NoArguments) = Some first
only_tree trees = None

-- arguments with their typing
abbrev pub given_arguments : CodeKnown → List Expression → Given
given_arguments known trees = record {
  trees = argument_trees trees;
  typed = arguments (known_view known) (argument_trees trees);
}

-- the member that a reference names, if it names one
abbrev pub given_selector : CodeKnown → Option (Box Selector) → GivenMember
given_selector known None = WithoutMember
given_selector known (Some member) =
    WithMember member.value.name (given_arguments known member.value.arguments.items)

-- a reference with the typing of its arguments
abbrev pub given : CodeKnown → Reference → GivenReference
given known reference = record {
  name = (out-Reference reference).name;
  arguments = given_arguments known (out-Reference reference).arguments.items;
  member = given_selector known (out-Reference reference).member;
}

-- the member of a name
abbrev pub member_place : ObjectType → Identifier → Checked FoundMember
member_place object_type name = do
  members ← found (members_of object_type) MemberMismatch (place_of name)
  found (member_named members name.name) UnknownName (place_of name)

abbrev pub place_view : MemberPlace → FoundMember
place_view place = record { position = place.position; offset = place.offset; member = place.member }

-- what was returned, with the constants after it, is the scalar that a check gives
abbrev pub GivesScalar : Result FoundScalar (Failure Fault) → (after : Constants)
    → Checked (TypedReference × ScalarType × Constants) → Type 0
GivesScalar (Ok part) after checked = checked ≡ Ok (reference_view part.reference, part.scalar, after)
GivesScalar (Err failure) after checked = FailsBy (fault_in failure) checked

-- a member of an object, or of an element of it
abbrev pub member_part : (object : ℕ) → Subscript → FoundMember → TypedArguments → FoundPart
member_part object subscript place indices = record {
  reference = PartOf object subscript (Some place.position) place.offset
      (subscript_of (size_of_scalar place.member.scalar) place.member.dimension indices);
  scalar = Some place.member.scalar;
}

-- a member with its arguments, if one is named
abbrev pub selector_tree : Option (Box Selector) → MemberTree
selector_tree None = NoMember
selector_tree (Some member) = MemberOf member.value.name (argument_trees member.value.arguments.items)

-- a variable without subscripts that stands alone, or a member of one
abbrev pub plain_tree : Reference → ArgumentTrees
plain_tree reference = MoreArguments (ReferenceLeaf (ReferenceTo (out-Reference reference).name NoArguments
    (selector_tree (out-Reference reference).member))) NoArguments

abbrev pub is_plain : ArgumentTrees → Bool
is_plain (MoreArguments (ReferenceLeaf (ReferenceTo name NoArguments part)) NoArguments) = true
is_plain trees = false

abbrev pub measured_view : CodeMeasured → Measured
measured_view measured = record {
  object = measured.object;
  member = measured.member;
  dimension = measured.dimension;
  size = measured.size;
}

-- a value as one of a type, if one is given
abbrev pub as_given : Option ScalarType → TypedExpression → TypedExpression
as_given (Some scalar) value = as_type scalar value
as_given None value = value
