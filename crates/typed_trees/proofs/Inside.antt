-- What lies at subscripts below their dimensions lies within the bytes of its object.
use Rattle.typed_trees.proofs.Prelude.{◌≡◌, ℕ, zero, suc, ◌+◌, ◌*◌, ◌<◌, ◌≤◌, List, [], ◌∷◌, take, sum_by, slice_get, Option, None, Some, refl, ap, subst, arith, one-mul, suc-mul, mul_comm, mul-le-mul_right, IsSomeAnd, sum_by-cons, ScalarType, TypedMember, PartOf, Subscript, NoSubscript, At, ObjectType, ScalarObject, StructureObject, TypedObject, size_of_scalar, count_of, size_of_member, size_of_element, size_of_object, IsSubscriptOf, IsInElement, IsOneOf, IsScalarIn, IsScalarOf}

-- how many bytes further on an element lies, at an index below the dimension
abbrev pub LiesAt : Subscript → (bytes : ℕ) → Type 0
LiesAt NoSubscript bytes = bytes ≡ 0
LiesAt (At stride count index) bytes = (number : ℕ) × (number < count) × (bytes ≡ stride * number)

-- an element is one of its array
element_within : (size : ℕ) (dimension : Option ℕ) (subscript : Subscript) (bytes : ℕ)
    → IsSubscriptOf size dimension subscript → IsOneOf dimension subscript → LiesAt subscript bytes
    → bytes + size ≤ count_of dimension * size
element_within size dimension NoSubscript bytes is one at =
    let count : count_of dimension * size ≡ 1 * size = ap (λ (its : Option ℕ). count_of its * size) one in
    omega (arith, at, count, one-mul size)
element_within size dimension (At stride count index) bytes is one (number, below, at) =
    let all : count_of dimension * size ≡ count * size = ap (λ (its : Option ℕ). count_of its * size) is.1 in
    let first : bytes ≡ size * number = at_size at in
    omega (arith, first, mul_comm size number, all, suc-mul number size, mul-le-mul_right size (up below))
  where
    at_size : bytes ≡ stride * number → bytes ≡ size * number
    at_size e = subst (λ (each : ℕ). bytes ≡ each * number) is.0 e

    up : number < count → suc number ≤ count
    up below = omega (arith, below)

-- a member is one of its structure
member_within : (members : List TypedMember) (position : ℕ) (member : TypedMember)
    → slice_get members position ≡ Some member
    → sum_by size_of_member (take position members) + size_of_member member ≤ sum_by size_of_member members
member_within [] position member is = absurd cc
member_within (first ∷ members) zero member is =
    let same : first ≡ member = cc in
    omega (arith, sum_by-cons size_of_member first members, ap size_of_member same)
member_within (first ∷ members) (suc position) member is =
    omega (
      arith,
      sum_by-cons size_of_member first members,
      sum_by-cons size_of_member first (take position members),
      member_within members position member is,
    )

in_member : (members : List TypedMember) (position offset : ℕ) (subscript : Subscript)
    (scalar : ScalarType) (bytes : ℕ)
    (found : Option TypedMember)
    → slice_get members position ≡ found
    → offset ≡ sum_by size_of_member (take position members)
    → IsSomeAnd found
    (λ (member : TypedMember). IsSubscriptOf (size_of_scalar member.scalar) member.dimension subscript)
    → IsSomeAnd found
    (λ (member : TypedMember). (member.scalar ≡ scalar) × IsOneOf member.dimension subscript)
    → LiesAt subscript bytes
    → offset + bytes + size_of_scalar scalar ≤ sum_by size_of_member members
in_member members position offset element scalar bytes None is begins of_it one at = absurd of_it
in_member members position offset element scalar bytes (Some member) is begins of_it one at =
    omega (
      arith,
      begins,
      member_within members position member is,
      element_within (size_of_scalar member.scalar) member.dimension element bytes of_it one.1 at,
      ap size_of_scalar one.0,
    )

scalar_within : (object_type : ObjectType) (member : Option ℕ) (offset : ℕ) (subscript : Subscript)
    (scalar : ScalarType) (bytes : ℕ)
    → IsInElement object_type member offset subscript → IsScalarIn object_type member subscript scalar
    → LiesAt subscript bytes
    → offset + bytes + size_of_scalar scalar ≤ size_of_element object_type
scalar_within (ScalarObject own) None offset element scalar bytes is scalar_is at =
    omega (arith, is.0, subst (λ (its : Subscript). LiesAt its bytes) is.1 at, ap size_of_scalar scalar_is)
scalar_within (ScalarObject own) (Some position) offset element scalar bytes is scalar_is at = absurd is
scalar_within (StructureObject members) None offset element scalar bytes is scalar_is at = absurd scalar_is
scalar_within (StructureObject members) (Some position) offset element scalar bytes is scalar_is at =
    in_member members position offset element scalar bytes (slice_get members position) refl
    is.0 is.1 scalar_is at

-- A scalar of an object, at indices below the dimensions, lies within the object's bytes.
pub scalar_lies_within : (object : TypedObject) (scalar : ScalarType) (number : ℕ) (subscript : Subscript)
    (member : Option ℕ) (offset : ℕ) (member_subscript : Subscript) (bytes more : ℕ)
    → IsScalarOf object scalar (PartOf number subscript member offset member_subscript)
    → LiesAt subscript bytes → LiesAt member_subscript more
    → bytes + offset + more + size_of_scalar scalar ≤ size_of_object object
scalar_lies_within object scalar number subscript member offset member_subscript bytes more is one other =
    omega (
      arith,
      element_within (size_of_element object.object_type) object.dimension subscript bytes is.0.0 is.1 one,
      scalar_within object.object_type member offset member_subscript scalar more is.0.1 is.2 other,
    )
