-- What a reference says of its object is what the object's declaration says.
use Rattle.std.specs.Prelude.{◌≡◌, ℕ, take, slice_get, sum_by, List, Option, Some, None, IsSomeAnd}
use Rattle.trees.specs.declared.declaration.ScalarType.{ScalarType}
use Rattle.typed_trees.specs.declared.parts.TypedMember.{TypedMember}
use Rattle.typed_trees.specs.TypedTrees.{TypedReference, PartOf, Subscript, NoSubscript, At, ObjectType, ScalarObject, StructureObject, TypedObject}
use Rattle.typed_trees.specs.Sizes.{size_of_scalar, size_of_member, size_of_element}

-- a subscript is one of an array, with the size of its elements and how many there are
abbrev pub IsSubscriptOf : (size : ℕ) → (dimension : Option ℕ) → Subscript → Type 0
IsSubscriptOf size dimension NoSubscript = Unit {0}
IsSubscriptOf size dimension (At stride count index) = (stride ≡ size) × (dimension ≡ Some count)

-- a member begins in its element after the members before it
abbrev pub IsMemberOf : List TypedMember → (position offset : ℕ) → Subscript → Type 0
IsMemberOf members position offset subscript =
    (offset ≡ sum_by size_of_member (take position members))
    × IsSomeAnd (slice_get members position)
    (λ (member : TypedMember). IsSubscriptOf (size_of_scalar member.scalar) member.dimension subscript)

-- a part of an element: all of it, or a member of a structure
abbrev pub IsInElement : ObjectType → (member : Option ℕ) → (offset : ℕ) → Subscript → Type 0
IsInElement object_type None offset its_subscript = (offset ≡ 0) × (its_subscript ≡ NoSubscript)
IsInElement (ScalarObject scalar) (Some position) offset its_subscript = ⊥
IsInElement (StructureObject members) (Some position) offset its_subscript =
    IsMemberOf members position offset its_subscript

-- a part of an object
abbrev pub IsPartOf : TypedObject → TypedReference → Type 0
IsPartOf object (PartOf number subscript member offset member_subscript) =
    IsSubscriptOf (size_of_element object.object_type) object.dimension subscript
    × IsInElement object.object_type member offset member_subscript

-- one element of an array, or an object that is not an array
abbrev pub IsOneOf : (dimension : Option ℕ) → Subscript → Type 0
IsOneOf dimension NoSubscript = dimension ≡ None
IsOneOf dimension (At stride count index) = Unit {0}

-- the scalar of an element, or that of a member of it
abbrev pub IsScalarIn : ObjectType → (member : Option ℕ) → Subscript → ScalarType → Type 0
IsScalarIn (ScalarObject own) None its_subscript scalar = own ≡ scalar
IsScalarIn (StructureObject members) (Some position) its_subscript scalar =
    IsSomeAnd (slice_get members position)
    (λ (member : TypedMember). (member.scalar ≡ scalar) × IsOneOf member.dimension its_subscript)
IsScalarIn object_type member its_subscript scalar = ⊥

-- a scalar of an object
abbrev pub IsScalarOf : TypedObject → ScalarType → TypedReference → Type 0
IsScalarOf object scalar (PartOf number subscript member offset member_subscript) =
    IsPartOf object (PartOf number subscript member offset member_subscript)
    × IsOneOf object.dimension subscript
    × IsScalarIn object.object_type member member_subscript scalar

-- an object that is a scalar itself
abbrev pub IsScalar : ScalarType → TypedObject → Type 0
IsScalar scalar object = (object.dimension ≡ None) × (object.object_type ≡ ScalarObject scalar)
