-- How many bytes objects take, and which scalars they hold (PL/M-80 Programming Manual, "Arrays and
-- structures").
use Rattle.std.specs.Prelude.{ℕ, suc, ◌+◌, ◌*◌, min, Bool, List, [], ◌∷◌, replicate, Option, Some, None, option_map, unwrap_or, flat_map, sum_by, if◌then◌else◌}
use Rattle.std.specs.List.{list_any, repeat}
use Rattle.std.specs.Str.{bytes_eq}
use Rattle.trees.specs.declared.declaration.ScalarType.{ScalarType}
use Rattle.trees.specs.declared.declaration.ScalarType.TheVariants.{Byte, Address}
use Rattle.typed_trees.specs.declared.members.FoundMember.{FoundMember}
use Rattle.typed_trees.specs.declared.parts.TypedMember.{TypedMember}
use Rattle.typed_trees.specs.TypedTrees.{ObjectType, ScalarObject, StructureObject, TypedObject}

-- a BYTE takes one byte, an ADDRESS two
abbrev pub size_of_scalar : ScalarType → ℕ
size_of_scalar Byte = 1
size_of_scalar Address = 2

-- how many elements there are; an object that is not an array counts as one
abbrev pub count_of : Option ℕ → ℕ
count_of dimension = unwrap_or dimension 1

abbrev pub size_of_member : TypedMember → ℕ
size_of_member member = count_of member.dimension * size_of_scalar member.scalar

-- the size of an element: of a scalar, or of the members, which lie one after another
abbrev pub size_of_element : ObjectType → ℕ
size_of_element (ScalarObject scalar) = size_of_scalar scalar
size_of_element (StructureObject members) = sum_by size_of_member members

abbrev pub size_of_object : TypedObject → ℕ
size_of_object object = count_of object.dimension * size_of_element object.object_type

-- whether a structure has a member of a name
abbrev pub has_member : List TypedMember → List ℕ → Bool
has_member members name = list_any (λ (member : TypedMember). bytes_eq member.name name) members

-- the member that is found among those after one, seen from that one
abbrev pub after_member : TypedMember → FoundMember → FoundMember
after_member member later = record later {
  position = suc later.position;
  offset = size_of_member member + later.offset;
}

-- the member of a name
abbrev pub member_named : List TypedMember → List ℕ → Option FoundMember
member_named [] name = None
member_named (member ∷ others) name =
    if bytes_eq member.name name then Some (record { position = 0; offset = 0; member = member })
    else option_map (after_member member) (member_named others name)

-- the same, but for an offset past the greatest number of 32 bits, which becomes that number
abbrev pub capped : FoundMember → FoundMember
capped place = record place { offset = min place.offset 4294967295 }

-- the scalars of a member, of an element, and of a number of elements, in the order of their addresses
abbrev pub scalars_of_member : TypedMember → List ScalarType
scalars_of_member member = replicate (count_of member.dimension) member.scalar

abbrev pub scalars_of_element : ObjectType → List ScalarType
scalars_of_element (ScalarObject scalar) = scalar ∷ []
scalars_of_element (StructureObject members) = flat_map scalars_of_member members

abbrev pub scalars_of_elements : ℕ → ObjectType → List ScalarType
scalars_of_elements count object_type = repeat count (scalars_of_element object_type)
