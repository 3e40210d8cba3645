-- What is known at the place of a reference, and the objects that references mean (PL/M-80 Programming Manual,
-- "Subscripted variables", "Structures", "Based variables").
use Rattle.std.specs.Prelude.{ℕ, zero, suc, Bool, true, false, List, Option, Some, None}
use Rattle.trees.specs.declared.declaration.ScalarType.{ScalarType}
use Rattle.trees.specs.declared.identifier.Identifier.{Identifier}
use Rattle.trees.specs.declared.identifier.Place.{Place}
use Rattle.trees.specs.Trees.{ArgumentTrees, NoArguments, MoreArguments}
use Rattle.names.specs.Environment.{Here}
use Rattle.typed_trees.specs.declared.parts.TypedMember.{TypedMember}
use Rattle.typed_trees.specs.TypedTrees.{ObjectType, ScalarObject, StructureObject, Home, InConstants, InFrame, TypedObject, TypedProcedure}

-- what is known at the place of an expression: what names stand for, and the objects and procedures so far
pub record Known : Type 0 where
  pub here : Here
  pub objects : List TypedObject
  pub procedures : List TypedProcedure

abbrev pub place_of : Identifier → Place
place_of name = name.place

-- where no word is to blame
abbrev pub no_place : Place
no_place = record { start = 0; line = 0 }

abbrev pub number_of_arguments : ArgumentTrees → ℕ
number_of_arguments NoArguments = zero
number_of_arguments (MoreArguments first others) = suc (number_of_arguments others)

-- How much of an array a reference means: an element alone, or also the whole, if it has no subscript.
pub data Extent : Type 0 where
  AnElement : Extent
  AlsoTheWhole : Extent

-- the members of a structure; a scalar has none
abbrev pub members_of : ObjectType → Option (List TypedMember)
members_of (ScalarObject scalar) = None
members_of (StructureObject members) = Some members

-- the type of a scalar; a structure has none
abbrev pub scalar_of : ObjectType → Option ScalarType
scalar_of (ScalarObject scalar) = Some scalar
scalar_of (StructureObject members) = None

-- Whether an object has a location. One in the frame of a call has none.
abbrev pub has_location : Home → Bool
has_location (InFrame procedure) = false
has_location home = true

-- objects with DATA are not written to by their names
abbrev pub is_constant : Home → Bool
is_constant (InConstants values) = true
is_constant home = false

-- what LENGTH, LAST and SIZE measure: an object, or a member of it
pub record Measured : Type 0 where
  pub object : ℕ
  pub member : Option ℕ
  pub dimension : Option ℕ
  pub size : ℕ
