-- References to the same place, found by a simple comparison.
use Rattle.std.specs.Prelude.{Bool, true, false, ◌&&◌, ◌||◌, nat_eq, Option, Some, None, option_map}
use Rattle.trees.specs.declared.declaration.ScalarType.{ScalarType}
use Rattle.trees.specs.declared.declaration.ScalarType.TheVariants.{Byte, Address}
use Rattle.treecode.specs.declared.expression.ExpressionForm.{ExpressionForm}
use Rattle.treecode.specs.declared.expression.ExpressionForm.TheVariants.{Conversion, Value}
use Rattle.treecode.specs.declared.expression.ExpressionNumber.{ExpressionNumber}
use Rattle.treecode.specs.declared.place.Location.{Location}
use Rattle.treecode.specs.declared.reference.Reference.{Reference}
use Rattle.treecode.specs.declared.reference.Subscript.{Subscript}
use Rattle.steps8080.specs.internal.Facts.{same_location}
use Rattle.steps8080.specs.declared.sites.site.Site.{Site}
use Rattle.steps8080.specs.internal.Site.{expression}
use Rattle.steps8080.specs.internal.Queries.{location_of, number}

-- the location and the type of the scalar that an expression of this form reads
abbrev pub scalar_of_form : Site → ExpressionForm → ScalarType → Option (Location × ScalarType)
scalar_of_form site (Value reference) scalar =
    option_map (λ location. (location, scalar)) (location_of site reference)
scalar_of_form site form scalar = None

-- the location and the type of the scalar that an expression reads, if it reads one without a base and
-- computed subscripts
abbrev pub scalar_at : Site → ExpressionNumber → Option (Location × ScalarType)
scalar_at site value = elim (expression site value) [
  | Some found ↦ scalar_of_form site found.form found.traits.scalar
  | None ↦ None
]

-- whether two types are the same
abbrev pub same_scalar : (one other : ScalarType) → Bool
same_scalar Byte Byte = true
same_scalar Address Address = true
same_scalar one other = false

-- whether two scalars have the same type and the same location
abbrev pub are_same_placed : (left right : Option (Location × ScalarType)) → Bool
are_same_placed (Some left) (Some right) = same_scalar left.1 right.1 && same_location left.0 right.0
are_same_placed left right = false

-- whether two expressions read the same scalar
abbrev pub are_same_scalar : Site → (left right : ExpressionNumber) → Bool
are_same_scalar site left right = are_same_placed (scalar_at site left) (scalar_at site right)

-- whether two expressions are the same number or read the same scalar
abbrev pub are_same_leaf : Site → (left right : ExpressionNumber) → Bool
are_same_leaf site left right = elim (number site left) [
  | Some one ↦ elim (number site right) [
    | Some other ↦ nat_eq one other
    | None ↦ are_same_scalar site left right
  ]
  | None ↦ are_same_scalar site left right
]

-- the number of an expression without the conversion around it, by its form
abbrev pub inside_conversion : ExpressionForm → ExpressionNumber → ExpressionNumber
inside_conversion (Conversion inner) value = inner
inside_conversion form value = value

-- an expression without the conversion around it, if there is one
abbrev pub unconverted : Site → ExpressionNumber → ExpressionNumber
unconverted site value = elim (expression site value) [
  | Some found ↦ inside_conversion found.form value
  | None ↦ value
]

-- whether two subscripts are the same number, or read the same scalar, which may be converted
abbrev pub are_same_subscript : Site → (left right : Subscript) → Bool
are_same_subscript site left right =
    nat_eq left.stride right.stride
    && (are_same_leaf site left.index right.index
    || are_same_scalar site (unconverted site left.index) (unconverted site right.index))

-- whether two optional subscripts are the same
abbrev pub are_same_subscripts : Site → (left right : Option Subscript) → Bool
are_same_subscripts site None None = true
are_same_subscripts site (Some left) (Some right) = are_same_subscript site left right
are_same_subscripts site left right = false

-- whether two references have the same place, and computing its address changes nothing: both have the same
-- numbers or scalars as subscripts
abbrev pub are_same : Site → (left right : Reference) → Bool
are_same site left right =
    nat_eq left.object right.object
    && nat_eq left.offset right.offset
    && are_same_subscripts site left.subscript right.subscript
    && are_same_subscripts site left.member_subscript right.member_subscript
