-- Queries of a site about the tree.
use Rattle.std.specs.Prelude.{ℕ, ◌+◌, ◌-◌, ◌*◌, ◌%◌, Bool, false, ◌&&◌, ◌||◌, Option, Some, None, is_some, option_and_then, unwrap_or}
use Rattle.trees.specs.declared.declaration.ScalarType.{ScalarType}
use Rattle.trees.specs.declared.declaration.ScalarType.TheVariants as scalars
use Rattle.trees.specs.declared.expression.BinaryOperator.{BinaryOperator}
use Rattle.trees.specs.declared.expression.BinaryOperator.TheVariants.{Add, Subtract}
use Rattle.trees.specs.internal.Functions.{byte_taken, for_byte}
use Rattle.treecode.specs.declared.expression.Expression.{Expression}
use Rattle.treecode.specs.declared.expression.ExpressionForm.{ExpressionForm}
use Rattle.treecode.specs.declared.expression.ExpressionForm.TheVariants.{Binary, Function, Value}
use Rattle.treecode.specs.declared.expression.ExpressionNumber.{ExpressionNumber}
use Rattle.treecode.specs.declared.place.Home.{Home}
use Rattle.treecode.specs.declared.place.Home.TheVariants as homes
use Rattle.treecode.specs.declared.place.Location.{Location}
use Rattle.treecode.specs.declared.place.Location.TheVariants as locations
use Rattle.treecode.specs.declared.place.Place.{Place}
use Rattle.treecode.specs.declared.reference.Reference.{Reference}
use Rattle.treecode.specs.declared.reference.Subscript.{Subscript}
use Rattle.treecode.specs.declared.traits.Keeps.{Keeps}
use Rattle.treecode.specs.internal.Homes.{place_after}
use Rattle.treecode.specs.internal.Queries.{home, inside, keeps_of_reference, none_kept, place_number}
use Rattle.steps8080.specs.internal.Facts.{same_location}
use Rattle.steps8080.specs.declared.sites.queries.Base.{Base}
use Rattle.steps8080.specs.declared.sites.queries.Base.TheVariants.{Static, Based, Frame}
use Rattle.steps8080.specs.declared.sites.queries.Located.{Located}
use Rattle.steps8080.specs.declared.sites.queries.Split.{Split}
use Rattle.steps8080.specs.declared.sites.site.Site.{Site}
use Rattle.steps8080.specs.internal.Site.{expression}

-- a base `distance` bytes further on, modulo 65536
abbrev pub base_after : Base → (distance : ℕ) → Base
base_after (Static place) distance = Static (place_after place distance)
base_after (Based pointer offset) distance = Based pointer ((offset + distance) % 65536)
base_after (Frame variable offset) distance = Frame variable ((offset + distance) % 65536)

-- the base of an object
abbrev pub base_of : Home → Base
base_of (homes.Static place) = Static place
base_of (homes.Based pointer) = Based pointer 0
base_of (homes.Frame variable) = Frame variable 0

-- whether both locations are there, and are the same
abbrev pub are_same : (first second : Option Location) → Bool
are_same (Some first) (Some second) = same_location first second
are_same first second = false

-- a reference to the place `distance` bytes further on
abbrev pub reference_after : Reference → (distance : ℕ) → Reference
reference_after reference distance = record reference { offset = (reference.offset + distance) % 65536 }

-- the value of an expression, if it is known as a number or a relocatable address; exact in its type
unfoldable pub known : Site → ExpressionNumber → Option Place
known site number = elim (expression site number) [
  | Some found ↦ found.traits.known
  | None ↦ None
]

-- the value of an expression, if it is known as a number
unfoldable pub number : Site → ExpressionNumber → Option ℕ
number site of = elim (known site of) [
  | Some place ↦ place_number place
  | None ↦ None
]

-- whether evaluating an expression changes nothing: it calls nothing, stores nothing and reads no port
unfoldable pub is_quiet : Site → ExpressionNumber → Bool
is_quiet site number = elim (expression site number) [
  | Some found ↦ found.traits.is_quiet
  | None ↦ false
]

-- whether an expression calls nothing and stores nothing
unfoldable pub stores_nothing : Site → ExpressionNumber → Bool
stores_nothing site number = elim (expression site number) [
  | Some found ↦ found.traits.stores_nothing
  | None ↦ false
]

-- whether the code that puts the low byte of an expression into A changes only A and the flags
unfoldable pub is_free : Site → ExpressionNumber → Bool
is_free site number = elim (expression site number) [
  | Some found ↦ found.traits.is_free
  | None ↦ false
]

-- the registers that the code putting the value of an expression into HL keeps
unfoldable pub keeps : Site → ExpressionNumber → Keeps
keeps site number = elim (expression site number) [
  | Some found ↦ found.traits.keeps
  | None ↦ none_kept
]

-- the registers that the code putting the address of a part of an object into HL keeps
unfoldable pub keeps_of_address : Site → Reference → Keeps
keeps_of_address site reference = keeps_of_reference site.tree.now reference

-- whether the second of two operands may be evaluated first without a difference: the first is known, or it
-- changes nothing and the second stores nothing
unfoldable pub may_exchange : Site → (left right : ExpressionNumber) → Bool
may_exchange site left right =
    is_some (known site left) || (is_quiet site left && stores_nothing site right)

-- a computed subscript that adds `offset` known bytes
abbrev pub split_into : (index : ExpressionNumber) → (stride offset : ℕ) → Split
split_into index stride offset = record {
  computed = Some (record { index = index; stride = stride });
  offset = offset;
}

-- the split of a subscript that is the sum or difference of a computed ADDRESS and a number
abbrev pub split_sum :
    Subscript → BinaryOperator → (right : ℕ) → (left : ExpressionNumber) → Option Split
split_sum subscript Add right left =
    Some (split_into left subscript.stride ((right * subscript.stride) % 65536))
split_sum subscript Subtract right left =
    Some (split_into left subscript.stride ((65536 - (right * subscript.stride) % 65536) % 65536))
split_sum subscript operator right left = None

-- a computed subscript without a known part
abbrev pub split_whole : Subscript → Split
split_whole subscript = record { computed = Some subscript; offset = 0 }

-- the split of a computed subscript with this form
abbrev pub split_form : Site → Subscript → ExpressionForm → Split
split_form site subscript (Binary scalars.Address operator left right) =
    unwrap_or
    (option_and_then (λ value. split_sum subscript operator value left) (number site right))
    (split_whole subscript)
split_form site subscript form = split_whole subscript

-- the split of a computed subscript
unfoldable pub split_computed : Site → Subscript → Split
split_computed site subscript = elim (expression site subscript.index) [
  | Some found ↦ split_form site subscript found.form
  | None ↦ split_whole subscript
]

-- the split of a subscript, if there is one; known are a number, and a number that is added to an ADDRESS or
-- subtracted from it
unfoldable pub split : Site → Option Subscript → Split
split site None = record { computed = None; offset = 0 }
split site (Some subscript) = elim (number site subscript.index) [
  | Some index ↦ record { computed = None; offset = (index * subscript.stride) % 65536 }
  | None ↦ split_computed site subscript
]

-- the address of a base with two subscripts; the computed one comes first
abbrev pub located_at : Base → (first second : Option Subscript) → Located
located_at base (Some first) second = record { base = base; first = Some first; second = second }
located_at base None second = record { base = base; first = second; second = None }

-- the parts of the address of an object or a part of it
unfoldable pub located : Site → Reference → Located
located site reference =
    let first : Split = split site reference.subscript in
    let second : Split = split site reference.member_subscript in
    located_at
    (base_after
    (base_after
    (base_after (base_of (home site.tree.now reference.object)) reference.offset)
    first.offset)
    second.offset)
    first.computed
    second.computed

-- the location of a base, if it needs no pointer
abbrev pub location_at : Base → Option Location
location_at (Static place) = Some (locations.Static place)
location_at (Frame variable offset) = Some (locations.Frame variable offset)
location_at (Based pointer offset) = None

-- the location of an object or a part of it, if its address needs no base and no computed subscript
unfoldable pub location_of : Site → Reference → Option Location
location_of site reference = elim (located site reference).first [
  | Some subscript ↦ None
  | None ↦ location_at (located site reference).base
]

-- the place of a location in memory
abbrev pub place_in_memory : Option Location → Option Place
place_in_memory (Some (locations.Static place)) = Some place
place_in_memory location = None

-- the place in memory of an object or a part of it, if that place is known
unfoldable pub direct : Site → Reference → Option Place
direct site reference = place_in_memory (location_of site reference)

-- the high byte of an ADDRESS in memory
abbrev pub high_of : ExpressionForm → ScalarType → Option Reference
high_of (Value reference) scalars.Address = Some (reference_after reference 1)
high_of form scalar = None

-- the part of memory that holds the high byte of an expression, if any
unfoldable pub high_in_memory : Site → ExpressionNumber → Option Reference
high_in_memory site operand =
    option_and_then (λ (found : Expression). high_of found.form found.traits.scalar) (expression site operand)

abbrev pub form_in_memory : Site → ExpressionForm → Option Reference
form_in_memory site (Value reference) = Some reference
form_in_memory site (Function function operand) =
    for_byte (byte_taken function) None (high_in_memory site operand)
form_in_memory site form = None

-- the part of memory that holds the low byte of an expression that is no conversion, and no function that takes the low
-- byte, if any
unfoldable pub plain_in_memory : Site → ExpressionNumber → Option Reference
plain_in_memory site number =
    option_and_then (λ (found : Expression). form_in_memory site found.form) (expression site number)

-- the operand of a conversion, or of a function that takes its low byte, which has the same low byte; else the
-- expression itself
unfoldable pub same_low_byte : Site → ExpressionNumber → ExpressionNumber
same_low_byte site number = elim (expression site number) [
  | Some found ↦ inside number found.form
  | None ↦ number
]

-- the part of memory that holds the low byte of an expression, if the expression is a reference, or a conversion or a
-- function of one
unfoldable pub memory : Site → ExpressionNumber → Option Reference
memory site number = plain_in_memory site (same_low_byte site (same_low_byte site number))

-- the location of the low byte of an expression in memory, if its address needs no base and no computed
unfoldable pub location_of_byte : Site → ExpressionNumber → Option Location
location_of_byte site number = option_and_then (location_of site) (memory site number)

-- whether HL is known to hold the address of the low byte of an expression
unfoldable pub is_at_hl : Site → ExpressionNumber → Bool
is_at_hl site number = are_same (location_of_byte site number) site.facts.address_in_hl
