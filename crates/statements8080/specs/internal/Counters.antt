-- The variable of an iterative DO.
use Rattle.std.specs.Prelude.{ℕ, Bool, true, false, nat_eq, nat_le, Option, Some, None}
use Rattle.trees.specs.declared.declaration.ScalarType.{ScalarType}
use Rattle.trees.specs.declared.declaration.ScalarType.TheVariants.{Byte, Address}
use Rattle.treecode.specs.declared.expression.ExpressionNumber.{ExpressionNumber}
use Rattle.treecode.specs.declared.place.Place.{Place}
use Rattle.treecode.specs.declared.statement.Iteration.{Iteration}
use Rattle.steps8080.specs.declared.facts.Facts.{Facts}
use Rattle.steps8080.specs.internal.Facts.{no_facts}
use Rattle.steps8080.specs.internal.Instructions.{low}
use Rattle.steps8080.specs.declared.sites.site.Site.{Site}
use Rattle.steps8080.specs.internal.Queries.{location_of, number, place_in_memory}
use Rattle.statements8080.specs.declared.iteration.Counter.{Counter}
use Rattle.statements8080.specs.internal.Bodies.{whole}

-- the variable of an iterative DO
abbrev pub counter_of : Site → Iteration → Counter
counter_of site head = record {
  reference = whole head.variable;
  scalar = head.scalar;
  location = location_of site (whole head.variable);
}

-- its place in memory, if it is not in the frame
abbrev pub counter_place : Counter → Option Place
counter_place counter = place_in_memory counter.location

-- the fact that HL holds its address
abbrev pub address_fact : Counter → Facts
address_fact counter = record no_facts { address_in_hl = counter.location }

-- the fact that HL holds its value
abbrev pub word_fact : Counter → Facts
word_fact counter = record no_facts { word_in_hl = counter.location }

-- a number converted to a type
abbrev pub converted : ScalarType → (known : ℕ) → ℕ
converted Byte known = low known
converted Address known = known

-- its first value, if known
abbrev pub first_value : Counter → Site → (first : ExpressionNumber) → Option ℕ
first_value counter site first = elim (number site first) [
  | Some known ↦ Some (converted counter.scalar known)
  | None ↦ None
]

-- whether there is a first turn, if known
unfoldable pub has_a_turn : Site → Counter → Iteration → Option Bool
has_a_turn site counter head = elim (first_value counter site head.first) [
  | Some first ↦ elim (number site head.last) [ Some last ↦ Some (nat_le first last) | None ↦ None ]
  | None ↦ None
]

-- whether the variable is counted by 1
abbrev pub counts_by_one : Site → (step : Option ExpressionNumber) → Bool
counts_by_one site None = true
counts_by_one site (Some step) = elim (number site step) [ Some known ↦ nat_eq known 1 | None ↦ false ]
