-- What expressions whose values are known mean where the object module of their module lies.
use Rattle.std.specs.Prelude.{◌≡◌, ℕ, List, Option, Some}
use Rattle.object_modules.specs.declared.segment.Target.{Target}
use Rattle.object_modules.specs.Module.{ObjectModule}
use Rattle.typed_trees.specs.TypedTrees.{TypedExpression, TypedModule}
use Rattle.typed_trees.specs.WellTyped.{TypesHold, Within}
use Rattle.layout.specs.Segments.{address_of_location}
use Rattle.layout.specs.Storage.{storage_with}
use Rattle.meaning.specs.Meaning.{Later, value}
use Rattle.meaning.specs.Outcomes.{Gave, Program, State}
use Rattle.treecode.specs.declared.place.Place.{Place}
use Rattle.treecode.specs.internal.Homes.{externals_of, homes_of}
use Rattle.treecode.specs.internal.Known.{known_value}
use Rattle.treecode_laws.specs.internal.Places.{location_of_place}
use Rattle.procedure_laws.specs.OneModule.{around_in}
use Rattle.program_laws.specs.OneModule.{LiesInMemory}
use Rattle.program_laws.specs.internal.Layouts.{address_for}

-- the value of an expression of a module, where it is known but for where things lie
abbrev pub known_in : TypedModule → TypedExpression → Option Place
known_in typed expression = known_value (homes_of typed (storage_with typed)) (storage_with typed) expression

-- the number that such a value is, where things lie
abbrev pub number_in :
    (address_of : Target → ℕ) → (address_of_name : (name : List ℕ) → ℕ) → TypedModule → Place → ℕ
number_in address_of address_of_name typed place =
    address_of_location (address_for address_of address_of_name) (location_of_place (externals_of typed) place)

-- In every program that a module is one of, and wherever its object module lies, an expression of it whose value is known
-- gives that value, and leaves the state.
abbrev pub ValuesAreKnown : TypedModule → ObjectModule → Type 0
ValuesAreKnown typed object =
    (program : Program) (number : ℕ) (address_of : Target → ℕ) (address_of_name : (name : List ℕ) → ℕ)
    (memory : List ℕ) (room : ℕ) (later : Later) (within : Within) (expression : TypedExpression) (place : Place)
    (s : State)
    → LiesInMemory program number typed object address_of address_of_name memory
    → TypesHold typed within expression
    → known_in typed expression ≡ Some place
    → value later (around_in program number room) expression s
    ≡ Gave (number_in address_of address_of_name typed place) s
