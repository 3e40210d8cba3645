-- The EXTERNAL names that tree code refers to, by their indices: those of a module are among its own.
use Rattle.std.specs.Prelude.{◌≡◌, ◌<◌, ℕ, List, length, Some, IfSome, slice_get}
use Rattle.std.specs.List.{AllByRecursion}
use Rattle.treecode.specs.declared.expression.ExpressionNumber.{ExpressionNumber}
use Rattle.treecode.specs.declared.module.Content.{Content}
use Rattle.treecode.specs.declared.module.Content.TheVariants as contents
use Rattle.treecode.specs.declared.module.TreeModule.{TreeModule}
use Rattle.treecode.specs.declared.place.Home.{Home}
use Rattle.treecode.specs.declared.place.Home.TheVariants as homes
use Rattle.treecode.specs.declared.place.Location.{Location}
use Rattle.treecode.specs.declared.place.Location.TheVariants as locations
use Rattle.treecode.specs.declared.place.Place.{Place}
use Rattle.treecode.specs.declared.place.Place.TheVariants.{External}
use Rattle.treecode.specs.declared.procedure.Parameter.{Parameter}
use Rattle.treecode.specs.declared.procedure.ProcedureKind.{ProcedureKind}
use Rattle.treecode.specs.declared.procedure.ProcedureKind.TheVariants as kinds
use Rattle.treecode.specs.declared.procedure.TreeProcedure.{TreeProcedure}
use Rattle.treecode.specs.internal.Nodes.{home_at, nodes_of}
use Rattle.treecode.specs.internal.Traits.{known_at}

-- a place has no name, or one of `count` names
abbrev pub PlaceIsNamed : (count : ℕ) → Place → Type 0
PlaceIsNamed count (External offset name) = name < count
PlaceIsNamed count place = Unit {0}

-- so has a location, a home, a piece of a segment
abbrev pub LocationIsNamed : (count : ℕ) → Location → Type 0
LocationIsNamed count (locations.Static place) = PlaceIsNamed count place
LocationIsNamed count (locations.Frame variable offset) = Unit {0}

abbrev pub HomeIsNamed : (count : ℕ) → Home → Type 0
HomeIsNamed count (homes.Static place) = PlaceIsNamed count place
HomeIsNamed count (homes.Based base) = LocationIsNamed count base
HomeIsNamed count (homes.Frame variable) = Unit {0}

abbrev pub ContentIsNamed : (count : ℕ) → Content → Type 0
ContentIsNamed count (contents.Word place) = PlaceIsNamed count place
ContentIsNamed count content = Unit {0}

-- a procedure is of this module, or has one of `count` names
abbrev pub KindIsNamed : (count : ℕ) → ProcedureKind → Type 0
KindIsNamed count (kinds.External name) = name < count
KindIsNamed count kind = Unit {0}

-- the location of each parameter
abbrev pub ParametersAreNamed : (count : ℕ) → List Parameter → Type 0
ParametersAreNamed count parameters =
    (index : ℕ) (parameter : Parameter)
    → slice_get parameters index ≡ Some parameter
    → LocationIsNamed count parameter.location

-- all homes
abbrev pub HomesAreNamed : (count : ℕ) → List Home → Type 0
HomesAreNamed count starts = (object : ℕ) → HomeIsNamed count (home_at starts object)

-- all that tree code refers to has one of `count` names, or none
pub record NamesBelow (count : ℕ) (tree : TreeModule) : Type 0 where
  pub homes : HomesAreNamed count tree.homes.items
  pub known : (number : ExpressionNumber) → IfSome (known_at (nodes_of tree) number) (PlaceIsNamed count)
  pub kinds :
      (number : ℕ) (procedure : TreeProcedure)
      → slice_get tree.procedures.items number ≡ Some procedure
      → KindIsNamed count procedure.kind
  pub parameters :
      (number : ℕ) (procedure : TreeProcedure)
      → slice_get tree.procedures.items number ≡ Some procedure
      → ParametersAreNamed count procedure.parameters.items
  pub constants : AllByRecursion (ContentIsNamed count) tree.constants.items
  pub variables : AllByRecursion (ContentIsNamed count) tree.variables.items

-- how many EXTERNAL names a module has
abbrev pub name_count : TreeModule → ℕ
name_count tree = length tree.externals.items

-- all that it refers to has one of these names, or none
abbrev pub NamesItsOwn : TreeModule → Type 0
NamesItsOwn tree = NamesBelow (name_count tree) tree
