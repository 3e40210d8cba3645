-- Places that the queries of a site find are named by the module.
use Rattle.steps8080.proofs.Prelude.{ℕ, Option, None, Some, option_map_or}
use Rattle.std.specs.Prelude.{IfSome, slice_get}
use Rattle.std.specs.Option.{option_and_then}
use Rattle.treecode.specs.declared.expression.Expression.{Expression}
use Rattle.treecode.specs.declared.expression.ExpressionNumber.{ExpressionNumber}
use Rattle.treecode.specs.declared.module.TreeModule.{TreeModule}
use Rattle.treecode.specs.declared.place.Home.{Home}
use Rattle.treecode.specs.declared.place.Home.TheVariants as homes
use Rattle.treecode.specs.declared.place.Location.{Location}
use Rattle.treecode.specs.declared.place.Location.TheVariants as locations
use Rattle.treecode.specs.declared.place.Place.{Place}
use Rattle.treecode.specs.declared.place.Place.TheVariants.{Number}
use Rattle.treecode.specs.declared.reference.Reference.{Reference}
use Rattle.treecode.specs.declared.reference.Subscript.{Subscript}
use Rattle.treecode.specs.internal.Homes.{place_after}
use Rattle.treecode.specs.internal.Named.{HomeIsNamed, LocationIsNamed, NamesItsOwn, PlaceIsNamed, name_count}
use Rattle.treecode.specs.internal.Queries.{home}
use Rattle.treecode.specs.internal.Traits.{no_traits}
use Rattle.treecode.proofs.OwnNames.{after_named}
use Rattle.steps8080.specs.declared.sites.queries.Base.{Base}
use Rattle.steps8080.specs.declared.sites.queries.Base.TheVariants as bases
use Rattle.steps8080.specs.declared.sites.site.Site.{Site}
unfoldable use Rattle.steps8080.specs.internal.Queries.{direct, known, located, location_of, split}
use Rattle.steps8080.specs.internal.Queries.{base_after, base_of, located_at, location_at, place_in_memory}
unfoldable use Rattle.steps8080.specs.internal.Site.{expression}
unfoldable use Rattle.steps8080.specs.internal.Widths.{direct_word, word_in_memory}

-- a place, and a location, that a module names, if all that it refers to is named
pub record IsOwn (tree : TreeModule) (place : Place) : Type 0 where
  pub named : NamesItsOwn tree → PlaceIsNamed (name_count tree) place

pub record IsOwnLocation (tree : TreeModule) (location : Location) : Type 0 where
  pub named : NamesItsOwn tree → LocationIsNamed (name_count tree) location

pub number_is_own : {tree : TreeModule} {number : ℕ} → IsOwn tree (Number number)
number_is_own = record { named = λ own. tt }

pub place_is_own : {tree : TreeModule} {place : Place} → IsOwnLocation tree (locations.Static place) → IsOwn tree place
place_is_own is = record { named = is.named }

pub static_is_own : {tree : TreeModule} {place : Place} → IsOwn tree place → IsOwnLocation tree (locations.Static place)
static_is_own is = record { named = is.named }

pub frame_is_own : {tree : TreeModule} {variable offset : ℕ} → IsOwnLocation tree (locations.Frame variable offset)
frame_is_own = record { named = λ own. tt }

pub after_is_own : {tree : TreeModule} {place : Place} (distance : ℕ) → IsOwn tree place
    → IsOwn tree (place_after place distance)
after_is_own {tree = tree} {place = place} distance is =
    record { named = λ own. after_named (name_count tree) place distance (is.named own) }

-- a known value
pub known_is_own : (site : Site) (number : ExpressionNumber)
    → IfSome (known site number) (IsOwn site.tree.now)
unfolding known expression
known_is_own site number = by (slice_get site.tree.now.expressions.items number.index) (λ own. own.known number)
  where
    own_place :
        (found : Option Place)
        → (NamesItsOwn site.tree.now → IfSome found (PlaceIsNamed (name_count site.tree.now)))
        → IfSome found (IsOwn site.tree.now)
    own_place (Some place) is = record { named = is }
    own_place None is = tt

    by : (found : Option Expression)
        → (NamesItsOwn site.tree.now
        → IfSome (option_map_or (λ (one : Expression). one.traits) found no_traits).known
        (PlaceIsNamed (name_count site.tree.now)))
        → IfSome (elim found [ Some one ↦ one.traits.known | None ↦ None ]) (IsOwn site.tree.now)
    by (Some one) is = own_place one.traits.known is
    by None is = tt

-- a base
abbrev BaseIsNamed : (count : ℕ) → Base → Type 0
BaseIsNamed count (bases.Static place) = PlaceIsNamed count place
BaseIsNamed count (bases.Based pointer offset) = LocationIsNamed count pointer
BaseIsNamed count (bases.Frame variable offset) = Unit {0}

pub record IsOwnBase (tree : TreeModule) (base : Base) : Type 0 where
  pub named : NamesItsOwn tree → BaseIsNamed (name_count tree) base

pub place_of_base : {tree : TreeModule} {place : Place} → IsOwnBase tree (bases.Static place) → IsOwn tree place
place_of_base is = record { named = is.named }

pub pointer_of_base : {tree : TreeModule} {pointer : Location} {offset : ℕ}
    → IsOwnBase tree (bases.Based pointer offset)
    → IsOwnLocation tree pointer
pointer_of_base is = record { named = is.named }

home_base : (count : ℕ) (home : Home) → HomeIsNamed count home → BaseIsNamed count (base_of home)
home_base count (homes.Static place) is = is
home_base count (homes.Based pointer) is = is
home_base count (homes.Frame variable) is = tt

base_further : (count : ℕ) (base : Base) (distance : ℕ) → BaseIsNamed count base
    → BaseIsNamed count (base_after base distance)
base_further count (bases.Static place) distance is = after_named count place distance is
base_further count (bases.Based pointer offset) distance is = is
base_further count (bases.Frame variable offset) distance is = tt

-- the base of a part of an object
pub base_is_own : (site : Site) (reference : Reference) (one two : ℕ)
    → IsOwnBase site.tree.now
    (base_after (base_after (base_after (base_of (home site.tree.now reference.object)) reference.offset) one) two)
base_is_own site reference one two = record {
  named = λ own.
      let count : ℕ = name_count site.tree.now in
      let begun : Base = base_of (home site.tree.now reference.object) in
      base_further count (base_after (base_after begun reference.offset) one) two
      (base_further count (base_after begun reference.offset) one
      (base_further count begun reference.offset
      (home_base count (home site.tree.now reference.object) (own.homes reference.object))));
}

location_by : (tree : TreeModule) (base : Base) (first second : Option Subscript)
    → IsOwnBase tree base
    → IfSome
    (elim (located_at base first second).first [
      | Some subscript ↦ None
      | None ↦ location_at (located_at base first second).base
    ])
    (IsOwnLocation tree)
location_by tree base (Some first) second is = tt
location_by tree base None (Some second) is = tt
location_by tree (bases.Static place) None None is = record { named = is.named }
location_by tree (bases.Frame variable offset) None None is = record { named = λ own. tt }
location_by tree (bases.Based pointer offset) None None is = tt

-- the location of a part of an object, and its place in memory
pub location_is_own : (site : Site) (reference : Reference)
    → IfSome (location_of site reference) (IsOwnLocation site.tree.now)
unfolding location_of located
location_is_own site reference =
    location_by site.tree.now _ (split site reference.subscript).computed
    (split site reference.member_subscript).computed
    (base_is_own site reference (split site reference.subscript).offset (split site reference.member_subscript).offset)

pub direct_is_own : (site : Site) (reference : Reference) → IfSome (direct site reference) (IsOwn site.tree.now)
unfolding direct
direct_is_own site reference = by (location_of site reference) (location_is_own site reference)
  where
    by : (found : Option Location) → IfSome found (IsOwnLocation site.tree.now)
        → IfSome (place_in_memory found) (IsOwn site.tree.now)
    by (Some (locations.Static place)) is = place_is_own is
    by (Some (locations.Frame variable offset)) is = tt
    by None is = tt

pub direct_word_is_own : (site : Site) (number : ExpressionNumber)
    → IfSome (direct_word site number) (IsOwn site.tree.now)
unfolding direct_word
direct_word_is_own site number = by (word_in_memory site number)
  where
    by : (found : Option Reference) → IfSome (option_and_then (direct site) found) (IsOwn site.tree.now)
    by (Some reference) = direct_is_own site reference
    by None = tt
