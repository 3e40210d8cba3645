-- If the place of a part of an object is known from its node, its location is known at the site.
use Rattle.task_laws.proofs.Prelude.{◌≡◌, ℕ, ◌*◌, ◌%◌, true, Option, Some, None, is_some, refl, ap, ◌∙◌, false≢true, Home, Location, Static, Place, Reference, IndexNode, known_distance, place_of_part, home_at, distance_of, number_at, place_of_reference, Facts, Base, Split, base_after, base_of, located_at, location_of, number_of, split, split_computed, knowing, Context, nodes_in}
use Rattle.treecode.specs.declared.place.Home.TheVariants as homes
use Rattle.steps8080.specs.internal.Queries.{located, location_at}
use Rattle.task_laws.proofs.Machine.KeptCode.{place_known}
use Rattle.steps8080.proofs.SiteTraits.{number_is}

-- a subscript that is known is not computed
pub not_computed :
    (context : Context) (facts : Facts) (given : Option IndexNode)
    → is_some (distance_of (nodes_in context) given) ≡ true
    → (split (knowing context.site facts) given).computed ≡ None
unfolding split
not_computed context facts None some = refl
not_computed context facts (Some subscript) some =
    by (number_at (nodes_in context) subscript.index) some
    (number_is (knowing context.site facts) subscript.index)
  where
    by : (found : Option ℕ) → is_some (known_distance subscript.stride found) ≡ true
        → number_of (knowing context.site facts) subscript.index ≡ found
        → (elim (number_of (knowing context.site facts) subscript.index) as (λ (one : Option ℕ). Split) [
          | Some index ↦ record { computed = None; offset = (index * subscript.stride) % 65536 }
          | None ↦ split_computed (knowing context.site facts) subscript
        ]).computed ≡ None
    by (Some n) some is =
        ap (λ (one : Option ℕ). (elim one as (λ (one : Option ℕ). Split) [
          | Some index ↦ record { computed = None; offset = (index * subscript.stride) % 65536 }
          | None ↦ split_computed (knowing context.site facts) subscript
        ]).computed) is
    by None some is = absurd (false≢true some)

pub static_location :
    (context : Context) (facts : Facts) (reference : Reference)
    → is_some (place_of_reference (nodes_in context) reference) ≡ true
    → (place : Place) × (location_of (knowing context.site facts) reference ≡ Some (Static place))
unfolding location_of located
static_location context facts reference some =
    by_home (home_at (nodes_in context).homes reference.object) some
  where
    one : Split
    one = split (knowing context.site facts) reference.subscript

    two : Split
    two = split (knowing context.site facts) reference.member_subscript

    there : (home : Home) → (first second : Option IndexNode) → Option Location
    there home first second =
        let base : Base =
        base_after (base_after (base_after (base_of home) reference.offset) one.offset) two.offset in
        elim (located_at base first second).first as (λ (found : Option IndexNode). Option Location) [
          | Some subscript ↦ None
          | None ↦ location_at (located_at base first second).base
        ]

    by_home : (home : Home)
        → is_some (place_of_part home reference.offset (distance_of (nodes_in context) reference.subscript)
        (distance_of (nodes_in context) reference.member_subscript)) ≡ true
        → (place : Place) × (there home one.computed two.computed ≡ Some (Static place))
    by_home (homes.Static place) some =
        let both =
        place_known (homes.Static place) reference.offset
        (distance_of (nodes_in context) reference.subscript)
        (distance_of (nodes_in context) reference.member_subscript) some in (
          _,
          ap (λ found. there (homes.Static place) found two.computed)
              (not_computed context facts reference.subscript both.0)
              ∙ ap (λ found. there (homes.Static place) None found)
              (not_computed context facts reference.member_subscript both.1),
        )
    by_home (homes.Based base) some = absurd (false≢true some)
    by_home (homes.Frame variable) some = absurd (false≢true some)
