-- The PUBLIC names of tree code have the locations of their objects.
use Rattle.treecode_laws.proofs.Prelude.{◌≡◌, ℕ, List, Option, Some, refl, ap, ◌∙◌, slice_get, option_and_then, GlobalObject, TypedHome, InData, InConstants, Placed, BasedOn, Elsewhere, Nowhere, InFrame, TypedObject, TypedModule, location_of, Storage, PublicName, Home, Place, public_object, public_item, static_place, externals_of, homes_of, home_at, location_of_place, IsHere, IsLaidOut}
use Rattle.treecode.specs.declared.module.PublicPlace.TheVariants as public_places
use Rattle.treecode_laws.proofs.Homes.{any_lies}

-- a PUBLIC object, by its name and its location
pub record IsPublicObject (typed : TypedModule) (number : ℕ) (name : List ℕ) (public : Option PublicName) :
    Type 0 where
  pub place : Place
  pub public_is : public ≡ Some (record { name = name; place = public_places.Object place })
  pub lies : location_of_place (externals_of typed) place ≡ location_of typed number

by_home :
    (starts : List Home) (number : ℕ) (object : TypedObject) (kind : TypedHome)
    → object.home ≡ kind
    → IsHere kind
    → public_object starts number object
    ≡ Some
    (record { name = object.name; place = public_places.Object (static_place (home_at starts number)) })
by_home starts number object (InData values) is here = rw is refl
by_home starts number object (InConstants values) is here = rw is refl
by_home starts number object (Placed at) is here = rw is refl
by_home starts number object (BasedOn base) is here = rw is refl
by_home starts number object Elsewhere is here = absurd here
by_home starts number object Nowhere is here = rw is refl
by_home starts number object (InFrame procedure) is here = rw is refl

-- Each object among the globals that is not EXTERNAL is PUBLIC by its name, and is at the location of that
-- name.
pub public_lies :
    (typed : TypedModule) (storage : Storage) (number : ℕ) (object : TypedObject)
    → IsLaidOut typed storage
    → slice_get typed.objects number ≡ Some object
    → IsHere object.home
    → IsPublicObject typed number object.name
    (public_item typed (homes_of typed storage) (GlobalObject number))
public_lies typed storage number object laid found here = record {
  place = static_place (home_at (homes_of typed storage) number);
  public_is =
      ap (λ (found : Option TypedObject).
      option_and_then (public_object (homes_of typed storage) number) found) found
      ∙ by_home (homes_of typed storage) number object object.home refl here;
  lies = any_lies typed storage number laid;
}
