-- What the parts of a soundly typed module name is there: objects, and what BASED ones are BASED on.
use Rattle.meaning_laws.proofs.Prelude.{◌≡◌, ℕ, Option, Some, None, IsSomeAnd, slice_get, refl, sym, subst, ScalarType, Address, IsPartOf, IsScalar, IsScalarOf, TypedReference, PartOf, TypedIteration, Home, InData, InConstants, Placed, BasedOn, Elsewhere, Nowhere, InFrame, TypedObject, TypedModule, Within, LiesFor, IsSeen, HasLocation, RefersToScalar, RefersToLocation, Counts, Program, HasAddress, IsNamed, IsWhole, LiesThere, ObjectIsMeant, ReferenceIsMeant, VariableIsMeant}
use Rattle.meaning_laws.proofs.Names.{object_is_meant}

module _ (program : Program) (whole : IsWhole program) (number : ℕ) (typed : TypedModule) (within : Within)
    (here : slice_get program.modules number ≡ Some typed) where
  -- an object that has an address
  addressed : (object : ℕ) (found : TypedObject) (home : Home) → slice_get typed.objects object ≡ Some found
      → found.home ≡ home → HasAddress home → ObjectIsMeant program number typed object
  addressed object found home is home_is has =
      object_is_meant program whole number object typed found here is (subst HasAddress (sym home_is) has)

  lies_there : (object : ℕ) (found : TypedObject) (home : Home) → slice_get typed.objects object ≡ Some found
      → found.home ≡ home → LiesFor within home → LiesThere program number typed within object home
  lies_there object found (InData values) is home_is lies =
      addressed object found (InData values) is home_is tt
  lies_there object found (InConstants values) is home_is lies =
      addressed object found (InConstants values) is home_is tt
  lies_there object found (Placed at) is home_is lies = addressed object found (Placed at) is home_is tt
  lies_there object found Elsewhere is home_is lies = addressed object found Elsewhere is home_is tt
  lies_there object found (BasedOn base) is home_is lies = absurd lies
  lies_there object found Nowhere is home_is lies = absurd lies
  lies_there object found (InFrame procedure) is home_is lies = lies

  -- a scalar of a number
  scalar_there : (scalar : ScalarType) (object : ℕ) (entry : Option TypedObject)
      → slice_get typed.objects object ≡ entry
      → IsSomeAnd entry (λ (found : TypedObject). IsScalar scalar found × LiesFor within found.home)
      → IsSomeAnd entry (λ (found : TypedObject). LiesThere program number typed within object found.home)
  scalar_there scalar object None is lies = absurd lies
  scalar_there scalar object (Some found) is lies = lies_there object found found.home is refl lies.1

  is_named : (object : ℕ) (found : TypedObject) (home : Home) → slice_get typed.objects object ≡ Some found
      → found.home ≡ home → IsSeen typed within home → IsNamed program number typed within object home
  is_named object found (BasedOn base) is home_is seen =
      scalar_there Address base (slice_get typed.objects base) refl seen
  is_named object found (InData values) is home_is seen =
      lies_there object found (InData values) is home_is seen
  is_named object found (InConstants values) is home_is seen =
      lies_there object found (InConstants values) is home_is seen
  is_named object found (Placed at) is home_is seen = lies_there object found (Placed at) is home_is seen
  is_named object found Elsewhere is home_is seen = lies_there object found Elsewhere is home_is seen
  is_named object found Nowhere is home_is seen = lies_there object found Nowhere is home_is seen
  is_named object found (InFrame procedure) is home_is seen =
      lies_there object found (InFrame procedure) is home_is seen

  -- what a part refers to as a scalar
  pub scalar_is_meant : (scalar : ScalarType) (reference : TypedReference)
      → RefersToScalar typed within scalar reference → ReferenceIsMeant program number typed within reference
  scalar_is_meant scalar (PartOf object subscript member offset member_subscript) refers =
      by (slice_get typed.objects object) refl refers
    where
      by : (entry : Option TypedObject) → slice_get typed.objects object ≡ entry
          → IsSomeAnd entry
          (λ (found : TypedObject). IsSeen typed within found.home
          × IsScalarOf found scalar (PartOf object subscript member offset member_subscript))
          → IsSomeAnd entry (λ (found : TypedObject). IsNamed program number typed within object found.home)
      by None is refers = absurd refers
      by (Some found) is refers = is_named object found found.home is refl refers.0

  -- what a part asks the location of
  pub location_is_meant : (reference : TypedReference)
      → RefersToLocation typed within reference → ReferenceIsMeant program number typed within reference
  location_is_meant (PartOf object subscript member offset member_subscript) refers =
      by (slice_get typed.objects object) refl refers
    where
      by : (entry : Option TypedObject) → slice_get typed.objects object ≡ entry
          → IsSomeAnd entry
          (λ (found : TypedObject). IsSeen typed within found.home × HasLocation found.home
          × IsPartOf found (PartOf object subscript member offset member_subscript))
          → IsSomeAnd entry (λ (found : TypedObject). IsNamed program number typed within object found.home)
      by None is refers = absurd refers
      by (Some found) is refers = is_named object found found.home is refl refers.0

  -- the variable of an iterative DO
  pub counter_is_meant : (head : TypedIteration) → Counts typed within head
      → VariableIsMeant program number typed within head.variable
  counter_is_meant head counts =
      scalar_there head.scalar head.variable (slice_get typed.objects head.variable) refl counts
