-- The objects and the constant lists of a program have addresses.
use Rattle.meaning_laws.proofs.Prelude.{◌≡◌, ℕ, zero, suc, ◌<◌, true, List, [], ◌∷◌, length, Option, Some, None, IsSomeAnd, slice_get, refl, sym, ap, subst, ◌∙◌, arith, All, zip, AllByRecursion, option_and_then, option_map_or, All-weaker, recursion_from_All, none-some, slice_get_within, ListsGlobals, Home, InData, InConstants, Placed, BasedOn, Elsewhere, Nowhere, InFrame, TypedObject, TypedModule, IsSoundlyTyped, DeclaredObject, InProgram, agree, object_meant, HasAddresses, ModulePlacement, meant_in, MeansObject, external_object_meant, Surroundings, home_in, home_of, Program, HasAddress, IsPlaced, IsWhole, ListIsPlaced, ObjectIsMeant}

-- all globals of a program are listed
pub globals_listed : (program : Program) → IsWhole program → All ListsGlobals program.modules
globals_listed program whole =
    All-weaker IsSoundlyTyped ListsGlobals (λ typed sound. sound.globals) program.modules whole.sound

-- where the meaning has an object of a module
pub home_there : (around : Surroundings) (typed : TypedModule) (object : ℕ) (found : TypedObject)
    → slice_get around.program.modules around.number_of_module ≡ Some typed
    → slice_get typed.objects object ≡ Some found
    → home_of around object ≡ found.home
home_there around typed object found here is =
    ap (λ (entry : Option TypedModule). option_map_or
    (λ (one : TypedModule). home_in one object) entry Nowhere) here
    ∙ ap (λ (entry : Option TypedObject). option_map_or (λ (one : TypedObject). one.home) entry Nowhere) is

-- the module of a number has a placement, with an address for each object and list
placed_at : (modules : List TypedModule) (placements : List ModulePlacement) (number : ℕ)
    (typed : TypedModule)
    → length placements ≡ length modules
    → AllByRecursion HasAddresses (zip modules placements)
    → slice_get modules number ≡ Some typed
    → IsSomeAnd (slice_get placements number) (λ (placed : ModulePlacement). HasAddresses (typed, placed))
placed_at [] placements number typed count all is = absurd (none-some typed is)
placed_at (first ∷ modules) [] number typed count all is = absurd (omega (arith, count))
placed_at (first ∷ modules) (placed ∷ placements) zero typed count all is =
    let same : first ≡ typed = cc in
    subst (λ (one : TypedModule). HasAddresses (one, placed)) same all.0
placed_at (first ∷ modules) (placed ∷ placements) (suc number) typed count all is =
    placed_at modules placements number typed (omega (arith, count)) all.1 is

module _ (program : Program) (whole : IsWhole program) where
  pub module_placed : (number : ℕ) (typed : TypedModule) → slice_get program.modules number ≡ Some typed
      → IsSomeAnd (slice_get program.placement.modules number)
      (λ (placed : ModulePlacement). HasAddresses (typed, placed))
  module_placed number typed is =
      placed_at program.modules program.placement.modules number typed (whole.lawful).for_each_module
      (recursion_from_All HasAddresses (zip program.modules program.placement.modules)
      (whole.lawful).complete) is

  -- an object of a program has an address
  object_placed : (at : InProgram) (typed : TypedModule) (object : TypedObject)
      → slice_get program.modules at.number_of_module ≡ Some typed
      → slice_get typed.objects at.number ≡ Some object
      → IsPlaced program.placement at
  object_placed at typed object is there =
      by (slice_get program.placement.modules at.number_of_module)
      (module_placed at.number_of_module typed is)
    where
      by : (entry : Option ModulePlacement)
          → IsSomeAnd entry (λ (placed : ModulePlacement). HasAddresses (typed, placed))
          → IsSomeAnd entry (λ (placed : ModulePlacement). at.number < length placed.objects)
      by None has = absurd has
      by (Some placed) has =
          let below = slice_get_within typed.objects at.number object there in
          let count = has.objects in
          omega (arith, below, count)

  -- an EXTERNAL one stands for one of another module
  public_placed : (at : InProgram) (object : TypedObject) → MeansObject program.modules object at
      → IsPlaced program.placement at
  public_placed at object means = by_module (slice_get program.modules at.number_of_module) refl means
    where
      by_object : (its : TypedModule) (entry : Option TypedObject)
          → slice_get program.modules at.number_of_module ≡ Some its
          → slice_get its.objects at.number ≡ entry
          → IsSomeAnd entry
          (λ (public : TypedObject). (public.is_public ≡ true)
          × (agree (DeclaredObject object) (DeclaredObject public) ≡ true))
          → IsPlaced program.placement at
      by_object its None is there means = absurd means
      by_object its (Some public) is there means = object_placed at its public is there

      by_module : (entry : Option TypedModule)
          → slice_get program.modules at.number_of_module ≡ entry
          → IsSomeAnd entry
          (λ (its : TypedModule). IsSomeAnd (slice_get its.objects at.number)
          (λ (public : TypedObject). (public.is_public ≡ true)
          × (agree (DeclaredObject object) (DeclaredObject public) ≡ true)))
          → IsPlaced program.placement at
      by_module None is means = absurd means
      by_module (Some its) is means = by_object its (slice_get its.objects at.number) is refl means

  module _ (number object : ℕ) (typed : TypedModule) (found : TypedObject)
      (is : slice_get program.modules number ≡ Some typed)
      (there : slice_get typed.objects object ≡ Some found) where
    abbrev its_place : InProgram
    its_place = record { number_of_module = number; number = object }

    meant_is : meant_in program.modules number object typed
        ≡ object_meant program.modules its_place found found.home
    meant_is =
        ap (λ (entry : Option TypedObject).
        option_and_then (λ (one : TypedObject). object_meant program.modules its_place one one.home) entry)
        there

    own_meant : IsSomeAnd (Some its_place) (IsPlaced program.placement)
    own_meant = object_placed its_place typed found is there

    external_placed : (entry : Option InProgram) → IsSomeAnd entry (MeansObject program.modules found)
        → IsSomeAnd entry (IsPlaced program.placement)
    external_placed None means = absurd means
    external_placed (Some at) means = public_placed at found means

    by_home : (home : Home) → found.home ≡ home → HasAddress home
        → IsSomeAnd (object_meant program.modules its_place found home) (IsPlaced program.placement)
    by_home (InData values) home_is has = own_meant
    by_home (InConstants values) home_is has = own_meant
    by_home (Placed at) home_is has = own_meant
    by_home Elsewhere home_is has =
        external_placed (object_meant program.modules its_place found Elsewhere)
        (subst
        (λ (home : Home).
        IsSomeAnd (object_meant program.modules its_place found home)
        (MeansObject program.modules found)) home_is
        (external_object_meant program.modules whole.joined (globals_listed program whole) number
        object typed found is
        there home_is))
    by_home (BasedOn base) home_is has = absurd has
    by_home Nowhere home_is has = absurd has
    by_home (InFrame procedure) home_is has = absurd has

    -- an object that is not BASED and stands in no frame stands for one that is placed
    pub object_is_meant : HasAddress found.home → ObjectIsMeant program number typed object
    object_is_meant has =
        subst (λ (entry : Option InProgram). IsSomeAnd entry (IsPlaced program.placement)) (sym meant_is)
        (by_home found.home refl has)

  -- a constant list is placed
  pub list_is_placed : (number list : ℕ) (typed : TypedModule)
      → slice_get program.modules number ≡ Some typed
      → list < length typed.constants.lists
      → ListIsPlaced program number list
  list_is_placed number list typed is below =
      by (slice_get program.placement.modules number) (module_placed number typed is)
    where
      by : (entry : Option ModulePlacement)
          → IsSomeAnd entry (λ (placed : ModulePlacement). HasAddresses (typed, placed))
          → IsSomeAnd entry (λ (placed : ModulePlacement). list < length placed.lists)
      by None has = absurd has
      by (Some placed) has = let count = has.lists in omega (arith, below, count)
