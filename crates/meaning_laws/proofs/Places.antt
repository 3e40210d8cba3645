-- What each object of a program stands for that is not BASED, in a frame or nowhere lies somewhere, and so
-- does what INITIAL and DATA locate.
use Rattle.meaning_laws.proofs.Prelude.{◌≡◌, ℕ, ◌+◌, ◌<◌, true, length, Option, Some, None, IsSomeAnd, slice_get, refl, sym, ap, subst, ◌∙◌, arith, All, slice_index, option_and_then, option_map_or, All-weaker, recursion_from_All, slice_get_within, ByteValue, WordValue, LocationValue, InitialValue, HasPlace, Home, InData, InConstants, Placed, BasedOn, Elsewhere, Nowhere, InFrame, TypedObject, TypedModule, DeclaredObject, InProgram, agree, object_meant, HasAddresses, IsDeclared, ModulePlacement, values_in, MeansObject, external_object_meant, Program, HasAddress, IsWhole, HasDeclaredBytes, IsPlaceable, LiesIfPublic, LocatesObject, LocatesObjects, LocationLies, LocationsLie, ObjectsLie, PublicsLie, StandsForBytes, at_place}
use Rattle.meaning_laws.proofs.Declared.{bytes_declared}
use Rattle.meaning_laws.proofs.Names.{globals_listed, module_placed}

module _ (program : Program) (whole : IsWhole program) where
  -- an object that has a place
  has_bytes : (at : InProgram) (typed : TypedModule) (object : TypedObject)
      → slice_get program.modules at.number_of_module ≡ Some typed
      → slice_get typed.objects at.number ≡ Some object
      → HasPlace object.home
      → HasDeclaredBytes program at
  has_bytes at typed object its there place =
      by (slice_get program.placement.modules at.number_of_module) refl
      (module_placed program whole at.number_of_module typed its)
    where
      by : (entry : Option ModulePlacement)
          → slice_get program.placement.modules at.number_of_module ≡ entry
          → IsSomeAnd entry (λ (placed : ModulePlacement). HasAddresses (typed, placed))
          → HasDeclaredBytes program at
      by None is has = absurd has
      by (Some placed) is has = record {
        typed = typed;
        object = object;
        its_module = its;
        its_object = there;
        place = place;
        placed = subst
            (λ (entry : Option ModulePlacement).
            IsSomeAnd entry (λ (one : ModulePlacement). at.number < length one.objects)) (sym is) below;
        declared = λ offset inside.
            subst (λ (start : ℕ). IsDeclared program.modules program.placement (start + offset))
            (sym (ap (λ (entry : Option ModulePlacement).
            option_map_or (λ (one : ModulePlacement). slice_index one.objects at.number) entry 0) is))
            (bytes_declared program.modules program.placement at.number_of_module at.number typed
            placed object its is
            there below place offset inside);
      }
        where
          below : at.number < length placed.objects
          below =
              let within = slice_get_within typed.objects at.number object there in
              let count = has.objects in
              omega (arith, within, count)

  module _ (lie : All PublicsLie program.modules) where
    -- a PUBLIC object that an EXTERNAL one stands for
    public_address : (at : InProgram) (object : TypedObject)
        → MeansObject program.modules object at
        → HasDeclaredBytes program at
    public_address at object means = by_module (slice_get program.modules at.number_of_module) refl means
      where
        by_object : (its : TypedModule) (entry : Option TypedObject)
            → slice_get program.modules at.number_of_module ≡ Some its
            → slice_get its.objects at.number ≡ entry
            → IsSomeAnd entry
            (λ (public : TypedObject). (public.is_public ≡ true)
            × (agree (DeclaredObject object) (DeclaredObject public) ≡ true))
            → HasDeclaredBytes program at
        by_object its None is there means = absurd means
        by_object its (Some public) is there means =
            let all : PublicsLie its =
            at_place PublicsLie program.modules at.number_of_module its
            (recursion_from_All PublicsLie program.modules lie) is in
            has_bytes at its public is there
            (at_place LiesIfPublic its.objects at.number public
            (recursion_from_All LiesIfPublic its.objects all) there
            means.0)

        by_module : (entry : Option TypedModule)
            → slice_get program.modules at.number_of_module ≡ entry
            → IsSomeAnd entry
            (λ (its : TypedModule). IsSomeAnd (slice_get its.objects at.number)
            (λ (public : TypedObject). (public.is_public ≡ true)
            × (agree (DeclaredObject object) (DeclaredObject public) ≡ true)))
            → HasDeclaredBytes program at
        by_module None is means = absurd means
        by_module (Some its) is means = by_object its (slice_get its.objects at.number) is refl means

    module _
        (number object : ℕ) (typed : TypedModule) (found : TypedObject)
        (its : slice_get program.modules number ≡ Some typed)
        (there : slice_get typed.objects object ≡ Some found)
      where
        abbrev at_object : InProgram
        at_object = record { number_of_module = number; number = object }

        external_address : (entry : Option InProgram)
            → IsSomeAnd entry (MeansObject program.modules found)
            → IsSomeAnd entry (HasDeclaredBytes program)
        external_address None means = absurd means
        external_address (Some at) means = public_address at found means

        by_home : (home : Home)
            → found.home ≡ home
            → HasAddress home
            → IsSomeAnd (object_meant program.modules at_object found home) (HasDeclaredBytes program)
        by_home (InData values) is has =
            has_bytes at_object typed found its there (subst HasPlace (sym is) tt)
        by_home (InConstants values) is has =
            has_bytes at_object typed found its there (subst HasPlace (sym is) tt)
        by_home (Placed address) is has =
            has_bytes at_object typed found its there (subst HasPlace (sym is) tt)
        by_home Elsewhere is has =
            external_address (object_meant program.modules at_object found Elsewhere)
            (subst
            (λ (home : Home).
            IsSomeAnd (object_meant program.modules at_object found home)
            (MeansObject program.modules found)) is
            (external_object_meant program.modules whole.joined (globals_listed program whole)
            number object typed found
            its there is))
        by_home (BasedOn base) is has = absurd has
        by_home Nowhere is has = absurd has
        by_home (InFrame procedure) is has = absurd has

        meant_address : HasAddress found.home
            → StandsForBytes program number typed object
        meant_address has =
            subst (λ (entry : Option InProgram). IsSomeAnd entry (HasDeclaredBytes program))
            (sym (ap (λ (entry : Option TypedObject).
            option_and_then (λ (one : TypedObject). object_meant program.modules at_object one one.home)
            entry) there))
            (by_home found.home refl has)

-- In a program whose PUBLIC objects lie somewhere so does what such an object stands for.
pub object_lies :
    (program : Program) → IsWhole program → All PublicsLie program.modules
    → (number object : ℕ) (typed : TypedModule) (found : TypedObject)
    → slice_get program.modules number ≡ Some typed
    → slice_get typed.objects object ≡ Some found
    → HasAddress found.home
    → StandsForBytes program number typed object
object_lies program whole lie number object typed found its there has =
    meant_address program whole lie number object typed found its there has

pub publics_of_placeable : (program : Program) → All IsPlaceable program.modules
    → All PublicsLie program.modules
publics_of_placeable program placeable =
    All-weaker IsPlaceable PublicsLie (λ typed is. is.publics) program.modules placeable

module _ (program : Program) (whole : IsWhole program) (placeable : All IsPlaceable program.modules)
    (number : ℕ) (typed : TypedModule) (its : slice_get program.modules number ≡ Some typed) where
  pub objects_lie : ObjectsLie program number typed
  objects_lie object found there has =
      object_lies program whole (publics_of_placeable program placeable) number object
      typed found its there has

  location_lies : (value : InitialValue) → LocatesObject typed.objects value
      → LocationLies program number typed value
  location_lies (ByteValue byte) locates = tt
  location_lies (WordValue word) locates = tt
  location_lies (LocationValue object offset) locates = by (slice_get typed.objects object) refl locates
    where
      by : (entry : Option TypedObject) → slice_get typed.objects object ≡ entry
          → IsSomeAnd entry (λ (found : TypedObject). HasAddress found.home)
          → StandsForBytes program number typed object
      by None there has = absurd has
      by (Some found) there has = objects_lie object found there has

  -- what INITIAL and DATA of a module locate
  pub locations_lie : LocationsLie program number typed
  locations_lie =
      let is : IsPlaceable typed =
      at_place IsPlaceable program.modules number typed
      (recursion_from_All IsPlaceable program.modules placeable) its in
      All-weaker (LocatesObjects typed.objects)
      (λ (object : TypedObject). All (LocationLies program number typed) (values_in object.home))
      (λ object each.
      All-weaker (LocatesObject typed.objects) (LocationLies program number typed) location_lies
      (values_in object.home) each)
      typed.objects is.locations

-- worked: a BASED object stands for none that lies somewhere, though the placement has its number
based_lies_nowhere :
    (program : Program) (number object base : ℕ) (typed : TypedModule) (found : TypedObject)
    → slice_get program.modules number ≡ Some typed
    → slice_get typed.objects object ≡ Some found
    → found.home ≡ BasedOn base
    → StandsForBytes program number typed object
    → ⊥
based_lies_nowhere program number object base typed found its there home stands =
    let at : InProgram = record { number_of_module = number; number = object } in
    let by_object : IsSomeAnd (object_meant program.modules at found found.home) (HasDeclaredBytes program) =
    subst
    (λ (entry : Option TypedObject).
    IsSomeAnd (option_and_then (λ (one : TypedObject). object_meant program.modules at one one.home) entry)
    (HasDeclaredBytes program)) there stands in
    let lies : HasDeclaredBytes program at =
    subst (λ (one : Home). IsSomeAnd (object_meant program.modules at found one) (HasDeclaredBytes program))
    home
    by_object in
    let same_module : Some lies.typed ≡ Some typed = sym lies.its_module ∙ its in
    let its_typed : lies.typed ≡ typed = cc in
    let same_object : Some lies.object ≡ Some found =
    sym lies.its_object ∙ ap (λ (one : TypedModule). slice_get one.objects object) its_typed ∙ there in
    let its_object : lies.object ≡ found = cc in
    subst HasPlace (ap (λ (one : TypedObject). one.home) its_object ∙ home) lies.place
