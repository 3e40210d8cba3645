-- The objects of a module lie where it has them, at the addresses of its segments and its EXTERNAL names.
use Rattle.program_laws.proofs.Prelude.{◌≡◌, ℕ, ◌+◌, ◌%◌, ◌<◌, ◌≤◌, ◌⊎◌, inl, inr, List, [], get_or, length, Option, Some, None, refl, ap, sym, subst, ◌∙◌, arith, slice_get, slice_index, zip, option_and_then, option_map_or, recursion_from_All, slice_get_cases, slice_get_past, Target, ObjectModule, HasPlace, IsStorable, InData, InConstants, Placed, BasedOn, Elsewhere, Nowhere, InFrame, TypedModule, TypedObject, object_meant, HasAddresses, LiesWhereAtSays, ModulePlacement, Location, address_of_location, location_by_home, location_of, locations_after, address_in, address_of_object, location_is, lies_at_location, of_all, Program, IsStatic, locations_length, in_module, LiesInMemory, bases_at, address_for, got_both}
use Rattle.typed_trees.specs.TypedTrees.{Home}
use Rattle.layout.specs.Segments.{Absolute as AtNumber}

modulo : (number : ℕ) → number % 65536 ≡ (number + 0) % 65536
modulo number = omega arith

module _
    (program : Program) (number : ℕ) (typed : TypedModule) (object : ObjectModule)
    (address_of : Target → ℕ) (address_of_name : (name : List ℕ) → ℕ) (memory : List ℕ)
    (storable : IsStorable typed)
    (lies : LiesInMemory program number typed object address_of address_of_name memory)
  where
    both : slice_get (zip program.modules program.placement.modules) number ≡ Some (typed, lies.placed)
    both = got_both program.modules program.placement.modules number typed lies.placed
        lies.is_module lies.is_placed

    pub has_addresses : HasAddresses (typed, lies.placed)
    has_addresses =
        of_all HasAddresses (zip program.modules program.placement.modules) number (typed, lies.placed)
        (recursion_from_All HasAddresses (zip program.modules program.placement.modules) lies.lawful.complete)
        both

    at_says : LiesWhereAtSays (typed, lies.placed)
    at_says =
        of_all LiesWhereAtSays (zip program.modules program.placement.modules) number (typed, lies.placed)
        (recursion_from_All LiesWhereAtSays (zip program.modules program.placement.modules)
        lies.lawful.where_at_says)
        both

    abbrev AddressOf : (index : ℕ) → ℕ
    AddressOf index = address_of_object program.modules program.placement number typed index

    abbrev AddressIn : Option TypedObject → (index : ℕ) → ℕ
    AddressIn found index =
        option_map_or (address_in program.placement)
        (option_and_then
        (λ (one : TypedObject). object_meant program.modules (in_module number index) one one.home) found) 0

    abbrev AddressBy : TypedObject → Home → (index : ℕ) → ℕ
    AddressBy found home index =
        option_map_or (address_in program.placement)
        (object_meant program.modules (in_module number index) found home) 0

    abbrev there : (index : ℕ) → ℕ
    there index = address_of_location (address_for address_of address_of_name) (location_of typed index)

    by_number : (index : ℕ)
        → address_in program.placement (in_module number index) ≡ slice_index lies.placed.objects index
    by_number index =
        ap (λ (placed : Option ModulePlacement).
        option_map_or (λ (placed : ModulePlacement). slice_index placed.objects index)
        placed 0) lies.is_placed

    by_place : (index : ℕ) (found : TypedObject)
        → slice_get typed.objects index ≡ Some found
        → HasPlace found.home
        → address_in program.placement (in_module number index) ≡ there index
    by_place index found is place =
        by_number index
        ∙ lies_at_location typed (bases_at address_of) lies.placed
        (address_for address_of address_of_name) index found
        storable lies.follows at_says has_addresses (λ segment. refl) is place

    located : (index : ℕ) (found : TypedObject) (home : Home)
        → slice_get typed.objects index ≡ Some found
        → found.home ≡ home
        → there index
        ≡ address_of_location (address_for address_of address_of_name)
        (location_by_home typed (locations_after typed [] typed.objects) index found home)
    located index found home is is_home =
        ap (address_of_location (address_for address_of address_of_name))
        (location_is typed index found storable is
        ∙ ap (location_by_home typed (locations_after typed [] typed.objects) index found) is_home)

    meant : (index : ℕ) (found : TypedObject) (home : Home)
        → slice_get typed.objects index ≡ Some found
        → found.home ≡ home
        → AddressOf index ≡ AddressBy found home index
    meant index found home is is_home =
        ap (λ (one : Option TypedObject). AddressIn one index) is
        ∙ ap (λ (one : Home). AddressBy found one index) is_home

    by_home : (index : ℕ) (found : TypedObject) (home : Home)
        → slice_get typed.objects index ≡ Some found
        → found.home ≡ home
        → IsStatic home
        → AddressOf index ≡ there index
    by_home index found (InData values) is is_home static =
        meant index found (InData values) is is_home
        ∙ by_place index found is (subst HasPlace (sym is_home) tt)
    by_home index found (InConstants values) is is_home static =
        meant index found (InConstants values) is is_home
        ∙ by_place index found is (subst HasPlace (sym is_home) tt)
    by_home index found (Placed at) is is_home static =
        meant index found (Placed at) is is_home ∙ by_place index found is (subst HasPlace (sym is_home) tt)
    by_home index found (BasedOn base) is is_home static = absurd static
    by_home index found (InFrame procedure) is is_home static = absurd static
    by_home index found Elsewhere is is_home static =
        lies.elsewhere index found is is_home ∙ modulo (address_of_name found.name)
        ∙ sym (located index found Elsewhere is is_home)
    by_home index found Nowhere is is_home static =
        meant index found Nowhere is is_home ∙ by_number index ∙ lies.nowhere index found is is_home
        ∙ sym (located index found Nowhere is is_home)

    -- those that are neither BASED nor in a frame, by their numbers
    pub object_lies : (index : ℕ)
        → ((found : TypedObject) → slice_get typed.objects index ≡ Some found → IsStatic found.home)
        → AddressOf index ≡ there index
    object_lies index static = by (slice_get_cases typed.objects index).1
      where
        by : ((found : TypedObject) × (index < length typed.objects)
            × (slice_get typed.objects index ≡ Some found)
            × (get_or typed.objects index found ≡ found))
            ⊎ ((length typed.objects ≤ index) × (slice_get typed.objects index ≡ None))
            → AddressOf index ≡ there index
        by (inl found) = by_home index found.0 (found.0).home found.2 refl (static found.0 found.2)
        by (inr past) =
            let most = past.0 in
            let count = locations_length typed in
            ap (λ (one : Option TypedObject). AddressIn one index) past.1
            ∙ sym (ap (λ (found : Option Location).
            address_of_location (address_for address_of address_of_name)
            (option_map_or (λ (location : Location). location) found (AtNumber 0)))
            (slice_get_past (locations_after typed [] typed.objects) index (omega (arith, most, count))))
