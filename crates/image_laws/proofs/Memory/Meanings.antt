-- The addresses that a run of the source has for objects are those that the targets of the object modules
-- have: an EXTERNAL object lies where the public of its name does.
use Rattle.image_laws.proofs.Prelude.{◌≡◌, ℕ, zero, suc, ◌+◌, ◌-◌, ◌%◌, ◌<◌, ◌≤◌, Bool, true, List, [], ◌∷◌, ◌++◌, length, replicate, flat_map, Option, Some, None, unwrap_or, refl, ap, ap₂, sym, subst, ◌∙◌, arith, All, IsSomeAnd, ◌&&◌, nat_lt, slice_get, slice_index, list_all, option_and_then, option_map_or, option_or, bytes_eq, ltb-true, position_from-zero, recursion_from_All, none-some, slice_get_past, bytes_eq-Decides, MEMORY_SIZE, InitialValue, ByteValue, WordValue, LocationValue, IsHereIfPublic, ListsGlobals, size_of_object, bytes_filled, Home, InData, InConstants, Placed, BasedOn, Elsewhere, Nowhere, InFrame, TypedObject, TypedModule, InProgram, first_found, in_module, object_meant, public_object_in, ModulePlacement, PlacingPlan, Location, After, SegmentStart, ExternalName, address_of_location, location_by_home, location_of, locations_after, AtNumber, address_in, address_of_object, bytes_of_value, bytes_of_word, values_in, location_is, MeansObject, external_object_meant, addresses, set, starting_bytes, of_all, Linked, linked_modules, public_named, Plan, Image, IsObjectModule, ObjectModule, Public, is_valid_public, may_have_publics, PublicLies, address_of_public, piece_base, plan_of, IsInMemory, placement_of, IsLinked, HasPublic, IsPublicAt, and_parts, first_position}
use Rattle.layout.specs.declared.slot.Segment.TheVariants as slots
use Rattle.image_laws.proofs.Images.Publics.{publics_lie}
use Rattle.image_laws.proofs.Memory.Addresses.{IsHere, locations_length}
use Rattle.image_laws.proofs.Memory.Modules.{address_for, is_linked, lies_at}

-- an object that is PUBLIC is not EXTERNAL
here_if_public : (home : Home) → IsHereIfPublic home true → IsHere home
here_if_public (InData values) is = tt
here_if_public (InConstants values) is = tt
here_if_public (Placed at) is = tt
here_if_public (BasedOn base) is = tt
here_if_public Nowhere is = tt
here_if_public (InFrame procedure) is = tt
here_if_public Elsewhere is = absurd is

-- what is found in modules is found in one of them
pub found_place : {A : Type 0} (from : ℕ) (in_one : TypedModule → Option ℕ) (modules : List TypedModule)
    (place : InProgram)
    → first_found from in_one modules ≡ Some place
    → ((at : ℕ) (its : TypedModule) → place.number_of_module ≡ from + at → slice_get modules at ≡ Some its
    → in_one its ≡ Some place.number → A) → A
found_place from in_one [] place e then_is = absurd (none-some place e)
found_place {A} from in_one (first ∷ others) place e then_is =
    by (in_one first) refl e
    (λ later. found_place (from + 1) in_one others place later
    (λ at its same there holds. then_is (suc at) its (omega (arith, same)) there holds))
  where
    by : (here : Option ℕ) → in_one first ≡ here
        → option_or (in_module from here) (first_found (from + 1) in_one others) ≡ Some place
        → (first_found (from + 1) in_one others ≡ Some place → A) → A
    by None is e rest = rest e
    by (Some number) is e rest =
        let same : record { number_of_module = from; number = number } ≡ place =
        ap (λ (found : Option InProgram). unwrap_or found
        (record { number_of_module = from; number = number })) e in
        then_is 0 first (sym (ap (λ (one : InProgram). one.number_of_module) same) ∙ sym (nothing_more from))
        refl
        (is ∙ ap (λ (one : InProgram). Some one.number) same)
      where
        nothing_more : (n : ℕ) → n + 0 ≡ n
        nothing_more n = omega arith

each_holds :
    {X : Type 0} (p : X → Bool) (all : List X) (number : ℕ) (item : X)
    → list_all p all ≡ true
    → slice_get all number ≡ Some item
    → p item ≡ true
each_holds p [] number item holds found = absurd (none-some item found)
each_holds p (first ∷ all) zero item holds found =
    ap p (sym (ap (λ (found : Option _). unwrap_or found first) found))
    ∙ (and_parts (p first) (list_all p all) holds).0
each_holds p (first ∷ all) (suc number) item holds found =
    each_holds p all number item (and_parts (p first) (list_all p all) holds).1 found

-- what is not found is past the end
past_end :
    {X : Type 0} (all : List X) (number count : ℕ)
    → count ≡ length all
    → slice_get all number ≡ None
    → count ≤ number
past_end [] number count is none = omega (arith, is)
past_end (first ∷ all) zero count is none = absurd (none-some first (sym none))
past_end (first ∷ all) (suc number) count is none =
    let rest = past_end all number (length all) refl none in omega (arith, is, rest)

-- the address of a public is one of memory
public_small : (plan : Plan) (public : Option Public) → address_of_public plan public < 65536
public_small plan None = omega arith
public_small plan (Some public) = omega arith

module _
    (plan : PlacingPlan) (modules : List TypedModule) (objects : List ObjectModule) (merged : ObjectModule)
    (image : Image) (before after : List ℕ)
    (is : IsInMemory plan modules objects merged image before after)
  where
    -- a public of a module, and where it lies
    pub public_lies :
        (number_of_module place : ℕ) (typed : TypedModule) (public : Public)
        → (at : IsLinked plan modules objects merged before after number_of_module typed)
        → slice_get (at.linked.object).publics place ≡ Some public
        → PublicLies (plan_of plan) merged at.linked public
    public_lies number_of_module place typed public at found =
        of_all (PublicLies (plan_of plan) merged at.linked) (at.linked.object).publics place public
        (recursion_from_All (PublicLies (plan_of plan) merged at.linked) (at.linked.object).publics
        (of_all (λ (one : Linked). All (PublicLies (plan_of plan) merged one) (one.object).publics)
        (linked_modules objects) number_of_module at.linked
        (recursion_from_All (λ (one : Linked). All (PublicLies (plan_of plan) merged one)
        (one.object).publics)
        (linked_modules objects) (publics_lie objects merged (plan_of plan) (is.placed).merge)) at.found))
        found

    -- the address of a public is that of the location of its object
    public_address :
        (number_of_module : ℕ) (typed : TypedModule) (name : List ℕ) (location : Location) (public : Public)
        → (at : IsLinked plan modules objects merged before after number_of_module typed)
        → IsPublicAt name location public
        → PublicLies (plan_of plan) merged at.linked public
        → public.offset < MEMORY_SIZE
        → address_of_public (plan_of plan) (public_named merged.publics name)
        ≡ address_of_location (address_for plan merged at.linked) location
    public_address number_of_module typed name (AtNumber address) public at is lies small =
        let low : address < 65536 = subst (λ (public : Public). public.offset < 65536) is small in
        let number : (0 + 0 + address) % 65536 ≡ address = omega (arith, low) in
        subst (λ (public : Public). address_of_public (plan_of plan) (public_named merged.publics public.name)
        ≡ (piece_base (plan_of plan) (at.linked).start public.segment + public.offset)
        % MEMORY_SIZE) is lies.address
        ∙ number
    public_address number_of_module typed name (After (SegmentStart slots.Code) offset)
        public at is lies small =
        subst (λ (public : Public). address_of_public (plan_of plan) (public_named merged.publics public.name)
        ≡ (piece_base (plan_of plan) (at.linked).start public.segment + public.offset)
        % MEMORY_SIZE) is lies.address
    public_address number_of_module typed name (After (SegmentStart slots.Data) offset)
        public at is lies small =
        subst (λ (public : Public). address_of_public (plan_of plan) (public_named merged.publics public.name)
        ≡ (piece_base (plan_of plan) (at.linked).start public.segment + public.offset)
        % MEMORY_SIZE) is lies.address
    public_address number_of_module typed name (After (ExternalName other) offset) public at is lies small =
        absurd is

    -- a public that an object module has is one of memory
    public_offset :
        (number_of_module place : ℕ) (typed : TypedModule) (public : Public)
        → (at : IsLinked plan modules objects merged before after number_of_module typed)
        → slice_get (at.linked.object).publics place ≡ Some public
        → public.offset < MEMORY_SIZE
    public_offset number_of_module place typed public at found =
        let valid : IsObjectModule at.linked.object =
        of_all IsObjectModule objects number_of_module at.linked.object
        (recursion_from_All IsObjectModule objects (is.placed).valid) at.object_found in
        ltb-true public.offset 65536
        (and_parts (may_have_publics public.segment) (nat_lt public.offset 65536)
        (each_holds is_valid_public (at.linked.object).publics place public valid.publics found)).1

    -- where an object of this module lies
    address_here :
        (number_of_module number : ℕ) (typed : TypedModule) (object : TypedObject)
        → (at : IsLinked plan modules objects merged before after number_of_module typed)
        → slice_get typed.objects number ≡ Some object
        → IsHere object.home
        → address_in (placement_of plan modules objects)
        (record { number_of_module = number_of_module; number = number })
        ≡ address_of_location (address_for plan merged at.linked) (location_of typed number)
    address_here number_of_module number typed object at found here =
        ap (λ (placed : Option ModulePlacement).
        option_map_or (λ (placed : ModulePlacement). slice_index placed.objects number) placed 0) at.placed
        ∙ lies_at plan modules objects merged image before after is number_of_module number typed
        object at found here

    -- where a PUBLIC object lies
    address_of_its_public :
        (number_of_module number : ℕ) (typed : TypedModule) (object : TypedObject)
        → (at : IsLinked plan modules objects merged before after number_of_module typed)
        → slice_get modules number_of_module ≡ Some typed
        → slice_get typed.objects number ≡ Some object
        → object.is_public ≡ true
        → address_in (placement_of plan modules objects)
        (record { number_of_module = number_of_module; number = number })
        ≡ address_of_public (plan_of plan) (public_named merged.publics object.name)
    address_of_its_public number_of_module number typed object at typed_is found is_public =
        let listed : ListsGlobals typed =
        of_all ListsGlobals modules number_of_module typed
        (recursion_from_All ListsGlobals modules is.globals) typed_is in
        let here : IsHereIfPublic object.home object.is_public =
        of_all (λ (object : TypedObject). IsHereIfPublic object.home object.is_public)
        typed.objects number object
        (recursion_from_All (λ (object : TypedObject). IsHereIfPublic object.home object.is_public)
        typed.objects
        listed.here) found in
        let has : HasPublic object.name (location_of typed number) (at.linked.object).publics =
        (at.segments).publics number object found is_public in
        address_here number_of_module number typed object at found
        (here_if_public object.home (subst (IsHereIfPublic object.home) is_public here))
        ∙ sym (public_address number_of_module typed object.name (location_of typed number)
        has.public at has.is
        (public_lies number_of_module has.place typed has.public at has.found)
        (public_offset number_of_module has.place typed has.public at has.found))

    -- where an EXTERNAL object lies
    external_address :
        (number_of_module number : ℕ) (typed : TypedModule) (object : TypedObject)
        → slice_get modules number_of_module ≡ Some typed
        → slice_get typed.objects number ≡ Some object
        → object.home ≡ Elsewhere
        → option_map_or (address_in (placement_of plan modules objects))
        (first_found 0 (public_object_in object.name) modules) 0
        ≡ address_of_public (plan_of plan) (public_named merged.publics object.name)
    external_address number_of_module number typed object typed_is found elsewhere =
        by (first_found 0 (public_object_in object.name) modules) refl
        (subst (λ (home : Home).
        IsSomeAnd
        (object_meant modules (record { number_of_module = number_of_module; number = number }) object
        home)
        (MeansObject modules object)) elsewhere
        (external_object_meant modules is.joined is.globals number_of_module number typed object
        typed_is found elsewhere))
      where
        at_place :
            (place : InProgram) (at : ℕ) (its : TypedModule)
            → place.number_of_module ≡ 0 + at
            → slice_get modules at ≡ Some its
            → public_object_in object.name its ≡ Some place.number
            → address_in (placement_of plan modules objects) place
            ≡ address_of_public (plan_of plan) (public_named merged.publics object.name)
        at_place place at its same there found_in =
            first_position (λ (object' : TypedObject). object'.is_public && bytes_eq object'.name object.name)
            0
            its.objects place.number
            (sym (position_from-zero (λ (object' : TypedObject). object'.is_public
            && bytes_eq object'.name object.name)
            its.objects) ∙ found_in)
            (λ number_there public at_number is_there holds.
            let tests = and_parts public.is_public (bytes_eq public.name object.name) holds in
            let in_its : slice_get its.objects place.number ≡ Some public =
            subst (λ (n : ℕ). slice_get its.objects n ≡ Some public) (omega (arith, at_number)) is_there in
            ap (λ (n : ℕ).
            address_in (placement_of plan modules objects)
            (record { number_of_module = n; number = place.number }))
            (omega (arith, same))
            ∙ address_of_its_public at place.number its public
            (is_linked plan modules objects merged image before after is at its there) there in_its tests.0
            ∙ ap (λ (name : List ℕ). address_of_public (plan_of plan) (public_named merged.publics name))
            ((bytes_eq-Decides public.name object.name).0 tests.1))

        by :
            (meant : Option InProgram)
            → first_found 0 (public_object_in object.name) modules ≡ meant
            → IsSomeAnd (first_found 0 (public_object_in object.name) modules) (MeansObject modules object)
            → option_map_or (address_in (placement_of plan modules objects)) meant 0
            ≡ address_of_public (plan_of plan) (public_named merged.publics object.name)
        by None e some =
            let none : ⊥ =
            subst (λ (meant : Option InProgram). IsSomeAnd meant (MeansObject modules object)) e some in
            absurd none
        by (Some place) e some =
            found_place 0 (public_object_in object.name) modules place e
            (λ at its same there found_in. at_place place at its same there found_in)

    abbrev AddressOf : (number_of_module : ℕ) → TypedModule → (number : ℕ) → ℕ
    AddressOf number_of_module typed number =
        address_of_object modules (placement_of plan modules objects) number_of_module typed number

    by_home :
        (number_of_module number : ℕ) (typed : TypedModule) (object : TypedObject) (home : Home)
        → (at : IsLinked plan modules objects merged before after number_of_module typed)
        → slice_get modules number_of_module ≡ Some typed
        → slice_get typed.objects number ≡ Some object
        → object.home ≡ home
        → option_map_or (address_in (placement_of plan modules objects))
        (object_meant modules (record { number_of_module = number_of_module; number = number }) object home) 0
        ≡ address_of_location (address_for plan merged at.linked) (location_of typed number)
    by_home number_of_module number typed object (InData values) at typed_is found is_home =
        address_here number_of_module number typed object at found (subst IsHere (sym is_home) tt)
    by_home number_of_module number typed object (InConstants values) at typed_is found is_home =
        address_here number_of_module number typed object at found (subst IsHere (sym is_home) tt)
    by_home number_of_module number typed object (Placed place) at typed_is found is_home =
        address_here number_of_module number typed object at found (subst IsHere (sym is_home) tt)
    by_home number_of_module number typed object (BasedOn base) at typed_is found is_home =
        address_here number_of_module number typed object at found (subst IsHere (sym is_home) tt)
    by_home number_of_module number typed object Nowhere at typed_is found is_home =
        address_here number_of_module number typed object at found (subst IsHere (sym is_home) tt)
    by_home number_of_module number typed object (InFrame procedure) at typed_is found is_home =
        address_here number_of_module number typed object at found (subst IsHere (sym is_home) tt)
    by_home number_of_module number typed object Elsewhere at typed_is found is_home =
        let small = public_small (plan_of plan) (public_named merged.publics object.name) in
        let whole : address_of_public (plan_of plan) (public_named merged.publics object.name)
        ≡ (address_of_public (plan_of plan) (public_named merged.publics object.name) + 0) % 65536 =
        omega (arith, small) in
        external_address number_of_module number typed object typed_is found is_home
        ∙ whole
        ∙ sym (ap (address_of_location (address_for plan merged at.linked))
        (location_is typed number object at.storable found
        ∙ ap (location_by_home typed (locations_after typed [] typed.objects) number object) is_home))

    -- where an object of a module lies by its number
    pub address_meant :
        (number_of_module number : ℕ) (typed : TypedModule)
        → (at : IsLinked plan modules objects merged before after number_of_module typed)
        → slice_get modules number_of_module ≡ Some typed
        → AddressOf number_of_module typed number
        ≡ address_of_location (address_for plan merged at.linked) (location_of typed number)
    address_meant number_of_module number typed at typed_is = by (slice_get typed.objects number) refl
      where
        by :
            (found : Option TypedObject)
            → slice_get typed.objects number ≡ found
            → AddressOf number_of_module typed number
            ≡ address_of_location (address_for plan merged at.linked) (location_of typed number)
        by (Some object) e =
            ap (λ (found : Option TypedObject).
            option_map_or (address_in (placement_of plan modules objects))
            (option_and_then
            (λ (object : TypedObject).
            object_meant modules (record { number_of_module = number_of_module; number = number }) object
            object.home)
            found) 0) e
            ∙ by_home number_of_module number typed object object.home at typed_is e refl
        by None e =
            ap (λ (found : Option TypedObject).
            option_map_or (address_in (placement_of plan modules objects))
            (option_and_then
            (λ (object : TypedObject).
            object_meant modules (record { number_of_module = number_of_module; number = number }) object
            object.home)
            found) 0) e
            ∙ sym (ap (λ (found : Option Location).
            address_of_location (address_for plan merged at.linked)
            (option_map_or (λ (location : Location). location) found (AtNumber 0)))
            (slice_get_past (locations_after typed [] typed.objects) number
            (past_end typed.objects number (length (locations_after typed [] typed.objects))
            (locations_length typed) e)))

    -- so what an object starts with is the same
    value_meant :
        (one other : ℕ → ℕ) (same : (number : ℕ) → one number ≡ other number) (value : InitialValue)
        → set (bytes_of_value one value) ≡ set (bytes_of_value other value)
    value_meant one other same (ByteValue byte) = refl
    value_meant one other same (WordValue word) = refl
    value_meant one other same (LocationValue object offset) =
        ap (λ (address : ℕ). set (bytes_of_word ((address + offset) % MEMORY_SIZE))) (same object)

    values_meant :
        (one other : ℕ → ℕ) (same : (number : ℕ) → one number ≡ other number) (values : List InitialValue)
        → flat_map (λ (value : InitialValue). set (bytes_of_value one value)) values
        ≡ flat_map (λ (value : InitialValue). set (bytes_of_value other value)) values
    values_meant one other same [] = refl
    values_meant one other same (value ∷ values) =
        ap₂ (λ (here rest : List (Option ℕ)). here ++ rest) (value_meant one other same value)
        (values_meant one other same values)

    pub bytes_meant :
        (number_of_module : ℕ) (typed : TypedModule) (object : TypedObject)
        → (at : IsLinked plan modules objects merged before after number_of_module typed)
        → slice_get modules number_of_module ≡ Some typed
        → starting_bytes (AddressOf number_of_module typed) object
        ≡ starting_bytes (addresses (address_for plan merged at.linked) (location_of typed)) object
    bytes_meant number_of_module typed object at typed_is =
        ap (λ (bytes : List (Option ℕ)).
        bytes ++ replicate (size_of_object object - bytes_filled object.home) None)
        (values_meant (AddressOf number_of_module typed)
        (addresses (address_for plan merged at.linked) (location_of typed))
        (λ number. address_meant number_of_module number typed at typed_is) (values_in object.home))
