-- In the placement that a plan gives each object of a module, but for EXTERNAL ones, lies at the address of
-- its location.
use Rattle.image_laws.proofs.Prelude.{◌≡◌, ℕ, zero, suc, ◌+◌, List, [], ◌∷◌, ◌++◌, length, Option, Some, None, refl, ap, sym, subst, ◌∙◌, length-append, arith, slice_get, slice_index, unwrap_or, zip, none-some, get_or_from_slice_get, HasPlace, IsStorable, Home, InData, InConstants, Placed, BasedOn, Elsewhere, Nowhere, InFrame, TypedObject, TypedModule, Slot, Bases, FollowsBases, HasAddresses, LiesWhereAtSays, ModulePlacement, address_by_home, addresses_after, module_placement_by, Location, address_of_location, location_by_home, location_of, locations_after, slot_of_object, storage_with, location_is, AreBases, lies_at_location, got_behind, got_both, got_in_front, got_numbered}
use Rattle.layout.specs.Segments.{Target, Absolute}

-- an object without a place of its own, and in no other module: its address says nothing and is 0
abbrev HasNone : Home → Type 0
HasNone (BasedOn base) = Unit {0}
HasNone Nowhere = Unit {0}
HasNone (InFrame procedure) = Unit {0}
HasNone home = ⊥

address_kept :
    (bases : Bases) (before : List ℕ) (objects : List (TypedObject × Option Slot)) (number address : ℕ)
    → slice_get before number ≡ Some address
    → slice_get (addresses_after bases before objects) number ≡ Some address
address_kept bases before [] number address found = found
address_kept bases before (object ∷ others) number address found =
    address_kept bases (before ++ address_by_home bases before object.1 (object.0).home ∷ [])
    others number address
    (got_in_front before (address_by_home bases before object.1 (object.0).home ∷ []) number address found)

none_is_zero :
    (bases : Bases) (before : List ℕ) (object : TypedObject) (home : Home)
    → HasNone home
    → address_by_home bases before None home ≡ 0
none_is_zero bases before object (BasedOn base) none = refl
none_is_zero bases before object Nowhere none = refl
none_is_zero bases before object (InFrame procedure) none = refl
none_is_zero bases before object (InData values) none = absurd none
none_is_zero bases before object (InConstants values) none = absurd none
none_is_zero bases before object (Placed at) none = absurd none
none_is_zero bases before object Elsewhere none = absurd none

address_without :
    (bases : Bases) (before : List ℕ) (objects : List (TypedObject × Option Slot)) (index number : ℕ)
    (object : TypedObject)
    → number ≡ length before + index
    → slice_get objects index ≡ Some (object, None)
    → HasNone object.home
    → slice_get (addresses_after bases before objects) number ≡ Some 0
address_without bases before [] index number object at found none = absurd (none-some (object, None) found)
address_without bases before (first ∷ others) zero number object at found none =
    let here : first ≡ (object, None) =
    ap (λ (found : Option (TypedObject × Option Slot)). unwrap_or found first) found in
    let address : address_by_home bases before first.1 (first.0).home ≡ 0 =
    ap (λ (one : TypedObject × Option Slot). address_by_home bases before one.1 (one.0).home) here
    ∙ none_is_zero bases before object object.home none in
    address_kept bases (before ++ address_by_home bases before first.1 (first.0).home ∷ []) others number 0
    (ap (slice_get (before ++ address_by_home bases before first.1 (first.0).home ∷ [])) at
    ∙ got_behind before (address_by_home bases before first.1 (first.0).home ∷ []) 0
    ∙ ap (λ (n : ℕ). Some n) address)
address_without bases before (first ∷ others) (suc index) number object at found none =
    address_without bases (before ++ address_by_home bases before first.1 (first.0).home ∷ []) others index
    number
    object
    (omega (arith, at, length-append before (address_by_home bases before first.1 (first.0).home ∷ [])))
    found none

-- an object that is in this module
abbrev pub IsHere : Home → Type 0
IsHere Elsewhere = ⊥
IsHere home = Unit {0}

module _
    (bases : Bases) (typed : TypedModule) (address_of : Target → ℕ) (storable : IsStorable typed)
    (follows : FollowsBases bases (storage_with typed) (module_placement_by bases typed (storage_with typed)))
    (at_says : LiesWhereAtSays (typed, module_placement_by bases typed (storage_with typed)))
    (addresses : HasAddresses (typed, module_placement_by bases typed (storage_with typed)))
    (are : AreBases address_of bases)
  where
    placed : ModulePlacement
    placed = module_placement_by bases typed (storage_with typed)

    slot_found :
        (number : ℕ) (object : TypedObject)
        → slice_get typed.objects number ≡ Some object
        → slice_get (zip typed.objects (storage_with typed).objects) number
        ≡ Some (object, slot_of_object typed number object object.home)
    slot_found number object found =
        got_both typed.objects (storage_with typed).objects number object
        (slot_of_object typed number object object.home) found
        (got_numbered
        (λ (numbered : ℕ × TypedObject). slot_of_object typed numbered.0 numbered.1 (numbered.1).home)
        typed.objects 0 number number object found (omega arith))

    by_none :
        (number : ℕ) (object : TypedObject)
        → slice_get typed.objects number ≡ Some object
        → HasNone object.home
        → slot_of_object typed number object object.home ≡ None
        → location_by_home typed (locations_after typed [] typed.objects) number object object.home
        ≡ Absolute 0
        → slice_index (module_placement_by bases typed (storage_with typed)).objects number
        ≡ address_of_location address_of (location_of typed number)
    by_none number object found none slot location =
        get_or_from_slice_get (module_placement_by bases typed (storage_with typed)).objects number 0 0
        (address_without bases [] (zip typed.objects (storage_with typed).objects) number number
        object (omega arith)
        (slot_found number object found ∙ ap (λ (slot : Option Slot). Some (object, slot)) slot) none)
        ∙ sym (ap (address_of_location address_of)
        (location_is typed number object storable found ∙ location))

    by_place :
        (number : ℕ) (object : TypedObject)
        → slice_get typed.objects number ≡ Some object
        → HasPlace object.home
        → slice_index (module_placement_by bases typed (storage_with typed)).objects number
        ≡ address_of_location address_of (location_of typed number)
    by_place number object found place =
        lies_at_location typed bases (module_placement_by bases typed (storage_with typed))
        address_of number object
        storable follows at_says addresses are found place

    by_home :
        (number : ℕ) (object : TypedObject) (home : Home)
        → slice_get typed.objects number ≡ Some object
        → object.home ≡ home
        → IsHere home
        → slice_index (module_placement_by bases typed (storage_with typed)).objects number
        ≡ address_of_location address_of (location_of typed number)
    by_home number object (InData values) found is here =
        by_place number object found (subst HasPlace (sym is) tt)
    by_home number object (InConstants values) found is here =
        by_place number object found (subst HasPlace (sym is) tt)
    by_home number object (Placed at) found is here =
        by_place number object found (subst HasPlace (sym is) tt)
    by_home number object (BasedOn base) found is here =
        by_none number object found (subst HasNone (sym is) tt) (ap (slot_of_object typed number object) is)
        (ap (location_by_home typed (locations_after typed [] typed.objects) number object) is)
    by_home number object Nowhere found is here =
        by_none number object found (subst HasNone (sym is) tt) (ap (slot_of_object typed number object) is)
        (ap (location_by_home typed (locations_after typed [] typed.objects) number object) is)
    by_home number object (InFrame procedure) found is here =
        by_none number object found (subst HasNone (sym is) tt) (ap (slot_of_object typed number object) is)
        (ap (location_by_home typed (locations_after typed [] typed.objects) number object) is)
    by_home number object Elsewhere found is here = absurd here

    -- each object lies at the address of its location
    pub lies_here :
        (number : ℕ) (object : TypedObject)
        → slice_get typed.objects number ≡ Some object
        → IsHere object.home
        → slice_index (module_placement_by bases typed (storage_with typed)).objects number
        ≡ address_of_location address_of (location_of typed number)
    lies_here number object found here = by_home number object object.home found refl here

-- there is a location for each object
locations_count :
    (typed : TypedModule) (before : List Location) (objects : List TypedObject)
    → length (locations_after typed before objects) ≡ length before + length objects
locations_count typed before [] = omega arith
locations_count typed before (object ∷ others) =
    let here : Location = location_by_home typed before (length before) object object.home in
    let rest = locations_count typed (before ++ (here ∷ [])) others in
    let more = length-append before (here ∷ []) in
    omega (arith, rest, more)

pub locations_length : (typed : TypedModule)
    → length (locations_after typed [] typed.objects) ≡ length typed.objects
locations_length typed = let all = locations_count typed [] typed.objects in omega (arith, all)
