-- In a placement that follows the storage of a module, each object lies at the address of its location.
use Rattle.layout.proofs.Prelude.{◌≡◌, ℕ, zero, suc, ◌+◌, ◌%◌, ◌<◌, List, [], ◌∷◌, map, take, Option, Some, None, refl, ap, sym, subst, ◌∙◌, arith, slice_get, slice_index, unwrap_or, zip, IsSomeAnd, AllByRecursion, enumerate_from, recursion_from_All, none-some, slice_get_within, slice_get-get_or, MEMORY_SIZE, AtNumber, AtObject, HasPlace, LooksBack, LooksAtPlace, IsStorable, Home, InData, InConstants, Placed, BasedOn, Elsewhere, Nowhere, InFrame, TypedObject, TypedModule, Code, Data, Slot, data_bytes, is_object, constants_before, slot_of_object, storage_with, ModulePlacement, Bases, base_of, LiesInSlot, FollowsBases, HasAddresses, LiesByHome, LiesWhereAtSays, Target, SegmentStart, location_by_home, locations_after, location_of, address_of_location, got_both}
use Rattle.layout.specs.declared.slot.Segment.{Segment}
use Rattle.layout.proofs.Resolving.{further}
use Rattle.layout.proofs.Segments.{of_all}
use Rattle.layout.proofs.Locations.{location_is}

-- the slot of an object in the storage
got_slot :
    (typed : TypedModule) (objects : List TypedObject) (first index number : ℕ) (object : TypedObject)
    → slice_get objects index ≡ Some object
    → number ≡ first + index
    → slice_get
    (map (λ (numbered : ℕ × TypedObject). slot_of_object typed numbered.0 numbered.1 (numbered.1).home)
    (enumerate_from first objects)) index
    ≡ Some (slot_of_object typed number object object.home)
got_slot typed [] first index number object found at = absurd (none-some object found)
got_slot typed (here ∷ others) first zero number object found at =
    ap (λ (n : ℕ). Some (slot_of_object typed n here here.home)) (from at)
    ∙ ap (λ (object : TypedObject). Some (slot_of_object typed number object object.home))
    (ap (λ (found : Option TypedObject). unwrap_or found here) found)
  where
    from : number ≡ first + 0 → first ≡ number
    from at = omega (arith, at)
got_slot typed (here ∷ others) first (suc index) number object found at =
    got_slot typed others (first + 1) index number object found (omega (arith, at))

-- what is known of a placement of a module whose segments have their bases
record Follows (typed : TypedModule) (bases : Bases) (placed : ModulePlacement) : Type 0 where
  storable : IsStorable typed
  slots : FollowsBases bases (storage_with typed) placed
  at : LiesWhereAtSays (typed, placed)
  addresses : HasAddresses (typed, placed)

-- the targets of a module have the bases of its segments
abbrev pub AreBases : (address_of : Target → ℕ) → Bases → Type 0
AreBases address_of bases = (segment : Segment) → address_of (SegmentStart segment) ≡ base_of bases segment

abbrev LiesThere : TypedModule → ModulePlacement → (address_of : Target → ℕ) → (number : ℕ) → Type 0
LiesThere typed placed address_of number =
    slice_index placed.objects number ≡ address_of_location address_of (location_of typed number)

address_known :
    (typed : TypedModule) (placed : ModulePlacement) (number : ℕ) (object : TypedObject)
    → HasAddresses (typed, placed)
    → slice_get typed.objects number ≡ Some object
    → slice_get placed.objects number ≡ Some (slice_index placed.objects number)
address_known typed placed number object has found =
    slice_get-get_or placed.objects number 0
    (omega (arith, has.objects, slice_get_within typed.objects number object found))

slot_followed :
    (typed : TypedModule) (bases : Bases) (placed : ModulePlacement) (number : ℕ) (object : TypedObject)
    → Follows typed bases placed
    → slice_get typed.objects number ≡ Some object
    → LiesInSlot bases (slice_index placed.objects number) (slot_of_object typed number object object.home)
slot_followed typed bases placed number object follows found =
    of_all (λ (object : Option Slot × ℕ). LiesInSlot bases object.1 object.0)
    (zip (storage_with typed).objects placed.objects) number
    (slot_of_object typed number object object.home, slice_index placed.objects number)
    (recursion_from_All (λ (object : Option Slot × ℕ). LiesInSlot bases object.1 object.0)
    (zip (storage_with typed).objects placed.objects) follows.slots.objects)
    (got_both (storage_with typed).objects placed.objects number
    (slot_of_object typed number object object.home) (slice_index placed.objects number)
    (got_slot typed typed.objects 0 number number object found (omega arith))
    (address_known typed placed number object follows.addresses found))

at_followed :
    (typed : TypedModule) (bases : Bases) (placed : ModulePlacement) (number : ℕ) (object : TypedObject)
    → Follows typed bases placed
    → slice_get typed.objects number ≡ Some object
    → LiesByHome placed (slice_index placed.objects number) object.home
at_followed typed bases placed number object follows found =
    of_all (λ (object : TypedObject × ℕ). LiesByHome placed object.1 (object.0).home)
    (zip typed.objects placed.objects) number (object, slice_index placed.objects number)
    (recursion_from_All (λ (object : TypedObject × ℕ). LiesByHome placed object.1 (object.0).home)
    (zip typed.objects placed.objects) follows.at)
    (got_both typed.objects placed.objects number object (slice_index placed.objects number) found
    (address_known typed placed number object follows.addresses found))

-- where AT looks there is an object with a place, before
record Looks (typed : TypedModule) (number other : ℕ) : Type 0 where
  object : TypedObject
  found : slice_get typed.objects other ≡ Some object
  has_place : HasPlace object.home
  before : other < number

back_of :
    (objects : List TypedObject) (first index number : ℕ) (object : TypedObject)
    → AllByRecursion (λ (numbered : ℕ × TypedObject). LooksBack numbered.0 (numbered.1).home)
    (enumerate_from first objects)
    → slice_get objects index ≡ Some object
    → number ≡ first + index
    → LooksBack number object.home
back_of [] first index number object all found at = absurd (none-some object found)
back_of (here ∷ others) first zero number object all found at =
    subst (λ (n : ℕ). LooksBack n object.home) (from at)
    (subst (λ (object : TypedObject). LooksBack first object.home)
    (ap (λ (found : Option TypedObject). unwrap_or found here) found) all.0)
  where
    from : number ≡ first + 0 → first ≡ number
    from at = omega (arith, at)
back_of (here ∷ others) first (suc index) number object all found at =
    back_of others (first + 1) index number object all.1 found (omega (arith, at))

looks :
    (typed : TypedModule) (number other offset : ℕ) (object : TypedObject)
    → IsStorable typed
    → slice_get typed.objects number ≡ Some object
    → object.home ≡ Placed (AtObject other offset)
    → Looks typed number other
looks typed number other offset object storable found is =
    by_found (slice_get typed.objects other) refl
    (subst (λ (home : Home). LooksAtPlace typed.objects home) is
    (of_all (λ (object : TypedObject). LooksAtPlace typed.objects object.home) typed.objects number object
    (recursion_from_All (λ (object : TypedObject). LooksAtPlace typed.objects object.home) typed.objects
    storable.places) found))
  where
    by_found :
        (at : Option TypedObject)
        → slice_get typed.objects other ≡ at
        → IsSomeAnd at (λ (object : TypedObject). HasPlace object.home)
        → Looks typed number other
    by_found None at place = absurd place
    by_found (Some there) at place = record {
      object = there;
      found = at;
      has_place = place;
      before = subst (λ (home : Home). LooksBack number home) is
          (back_of typed.objects 0 number number object
          (recursion_from_All (λ (numbered : ℕ × TypedObject). LooksBack numbered.0 (numbered.1).home)
          (enumerate_from 0 typed.objects) storable.at) found (omega arith));
    }

in_segment :
    (bases : Bases) (address_of : Target → ℕ) (segment : Segment) (offset : ℕ)
    → AreBases address_of bases
    → (base_of bases segment + offset) % MEMORY_SIZE
    ≡ (address_of (SegmentStart segment) + offset) % MEMORY_SIZE
in_segment bases address_of segment offset are =
    ap (λ (base : ℕ). (base + offset) % MEMORY_SIZE) (sym (are segment))

lies_by_home :
    (typed : TypedModule) (bases : Bases) (placed : ModulePlacement) (address_of : Target → ℕ) (number : ℕ)
    (object : TypedObject) (home : Home)
    → Follows typed bases placed
    → AreBases address_of bases
    → slice_get typed.objects number ≡ Some object
    → object.home ≡ home
    → HasPlace home
    → LiesInSlot bases (slice_index placed.objects number) (slot_of_object typed number object home)
    → LiesByHome placed (slice_index placed.objects number) home
    → ((other : ℕ) → Looks typed number other → LiesThere typed placed address_of other)
    → slice_index placed.objects number
    ≡ address_of_location address_of
    (location_by_home typed (locations_after typed [] typed.objects) number object home)
lies_by_home typed bases placed address_of number object (InData values) follows are found is
    place slot at before =
    slot ∙ in_segment bases address_of Data (data_bytes (take number typed.objects)) are
lies_by_home typed bases placed address_of number object (InConstants values) follows are found is
    place slot at before =
    slot ∙ in_segment bases address_of Code (constants_before typed (is_object number)) are
lies_by_home typed bases placed address_of number object (Placed (AtNumber address)) follows are
    found is place slot at before =
    at
lies_by_home typed bases placed address_of number object (Placed (AtObject other offset)) follows
    are found is place slot at before =
    at
    ∙ ap (λ (address : ℕ). (address + offset) % MEMORY_SIZE)
    (before other (looks typed number other offset object follows.storable found is))
    ∙ sym (further address_of (location_of typed other) offset)
lies_by_home typed bases placed address_of number object (BasedOn base) follows are found is
    place slot at before = absurd place
lies_by_home typed bases placed address_of number object Elsewhere follows are found is
    place slot at before = absurd place
lies_by_home typed bases placed address_of number object Nowhere follows are found is
    place slot at before = absurd place
lies_by_home typed bases placed address_of number object (InFrame procedure) follows are found is
    place slot at before = absurd place

lies_below :
    (bound : ℕ) (typed : TypedModule) (bases : Bases) (placed : ModulePlacement) (address_of : Target → ℕ)
    (number : ℕ) (object : TypedObject)
    → number < bound
    → Follows typed bases placed
    → AreBases address_of bases
    → slice_get typed.objects number ≡ Some object
    → HasPlace object.home
    → LiesThere typed placed address_of number
lies_below zero typed bases placed address_of number object below follows are found place =
    absurd (omega (arith, below))
lies_below (suc bound) typed bases placed address_of number object below follows are found place =
    lies_by_home typed bases placed address_of number object object.home follows are found refl place
    (slot_followed typed bases placed number object follows found)
    (at_followed typed bases placed number object follows found)
    (λ other it.
    lies_below bound typed bases placed address_of other it.object (omega (arith, it.before, below)) follows
    are it.found it.has_place)
    ∙ ap (address_of_location address_of) (sym (location_is typed number object follows.storable found))

-- Each object that has a place lies at the address of its location, where targets have the bases of the
-- segments.
pub lies_at_location :
    (typed : TypedModule) (bases : Bases) (placed : ModulePlacement) (address_of : Target → ℕ) (number : ℕ)
    (object : TypedObject)
    → IsStorable typed
    → FollowsBases bases (storage_with typed) placed
    → LiesWhereAtSays (typed, placed)
    → HasAddresses (typed, placed)
    → AreBases address_of bases
    → slice_get typed.objects number ≡ Some object
    → HasPlace object.home
    → slice_index placed.objects number ≡ address_of_location address_of (location_of typed number)
lies_at_location typed bases placed address_of number object storable slots at addresses are found place =
    lies_below (suc number) typed bases placed address_of number object (omega arith)
    (record { storable = storable; slots = slots; at = at; addresses = addresses }) are found place
