-- The home of an object in tree code is its location before the module is placed.
use Rattle.treecode_laws.proofs.Prelude.{◌≡◌, ℕ, zero, suc, ◌<◌, ◌≤◌, ◌⊎◌, inl, inr, List, [], ◌∷◌, ◌++◌, length, take, Option, Some, None, Ok, refl, ap, sym, subst, ◌∙◌, append-nil, arith, IsSomeAnd, slice_get, unwrap_or, AllByRecursion, enumerate_from, option_map_or, append_assoc, length-append, get_or_past, recursion_from_All, none-some, slice_get_past, unwrap_or-slice_get, AtNumber, AtObject, ListsGlobals, size_of_object, HasPlace, LooksBack, LooksAtPlace, IsStorable, TypedHome, InData, InConstants, Placed, BasedOn, Elsewhere, Nowhere, InFrame, TypedObject, TypedModule, Slot, Location, SegmentStart, Absolute, After, further_on, location_in, location_by_home, locations_after, location_of, Storage, data_bytes, is_object, constants_before, slot_of_object, storage_of, External, Home, Place, static_place, external_number, external_place, externals_of, home_after, home_of_object, homes_from, homes_of, is_global_object, place_after, place_of_slot, home_at, IsLaidOut, location_of_place, IsStatic, got_before, got_first}
use Rattle.layout.specs.declared.slot.Segment.TheVariants as segments
use Rattle.layout.specs.Segments.{ExternalName}
use Rattle.treecode.specs.declared.place.Home.TheVariants as homes
use Rattle.treecode.specs.declared.place.Place.TheVariants as places
use Rattle.treecode_laws.proofs.Externals.{IsNamed, external_is_named}
use Rattle.treecode_laws.proofs.Slots.{stored, slot_is, data_offset, constant_offset}

-- The location of an object, in two forms that agree: tree code has its home, and the location is in memory
-- if the object is static. If it is BASED or in a frame, both forms have 0.
pub record LiesAt (names : List External) (kind : TypedHome) (home : Home) (location : Location) :
    Type 0 where
  pub is_static : IsStatic kind → home ≡ homes.Static (static_place home)
  pub lies : location_of_place names (static_place home) ≡ location

-- the place `distance` bytes further on
pub place_further :
    (names : List External) (place : Place) (distance : ℕ)
    → location_of_place names (place_after place distance)
    ≡ further_on (location_of_place names place) distance
place_further names (places.Number number) distance = refl
place_further names (places.Code offset) distance = refl
place_further names (places.Data offset) distance = refl
place_further names (places.External offset index) distance = refl

-- an object in its slot
in_data :
    (names : List External) (offset size : ℕ)
    → offset ≤ 65535
    → location_of_place names
    (place_of_slot (Some (record { segment = segments.Data; offset = offset; size = size })))
    ≡ After (SegmentStart segments.Data) offset
in_data names offset size fits = ap (After (SegmentStart segments.Data)) (omega (arith, fits))

in_code :
    (names : List External) (offset size : ℕ)
    → offset ≤ 65535
    → location_of_place names
    (place_of_slot (Some (record { segment = segments.Code; offset = offset; size = size })))
    ≡ After (SegmentStart segments.Code) offset
in_code names offset size fits = ap (After (SegmentStart segments.Code)) (omega (arith, fits))

-- the objects up to one are at the locations that tree code has
record LieAt (typed : TypedModule) (before : List TypedObject) (starts : List Home)
    (locations : List Location) : Type 0 where
  homes_length : length starts ≡ length before
  locations_length : length locations ≡ length before
  each :
      (number : ℕ) (object : TypedObject)
      → slice_get before number ≡ Some object
      → LiesAt (externals_of typed) object.home (home_at starts number) (location_in locations number)

-- an object after another that is static
after_static :
    (names : List External) (home : Home) (location : Location) (offset : ℕ)
    → home ≡ homes.Static (static_place home)
    → location_of_place names (static_place home) ≡ location
    → (home_after home offset ≡ homes.Static (static_place (home_after home offset)))
    × (location_of_place names (static_place (home_after home offset)) ≡ further_on location offset)
after_static names (homes.Static place) location offset is lies =
    (refl, place_further names place offset ∙ ap (λ (location : Location). further_on location offset) lies)
after_static names (homes.Based base) location offset is lies = absurd (cc)
after_static names (homes.Frame variable) location offset is lies = absurd (cc)

has_place_is_static : (kind : TypedHome) → HasPlace kind → IsStatic kind
has_place_is_static (InData values) has = tt
has_place_is_static (InConstants values) has = tt
has_place_is_static (Placed at) has = tt
has_place_is_static (BasedOn base) has = absurd has
has_place_is_static Elsewhere has = tt
has_place_is_static Nowhere has = tt
has_place_is_static (InFrame procedure) has = absurd has

last :
    {A : Type 0} (part : List A) (item : A)
    → slice_get (part ++ (item ∷ [])) (length part) ≡ Some item
last [] item = refl
last (first ∷ part) item = last part item

-- an EXTERNAL object
elsewhere :
    (typed : TypedModule) (number : ℕ) (name : List ℕ)
    → IsNamed typed number name
    → location_of_place (externals_of typed)
    (external_place (external_number typed (is_global_object number)))
    ≡ After (ExternalName name) 0
elsewhere typed number name named =
    ap (λ (found : Option ℕ). location_of_place (externals_of typed) (external_place found)) named.found
    ∙ ap (λ (found : Option External).
    After (ExternalName (option_map_or (λ (external : External). external.name) found [])) 0) named.named

-- the next object
next :
    (typed : TypedModule) (storage : Storage) (before others : List TypedObject) (starts : List Home)
    (locations : List Location) (object : TypedObject) (kind : TypedHome)
    → IsLaidOut typed storage
    → before ++ (object ∷ others) ≡ typed.objects
    → slice_get typed.objects (length before) ≡ Some object
    → object.home ≡ kind
    → LooksBack (length before) kind
    → LooksAtPlace typed.objects kind
    → LieAt typed before starts locations
    → LiesAt (externals_of typed) kind (home_of_object typed storage starts (length before) kind)
    (location_by_home typed locations (length before) object kind)
next typed storage before others starts locations object
    (InData values) laid whole found is back at lie = record {
      is_static = λ _. refl;
      lies =
          ap (λ (slot : Option Slot). location_of_place (externals_of typed) (place_of_slot slot))
          (slot_is typed storage (length before) object laid.stored found
          ∙ ap (slot_of_object typed (length before) object) is)
          ∙ in_data (externals_of typed) (data_bytes (take (length before) typed.objects))
          (size_of_object object)
          (data_offset typed storage (length before) laid.stored);
    }
next typed storage before others starts locations object
    (InConstants values) laid whole found is back at lie =
    record {
      is_static = λ _. refl;
      lies =
          ap (λ (slot : Option Slot). location_of_place (externals_of typed) (place_of_slot slot))
          (slot_is typed storage (length before) object laid.stored found
          ∙ ap (slot_of_object typed (length before) object) is)
          ∙ in_code (externals_of typed) (constants_before typed (is_object (length before)))
          (size_of_object object) (constant_offset typed storage (is_object (length before)) laid.stored);
    }
next typed storage before others starts locations object
    (Placed (AtNumber address)) laid whole found is back at lie =
    record { is_static = λ _. refl; lies = refl }
next typed storage before others starts locations object
    (Placed (AtObject other offset)) laid whole found is back at lie =
    by (slice_get typed.objects other) refl at
  where
    by :
        (target : Option TypedObject)
        → slice_get typed.objects other ≡ target
        → IsSomeAnd target (λ (target : TypedObject). HasPlace target.home)
        → LiesAt (externals_of typed) (Placed (AtObject other offset))
        (home_after (home_at starts other) offset)
        (further_on (location_in locations other) offset)
    by None e has = absurd has
    by (Some target) e has =
        let there : LiesAt (externals_of typed) target.home (home_at starts other)
        (location_in locations other) =
        lie.each other target
        (sym (got_before before (object ∷ others) other back)
        ∙ ap (λ (objects : List TypedObject). slice_get objects other) whole ∙ e) in
        let both = after_static (externals_of typed) (home_at starts other)
        (location_in locations other) offset
        (there.is_static (has_place_is_static target.home has)) there.lies in
        record { is_static = λ _. both.0; lies = both.1 }
next typed storage before others starts locations object (BasedOn base) laid whole found is back at lie =
    record { is_static = λ static. absurd static; lies = refl }
next typed storage before others starts locations object Elsewhere laid whole found is back at lie = record {
  is_static = λ _. refl;
  lies =
      elsewhere typed (length before) object.name
      (external_is_named typed (length before) object laid.globals found is);
}
next typed storage before others starts locations object Nowhere laid whole found is back at lie =
    record { is_static = λ _. refl; lies = refl }
next typed storage before others starts locations object (InFrame procedure) laid whole found is back at lie =
    record { is_static = λ static. absurd static; lies = refl }

-- an item of a list with one more at its end
got_more :
    {A : Type 0} (part : List A) (item : A) (number : ℕ) (got : A)
    → slice_get (part ++ (item ∷ [])) number ≡ Some got
    → ((number < length part) × (slice_get part number ≡ Some got)) ⊎ ((number ≡ length part) × (item ≡ got))
got_more [] item zero got found = inr (refl, ap (λ (found : Option _). unwrap_or found item) found)
got_more [] item (suc number) got found = absurd (none-some got found)
got_more (first ∷ part) item zero got found = inl (omega arith, found)
got_more (first ∷ part) item (suc number) got found =
    elim (got_more part item number got found) [
      | inl there ↦ inl (omega (arith, there.0), there.1)
      | inr there ↦ inr (ap suc there.0, there.1)
    ]

home_front :
    (starts : List Home) (home : Home) (number : ℕ)
    → number < length starts
    → home_at (starts ++ (home ∷ [])) number ≡ home_at starts number
home_front starts home number below =
    sym (unwrap_or-slice_get (starts ++ (home ∷ [])) number (homes.Static (places.Number 0)))
    ∙ ap (λ (found : Option Home). unwrap_or found (homes.Static (places.Number 0)))
    (got_before starts (home ∷ []) number below)
    ∙ unwrap_or-slice_get starts number (homes.Static (places.Number 0))

home_last : (starts : List Home) (home : Home) → home_at (starts ++ (home ∷ [])) (length starts) ≡ home
home_last starts home =
    sym (unwrap_or-slice_get (starts ++ (home ∷ [])) (length starts) (homes.Static (places.Number 0)))
    ∙ ap (λ (found : Option Home). unwrap_or found (homes.Static (places.Number 0))) (last starts home)

-- one more object at its location
lie_more :
    (typed : TypedModule) (before : List TypedObject) (object : TypedObject) (starts : List Home)
    (home : Home) (locations : List Location) (location : Location)
    → LiesAt (externals_of typed) object.home home location
    → LieAt typed before starts locations
    → LieAt typed (before ++ (object ∷ [])) (starts ++ (home ∷ [])) (locations ++ (location ∷ []))
lie_more typed before object starts home locations location lies lie = record {
  homes_length =
      omega (
        arith,
        length-append starts (home ∷ []),
        length-append before (object ∷ []),
        lie.homes_length,
      );
  locations_length =
      omega (
        arith,
        length-append locations (location ∷ []),
        length-append before (object ∷ []),
        lie.locations_length,
      );
  each = λ number found_object found.
      elim (got_more before object number found_object found) [
        | inl there ↦
            subst (λ (found_home : Home).
            LiesAt (externals_of typed) found_object.home found_home
            (location_in (locations ++ (location ∷ [])) number))
            (sym (home_front starts home number (omega (arith, there.0, lie.homes_length))))
            (subst (λ (got : Option Location).
            LiesAt (externals_of typed) found_object.home (home_at starts number)
            (option_map_or (λ (location : Location). location) got (Absolute 0)))
            (sym (got_before locations (location ∷ []) number (omega (arith, there.0, lie.locations_length))))
            (lie.each number found_object there.1))
        | inr there ↦
            subst (λ (found_home : Home).
            LiesAt (externals_of typed) found_object.home found_home
            (location_in (locations ++ (location ∷ [])) number))
            (sym (ap (home_at (starts ++ (home ∷ []))) (there.0 ∙ sym lie.homes_length)
            ∙ home_last starts home))
            (subst (λ (got : Option Location).
            LiesAt (externals_of typed) found_object.home home
            (option_map_or (λ (location : Location). location) got (Absolute 0)))
            (sym (ap (slice_get (locations ++ (location ∷ []))) (there.0 ∙ sym lie.locations_length)
            ∙ last locations location))
            (subst (λ (object : TypedObject). LiesAt (externals_of typed) object.home home location) there.1
            lies))
      ];
}

walk :
    (typed : TypedModule) (storage : Storage) (before others : List TypedObject) (starts : List Home)
    (locations : List Location)
    → IsLaidOut typed storage
    → before ++ others ≡ typed.objects
    → AllByRecursion (λ (numbered : ℕ × TypedObject). LooksBack numbered.0 (numbered.1).home)
    (enumerate_from (length before) others)
    → AllByRecursion (λ (object : TypedObject). LooksAtPlace typed.objects object.home) others
    → LieAt typed before starts locations
    → LieAt typed typed.objects (homes_from typed storage starts others)
    (locations_after typed locations others)
walk typed storage before [] starts locations laid whole back at lie =
    subst (λ (objects : List TypedObject). LieAt typed objects starts locations)
    (sym (append-nil before) ∙ whole) lie
walk typed storage before (object ∷ others) starts locations laid whole back at lie =
    walk typed storage (before ++ (object ∷ [])) others
    (starts ++ (home_of_object typed storage starts (length starts) object.home ∷ []))
    (locations ++ (location_by_home typed locations (length locations) object object.home ∷ [])) laid
    (append_assoc before (object ∷ []) others ∙ whole)
    (subst (λ (first : ℕ).
    AllByRecursion (λ (numbered : ℕ × TypedObject). LooksBack numbered.0 (numbered.1).home)
    (enumerate_from first others)) (omega (arith, length-append before (object ∷ []))) back.1)
    at.1
    (lie_more typed before object starts
    (home_of_object typed storage starts (length starts) object.home) locations
    (location_by_home typed locations (length locations) object object.home)
    (subst (λ (n : ℕ).
    LiesAt (externals_of typed) object.home (home_of_object typed storage starts n object.home)
    (location_by_home typed locations (length locations) object object.home)) (sym lie.homes_length)
    (subst (λ (n : ℕ).
    LiesAt (externals_of typed) object.home (home_of_object typed storage starts (length before) object.home)
    (location_by_home typed locations n object object.home)) (sym lie.locations_length)
    (next typed storage before others starts locations object object.home laid whole
    (ap (λ (objects : List TypedObject). slice_get objects (length before)) (sym whole)
    ∙ got_first before object others)
    refl back.0 at.0 lie)))
    lie)

all_lie :
    (typed : TypedModule) (storage : Storage)
    → IsLaidOut typed storage
    → LieAt typed typed.objects (homes_of typed storage) (locations_after typed [] typed.objects)
unfolding homes_of
all_lie typed storage laid =
    walk typed storage [] typed.objects [] [] laid refl
    (recursion_from_All (λ (numbered : ℕ × TypedObject). LooksBack numbered.0 (numbered.1).home)
    (enumerate_from 0 typed.objects) laid.storable.at)
    (recursion_from_All (λ (object : TypedObject). LooksAtPlace typed.objects object.home) typed.objects
    laid.storable.places)
    (record {
      homes_length = refl;
      locations_length = refl;
      each = λ number object found. absurd (none-some object found);
    })

-- a module with these properties is laid out
pub laid_out :
    (typed : TypedModule) (storage : Storage)
    → IsStorable typed
    → ListsGlobals typed
    → storage_of typed ≡ Ok storage
    → IsLaidOut typed storage
laid_out typed storage storable globals is =
    record { storable = storable; globals = globals; stored = stored typed storage is }

-- Each object is at the location that tree code has.
pub object_lies :
    (typed : TypedModule) (storage : Storage) (number : ℕ) (object : TypedObject)
    → IsLaidOut typed storage
    → slice_get typed.objects number ≡ Some object
    → LiesAt (externals_of typed) object.home (home_at (homes_of typed storage) number)
    (location_of typed number)
object_lies typed storage number object laid found = (all_lie typed storage laid).each number object found

-- past the end of a list
outside :
    {A : Type 0} (items : List A) (number : ℕ) → slice_get items number ≡ None → length items ≤ number
outside [] number none = omega arith
outside (first ∷ items) zero none = absurd (none-some first (sym none))
outside (first ∷ items) (suc number) none = omega (arith, outside items number none)

-- The place of any number is the location of that number. An object that is not static has 0 in both forms,
-- and so has a number without an object.
pub any_lies :
    (typed : TypedModule) (storage : Storage) (number : ℕ)
    → IsLaidOut typed storage
    → location_of_place (externals_of typed) (static_place (home_at (homes_of typed storage) number))
    ≡ location_of typed number
any_lies typed storage number laid = by (slice_get typed.objects number) refl
  where
    lie : LieAt typed typed.objects (homes_of typed storage) (locations_after typed [] typed.objects)
    lie = all_lie typed storage laid

    by :
        (found : Option TypedObject)
        → slice_get typed.objects number ≡ found
        → location_of_place (externals_of typed) (static_place (home_at (homes_of typed storage) number))
        ≡ location_of typed number
    by (Some object) found = (lie.each number object found).lies
    by None none =
        ap (λ (home : Home). location_of_place (externals_of typed) (static_place home))
        (get_or_past (homes_of typed storage) number (homes.Static (places.Number 0))
        (omega (arith, outside typed.objects number none, lie.homes_length)))
        ∙ ap (λ (found : Option Location).
        option_map_or (λ (location : Location). location) found (Absolute 0))
        (sym (slice_get_past (locations_after typed [] typed.objects) number
        (omega (arith, outside typed.objects number none, lie.locations_length))))
