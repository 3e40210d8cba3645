-- Where objects lie before the module has its place, said of each object by itself; and that they lie
-- there in
-- placements that follow the storage of the module.
use Rattle.layout.proofs.Prelude.{◌≡◌, ℕ, zero, suc, ◌+◌, List, [], ◌∷◌, ◌++◌, length, Option, Some, refl, ap, sym, subst, ◌∙◌, arith, slice_get, unwrap_or, AllByRecursion, enumerate_from, option_map_or, append_assoc, length-append, recursion_from_All, none-some, AtNumber, AtObject, LooksBack, IsStorable, Home, InData, InConstants, Placed, BasedOn, Elsewhere, Nowhere, InFrame, TypedObject, TypedModule, Location, Absolute, further_on, location_in, location_by_home, locations_after, location_of, append-nil, got_before, got_first}

-- the locations of all objects begin with those that are known
record Begins (before all : List Location) : Type 0 where
  after : List Location
  whole : before ++ after ≡ all

begins :
    (typed : TypedModule) (before : List Location) (objects : List TypedObject)
    → Begins before (locations_after typed before objects)
begins typed before [] = record { after = []; whole = append-nil before }
begins typed before (object ∷ others) =
    let here : Location = location_by_home typed before (length before) object object.home in
    let later : Begins (before ++ (here ∷ [])) (locations_after typed (before ++ (here ∷ [])) others) =
    begins typed (before ++ (here ∷ [])) others in
    record {
      after = here ∷ later.after;
      whole = sym (append_assoc before (here ∷ []) later.after) ∙ later.whole;
    }

-- AT looks at an object before it, whose location is known by then
by_home :
    (typed : TypedModule) (before all : List Location) (number : ℕ) (object : TypedObject) (home : Home)
    → LooksBack (length before) home
    → number ≡ length before
    → Begins before all
    → location_by_home typed before (length before) object home
    ≡ location_by_home typed all number object home
by_home typed before all number object (Placed (AtNumber address)) back is begun = refl
by_home typed before all number object (Placed (AtObject other offset)) back is begun =
    ap (λ (found : Option Location).
    further_on (option_map_or (λ (location : Location). location) found (Absolute 0)) offset)
    (sym (got_before before begun.after other back)
    ∙ ap (λ (items : List Location). slice_get items other) begun.whole)
by_home typed before all number object Elsewhere back is begun = refl
by_home typed before all number object (InData values) back is begun =
    ap (λ n. location_by_home typed before n object (InData values)) (sym is)
by_home typed before all number object (InConstants values) back is begun =
    ap (λ n. location_by_home typed before n object (InConstants values)) (sym is)
by_home typed before all number object (BasedOn base) back is begun = refl
by_home typed before all number object Nowhere back is begun = refl
by_home typed before all number object (InFrame procedure) back is begun = refl

abbrev AllLookBack : (first : ℕ) → List TypedObject → Type 0
AllLookBack first objects =
    AllByRecursion (λ (numbered : ℕ × TypedObject). LooksBack numbered.0 (numbered.1).home)
    (enumerate_from first objects)

located :
    (typed : TypedModule) (before : List Location) (objects : List TypedObject) (first index number : ℕ)
    (object : TypedObject)
    → first ≡ length before
    → AllLookBack first objects
    → slice_get objects index ≡ Some object
    → number ≡ first + index
    → location_in (locations_after typed before objects) number
    ≡ location_by_home typed (locations_after typed before objects) number object object.home
located typed before [] first index number object first_is back found at = absurd (none-some object found)
located typed before (here ∷ others) first zero number object first_is back found at =
    ap (λ (found : Option Location). option_map_or (λ (location : Location). location) found (Absolute 0))
    (ap (λ (items : List Location). slice_get items number) (sym later.whole)
    ∙ ap (slice_get ((before ++ (location ∷ [])) ++ later.after)) number_is
    ∙ ap (λ (items : List Location). slice_get items (length before))
    (append_assoc before (location ∷ []) later.after)
    ∙ got_first before location later.after)
    ∙ by_home typed before all number here here.home
    (subst (λ n. LooksBack n here.home) first_is back.0) number_is
    (record {
      after = location ∷ later.after;
      whole = sym (append_assoc before (location ∷ []) later.after) ∙ later.whole;
    })
    ∙ ap (λ (object : TypedObject). location_by_home typed all number object object.home)
    (ap (λ (found : Option TypedObject). unwrap_or found here) found)
  where
    location : Location
    location = location_by_home typed before (length before) here here.home

    all : List Location
    all = locations_after typed (before ++ (location ∷ [])) others

    later : Begins (before ++ (location ∷ [])) all
    later = begins typed (before ++ (location ∷ [])) others

    number_is : number ≡ length before
    number_is = omega (arith, at, first_is)
located typed before (here ∷ others) first (suc index) number object first_is back found at =
    located typed (before ++ (location ∷ [])) others (first + 1) index number object
    (omega (arith, first_is, length-append before (location ∷ []))) back.1 found (omega (arith, at))
  where
    location : Location
    location = location_by_home typed before (length before) here here.home

-- Each object lies where its home says: in its slot, at a number, or so much after where another object lies.
pub location_is :
    (typed : TypedModule) (number : ℕ) (object : TypedObject)
    → IsStorable typed
    → slice_get typed.objects number ≡ Some object
    → location_of typed number
    ≡ location_by_home typed (locations_after typed [] typed.objects) number object object.home
location_is typed number object storable found =
    located typed [] typed.objects 0 number number object refl
    (recursion_from_All (λ (numbered : ℕ × TypedObject). LooksBack numbered.0 (numbered.1).home)
    (enumerate_from 0 typed.objects) storable.at)
    found (omega arith)
