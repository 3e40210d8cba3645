-- The homes of objects in tree code: those that are BASED, those in the frame, and all others in memory.
use Rattle.task_laws.proofs.Prelude.{◌≡◌, ℕ, zero, suc, ◌+◌, ◌<◌, List, [], ◌∷◌, ◌++◌, length, slice_get, get_or, Some, refl, ap, sym, ◌∙◌, arith, get_or_append_left, get_or_push, length_push, none-some, same_Some, AtNumber, AtObject, TypedHome, InData, InConstants, Placed, BasedOn, Elsewhere, Nowhere, InFrame, TypedObject, TypedModule, Storage, Home, Place, Number, frame_number, home_after, home_of_object, homes_from, homes_of, home_at, earlier_kept}
use Rattle.treecode.specs.declared.place.Home.TheVariants as homes
use Rattle.treecode.specs.internal.Homes.{location_of}

-- where the object after those before begins
abbrev next_home : TypedModule → Storage → (before : List Home) → TypedObject → Home
next_home typed storage before object = home_of_object typed storage before (length before) object.home

-- an object begins where its kind says, by where those before it begin
pub record IsMade
    (typed : TypedModule) (storage : Storage) (all : List Home) (number : ℕ) (kind : TypedHome) : Type 0 where
  pub before : List Home
  pub is : home_at all number ≡ home_of_object typed storage before number kind
  pub same : (other : ℕ) → other < number → home_at before other ≡ home_at all other

made_from :
    (typed : TypedModule) (storage : Storage) (before : List Home) (objects : List TypedObject)
    (index number : ℕ) (object : TypedObject)
    → number ≡ length before + index
    → slice_get objects index ≡ Some object
    → IsMade typed storage (homes_from typed storage before objects) number object.home
made_from typed storage before [] index number object is found = absurd (none-some object found)
made_from typed storage before (first ∷ others) zero number object is found =
    let more = before ++ next_home typed storage before first ∷ [] in
    let long = length_push before (next_home typed storage before first) in
    let here : number ≡ length before = omega (arith, is) in
    record {
      before = before;
      is =
          earlier_kept typed storage more others number (homes.Static (Number 0)) (omega (arith, is, long))
          ∙ ap (λ (n : ℕ). get_or more n (homes.Static (Number 0))) here
          ∙ get_or_push before (next_home typed storage before first) (homes.Static (Number 0))
          (length before) refl
          ∙ ap (λ (object : TypedObject). home_of_object typed storage before (length before) object.home)
          (same_Some first object found)
          ∙ ap (λ (n : ℕ). home_of_object typed storage before n object.home) (sym here);
      same = λ other less.
          sym (earlier_kept typed storage more others other (homes.Static (Number 0))
          (omega (arith, less, is, long))
          ∙ get_or_append_left before (next_home typed storage before first ∷ [])
          (homes.Static (Number 0)) other
          (omega (arith, less, is)));
    }
made_from typed storage before (first ∷ others) (suc index) number object is found =
    let long = length_push before (next_home typed storage before first) in
    made_from typed storage (before ++ next_home typed storage before first ∷ []) others index number object
    (omega (arith, is, long)) found

pub is_made :
    (typed : TypedModule) (storage : Storage) (number : ℕ) (object : TypedObject)
    → slice_get typed.objects number ≡ Some object
    → IsMade typed storage (homes_of typed storage) number object.home
unfolding homes_of
is_made typed storage number object found =
    made_from typed storage [] typed.objects number number object (omega arith) found

-- where objects begin, by their kinds
pub data Begins (typed : TypedModule) (storage : Storage) (number : ℕ) : TypedHome → Home → Type 0 where
  BeginsAtBase : {base : ℕ}
      → Begins typed storage number (BasedOn base)
      (homes.Based (location_of (home_at (homes_of typed storage) base)))
  BeginsInFrame : {procedure : ℕ}
      → Begins typed storage number (InFrame procedure) (homes.Frame (frame_number typed procedure number))
  BeginsInMemory : {kind : TypedHome} {place : Place} → Begins typed storage number kind (homes.Static place)

after_is_static : (home : Home) (distance : ℕ)
    → (place : Place) × (home_after home distance ≡ homes.Static place)
after_is_static (homes.Static place) distance = (Rattle.treecode.specs.internal.Homes.place_after place distance, refl)
after_is_static (homes.Based base) distance = (Number distance, refl)
after_is_static (homes.Frame variable) distance = (Number distance, refl)

at_place :
    {typed : TypedModule} {storage : Storage} {number : ℕ} {home : Home} (kind : TypedHome) (place : Place)
    → home ≡ homes.Static place
    → Begins typed storage number kind home
at_place kind place same = rw same BeginsInMemory

by_kind :
    (typed : TypedModule) (storage : Storage) (number : ℕ) (kind : TypedHome)
    → ((base : ℕ) → kind ≡ BasedOn base → base < number)
    → IsMade typed storage (homes_of typed storage) number kind
    → Begins typed storage number kind (home_at (homes_of typed storage) number)
by_kind typed storage number (InData values) less made = at_place (InData values) _ made.is
by_kind typed storage number (InConstants values) less made = at_place (InConstants values) _ made.is
by_kind typed storage number (Placed (AtNumber address)) less made =
    at_place (Placed (AtNumber address)) _ made.is
by_kind typed storage number (Placed (AtObject object offset)) less made =
    let after = after_is_static (home_at made.before object) offset in
    at_place (Placed (AtObject object offset)) after.0 (made.is ∙ after.1)
by_kind typed storage number (BasedOn base) less made =
    rw (made.is ∙ ap (λ (home : Home). homes.Based (location_of home)) (made.same base (less base refl)))
    BeginsAtBase
by_kind typed storage number Elsewhere less made = at_place Elsewhere _ made.is
by_kind typed storage number Nowhere less made = at_place Nowhere _ made.is
by_kind typed storage number (InFrame procedure) less made = rw made.is BeginsInFrame

pub begins :
    (typed : TypedModule) (storage : Storage) (number : ℕ) (object : TypedObject)
    → slice_get typed.objects number ≡ Some object
    → ((base : ℕ) → object.home ≡ BasedOn base → base < number)
    → Begins typed storage number object.home (home_at (homes_of typed storage) number)
begins typed storage number object found less =
    by_kind typed storage number object.home less (is_made typed storage number object found)
