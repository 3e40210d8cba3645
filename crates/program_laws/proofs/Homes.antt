-- Where tree code has an object, by where the object lives.
use Rattle.program_laws.proofs.Prelude.{◌≡◌, ℕ, zero, suc, ◌+◌, List, [], ◌∷◌, ◌++◌, length, slice_get, get_or, Some, refl, ap, sym, ◌∙◌, arith, get_or_push, length_push, none-some, same_Some, TypedHome, BasedOn, InFrame, TypedObject, TypedModule, Storage, Home, Static, Place, Number, home_of_object, homes_from, homes_of, home_at, earlier_kept}

abbrev next_home : TypedModule → Storage → (before : List Home) → TypedObject → Home
next_home typed storage before object = home_of_object typed storage before (length before) object.home

-- the home of an object, by those of the objects before it
pub record HomeIs (typed : TypedModule) (storage : Storage) (kind : TypedHome) (home : Home) : Type 0 where
  pub before : List Home
  pub at : ℕ
  pub is : home ≡ home_of_object typed storage before at kind

home_from :
    (typed : TypedModule) (storage : Storage) (before : List Home) (objects : List TypedObject)
    (index : ℕ) (object : TypedObject) (default : Home)
    → slice_get objects index ≡ Some object
    → HomeIs typed storage object.home
    (get_or (homes_from typed storage before objects) (length before + index) default)
home_from typed storage before [] index object default found = absurd (none-some object found)
home_from typed storage before (first ∷ others) zero object default found = record {
  before = before;
  at = length before;
  is =
      ap (λ (number : ℕ).
      get_or (homes_from typed storage (before ++ next_home typed storage before first ∷ []) others) number
      default) nothing_more
      ∙ earlier_kept typed storage (before ++ next_home typed storage before first ∷ []) others
      (length before) default
      (omega (arith, length_push before (next_home typed storage before first)))
      ∙ get_or_push before (next_home typed storage before first) default (length before) refl
      ∙ ap (λ (home : TypedHome). home_of_object typed storage before (length before) home)
      (ap (λ (object : TypedObject). object.home) (same_Some first object found));
}
  where
    nothing_more : length before + 0 ≡ length before
    nothing_more = omega arith
home_from typed storage before (first ∷ others) (suc index) object default found =
    let later =
    home_from typed storage (before ++ next_home typed storage before first ∷ []) others index
    object default found in
    record {
      before = later.before;
      at = later.at;
      is =
          ap (λ (number : ℕ).
          get_or (homes_from typed storage (before ++ next_home typed storage before first ∷ []) others)
          number
          default) one_more
          ∙ later.is;
    }
  where
    one_more :
        length before + suc index
        ≡ length (before ++ next_home typed storage before first ∷ []) + index
    one_more = omega (arith, length_push before (next_home typed storage before first))

pub home_is_of :
    (typed : TypedModule) (storage : Storage) (number : ℕ) (object : TypedObject)
    → slice_get typed.objects number ≡ Some object
    → HomeIs typed storage object.home (home_at (homes_of typed storage) number)
unfolding homes_of
home_is_of typed storage number object found =
    let from = home_from typed storage [] typed.objects number object (Static (Number 0)) found in
    record {
      before = from.before;
      at = from.at;
      is =
          ap (λ (at : ℕ). get_or (homes_from typed storage [] typed.objects) at (Static (Number 0))) from_zero
          ∙ from.is;
    }
  where
    from_zero : number ≡ 0 + number
    from_zero = omega arith

-- what is BASED or in a frame has no place of its own
pub not_based :
    (typed : TypedModule) (storage : Storage) (number base : ℕ) (object : TypedObject) (place : Place)
    → slice_get typed.objects number ≡ Some object
    → object.home ≡ BasedOn base
    → home_at (homes_of typed storage) number ≡ Static place
    → ⊥
not_based typed storage number base object place found home static =
    let is = home_is_of typed storage number object found in
    let based = sym static ∙ (is.is ∙ ap (home_of_object typed storage is.before is.at) home) in
    cc

pub not_in_frame :
    (typed : TypedModule) (storage : Storage) (number procedure : ℕ) (object : TypedObject) (place : Place)
    → slice_get typed.objects number ≡ Some object
    → object.home ≡ InFrame procedure
    → home_at (homes_of typed storage) number ≡ Static place
    → ⊥
not_in_frame typed storage number procedure object place found home static =
    let is = home_is_of typed storage number object found in
    let frame = sym static ∙ (is.is ∙ ap (home_of_object typed storage is.before is.at) home) in
    cc
