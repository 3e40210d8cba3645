-- An object in the frame of a procedure begins at its number there, and one in the data segment at its place
-- in the storage.
use Rattle.frames.proofs.Prelude.{◌≡◌, ℕ, zero, suc, ◌+◌, ◌<◌, List, [], ◌∷◌, ◌++◌, length, slice_get, slice_index_or, get_or, None, Some, refl, ap, sym, ◌∙◌, arith, get_or_append_left, get_or_push, length_push, none-some, same_Some, TypedHome, InData, InFrame, TypedObject, TypedModule, Storage, Static, Frame, Number, frame_number, home_of_object, homes_from, homes_of, place_of_slot, home_at}
use Rattle.treecode.specs.declared.place.Home.{Home}

-- the home of the object after those before
abbrev next_home : TypedModule → Storage → (before : List Home) → TypedObject → Home
next_home typed storage before object = home_of_object typed storage before (length before) object.home

-- the homes of those before are kept
pub earlier_kept :
    (typed : TypedModule) (storage : Storage) (before : List Home) (objects : List TypedObject)
    (number : ℕ) (default : Home)
    → number < length before
    → get_or (homes_from typed storage before objects) number default ≡ get_or before number default
earlier_kept typed storage before [] number default within = refl
earlier_kept typed storage before (object ∷ others) number default within =
    earlier_kept typed storage (before ++ next_home typed storage before object ∷ []) others number default
    (omega (arith, within, length_push before (next_home typed storage before object)))
    ∙ get_or_append_left before (next_home typed storage before object ∷ []) default number within

frame_home :
    (typed : TypedModule) (storage : Storage) (before : List Home) (objects : List TypedObject)
    (index procedure : ℕ) (object : TypedObject) (default : Home)
    → slice_get objects index ≡ Some object
    → object.home ≡ InFrame procedure
    → get_or (homes_from typed storage before objects) (length before + index) default
    ≡ Frame (frame_number typed procedure (length before + index))
frame_home typed storage before [] index procedure object default found home = absurd (none-some object found)
frame_home typed storage before (first ∷ others) zero procedure object default found home =
    ap (λ (number : ℕ).
    get_or (homes_from typed storage (before ++ next_home typed storage before first ∷ []) others) number
    default) nothing_more
    ∙ earlier_kept typed storage (before ++ next_home typed storage before first ∷ []) others
    (length before) default
    (omega (arith, length_push before (next_home typed storage before first)))
    ∙ get_or_push before (next_home typed storage before first) default (length before) refl
    ∙ ap (λ (home : TypedHome). home_of_object typed storage before (length before) home)
    (ap (λ (object : TypedObject). object.home) (same_Some first object found) ∙ home)
    ∙ ap (λ (number : ℕ). Frame (frame_number typed procedure number)) (sym nothing_more)
  where
    nothing_more : length before + 0 ≡ length before
    nothing_more = omega arith
frame_home typed storage before (first ∷ others) (suc index) procedure object default found home =
    ap (λ (number : ℕ).
    get_or (homes_from typed storage (before ++ next_home typed storage before first ∷ []) others) number
    default) one_more
    ∙ frame_home typed storage (before ++ next_home typed storage before first ∷ []) others index procedure
    object default found home
    ∙ ap (λ (number : ℕ). Frame (frame_number typed procedure number)) (sym one_more)
  where
    one_more :
        length before + suc index
        ≡ length (before ++ next_home typed storage before first ∷ []) + index
    one_more = omega (arith, length_push before (next_home typed storage before first))

pub home_in_frame :
    (typed : TypedModule) (storage : Storage) (procedure number : ℕ) (object : TypedObject)
    → slice_get typed.objects number ≡ Some object
    → object.home ≡ InFrame procedure
    → home_at (homes_of typed storage) number ≡ Frame (frame_number typed procedure number)
unfolding homes_of
home_in_frame typed storage procedure number object found home =
    ap (λ (at : ℕ). get_or (homes_from typed storage [] typed.objects) at (Static (Number 0))) from_zero
    ∙ frame_home typed storage [] typed.objects number procedure object (Static (Number 0)) found home
    ∙ ap (λ (at : ℕ). Frame (frame_number typed procedure at)) (sym from_zero)
  where
    from_zero : number ≡ 0 + number
    from_zero = omega arith

-- a variable of the data segment begins at its place in the storage
data_home :
    (typed : TypedModule) (storage : Storage) (before : List Home) (objects : List TypedObject)
    (index : ℕ) (object : TypedObject) (default : Home)
    → slice_get objects index ≡ Some object
    → object.home ≡ InData []
    → get_or (homes_from typed storage before objects) (length before + index) default
    ≡ Static (place_of_slot (slice_index_or storage.objects (length before + index) None))
data_home typed storage before [] index object default found home = absurd (none-some object found)
data_home typed storage before (first ∷ others) zero object default found home =
    ap (λ (number : ℕ).
    get_or (homes_from typed storage (before ++ next_home typed storage before first ∷ []) others) number
    default) nothing_more
    ∙ earlier_kept typed storage (before ++ next_home typed storage before first ∷ []) others
    (length before) default
    (omega (arith, length_push before (next_home typed storage before first)))
    ∙ get_or_push before (next_home typed storage before first) default (length before) refl
    ∙ ap (λ (home : TypedHome). home_of_object typed storage before (length before) home)
    (ap (λ (object : TypedObject). object.home) (same_Some first object found) ∙ home)
    ∙ ap (λ (number : ℕ). Static (place_of_slot (slice_index_or storage.objects number None)))
    (sym nothing_more)
  where
    nothing_more : length before + 0 ≡ length before
    nothing_more = omega arith
data_home typed storage before (first ∷ others) (suc index) object default found home =
    ap (λ (number : ℕ).
    get_or (homes_from typed storage (before ++ next_home typed storage before first ∷ []) others) number
    default) one_more
    ∙ data_home typed storage (before ++ next_home typed storage before first ∷ []) others index
    object default found
    home
    ∙ ap (λ (number : ℕ). Static (place_of_slot (slice_index_or storage.objects number None))) (sym one_more)
  where
    one_more :
        length before + suc index
        ≡ length (before ++ next_home typed storage before first ∷ []) + index
    one_more = omega (arith, length_push before (next_home typed storage before first))

pub home_in_data :
    (typed : TypedModule) (storage : Storage) (number : ℕ) (object : TypedObject)
    → slice_get typed.objects number ≡ Some object
    → object.home ≡ InData []
    → home_at (homes_of typed storage) number
    ≡ Static (place_of_slot (slice_index_or storage.objects number None))
unfolding homes_of
home_in_data typed storage number object found home =
    ap (λ (at : ℕ). get_or (homes_from typed storage [] typed.objects) at (Static (Number 0))) from_zero
    ∙ data_home typed storage [] typed.objects number object (Static (Number 0)) found home
    ∙ ap (λ (at : ℕ). Static (place_of_slot (slice_index_or storage.objects at None))) (sym from_zero)
  where
    from_zero : number ≡ 0 + number
    from_zero = omega arith
