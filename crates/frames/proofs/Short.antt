-- A frame has so few objects that their numbers there fit 16 bits.
use Rattle.frames.proofs.Prelude.{◌≡◌, ℕ, zero, suc, ◌+◌, ◌<◌, ◌≤◌, ◌==◌, Bool, true, false, not, ◌||◌, cond, if◌then◌else◌, List, [], ◌∷◌, length, slice_get, sum_by, Some, refl, ap, ◌∙◌, subst, arith, eqb-true, eq-eqb, ne_eqb, All-get_or, sum_by-cons, none-some, same_Some, slice_get_within, get_or_from_slice_get, InFrame, TypedObject, TypedProcedure, TypedModule, size_of_object, FrameFits, HasParameters, frame_position, TakeBytes, or-true, zero-add, sym}
use Rattle.typed_trees.specs.Frames.{variable_bytes}
use Rattle.frames.proofs.Entries.{in_frame, home_is, lives_there, entries, position_of, stands_at}
use Rattle.frames.proofs.FrameBytes.{bytes_there, IsListed, listed}

-- whether a number is among others
abbrev is_among : List ℕ → (number : ℕ) → Bool
is_among [] number = false
is_among (first ∷ others) number = (first == number) || is_among others number

abbrev one_if : Bool → ℕ
one_if test = if test then 1 else 0

-- the number of objects with such a number, if the numbers begin with a first one
abbrev count_among : List ℕ → (first : ℕ) → List TypedObject → ℕ
count_among numbers first [] = 0
count_among numbers first (object ∷ others) =
    one_if (is_among numbers first) + count_among numbers (first + 1) others

none_among : (first : ℕ) (objects : List TypedObject) → count_among [] first objects ≡ 0
none_among first [] = refl
none_among first (object ∷ others) = omega (arith, none_among (first + 1) others)

either : (one other : Bool) → one_if (one || other) ≤ one_if (one || false) + one_if other
either true true = omega arith
either true false = omega arith
either false true = omega arith
either false false = omega arith

among_either :
    (number : ℕ) (numbers : List ℕ) (first : ℕ) (objects : List TypedObject)
    → count_among (number ∷ numbers) first objects
    ≤ count_among (number ∷ []) first objects + count_among numbers first objects
among_either number numbers first [] = omega arith
among_either number numbers first (object ∷ others) =
    omega (
      arith,
      either (number == first) (is_among numbers first),
      among_either number numbers (first + 1) others,
    )

none_past :
    (number first : ℕ) (objects : List TypedObject)
    → number < first
    → count_among (number ∷ []) first objects ≡ 0
none_past number first [] below = refl
none_past number first (object ∷ others) below =
    omega (
      arith,
      ap (λ (same : Bool). one_if (same || false)) (ne_eqb number first different),
      none_past number (first + 1) others (omega (arith, below)),
    )
  where
    different : number ≡ first → ⊥
    different same = omega (arith, same, below)

one_at_most : (number first : ℕ) (objects : List TypedObject) → count_among (number ∷ []) first objects ≤ 1
one_at_most number first [] = omega arith
one_at_most number first (object ∷ others) =
    by_test (number == first) refl (one_at_most number (first + 1) others)
  where
    by_test :
        (same : Bool)
        → (number == first) ≡ same
        → count_among (number ∷ []) (first + 1) others ≤ 1
        → one_if (same || false) + count_among (number ∷ []) (first + 1) others ≤ 1
    by_test true same rest =
        omega (
          arith,
          none_past number (first + 1) others (omega (arith, eqb-true number first same)),
        )
    by_test false same rest = omega (arith, rest)

no_more_than :
    (numbers : List ℕ) (first : ℕ) (objects : List TypedObject)
    → count_among numbers first objects ≤ length numbers
no_more_than [] first objects = omega (arith, none_among first objects)
no_more_than (number ∷ numbers) first objects =
    omega (
      arith,
      among_either number numbers first objects,
      one_at_most number first objects,
      no_more_than numbers first objects,
    )

among_since :
    (numbers : List ℕ) (index number : ℕ)
    → slice_get numbers index ≡ Some number
    → is_among numbers number ≡ true
among_since [] index number stands = absurd (none-some number stands)
among_since (first ∷ others) zero number stands =
    ap (λ (same : Bool). same || is_among others number)
    (eq-eqb first number (same_Some first number stands))
among_since (first ∷ others) (suc index) number stands =
    ap (λ (among : Bool). (first == number) || among) (among_since others index number stands)
    ∙ or-true (first == number)

-- each object in the frame has a byte there or is one of the parameters
abbrev IsAccounted : (procedure : ℕ) → (numbers : List ℕ) → (number : ℕ) → TypedObject → Type 0
IsAccounted procedure numbers number object =
    1 ≤ variable_bytes procedure object + one_if (is_among numbers number)

first_accounted :
    (procedure first : ℕ) (numbers : List ℕ) (object : TypedObject) (others : List TypedObject) (lives : Bool)
    → (lives ≡ true → IsAccounted procedure numbers first object)
    → length (entries procedure (first + 1) others)
    ≤ sum_by (variable_bytes procedure) others + count_among numbers (first + 1) others
    → length (cond lives ((first, object) ∷ entries procedure (first + 1) others)
    (entries procedure (first + 1) others))
    ≤ sum_by (variable_bytes procedure) (object ∷ others) + count_among numbers first (object ∷ others)
first_accounted procedure first numbers object others true accounted rest =
    omega (arith, accounted refl, rest, sum_by-cons (variable_bytes procedure) object others)
first_accounted procedure first numbers object others false accounted rest =
    omega (arith, rest, sum_by-cons (variable_bytes procedure) object others)

entries_accounted :
    (procedure first : ℕ) (numbers : List ℕ) (objects : List TypedObject)
    → ((index : ℕ) (object : TypedObject)
    → slice_get objects index ≡ Some object
    → object.home ≡ InFrame procedure
    → IsAccounted procedure numbers (first + index) object)
    → length (entries procedure first objects)
    ≤ sum_by (variable_bytes procedure) objects + count_among numbers first objects
entries_accounted procedure first numbers [] accounted = omega arith
entries_accounted procedure first numbers (object ∷ others) accounted =
    first_accounted procedure first numbers object others (in_frame procedure object)
    (λ lives. subst (λ (number : ℕ). IsAccounted procedure numbers number object) at_first
    (accounted 0 object refl (home_is procedure object.home lives)))
    (entries_accounted procedure (first + 1) numbers others (λ index object found home.
    subst (λ (number : ℕ). IsAccounted procedure numbers number object) (at_next index)
    (accounted (suc index) object found home)))
  where
    at_first : first + 0 ≡ first
    at_first = omega arith

    at_next : (index : ℕ) → first + suc index ≡ first + 1 + index
    at_next index = omega arith

accounted :
    (typed : TypedModule) (procedure : ℕ) (heading : TypedProcedure) (number : ℕ) (object : TypedObject)
    → TakeBytes typed
    → HasParameters typed procedure heading
    → slice_get typed.objects number ≡ Some object
    → object.home ≡ InFrame procedure
    → IsAccounted procedure heading.parameters number object
accounted typed procedure heading number object sized has found home = by_name object.is_parameter refl
  where
    takes : 0 < size_of_object object
    takes =
        subst (λ (object : TypedObject). 0 < size_of_object object)
        (get_or_from_slice_get typed.objects number object object found)
        (All-get_or (λ (object : TypedObject). 0 < size_of_object object) typed.objects number object
        (slice_get_within typed.objects number object found) sized)

    of_listed : IsListed heading number → IsAccounted procedure heading.parameters number object
    of_listed parameter =
        omega (
          arith,
          ap one_if (among_since heading.parameters parameter.index number parameter.stands),
        )

    bytes_is : object.is_parameter ≡ false → variable_bytes procedure object ≡ size_of_object object
    bytes_is named =
        bytes_there procedure object true (lives_there procedure object.home home)
        ∙ ap (λ (named : Bool). if not named then size_of_object object else 0) named

    by_name : (named : Bool) → object.is_parameter ≡ named
        → IsAccounted procedure heading.parameters number object
    by_name true named = of_listed (listed typed procedure heading number object has found home named)
    by_name false named = omega (arith, takes, bytes_is named)

-- if each object takes a byte, the numbers in a frame are small
pub position_small :
    (typed : TypedModule) (procedure : ℕ) (heading : TypedProcedure) (number : ℕ) (object : TypedObject)
    → TakeBytes typed
    → HasParameters typed procedure heading
    → FrameFits typed.objects procedure heading
    → slice_get typed.objects number ≡ Some object
    → object.home ≡ InFrame procedure
    → frame_position typed procedure number ≤ 65535
position_small typed procedure heading number object sized has fits found home =
    omega (
      arith,
      below,
      all,
      no_more_than heading.parameters 0 typed.objects,
      few,
      small,
      fits.variables,
    )
  where
    few : length heading.parameters ≤ 16
    few = has.count

    small : heading.frame_bytes ≤ 1024
    small = fits.bytes

    below : frame_position typed procedure number < length (entries procedure 0 typed.objects)
    below =
        slice_get_within (entries procedure 0 typed.objects) (position_of procedure typed.objects number)
        (0 + number, object) (stands_at procedure 0 typed.objects number object found home)

    all :
        length (entries procedure 0 typed.objects)
        ≤ sum_by (variable_bytes procedure) typed.objects + count_among heading.parameters 0 typed.objects
    all =
        entries_accounted procedure 0 heading.parameters typed.objects (λ index object found home.
        subst (λ (number : ℕ). IsAccounted procedure heading.parameters number object) (sym (zero-add index))
        (accounted typed procedure heading index object sized has found home))
