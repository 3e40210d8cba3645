-- The objects in the frame of a procedure, one after another, and their numbers there.
use Rattle.frames.proofs.Prelude.{◌≡◌, ℕ, zero, suc, ◌+◌, Bool, true, false, cond, filter, List, [], ◌∷◌, length, take, slice_get, Some, refl, ap, sym, ◌∙◌, subst, arith, enumerate_from, eqb-true, eq-eqb, false≢true, none-some, same_Some, Home, InData, InConstants, Placed, BasedOn, Elsewhere, Nowhere, InFrame, TypedObject, lives_in_frame, numbered_in_frame}

-- whether an object is in the frame
abbrev pub in_frame : (procedure : ℕ) → TypedObject → Bool
in_frame procedure object = lives_in_frame procedure object.home

pub home_is : (procedure : ℕ) (home : Home) → lives_in_frame procedure home ≡ true → home ≡ InFrame procedure
home_is procedure (InData values) lives = absurd (false≢true lives)
home_is procedure (InConstants values) lives = absurd (false≢true lives)
home_is procedure (Placed address) lives = absurd (false≢true lives)
home_is procedure (BasedOn base) lives = absurd (false≢true lives)
home_is procedure Elsewhere lives = absurd (false≢true lives)
home_is procedure Nowhere lives = absurd (false≢true lives)
home_is procedure (InFrame other) lives = ap InFrame (sym (eqb-true procedure other lives))

pub lives_there : (procedure : ℕ) (home : Home) → home ≡ InFrame procedure
    → lives_in_frame procedure home ≡ true
lives_there procedure home is =
    ap (λ (home : Home). lives_in_frame procedure home) is ∙ eq-eqb procedure procedure refl

-- the objects in the frame with their numbers, from a first number on
abbrev pub entries : (procedure first : ℕ) → List TypedObject → List (ℕ × TypedObject)
entries procedure first objects = filter (numbered_in_frame procedure) (enumerate_from first objects)

-- the number of objects in the frame before one
abbrev pub position_of : (procedure : ℕ) → List TypedObject → (index : ℕ) → ℕ
position_of procedure objects index = length (filter (in_frame procedure) (take index objects))

-- an object in the frame, by its place there
pub record IsEntry
    (procedure first : ℕ) (objects : List TypedObject) (position : ℕ) (entry : ℕ × TypedObject) : Type 0 where
  pub index : ℕ
  pub number : entry.0 ≡ first + index
  pub found : slice_get objects index ≡ Some entry.1
  pub home : (entry.1).home ≡ InFrame procedure
  pub place : position ≡ position_of procedure objects index

-- the same with one more object before
later_entry :
    (procedure first : ℕ) (object : TypedObject) (others : List TypedObject) (lives : Bool) (position : ℕ)
    (entry : ℕ × TypedObject)
    → in_frame procedure object ≡ lives
    → IsEntry procedure (first + 1) others position entry
    → IsEntry procedure first (object ∷ others) (cond lives (suc position) position) entry
later_entry procedure first object others true position entry is rest = record {
  index = suc rest.index;
  number = omega (arith, rest.number);
  found = rest.found;
  home = rest.home;
  place =
      ap suc rest.place
      ∙ ap (λ (lives : Bool).
      length (cond lives (object ∷ filter (in_frame procedure) (take rest.index others))
      (filter (in_frame procedure) (take rest.index others))))
      (sym is);
}
later_entry procedure first object others false position entry is rest = record {
  index = suc rest.index;
  number = omega (arith, rest.number);
  found = rest.found;
  home = rest.home;
  place =
      rest.place
      ∙ ap (λ (lives : Bool).
      length (cond lives (object ∷ filter (in_frame procedure) (take rest.index others))
      (filter (in_frame procedure) (take rest.index others))))
      (sym is);
}

first_entry :
    (procedure first : ℕ) (object : TypedObject) (others : List TypedObject) (entry : ℕ × TypedObject)
    → in_frame procedure object ≡ true
    → (first, object) ≡ entry
    → IsEntry procedure first (object ∷ others) zero entry
first_entry procedure first object others entry is same = record {
  index = 0;
  number = sym (ap (λ (entry : ℕ × TypedObject). entry.0) same) ∙ omega arith;
  found = ap (λ (entry : ℕ × TypedObject). Some entry.1) same;
  home = subst (λ (entry : ℕ × TypedObject). (entry.1).home ≡ InFrame procedure) same
      (home_is procedure object.home is);
  place = refl;
}

entry_after :
    (procedure first : ℕ) (object : TypedObject) (others : List TypedObject) (lives : Bool) (position : ℕ)
    (entry : ℕ × TypedObject)
    → in_frame procedure object ≡ lives
    → slice_get (cond lives ((first, object) ∷ entries procedure (first + 1) others)
    (entries procedure (first + 1) others)) position ≡ Some entry
    → ((position : ℕ)
    → slice_get (entries procedure (first + 1) others) position ≡ Some entry
    → IsEntry procedure (first + 1) others position entry)
    → IsEntry procedure first (object ∷ others) position entry
entry_after procedure first object others true zero entry is found rest =
    first_entry procedure first object others entry is (same_Some (first, object) entry found)
entry_after procedure first object others true (suc position) entry is found rest =
    later_entry procedure first object others true position entry is (rest position found)
entry_after procedure first object others false position entry is found rest =
    later_entry procedure first object others false position entry is (rest position found)

-- the object at a place in the frame
pub entry_at :
    (procedure first : ℕ) (objects : List TypedObject) (position : ℕ) (entry : ℕ × TypedObject)
    → slice_get (entries procedure first objects) position ≡ Some entry
    → IsEntry procedure first objects position entry
entry_at procedure first [] position entry found = absurd (none-some entry found)
entry_at procedure first (object ∷ others) position entry found =
    entry_after procedure first object others (in_frame procedure object) position entry refl found
    (λ position found. entry_at procedure (first + 1) others position entry found)

stands_later :
    (procedure first : ℕ) (object : TypedObject) (others : List TypedObject) (lives : Bool) (index : ℕ)
    (found : TypedObject)
    → in_frame procedure object ≡ lives
    → slice_get (entries procedure (first + 1) others) (position_of procedure others index)
    ≡ Some (first + 1 + index, found)
    → slice_get (cond lives ((first, object) ∷ entries procedure (first + 1) others)
    (entries procedure (first + 1) others))
    (length (cond lives (object ∷ filter (in_frame procedure) (take index others))
    (filter (in_frame procedure) (take index others))))
    ≡ Some (first + suc index, found)
stands_later procedure first object others true index found is rest =
    rest ∙ ap (λ (number : ℕ). Some (number, found)) (omega arith)
stands_later procedure first object others false index found is rest =
    rest ∙ ap (λ (number : ℕ). Some (number, found)) (omega arith)

-- the place of an object in the frame is the number of those before it
pub stands_at :
    (procedure first : ℕ) (objects : List TypedObject) (index : ℕ) (found : TypedObject)
    → slice_get objects index ≡ Some found
    → found.home ≡ InFrame procedure
    → slice_get (entries procedure first objects) (position_of procedure objects index)
    ≡ Some (first + index, found)
stands_at procedure first [] index found stands home = absurd (none-some found stands)
stands_at procedure first (object ∷ others) zero found stands home =
    ap (λ (lives : Bool).
    slice_get (cond lives ((first, object) ∷ entries procedure (first + 1) others)
    (entries procedure (first + 1) others)) 0)
    (ap (λ (object : TypedObject). in_frame procedure object) (same_Some object found stands)
    ∙ lives_there procedure found.home home)
    ∙ ap (λ (number : ℕ). Some (number, object)) (omega arith)
    ∙ ap (λ (object : TypedObject). Some (first + 0, object)) (same_Some object found stands)
stands_at procedure first (object ∷ others) (suc index) found stands home =
    stands_later procedure first object others (in_frame procedure object) index found refl
    (stands_at procedure (first + 1) others index found stands home)
