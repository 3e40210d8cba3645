-- Bytes of a body while it is filled.
use Rattle.object_writing.proofs.Prelude.{◌≡◌, ℕ, ◌+◌, ◌-◌, ◌<◌, ◌≤◌, Bool, true, false, not, nat_lt, List, [], ◌∷◌, ◌++◌, length, take, drop, refl, sym, ◌∙◌, arith, lt-ltb, ltb-true, ltb-false, is_empty, take-append-drop, take-append-le, drop-append-le, take_all, drop_all, length-take, length-drop, length-append, take-put_mid}
use borrow.Rule.Slice.PartMut.{put_mid}

-- bytes put after those that count
pub more_put :
    (all part : List ℕ) (count end : ℕ) → end ≡ count + length part → end ≤ length all
    → take end (put_mid count (end - count) all part) ≡ take count all ++ part
more_put all part count end is within =
    take-put_mid count (end - count) all part end (omega arith) (omega arith)

-- bytes before the entries, and those of the entries
pub whole_front : (front : List ℕ) → take (length front) ([] ++ front) ≡ front
whole_front front = take_all (length front) front (omega arith)

pub halves : (count : ℕ) (body : List ℕ) → take count body ++ drop count body ≡ body
halves count body = take-append-drop count body

pub halves_long : (count : ℕ) (body : List ℕ) → count ≤ length body
    → length (take count body) + length (drop count body) ≡ length body
halves_long count body within = omega (arith, length-take count body, length-drop count body)

pub front_kept : (count : ℕ) (body : List ℕ) → count ≤ length body
    → take count (take count body) ≡ take count body
front_kept count body within = take_all count (take count body) (omega (arith, length-take count body))

pub none_begun : (count : ℕ) (body : List ℕ) → drop count (take count body) ≡ []
none_begun count body = drop_all count (take count body) (omega (arith, length-take count body))

pub ruleset front_rules = (take-append-le, drop-append-le, take_all, drop_all, length-take, length-drop, take-append-drop, length-append)

-- whether there are bytes after the front
empty_none : (xs : List ℕ) → nat_lt 0 (length xs) ≡ not (is_empty xs)
empty_none [] = refl
empty_none (x ∷ xs) = lt-ltb 0 (length (x ∷ xs)) (omega arith)

pub has_begun : (count : ℕ) (body : List ℕ) → nat_lt count (length body) ≡ not (is_empty (drop count body))
has_begun count body =
    same (nat_lt count (length body)) (nat_lt 0 (length (drop count body))) refl refl
    ∙ empty_none (drop count body)
  where
    long : length (drop count body) ≡ length body - count
    long = length-drop count body

    same : (a b : Bool) → nat_lt count (length body) ≡ a → nat_lt 0 (length (drop count body)) ≡ b
        → nat_lt count (length body) ≡ nat_lt 0 (length (drop count body))
    same true true e f = e ∙ sym f
    same false false e f = e ∙ sym f
    same true false e f =
        let less : count < length body = ltb-true count (length body) e in
        let none : length (drop count body) ≤ 0 = ltb-false 0 (length (drop count body)) f in
        absurd (omega (arith, less, none, long))
    same false true e f =
        let past : length body ≤ count = ltb-false count (length body) e in
        let some : 0 < length (drop count body) = ltb-true 0 (length (drop count body)) f in
        absurd (omega (arith, past, some, long))

pub length_of_three :
    (first middle last : List ℕ) → length first + length middle + length last
    ≡ length (first ++ (middle ++ last))
length_of_three first middle last = omega (arith, length-append first (middle ++ last), length-append middle last)
