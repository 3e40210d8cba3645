-- Names that differ, and fixes that share no byte, by counting: each name, and each place, is counted at most
-- once.
use Rattle.object_laws.proofs.Prelude.{◌≡◌, ℕ, zero, suc, ◌+◌, ◌<◌, ◌≤◌, Bool, true, false, cond, not, ◌&&◌, nat_lt, nat_le, List, [], ◌∷◌, ◌++◌, refl, ap, sym, subst, ◌∙◌, ⊎_elim, arith, list_any, bytes_eq, and_parts, and_from, or_cases, or_parts, ltb-true, lt-ltb, le-leb, false_from_ne_true, not-true, not_from_false, cases_lt, bytes_eq-Decides, Fix, FixKind, Low, High, Both, width_of, is_among, are_new, fix_end, share_a_byte, are_apart}

-- how many items pass a test
abbrev pub times : {A : Type 0} → (A → Bool) → List A → ℕ
times test [] = 0
times test (x ∷ xs) = cond (test x) 1 0 + times test xs

pub times_append :
    {A : Type 0} (test : A → Bool) (xs ys : List A) → times test (xs ++ ys) ≡ times test xs + times test ys
times_append test [] ys = omega arith
times_append test (x ∷ xs) ys =
    let e : times test (xs ++ ys) ≡ times test xs + times test ys = times_append test xs ys in
    omega (arith, e)

pub times_pass : {A : Type 0} (test : A → Bool) (x : A) (xs : List A) → test x ≡ true
    → times test (x ∷ xs) ≡ 1 + times test xs
times_pass test x xs e = ap (λ b. cond b 1 0 + times test xs) e

pub times_fail : {A : Type 0} (test : A → Bool) (x : A) (xs : List A) → test x ≡ false
    → times test (x ∷ xs) ≡ times test xs
times_fail test x xs e =
    let f : times test (x ∷ xs) ≡ 0 + times test xs = ap (λ b. cond b 1 0 + times test xs) e in
    omega (arith, f)

pub none_times : {A : Type 0} (test : A → Bool) (xs : List A) → list_any test xs ≡ false → times test xs ≡ 0
none_times test [] h = refl
none_times test (x ∷ xs) h =
    let t = or_parts (test x) (list_any test xs) h in times_fail test x xs t.0 ∙ none_times test xs t.1

-- a name is one of the names where it is counted
new_counts :
    (names known : List (List ℕ)) → are_new names known ≡ true → (name : List ℕ)
    → (times (bytes_eq name) names ≤ 1)
    × (0 < times (bytes_eq name) names → times (bytes_eq name) known ≡ 0)
new_counts [] known h name = (omega arith, λ some. absurd (omega (arith, some)))
new_counts (first ∷ others) known h name =
    let t = and_parts (not (is_among first known)) (are_new others (first ∷ known)) h in
    go t.0 (new_counts others (first ∷ known) t.1 name) (bytes_eq name first) refl
  where
    nothing : (n : ℕ) → (0 < n → ⊥) → n ≡ 0
    nothing zero h = refl
    nothing (suc n) h = absurd (h (omega arith))

    go : not (is_among first known) ≡ true
        → (times (bytes_eq name) others ≤ 1)
        × (0 < times (bytes_eq name) others → times (bytes_eq name) (first ∷ known) ≡ 0)
        → (b : Bool) → bytes_eq name first ≡ b
        → (times (bytes_eq name) (first ∷ others) ≤ 1)
        × (0 < times (bytes_eq name) (first ∷ others) → times (bytes_eq name) known ≡ 0)
    go unknown later true e =
        let of_known : times (bytes_eq name) (first ∷ known) ≡ 1 + times (bytes_eq name) known =
        times_pass (bytes_eq name) first known e in
        let of_names : times (bytes_eq name) (first ∷ others) ≡ 1 + times (bytes_eq name) others =
        times_pass (bytes_eq name) first others e in
        let same : name ≡ first = (bytes_eq-Decides name first).0 e in
        let none : times (bytes_eq name) known ≡ 0 =
        subst (λ n. times (bytes_eq n) known ≡ 0) (sym same)
        (none_times (bytes_eq first) known (not-true (is_among first known) unknown)) in
        let no_more : times (bytes_eq name) others ≡ 0 = nothing (times (bytes_eq name) others)
        (λ some. let z : times (bytes_eq name) (first
        ∷ known) ≡ 0 = later.1 some in omega (arith, z, of_known)) in
        (omega (arith, of_names, no_more), λ _. none)
    go unknown later false e =
        let of_known : times (bytes_eq name) (first ∷ known) ≡ times (bytes_eq name) known =
        times_fail (bytes_eq name) first known e in
        let of_names : times (bytes_eq name) (first ∷ others) ≡ times (bytes_eq name) others =
        times_fail (bytes_eq name) first others e in
        let once : times (bytes_eq name) others ≤ 1 = later.0 in (
          omega (arith, of_names, once),
          λ some. sym of_known
              ∙ later.1 (let s : 0 < times (bytes_eq name) others = omega (arith, some, of_names) in s),
        )

pub new_once : (names : List (List ℕ)) → are_new names [] ≡ true → (name : List ℕ)
    → times (bytes_eq name) names ≤ 1
new_once names h name = (new_counts names [] h name).0

some_times : {A : Type 0} (test : A → Bool) (xs : List A) → list_any test xs ≡ true → 0 < times test xs
some_times test [] h = absurd (let bad : false ≡ true = h in cc)
some_times test (x ∷ xs) h =
    ⊎_elim
    (λ (e : test x ≡ true). let t : times test (x
    ∷ xs) ≡ 1 + times test xs = times_pass test x xs e in omega (arith, t))
    (λ (e : list_any test xs
    ≡ true). let later : 0 < times test xs = some_times test xs e in omega (arith, later))
    (or_cases (test x) (list_any test xs) h)

-- names are new where none is counted twice, with those that are known
pub once_new :
    (names known : List (List ℕ))
    → ((name : List ℕ) → times (bytes_eq name) names + times (bytes_eq name) known ≤ 1)
    → are_new names known ≡ true
once_new [] known once = refl
once_new (first ∷ others) known once =
    let own : times (bytes_eq first) (first ∷ others) ≡ 1 + times (bytes_eq first) others =
    times_pass (bytes_eq first) first others ((bytes_eq-Decides first first).1 refl) in
    and_from (not (is_among first known)) (are_new others (first ∷ known))
    (not_from_false (is_among first known)
    (false_from_ne_true (is_among first known)
    (λ among.
    let some : 0 < times (bytes_eq first) known = some_times (bytes_eq first) known among in
    let bound : times (bytes_eq first) (first ∷ others) + times (bytes_eq first) known ≤ 1 = once first in
    omega (arith, own, some, bound))))
    (once_new others (first ∷ known)
    (λ name.
    let bound : times (bytes_eq name) (first ∷ others) + times (bytes_eq name) known ≤ 1 = once name in
    omega (arith, bound)))

-- the fixes that have a byte at a place
abbrev pub covers : (place : ℕ) → Fix → Bool
covers place fix = nat_le fix.offset place && nat_lt place (fix_end fix)

pub has_width : (kind : FixKind) → 0 < width_of kind
has_width Low = omega arith
has_width High = omega arith
has_width Both = omega arith

-- a place that a fix has, and one of some fixes
record Shared (fix : Fix) (others : List Fix) : Type 0 where
  place : ℕ
  own : covers place fix ≡ true
  of_another : 0 < times (covers place) others

shared_place : (left right : Fix) (others : List Fix) → share_a_byte left right ≡ true
    → Shared left (right ∷ others)
shared_place left right others h =
    let t = and_parts (nat_lt left.offset (fix_end right)) (nat_lt right.offset (fix_end left)) h in
    let before_right : left.offset < fix_end right = ltb-true left.offset (fix_end right) t.0 in
    let before_left : right.offset < fix_end left = ltb-true right.offset (fix_end left) t.1 in
    let left_wide : 0 < width_of left.kind = has_width left.kind in
    let right_wide : 0 < width_of right.kind = has_width right.kind in
    ⊎_elim
    (λ (less : left.offset < right.offset).
    let counted : times (covers right.offset) (right ∷ others) ≡ 1 + times (covers right.offset) others =
    times_pass (covers right.offset) right others
    (and_from _ _ (le-leb right.offset right.offset (omega arith))
    (lt-ltb right.offset (fix_end right) (omega (arith, right_wide)))) in
    record {
      place = right.offset;
      own = and_from _ _ (le-leb left.offset right.offset (omega (arith, less)))
          (lt-ltb right.offset (fix_end left) before_left);
      of_another = omega (arith, counted);
    })
    (λ (more : right.offset ≤ left.offset).
    let counted : times (covers left.offset) (right ∷ others) ≡ 1 + times (covers left.offset) others =
    times_pass (covers left.offset) right others
    (and_from _ _ (le-leb right.offset left.offset more) (lt-ltb left.offset (fix_end right) before_right)) in
    record {
      place = left.offset;
      own = and_from _ _ (le-leb left.offset left.offset (omega arith))
          (lt-ltb left.offset (fix_end left) (omega (arith, left_wide)));
      of_another = omega (arith, counted);
    })
    (cases_lt left.offset right.offset)

shared_among : (fix : Fix) (others : List Fix) → list_any (share_a_byte fix) others ≡ true → Shared fix others
shared_among fix [] h = absurd (let bad : false ≡ true = h in cc)
shared_among fix (other ∷ others) h =
    ⊎_elim
    (λ (e : share_a_byte fix other ≡ true). shared_place fix other others e)
    (λ (e : list_any (share_a_byte fix) others ≡ true).
    let s = shared_among fix others e in
    let some : 0 < times (covers s.place) others = s.of_another in
    record { place = s.place; own = s.own; of_another = omega (arith, some) })
    (or_cases (share_a_byte fix other) (list_any (share_a_byte fix) others) h)

-- fixes share no byte where no place is counted twice, with those that are there
pub once_apart :
    (fixes others : List Fix)
    → ((place : ℕ) → times (covers place) fixes + times (covers place) others ≤ 1)
    → are_apart fixes others ≡ true
once_apart [] others once = refl
once_apart (fix ∷ rest) others once =
    and_from (not (list_any (share_a_byte fix) others)) (are_apart rest (fix ∷ others))
    (not_from_false (list_any (share_a_byte fix) others)
    (false_from_ne_true (list_any (share_a_byte fix) others)
    (λ shares.
    let s = shared_among fix others shares in
    let own : times (covers s.place) (fix ∷ rest) ≡ 1 + times (covers s.place) rest =
    times_pass (covers s.place) fix rest s.own in
    let some : 0 < times (covers s.place) others = s.of_another in
    let bound : times (covers s.place) (fix ∷ rest) + times (covers s.place) others ≤ 1 = once s.place in
    omega (arith, own, some, bound))))
    (once_apart rest (fix ∷ others)
    (λ place.
    let bound : times (covers place) (fix ∷ rest) + times (covers place) others ≤ 1 = once place in
    omega (arith, bound)))
