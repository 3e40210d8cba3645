-- The fixes of bytes in a row: they lie within the bytes, share none, and each is found at its byte.
use Rattle.object_laws.proofs.Prelude.{◌≡◌, ℕ, Bool, zero, suc, ◌+◌, ◌<◌, ◌≤◌, true, false, cond, not, ◌||◌, ◌==◌, nat_lt, nat_le, List, [], ◌∷◌, length, map, find, slice_get, Option, Some, None, option_map, refl, ap, ◌∙◌, ⊎_elim, arith, AllByRecursion, option_flatten, option_map_or, and_parts, and_left, lt-leb, ltb-true, eq-eqb, ne_eqb, eqb-true, lt-ltb, le-leb, and_from, cases_Bool, none-some, same_Some, Fix, FixKind, Low, High, Both, Fixup, SetByte, width_of, is_both, begins_word, is_plain, words_are_whole, is_target, fix_end, fixes_from}
use Rattle.object_laws.proofs.Texts.Counted.{times, times_pass, times_fail, covers, has_width}
use Rattle.object_laws.proofs.Texts.Runs.{AreWhole}

-- the fix that begins at an offset
abbrev pub fix_at : (offset : ℕ) → Fixup → Fix
fix_at offset fixup = record { kind = fixup.kind; target = fixup.target; offset = offset }

-- a place before the bytes is in no fix
fixes_before :
    (place offset : ℕ) (items : List SetByte) → place < offset
    → times (covers place) (fixes_from offset items) ≡ 0
fixes_before place offset [] h = refl
fixes_before place offset (here ∷ others) h =
    go here.value here.fixup (fixes_before place (offset + 1) others (omega (arith, h)))
  where
    go : (value : ℕ) (fixup : Option Fixup) → times (covers place) (fixes_from (offset + 1) others) ≡ 0
        → times (covers place) (fixes_from offset (record { value = value; fixup = fixup } ∷ others)) ≡ 0
    go value None later = later
    go value (Some fixup) later =
        times_fail (covers place) (fix_at offset fixup) (fixes_from (offset + 1) others)
        (and_left (nat_le offset place) (nat_lt place (fix_end (fix_at offset fixup)))
        (lt-leb offset place h))
        ∙ later

-- no fix begins at the second byte of a word
next_free :
    (place offset : ℕ) (others : List SetByte)
    → is_plain (option_flatten (slice_get (map Some others) 0)) ≡ true → place < offset + 1
    → times (covers place) (fixes_from offset others) ≡ 0
next_free place offset [] e h = refl
next_free place offset (next ∷ others) e h = go next.value next.fixup e
  where
    go : (value : ℕ) (fixup : Option Fixup) → is_plain (Some (record { value = value; fixup = fixup })) ≡ true
        → times (covers place) (fixes_from offset (record { value = value; fixup = fixup } ∷ others)) ≡ 0
    go value None f = fixes_before place (offset + 1) others h
    go value (Some fixup) f = absurd (let bad : false ≡ true = f in cc)

free_after :
    (place offset : ℕ) (kind : FixKind) (others : List SetByte)
    → (not (is_both kind) || is_plain (option_flatten (slice_get (map Some others) 0))) ≡ true
    → place < offset + width_of kind → times (covers place) (fixes_from (offset + 1) others) ≡ 0
free_after place offset Low others e h = fixes_before place (offset + 1) others h
free_after place offset High others e h = fixes_before place (offset + 1) others h
free_after place offset Both others e h = next_free place (offset + 1) others e (omega (arith, h))

-- no place is in two fixes
pub fixes_once :
    (place offset : ℕ) (items : List SetByte) → AreWhole items
    → times (covers place) (fixes_from offset items) ≤ 1
fixes_once place offset [] whole = omega arith
fixes_once place offset (here ∷ others) whole =
    let t = and_parts
    (not (begins_word (Some here)) || is_plain (option_flatten (slice_get (map Some others) 0)))
    (words_are_whole (map Some others)) whole in
    go here.value here.fixup t.0 (fixes_once place (offset + 1) others t.1)
  where
    go : (value : ℕ) (fixup : Option Fixup)
        → (not (begins_word (Some (record { value = value; fixup = fixup })))
        || is_plain (option_flatten (slice_get (map Some others) 0))) ≡ true
        → times (covers place) (fixes_from (offset + 1) others) ≤ 1
        → times (covers place) (fixes_from offset (record { value = value; fixup = fixup } ∷ others)) ≤ 1
    go value None e later = later
    go value (Some fixup) e later =
        let first : Fix = fix_at offset fixup in
        let rest : List Fix = fixes_from (offset + 1) others in
        ⊎_elim
        (λ (c : covers place first ≡ true).
        let inside = and_parts (nat_le offset place) (nat_lt place (fix_end first)) c in
        let before_end : place < offset + width_of fixup.kind = ltb-true place (fix_end first) inside.1 in
        let none : times (covers place) rest ≡ 0 = free_after place offset fixup.kind others e before_end in
        let counted : times (covers place) (first ∷ rest) ≡ 1 + times (covers place) rest =
        times_pass (covers place) first rest c in
        let bound : times (covers place) (first ∷ rest) ≤ 1 = omega (arith, counted, none) in
        bound)
        (λ (c : covers place first ≡ false).
        let counted : times (covers place) (first ∷ rest) ≡ times (covers place) rest =
        times_fail (covers place) first rest c in
        let bound : times (covers place) (first ∷ rest) ≤ 1 = omega (arith, counted, later) in
        bound)
        (cases_Bool (covers place first))

-- a fix lies within the bytes
end_fits :
    (to offset : ℕ) (kind : FixKind) (others : List SetByte)
    → (not (is_both kind) || is_plain (option_flatten (slice_get (map Some others) 0))) ≡ true
    → offset + suc (length others) ≤ to → offset + width_of kind ≤ to
end_fits to offset Low others e h = omega (arith, h)
end_fits to offset High others e h = omega (arith, h)
end_fits to offset Both [] e h = absurd (let bad : false ≡ true = e in cc)
end_fits to offset Both (next ∷ others) e h = omega (arith, h)

pub fixes_within :
    (from to offset : ℕ) (items : List SetByte) → from ≤ offset → offset + length items ≤ to → AreWhole items
    → AllByRecursion (λ (fix : Fix). (from ≤ fix.offset) × (fix_end fix ≤ to)) (fixes_from offset items)
fixes_within from to offset [] h k whole = tt
fixes_within from to offset (here ∷ others) h k whole =
    let t = and_parts
    (not (begins_word (Some here)) || is_plain (option_flatten (slice_get (map Some others) 0)))
    (words_are_whole (map Some others)) whole in
    go here.value here.fixup t.0
    (fixes_within from to (offset + 1) others (omega (arith, h)) (omega (arith, k)) t.1)
  where
    go : (value : ℕ) (fixup : Option Fixup)
        → (not (begins_word (Some (record { value = value; fixup = fixup })))
        || is_plain (option_flatten (slice_get (map Some others) 0))) ≡ true
        → AllByRecursion (λ (fix : Fix). (from ≤ fix.offset) × (fix_end fix ≤ to))
        (fixes_from (offset + 1) others)
        → AllByRecursion (λ (fix : Fix). (from ≤ fix.offset) × (fix_end fix ≤ to))
        (fixes_from offset (record { value = value; fixup = fixup } ∷ others))
    go value None e later = later
    go value (Some fixup) e later = ((h, end_fits to offset fixup.kind others e k), later)

-- what the fixes of bytes go to
abbrev pub HasTarget : (external_count : ℕ) → SetByte → Type 0
HasTarget external_count here =
    option_map_or (λ (fixup : Fixup). is_target external_count fixup.target) here.fixup true ≡ true

pub fixes_have_targets :
    (external_count offset : ℕ) (items : List SetByte) → AllByRecursion (HasTarget external_count) items
    → AllByRecursion (λ (fix : Fix). is_target external_count fix.target ≡ true) (fixes_from offset items)
fixes_have_targets external_count offset [] all = tt
fixes_have_targets external_count offset (here ∷ others) all =
    go here.value here.fixup all.0 (fixes_have_targets external_count (offset + 1) others all.1)
  where
    go : (value : ℕ) (fixup : Option Fixup)
        → HasTarget external_count (record { value = value; fixup = fixup })
        → AllByRecursion (λ (fix : Fix). is_target external_count fix.target ≡ true)
        (fixes_from (offset + 1) others)
        → AllByRecursion (λ (fix : Fix). is_target external_count fix.target ≡ true)
        (fixes_from offset (record { value = value; fixup = fixup } ∷ others))
    go value None e later = later
    go value (Some fixup) e later = (e, later)

-- a fix begins at a place
abbrev pub begins_at : (place : ℕ) → Fix → Bool
begins_at place fix = fix.offset == place

fewer :
    {A : Type 0} (few many : A → Bool) → ((x : A) → few x ≡ true → many x ≡ true) → (xs : List A)
    → times few xs ≤ times many xs
fewer few many h [] = omega arith
fewer few many h (x ∷ xs) =
    let later : times few xs ≤ times many xs = fewer few many h xs in
    ⊎_elim
    (λ (e : few x ≡ true).
    let a : times few (x ∷ xs) ≡ 1 + times few xs = times_pass few x xs e in
    let b : times many (x ∷ xs) ≡ 1 + times many xs = times_pass many x xs (h x e) in
    let bound : times few (x ∷ xs) ≤ times many (x ∷ xs) = omega (arith, a, b, later) in
    bound)
    (λ (e : few x ≡ false).
    let a : times few (x ∷ xs) ≡ times few xs = times_fail few x xs e in
    let bound : times few (x ∷ xs) ≤ times many (x ∷ xs) = omega (arith, a, later) in
    bound)
    (cases_Bool (few x))

begins_covers : (place : ℕ) (fix : Fix) → begins_at place fix ≡ true → covers place fix ≡ true
begins_covers place fix h =
    let same : fix.offset ≡ place = eqb-true fix.offset place h in
    let wide : 0 < width_of fix.kind = has_width fix.kind in
    and_from (nat_le fix.offset place) (nat_lt place (fix_end fix))
    (le-leb fix.offset place (omega (arith, same)))
    (lt-ltb place (fix_end fix) (let k : place < fix_end fix = omega (arith, same, wide) in k))

-- at most one fix begins at a place
pub begins_once :
    (place offset : ℕ) (items : List SetByte) → AreWhole items
    → times (begins_at place) (fixes_from offset items) ≤ 1
begins_once place offset items whole =
    let few : times (begins_at place) (fixes_from offset items)
    ≤ times (covers place) (fixes_from offset items) =
    fewer (begins_at place) (covers place) (begins_covers place) (fixes_from offset items) in
    let once : times (covers place) (fixes_from offset items) ≤ 1 = fixes_once place offset items whole in
    omega (arith, few, once)

-- what a fix says where it begins
abbrev pub fixup_of : Option Fix → Option Fixup
fixup_of found = option_map (λ (fix : Fix). record { kind = fix.kind; target = fix.target }) found

found_before :
    (place offset : ℕ) (items : List SetByte) → place < offset
    → find (begins_at place) (fixes_from offset items) ≡ None
found_before place offset [] h = refl
found_before place offset (here ∷ others) h =
    go here.value here.fixup (found_before place (offset + 1) others (omega (arith, h)))
  where
    go : (value : ℕ) (fixup : Option Fixup) → find (begins_at place) (fixes_from (offset + 1) others) ≡ None
        → find (begins_at place) (fixes_from offset (record { value = value; fixup = fixup } ∷ others)) ≡ None
    go value None later = later
    go value (Some fixup) later =
        ap (λ b. cond b (Some (fix_at offset fixup))
        (find (begins_at place) (fixes_from (offset + 1) others)))
        (ne_eqb offset place (λ e. omega (arith, e, h)))
        ∙ later

-- the fix of each byte
pub fix_found :
    (offset number : ℕ) (items : List SetByte) (here : SetByte) → slice_get items number ≡ Some here
    → fixup_of (find (begins_at (offset + number)) (fixes_from offset items)) ≡ here.fixup
fix_found offset number [] here e = absurd (none-some here e)
fix_found offset zero (first ∷ others) here e =
    go first.value first.fixup ∙ ap (λ (h : SetByte). h.fixup) (same_Some first here e)
  where
    go : (value : ℕ) (fixup : Option Fixup)
        → fixup_of
        (find (begins_at (offset + 0)) (fixes_from offset
        (record { value = value; fixup = fixup } ∷ others)))
        ≡ fixup
    go value None = ap fixup_of (found_before (offset + 0) (offset + 1) others (omega arith))
    go value (Some fixup) =
        ap (λ b.
        fixup_of
        (cond b (Some (fix_at offset fixup))
        (find (begins_at (offset + 0)) (fixes_from (offset + 1) others))))
        (eq-eqb offset (offset + 0) (omega arith))
fix_found offset (suc number) (first ∷ others) here e =
    go first.value first.fixup
    (ap (λ place. fixup_of (find (begins_at place) (fixes_from (offset + 1) others)))
    (let same : offset + suc number ≡ offset + 1 + number = omega arith in same)
    ∙ fix_found (offset + 1) number others here e)
  where
    go : (value : ℕ) (fixup : Option Fixup)
        → fixup_of (find (begins_at (offset + suc number)) (fixes_from (offset + 1) others)) ≡ here.fixup
        → fixup_of
        (find (begins_at (offset + suc number))
        (fixes_from offset (record { value = value; fixup = fixup } ∷ others)))
        ≡ here.fixup
    go value None later = later
    go value (Some fixup) later =
        ap (λ b.
        fixup_of
        (cond b (Some (fix_at offset fixup))
        (find (begins_at (offset + suc number)) (fixes_from (offset + 1) others))))
        (ne_eqb offset (offset + suc number) (λ same. omega (arith, same)))
        ∙ later
