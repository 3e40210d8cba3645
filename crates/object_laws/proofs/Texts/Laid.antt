-- The fix records of a content: they list each of its fixes once.
use Rattle.object_laws.proofs.Prelude.{◌≡◌, ℕ, ◌+◌, ◌-◌, ◌≤◌, Bool, true, false, cond, not, List, [], ◌∷◌, ◌++◌, map, flat_map, filter_map, find, Option, Some, None, option_map, refl, ap, sym, subst, ◌∙◌, ⊎_elim, arith, AllByRecursion, cons_option, list_all, option_or, cases_Bool, not_from_true, and_from, map-append, flat_map-append, find-append, BODY_LIMIT, Fix, FixKind, Low, High, Both, Segment, Absolute, Code, Data, Stack, Target, InSegment, External, holds_bytes, is_target, Part, Reference, ExternalReferencesPart, RelocationPart, IntersegmentPart, fixes_of, packed, fix_kinds, reference_for, offset_for, external_fix_parts, relocation_parts, intersegment_parts, other_segments, fix_parts}
use Rattle.object_laws.proofs.Texts.Groups.{joined, packed_joined}
use Rattle.object_laws.proofs.Texts.Counted.{times, times_append, times_pass, times_fail}

-- the fixes of a kind to one target, of which each fix is one or none
abbrev pub Class : Type 0
Class = Fix → Option Fix

abbrev pub as_reference : FixKind → Reference → Fix
as_reference kind reference =
    record { kind = kind; target = External reference.external; offset = reference.offset }

abbrev pub as_fix_to : Segment → FixKind → (offset : ℕ) → Fix
as_fix_to target kind offset = record { kind = kind; target = InSegment target; offset = offset }

abbrev pub reference_class : FixKind → Class
reference_class kind fix = option_map (as_reference kind) (reference_for kind fix)

abbrev pub segment_class : Segment → FixKind → Class
segment_class target kind fix = option_map (as_fix_to target kind) (offset_for target kind fix)

-- the classes of the fix records of a segment, in their order
abbrev pub classes : (own : Segment) → List Class
classes own =
    (map reference_class fix_kinds ++ map (segment_class own) fix_kinds)
    ++ flat_map (λ target. map (segment_class target) fix_kinds) (other_segments own)

-- fixes by their classes
abbrev pub laid : List Class → List Fix → List Fix
laid all fixes = flat_map (λ (class : Class). filter_map class fixes) all

-- what the records of a class list
kept_map : {X Y Z : Type 0} (f : Y → Z) (h : X → Option Y) (xs : List X)
    → map f (filter_map h xs) ≡ filter_map (λ x. option_map f (h x)) xs
kept_map f h [] = refl
kept_map {X} {Y} {Z} f h (x ∷ xs) = go (h x) ∙ ap (cons_option (option_map f (h x))) (kept_map f h xs)
  where
    go : (o : Option Y) → map f (cons_option o (filter_map h xs))
        ≡ cons_option (option_map f o) (map f (filter_map h xs))
    go None = refl
    go (Some y) = refl

mapped_groups :
    {X : Type 0} (own : Segment) (part : List X → Part) (make : X → Fix)
    → ((group : List X) → fixes_of own (part group) ≡ map make group) → (groups : List (List X))
    → flat_map (fixes_of own) (map part groups) ≡ map make (joined groups)
mapped_groups own part make h [] = refl
mapped_groups own part make h (group ∷ groups) =
    ap (λ r. r ++ flat_map (fixes_of own) (map part groups)) (h group)
    ∙ ap (λ r. map make group ++ r) (mapped_groups own part make h groups)
    ∙ sym (map-append make group (joined groups))

external_laid :
    (own : Segment) (fixes : List Fix) (kind : FixKind)
    → flat_map (fixes_of own) (external_fix_parts fixes kind) ≡ filter_map (reference_class kind) fixes
external_laid own fixes kind =
    mapped_groups own (ExternalReferencesPart kind) (as_reference kind) (λ group. refl)
    (packed (λ (reference : Reference). 4) (BODY_LIMIT - 1) (filter_map (reference_for kind) fixes))
    ∙ ap (map (as_reference kind))
    (packed_joined (λ (reference : Reference). 4) (BODY_LIMIT - 1) (filter_map (reference_for kind) fixes))
    ∙ kept_map (as_reference kind) (reference_for kind) fixes

relocation_laid :
    (own : Segment) (fixes : List Fix) (kind : FixKind)
    → flat_map (fixes_of own) (relocation_parts own fixes kind) ≡ filter_map (segment_class own kind) fixes
relocation_laid own fixes kind =
    mapped_groups own (RelocationPart kind) (as_fix_to own kind) (λ group. refl)
    (packed (λ (offset : ℕ). 2) (BODY_LIMIT - 1) (filter_map (offset_for own kind) fixes))
    ∙ ap (map (as_fix_to own kind))
    (packed_joined (λ (offset : ℕ). 2) (BODY_LIMIT - 1) (filter_map (offset_for own kind) fixes))
    ∙ kept_map (as_fix_to own kind) (offset_for own kind) fixes

intersegment_laid :
    (own : Segment) (fixes : List Fix) (target : Segment) (kind : FixKind)
    → flat_map (fixes_of own) (intersegment_parts fixes target kind)
    ≡ filter_map (segment_class target kind) fixes
intersegment_laid own fixes target kind =
    mapped_groups own (IntersegmentPart target kind) (as_fix_to target kind) (λ group. refl)
    (packed (λ (offset : ℕ). 2) (BODY_LIMIT - 2) (filter_map (offset_for target kind) fixes))
    ∙ ap (map (as_fix_to target kind))
    (packed_joined (λ (offset : ℕ). 2) (BODY_LIMIT - 2) (filter_map (offset_for target kind) fixes))
    ∙ kept_map (as_fix_to target kind) (offset_for target kind) fixes

kinds_laid :
    (own : Segment) (fixes : List Fix) (parts : FixKind → List Part) (class : FixKind → Class)
    → ((kind : FixKind) → flat_map (fixes_of own) (parts kind) ≡ filter_map (class kind) fixes)
    → (kinds : List FixKind) → flat_map (fixes_of own) (flat_map parts kinds) ≡ laid (map class kinds) fixes
kinds_laid own fixes parts class h [] = refl
kinds_laid own fixes parts class h (kind ∷ kinds) =
    flat_map-append (fixes_of own) (parts kind) (flat_map parts kinds)
    ∙ ap (λ r. r ++ flat_map (fixes_of own) (flat_map parts kinds)) (h kind)
    ∙ ap (λ r. filter_map (class kind) fixes ++ r) (kinds_laid own fixes parts class h kinds)

targets_laid :
    (own : Segment) (fixes : List Fix) (targets : List Segment)
    → flat_map (fixes_of own)
    (flat_map (λ target. flat_map (intersegment_parts fixes target) fix_kinds) targets)
    ≡ laid (flat_map (λ target. map (segment_class target) fix_kinds) targets) fixes
targets_laid own fixes [] = refl
targets_laid own fixes (target ∷ targets) =
    let first : List Part = flat_map (intersegment_parts fixes target) fix_kinds in
    let others : List Part = flat_map (λ t. flat_map (intersegment_parts fixes t) fix_kinds) targets in
    flat_map-append (fixes_of own) first others
    ∙ ap (λ r. r ++ flat_map (fixes_of own) others)
    (kinds_laid own fixes (intersegment_parts fixes target) (segment_class target)
    (intersegment_laid own fixes target) fix_kinds)
    ∙ ap (λ r. laid (map (segment_class target) fix_kinds) fixes ++ r) (targets_laid own fixes targets)
    ∙ sym (flat_map-append (λ (class : Class). filter_map class fixes) (map (segment_class target) fix_kinds)
    (flat_map (λ t. map (segment_class t) fix_kinds) targets))

-- the fixes that the fix records of a content list
pub fix_parts_laid :
    (own : Segment) (fixes : List Fix) → flat_map (fixes_of own) (fix_parts own fixes)
    ≡ laid (classes own) fixes
fix_parts_laid own fixes =
    let externals : List Part = flat_map (external_fix_parts fixes) fix_kinds in
    let relocations : List Part = flat_map (relocation_parts own fixes) fix_kinds in
    let others : List Part =
    flat_map (λ target. flat_map (intersegment_parts fixes target) fix_kinds) (other_segments own) in
    let of_externals : List Class = map reference_class fix_kinds in
    let of_own : List Class = map (segment_class own) fix_kinds in
    let of_others : List Class =
    flat_map (λ target. map (segment_class target) fix_kinds) (other_segments own) in
    flat_map-append (fixes_of own) (externals ++ relocations) others
    ∙ ap (λ r. r ++ flat_map (fixes_of own) others) (flat_map-append (fixes_of own) externals relocations)
    ∙ ap (λ r. (r ++ flat_map (fixes_of own) relocations) ++ flat_map (fixes_of own) others)
    (kinds_laid own fixes (external_fix_parts fixes) reference_class (external_laid own fixes) fix_kinds)
    ∙ ap (λ r. (laid of_externals fixes ++ r) ++ flat_map (fixes_of own) others)
    (kinds_laid own fixes (relocation_parts own fixes) (segment_class own)
    (relocation_laid own fixes) fix_kinds)
    ∙ ap (λ r. (laid of_externals fixes ++ laid of_own fixes) ++ r)
    (targets_laid own fixes (other_segments own))
    ∙ ap (λ r. r ++ laid of_others fixes)
    (sym (flat_map-append (λ (class : Class). filter_map class fixes) of_externals of_own))
    ∙ sym (flat_map-append (λ (class : Class). filter_map class fixes) (of_externals ++ of_own) of_others)

-- a fix is in one class
abbrev pub classed : List Class → Fix → List Fix
classed all fix = filter_map (λ (class : Class). class fix) all

abbrev pub InOneClass : (own : Segment) → Fix → Type 0
InOneClass own fix = classed (classes own) fix ≡ fix ∷ []

class_of :
    (external_count : ℕ) (own : Segment) (kind : FixKind) (target : Target) (offset : ℕ)
    → holds_bytes own ≡ true
    → is_target external_count target ≡ true
    → InOneClass own (record { kind = kind; target = target; offset = offset })
class_of external_count Absolute kind target offset h k = absurd (let bad : false ≡ true = h in cc)
class_of external_count Stack kind target offset h k = absurd (let bad : false ≡ true = h in cc)
class_of external_count Code Low (External number) offset h j = refl
class_of external_count Code Low (InSegment Code) offset h j = refl
class_of external_count Code Low (InSegment Data) offset h j = refl
class_of external_count Code Low (InSegment Stack) offset h j = refl
class_of external_count Code Low (InSegment Absolute) offset h j = absurd (let bad : false ≡ true = j in cc)
class_of external_count Code High (External number) offset h j = refl
class_of external_count Code High (InSegment Code) offset h j = refl
class_of external_count Code High (InSegment Data) offset h j = refl
class_of external_count Code High (InSegment Stack) offset h j = refl
class_of external_count Code High (InSegment Absolute) offset h j = absurd (let bad : false ≡ true = j in cc)
class_of external_count Code Both (External number) offset h j = refl
class_of external_count Code Both (InSegment Code) offset h j = refl
class_of external_count Code Both (InSegment Data) offset h j = refl
class_of external_count Code Both (InSegment Stack) offset h j = refl
class_of external_count Code Both (InSegment Absolute) offset h j = absurd (let bad : false ≡ true = j in cc)
class_of external_count Data Low (External number) offset h j = refl
class_of external_count Data Low (InSegment Code) offset h j = refl
class_of external_count Data Low (InSegment Data) offset h j = refl
class_of external_count Data Low (InSegment Stack) offset h j = refl
class_of external_count Data Low (InSegment Absolute) offset h j = absurd (let bad : false ≡ true = j in cc)
class_of external_count Data High (External number) offset h j = refl
class_of external_count Data High (InSegment Code) offset h j = refl
class_of external_count Data High (InSegment Data) offset h j = refl
class_of external_count Data High (InSegment Stack) offset h j = refl
class_of external_count Data High (InSegment Absolute) offset h j = absurd (let bad : false ≡ true = j in cc)
class_of external_count Data Both (External number) offset h j = refl
class_of external_count Data Both (InSegment Code) offset h j = refl
class_of external_count Data Both (InSegment Data) offset h j = refl
class_of external_count Data Both (InSegment Stack) offset h j = refl
class_of external_count Data Both (InSegment Absolute) offset h j = absurd (let bad : false ≡ true = j in cc)

pub all_classed :
    (external_count : ℕ) (own : Segment) → holds_bytes own ≡ true → (fixes : List Fix)
    → AllByRecursion (λ (fix : Fix). is_target external_count fix.target ≡ true) fixes
    → AllByRecursion (InOneClass own) fixes
all_classed external_count own h [] all = tt
all_classed external_count own h (fix ∷ fixes) all =
    (class_of external_count own fix.kind fix.target fix.offset h all.0, all_classed external_count own h fixes all.1)

-- how often a test holds among fixes by their classes
nothing_laid : (test : Fix → Bool) (all : List Class) → times test (laid all []) ≡ 0
nothing_laid test [] = refl
nothing_laid test (class ∷ all) = nothing_laid test all

times_cons :
    (test : Fix → Bool) (o : Option Fix) (xs : List Fix)
    → times test (cons_option o xs) ≡ times test (cons_option o []) + times test xs
times_cons test None xs = omega arith
times_cons test (Some x) xs = omega arith

times_more :
    (test : Fix → Bool) (fix : Fix) (fixes : List Fix) (all : List Class)
    → times test (laid all (fix ∷ fixes)) ≡ times test (laid all fixes) + times test (classed all fix)
times_more test fix fixes [] = refl
times_more test fix fixes (class ∷ all) =
    let kept : List Fix = filter_map class fixes in
    let a : times test (cons_option (class fix) kept ++ laid all (fix ∷ fixes))
    ≡ times test (cons_option (class fix) kept) + times test (laid all (fix ∷ fixes)) =
    times_append test (cons_option (class fix) kept) (laid all (fix ∷ fixes)) in
    let b : times test (cons_option (class fix) kept)
    ≡ times test (cons_option (class fix) []) + times test kept =
    times_cons test (class fix) kept in
    let c : times test (laid all (fix ∷ fixes)) ≡ times test (laid all fixes) + times test (classed all fix) =
    times_more test fix fixes all in
    let d : times test (kept ++ laid all fixes) ≡ times test kept + times test (laid all fixes) =
    times_append test kept (laid all fixes) in
    let e : times test (cons_option (class fix) (classed all fix))
    ≡ times test (cons_option (class fix) []) + times test (classed all fix) =
    times_cons test (class fix) (classed all fix) in
    omega (arith, a, b, c, d, e)

pub times_laid :
    (test : Fix → Bool) (own : Segment) (fixes : List Fix) → AllByRecursion (InOneClass own) fixes
    → times test (laid (classes own) fixes) ≡ times test fixes
times_laid test own [] all = nothing_laid test (classes own)
times_laid test own (fix ∷ fixes) all =
    let a : times test (laid (classes own) (fix ∷ fixes))
    ≡ times test (laid (classes own) fixes) + times test (classed (classes own) fix) =
    times_more test fix fixes (classes own) in
    let b : times test (laid (classes own) fixes) ≡ times test fixes = times_laid test own fixes all.1 in
    let c : times test (classed (classes own) fix) ≡ times test (fix ∷ []) = ap (times test) all.0 in
    let d : times test (fix ∷ fixes) ≡ times test (fix ∷ []) + times test fixes =
    times_append test (fix ∷ []) fixes in
    omega (arith, a, b, c, d)

-- what is found among fixes by their classes
neither_found :
    {A : Type 0} (test : A → Bool) (xs ys : List A) → find test (xs ++ ys) ≡ None
    → (find test xs ≡ None) × (find test ys ≡ None)
neither_found {A} test xs ys h = go (find test xs) (find test ys) (sym (find-append test xs ys) ∙ h)
  where
    go : (a b : Option A) → option_or a b ≡ None → (a ≡ None) × (b ≡ None)
    go None b e = (refl, e)
    go (Some x) b e = absurd (let bad : Some x ≡ None = e in cc)

neither_finds :
    {A : Type 0} (test : A → Bool) (xs ys : List A) → find test xs ≡ None
    → find test (xs ++ ys) ≡ find test ys
neither_finds test xs ys h = find-append test xs ys ∙ ap (λ o. option_or o (find test ys)) h

nothing_found : (test : Fix → Bool) (all : List Class) → find test (laid all []) ≡ None
nothing_found test [] = refl
nothing_found test (class ∷ all) = nothing_found test all

found_here :
    (test : Fix → Bool) (fix : Fix) (fixes : List Fix) (all : List Class) → find test (laid all fixes) ≡ None
    → find test (laid all (fix ∷ fixes)) ≡ find test (classed all fix)
found_here test fix fixes [] h = refl
found_here test fix fixes (class ∷ all) h =
    let kept : List Fix = filter_map class fixes in
    let n = neither_found test kept (laid all fixes) h in
    go (class fix)
    (neither_finds test kept (laid all (fix ∷ fixes)) n.0 ∙ found_here test fix fixes all n.1)
  where
    go : (o : Option Fix)
        → find test (filter_map class fixes ++ laid all (fix ∷ fixes)) ≡ find test (classed all fix)
        → find test (cons_option o (filter_map class fixes) ++ laid all (fix ∷ fixes))
        ≡ find test (cons_option o (classed all fix))
    go None later = later
    go (Some found) later = ap (cond (test found) (Some found)) later

found_past :
    (test : Fix → Bool) (fix : Fix) (fixes : List Fix) (all : List Class)
    → AllByRecursion (λ other. test other ≡ false) (classed all fix)
    → find test (laid all (fix ∷ fixes)) ≡ find test (laid all fixes)
found_past test fix fixes [] h = refl
found_past test fix fixes (class ∷ all) h = go (class fix) h (found_past test fix fixes all)
  where
    kept : List Fix
    kept = filter_map class fixes

    joins : find test (laid all (fix ∷ fixes)) ≡ find test (laid all fixes)
        → find test (kept ++ laid all (fix ∷ fixes)) ≡ find test (kept ++ laid all fixes)
    joins later =
        find-append test kept (laid all (fix ∷ fixes)) ∙ ap (option_or (find test kept)) later
        ∙ sym (find-append test kept (laid all fixes))

    go : (o : Option Fix) → AllByRecursion (λ other. test other ≡ false) (cons_option o (classed all fix))
        → (AllByRecursion (λ other. test other ≡ false) (classed all fix)
        → find test (laid all (fix ∷ fixes)) ≡ find test (laid all fixes))
        → find test (cons_option o kept ++ laid all (fix ∷ fixes)) ≡ find test (kept ++ laid all fixes)
    go None k later = joins (later k)
    go (Some other) k later =
        ap (λ b. cond b (Some other) (find test (kept ++ laid all (fix ∷ fixes)))) k.0 ∙ joins (later k.1)

none_found : {A : Type 0} (test : A → Bool) (xs : List A) → times test xs ≡ 0 → find test xs ≡ None
none_found test [] h = refl
none_found test (x ∷ xs) h =
    ⊎_elim
    (λ (e : test x ≡ true). absurd (let t : times test (x
    ∷ xs) ≡ 1 + times test xs = times_pass test x xs e in omega (arith, t, h)))
    (λ (e : test x ≡ false).
    ap (λ b. cond b (Some x) (find test xs)) e ∙ none_found test xs (sym (times_fail test x xs e) ∙ h))
    (cases_Bool (test x))

pub find_laid :
    (test : Fix → Bool) (own : Segment) (fixes : List Fix) → AllByRecursion (InOneClass own) fixes
    → times test fixes ≤ 1 → find test (laid (classes own) fixes) ≡ find test fixes
find_laid test own [] all once = nothing_found test (classes own)
find_laid test own (fix ∷ fixes) all once =
    ⊎_elim
    (λ (e : test fix ≡ true).
    let t : times test (fix ∷ fixes) ≡ 1 + times test fixes = times_pass test fix fixes e in
    let none : times test fixes ≡ 0 = omega (arith, t, once) in
    found_here test fix fixes (classes own)
    (find_laid test own fixes all.1 (omega (arith, none)) ∙ none_found test fixes none)
    ∙ ap (find test) all.0 ∙ ap (λ b. cond b (Some fix) None) e
    ∙ sym (ap (λ b. cond b (Some fix) (find test fixes)) e))
    (λ (e : test fix ≡ false).
    let t : times test (fix ∷ fixes) ≡ times test fixes = times_fail test fix fixes e in
    found_past test fix fixes (classes own)
    (subst (AllByRecursion (λ other. test other ≡ false)) (sym all.0) (e, tt))
    ∙ find_laid test own fixes all.1 (omega (arith, t, once))
    ∙ sym (ap (λ b. cond b (Some fix) (find test fixes)) e))
    (cases_Bool (test fix))

-- what holds of all fixes holds of them by their classes
none_fails : (test : Fix → Bool) (fixes : List Fix) → AllByRecursion (λ fix. test fix ≡ true) fixes
    → times (λ fix. not (test fix)) fixes ≡ 0
none_fails test [] all = refl
none_fails test (fix ∷ fixes) all =
    times_fail (λ f. not (test f)) fix fixes (not_from_true (test fix) all.0) ∙ none_fails test fixes all.1

all_pass_if : (test : Fix → Bool) (fixes : List Fix) → times (λ fix. not (test fix)) fixes ≡ 0
    → list_all test fixes ≡ true
all_pass_if test [] h = refl
all_pass_if test (fix ∷ fixes) h =
    ⊎_elim
    (λ (e : test fix ≡ true).
    and_from (test fix) (list_all test fixes) e
    (all_pass_if test fixes (sym (times_fail (λ f. not (test f)) fix fixes (not_from_true (test fix) e))
    ∙ h)))
    (λ (e : test fix ≡ false).
    absurd (let t : times (λ f. not (test f)) (fix ∷ fixes) ≡ 1 + times (λ f. not (test f)) fixes =
    times_pass (λ f. not (test f)) fix fixes (ap not e) in
    omega (arith, t, h)))
    (cases_Bool (test fix))

pub all_laid :
    (test : Fix → Bool) (own : Segment) (fixes : List Fix) → AllByRecursion (InOneClass own) fixes
    → AllByRecursion (λ fix. test fix ≡ true) fixes → list_all test (laid (classes own) fixes) ≡ true
all_laid test own fixes all pass =
    all_pass_if test (laid (classes own) fixes)
    (times_laid (λ fix. not (test fix)) own fixes all ∙ none_fails test fixes pass)
