-- The fixes of rows of places: in the order of the places, of a row that is joined of parts, and of one that
-- moves.
use Rattle.object_laws.proofs.Prelude.{◌≡◌, ℕ, zero, suc, ◌+◌, List, [], ◌∷◌, ◌++◌, length, flat_map, filter_map, replicate, Option, Some, None, option_map, option_and_then, refl, ap, sym, ◌∙◌, arith, cons_option, filter_map-append, Fix, FixKind, Low, High, Both, Code, Data, Target, Fixup, SetByte, ObjectModule, places_of, fixup_moved, moved_after, high_target, high_targets, runs_from, fixes_of_run, before_fixes, place_fixes, fix_kept, before_append, before_runs_fixes}

-- the fixes of the runs of places, run after run
pub runs_fixes :
    (offset : ℕ) (places : List (Option SetByte))
    → flat_map fixes_of_run (runs_from offset places) ≡ place_fixes offset places
runs_fixes offset [] = refl
runs_fixes offset (None ∷ others) = runs_fixes (offset + 1) others
runs_fixes offset (Some here ∷ others) =
    before_runs_fixes offset here (runs_from (offset + 1) others)
    ∙ ap (before_fixes offset here.fixup) (runs_fixes (offset + 1) others)

pub fixes_append :
    (offset : ℕ) (xs ys : List (Option SetByte))
    → place_fixes offset (xs ++ ys) ≡ place_fixes offset xs ++ place_fixes (offset + length xs) ys
fixes_append offset [] ys =
    let same : offset ≡ offset + 0 = omega arith in ap (λ n. place_fixes n ys) same
fixes_append offset (None ∷ xs) ys =
    let same : (offset + 1) + length xs ≡ offset + suc (length xs) = omega arith in
    fixes_append (offset + 1) xs ys ∙ ap (λ n. place_fixes (offset + 1) xs ++ place_fixes n ys) same
fixes_append offset (Some here ∷ xs) ys =
    let same : (offset + 1) + length xs ≡ offset + suc (length xs) = omega arith in
    ap (before_fixes offset here.fixup) (fixes_append (offset + 1) xs ys)
    ∙ sym (before_append offset here.fixup (place_fixes (offset + 1) xs)
    (place_fixes ((offset + 1) + length xs) ys))
    ∙ ap (λ n. before_fixes offset here.fixup (place_fixes (offset + 1) xs) ++ place_fixes n ys) same

-- places where nothing is set have no fixes
pub fixes_after_gap :
    (offset count : ℕ) (places : List (Option SetByte))
    → place_fixes offset (replicate count None ++ places) ≡ place_fixes (offset + count) places
fixes_after_gap offset zero places =
    let same : offset ≡ offset + 0 = omega arith in ap (λ n. place_fixes n places) same
fixes_after_gap offset (suc count) places =
    let same : (offset + 1) + count ≡ offset + suc count = omega arith in
    fixes_after_gap (offset + 1) count places ∙ ap (λ n. place_fixes n places) same

kept_before :
    (by offset : ℕ) (kept : Target → Option Target) (fixup : Option Fixup) (fixes : List Fix)
    → before_fixes (by + offset) (option_and_then (fixup_moved kept) fixup)
    (filter_map (fix_kept by kept) fixes)
    ≡ filter_map (fix_kept by kept) (before_fixes offset fixup fixes)
kept_before by offset kept None fixes = refl
kept_before by offset kept (Some fixup) fixes = go (kept fixup.target)
  where
    go : (target : Option Target)
        → before_fixes (by + offset)
        (option_map (λ (t : Target). record { kind = fixup.kind; target = t }) target)
        (filter_map (fix_kept by kept) fixes)
        ≡ cons_option {X = Fix}
        (option_map (λ (t : Target). record { kind = fixup.kind; target = t; offset = by + offset }) target)
        (filter_map (fix_kept by kept) fixes)
    go None = refl
    go (Some target) = refl

-- fixes of places that move: they stand later, and some stay
pub fixes_moved :
    (gain_of : Target → ℕ) (kept : Target → Option Target) (before : Option SetByte) (by offset : ℕ)
    (places : List (Option SetByte))
    → place_fixes (by + offset) (moved_after gain_of kept before places)
    ≡ filter_map (fix_kept by kept) (place_fixes offset places)
fixes_moved gain_of kept before by offset [] = refl
fixes_moved gain_of kept before by offset (None ∷ others) =
    let same : (by + offset) + 1 ≡ by + (offset + 1) = omega arith in
    ap (λ n. place_fixes n (moved_after gain_of kept None others)) same
    ∙ fixes_moved gain_of kept None by (offset + 1) others
fixes_moved gain_of kept before by offset (Some here ∷ others) =
    let same : (by + offset) + 1 ≡ by + (offset + 1) = omega arith in
    ap (λ n.
    before_fixes (by + offset) (option_and_then (fixup_moved kept) here.fixup)
    (place_fixes n (moved_after gain_of kept (Some here) others))) same
    ∙ ap (before_fixes (by + offset) (option_and_then (fixup_moved kept) here.fixup))
    (fixes_moved gain_of kept (Some here) by (offset + 1) others)
    ∙ kept_before by offset kept here.fixup (place_fixes (offset + 1) others)

-- High bytes.
-- what a fix of a high byte is fixed to
abbrev pub target_if_high : FixKind → Target → Option Target
target_if_high Low target = None
target_if_high High target = Some target
target_if_high Both target = None

abbrev pub high_of : Fix → Option Target
high_of fix = target_if_high fix.kind fix.target

abbrev pub high_at : Option SetByte → Option Target
high_at place = option_and_then (λ (here : SetByte). option_and_then high_target here.fixup) place

high_kind :
    (kind : FixKind) (target : Target)
    → high_target (record { kind = kind; target = target }) ≡ target_if_high kind target
high_kind Low target = refl
high_kind High target = refl
high_kind Both target = refl

high_before :
    (offset : ℕ) (fixup : Option Fixup) (fixes : List Fix)
    → cons_option (option_and_then high_target fixup) (filter_map high_of fixes)
    ≡ filter_map high_of (before_fixes offset fixup fixes)
high_before offset None fixes = refl
high_before offset (Some fixup) fixes =
    ap (λ t. cons_option t (filter_map high_of fixes)) (high_kind fixup.kind fixup.target)

high_places :
    (offset : ℕ) (places : List (Option SetByte))
    → filter_map high_at places ≡ filter_map high_of (place_fixes offset places)
high_places offset [] = refl
high_places offset (None ∷ others) = high_places (offset + 1) others
high_places offset (Some here ∷ others) =
    ap (cons_option (option_and_then high_target here.fixup)) (high_places (offset + 1) others)
    ∙ high_before offset here.fixup (place_fixes (offset + 1) others)

-- what the high bytes of a module are fixed to, by its fixes
pub high_fixes :
    (object : ObjectModule)
    → high_targets object
    ≡ filter_map high_of (place_fixes 0 object.code.places)
    ++ filter_map high_of (place_fixes 0 object.data_places.places)
high_fixes object =
    filter_map-append high_at (places_of object Code) (places_of object Data)
    ∙ ap (λ t. t ++ filter_map high_at object.data_places.places) (high_places 0 object.code.places)
    ∙ ap (λ t. filter_map high_of (place_fixes 0 object.code.places) ++ t)
    (high_places 0 object.data_places.places)
