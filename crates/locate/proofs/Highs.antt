-- The targets of high bytes, by the fixes of a segment.
use Rattle.locate.proofs.Prelude.{◌≡◌, ℕ, ◌+◌, ◌%◌, ◌==◌, Bool, true, false, not, ◌||◌, List, [], ◌∷◌, ◌++◌, flat_map, filter_map, Option, Some, None, refl, ap, sym, ◌∙◌, list_any, cons_option, option_and_then, filter_map-append, Fix, FixKind, Low, High, Both, Code, Data, Target, Fixup, SetByte, ObjectModule, places_of, high_target, high_targets, fixes_of_run, fixes_in, runs_from, breaks_high, before_fixes, before_runs_fixes}

-- the fixes at places, by their offsets
abbrev fixes_at : ℕ → List (Option SetByte) → List Fix
fixes_at n [] = []
fixes_at n (None ∷ others) = fixes_at (n + 1) others
fixes_at n (Some here ∷ others) = before_fixes n here.fixup (fixes_at (n + 1) others)

fixes_are_at :
    (n : ℕ) (places : List (Option SetByte)) → flat_map fixes_of_run (runs_from n places) ≡ fixes_at n places
fixes_are_at n [] = refl
fixes_are_at n (None ∷ others) = fixes_are_at (n + 1) others
fixes_are_at n (Some here ∷ others) =
    before_runs_fixes n here (runs_from (n + 1) others)
    ∙ ap (before_fixes n here.fixup) (fixes_are_at (n + 1) others)

abbrev target_at : Option SetByte → Option Target
target_at place = option_and_then (λ (here : SetByte). option_and_then high_target here.fixup) place

abbrev breaks : (gain_of : Target → ℕ) → Target → Bool
breaks gain_of target = not (gain_of target % 256 == 0)

any_kind :
    (gain_of : Target → ℕ) (n value : ℕ) (kind : FixKind) (target : Target) (fixes : List Fix)
    (targets : List Target)
    → list_any (breaks_high gain_of) fixes ≡ list_any (breaks gain_of) targets
    → list_any (breaks_high gain_of) (record { kind = kind; target = target; offset = n } ∷ fixes)
    ≡ list_any (breaks gain_of) (cons_option (high_target (record { kind = kind; target = target })) targets)
any_kind gain_of n value Low target fixes targets h = h
any_kind gain_of n value High target fixes targets h = ap (λ b. breaks gain_of target || b) h
any_kind gain_of n value Both target fixes targets h = h

any_fixup :
    (gain_of : Target → ℕ) (n value : ℕ) (fixup : Option Fixup) (fixes : List Fix) (targets : List Target)
    → list_any (breaks_high gain_of) fixes ≡ list_any (breaks gain_of) targets
    → list_any (breaks_high gain_of) (before_fixes n fixup fixes)
    ≡ list_any (breaks gain_of)
    (cons_option (target_at (Some (record { value = value; fixup = fixup }))) targets)
any_fixup gain_of n value None fixes targets h = h
any_fixup gain_of n value (Some fixup) fixes targets h =
    any_kind gain_of n value fixup.kind fixup.target fixes targets h

any_high :
    (gain_of : Target → ℕ) (n : ℕ) (places : List (Option SetByte))
    → list_any (breaks_high gain_of) (fixes_at n places)
    ≡ list_any (breaks gain_of) (filter_map target_at places)
any_high gain_of n [] = refl
any_high gain_of n (None ∷ others) = any_high gain_of (n + 1) others
any_high gain_of n (Some here ∷ others) =
    any_fixup gain_of n here.value here.fixup (fixes_at (n + 1) others) (filter_map target_at others)
    (any_high gain_of (n + 1) others)

any_append :
    {A : Type 0} (p : A → Bool) (xs ys : List A) → list_any p (xs ++ ys) ≡ (list_any p xs || list_any p ys)
any_append p [] ys = refl
any_append {A} p (x ∷ xs) ys = go (p x) (any_append p xs ys)
  where
    go : (b : Bool) → list_any p (xs ++ ys) ≡ (list_any p xs || list_any p ys)
        → (b || list_any p (xs ++ ys)) ≡ (b || list_any p xs || list_any p ys)
    go true h = refl
    go false h = h

-- some high byte is fixed to what would begin within a page, by the fixes of both segments
pub high_is :
    (gain_of : Target → ℕ) (object : ObjectModule)
    → list_any (λ target. not (gain_of target % 256 == 0)) (high_targets object)
    ≡ (list_any (breaks_high gain_of) (fixes_in object Code)
    || list_any (breaks_high gain_of) (fixes_in object Data))
unfolding fixes_in
high_is gain_of object =
    let code : List (Option SetByte) = places_of object Code in
    let other : List (Option SetByte) = places_of object Data in
    ap (list_any (breaks gain_of)) (filter_map-append target_at code other)
    ∙ any_append (breaks gain_of) (filter_map target_at code) (filter_map target_at other)
    ∙ ap (λ b. b || list_any (breaks gain_of) (filter_map target_at other))
    (sym (ap (list_any (breaks_high gain_of)) (fixes_are_at 0 code) ∙ any_high gain_of 0 code))
    ∙ ap (λ b. list_any (breaks_high gain_of) (flat_map fixes_of_run (runs_from 0 code)) || b)
    (sym (ap (list_any (breaks_high gain_of)) (fixes_are_at 0 other) ∙ any_high gain_of 0 other))
