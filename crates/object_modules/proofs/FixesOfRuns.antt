-- The fixes of an item before runs.
use Rattle.object_modules.proofs.Prelude.{◌≡◌, ℕ, ◌+◌, ◌==◌, Bool, true, false, cond, List, [], ◌∷◌, ◌++◌, flat_map, Option, Some, None, refl, ap, sym, ◌∙◌, eqb-true, Fixup, SetByte, Run, before_runs, fixes_from}
use Rattle.std.proofs.lemmas.List.{append-nil}
use Rattle.object_modules.specs.declared.segment.Fix.{Fix}
use Rattle.object_modules.specs.Runs.{fixes_of_run}
use Rattle.object_modules.specs.internal.Joining.{before_fixes, run_at}

pub fixes_step :
    (offset value : ℕ) (fixup : Option Fixup) (others : List SetByte)
    → fixes_from offset (record { value = value; fixup = fixup } ∷ others)
    ≡ before_fixes offset fixup (fixes_from (offset + 1) others)
fixes_step offset value None others = refl
fixes_step offset value (Some fixup) others = refl

pub before_append :
    (offset : ℕ) (fixup : Option Fixup) (xs ys : List Fix)
    → before_fixes offset fixup xs ++ ys ≡ before_fixes offset fixup (xs ++ ys)
before_append offset None xs ys = refl
before_append offset (Some fixup) xs ys = refl

-- the fixes of an item and of the runs after it
pub before_runs_fixes :
    (offset : ℕ) (here : SetByte) (runs : List (Run SetByte))
    → flat_map fixes_of_run (before_runs offset here runs)
    ≡ before_fixes offset here.fixup (flat_map fixes_of_run runs)
before_runs_fixes offset here [] =
    append-nil (fixes_from offset (here ∷ [])) ∙ fixes_step offset here.value here.fixup []
before_runs_fixes offset here (next ∷ others) = go (next.offset == offset + 1) refl
  where
    go : (b : Bool) → (next.offset == offset + 1) ≡ b
        → flat_map fixes_of_run (cond b (run_at offset (here ∷ next.items) ∷ others)
        (run_at offset (here ∷ []) ∷ next ∷ others))
        ≡ before_fixes offset here.fixup (fixes_from next.offset next.items ++ flat_map fixes_of_run others)
    go true e =
        let at : next.offset ≡ offset + 1 = eqb-true next.offset (offset + 1) e in
        ap (λ f. f ++ flat_map fixes_of_run others) (fixes_step offset here.value here.fixup next.items)
        ∙ before_append offset here.fixup (fixes_from (offset + 1) next.items) (flat_map fixes_of_run others)
        ∙ ap (λ n. before_fixes offset here.fixup (fixes_from n next.items ++ flat_map fixes_of_run others))
        (sym at)
    go false e =
        ap (λ f. f ++ (fixes_from next.offset next.items ++ flat_map fixes_of_run others))
        (fixes_step offset here.value here.fixup [])
        ∙ before_append offset here.fixup [] (fixes_from next.offset next.items ++ flat_map fixes_of_run others)
