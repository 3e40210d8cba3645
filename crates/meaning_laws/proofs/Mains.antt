-- A program that is joined has a main program, where its number says.
use Rattle.meaning_laws.proofs.Prelude.{◌≡◌, ℕ, suc, ◌+◌, Bool, true, false, List, [], ◌∷◌, Option, Some, None, IsSomeAnd, cond, find, slice_get, refl, sym, ap, subst, ◌∙◌, arith, count_by, position_from, option_map_or, position_from-zero, sum_by-cons, none-some, TypedModule, is_main, Program, number_of_main, HasMain, IsWhole, main_counted}

-- one for what is counted
abbrev one_if : Bool → ℕ
one_if test = cond test 1 0

-- where there is none, none is counted
none_counted : (modules : List TypedModule) → find is_main modules ≡ None → count_by is_main modules ≡ 0
none_counted [] none = refl
none_counted (first ∷ others) none =
    by (is_main first) refl none (none_counted others)
    (sum_by-cons (λ (typed : TypedModule). one_if (is_main typed)) first others)
  where
    by : (test : Bool) → is_main first ≡ test → find is_main (first ∷ others) ≡ None
        → (find is_main others ≡ None → count_by is_main others ≡ 0)
        → count_by is_main (first ∷ others) ≡ one_if (is_main first) + count_by is_main others
        → count_by is_main (first ∷ others) ≡ 0
    by true is none rest count =
        let found : Some first ≡ None =
        sym (ap (λ (test : Bool). cond test (Some first) (find is_main others)) is) ∙ none in
        absurd (none-some first (sym found))
    by false is none rest count =
        let next : find is_main others ≡ None =
        sym (ap (λ (test : Bool). cond test (Some first) (find is_main others)) is) ∙ none in
        let here : one_if (is_main first) ≡ 0 = ap one_if is in
        let more = rest next in
        omega (arith, count, here, more)

-- the first that is main, and its number
found_at : {A : Type 0} (from : ℕ) (modules : List TypedModule) (main : TypedModule)
    → find is_main modules ≡ Some main
    → ((at : ℕ) → position_from is_main from modules ≡ Some (from + at)
    → slice_get modules at ≡ Some main → A) → A
found_at from [] main found then_is = absurd (none-some main found)
found_at {A} from (first ∷ others) main found then_is =
    by (is_main first) refl found (λ next then_later. found_at (from + 1) others main next then_later)
  where
    by : (test : Bool) → is_main first ≡ test → find is_main (first ∷ others) ≡ Some main
        → (find is_main others ≡ Some main
        → ((at : ℕ) → position_from is_main (from + 1) others ≡ Some (from + 1 + at)
        → slice_get others at ≡ Some main → A) → A)
        → A
    by true is found rest =
        then_is 0
        (ap (λ (test : Bool). cond test (Some from) (position_from is_main (from + 1) others)) is
        ∙ ap (λ (n : ℕ). Some n) (omega arith))
        (sym (ap (λ (test : Bool). cond test (Some first) (find is_main others)) is) ∙ found)
    by false is found rest =
        rest (sym (ap (λ (test : Bool). cond test (Some first) (find is_main others)) is) ∙ found)
        (λ at place there.
        then_is (suc at)
        (ap (λ (test : Bool). cond test (Some from) (position_from is_main (from + 1) others)) is ∙ place
        ∙ ap (λ (n : ℕ). Some n) (omega arith))
        there)

pub main_is_there : (program : Program) → IsWhole program → HasMain program.modules
main_is_there program whole = by (find is_main program.modules) refl
  where
    by : (entry : Option TypedModule) → find is_main program.modules ≡ entry
        → IsSomeAnd entry
        (λ (main : TypedModule). slice_get program.modules (number_of_main program.modules) ≡ Some main)
    by None none =
        let one = main_counted program.modules whole.joined in
        let nothing = none_counted program.modules none in
        absurd (omega (arith, one, nothing))
    by (Some main) found =
        found_at 0 program.modules main found
        (λ at place there.
        let counted : number_of_main program.modules ≡ 0 + at =
        ap (λ (entry : Option ℕ). option_map_or (λ (number : ℕ). number) entry 0)
        (position_from-zero is_main program.modules ∙ place) in
        let number : number_of_main program.modules ≡ at = omega (arith, counted) in
        subst (λ (number : ℕ). slice_get program.modules number ≡ Some main) (sym number) there)
