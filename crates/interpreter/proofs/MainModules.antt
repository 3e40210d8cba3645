-- The main module: where the code finds it.
use Rattle.interpreter.proofs.Prelude.{◌≡◌, ℕ, suc, ◌+◌, ◌<◌, ◌≤◌, Bool, true, false, cond, List, [], ◌∷◌, length, map, drop, get_or, Option, None, Some, option_map, find, position, ap, refl, sym, ◌∙◌, position_from, option_map_or, position_from-zero, Typed, TypedModule, module_view, is_main, number_of_main, found_from, drop_item, at_drop_all}

module _ (total : Option (ℕ × TypedModule)) (modules : List Typed) (i : ℕ)
    (rest : found_from i (map module_view (drop i modules)) ≡ total) where
  main_step : (typed : Typed) (main : Bool) → i < length modules → typed ≡ get_or modules i typed
      → is_main (module_view typed) ≡ main
      → cond main (Some (i, module_view typed)) (found_from (i + 1) (map module_view (drop (i + 1) modules)))
      ≡ total
  main_step typed main within is given =
      ap (λ one. cond one (Some (i, module_view typed))
      (found_from (i + 1) (map module_view (drop (i + 1) modules)))) (sym given)
      ∙ sym (drop_item (λ left. found_from i (map module_view left)) modules i typed within is)
      ∙ rest

  pub main_found : (typed : Typed) → i < length modules → typed ≡ get_or modules i typed
      → is_main (module_view typed) ≡ true → Some (i, module_view typed) ≡ total
  main_found typed within is given = main_step typed true within is given

  pub main_passed : (typed : Typed) → i < length modules → typed ≡ get_or modules i typed
      → is_main (module_view typed) ≡ false
      → found_from (i + 1) (map module_view (drop (i + 1) modules)) ≡ total
  main_passed typed within is given = main_step typed false within is given

  pub no_main : length modules ≤ i → None ≡ total
  no_main past = sym (at_drop_all (λ left. found_from i (map module_view left)) modules i past) ∙ rest

-- what is found is the first main module, by its number
abbrev module_of : (found : Option (ℕ × TypedModule)) → Option TypedModule
module_of found = option_map (λ (one : ℕ × TypedModule). one.1) found

abbrev number_in : (found : Option (ℕ × TypedModule)) → Option ℕ
number_in found = option_map (λ (one : ℕ × TypedModule). one.0) found

find_by : (test : Bool) (number : ℕ) (first : TypedModule) (others : List TypedModule)
    → module_of (found_from (number + 1) others) ≡ find is_main others
    → module_of (cond test (Some (number, first)) (found_from (number + 1) others))
    ≡ cond test (Some first) (find is_main others)
find_by true number first others rest = refl
find_by false number first others rest = rest

find_from : (number : ℕ) (modules : List TypedModule)
    → module_of (found_from number modules) ≡ find is_main modules
find_from number [] = refl
find_from number (first ∷ others) =
    find_by (is_main first) number first others (find_from (number + 1) others)

position_by : (test : Bool) (number : ℕ) (first : TypedModule) (others : List TypedModule)
    → number_in (found_from (number + 1) others) ≡ position_from is_main (number + 1) others
    → number_in (cond test (Some (number, first)) (found_from (number + 1) others))
    ≡ cond test (Some number) (position_from is_main (number + 1) others)
position_by true number first others rest = refl
position_by false number first others rest = rest

position_is : (number : ℕ) (modules : List TypedModule)
    → number_in (found_from number modules) ≡ position_from is_main number modules
position_is number [] = refl
position_is number (first ∷ others) =
    position_by (is_main first) number first others (position_is (number + 1) others)

pub main_is : (modules : List TypedModule) (number : ℕ) (main : TypedModule)
    → found_from 0 modules ≡ Some (number, main) → find is_main modules ≡ Some main
main_is modules number main found = sym (find_from 0 modules) ∙ ap module_of found

pub number_is : (modules : List TypedModule) (number : ℕ) (main : TypedModule)
    → found_from 0 modules ≡ Some (number, main) → number_of_main modules ≡ number
number_is modules number main found =
    ap (λ one. option_map_or (λ at. at) one 0)
    (position_from-zero is_main modules ∙ sym (position_is 0 modules) ∙ ap number_in found)

pub main_is_none : (modules : List TypedModule) → found_from 0 modules ≡ None → find is_main modules ≡ None
main_is_none modules found = sym (find_from 0 modules) ∙ ap module_of found
