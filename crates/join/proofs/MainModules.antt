-- Main modules, counted.
use Rattle.join.proofs.Prelude.{◌≡◌, ℕ, ◌+◌, ◌<◌, ◌≤◌, ◌==◌, Bool, true, false, not, List, [], ◌∷◌, map, length, drop, get_or, count_by, if◌then◌else◌, cond, ap, sym, ◌∙◌, arith, common_steps, sum_by-cons, Typed, TypedStatement, ListOf, module_view, statements_view, has_statement, is_main, drop_item, at_drop_all}

pub statements_stand : (first : ℕ) (places : List ℕ) (statements slice : List TypedStatement) (empty : Bool)
    → slice ≡ statements → empty ≡ (length slice == 0)
    → not empty ≡ has_statement (ListOf first places (statements_view statements))
statements_stand first places statements slice empty same is =
    by statements (is ∙ ap (λ (list : List TypedStatement). length list == 0) same)
  where
    by : (list : List TypedStatement) → empty ≡ (length list == 0)
        → not empty ≡ has_statement (ListOf first places (statements_view list))
    by [] is = grind (arith, common_steps, is)
    by (statement ∷ others) is = grind (arith, common_steps, is)

-- how many of the modules before were main modules, and of those that are left
abbrev pub mains : Bool → List Typed → ℕ
mains found modules = (if found then 1 else 0) + count_by is_main (map module_view modules)

module _ (found : Bool) (modules : List Typed) (i : ℕ)
    (rest : mains found (drop i modules) ≡ count_by is_main (map module_view modules)) where
  module_step : (typed : Typed) (main : Bool) → i < length modules → typed ≡ get_or modules i typed
      → is_main (module_view typed) ≡ main
      → (if found then 1 else 0)
      + ((if main then 1 else 0) + count_by is_main (map module_view (drop (i + 1) modules)))
      ≡ count_by is_main (map module_view modules)
  module_step typed main within is given =
      ap (λ counts. (if found then 1 else 0)
      + ((if counts then 1 else 0) + count_by is_main (map module_view (drop (i + 1) modules))))
      (sym given)
      ∙ ap (λ count. (if found then 1 else 0) + count)
      (sym (sum_by-cons (λ counted. cond (is_main counted) 1 0) (module_view typed)
      (map module_view (drop (i + 1) modules))))
      ∙ sym (drop_item (mains found) modules i typed within is)
      ∙ rest

  pub other_module : (typed : Typed) → i < length modules → typed ≡ get_or modules i typed
      → is_main (module_view typed) ≡ false
      → mains found (drop (i + 1) modules) ≡ count_by is_main (map module_view modules)
  other_module typed within is given = omega (arith, module_step typed false within is given)

  pub main_module : (typed : Typed) → i < length modules → typed ≡ get_or modules i typed
      → is_main (module_view typed) ≡ true → found ≡ false
      → mains true (drop (i + 1) modules) ≡ count_by is_main (map module_view modules)
  main_module typed within is given first =
      omega (arith, rw first at (module_step typed true within is given))

  pub second_main : (typed : Typed) → i < length modules → typed ≡ get_or modules i typed
      → is_main (module_view typed) ≡ true → found ≡ true
      → false ≡ (count_by is_main (map module_view modules) == 1)
  second_main typed within is given again =
      let counted = module_step typed true within is given in
      let more = rw again at counted in
      grind (arith, common_steps, more)

  pub mains_ended : length modules ≤ i → found ≡ (count_by is_main (map module_view modules) == 1)
  mains_ended past = by found (sym (at_drop_all (mains found) modules i past) ∙ rest)
    where
      by : (one : Bool) → (if one then 1 else 0) + 0 ≡ count_by is_main (map module_view modules)
          → one ≡ (count_by is_main (map module_view modules) == 1)
      by true counted = grind (arith, common_steps, counted)
      by false counted = grind (arith, common_steps, counted)
