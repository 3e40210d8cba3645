-- The pass over modules that looks for a second main module.
use Rattle.link_laws.proofs.Prelude.{◌≡◌, ℕ, suc, ◌+◌, ◌%◌, ◌<◌, ◌≤◌, Bool, true, false, cond, ◌==◌, List, [], ◌∷◌, length, drop, filter_map, get_or, is_some, Option, None, Some, option_map, refl, ap, sym, ◌∙◌, arith, cons_option, ne_eqb, code_end, data_end, linked_after, linked_from, linked_modules, main_modules, ObjectModule, main_of, mains_are, same_test, one_main, at_drop_all}
use Rattle.link_laws.proofs.NameLoops.{at_item}

abbrev mains_from : (code data_before : ℕ) → List ObjectModule → List (List ℕ × ℕ)
mains_from code data_before modules = filter_map main_of (linked_from code data_before modules)

not_none : (n : ℕ) → false ≡ (suc n == 0)
not_none n = sym (ne_eqb (suc n) 0 (λ e. omega (arith, e)))

one_less : (n : ℕ) → (n == 0) ≡ (suc n == 1)
one_less n = same_test n 0 (suc n) 1 (λ e. omega (arith, e)) (λ e. omega (arith, e))

after_main : (code data_before : ℕ) (modules : List ObjectModule)
    → one_main true modules ≡ (length (mains_from code data_before modules) == 0)
after_main code data_before [] = refl
after_main code data_before (object ∷ others) =
    go object.start
    (after_main (code_end (linked_after code data_before object))
    (data_end (linked_after code data_before object)) others)
  where
    go : (start : Option ℕ)
        → one_main true others
        ≡ (length (mains_from (code_end (linked_after code data_before object))
        (data_end (linked_after code data_before object)) others) == 0)
        → cond (is_some start) false (one_main true others)
        ≡ (length (cons_option
        (option_map
        (λ offset. (object.name, (offset + ((linked_after code data_before object).start).code) % 65536))
        start)
        (mains_from (code_end (linked_after code data_before object))
        (data_end (linked_after code data_before object)) others)) == 0)
    go None later = later
    go (Some offset) later = not_none _

before_main : (code data_before : ℕ) (modules : List ObjectModule)
    → one_main false modules ≡ (length (mains_from code data_before modules) == 1)
before_main code data_before [] = refl
before_main code data_before (object ∷ others) =
    go object.start
    (before_main (code_end (linked_after code data_before object))
    (data_end (linked_after code data_before object)) others)
    (after_main (code_end (linked_after code data_before object))
    (data_end (linked_after code data_before object)) others)
  where
    go : (start : Option ℕ)
        → one_main false others
        ≡ (length (mains_from (code_end (linked_after code data_before object))
        (data_end (linked_after code data_before object)) others) == 1)
        → one_main true others
        ≡ (length (mains_from (code_end (linked_after code data_before object))
        (data_end (linked_after code data_before object)) others) == 0)
        → cond (is_some start) (one_main true others) (one_main false others)
        ≡ (length (cons_option
        (option_map
        (λ offset. (object.name, (offset + ((linked_after code data_before object).start).code) % 65536))
        start)
        (mains_from (code_end (linked_after code data_before object))
        (data_end (linked_after code data_before object)) others)) == 1)
    go None later none = later
    go (Some offset) later none = none ∙ one_less _

pub mains_begun : (modules : List ObjectModule)
    → one_main false modules ≡ (length (main_modules (linked_modules modules)) == 1)
mains_begun modules =
    before_main 0 0 modules ∙ ap (λ (mains : List (List ℕ × ℕ)). length mains == 1)
    (sym (mains_are (linked_modules modules)))

module _ (total found : Bool) (modules : List ObjectModule) (i : ℕ)
    (rest : one_main found (drop i modules) ≡ total) where
  main_step :
      (object : ObjectModule) (start : Option ℕ) (main : Bool) → i < length modules
      → object ≡ get_or modules i object
      → start ≡ object.start → is_some start ≡ main
      → cond main (cond found false (one_main true (drop (i + 1) modules)))
      (one_main found (drop (i + 1) modules)) ≡ total
  main_step object start main within is same given =
      ap (λ b. cond b (cond found false (one_main true (drop (i + 1) modules)))
      (one_main found (drop (i + 1) modules)))
      (sym given ∙ ap is_some same)
      ∙ sym (at_item (one_main found) modules i object within is) ∙ rest

  pub main_passed :
      (object : ObjectModule) (start : Option ℕ) → i < length modules → object ≡ get_or modules i object
      → start ≡ object.start → is_some start ≡ false → one_main found (drop (i + 1) modules) ≡ total
  main_passed object start within is same given = main_step object start false within is same given

  pub main_first :
      (object : ObjectModule) (start : Option ℕ) → i < length modules → object ≡ get_or modules i object
      → start ≡ object.start → is_some start ≡ true → found ≡ false
      → one_main true (drop (i + 1) modules) ≡ total
  main_first object start within is same given first =
      sym (ap (λ b. cond b false (one_main true (drop (i + 1) modules))) first)
      ∙ main_step object start true within is same given

  pub main_again :
      (object : ObjectModule) (start : Option ℕ) → i < length modules → object ≡ get_or modules i object
      → start ≡ object.start → is_some start ≡ true → found ≡ true → false ≡ total
  main_again object start within is same given again =
      sym (ap (λ b. cond b false (one_main true (drop (i + 1) modules))) again)
      ∙ main_step object start true within is same given

  pub mains_ended : length modules ≤ i → found ≡ total
  mains_ended past = sym (at_drop_all (one_main found) modules i past) ∙ rest
