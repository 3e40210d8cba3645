-- Loops over names, and over modules with theirs.
use Rattle.link_laws.proofs.Prelude.{◌≡◌, ℕ, suc, ◌+◌, ◌<◌, ◌≤◌, Bool, true, false, cond, not, List, [], ◌∷◌, ◌++◌, map, length, drop, get_or, Option, None, Some, Result, Ok, Err, refl, ap, sym, ◌∙◌, add-one, option_or, drop-cons, OwnedPublic, LinkRefusal, DuplicatePublic, public_names, Public, ObjectModule, is_among, owned_public_view, gathered, name_of, externals_of, missing_in, public_name, at_drop_all}

-- what is left of a list, item by item
module _ {A Y : Type 0} (of : List A → Y) (items : List A) (i : ℕ) where
  pub at_item : (item : A) → i < length items → item ≡ get_or items i item
      → of (drop i items) ≡ of (item ∷ drop (i + 1) items)
  at_item item within is =
      ap of (drop-cons items i item within)
      ∙ ap (λ first. of (first ∷ drop (suc i) items)) (sym is)
      ∙ ap (λ n. of (item ∷ drop n items)) (sym (add-one i))

-- names after others
abbrev pub onward : (ys : List (List ℕ)) → Result (List (List ℕ)) LinkRefusal
    → Result (List (List ℕ)) LinkRefusal
onward ys (Ok known) = gathered known ys
onward ys (Err refusal) = Err refusal

gathered_by :
    (known xs ys : List (List ℕ)) (found : Result (List (List ℕ)) LinkRefusal) → gathered known xs ≡ found
    → gathered known (xs ++ ys) ≡ onward ys found
gathered_by known [] ys found h = ap (onward ys) h
gathered_by known (name ∷ others) ys found h =
    go (is_among name known) (λ k. gathered_by (known ++ name ∷ []) others ys found k) h
  where
    go : (b : Bool)
        → (gathered (known ++ name ∷ []) others ≡ found
        → gathered (known ++ name ∷ []) (others ++ ys) ≡ onward ys found)
        → cond b (Err (DuplicatePublic name)) (gathered (known ++ name ∷ []) others) ≡ found
        → cond b (Err (DuplicatePublic name)) (gathered (known ++ name ∷ []) (others ++ ys)) ≡ onward ys found
    go true later is = ap (onward ys) is
    go false later is = later is

pub views_named : (publics : List OwnedPublic)
    → map name_of publics ≡ map (λ (public : Public). public.name) (map owned_public_view publics)
views_named [] = refl
views_named (public ∷ others) = ap (λ names. public.name ∷ names) (views_named others)

-- modules, one after another
module _ (known : List (List ℕ)) (total : Result (List (List ℕ)) LinkRefusal) (modules : List ObjectModule)
    (i : ℕ) (rest : gathered known (public_names (drop i modules)) ≡ total) where
  module_step :
      (object : ObjectModule) (publics : List Public) (found : Result (List (List ℕ)) LinkRefusal)
      → i < length modules → object ≡ get_or modules i object → publics ≡ object.publics
      → gathered known (map public_name publics) ≡ found
      → onward (public_names (drop (i + 1) modules)) found ≡ total
  module_step object publics found within is told h =
      sym (gathered_by known (map public_name object.publics) (public_names (drop (i + 1) modules)) found
      (ap (λ p. gathered known (map public_name p)) (sym told) ∙ h))
      ∙ sym (at_item (λ left. gathered known (public_names left)) modules i object within is) ∙ rest

  pub module_added :
      (object : ObjectModule) (publics : List Public) (new : List (List ℕ))
      → i < length modules → object ≡ get_or modules i object → publics ≡ object.publics
      → gathered known (map public_name publics) ≡ Ok new
      → gathered new (public_names (drop (i + 1) modules)) ≡ total
  module_added object publics new within is told h = module_step object publics (Ok new) within is told h

  pub module_repeats :
      (object : ObjectModule) (publics : List Public) (refusal : LinkRefusal)
      → i < length modules → object ≡ get_or modules i object → publics ≡ object.publics
      → gathered known (map public_name publics) ≡ Err refusal → total ≡ Err refusal
  module_repeats object publics refusal within is told h =
      sym (module_step object publics (Err refusal) within is told h)

  pub modules_ended : length modules ≤ i → total ≡ Ok known
  modules_ended past = sym rest ∙ at_drop_all (λ left. gathered known (public_names left)) modules i past

-- the first name that is not among others
missing_after :
    (known xs ys : List (List ℕ)) → missing_in known (xs ++ ys)
    ≡ option_or (missing_in known xs) (missing_in known ys)
missing_after known [] ys = refl
missing_after known (name ∷ others) ys = go (not (is_among name known)) (missing_after known others ys)
  where
    go : (b : Bool)
        → missing_in known (others ++ ys) ≡ option_or (missing_in known others) (missing_in known ys)
        → cond b (Some name) (missing_in known (others ++ ys))
        ≡ option_or (cond b (Some name) (missing_in known others)) (missing_in known ys)
    go true later = refl
    go false later = later

module _ (known : List (List ℕ)) (total : Option (List ℕ)) (modules : List ObjectModule) (i : ℕ)
    (rest : missing_in known (externals_of (drop i modules)) ≡ total) where
  unresolved_step :
      (object : ObjectModule) (names : List (List ℕ)) (found : Option (List ℕ)) → i < length modules
      → object ≡ get_or modules i object → names ≡ object.externals → found ≡ missing_in known names
      → option_or found (missing_in known (externals_of (drop (i + 1) modules))) ≡ total
  unresolved_step object names found within is same h =
      ap (λ f. option_or f (missing_in known (externals_of (drop (i + 1) modules))))
      (h ∙ ap (missing_in known) same)
      ∙ sym (missing_after known object.externals (externals_of (drop (i + 1) modules)))
      ∙ sym (at_item (λ left. missing_in known (externals_of left)) modules i object within is) ∙ rest

  pub unresolved_found :
      (object : ObjectModule) (names : List (List ℕ)) (name : List ℕ) → i < length modules
      → object ≡ get_or modules i object → names ≡ object.externals
      → Some name ≡ missing_in known names → Some name ≡ total
  unresolved_found object names name within is same h =
      unresolved_step object names (Some name) within is same h

  pub unresolved_passed :
      (object : ObjectModule) (names : List (List ℕ)) → i < length modules
      → object ≡ get_or modules i object → names ≡ object.externals → None ≡ missing_in known names
      → missing_in known (externals_of (drop (i + 1) modules)) ≡ total
  unresolved_passed object names within is same h = unresolved_step object names None within is same h

  pub unresolved_ended : length modules ≤ i → None ≡ total
  unresolved_ended past =
      sym (at_drop_all (λ left. missing_in known (externals_of left)) modules i past) ∙ rest
