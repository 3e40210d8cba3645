-- Facts on some or all elements of a list, by recursion, and those of them that pass a test.
use Rattle.placing.proofs.Prelude.{◌≡◌, ℕ, zero, suc, ◌<◌, Bool, true, false, cond, List, [], ◌∷◌, ◌++◌, length, get_or, refl, sym, subst, arith, ◌⊎◌, All, AllPairs, Any, filter, AllByRecursion, inl, inr, All-from_recursion, recursion_from_All, AllPairs-cons}

module _ {X : Type 0} where
  abbrev pub Some_of : (X → Type 0) → List X → Type 0
  Some_of P [] = ⊥
  Some_of P (x ∷ xs) = P x ⊎ Some_of P xs

  pub some_at :
      (P : X → Type 0) (xs : List X) (k : ℕ) (x : X)
      → k < length xs
      → get_or xs k x ≡ x
      → P x
      → Some_of P xs
  some_at P [] k x within at holds = absurd (omega arith)
  some_at P (first ∷ xs) zero x within at holds = inl (subst P (sym at) holds)
  some_at P (first ∷ xs) (suc k) x within at holds = inr (some_at P xs k x (omega arith) at holds)

  pub some_from_any : (P : X → Type 0) (xs : List X) → Any P xs → Some_of P xs
  some_from_any P xs h = some_at P xs h.0 h.1 h.2 h.3 h.4

  pub any_from_some : (P : X → Type 0) (xs : List X) → Some_of P xs → Any P xs
  any_from_some P [] h = absurd h
  any_from_some P (x ∷ xs) (inl holds) = (0, x, omega arith, refl, holds)
  any_from_some P (x ∷ xs) (inr h) =
      let found = any_from_some P xs h in let lt = found.2 in
      (suc found.0, found.1, omega arith, found.3, found.4)

  pub some_weaker : (P Q : X → Type 0) → ((x : X) → P x → Q x) → (xs : List X) → Some_of P xs → Some_of Q xs
  some_weaker P Q f [] h = absurd h
  some_weaker P Q f (x ∷ xs) (inl holds) = inl (f x holds)
  some_weaker P Q f (x ∷ xs) (inr h) = inr (some_weaker P Q f xs h)

  -- those that pass a test
  module _ (q : X → Bool) (P : X → Type 0) where
    some_first :
        (x : X) (xs : List X)
        → (Some_of P (filter q xs) → Some_of (λ x. (q x ≡ true) × P x) xs)
        → (b : Bool)
        → q x ≡ b
        → Some_of P (cond b (x ∷ filter q xs) (filter q xs))
        → Some_of (λ x. (q x ≡ true) × P x) (x ∷ xs)
    some_first x xs others true passes (inl holds) = inl (passes, holds)
    some_first x xs others true passes (inr h) = inr (others h)
    some_first x xs others false fails h = inr (others h)

    some_of_filter : (xs : List X) → Some_of P (filter q xs) → Some_of (λ x. (q x ≡ true) × P x) xs
    some_of_filter [] h = absurd h
    some_of_filter (x ∷ xs) h = some_first x xs (some_of_filter xs) (q x) refl h

    some_later : (x : X) (xs : List X) → Some_of P xs → (b : Bool) → Some_of P (cond b (x ∷ xs) xs)
    some_later x xs h true = inr h
    some_later x xs h false = h

    some_in_filter : (xs : List X) → Some_of (λ x. (q x ≡ true) × P x) xs → Some_of P (filter q xs)
    some_in_filter [] h = absurd h
    some_in_filter (x ∷ xs) (inl both) =
        subst (λ b. Some_of P (cond b (x ∷ filter q xs) (filter q xs))) (sym both.0) (inl both.1)
    some_in_filter (x ∷ xs) (inr h) = some_later x (filter q xs) (some_in_filter xs h) (q x)

    pub any_of_filter : (xs : List X) → Any P (filter q xs) → Some_of (λ x. (q x ≡ true) × P x) xs
    any_of_filter xs h = some_of_filter xs (some_from_any P (filter q xs) h)

    pub any_in_filter : (xs : List X) → Some_of (λ x. (q x ≡ true) × P x) xs → Any P (filter q xs)
    any_in_filter xs h = any_from_some P (filter q xs) (some_in_filter xs h)

    all_first :
        (x : X) (xs : List X)
        → (AllByRecursion P (filter q xs) → AllByRecursion (λ x. q x ≡ true → P x) xs)
        → (b : Bool)
        → q x ≡ b
        → AllByRecursion P (cond b (x ∷ filter q xs) (filter q xs))
        → AllByRecursion (λ x. q x ≡ true → P x) (x ∷ xs)
    all_first x xs others true passes h = ((λ _. h.0), others h.1)
    all_first x xs others false fails h = ((λ passes. absurd (cc)), others h)

    all_of : (xs : List X) → AllByRecursion P (filter q xs) → AllByRecursion (λ x. q x ≡ true → P x) xs
    all_of [] h = tt
    all_of (x ∷ xs) h = all_first x xs (all_of xs) (q x) refl h

    all_onto :
        (x : X) (xs : List X)
        → AllByRecursion P xs
        → (b : Bool)
        → (b ≡ true → P x)
        → AllByRecursion P (cond b (x ∷ xs) xs)
    all_onto x xs others true first = (first refl, others)
    all_onto x xs others false first = others

    all_in : (xs : List X) → AllByRecursion (λ x. q x ≡ true → P x) xs → AllByRecursion P (filter q xs)
    all_in [] h = tt
    all_in (x ∷ xs) h = all_onto x (filter q xs) (all_in xs h.1) (q x) h.0

    pub all_of_filter : (xs : List X) → All P (filter q xs) → AllByRecursion (λ x. q x ≡ true → P x) xs
    all_of_filter xs h = all_of xs (recursion_from_All P (filter q xs) h)

    pub all_in_filter : (xs : List X) → AllByRecursion (λ x. q x ≡ true → P x) xs → All P (filter q xs)
    all_in_filter xs h = All-from_recursion P (filter q xs) (all_in xs h)

  -- all elements, by recursion
  pub all_weaker :
      (P Q : X → Type 0)
      → ((x : X) → P x → Q x)
      → (xs : List X)
      → AllByRecursion P xs
      → AllByRecursion Q xs
  all_weaker P Q f [] h = tt
  all_weaker P Q f (x ∷ xs) h = (f x h.0, all_weaker P Q f xs h.1)

  pub all_both :
      (P Q : X → Type 0) (xs : List X)
      → AllByRecursion P xs
      → AllByRecursion Q xs
      → AllByRecursion (λ x. P x × Q x) xs
  all_both P Q [] h k = tt
  all_both P Q (x ∷ xs) h k = ((h.0, k.0), all_both P Q xs h.1 k.1)

  pub all_join :
      (P : X → Type 0) (xs ys : List X)
      → AllByRecursion P xs
      → AllByRecursion P ys
      → AllByRecursion P (xs ++ ys)
  all_join P [] ys h k = k
  all_join P (x ∷ xs) ys h k = (h.0, all_join P xs ys h.1 k)

  pub all_left : (P : X → Type 0) (xs ys : List X) → AllByRecursion P (xs ++ ys) → AllByRecursion P xs
  all_left P [] ys h = tt
  all_left P (x ∷ xs) ys h = (h.0, all_left P xs ys h.1)

  pub all_right : (P : X → Type 0) (xs ys : List X) → AllByRecursion P (xs ++ ys) → AllByRecursion P ys
  all_right P [] ys h = h
  all_right P (x ∷ xs) ys h = all_right P xs ys h.1

  -- pairs of those that pass
  module _ (q : X → Bool) (R : X → X → Type 0) where
    abbrev pub Pairs_of : List X → Type 0
    Pairs_of [] = Unit {0}
    Pairs_of (x ∷ xs) = (q x ≡ true → AllByRecursion (λ y. q y ≡ true → R x y) xs) × Pairs_of xs

    pairs_head : (x : X) (xs : List X) → AllPairs R (x ∷ xs) → All (R x) xs
    pairs_head x xs h k d within = h zero (suc k) d (omega arith) (omega arith)

    pairs_tail : (x : X) (xs : List X) → AllPairs R (x ∷ xs) → AllPairs R xs
    pairs_tail x xs h i j d below within = h (suc i) (suc j) d (omega arith) (omega arith)

    pairs_first :
        (x : X) (xs : List X)
        → (AllPairs R (filter q xs) → Pairs_of xs)
        → (b : Bool)
        → q x ≡ b
        → AllPairs R (cond b (x ∷ filter q xs) (filter q xs))
        → Pairs_of (x ∷ xs)
    pairs_first x xs others true passes h =
        ((λ _. all_of_filter q (R x) xs (pairs_head x (filter q xs) h)), others (pairs_tail x (filter q xs) h))
    pairs_first x xs others false fails h = ((λ passes. absurd (cc)), others h)

    pub pairs_of_filter : (xs : List X) → AllPairs R (filter q xs) → Pairs_of xs
    pairs_of_filter [] h = tt
    pairs_of_filter (x ∷ xs) h = pairs_first x xs (pairs_of_filter xs) (q x) refl h

    pairs_onto :
        (x : X) (xs : List X)
        → AllPairs R xs
        → (b : Bool)
        → (b ≡ true → All (R x) xs)
        → AllPairs R (cond b (x ∷ xs) xs)
    pairs_onto x xs others true first = AllPairs-cons R x xs (first refl) others
    pairs_onto x xs others false first = others

    no_pairs : AllPairs R []
    no_pairs i j d below within = absurd (omega arith)

    pub pairs_in_filter : (xs : List X) → Pairs_of xs → AllPairs R (filter q xs)
    pairs_in_filter [] h = no_pairs
    pairs_in_filter (x ∷ xs) h =
        pairs_onto x (filter q xs) (pairs_in_filter xs h.1) (q x)
        (λ passes. all_in_filter q (R x) xs (h.0 passes))
