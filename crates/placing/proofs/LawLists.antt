-- What holds of each element of a list and of each pair, by recursion on the list.
use Rattle.placing.proofs.Prelude.{◌≡◌, Bool, true, false, List, [], ◌∷◌, ◌++◌, map, refl, sym, cond, AllPairs, filter, find, Some, None, AllByRecursion, none-some, All-from_recursion, AllPairs-cons, arith, all_append, all_both, all_mapped, all_weaker}

-- R holds of each element and each later one
abbrev pub EachPair : {X : Type 0} → (X → X → Type 0) → List X → Type 0
EachPair R [] = Unit {0}
EachPair R (x ∷ xs) = AllByRecursion (R x) xs × EachPair R xs

pub pairs_map :
    {X Y : Type 0} (P : X → Type 0) (R : X → X → Type 0) (S : Y → Y → Type 0) (f : X → Y)
    → ((x y : X) → P x → P y → R x y → S (f x) (f y))
    → (xs : List X)
    → AllByRecursion P xs
    → EachPair R xs
    → EachPair S (map f xs)
pairs_map P R S f made [] all pairs = tt
pairs_map P R S f made (x ∷ xs) all pairs = (
  all_mapped (λ y. P y × R x y) (S (f x)) f (λ y both. made x y all.0 both.0 both.1) xs
      (all_both P (R x) xs all.1 pairs.0),
  pairs_map P R S f made xs all.1 pairs.1,
)

pub pairs_append :
    {X : Type 0} (R : X → X → Type 0) (xs ys : List X)
    → EachPair R xs
    → EachPair R ys
    → AllByRecursion (λ x. AllByRecursion (R x) ys) xs
    → EachPair R (xs ++ ys)
pairs_append R [] ys first second between = second
pairs_append R (x ∷ xs) ys first second between = (
  all_append (R x) xs ys first.0 between.0,
  pairs_append R xs ys first.1 second between.1,
)

-- the elements of two lists, where the property of one list tells them from those of the other
pub each_between :
    {X : Type 0} (P Q : X → Type 0) (R : X → X → Type 0)
    → ((x y : X) → P x → Q y → R x y)
    → (xs ys : List X)
    → AllByRecursion P xs
    → AllByRecursion Q ys
    → AllByRecursion (λ x. AllByRecursion (R x) ys) xs
each_between P Q R between xs ys first second =
    all_weaker P (λ x. AllByRecursion (R x) ys)
    (λ x has. all_weaker Q (R x) (λ y holds. between x y has holds) ys second) xs first

pairs_nil : {X : Type 0} (R : X → X → Type 0) → AllPairs R []
pairs_nil R = λ i j d before within. absurd (omega arith)

pub pairs_all : {X : Type 0} (R : X → X → Type 0) (xs : List X) → EachPair R xs → AllPairs R xs
pairs_all R [] pairs = pairs_nil R
pairs_all R (x ∷ xs) pairs =
    AllPairs-cons R x xs (All-from_recursion (R x) xs pairs.0) (pairs_all R xs pairs.1)

-- what a test keeps has the property and passes
pub each_filter :
    {X : Type 0} (P Q : X → Type 0) (test : X → Bool)
    → ((x : X) → test x ≡ true → P x → Q x)
    → (xs : List X)
    → AllByRecursion P xs
    → AllByRecursion Q (filter test xs)
each_filter P Q test passes [] all = tt
each_filter {X} P Q test passes (x ∷ xs) all =
    by_test (test x) refl (each_filter P Q test passes xs all.1)
  where
    by_test :
        (passed : Bool)
        → test x ≡ passed
        → AllByRecursion Q (filter test xs)
        → AllByRecursion Q (cond passed (x ∷ filter test xs) (filter test xs))
    by_test true is others = (passes x is all.0, others)
    by_test false is others = others

-- a test that finds nothing
pub none_found :
    {X : Type 0} (test : X → Bool) (xs : List X)
    → find test xs ≡ None
    → AllByRecursion (λ x. test x ≡ false) xs
none_found test [] none = tt
none_found test (x ∷ xs) none = by_test (test x) refl (λ rest. none_found test xs rest) none
  where
    by_test :
        (passed : Bool)
        → test x ≡ passed
        → (find test xs ≡ None → AllByRecursion (λ x. test x ≡ false) xs)
        → cond passed (Some x) (find test xs) ≡ None
        → (test x ≡ false) × AllByRecursion (λ x. test x ≡ false) xs
    by_test true is others none = absurd (none-some x (sym none))
    by_test false is others none = (is, others none)

-- the parts of a list that was put together
pub each_first :
    {X : Type 0} (P : X → Type 0) (xs ys : List X) → AllByRecursion P (xs ++ ys) → AllByRecursion P xs
each_first P [] ys all = tt
each_first P (x ∷ xs) ys all = (all.0, each_first P xs ys all.1)

pub each_second :
    {X : Type 0} (P : X → Type 0) (xs ys : List X) → AllByRecursion P (xs ++ ys) → AllByRecursion P ys
each_second P [] ys all = all
each_second P (x ∷ xs) ys all = each_second P xs ys all.1
