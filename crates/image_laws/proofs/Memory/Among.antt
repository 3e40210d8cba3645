-- Contents and pieces among those of a program, by the modules and the places that they come from.
use Rattle.image_laws.proofs.Prelude.{◌≡◌, ℕ, zero, suc, ◌+◌, ◌⊎◌, inl, inr, Bool, true, false, ◌&&◌, ◌||◌, List, [], ◌∷◌, ◌++◌, map, flat_map, Option, Some, None, unwrap_or, refl, ap, sym, subst, ◌∙◌, arith, if◌then◌else◌, filter, filter_map, slice_get, zip, AllByRecursion, cons_option, enumerate_from, list_any, none-some, Contents, IsAmong, one_moved}

-- the items of two lists at one place
pub of_zip :
    {X Y : Type 0} {A : Type 0} (xs : List X) (ys : List Y) (number : ℕ) (both : X × Y)
    → slice_get (zip xs ys) number ≡ Some both
    → (slice_get xs number ≡ Some both.0 → slice_get ys number ≡ Some both.1 → A)
    → A
of_zip [] ys number both found then_is = absurd (none-some both found)
of_zip (x ∷ xs) [] number both found then_is = absurd (none-some both found)
of_zip (x ∷ xs) (y ∷ ys) zero both found then_is =
    let same : (x, y) ≡ both = ap (λ (found : Option _). unwrap_or found (x, y)) found in
    then_is (ap (λ (one : _ × _). Some one.0) same) (ap (λ (one : _ × _). Some one.1) same)
of_zip (x ∷ xs) (y ∷ ys) (suc number) both found then_is = of_zip xs ys number both found then_is

-- a numbered item
pub of_numbered :
    {X : Type 0} {A : Type 0} (first : ℕ) (items : List X) (number : ℕ) (one : ℕ × X)
    → slice_get (enumerate_from first items) number ≡ Some one
    → (one.0 ≡ first + number → slice_get items number ≡ Some one.1 → A)
    → A
of_numbered first [] number one found then_is = absurd (none-some one found)
of_numbered first (x ∷ items) zero one found then_is =
    let same : (first, x) ≡ one = ap (λ (found : Option _). unwrap_or found (first, x)) found in
    then_is (sym (ap (λ (one : ℕ × _). one.0) same) ∙ plus_none first) (ap (λ (one : ℕ × _). Some one.1) same)
  where
    plus_none : (n : ℕ) → n ≡ n + 0
    plus_none n = omega arith
of_numbered first (x ∷ items) (suc number) one found then_is =
    of_numbered (first + 1) items number one found
    (λ same there. then_is (same ∙ one_moved first number) there)

pub numbered :
    {X : Type 0} (first : ℕ) (items : List X) (number at : ℕ) (item : X)
    → slice_get items number ≡ Some item
    → at ≡ first + number
    → slice_get (enumerate_from first items) number ≡ Some (at, item)
numbered first [] number at item found same = absurd (none-some item found)
numbered first (x ∷ items) zero at item found same =
    ap (λ (one : _). Some (first, one)) (ap (λ (found : Option _). unwrap_or found x) found)
    ∙ ap (λ (n : ℕ). Some (n, item)) (back first at same)
  where
    back : (first at : ℕ) → at ≡ first + 0 → first ≡ at
    back first at same = omega (arith, same)
numbered first (x ∷ items) (suc number) at item found same =
    numbered (first + 1) items number at item found (omega (arith, same))

-- contents among others
pub among_either :
    (wanted : Contents) (one other : List Contents)
    → IsAmong wanted (one ++ other)
    → IsAmong wanted one ⊎ IsAmong wanted other
among_either wanted [] other among = inr among
among_either wanted (first ∷ one) other (inl same) = inl (inl same)
among_either wanted (first ∷ one) other (inr among) = by (among_either wanted one other among)
  where
    by : IsAmong wanted one ⊎ IsAmong wanted other
        → ((wanted ≡ first) ⊎ IsAmong wanted one) ⊎ IsAmong wanted other
    by (inl here) = inl (inr here)
    by (inr there) = inr there

pub among_front : (wanted : Contents) (one other : List Contents) → IsAmong wanted one
    → IsAmong wanted (one ++ other)
among_front wanted [] other among = absurd among
among_front wanted (first ∷ one) other (inl same) = inl same
among_front wanted (first ∷ one) other (inr among) = inr (among_front wanted one other among)

pub among_back : (wanted : Contents) (one other : List Contents) → IsAmong wanted other
    → IsAmong wanted (one ++ other)
among_back wanted [] other among = among
among_back wanted (first ∷ one) other among = inr (among_back wanted one other among)

pub of_map :
    {X : Type 0} {A : Type 0} (f : X → Contents) (items : List X) (wanted : Contents)
    → IsAmong wanted (map f items)
    → ((number : ℕ) (item : X) → slice_get items number ≡ Some item → wanted ≡ f item → A)
    → A
of_map f [] wanted among then_is = absurd among
of_map f (first ∷ items) wanted (inl same) then_is = then_is 0 first refl same
of_map f (first ∷ items) wanted (inr among) then_is =
    of_map f items wanted among (λ number item found same. then_is (suc number) item found same)

pub in_map :
    {X : Type 0} (f : X → Contents) (items : List X) (number : ℕ) (item : X)
    → slice_get items number ≡ Some item
    → IsAmong (f item) (map f items)
in_map f [] number item found = absurd (none-some item found)
in_map f (first ∷ items) zero item found =
    inl (ap f (sym (ap (λ (found : Option _). unwrap_or found first) found)))
in_map f (first ∷ items) (suc number) item found = inr (in_map f items number item found)

pub of_flat_map :
    {X : Type 0} {A : Type 0} (f : X → List Contents) (items : List X) (wanted : Contents)
    → IsAmong wanted (flat_map f items)
    → ((number : ℕ) (item : X) → slice_get items number ≡ Some item → IsAmong wanted (f item) → A)
    → A
of_flat_map f [] wanted among then_is = absurd among
of_flat_map {X} {A} f (first ∷ items) wanted among then_is =
    by (among_either wanted (f first) (flat_map f items) among)
    (λ later. of_flat_map f items wanted later
    (λ number item found there. then_is (suc number) item found there))
  where
    by : IsAmong wanted (f first) ⊎ IsAmong wanted (flat_map f items)
        → (IsAmong wanted (flat_map f items) → A)
        → A
    by (inl here) rest = then_is 0 first refl here
    by (inr later) rest = rest later

pub in_flat_map :
    {X : Type 0} (f : X → List Contents) (items : List X) (number : ℕ) (item : X) (wanted : Contents)
    → slice_get items number ≡ Some item
    → IsAmong wanted (f item)
    → IsAmong wanted (flat_map f items)
in_flat_map f [] number item wanted found among = absurd (none-some item found)
in_flat_map f (first ∷ items) zero item wanted found among =
    among_front wanted (f first) (flat_map f items)
    (subst (λ (one : _). IsAmong wanted (f one))
    (sym (ap (λ (found : Option _). unwrap_or found first) found)) among)
in_flat_map f (first ∷ items) (suc number) item wanted found among =
    among_back wanted (f first) (flat_map f items) (in_flat_map f items number item wanted found among)

-- what holds of all contents holds of each among them
pub of_among :
    (P : Contents → Type 0) (all : List Contents) (wanted : Contents)
    → AllByRecursion P all
    → IsAmong wanted all
    → P wanted
of_among P [] wanted holds among = absurd among
of_among P (first ∷ all) wanted holds (inl same) = subst P (sym same) holds.0
of_among P (first ∷ all) wanted holds (inr among) = of_among P all wanted holds.1 among

-- pieces that pass a test
pub any_either :
    {X : Type 0} (p : X → Bool) (one other : List X)
    → list_any p (one ++ other) ≡ true
    → (list_any p one ≡ true) ⊎ (list_any p other ≡ true)
any_either p [] other is = inr is
any_either p (first ∷ one) other is = by (p first) is (any_either p one other)
  where
    by : (here : Bool)
        → (here || list_any p (one ++ other)) ≡ true
        → (list_any p (one ++ other) ≡ true → (list_any p one ≡ true) ⊎ (list_any p other ≡ true))
        → ((here || list_any p one) ≡ true) ⊎ (list_any p other ≡ true)
    by true is rest = inl refl
    by false is rest = rest is

pub of_any :
    {X : Type 0} {A : Type 0} (p : X → Bool) (items : List X)
    → list_any p items ≡ true
    → ((number : ℕ) (item : X) → slice_get items number ≡ Some item → p item ≡ true → A)
    → A
of_any p [] is then_is = let bad : false ≡ true = is in absurd cc
of_any {X} {A} p (first ∷ items) is then_is =
    by (p first) refl is
    (λ later. of_any p items later (λ number item found holds. then_is (suc number) item found holds))
  where
    by : (here : Bool) → p first ≡ here → (here || list_any p items) ≡ true
        → (list_any p items ≡ true → A) → A
    by true e is rest = then_is 0 first refl e
    by false e is rest = rest is

pub any_of_filter :
    {X : Type 0} (p q : X → Bool) (items : List X)
    → list_any p (filter q items) ≡ true
    → list_any (λ (item : X). q item && p item) items ≡ true
any_of_filter p q [] is = is
any_of_filter p q (first ∷ items) is = by (q first) is (any_of_filter p q items)
  where
    either : (here one other : Bool) → (here || one) ≡ true → (one ≡ true → other ≡ true)
        → (here || other) ≡ true
    either true one other is rest = refl
    either false one other is rest = rest is

    by : (passes : Bool)
        → list_any p (if passes then first ∷ filter q items else filter q items) ≡ true
        → (list_any p (filter q items) ≡ true → list_any (λ (item : _). q item && p item) items ≡ true)
        → ((passes && p first) || list_any (λ (item : _). q item && p item) items) ≡ true
    by true is rest =
        either (p first) (list_any p (filter q items))
        (list_any (λ (item : _). q item && p item) items) is rest
    by false is rest = rest is

pub any_of_flat_map :
    {X Y : Type 0} {A : Type 0} (p : Y → Bool) (f : X → List Y) (items : List X)
    → list_any p (flat_map f items) ≡ true
    → ((number : ℕ) (item : X) → slice_get items number ≡ Some item → list_any p (f item) ≡ true → A)
    → A
any_of_flat_map p f [] is then_is = let bad : false ≡ true = is in absurd cc
any_of_flat_map {X} {Y} {A} p f (first ∷ items) is then_is =
    by (any_either p (f first) (flat_map f items) is)
    (λ later. any_of_flat_map p f items later
    (λ number item found there. then_is (suc number) item found there))
  where
    by : (list_any p (f first) ≡ true) ⊎ (list_any p (flat_map f items) ≡ true)
        → (list_any p (flat_map f items) ≡ true → A)
        → A
    by (inl here) rest = then_is 0 first refl here
    by (inr later) rest = rest later

pub any_of_map :
    {X Y : Type 0} (p : Y → Bool) (f : X → Y) (items : List X)
    → list_any p (map f items) ≡ list_any (λ (item : X). p (f item)) items
any_of_map p f [] = refl
any_of_map p f (first ∷ items) = ap (λ (rest : Bool). p (f first) || rest) (any_of_map p f items)

pub any_of_filter_map :
    {X Y : Type 0} {A : Type 0} (p : Y → Bool) (f : X → Option Y) (items : List X)
    → list_any p (filter_map f items) ≡ true
    → ((number : ℕ) (item : X) (given : Y) → slice_get items number ≡ Some item → f item ≡ Some given
    → p given ≡ true → A)
    → A
any_of_filter_map p f [] is then_is = let bad : false ≡ true = is in absurd cc
any_of_filter_map {X} {Y} {A} p f (first ∷ items) is then_is =
    by (f first) refl is
    (λ later. any_of_filter_map p f items later
    (λ number item given found gives there. then_is (suc number) item given found gives there))
  where
    here_or : (given : Y) → f first ≡ Some given → (here : Bool) → p given ≡ here
        → (here || list_any p (filter_map f items)) ≡ true
        → (list_any p (filter_map f items) ≡ true → A)
        → A
    here_or given e true holds is rest = then_is 0 first given refl e holds
    here_or given e false holds is rest = rest is

    by : (found : Option Y)
        → f first ≡ found
        → list_any p (cons_option found (filter_map f items)) ≡ true
        → (list_any p (filter_map f items) ≡ true → A)
        → A
    by None e is rest = rest is
    by (Some given) e is rest = here_or given e (p given) refl is rest
