-- An image starts where the main module of the merge does.
use Rattle.image_laws.proofs.Prelude.{◌≡◌, ℕ, ◌+◌, ◌%◌, ◌==◌, Bool, true, false, not, List, [], ◌∷◌, length, filter_map, slice_get, IfSome, Option, Some, None, option_map, unwrap_or, refl, ap, sym, subst, ◌∙◌, arith, AllByRecursion, cons_option, eqb-true, All-from_recursion, Code, Linked, linked_modules, Plan, Image, placed, placement_refusal, joined, main_of, merge_is, unless_ok, MainStarts, StartsAt, piece_base}

module _ {A B : Type 0} (f : A → Option B) where
  -- where nothing is found, what is found is anything
  none_found :
      (other : B) (xs : List A) → length (filter_map f xs) ≡ 0
      → AllByRecursion (λ x. IfSome (f x) (λ y. Some other ≡ Some y)) xs
  none_found other [] h = tt
  none_found other (x ∷ xs) h = go (f x) (none_found other xs) h
    where
      go : (found : Option B)
          → (length (filter_map f xs) ≡ 0 → AllByRecursion (λ z. IfSome (f z) (λ y. Some other ≡ Some y)) xs)
          → length (cons_option found (filter_map f xs)) ≡ 0
          → IfSome found (λ y. Some other ≡ Some y)
          × AllByRecursion (λ z. IfSome (f z) (λ y. Some other ≡ Some y)) xs
      go None later k = (tt, later k)
      go (Some y) later k = absurd (omega (arith, k))

  -- of things of which one alone is found, it is the first that is found
  one_found :
      (xs : List A) → length (filter_map f xs) ≡ 1
      → AllByRecursion (λ x. IfSome (f x) (λ y. slice_get (filter_map f xs) 0 ≡ Some y)) xs
  one_found [] h = tt
  one_found (x ∷ xs) h = go (f x) (one_found xs) h
    where
      go : (found : Option B)
          → (length (filter_map f xs) ≡ 1
          → AllByRecursion (λ z. IfSome (f z) (λ y. slice_get (filter_map f xs) 0 ≡ Some y)) xs)
          → length (cons_option found (filter_map f xs)) ≡ 1
          → IfSome found (λ y. slice_get (cons_option found (filter_map f xs)) 0 ≡ Some y)
          × AllByRecursion
          (λ z. IfSome (f z) (λ y. slice_get (cons_option found (filter_map f xs)) 0 ≡ Some y)) xs
      go None later k = (tt, later k)
      go (Some y) later k = (refl, none_found y xs (omega (arith, k)))

-- where a start of a module comes to lie
start_lies :
    (plan : Plan) (linked : Linked) (mains : List (List ℕ × ℕ)) (start : Option ℕ)
    → IfSome
    (option_map (λ offset. ((linked.object).name, (offset + (linked.start).code) % 65536)) start)
    (λ main. slice_get mains 0 ≡ Some main)
    → IfSome start (λ offset.
    (unwrap_or (option_map (λ (main : List ℕ × ℕ). main.1) (slice_get mains 0)) 0 + plan.code_base) % 65536
    ≡ (piece_base plan linked.start Code + offset) % 65536)
start_lies plan linked mains None h = tt
start_lies plan linked mains (Some offset) h =
    let same :
    (((offset + (linked.start).code) % 65536) + plan.code_base) % 65536
    ≡ (plan.code_base + (linked.start).code + offset) % 65536 = omega arith in
    ap (λ found.
    (unwrap_or (option_map (λ (main : List ℕ × ℕ). main.1) found) 0 + plan.code_base) % 65536) h ∙ same

all_start :
    (plan : Plan) (mains : List (List ℕ × ℕ)) (linked : List Linked)
    → AllByRecursion (λ one. IfSome (main_of one) (λ main. slice_get mains 0 ≡ Some main)) linked
    → AllByRecursion
    (λ (one : Linked). IfSome (one.object).start (λ offset.
    (unwrap_or (option_map (λ (main : List ℕ × ℕ). main.1) (slice_get mains 0)) 0 + plan.code_base) % 65536
    ≡ (piece_base plan one.start Code + offset) % 65536))
    linked
all_start plan mains [] h = tt
all_start plan mains (one ∷ others) h =
    (start_lies plan one mains (one.object).start h.0, all_start plan mains others h.1)

is_one : (count : ℕ) → not (count == 1) ≡ false → count ≡ 1
is_one count h = go (count == 1) refl h
  where
    go : (b : Bool) → (count == 1) ≡ b → not b ≡ false → count ≡ 1
    go true e k = eqb-true count 1 e
    go false e k = absurd (let bad : true ≡ false = k in cc)

pub main_starts : MainStarts
main_starts objects merged plan image made found =
    let merge = merge_is objects merged made in
    let linked : List Linked = linked_modules objects in
    let is = unless_ok (placed plan merged) (placement_refusal plan merged) image found in
    let one = one_found main_of linked (is_one (length (filter_map main_of linked)) merge.main) in
    let at : image ≡ placed plan (joined objects linked) =
    sym is.0 ∙ ap (placed plan) merge.said in
    All-from_recursion (StartsAt plan image) linked
    (subst (λ (i : Image). AllByRecursion (StartsAt plan i) linked) (sym at)
    (all_start plan (filter_map main_of linked) linked one))
