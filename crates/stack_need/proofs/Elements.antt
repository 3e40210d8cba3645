-- Elements of lists.
use Rattle.stack_need.proofs.Prelude.{◌≡◌, ℕ, suc, List, [], ◌∷◌, ◌++◌, Option, Some, None, Contains, arith, refl, sym, subst, ◌∙◌, AllByRecursion, cons_option, filter_map}
use Rattle.call_graphs.proofs.Elements.{at_head, in_tail}

-- what holds of all of two lists
module _ {A : Type 0} (P : A → Type 0) where
  pub all_left : (left right : List A) → AllByRecursion P (left ++ right) → AllByRecursion P left
  all_left [] right all = tt
  all_left (item ∷ others) right all = (all.0, all_left others right all.1)

  pub all_right : (left right : List A) → AllByRecursion P (left ++ right) → AllByRecursion P right
  all_right [] right all = all
  all_right (item ∷ others) right all = all_right others right all.1

-- the elements of what is made of a list
module _ (make : ℕ → Option ℕ) where
  abbrev AllMade : (P : (from to : ℕ) → Type 0) → List ℕ → Type 0
  AllMade P items = AllByRecursion (λ from. (to : ℕ) → make from ≡ Some to → P from to) items

  abbrev Made : (P : (from to : ℕ) → Type 0) → List ℕ → Type 0
  Made P items = (from to : ℕ) → make from ≡ Some to → Contains (filter_map make items) to → P from to

  made_more : (P : (from to : ℕ) → Type 0) (item : ℕ) (others : List ℕ) (made : Option ℕ) → make item ≡ made
      → (Made P others → AllMade P others) → Made P (item ∷ others) → AllMade P (item ∷ others)
  made_more P item others None is rest holds = (
    (λ to same. absurd (let bad : None ≡ Some to = sym is ∙ same in let no : ⊥ = cc in no)),
    rest (λ from to same found. holds from to same
        (subst (λ one. Contains (cons_option one (filter_map make others)) to) (sym is) found)),
  )
  made_more P item others (Some one) is rest holds = (
    (λ to same. holds item to same (subst (λ found. Contains (cons_option found (filter_map make others)) to)
        (sym same) (at_head to (filter_map make others)))),
    rest (λ from to same found. holds from to same
        (subst (λ some. Contains (cons_option some (filter_map make others)) to) (sym is)
        (in_tail one (filter_map make others) to found))),
  )

  pub all_made : (P : (from to : ℕ) → Type 0) (items : List ℕ) → Made P items → AllMade P items
  all_made P [] holds = tt
  all_made P (item ∷ others) holds = made_more P item others (make item) refl (all_made P others) holds
