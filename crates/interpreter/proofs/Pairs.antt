-- The ends of the loops over objects and over constant lists with their addresses.
use Rattle.interpreter.proofs.Prelude.{◌≡◌, ℕ, List, [], ◌∷◌, map, length, drop, zip, min, Global, refl, ap, sym, ◌∙◌, arith, Vec, vec_items, dec_le, drop_of_length-le, Object, object_view, contents_of_list, contents_of_object, with_all}

zip_nothing : {A B : Type 0} (items : List A) → zip {K = A} {X = B} items [] ≡ []
zip_nothing [] = refl
zip_nothing (item ∷ others) = refl

-- no pair is left where the shorter list ends
pairs_ended :
    {A C : Type 0} (items : List A) (addresses : List ℕ) (i : ℕ) (view : A → C)
    → i ≡ min (length items) (length addresses)
    → zip (map view (drop i items)) (drop i addresses) ≡ []
pairs_ended items addresses i view ended =
    elim (dec_le (length items) (length addresses)) [
      | yes short ↦
          ap (λ left. zip (map view left) (drop i addresses))
          (drop_of_length-le items (omega (arith, short, ended)))
      | no long ↦
          ap (zip (map view (drop i items)))
          (drop_of_length-le addresses (omega (arith, long, ended)))
          ∙ zip_nothing (map view (drop i items))
    ]

pub objects_ended :
    (address_of : ℕ → ℕ) (objects : List Object) (addresses : List ℕ) (i : ℕ) (memory total : List ℕ)
    → with_all memory
    (map (contents_of_object address_of) (zip (map object_view (drop i objects)) (drop i addresses)))
    ≡ total
    → i ≡ min (length objects) (length addresses)
    → memory ≡ total
objects_ended address_of objects addresses i memory total rest ended =
    sym (ap (λ pairs. with_all memory (map (contents_of_object address_of) pairs))
    (pairs_ended objects addresses i object_view ended))
    ∙ rest

pub lists_ended :
    (lists : List (Vec ℕ Global)) (addresses : List ℕ) (i : ℕ) (memory total : List ℕ)
    → with_all memory (map contents_of_list (zip (map vec_items (drop i lists)) (drop i addresses))) ≡ total
    → i ≡ min (length lists) (length addresses)
    → memory ≡ total
lists_ended lists addresses i memory total rest ended =
    sym (ap (λ pairs. with_all memory (map contents_of_list pairs))
    (pairs_ended lists addresses i vec_items ended))
    ∙ rest
