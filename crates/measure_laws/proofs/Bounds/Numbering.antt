-- Items have the same size with the code's numbers for their labels and names.
use Rattle.measure_laws.proofs.Prelude.{◌≡◌, ◌+◌, List, [], ◌∷◌, Option, Some, None, refl, sym, ap, arith, same_Some, Item, size_of, size_of_items, Written, in_front, numbered, numbered_item}
use Rattle.codegen8080.proofs.BegunCode.{item_size}

front_size :
    (item : Item) (others made : List Item) (one : Option Item) (rest : Option (List Item))
    → ((given : Item) → one ≡ Some given → size_of given ≡ size_of item)
    → ((given : List Item) → rest ≡ Some given → size_of_items given ≡ size_of_items others)
    → in_front one rest ≡ Some made
    → size_of_items made ≡ size_of item + size_of_items others
front_size item others made (Some first) (Some more) one_size rest_size is =
    let made_is = ap size_of_items (sym (same_Some (first ∷ more) made is)) in
    omega (arith, made_is, one_size first refl, rest_size more refl)
front_size item others made (Some first) None one_size rest_size is = let never : ⊥ = cc in absurd never
front_size item others made None rest one_size rest_size is = let never : ⊥ = cc in absurd never

pub numbered_size :
    (written : Written) (list made : List Item)
    → numbered written list ≡ Some made
    → size_of_items made ≡ size_of_items list
numbered_size written [] made is = ap size_of_items (sym (same_Some [] made is))
numbered_size written (item ∷ others) made is =
    front_size item others made (numbered_item written item) (numbered written others)
    (λ given one. item_size written item given one)
    (λ given rest. numbered_size written others given rest)
    is
