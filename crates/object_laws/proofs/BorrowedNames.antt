-- A name among borrowed names.
use Rattle.object_laws.proofs.Prelude.{Bor, List, [], ap, bytes_eq, is_among, list_any, map, refl, ℕ, ◌||◌, ◌∷◌, ◌≡◌}

-- a set of borrowed names has a name where the names have it
pub among_borrowed :
    (name : List ℕ) (keys : List (Bor (List ℕ)))
    → list_any (λ (key : Bor (List ℕ)). bytes_eq name key.now) keys
    ≡ is_among name (map (λ (key : Bor (List ℕ)). key.now) keys)
among_borrowed name [] = refl
among_borrowed name (key ∷ keys) = ap (λ b. bytes_eq name key.now || b) (among_borrowed name keys)
