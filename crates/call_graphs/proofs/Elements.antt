-- Elements of lists.
use Rattle.call_graphs.proofs.Prelude.{ℕ, suc, List, ◌∷◌, Contains, arith, refl}

pub at_head : {A : Type 0} (item : A) (others : List A) → Contains (item ∷ others) item
at_head item others = (0, omega arith, refl)

pub in_tail : {A : Type 0} (item : A) (others : List A) (one : A) → Contains others one
    → Contains (item ∷ others) one
in_tail item others one found = (suc found.0, omega (arith, found.1), found.2)
