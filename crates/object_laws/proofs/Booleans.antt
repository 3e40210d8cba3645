-- Tests joined by "and" and "or".
use Rattle.object_laws.proofs.Prelude.{Bool, false, refl, true, ◌||◌, ◌≡◌}

pub or_swap : (a b c : Bool) → (a || (b || c)) ≡ (b || (a || c))
or_swap true true c = refl
or_swap true false c = refl
or_swap false b c = refl

pub or_exchanged : (a b c d : Bool) → ((a || b) || (c || d)) ≡ ((a || c) || (b || d))
or_exchanged true b c d = refl
or_exchanged false true true d = refl
or_exchanged false true false d = refl
or_exchanged false false c d = refl
