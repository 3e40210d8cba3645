-- A misplaced object, told by its name.
use Rattle.layout.proofs.Prelude.{None, Option, Some, TypedObject, option_map, refl, ℕ, ◌≡◌}
use Rattle.layout.specs.Placing.{ObjectMisplaced}

pub misplaced_by_name :
    (found : Option (TypedObject × ℕ))
    → option_map (λ (placed : TypedObject × ℕ). ObjectMisplaced (placed.0).name) found
    ≡ option_map ObjectMisplaced (option_map (λ (placed : TypedObject × ℕ). (placed.0).name) found)
misplaced_by_name None = refl
misplaced_by_name (Some placed) = refl
