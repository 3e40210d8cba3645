-- The greatest of heights, up to the limit.
use Rattle.treecode.proofs.Prelude.{arith, max, min, ℕ, ◌≡◌}

pub nothing_higher : (start : ℕ) → start ≡ max start (min 0 65535)
nothing_higher start = omega arith

pub two_heights : (start one two middle last : ℕ) → middle ≡ max start (min one 65535)
    → last ≡ max middle (min two 65535) → last ≡ max start (min (max one two) 65535)
two_heights start one two middle last e f = omega arith
