-- Numbers, bytes and pairs of bytes.
use Rattle.procedure_laws.proofs.Prelude.{arith, suc, wrap, ℕ, ◌+◌, ◌-◌, ◌≡◌, ◌≢◌, ◌≤◌}

pub after_one_less : (budget : ℕ) → budget ≢ 0 → suc (budget - 1) ≡ budget
after_one_less budget some = omega (arith, some)

pub two_less_one : (top : ℕ) → 2 ≤ top → top - 2 + 1 ≡ top - 1
two_less_one top room = omega (arith, room)

pub two_more_one : (top : ℕ) → top + 2 - 1 ≡ top + 1
two_more_one top = omega arith

pub two_less_again : (top : ℕ) → top + 2 - 2 ≡ top
two_less_again top = omega arith

pub two_more_less : (level : ℕ) → level ≡ level + 2 - 2
two_more_less level = omega arith

pub wrapped_two_more : (top : ℕ) → wrap top ≡ wrap (top + 2 - 2)
wrapped_two_more top = omega arith
