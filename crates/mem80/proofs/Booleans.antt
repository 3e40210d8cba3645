-- Tests joined by "and" and "or".
use Rattle.std.proofs.Common.{Bool, false, refl, sym, true, ◌≡◌}
use Rattle.std.specs.Prelude.{IsTrue, ◌||◌, ◌↔◌}

pub or_kept : (a b c : Bool) → (b ≡ true → c ≡ true) → (a || b) ≡ true → (a || c) ≡ true
or_kept true b c next is = refl
or_kept false b c next is = next is

-- two tests of one thing
pub same_test : {P : Type 0} (a b : Bool) → IsTrue a ↔ P → IsTrue b ↔ P → a ≡ b
same_test true true one other = refl
same_test false false one other = refl
same_test true false one other = sym (other.1 (one.0 refl))
same_test false true one other = one.1 (other.0 refl)
