use Rattle.hex80.proofs.Prelude.{◌≡◌, ℕ, ◌<◌, get_or}
use Rattle.hex80.proofs.read.line_end.Given as goal

abbrev pub invariant-loop-i : goal.invariant-loop-i
invariant-loop-i l = (k : ℕ) → k < l.i → get_or l.text k 0 ≡ 10 → ⊥
