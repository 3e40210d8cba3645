use Rattle.hex80.proofs.Prelude.{◌≡◌, drop, list_any}
use Rattle.hex80.proofs.read.is_used.Given as goal

abbrev pub invariant-loop-mark : goal.invariant-loop-mark
invariant-loop-mark l =
    list_any (λ mark. mark) (drop l.mark-index l.mark-items) ≡ list_any (λ mark. mark) l.mark-items
