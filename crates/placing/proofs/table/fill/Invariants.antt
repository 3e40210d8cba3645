use Rattle.placing.proofs.Prelude.{◌≡◌, ℕ, ◌<◌, length, get_or, MEMORY_SIZE, Undeclared, reach_below, kind_in}
use Rattle.placing.proofs.table.fill.Given as goal

abbrev pub invariant-loop-address : goal.invariant-loop-address
invariant-loop-address l =
    (l.declared ≡ reach_below l.reaches.all l.address)
    × (l.constant ≡ reach_below l.reaches.constants l.address)
    × (length l.kinds ≡ MEMORY_SIZE)
    × ((k : ℕ) → k < l.address → get_or l.kinds k Undeclared ≡ kind_in l.reaches k)
