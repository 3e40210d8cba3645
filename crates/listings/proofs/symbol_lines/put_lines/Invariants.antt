use Rattle.listings.proofs.Prelude.{length, IsBegun, HasSourceLines}
use Rattle.listings.proofs.symbol_lines.put_lines.Given as goal

abbrev pub invariant-loop-number : goal.invariant-loop-number
invariant-loop-number l = IsBegun (HasSourceLines l.view (length l.first)) 1 l.number l.fn.lines.items l.lines.items
