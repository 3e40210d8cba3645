use Rattle.listings.proofs.Prelude.{length, IsBegun, HaveSymbolsOf}
use Rattle.listings.proofs.symbol_lines.symbols_in.Given as goal

abbrev pub invariant-loop-rest : goal.invariant-loop-rest
invariant-loop-rest l = IsBegun HaveSymbolsOf l.views l.rest l.initial.lines.items l.lines.items

abbrev pub decreases-loop-rest : goal.decreases-loop-rest
decreases-loop-rest l = length l.rest
