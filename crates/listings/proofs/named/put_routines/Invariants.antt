use Rattle.listings.proofs.Prelude.{AddsNames, IsNameIn}
use Rattle.listings.proofs.named.put_routines.Given as goal

abbrev pub invariant-loop-mark : goal.invariant-loop-mark
invariant-loop-mark l = AddsNames (IsNameIn l.view) l.fn.names.items l.names.items
