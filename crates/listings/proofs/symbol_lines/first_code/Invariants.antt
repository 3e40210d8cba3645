use Rattle.listings.proofs.Prelude.{◌≡◌, ◌+◌, length}
use Rattle.listings.specs.internal.Symbols.{ArePlacesIn}
use Rattle.listings.proofs.symbol_lines.first_code.Given as goal

-- each line has an entry, and each place is in the code
abbrev pub invariant-loop-mark : goal.invariant-loop-mark
invariant-loop-mark l = record {
  long : length l.first.items ≡ l.count + 1;
  placed : ArePlacesIn l.view l.first.items;
}
