use Rattle.object_commands.proofs.Prelude.{◌≡◌, ◌++◌, drop, map, flat_map, symbol_view, label_line}
use Rattle.object_commands.proofs.listing.put_labels.Given as goal

-- what was added, and then what the rest adds, is all
abbrev pub invariant-loop-symbol : goal.invariant-loop-symbol
invariant-loop-symbol l =
    l.lines.items ++ flat_map (label_line l.address) (map symbol_view (drop l.symbol-index l.symbols))
    ≡ l.fn.lines.items ++ flat_map (label_line l.address) (map symbol_view l.symbols)
