use Rattle.object_commands.proofs.Prelude.{◌≡◌, ◌++◌, drop, map, flat_map, symbol_view, symbol_line}
use Rattle.object_commands.proofs.places.put_symbols.Given as goal

-- what was added, and then what the rest adds, is all
abbrev pub invariant-loop-symbol : goal.invariant-loop-symbol
invariant-loop-symbol l =
    l.lines.items ++ flat_map symbol_line (map symbol_view (drop l.symbol-index l.symbols))
    ≡ l.fn.lines.items ++ flat_map symbol_line (map symbol_view l.symbols)
