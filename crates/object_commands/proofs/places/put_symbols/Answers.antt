use Rattle.object_commands.proofs.{Prelude.{arith, symbol_view, symbol_line}, Lists.{list_added}}
use Rattle.object_commands.proofs.places.put_symbols.Goals as goal

pub loop-symbol-preserved : goal.loop-symbol-preserved
loop-symbol-preserved c =
    list_added symbol_line symbol_view _ c.loop-symbol.lines.items _ c.args.symbols.now
    c.loop-symbol.symbol-index c.symbol-item.result c.loop-symbol.invariant
    (omega arith) c.symbol-item.is c.in_ok-put_symbol.ensures
