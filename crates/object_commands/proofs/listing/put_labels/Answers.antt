use Rattle.object_commands.proofs.{Prelude.{arith, symbol_view, label_line}, Lists.{list_added}}
use Rattle.object_commands.proofs.listing.put_labels.Goals as goal

pub loop-symbol-preserved : goal.loop-symbol-preserved
loop-symbol-preserved c =
    list_added (label_line c.args.address) symbol_view _ c.loop-symbol.lines.items _ c.args.symbols.now
    c.loop-symbol.symbol-index c.symbol-item.result c.loop-symbol.invariant
    (omega arith) c.symbol-item.is c.in_ok-put_label.ensures
