use Rattle.listings.proofs.SymbolTexts.{lines_ended}
use Rattle.listings.proofs.symbol_lines.put_lines.Goals as goal

pub returns : goal.returns
returns c =
    lines_ended c.args.view.now _ c.loop-number.number c.args.lines.now.items c.loop-number.lines.items
    c.loop-number.invariant
