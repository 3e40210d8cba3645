use Rattle.object_commands.proofs.Lines.{symbol_written}
use Rattle.object_commands.proofs.places.put_symbol.Goals as goal

pub returns : goal.returns
returns c =
    symbol_written c.writeln.result c.in_radix.result c.laid_out.result
    (record { name = c.args.name.now; address = c.args.address }) c.args.lines.now.items
    c.writeln.new.self.items c.in_radix.ensures c.laid_out.ensures c.ranges.address.fits
    c.writeln.ensures.bytes
