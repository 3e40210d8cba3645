use Rattle.object_commands.proofs.Lines.{range_written}
use Rattle.object_commands.proofs.places.put_range.Goals as goal

pub returns : goal.returns
returns c =
    range_written c.writeln.result c.in_radix.result c.laid_out.result c.args.address c.args.size
    c.args.lines.now.items c.writeln.new.self.items c.args.word.now
    c.in_radix.ensures c.laid_out.ensures c.ranges.address.fits c.writeln.ensures.bytes
