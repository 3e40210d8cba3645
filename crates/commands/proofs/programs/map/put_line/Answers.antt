use Rattle.commands.proofs.MapLines.{line_written}
use Rattle.commands.proofs.programs.map.put_line.Goals as goal

pub returns : goal.returns
returns c =
    line_written c.writeln.result c.in_radix.result c.laid_out.result c.args.module_name.now c.args.object_name.now c.args.address c.args.size c.args.lines.now.items c.writeln.new.self.items
    c.in_radix.ensures c.laid_out.ensures c.ranges.address.fits c.writeln.ensures.bytes
