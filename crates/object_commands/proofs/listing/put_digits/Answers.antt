use Rattle.object_commands.proofs.Listings.{byte_written}
use Rattle.object_commands.proofs.listing.put_digits.Goals as goal

pub returns : goal.returns
returns c =
    byte_written c.write.result c.in_radix.result c.laid_out.result c.args.byte c.args.lines.now.items
    c.write.new.self.items c.in_radix.ensures c.laid_out.ensures
    c.ranges.byte.fits c.write.ensures.bytes
