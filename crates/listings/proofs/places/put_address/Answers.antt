use Rattle.listings.proofs.LinesWritten.{address_written}
use Rattle.listings.proofs.places.put_address.Goals as goal

pub returns : goal.returns
returns c =
    address_written c.write.result c.in_radix.result c.laid_out.result c.args.address c.args.lines.now.items
    c.write.new.self.items
    c.in_radix.ensures c.laid_out.ensures c.ranges.address.fits c.write.ensures.bytes
