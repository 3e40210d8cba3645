use Rattle.commands.proofs.Prelude.{hole_is}
use Rattle.commands.proofs.places.address_text.Goals as goal

pub returns : goal.returns
returns c = rw (hole_is c.in_radix.result c.laid_out.result c.args.address c.in_radix.ensures c.laid_out.ensures c.ranges.address.fits) at c.format.ensures.ok
