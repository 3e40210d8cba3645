use Rattle.listings.proofs.LineOrigins.{one_set}
use Rattle.listings.proofs.origins.note.Goals as goal

pub loop-address-preserved : goal.loop-address-preserved
loop-address-preserved c = λ count within all.
    one_set count c.loop-address.origins.items c.note_at.new.origins.items c.loop-address.address c.args.origin
    c.note_at.ensures within (c.loop-address.invariant count within all)
