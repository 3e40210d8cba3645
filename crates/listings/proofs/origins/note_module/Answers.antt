use Rattle.listings.proofs.LineOrigins.{origin_in}
use Rattle.listings.proofs.origins.note_module.Goals as goal

pub loop-rest-preserved : goal.loop-rest-preserved
loop-rest-preserved c = λ count within all.
    c.note.ensures count (origin_in count c.args.number c.origin_of.result within c.origin_of.ensures)
    (c.loop-rest.invariant count within all)
