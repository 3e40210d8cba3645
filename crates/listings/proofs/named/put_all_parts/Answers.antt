use Rattle.listings.proofs.NamesAdded.{parts_more}
use Rattle.listings.proofs.named.put_all_parts.Goals as goal

pub loop-rest-preserved : goal.loop-rest-preserved
loop-rest-preserved c =
    parts_more c.args.views.now c.loop-rest.rest.now c.view-item.result _ c.args.names.now.items
    c.loop-rest.names.items c.put_parts.new.names.items c.in-len1-up.len_at_least c.view-item.is
    c.loop-rest.invariant c.in_ok-put_parts.ensures
