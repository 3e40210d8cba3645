use Rattle.object_commands.proofs.Listings.{part_added}
use Rattle.object_commands.proofs.listing.put_next.Goals as goal

pub returns-clause-lines : goal.returns-clause-lines
returns-clause-lines c =
    part_added _ c.args.address c.args.bytes.now c.args.lines.now.items c.put_labels.new.lines.items _
    c.shown_at-shown.result _ c.in_ok-put_labels.ensures
    c.in_ok-put_shown.ensures c.shown_at-shown.ensures.shown
