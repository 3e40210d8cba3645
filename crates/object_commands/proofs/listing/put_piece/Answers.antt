use Rattle.object_commands.proofs.Listings.{listed_next, listed_whole, rest_is}
use Rattle.object_commands.proofs.listing.put_piece.Goals as goal

pub loop-rest-preserved : goal.loop-rest-preserved
loop-rest-preserved c =
    listed_next _ _ _ _ _ _ _ _ _ c.in_ok-size.size _ c.loop-rest.invariant c.in-len1-up.len_at_least
    c.in_ok-size.ensures.there c.in_ok-size.ensures.size
    c.in_ok-size.ensures.lines (rest_is c.in_ok-size.size c.loop-rest.rest.now)

pub returns : goal.returns
returns c = listed_whole _ _ _ _ _ _ _ c.loop-rest.invariant c.in_default.len_below
