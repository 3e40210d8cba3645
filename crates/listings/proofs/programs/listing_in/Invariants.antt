use Rattle.listings.proofs.Prelude.{length, map, IsBegun, ListsViews, named_view}
use Rattle.listings.proofs.programs.listing_in.Given as goal

abbrev pub invariant-loop-rest : goal.invariant-loop-rest
invariant-loop-rest l =
    IsBegun (ListsViews (map named_view l.shared.names.now) l.shared.pieces.now) l.views l.rest
    l.initial.lines.items l.lines.items

abbrev pub decreases-loop-rest : goal.decreases-loop-rest
decreases-loop-rest l = length l.rest
