use Rattle.object_commands.proofs.{Prelude.{length, map, symbol_view}, Listings.{ListedSoFar}}
use Rattle.object_commands.proofs.listing.put_piece.Given as goal

abbrev pub invariant-loop-rest : goal.invariant-loop-rest
invariant-loop-rest l =
    ListedSoFar (map symbol_view l.symbols) l.code l.piece.start l.piece.bytes l.initial.lines.items
    l.lines.items l.address l.rest

abbrev pub decreases-loop-rest : goal.decreases-loop-rest
decreases-loop-rest l = length l.rest
