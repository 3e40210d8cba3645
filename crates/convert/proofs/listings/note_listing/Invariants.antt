use Rattle.std.proofs.Common.{◌≡◌, ◌++◌, ◌+◌, length, map}
use Rattle.convert.specs.Listings.{listing_notes_from}
use Rattle.convert.proofs.listings.note_listing.Given as goal

abbrev pub invariant-loop-rest : goal.invariant-loop-rest
invariant-loop-rest l = record {
  noted :
      l.notes.items ++ listing_notes_from l.advice l.number (map (λ line. line.now) l.rest)
      ≡ l.initial.notes.items ++ listing_notes_from l.advice 1 (map (λ line. line.now) l.lines);
  count : l.number + length l.rest ≡ 1 + length l.lines;
}

abbrev pub decreases-loop-rest : goal.decreases-loop-rest
decreases-loop-rest l = length l.rest
