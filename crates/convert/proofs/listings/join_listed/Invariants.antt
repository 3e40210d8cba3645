use Rattle.std.proofs.Common.{◌≡◌, ◌++◌, length, map}
use Rattle.convert.specs.Listings.{listed_text}
use Rattle.convert.proofs.listings.join_listed.Given as goal

abbrev pub invariant-loop-rest : goal.invariant-loop-rest
invariant-loop-rest l =
    l.text.items ++ listed_text (map (λ line. line.now) l.rest) ≡ listed_text (map (λ line. line.now) l.lines)

abbrev pub decreases-loop-rest : goal.decreases-loop-rest
decreases-loop-rest l = length l.rest
