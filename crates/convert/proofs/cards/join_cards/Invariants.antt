use Rattle.std.proofs.Common.{◌≡◌, ◌++◌, length, map}
use Rattle.std.specs.List.{join_with_byte}
use Rattle.convert.specs.Cards.{card}
use Rattle.convert.proofs.cards.join_cards.Given as goal

abbrev pub invariant-loop-rest : goal.invariant-loop-rest
invariant-loop-rest l =
    l.text.items ++ join_with_byte 10 (map card (map (λ line. line.now) l.rest))
    ≡ join_with_byte 10 (map card (map (λ line. line.now) l.lines))

abbrev pub decreases-loop-rest : goal.decreases-loop-rest
decreases-loop-rest l = length l.rest
