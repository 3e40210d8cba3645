use Rattle.command_line.proofs.Prelude.{◌≡◌, map, length, page_among}
use Rattle.command_line.proofs.explained.page_among.Given as goal

abbrev pub invariant-loop-rest : goal.invariant-loop-rest
invariant-loop-rest l =
    page_among (map (λ text. text.now) l.rest) l.number
    ≡ page_among (map (λ text. text.now) l.initial.rest) l.number

abbrev pub decreases-loop-rest : goal.decreases-loop-rest
decreases-loop-rest l = length l.rest
