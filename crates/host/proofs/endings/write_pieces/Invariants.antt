use Rattle.host.proofs.{Prelude.{length}, LinesPrinted.{Sent, joined}}
use Rattle.host.proofs.endings.write_pieces.Given as goal

-- what was written, with a beginning of what is left, is a beginning of all
abbrev pub invariant-loop-rest : goal.invariant-loop-rest
invariant-loop-rest g l =
    Sent (g.E.Write.contents l.initial.err) (g.E.Write.contents l.err) (joined l.initial.rest) (joined l.rest)

abbrev pub decreases-loop-rest : goal.decreases-loop-rest
decreases-loop-rest g l = length l.rest
