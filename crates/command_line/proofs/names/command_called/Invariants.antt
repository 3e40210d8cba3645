use Rattle.command_line.proofs.Prelude.{◌≡◌, length, command_in}
use Rattle.command_line.proofs.names.command_called.Given as goal

abbrev pub invariant-loop-rest : goal.invariant-loop-rest
invariant-loop-rest l = command_in l.rest l.word ≡ command_in l.initial.rest l.word

abbrev pub decreases-loop-rest : goal.decreases-loop-rest
decreases-loop-rest l = length l.rest
