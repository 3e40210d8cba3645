use Rattle.command_line.proofs.Prelude.{◌≡◌, length, has_input}
use Rattle.command_line.proofs.port_files.is_given.Given as goal

abbrev pub invariant-loop-rest : goal.invariant-loop-rest
invariant-loop-rest l = has_input l.rest l.port ≡ has_input l.initial.rest l.port

abbrev pub decreases-loop-rest : goal.decreases-loop-rest
decreases-loop-rest l = length l.rest
