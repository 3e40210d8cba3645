use Rattle.commands.proofs.Prelude.{◌≡◌, ◌++◌, length, bytes_written}
use Rattle.commands.proofs.port_outputs.bytes_to.Given as goal

-- what was made, and then the bytes of the events that are left, are all
abbrev pub invariant-loop-rest : goal.invariant-loop-rest
invariant-loop-rest l = l.bytes.items ++ bytes_written l.port l.rest ≡ bytes_written l.port l.initial.rest

abbrev pub decreases-loop-rest : goal.decreases-loop-rest
decreases-loop-rest l = length l.rest
