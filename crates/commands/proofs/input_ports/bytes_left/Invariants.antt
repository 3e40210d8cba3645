use Rattle.commands.proofs.{Prelude.{length}, PortReads.{CountedSoFar}}
use Rattle.commands.proofs.input_ports.bytes_left.Given as goal

-- the bytes that were counted, and then those that are left to be counted, are all
abbrev pub invariant-loop-rest : goal.invariant-loop-rest
invariant-loop-rest l = CountedSoFar l.initial.rest l.rest l.left

abbrev pub decreases-loop-rest : goal.decreases-loop-rest
decreases-loop-rest l = length l.rest
