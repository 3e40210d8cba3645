use Rattle.command_line.proofs.Prelude.{◌≡◌, length, bytes_from, in_front}
use Rattle.command_line.proofs.start_memory.add_bytes.Given as goal

abbrev pub invariant-loop-rest : goal.invariant-loop-rest
invariant-loop-rest l =
    in_front l.memory.items (bytes_from l.next l.rest)
    ≡ in_front l.initial.memory.items (bytes_from l.initial.next l.initial.rest)

abbrev pub decreases-loop-rest : goal.decreases-loop-rest
decreases-loop-rest l = length l.rest
