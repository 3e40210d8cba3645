use Rattle.command_line.proofs.Prelude.{◌≡◌, length, bytes_for, in_front}
use Rattle.command_line.proofs.values.add_bytes.Given as goal

abbrev pub invariant-loop-rest : goal.invariant-loop-rest
invariant-loop-rest l =
    in_front l.input.items (bytes_for l.port l.rest)
    ≡ in_front l.initial.input.items (bytes_for l.port l.initial.rest)

abbrev pub decreases-loop-rest : goal.decreases-loop-rest
decreases-loop-rest l = length l.rest
