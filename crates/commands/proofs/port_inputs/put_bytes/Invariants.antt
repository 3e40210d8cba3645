use Rattle.commands.proofs.Prelude.{◌≡◌, ◌++◌, length, port_file_in, bytes_of_file}
use Rattle.commands.proofs.port_inputs.put_bytes.Given as goal

-- what was added, and then the bytes that are left, are all
abbrev pub invariant-loop-rest : goal.invariant-loop-rest
invariant-loop-rest l =
    l.input.items ++ bytes_of_file (port_file_in l.file, l.rest)
    ≡ l.initial.input.items ++ bytes_of_file (port_file_in l.file, l.initial.rest)

abbrev pub decreases-loop-rest : goal.decreases-loop-rest
decreases-loop-rest l = length l.rest
