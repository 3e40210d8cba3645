use Rattle.commands.proofs.Prelude.{◌≡◌, ◌++◌, length, map, port_file_in, ports_of}
use Rattle.commands.proofs.port_inputs.put_ports.Given as goal

-- what was added, and then the ports of the files that are left, are all
abbrev pub invariant-loop-rest : goal.invariant-loop-rest
invariant-loop-rest l =
    l.quiet.items ++ ports_of (map port_file_in l.rest)
    ≡ l.initial.quiet.items ++ ports_of (map port_file_in l.initial.rest)

abbrev pub decreases-loop-rest : goal.decreases-loop-rest
decreases-loop-rest l = length l.rest
