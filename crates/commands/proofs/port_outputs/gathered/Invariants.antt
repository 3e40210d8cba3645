use Rattle.commands.proofs.Prelude.{◌≡◌, ◌++◌, length, map, port_file_in, outputs_for}
use Rattle.commands.proofs.port_outputs.gathered.Given as goal

-- what was made, and then the bytes of the files that are left, are all
abbrev pub invariant-loop-rest : goal.invariant-loop-rest
invariant-loop-rest l =
    map (λ output. output.items) l.outputs.items ++ outputs_for (map port_file_in l.rest) l.events
    ≡ outputs_for (map port_file_in l.initial.rest) l.events

abbrev pub decreases-loop-rest : goal.decreases-loop-rest
decreases-loop-rest l = length l.rest
