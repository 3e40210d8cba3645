use Rattle.commands.proofs.Prelude.{◌≡◌, length, map, file_names, port_file_in, dash_bytes}
use Rattle.commands.proofs.port_outputs.bytes_for_output.Given as goal

-- the bytes among those that are left are those among all
abbrev pub invariant-loop-rest : goal.invariant-loop-rest
invariant-loop-rest l =
    dash_bytes (file_names (map port_file_in l.rest)) (map (λ output. output.items) l.outputs)
    ≡ dash_bytes (file_names (map port_file_in l.initial.rest)) (map (λ output. output.items) l.initial.outputs)

abbrev pub decreases-loop-rest : goal.decreases-loop-rest
decreases-loop-rest l = length l.rest
