use Rattle.commands.proofs.Prelude.{◌≡◌, ◌++◌, length, map, texts, file_names, port_file_in}
use Rattle.commands.proofs.port_inputs.names_of.Given as goal

-- what was made, and then the names of the files that are left, are all
abbrev pub invariant-loop-rest : goal.invariant-loop-rest
invariant-loop-rest l = texts l.names.items ++ file_names (map port_file_in l.rest) ≡ file_names (map port_file_in l.initial.rest)

abbrev pub decreases-loop-rest : goal.decreases-loop-rest
decreases-loop-rest l = length l.rest
