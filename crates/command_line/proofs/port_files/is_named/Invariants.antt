use Rattle.command_line.proofs.Prelude.{◌≡◌, length, map, has_file, port_file_in}
use Rattle.command_line.proofs.port_files.is_named.Given as goal

abbrev pub invariant-loop-rest : goal.invariant-loop-rest
invariant-loop-rest l =
    has_file (map port_file_in l.rest) l.port ≡ has_file (map port_file_in l.initial.rest) l.port

abbrev pub decreases-loop-rest : goal.decreases-loop-rest
decreases-loop-rest l = length l.rest
