use Rattle.command_line.proofs.Prelude.{◌≡◌, length, map, has_name, port_file_in}
use Rattle.command_line.proofs.output_files.is_used.Given as goal

abbrev pub invariant-loop-rest : goal.invariant-loop-rest
invariant-loop-rest l =
    has_name (map port_file_in l.rest) l.name ≡ has_name (map port_file_in l.initial.rest) l.name

abbrev pub decreases-loop-rest : goal.decreases-loop-rest
decreases-loop-rest l = length l.rest
