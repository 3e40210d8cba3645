use Rattle.command_line.proofs.Prelude.{◌≡◌, ◌≤◌, length, map, texts, port_file_in, port_files_after, port_files_read}
use Rattle.command_line.proofs.port_files.port_files.Given as goal

-- these files, and then those that the texts that are left write, are those that all write
abbrev pub invariant-loop-rest : goal.invariant-loop-rest
invariant-loop-rest l = record {
  fits : length l.rest ≤ length l.initial.rest;
  read : port_files_after l.input (map port_file_in l.files.items) (texts l.rest)
      ≡ port_files_read l.input (texts l.initial.rest);
}

abbrev pub decreases-loop-rest : goal.decreases-loop-rest
decreases-loop-rest l = length l.rest
