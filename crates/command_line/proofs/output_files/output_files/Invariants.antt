use Rattle.command_line.proofs.Prelude.{◌≡◌, ◌≤◌, length, map, texts, output_files_after, output_files_read, port_file_in}
use Rattle.command_line.proofs.output_files.output_files.Given as goal

-- these files, and then those that the texts that are left write, are those that all write
abbrev pub invariant-loop-rest : goal.invariant-loop-rest
invariant-loop-rest l = record {
  fits : length l.rest ≤ length l.initial.rest;
  read : output_files_after (map port_file_in l.files.items) (texts l.rest)
      ≡ output_files_read (texts l.initial.rest);
}

abbrev pub decreases-loop-rest : goal.decreases-loop-rest
decreases-loop-rest l = length l.rest
