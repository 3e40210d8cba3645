use Rattle.commands.proofs.{Prelude.{◌≡◌, length, map, file_names, port_file_in}, OutputFiles.{WrittenSoFar}}
use Rattle.commands.proofs.port_outputs.write_outputs.Given as goal

-- no call failed, and the files before those that are left were written
abbrev pub invariant-loop-rest : goal.invariant-loop-rest
invariant-loop-rest g l = record {
  count : g.F.Files.failures l.files ≡ g.F.Files.failures l.initial.files;
  written : WrittenSoFar (g.F.Files.files l.initial.files) (g.F.Files.files l.files)
      (file_names (map port_file_in l.initial.rest)) (map (λ output. output.items) l.initial.outputs)
      (file_names (map port_file_in l.rest)) (map (λ output. output.items) l.outputs);
}

abbrev pub decreases-loop-rest : goal.decreases-loop-rest
decreases-loop-rest g l = length l.rest
