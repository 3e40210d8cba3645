use Rattle.commands.proofs.Prelude.{◌≡◌, ◌++◌, length, map, zip, flat_map, port_file_in, bytes_of_file}
use Rattle.commands.proofs.port_inputs.put_files.Given as goal

-- what was added, and then what the files that are left add, is all
abbrev pub invariant-loop-files : goal.invariant-loop-files
invariant-loop-files l =
    l.input.items ++ flat_map bytes_of_file (zip (map port_file_in l.files) (map (λ text. text.items) l.texts))
    ≡ l.initial.input.items ++ flat_map bytes_of_file (zip (map port_file_in l.initial.files) (map (λ text. text.items) l.initial.texts))

abbrev pub decreases-loop-files : goal.decreases-loop-files
decreases-loop-files l = length l.files
