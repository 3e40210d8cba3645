use Rattle.object_commands.proofs.Prelude.{◌≡◌, length, take, ◌-◌, ◌≤◌, ChangesFiles, with_file}
use Rattle.object_commands.proofs.writing_files.write_file.Given as goal

abbrev pub invariant-loop-sent : goal.invariant-loop-sent
invariant-loop-sent g l = record {
  fits : l.sent ≤ length l.bytes;
  count : g.F.Files.failures l.files ≡ g.F.Files.failures l.fn.files;
  written : ChangesFiles (g.F.Files.files l.fn.files) (g.F.Files.files l.files)
      (with_file l.name (take l.sent l.bytes));
}

abbrev pub decreases-loop-sent : goal.decreases-loop-sent
decreases-loop-sent g l = length l.bytes - l.sent
