use Rattle.host.proofs.{Prelude.{◌≡◌, length, map, KeepsFiles}, FilesRead.{ReadSoFar}}
use Rattle.host.proofs.reading.read_files.Given as goal

-- the files are as they were, no call failed, and what was read is what the names before those that are left
-- have
abbrev pub invariant-loop-rest : goal.invariant-loop-rest
invariant-loop-rest g l = record {
  kept : KeepsFiles (g.F.Files.files l.initial.files) (g.F.Files.files l.files);
  count : g.F.Files.failures l.files ≡ g.F.Files.failures l.initial.files;
  made : ReadSoFar (g.F.Files.files l.initial.files) (map (λ n. n.now) l.initial.rest)
      (map (λ n. n.now) l.rest) (map (λ t. t.items) l.texts.items);
}

abbrev pub decreases-loop-rest : goal.decreases-loop-rest
decreases-loop-rest g l = length l.rest
