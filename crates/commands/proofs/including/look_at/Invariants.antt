use Rattle.commands.proofs.{Prelude.{◌≡◌, length, map, KeepsFiles}, Included.{LooksOn}}
use Rattle.commands.proofs.including.look_at.Given as goal

-- the files are as they were, no call failed, and there is no file of the names before those that are left
abbrev pub invariant-loop-rest : goal.invariant-loop-rest
invariant-loop-rest g l = record {
  kept : KeepsFiles (g.F.Files.files l.initial.files) (g.F.Files.files l.files);
  count : g.F.Files.failures l.files ≡ g.F.Files.failures l.initial.files;
  on : LooksOn (g.F.Files.files l.initial.files) (map (λ name. name.items) l.initial.rest) (map (λ name. name.items) l.rest);
}

abbrev pub decreases-loop-rest : goal.decreases-loop-rest
decreases-loop-rest g l = length l.rest
