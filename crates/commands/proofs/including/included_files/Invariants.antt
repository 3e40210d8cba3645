use Rattle.commands.proofs.Prelude.{◌≡◌, ◌-◌, length, KeepsFiles, convert_in, Looks}
use Rattle.commands.proofs.including.included_files.Given as goal

abbrev pub invariant-names : goal.invariant-names
invariant-names g l = record {
  kept : KeepsFiles (g.F.Files.files l.initial.files) (g.F.Files.files l.files);
  count : g.F.Files.failures l.files ≡ g.F.Files.failures l.initial.files;
  looked : Looks l.advice (convert_in l.order) (g.F.Files.files l.initial.files) l.before l.source l.entries.items;
}

abbrev pub decreases-names : goal.decreases-names
decreases-names g l = l.most - length l.entries.items
