use Rattle.std.proofs.lemmas.List.{get_or-replicate}
use Rattle.ports.proofs.script.no_reads.Goals as goal

pub returns : goal.returns
returns c port within = get_or-replicate _ _ _ _ within
