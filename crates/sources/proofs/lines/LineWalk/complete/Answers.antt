use Rattle.sources.proofs.LinesCounted.{counts_set}
use Rattle.sources.proofs.lines.LineWalk.complete.Goals as goal

pub returns-in-Some : goal.returns-in-Some
returns-in-Some c = counts_set c.args.self.now.procedures.items c.args.number _
