use Rattle.commands.proofs.Prelude.{Contains}
use Rattle.commands.proofs.programs.standing.part_at.Given as goal

abbrev pub invariant-loop-mark : goal.invariant-loop-mark
invariant-loop-mark l = Contains l.marks l.last
