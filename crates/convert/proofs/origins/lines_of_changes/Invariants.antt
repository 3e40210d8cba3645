use Rattle.std.proofs.Common.{◌≡◌, ◌++◌, ◌∷◌, length}
use Rattle.convert.specs.Edits.{changes_of}
use Rattle.convert.specs.Origins.{line_at, lines_after}
use Rattle.convert.proofs.origins.lines_of_changes.Given as goal

abbrev pub invariant-loop-rest : goal.invariant-loop-rest
invariant-loop-rest l = record {
  marked : l.mark.line ≡ line_at l.source l.mark.place;
  added : l.lines.items ++ lines_after l.mark.place l.source (changes_of l.rest)
      ≡ 1 ∷ lines_after 0 l.source (changes_of l.edits);
}

abbrev pub decreases-loop-rest : goal.decreases-loop-rest
decreases-loop-rest l = length l.rest
