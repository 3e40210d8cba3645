use Rattle.std.proofs.Common.{◌≡◌, ◌++◌, length}
use Rattle.convert.specs.Edits.{changes_of, joined, pieces, spliced}
use Rattle.convert.proofs.edit.splice.Given as goal

abbrev pub invariant-loop-rest : goal.invariant-loop-rest
invariant-loop-rest l =
    l.text.items ++ joined l.last (pieces l.place l.source (changes_of l.rest))
    ≡ spliced l.source (changes_of l.edits)

abbrev pub decreases-loop-rest : goal.decreases-loop-rest
decreases-loop-rest l = length l.rest
