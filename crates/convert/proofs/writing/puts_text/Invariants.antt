use Rattle.std.proofs.Common.{◌≡◌, ◌++◌, length}
use Rattle.convert.specs.Writing.{puts_text}
use Rattle.convert.proofs.writing.puts_text.Given as goal

abbrev pub invariant-loop-rest : goal.invariant-loop-rest
invariant-loop-rest l =
    l.text.items ++ puts_text l.source l.parts l.first l.words l.rest
    ≡ puts_text l.source l.parts l.first l.words l.puts

abbrev pub decreases-loop-rest : goal.decreases-loop-rest
decreases-loop-rest l = length l.rest
