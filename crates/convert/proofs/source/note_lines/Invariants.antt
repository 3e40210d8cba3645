use Rattle.std.proofs.Common.{◌≡◌, ◌++◌, length}
use Rattle.convert.specs.Sources.{note_lines}
use Rattle.convert.proofs.source.note_lines.Given as goal

abbrev pub invariant-loop-rest : goal.invariant-loop-rest
invariant-loop-rest l =
    l.text.items ++ note_lines l.name l.entries l.rest ≡ note_lines l.name l.entries l.notes

abbrev pub decreases-loop-rest : goal.decreases-loop-rest
decreases-loop-rest l = length l.rest
