use Rattle.std.proofs.Common.{◌≡◌, ◌≤◌, ◌++◌, length}
use Rattle.convert.specs.Converting.{notes_after}
use Rattle.convert.proofs.converting.note_all.Given as goal

abbrev pub invariant-loop-rest : goal.invariant-loop-rest
invariant-loop-rest l = record {
  noted :
      l.notes.items ++ notes_after l.rules l.passed l.rest
      ≡ l.initial.notes.items ++ notes_after l.rules 0 l.words;
  short : length l.rest ≤ 4294967296;
}

abbrev pub decreases-loop-rest : goal.decreases-loop-rest
decreases-loop-rest l = length l.rest
