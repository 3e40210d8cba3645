use Rattle.std.proofs.Common.{◌≡◌, ◌≤◌, length}
use Rattle.convert.specs.Writing.{words_of_part}
use Rattle.convert.proofs.writing.words_of_part.Given as goal

abbrev pub invariant-loop-parts : goal.invariant-loop-parts
invariant-loop-parts l = record {
  same : words_of_part l.parts l.number l.first l.rest
      ≡ words_of_part l.initial.parts l.initial.number l.first l.words;
  within : length l.rest ≤ length l.words;
}

abbrev pub decreases-loop-parts : goal.decreases-loop-parts
decreases-loop-parts l = length l.parts
