use Rattle.std.proofs.Common.{◌≡◌, ◌+◌, length}
use Rattle.convert.specs.Matching.{length_of_parts}
use Rattle.convert.proofs.matching.length_of_parts.Given as goal

abbrev pub invariant-loop-parts : goal.invariant-loop-parts
invariant-loop-parts l = record {
  same : length_of_parts l.before l.parts l.first l.rest ≡ length_of_parts 0 l.initial.parts l.first l.words;
  within : l.before + length l.rest ≡ length l.words;
}

abbrev pub decreases-loop-parts : goal.decreases-loop-parts
decreases-loop-parts l = length l.parts
