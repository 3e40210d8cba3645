use Rattle.std.proofs.Common.{◌≡◌, ◌++◌, ◌+◌, length, map}
use Rattle.convert.specs.Assembly.{places_from}
use Rattle.convert.proofs.assembly.places_of.Given as goal

abbrev pub invariant-loop-rest : goal.invariant-loop-rest
invariant-loop-rest l = record {
  placed : l.places.items ++ places_from l.number (map (λ line. line.now) l.rest)
      ≡ places_from 1 (map (λ line. line.now) l.lines);
  count : l.number + length l.rest ≡ 1 + length l.lines;
}

abbrev pub decreases-loop-rest : goal.decreases-loop-rest
decreases-loop-rest l = length l.rest
