use Rattle.std.proofs.Common.{◌≡◌, ◌++◌, length, map}
use Rattle.convert.specs.Sources.{placed}
use Rattle.convert.proofs.source.add_notes.Given as goal

abbrev pub invariant-loop-rest : goal.invariant-loop-rest
invariant-loop-rest l =
    l.all.items ++ map (placed l.places) l.rest ≡ l.initial.all.items ++ map (placed l.places) l.notes

abbrev pub decreases-loop-rest : goal.decreases-loop-rest
decreases-loop-rest l = length l.rest
