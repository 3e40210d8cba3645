use Rattle.object_reading.proofs.Prelude.{◌≡◌, length, names_in, names_taken}
use Rattle.object_reading.proofs.rules.names.take_names.Given as goal

abbrev pub invariant-loop-entries : goal.invariant-loop-entries
invariant-loop-entries l =
    names_taken l.names (names_in l.list l.entries)
    ≡ names_taken l.initial.names (names_in l.list l.initial.entries)

abbrev pub decreases-loop-entries : goal.decreases-loop-entries
decreases-loop-entries l = length l.entries
