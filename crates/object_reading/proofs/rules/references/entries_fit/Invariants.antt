use Rattle.object_reading.proofs.Prelude.{◌≡◌, length, entries_fit}
use Rattle.object_reading.proofs.rules.references.entries_fit.Given as goal

abbrev pub invariant-loop-fix : goal.invariant-loop-fix
invariant-loop-fix l =
    entries_fit l.external_count l.target l.kind l.entries
    ≡ entries_fit l.external_count l.target l.kind l.initial.entries

abbrev pub decreases-loop-fix : goal.decreases-loop-fix
decreases-loop-fix l = length l.entries
