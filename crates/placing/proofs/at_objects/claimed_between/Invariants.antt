use Rattle.placing.proofs.Prelude.{◌≡◌, claimed_between}
use Rattle.placing.proofs.at_objects.claimed_between.Given as goal

abbrev pub invariant-loop-address : goal.invariant-loop-address
invariant-loop-address l = claimed_between l.address l.end l.table ≡ claimed_between l.start l.end l.table
