use Rattle.placing.proofs.Prelude.{◌≡◌, ◌+◌, claim_between}
use Rattle.placing.proofs.claims.claim_range.Given as goal

abbrev pub invariant-loop-address : goal.invariant-loop-address
invariant-loop-address l =
    claim_between l.address l.end l.table
    ≡ claim_between l.fn.range.start (l.fn.range.start + l.fn.range.len) l.fn.table
