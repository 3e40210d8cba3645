use Rattle.omf80.proofs.Prelude.{refl, arith}
use Rattle.omf80.proofs.Reading.{begins_as}
use Rattle.omf80.proofs.records.first_record.Goals as goal

pub returns-clause-record : goal.returns-clause-record
returns-clause-record c =
    begins_as c.args.bytes.now _ _ c.in_ok-kind.kind c.in_ok-kind.end (λ k. omega (arith, c.type_inv.bytes k))
    c.in_ok-kind.ensures.no_fault
    c.in_ok-kind.ensures.kind c.in_ok-kind.ensures.end c.in_ok-kind.ensures.within
    c.in_ok-kind.ensures.begins refl refl
