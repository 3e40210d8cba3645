use Rattle.names.proofs.Prelude.{◌∙◌, ap, length, arith}
use Rattle.names.proofs.Numbering.{numbered_from_statement, count_from_statement}
use Rattle.names.proofs.scopes.number_statements.Goals as goal

pub loop-statement-preserved : goal.loop-statement-preserved
loop-statement-preserved c =
    let numbered = c.in_ok-number.ensures.ok in
    let step =
    numbered_from_statement c.args.statements.now c.loop-statement.statement-index c.statement-item.result
    c.loop-statement.number c.loop-statement.names c.loop-statement-test.true c.statement-item.is in
    let count =
    count_from_statement c.args.statements.now c.loop-statement.statement-index c.statement-item.result
    c.loop-statement-test.true c.statement-item.is in
    record {
      entries =
          rw (numbered.entries, numbered.count, c.as_slice.ensures.value)
          (step ∙ c.loop-statement.invariant.entries);
      count = omega
          (arith, numbered.count, count, c.as_slice.ensures.len, c.loop-statement.invariant.count, ap length c.as_slice.ensures.value);
    }
