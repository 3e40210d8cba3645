use Rattle.stack_need.proofs.Prelude.{◌≡◌, ◌++◌, drop, statements_view, calls_in_statements}
use Rattle.stack_need.proofs.calls.+statement.Given as goal

abbrev pub invariant-statements_calls-loop-statement : goal.invariant-statements_calls-loop-statement
invariant-statements_calls-loop-statement l =
    l.calls.items ++ calls_in_statements (statements_view (drop l.statement-index l.statements))
    ≡ l.fn.calls.items ++ calls_in_statements (statements_view l.statements)
