use Rattle.stack_compiler.proofs.Prelude.{◌≡◌, ℕ, ◌++◌, drop, statements_view, statements_code, opened, opening, site_view}
use Rattle.stack_compiler.specs.internal.Counted.{SoFar, numbered_statements}
use Rattle.stack_compiler.proofs.statements.+statement.Given as goal

abbrev pub invariant-emit_statements-loop-statement : goal.invariant-emit_statements-loop-statement
invariant-emit_statements-loop-statement l =
    (l.code.items ++ statements_code (site_view l.site) (statements_view (drop l.statement-index l.statements))
    ≡ l.fn.code.items ++ statements_code (site_view l.site) (statements_view l.statements))
    × ((procedures : ℕ) → SoFar procedures (numbered_statements (statements_view l.statements))
    (numbered_statements (statements_view (drop l.statement-index l.statements))) l.fn.marks l.marks)

abbrev pub invariant-open_cases-loop-entry : goal.invariant-open_cases-loop-entry
invariant-open_cases-loop-entry l =
    (opened (site_view l.site) l.entry (opening l.cases.items l.ends.items)
    (statements_view (drop l.entry l.statements))
    ≡ opened (site_view l.site) 0 (opening l.fn.cases.items l.fn.ends.items) (statements_view l.statements))
    × ((procedures : ℕ) → SoFar procedures (numbered_statements (statements_view l.statements))
    (numbered_statements (statements_view (drop l.entry l.statements))) l.fn.marks l.marks)
