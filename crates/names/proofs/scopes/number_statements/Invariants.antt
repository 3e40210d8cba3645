use Rattle.names.proofs.Prelude.{◌≡◌, ◌+◌, length, drop, statement_trees, numbered_from, labels_of}
use Rattle.names.proofs.scopes.number_statements.Given as goal

abbrev pub invariant-loop-statement : goal.invariant-loop-statement
invariant-loop-statement l = record {
  entries : numbered_from l.number (labels_of (statement_trees (drop l.statement-index l.statements))) l.names
      ≡ numbered_from l.fn.first (labels_of (statement_trees l.statements)) l.initial.names;
  count : l.number + length (labels_of (statement_trees (drop l.statement-index l.statements)))
      ≡ l.fn.first + length (labels_of (statement_trees l.statements));
}
