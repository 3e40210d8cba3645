use Rattle.names.proofs.Prelude.{◌≡◌, drop, declaration_trees, statement_trees, see_cases, see_declarations, see_statements, gives}
use Rattle.names.proofs.binder.Binder.+walk.Given as goal

abbrev pub invariant-statements-loop-statement : goal.invariant-statements-loop-statement
invariant-statements-loop-statement l =
    gives (see_statements (statement_trees (drop l.statement-index l.statements))) l.self
    ≡ gives (see_statements (statement_trees l.statements)) l.initial.self

abbrev pub invariant-cases-loop-statement : goal.invariant-cases-loop-statement
invariant-cases-loop-statement l =
    gives (see_cases (statement_trees (drop l.statement-index l.statements))) l.self
    ≡ gives (see_cases (statement_trees l.statements)) l.initial.self

abbrev pub invariant-declarations-loop-declaration : goal.invariant-declarations-loop-declaration
invariant-declarations-loop-declaration l =
    gives (see_declarations (declaration_trees (drop l.declaration-index l.declarations))) l.self
    ≡ gives (see_declarations (declaration_trees l.declarations)) l.initial.self
