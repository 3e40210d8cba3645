use Rattle.std.proofs.Common.{◌≡◌, ◌+◌, ◌++◌, drop, length}
use Rattle.trees.specs.internal.Views.{declaration_trees, statement_trees}
use Rattle.typing.specs.internal.Untyped.{bodies_in, bodies_in_statements}
use Rattle.sources.specs.internal.Counted.{count_of_statements, counted, counts_of}
use Rattle.sources.proofs.lines.LineWalk.+walk.Given as goal

abbrev pub invariant-declarations-loop-declaration : goal.invariant-declarations-loop-declaration
invariant-declarations-loop-declaration l =
    counts_of l.self ++ counted (bodies_in (declaration_trees (drop l.declaration-index l.declarations)))
    ≡ counts_of l.fn.self ++ counted (bodies_in (declaration_trees l.declarations))

abbrev pub invariant-statements-loop-statement : goal.invariant-statements-loop-statement
invariant-statements-loop-statement l =
    (counts_of l.self
    ++ counted (bodies_in_statements (statement_trees (drop l.statement-index l.statements)))
    ≡ counts_of l.fn.self ++ counted (bodies_in_statements (statement_trees l.statements)))
    × (length l.lines.items + count_of_statements (statement_trees (drop l.statement-index l.statements))
    ≡ length l.fn.lines.items + count_of_statements (statement_trees l.statements))
