use Rattle.typed_trees.proofs.Prelude.{◌≡◌, drop, max, min, height_of_statements, statements_view}
use Rattle.typed_trees.proofs.charge.+statement.Given as goal

abbrev pub invariant-statements_height-loop-statement : goal.invariant-statements_height-loop-statement
invariant-statements_height-loop-statement l =
    max l.height
    (min (height_of_statements (statements_view (drop l.statement-index l.statements))) 4294967295)
    ≡ min (height_of_statements (statements_view l.statements)) 4294967295
