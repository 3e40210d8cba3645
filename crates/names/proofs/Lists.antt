-- What is left of lists of trees, item by item.
use Rattle.names.proofs.Prelude.{◌≡◌, ℕ, ◌+◌, ◌<◌, List, length, drop, get_or, Statement, MoreStatements, statement_tree, statement_trees, drop_item}

pub statements_from : (statements : List Statement) (i : ℕ) (statement : Statement) → i < length statements
    → statement ≡ get_or statements i statement
    → statement_trees (drop i statements)
    ≡ MoreStatements (statement_tree statement) (statement_trees (drop (i + 1) statements))
statements_from statements i statement within is = drop_item statement_trees statements i statement within is
