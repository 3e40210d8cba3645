-- The numbers of labels.
use Rattle.names.proofs.Prelude.{◌≡◌, ℕ, ◌+◌, List, [], ◌∷◌, ◌++◌, ◌<◌, length, drop, get_or, ap, sym, ◌∙◌, arith, length-append, bytes_eq, Identifier, Statement, statement_trees, Names, numbered_from, labels_of}
use Rattle.indexmap.specs.IndexMap.{insert_entry}
use Rattle.names.specs.declared.entity.Entity.TheVariants.{Label}
use Rattle.names.proofs.Lists.{statements_from}

-- labels after others
pub numbered_append : (first : ℕ) (labels others : List Identifier) (names : Names)
    → numbered_from first (labels ++ others) names
    ≡ numbered_from (first + length labels) others (numbered_from first labels names)
numbered_append first [] others names = ap (λ number. numbered_from number others names) (omega arith)
numbered_append first (label ∷ labels) others names =
    let inserted : Names = insert_entry bytes_eq names label.name (Label first) in
    numbered_append (first + 1) labels others inserted
    ∙ ap (λ number. numbered_from number others (numbered_from (first + 1) labels inserted)) (omega arith)

-- the labels of one statement after another
pub numbered_from_statement : (statements : List Statement) (i : ℕ) (statement : Statement) (number : ℕ)
    (names : Names) → i < length statements → statement ≡ get_or statements i statement
    → numbered_from (number + length statement.labels.items)
    (labels_of (statement_trees (drop (i + 1) statements)))
    (numbered_from number statement.labels.items names)
    ≡ numbered_from number (labels_of (statement_trees (drop i statements))) names
numbered_from_statement statements i statement number names within is =
    sym (ap (λ trees. numbered_from number (labels_of trees) names)
    (statements_from statements i statement within is)
    ∙ numbered_append number statement.labels.items
    (labels_of (statement_trees (drop (i + 1) statements))) names)

pub count_from_statement : (statements : List Statement) (i : ℕ) (statement : Statement)
    → i < length statements → statement ≡ get_or statements i statement
    → length (labels_of (statement_trees (drop i statements)))
    ≡ length statement.labels.items + length (labels_of (statement_trees (drop (i + 1) statements)))
count_from_statement statements i statement within is =
    ap (λ trees. length (labels_of trees)) (statements_from statements i statement within is)
    ∙ length-append statement.labels.items (labels_of (statement_trees (drop (i + 1) statements)))
