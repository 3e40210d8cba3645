-- Lists of statements as far as they are typed.
use Rattle.std.specs.Prelude.{ℕ, ◌+◌, List, [], ◌∷◌, ◌++◌, length}
use Rattle.trees.specs.declared.identifier.Identifier.{Identifier}
use Rattle.typed_trees.specs.declared.statement.TypedStatement.{TypedStatement as Statement}
use Rattle.typed_trees.specs.declared.statement.TypedStatement.TheVariants.{Label}
use Rattle.typed_trees.specs.TypedTrees.{TypedStatements, MoreStatements}
use Rattle.typed_trees.specs.Views.{statement_view}
use Rattle.types.specs.declared.lists.Listed.{Listed}

-- the number of the next label, where the labels stand, and the statements
pub record Listing : Type 0 where
  pub label : ℕ
  pub places : List ℕ
  pub statements : List Statement

abbrev pub listed_view : Listed → Listing
listed_view listed = record {
  label = listed.label;
  places = listed.places.items;
  statements = listed.statements.items;
}

-- labels, each as a statement of its own, and then a statement
abbrev pub with_label : Listing → Listing
with_label listing = record {
  label = listing.label + 1;
  places = listing.places ++ length listing.statements ∷ [];
  statements = listing.statements ++ Label listing.label ∷ [];
}

abbrev pub with_labels : List Identifier → Listing → Listing
with_labels [] listing = listing
with_labels (label ∷ others) listing = with_labels others (with_label listing)

abbrev pub and_statement : Statement → Listing → Listing
and_statement statement listing = record listing { statements = listing.statements ++ statement ∷ [] }

abbrev pub with_statement : List Identifier → Statement → Listing → Listing
with_statement labels statement listing = and_statement statement (with_labels labels listing)

-- statements before others
abbrev pub statements_before : List Statement → TypedStatements → TypedStatements
statements_before [] rest = rest
statements_before (first ∷ others) rest = MoreStatements (statement_view first) (statements_before others rest)

-- statements, with the state after them, after others
abbrev pub statements_after : {S : Type 0} → List Statement → TypedStatements × S → TypedStatements × S
statements_after made rest = (statements_before made rest.0, rest.1)
