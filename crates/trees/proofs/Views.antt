-- The views of lists that hold trees of their own type.
use Rattle.std.proofs.Common.{◌≡◌, ap, refl}
use Rattle.trees.specs.declared.expression.Reference.{Row_of-Expression, end_of-Expression, more_of-Expression, items-the_row-Expression}
use Rattle.trees.specs.declared.statement.Block.{Row_of-Declaration, end_of-Declaration, more_of-Declaration, items-the_row-Declaration, Row_of-Statement, end_of-Statement, more_of-Statement, items-the_row-Statement}
use Rattle.trees.specs.Trees.{MoreArguments, LabelledStatement, MoreStatements, MoreDeclarations}
use Rattle.trees.specs.internal.Views.{expression_tree, row_trees, argument_trees, kind_tree, statement_rows, statement_trees, declaration_tree, declaration_rows, declaration_trees}

pub row_trees_are : (n : _) (row : Row_of-Expression n)
    → row_trees row ≡ argument_trees (items-the_row-Expression n row)
row_trees_are n end_of-Expression = refl
row_trees_are n (more_of-Expression first rest) =
    ap (MoreArguments (expression_tree first)) (row_trees_are _ rest)

pub statement_rows_are : (n : _) (row : Row_of-Statement n)
    → statement_rows row ≡ statement_trees (items-the_row-Statement n row)
statement_rows_are n end_of-Statement = refl
statement_rows_are n (more_of-Statement labels kind rest) =
    ap (MoreStatements (LabelledStatement labels.items (kind_tree kind))) (statement_rows_are _ rest)

pub declaration_rows_are : (n : _) (row : Row_of-Declaration n)
    → declaration_rows row ≡ declaration_trees (items-the_row-Declaration n row)
declaration_rows_are n end_of-Declaration = refl
declaration_rows_are n (more_of-Declaration first rest) =
    ap (MoreDeclarations (declaration_tree first)) (declaration_rows_are _ rest)
