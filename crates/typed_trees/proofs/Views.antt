-- The views of lists that hold trees of their own type.
use Rattle.typed_trees.proofs.Prelude.{◌≡◌, ap, refl, Row_of-TypedExpression, end_of-TypedExpression, more_of-TypedExpression, items-the_row-TypedExpression, Row_of-TypedStatement, end_of-TypedStatement, more_of-TypedStatement, items-the_row-TypedStatement, MoreArguments, MoreStatements, expression_view, argument_rows, arguments_view, statement_view, statement_rows, statements_view}

pub argument_rows_are :
    (n : _) (row : Row_of-TypedExpression n)
    → argument_rows row ≡ arguments_view (items-the_row-TypedExpression n row)
argument_rows_are n end_of-TypedExpression = refl
argument_rows_are n (more_of-TypedExpression first rest) =
    ap (MoreArguments (expression_view first)) (argument_rows_are _ rest)

pub statement_rows_are :
    (n : _) (row : Row_of-TypedStatement n)
    → statement_rows row ≡ statements_view (items-the_row-TypedStatement n row)
statement_rows_are n end_of-TypedStatement = refl
statement_rows_are n (more_of-TypedStatement first rest) =
    ap (MoreStatements (statement_view first)) (statement_rows_are _ rest)
