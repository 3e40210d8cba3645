-- The numbers in the typed trees of the code have the width of a word, since each is a `Word`.
use Rattle.typed_trees.proofs.Prelude.{List, [], ◌∷◌, Option, Some, None, map, option_map, AllByRecursion, All-from_recursion, TypedExpression, TypedTarget, TypedStatement, Row_of-TypedExpression, end_of-TypedExpression, more_of-TypedExpression, Row_of-TypedStatement, end_of-TypedStatement, more_of-TypedStatement, expression_view, subscript_view, target_view, argument_rows, arguments_view, head_view, statement_view, held_else_view, statement_rows, statements_view, procedure_view, module_view, NumbersFit, NumbersFitIfSome, NumbersFitIn, NumbersFitInArguments, NumbersFitInElse, NumbersFitInHead, NumbersFitInModule, NumbersFitInProcedure, NumbersFitInStatements, NumbersFitInSubscript, NumbersFitInTarget, NumbersFitInTargets}
use Rattle.typed_trees.specs.declared.expression.TypedExpression.TheVariants as expressions
use Rattle.typed_trees.specs.declared.expression.TypedSubscript.{TypedSubscript}
use Rattle.typed_trees.specs.declared.expression.TypedSubscript.TheVariants as subscripts
use Rattle.typed_trees.specs.declared.expression.TypedTarget.TheVariants as targets
use Rattle.typed_trees.specs.declared.module.Typed.{Typed}
use Rattle.typed_trees.specs.declared.module.TypedProcedure.{TypedProcedure}
use Rattle.typed_trees.specs.declared.statement.TypedHead.{TypedHead}
use Rattle.typed_trees.specs.declared.statement.TypedIteration.{TypedIteration}
use Rattle.typed_trees.specs.declared.statement.TypedStatement.{Held-TypedIf-otherwise, None' as NoElse', Some' as SomeElse'}
use Rattle.typed_trees.specs.declared.statement.TypedStatement.TheVariants as statements
use Rattle.typed_trees.specs.Numbers.{NumbersFitInIteration}
use Rattle.typed_trees.specs.Views.{iteration_view}
use Rattle.typed_trees.proofs.Heads.{head_views}

mutual
  numbers_in : (expression : TypedExpression) → NumbersFit (expression_view expression)
  numbers_in (expressions.Number scalar word origin) = word.fits
  numbers_in (expressions.Value' scalar p object subscript member offset member_subscript) =
      (in_subscript subscript, in_subscript member_subscript)
  numbers_in (expressions.Location' p object subscript member offset member_subscript) =
      (in_subscript subscript, in_subscript member_subscript)
  numbers_in (expressions.List list) = tt
  numbers_in (expressions.Conversion' scalar p inner) = numbers_in inner
  numbers_in (expressions.Assignment' p target q value) = (numbers_in value, in_target target)
  numbers_in (expressions.Unary' scalar operator p operand) = numbers_in operand
  numbers_in (expressions.Binary' operands operator p left q right) = (numbers_in left, numbers_in right)
  numbers_in (expressions.Call' procedure scalar shape values) = in_rows values
  numbers_in (expressions.Function' function p operand) = numbers_in operand
  numbers_in (expressions.Shift' scalar function p value q count) = (numbers_in value, numbers_in count)
  numbers_in (expressions.Input port) = tt

  in_subscript : (subscript : TypedSubscript) → NumbersFitInSubscript (subscript_view subscript)
  in_subscript subscripts.Absent = tt
  in_subscript (subscripts.Present' stride count p index) = numbers_in index

  in_target : (target : TypedTarget) → NumbersFitInTarget (target_view target)
  in_target (targets.Stored' from to object subscript member offset member_subscript) =
      (in_subscript subscript, in_subscript member_subscript)
  in_target (targets.Sent from port) = tt

  in_rows : {count : _} (rows : Row_of-TypedExpression count) → NumbersFitInArguments (argument_rows rows)
  in_rows end_of-TypedExpression = tt
  in_rows (more_of-TypedExpression first rest) = (numbers_in first, in_rows rest)

in_arguments : (arguments : List TypedExpression) → NumbersFitInArguments (arguments_view arguments)
in_arguments [] = tt
in_arguments (first ∷ rest) = (numbers_in first, in_arguments rest)

in_targets : (targets : List TypedTarget) → NumbersFitInTargets (map target_view targets)
in_targets [] = tt
in_targets (first ∷ rest) = (in_target first, in_targets rest)

in_step : (step : Option TypedExpression) → NumbersFitIfSome (option_map expression_view step)
in_step None = tt
in_step (Some step) = numbers_in step

in_iteration : (head : TypedIteration) → NumbersFitInIteration (iteration_view head)
in_iteration head = (numbers_in head.first, numbers_in head.last, in_step head.step)

in_head : (head : TypedHead) → NumbersFitInHead (head_view head)
in_head head = head_views NumbersFit NumbersFitInIteration numbers_in in_iteration head

mutual
  in_statement : (statement : TypedStatement) → NumbersFitIn (statement_view statement)
  in_statement (statements.Label label) = tt
  in_statement statements.Null = tt
  in_statement (statements.Assignment assignment) =
      (numbers_in assignment.value.value, in_targets assignment.value.targets.items)
  in_statement (statements.Call procedure values) = in_arguments values.items
  in_statement (statements.Move moved) =
      (numbers_in moved.value.count, numbers_in moved.value.source, numbers_in moved.value.destination)
  in_statement (statements.Return None) = tt
  in_statement (statements.Return (Some value)) = numbers_in value.value
  in_statement statements.Halt = tt
  in_statement (statements.Goto label) = tt
  in_statement (statements.If' p condition body otherwise) =
      (numbers_in condition, in_statement body, in_else otherwise)
  in_statement (statements.Do' p first places shape rows) = in_statement_rows rows
  in_statement (statements.Loop' p head first places shape rows) = (in_head head, in_statement_rows rows)
  in_statement (statements.Case' p choice shape rows) = (numbers_in choice, in_statement_rows rows)

  in_else : (otherwise : Held-TypedIf-otherwise) → NumbersFitInElse (held_else_view otherwise)
  in_else NoElse' = tt
  in_else (SomeElse' statement) = in_statement statement

  in_statement_rows : {count : _} (rows : Row_of-TypedStatement count)
      → NumbersFitInStatements (statement_rows rows)
  in_statement_rows end_of-TypedStatement = tt
  in_statement_rows (more_of-TypedStatement first rest) = (in_statement first, in_statement_rows rest)

in_statements : (statements : List TypedStatement) → NumbersFitInStatements (statements_view statements)
in_statements [] = tt
in_statements (first ∷ rest) = (in_statement first, in_statements rest)

in_procedures : (procedures : List TypedProcedure)
    → AllByRecursion NumbersFitInProcedure (map procedure_view procedures)
in_procedures [] = tt
in_procedures (first ∷ rest) = (in_statements first.body.statements.items, in_procedures rest)

-- the numbers of a typed module are words
pub numbers_fit : (typed : Typed) → NumbersFitInModule (module_view typed)
numbers_fit typed = record {
  procedures =
      All-from_recursion NumbersFitInProcedure (map procedure_view typed.procedures.items)
      (in_procedures typed.procedures.items);
  main = in_statements typed.main.body.statements.items;
}
