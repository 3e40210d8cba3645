-- The views of statements with lists, and the nodes added for them, step by step.
use Rattle.treecode.proofs.Prelude.{◌≡◌, Bool, true, Result, IfOk, sym, ap, ◌∙◌, subst, arith, the_lemmas, TypedExpression, TypedHead, TypedStatement, TypedStatements, TypedList, DoStatement, LoopStatement, CaseStatement, expression_view, head_view, list_view, statement_view, statements_view, Storage, ExpressionNumber, LoopHead, AddedList, AddedStatement, Walk, head_in, list_in, loop_ends, put_case, put_do, put_loop, put_statement, statement_in, statements_in, value_in}
use Rattle.typed_trees.specs.declared.statement.TypedStatement.{TypedStatement as Statement}
use Rattle.typed_trees.specs.declared.statement.TypedStatement.TheVariants as variants
use Rattle.typed_trees.proofs.Views.{statement_rows_are}
use Rattle.treecode.specs.declared.statement.Statement.TheVariants as statements

pub do_view : (p : _) → statement_view (variants.Do p) ≡ DoStatement (list_view p.value)
do_view p = grind (arith, the_lemmas, statement_rows_are)

pub loop_view : (p : _) → statement_view (variants.Loop p)
    ≡ LoopStatement (head_view p.value.head) (list_view p.value.body)
loop_view p = grind (arith, the_lemmas, statement_rows_are)

pub case_view : (p : _) → statement_view (variants.Case p)
    ≡ CaseStatement (expression_view p.value.choice) (statements_view p.value.body.items)
case_view p = grind (arith, the_lemmas, statement_rows_are)

module _ (storage : Storage) (walk : Walk) where
  do_made : (list : TypedList) (made : Walk) (range : AddedList)
      → list_in storage walk list ≡ (made, range)
      → statement_in storage walk (DoStatement list)
      ≡ put_statement made (statements.Do range.range) range.reaches_its_end
  do_made list made range e = ap put_do e

  loop_made : (tree : TypedHead) (list : TypedList) (given : Walk) (head : LoopHead) (made : Walk)
      (range : AddedList) (ends : Bool)
      → head_in storage walk tree ≡ (given, head) → list_in storage given list ≡ (made, range)
      → ends ≡ loop_ends made.nodes head
      → statement_in storage walk (LoopStatement tree list)
      ≡ put_statement made (statements.Loop head range.range) ends
  loop_made tree list given head made range ends e f is =
      ap (λ (one : Walk × LoopHead). put_loop one.1 (list_in storage one.0 list)) e
      ∙ ap (put_loop head) f
      ∙ ap (put_statement made (statements.Loop head range.range)) (sym is)

  case_made : (tree : TypedExpression) (trees : TypedStatements) (given : Walk) (choice : ExpressionNumber)
      (made : Walk) (range : AddedList)
      → value_in storage walk tree ≡ (given, choice) → statements_in storage given trees ≡ (made, range)
      → statement_in storage walk (CaseStatement tree trees)
      ≡ put_statement made (statements.Case choice range.range) true
  case_made tree trees given choice made range e f =
      ap (λ (one : Walk × ExpressionNumber). put_case one.1 (statements_in storage one.0 trees)) e
      ∙ ap (put_case choice) f

on_path : {E : Type 0} (result : Result AddedStatement E) (now : Walk) (one other : Walk × AddedStatement)
    → one ≡ other
    → IfOk result (λ added. other ≡ (now, added)) → IfOk result (λ added. one ≡ (now, added))
on_path result now one other e given =
    subst (λ (x : Walk × AddedStatement). IfOk result (λ added. x ≡ (now, added))) (sym e) given

abbrev Gives : {E : Type 0} → Result AddedStatement E → Walk → Walk × AddedStatement → Type 0
Gives result now made = IfOk result (λ added. made ≡ (now, added))

module _ {E : Type 0} (result : Result AddedStatement E) (storage : Storage) (walk now : Walk) where
  pub view_returned : (statement : Statement) (tree : TypedStatement)
      → statement_view statement ≡ tree
      → Gives result now (statement_in storage walk tree)
      → Gives result now (statement_in storage walk (statement_view statement))
  view_returned statement tree is given =
      subst (λ (one : TypedStatement). Gives result now (statement_in storage walk one)) (sym is) given

  pub do_returned : (statement : Statement) (list : TypedList) (made : Walk) (range : AddedList)
      → statement_view statement ≡ DoStatement list
      → list_in storage walk list ≡ (made, range)
      → Gives result now (put_statement made (statements.Do range.range) range.reaches_its_end)
      → Gives result now (statement_in storage walk (statement_view statement))
  do_returned statement list made range is e put =
      view_returned statement (DoStatement list) is
      (on_path result now (statement_in storage walk (DoStatement list))
      (put_statement made (statements.Do range.range) range.reaches_its_end)
      (do_made storage walk list made range e) put)

  pub loop_returned : (tree : TypedHead) (list : TypedList) (given : Walk) (head : LoopHead) (made : Walk)
      (range : AddedList) (ends : Bool)
      → head_in storage walk tree ≡ (given, head) → list_in storage given list ≡ (made, range)
      → ends ≡ loop_ends made.nodes head
      → Gives result now (put_statement made (statements.Loop head range.range) ends)
      → Gives result now (statement_in storage walk (LoopStatement tree list))
  loop_returned tree list given head made range ends e f is put =
      on_path result now (statement_in storage walk (LoopStatement tree list))
      (put_statement made (statements.Loop head range.range) ends)
      (loop_made storage walk tree list given head made range ends e f is) put

  pub case_returned : (tree : TypedExpression) (trees : TypedStatements) (given : Walk)
      (choice : ExpressionNumber)
      (made : Walk) (range : AddedList)
      → value_in storage walk tree ≡ (given, choice) → statements_in storage given trees ≡ (made, range)
      → Gives result now (put_statement made (statements.Case choice range.range) true)
      → Gives result now (statement_in storage walk (CaseStatement tree trees))
  case_returned tree trees given choice made range e f put =
      on_path result now (statement_in storage walk (CaseStatement tree trees))
      (put_statement made (statements.Case choice range.range) true)
      (case_made storage walk tree trees given choice made range e f) put
