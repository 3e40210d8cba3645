-- Each part of an expression or a statement has a lower number than the whole, and the items of a list are in
-- the table. The walk over a body tests this at each step.
use Rattle.treecode.proofs.Prelude.{◌≡◌, ℕ, zero, suc, ◌+◌, ◌<◌, Bool, List, length, Option, Some, None, slice_get, cond, sym, ap, ◌∙◌, subst, arith, option_and_then, lt-ltb, same_Some, TypedExpression, TypedElse, TypedList, TypedProcedure, TypedStatement, TypedStatements, Storage, Expression, Range, TreeProcedure, Statement, StatementNumber, HasBody, IsExpression, IsNode, IsStatement, IsStatementNode, IsStatementForm, IsIf, IsDo, IsLoop, IsCase, IsElse, IsNoElse, IsSomeElse, AreStatements, AreNoStatements, AreMoreStatements, IsList, IsListOf, Nodes, item_of}
use Rattle.treecode.specs.declared.statement.Statement.TheVariants as statements
pub use Rattle.treecode.specs.internal.Rising.{PartsAreBelow, ReferenceIsBelow, SubscriptIsBelow, TargetIsBelow}
use Rattle.treecode.proofs.AddedExpressions.{parts_below}

-- each of the statements of a range is in the table of lists, and has a number below a bound
abbrev pub ItemsAreBelow : Nodes → (bound : ℕ) → Range → Type 0
ItemsAreBelow nodes bound range =
    (index : ℕ) → index < range.count
    → (number : StatementNumber) × (item_of nodes.lists range index ≡ Some number) × (number.index < bound)

abbrev pub ElseIsBelow : (bound : ℕ) → Option StatementNumber → Type 0
ElseIsBelow bound None = Unit {0}
ElseIsBelow bound (Some number) = number.index < bound

-- the statements in a statement have numbers below a bound
abbrev pub StatementsAreBelow : Nodes → (bound : ℕ) → Statement → Type 0
StatementsAreBelow nodes bound (statements.If condition body otherwise) =
    (body.index < bound) × ElseIsBelow bound otherwise
StatementsAreBelow nodes bound (statements.Do range) = ItemsAreBelow nodes bound range
StatementsAreBelow nodes bound (statements.Loop head range) = ItemsAreBelow nodes bound range
StatementsAreBelow nodes bound (statements.Case choice range) = ItemsAreBelow nodes bound range
StatementsAreBelow nodes bound statement = Unit {0}

module _ {nodes : Nodes} {storage : Storage} {labels : List ℕ} where
  statement_below : {bound number : ℕ} {tree : TypedStatement}
      → IsStatement nodes storage labels bound number tree → number < bound
  statement_below (IsStatementNode below at form) = below

  else_below : {bound : ℕ} {otherwise : Option StatementNumber} {tree : TypedElse}
      → IsElse nodes storage labels bound otherwise tree → ElseIsBelow bound otherwise
  else_below IsNoElse = tt
  else_below (IsSomeElse is) = statement_below is

  found_below : {bound first count : ℕ} {trees : TypedStatements}
      → AreStatements nodes storage labels bound first count trees
      → (index : ℕ) → index < count
      → (number : StatementNumber) × (slice_get nodes.lists (first + index) ≡ Some number)
      × (number.index < bound)
  found_below AreNoStatements index less = absurd (omega arith)
  found_below (AreMoreStatements {first = first} {number = number} at is others) zero less = (
    number,
    subst (λ (place : ℕ). slice_get nodes.lists place ≡ Some number) (omega arith) at,
    statement_below is,
  )
  found_below (AreMoreStatements {first = first} at is others) (suc index) less =
      let found : _ = found_below others index (omega arith) in (
        found.0,
        subst (λ (place : ℕ). slice_get nodes.lists place ≡ Some found.0) (omega arith) found.1,
        found.2,
      )

  -- the items of a list that is in tree code
  pub items_below : {bound : ℕ} {range : Range} {trees : TypedStatements}
      → AreStatements nodes storage labels bound range.first range.count trees
      → ItemsAreBelow nodes bound range
  items_below {range = range} are index less =
      let found : _ = found_below are index less in (
        found.0,
        ap (λ (within : Bool). option_and_then (slice_get nodes.lists)
            (cond within (Some (range.first + index)) None))
            (lt-ltb index range.count less)
            ∙ found.1,
        found.2,
      )

  pub list_below : {bound : ℕ} {range : Range} {tree : TypedList}
      → IsList nodes storage labels bound range tree → ItemsAreBelow nodes bound range
  list_below (IsListOf are) = items_below are

  -- the statements in a statement that is in tree code
  form_below : {bound : ℕ} {statement : Statement} {tree : TypedStatement}
      → IsStatementForm nodes storage labels bound statement tree → StatementsAreBelow nodes bound statement
  form_below (IsIf condition body otherwise) = (statement_below body, else_below otherwise)
  form_below (IsDo list) = list_below list
  form_below (IsLoop head list) = list_below list
  form_below (IsCase choice are) = items_below are
  form_below form = tt

  -- the statement with this number in tree code contains only statements with lower numbers
  pub statements_below : {bound number : ℕ} {tree : TypedStatement} (statement : Statement)
      → IsStatement nodes storage labels bound number tree
      → slice_get nodes.statements number ≡ Some statement
      → StatementsAreBelow nodes number statement
  statements_below {number = number} statement (IsStatementNode {statement = own} below at form) found =
      subst (StatementsAreBelow nodes number) (same_Some own statement (sym at ∙ found)) (form_below form)

-- the expression with this number in tree code has only parts with lower numbers
pub expressions_below : {nodes : Nodes} {storage : Storage} {bound number : ℕ} {tree : TypedExpression}
    (expression : Expression)
    → IsExpression nodes storage bound number tree
    → slice_get nodes.expressions number ≡ Some expression
    → PartsAreBelow nodes number expression.form
expressions_below {nodes} {number = number} expression
    (IsNode {expression = own} below at scalar form) found =
    subst (λ (one : Expression). PartsAreBelow nodes number one.form)
    (same_Some own expression (sym at ∙ found))
    (parts_below form)

-- the statements of a body are in the table
pub body_below : {nodes : Nodes} {storage : Storage} {procedure : TreeProcedure} {tree : TypedProcedure}
    → HasBody nodes storage procedure tree
    → ItemsAreBelow nodes (length nodes.statements) procedure.body
body_below has_body = list_below has_body.body
