-- A node that is added to its table, and the other tables.
use Rattle.treecode.proofs.Prelude.{◌≡◌, ℕ, Bool, Result, Ok, Err, OnOk, List, [], ◌∷◌, ◌++◌, length, sym, ap, ◌∙◌, ScalarType, Expression, ExpressionForm, ExpressionNumber, Range, Lowering, TreeModule, Nodes, nodes_of, expression_of, put_arguments, put_expression, Target, Statement, StatementNumber, Beside, beside, outside, walk_of, walk_with, Items, Walk, put_list, put_statement, put_targets}
use Rattle.treecode.proofs.SameTraits.{same_of_both}

-- a property that holds anyway holds if there is a value
pub holds_on_ok : {T E P : Type 0} (result : Result T E) → P → OnOk result P
holds_on_ok (Ok x) holds = holds
holds_on_ok (Err e) holds = tt

module _ (tree after : TreeModule) where
  pub expression_put : (scalar : ScalarType) (made : Nodes × ExpressionForm) (form : ExpressionForm)
      (number : ExpressionNumber)
      → made ≡ (nodes_of tree, form)
      → after ≡ record tree { expressions = after.expressions; numbers_are_words = after.numbers_are_words }
      → number.index ≡ length tree.expressions.items
      → after.expressions.items ≡ tree.expressions.items ++ expression_of (nodes_of tree) scalar form ∷ []
      → put_expression scalar made ≡ (nodes_of after, number)
  expression_put scalar made form number is kept at added =
      ap (put_expression scalar) is
      ∙ same_of_both (λ (nodes : Nodes) (index : ℕ). (nodes, record { index = index }))
      (ap (λ (all : List Expression). record (nodes_of tree) { expressions = all }) (sym added)
      ∙ sym (ap nodes_of kept))
      (sym at)

  pub arguments_put : (made : Nodes × List ExpressionNumber) (numbers : List ExpressionNumber) (range : Range)
      → made ≡ (nodes_of tree, numbers)
      → after ≡ record tree { arguments = after.arguments }
      → range.first ≡ length tree.arguments.items
      → range.count ≡ length numbers
      → after.arguments.items ≡ tree.arguments.items ++ numbers
      → put_arguments made ≡ (nodes_of after, range)
  arguments_put made numbers range is kept first count added =
      ap put_arguments is
      ∙ same_of_both (λ (nodes : Nodes) (range : Range). (nodes, range))
      (ap (λ (all : List ExpressionNumber). record (nodes_of tree) { arguments = all }) (sym added)
      ∙ sym (ap nodes_of kept))
      (same_of_both (λ (first count : ℕ). record { first = first; count = count }) (sym first) (sym count))

-- the parts beside the nodes are kept
pub beside_expressions : (lowering : Lowering) (after : TreeModule)
    → after
    ≡ record (lowering.tree) {
      expressions = after.expressions;
      numbers_are_words = after.numbers_are_words;
    }
    → beside (record lowering { tree = after }) ≡ beside lowering
unfolding beside
beside_expressions lowering after kept =
    ap (λ (tree : TreeModule). beside (record lowering { tree = tree })) kept

pub beside_arguments : (lowering : Lowering) (after : TreeModule)
    → after ≡ record (lowering.tree) { arguments = after.arguments }
    → beside (record lowering { tree = after }) ≡ beside lowering
unfolding beside
beside_arguments lowering after kept =
    ap (λ (tree : TreeModule). beside (record lowering { tree = tree })) kept

pub beside_statements : (lowering : Lowering) (after : TreeModule)
    → after ≡ record (lowering.tree) { statements = after.statements }
    → beside (record lowering { tree = after }) ≡ beside lowering
unfolding beside
beside_statements lowering after kept =
    ap (λ (tree : TreeModule). beside (record lowering { tree = tree })) kept

pub beside_targets : (lowering : Lowering) (after : TreeModule)
    → after ≡ record (lowering.tree) { targets = after.targets }
    → beside (record lowering { tree = after }) ≡ beside lowering
unfolding beside
beside_targets lowering after kept = ap (λ (tree : TreeModule). beside (record lowering { tree = tree })) kept

pub beside_lists : (lowering : Lowering) (after : TreeModule)
    → after ≡ record (lowering.tree) { lists = after.lists }
    → beside (record lowering { tree = after }) ≡ beside lowering
unfolding beside
beside_lists lowering after kept = ap (λ (tree : TreeModule). beside (record lowering { tree = tree })) kept

range_is : (range : Range) (first count : ℕ) → range.first ≡ first → range.count ≡ count
    → record { first = first; count = count } ≡ range
range_is range first count e f =
    same_of_both (λ (one two : ℕ). record { first = one; count = two }) (sym e) (sym f)

module _ (old : Lowering) (after : TreeModule) where
  pub statement_put : (statement : Statement) (ends : Bool) (number : StatementNumber)
      → after ≡ record (old.tree) { statements = after.statements }
      → number.index ≡ length old.tree.statements.items
      → after.statements.items ≡ old.tree.statements.items ++ statement ∷ []
      → put_statement (walk_of old) statement ends
      ≡ (walk_of (record old { tree = after }), record { number = number; reaches_its_end = ends })
  statement_put statement ends number kept at added =
      same_of_both
      (λ (walk : Walk) (index : ℕ). (walk, record { number = record { index = index }; reaches_its_end = ends }))
      (same_of_both walk_with
      (ap (λ (all : List Statement). record (nodes_of old.tree) { statements = all }) (sym added)
      ∙ sym (ap nodes_of kept))
      (sym (beside_statements old after kept)))
      (sym at)

  pub targets_put : (made : Walk × List Target) (targets : List Target) (range : Range)
      → made ≡ (walk_of old, targets)
      → after ≡ record (old.tree) { targets = after.targets }
      → range.first ≡ length old.tree.targets.items
      → range.count ≡ length targets
      → after.targets.items ≡ old.tree.targets.items ++ targets
      → put_targets made ≡ (walk_of (record old { tree = after }), range)
  targets_put made targets range is kept first count added =
      ap put_targets is
      ∙ same_of_both (λ (walk : Walk) (one : Range). (walk, one))
      (same_of_both walk_with
      (ap (λ (all : List Target). record (nodes_of old.tree) { targets = all }) (sym added)
      ∙ sym (ap nodes_of kept))
      (sym (beside_targets old after kept)))
      (range_is range _ _ first count)

  pub list_put : (made : Walk × Items) (numbers : List StatementNumber) (ends : Bool) (range : Range)
      → made ≡ (walk_of old, record { numbers = numbers; reaches_its_end = ends })
      → after ≡ record (old.tree) { lists = after.lists }
      → range.first ≡ length old.tree.lists.items
      → range.count ≡ length numbers
      → after.lists.items ≡ old.tree.lists.items ++ numbers
      → put_list made
      ≡ (walk_of (record old { tree = after }), record { range = range; reaches_its_end = ends })
  list_put made numbers ends range is kept first count added =
      ap put_list is
      ∙ same_of_both (λ (walk : Walk) (one : Range). (walk, record { range = one; reaches_its_end = ends }))
      (same_of_both walk_with
      (ap (λ (all : List StatementNumber). record (nodes_of old.tree) { lists = all }) (sym added)
      ∙ sym (ap nodes_of kept))
      (sym (beside_lists old after kept)))
      (range_is range _ _ first count)

-- the parts that no statement changes are kept
pub outside_statements : (lowering : Lowering) (after : TreeModule)
    → after ≡ record (lowering.tree) { statements = after.statements }
    → outside (record lowering { tree = after }) ≡ outside lowering
outside_statements lowering after kept =
    ap (λ (around : Beside). around.outside) (beside_statements lowering after kept)

pub outside_targets : (lowering : Lowering) (after : TreeModule)
    → after ≡ record (lowering.tree) { targets = after.targets }
    → outside (record lowering { tree = after }) ≡ outside lowering
outside_targets lowering after kept =
    ap (λ (around : Beside). around.outside) (beside_targets lowering after kept)

pub outside_lists : (lowering : Lowering) (after : TreeModule)
    → after ≡ record (lowering.tree) { lists = after.lists }
    → outside (record lowering { tree = after }) ≡ outside lowering
outside_lists lowering after kept =
    ap (λ (around : Beside). around.outside) (beside_lists lowering after kept)
