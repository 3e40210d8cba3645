use Rattle.syntax.proofs.Prelude.{◌≡◌, ◌≤◌, ◌+◌, ◌*◌, suc, map, length, expression_level, expression_tree, expression, all_operators, items, all_more_items, after_items}
use Rattle.syntax.proofs.reader.Reader.+expression.Given as goal

abbrev pub decreases-expression : goal.decreases-expression
decreases-expression l = 10 * l.room

abbrev pub decreases-operators : goal.decreases-operators
decreases-operators l = 10 * l.room + 1

abbrev pub decreases-operand : goal.decreases-operand
decreases-operand l = 10 * l.room + 9

abbrev pub decreases-unary : goal.decreases-unary
decreases-unary l = 10 * l.room + 1

abbrev pub decreases-reference_leaf : goal.decreases-reference_leaf
decreases-reference_leaf l = 10 * l.room + 6

abbrev pub decreases-member_after : goal.decreases-member_after
decreases-member_after l = 10 * l.room + 4

abbrev pub decreases-primary : goal.decreases-primary
decreases-primary l = 10 * l.room + 8

abbrev pub decreases-parenthesized : goal.decreases-parenthesized
decreases-parenthesized l = 10 * l.room + 7

abbrev pub decreases-assigned : goal.decreases-assigned
decreases-assigned l = 10 * l.room + 6

abbrev pub decreases-assigned_value : goal.decreases-assigned_value
decreases-assigned_value l = 10 * l.room + 2

abbrev pub decreases-location : goal.decreases-location
decreases-location l = 10 * l.room + 7

abbrev pub decreases-located : goal.decreases-located
decreases-located l = 10 * l.room + 6

abbrev pub decreases-reference_after : goal.decreases-reference_after
decreases-reference_after l = 10 * l.room + 5

abbrev pub decreases-arguments : goal.decreases-arguments
decreases-arguments l = 10 * l.room + 3

abbrev pub decreases-expressions : goal.decreases-expressions
decreases-expressions l = 10 * l.room + 2

abbrev pub invariant-expressions-more : goal.invariant-expressions-more
invariant-expressions-more l = record {
  all : items (expression l.room expression_level) l.fn.self
      ≡ after_items (map expression_tree l.found.items.items)
      (all_more_items (expression l.room expression_level) l.self);
  fits : l.found.height ≤ l.room;
}

abbrev pub decreases-expressions-more : goal.decreases-expressions-more
decreases-expressions-more l = length l.self

abbrev pub invariant-operators-more : goal.invariant-operators-more
invariant-operators-more l = record {
  all : all_operators (expression l.room) (suc l.room) l.level
      (expression_tree l.fn.left.expression) l.fn.self
      ≡ all_operators (expression l.room) (suc l.room) l.level (expression_tree l.left.expression) l.self;
  fits : l.left.height ≤ l.room + 1;
}

abbrev pub decreases-operators-more : goal.decreases-operators-more
decreases-operators-more l = length l.self
