-- Which expressions the grammar has, by recursion on the tree: operands are grouped by its levels.
use Rattle.std.specs.Prelude.{ℕ, suc, ◌≤◌, ◌==◌, if◌then◌else◌}
use Rattle.trees.specs.declared.expression.UnaryOperator.{UnaryOperator}
use Rattle.trees.specs.declared.expression.UnaryOperator.TheVariants.{Not, Negate}
use Rattle.grammar.specs.Forms.{expression_level, negation_level, relation_level, sum_level, sign_level, primary_level, level_of, IsNotEmpty}
use Rattle.trees.specs.Trees.{ExpressionTree, ConstantLeaf, ReferenceLeaf, LocationLeaf, ListLeaf, ParenthesizedNode, AssignmentNode, UnaryNode, BinaryNode, ReferenceTree, ReferenceTo, MemberTree, NoMember, MemberOf, ArgumentTrees, NoArguments, MoreArguments}

-- The level of the left operand of an operator of a level: the same level, since chains group from the left.
-- A comparison is not a chain.
abbrev pub left_level : ℕ → ℕ
left_level level = if level == relation_level then sum_level else level

-- the level at which an operator before its operand stands
abbrev pub unary_level_of : UnaryOperator → ℕ
unary_level_of Not = negation_level
unary_level_of Negate = sign_level

-- the level of the operand of an operator before it
abbrev pub operand_level_of : UnaryOperator → ℕ
operand_level_of Not = negation_level
operand_level_of Negate = primary_level

abbrev mutual
  -- an expression that may stand at a level
  pub IsExpression : ℕ → ExpressionTree → Type 0
  IsExpression level (ConstantLeaf constant) = level ≤ primary_level
  IsExpression level (ReferenceLeaf reference) = (level ≤ primary_level) × IsReference reference
  IsExpression level (LocationLeaf reference) = (level ≤ primary_level) × IsReference reference
  IsExpression level (ListLeaf constants) = (level ≤ primary_level) × IsNotEmpty constants
  IsExpression level (ParenthesizedNode inner) = (level ≤ primary_level) × IsExpression expression_level inner
  IsExpression level (AssignmentNode target value) =
      (level ≤ primary_level)
      × IsReference target
      × IsExpression expression_level value
  IsExpression level (UnaryNode operator operand) =
      (level ≤ unary_level_of operator)
      × IsExpression (operand_level_of operator) operand
  IsExpression level (BinaryNode operator left right) =
      (level ≤ level_of operator)
      × IsExpression (left_level (level_of operator)) left
      × IsExpression (suc (level_of operator)) right

  -- a reference whose arguments are expressions
  pub IsReference : ReferenceTree → Type 0
  IsReference (ReferenceTo name arguments member) = AreArguments arguments × IsMember member

  pub IsMember : MemberTree → Type 0
  IsMember NoMember = Unit {0}
  IsMember (MemberOf name arguments) = AreArguments arguments

  -- arguments that are expressions
  pub AreArguments : ArgumentTrees → Type 0
  AreArguments NoArguments = Unit {0}
  AreArguments (MoreArguments first others) = IsExpression expression_level first × AreArguments others
