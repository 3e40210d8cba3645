-- How the parser reads expressions: an operand, and then operators with their right operands, as long as
-- they may stand there.
use Rattle.std.specs.Prelude.{ℕ, zero, suc, Bool, ◌&&◌, nat_le, nat_lt, List, [], ◌∷◌, drop, length, Option, Some, None, Ok, Err, if◌then◌else◌}
use Rattle.words.specs.declared.vocabulary.Mark.TheVariants as marks
use Rattle.words.specs.declared.vocabulary.ReservedWord.TheVariants as words
use Rattle.trees.specs.declared.expression.BinaryOperator.{BinaryOperator}
use Rattle.trees.specs.declared.expression.BinaryOperator.TheVariants.{Or, Xor, And, Equal, Less, Greater, LessOrEqual, GreaterOrEqual, Unequal, Add, Subtract, Multiply, Divide, Modulo}
use Rattle.trees.specs.declared.expression.UnaryOperator.{UnaryOperator}
use Rattle.trees.specs.declared.expression.UnaryOperator.TheVariants.{Not, Negate}
use Rattle.trees.specs.declared.identifier.Identifier.{Identifier}
use Rattle.grammar.specs.Forms.{expression_level, negation_level, sign_level, primary_level, level_of}
use Rattle.grammar.specs.internal.Forms.{left_level, unary_level_of}
use Rattle.grammar.specs.Nesting.{expression_height}
use Rattle.grammar.specs.Symbols.{Symbol, MarkSymbol, ReservedSymbol}
use Rattle.trees.specs.Trees.{ExpressionTree, ConstantLeaf, ReferenceLeaf, LocationLeaf, ListLeaf, ParenthesizedNode, AssignmentNode, UnaryNode, BinaryNode, ReferenceTree, ReferenceTo, MemberTree, NoMember, MemberOf, ArgumentTrees, NoArguments, MoreArguments}
use Rattle.syntax.specs.internal.Reader.{Parser, Unexpected, TooDeep, ◌>>=◌, at_mark, at_word, mark, name, next_name, constant}
use Rattle.syntax.specs.internal.Lists.{items}

-- how an expression at a level is read
abbrev pub ExpressionParser : Type 0
ExpressionParser = ℕ → Parser ExpressionTree

-- the operator of a symbol between operands
abbrev pub operator_of : Symbol → Option BinaryOperator
operator_of (ReservedSymbol words.Or) = Some Or
operator_of (ReservedSymbol words.Xor) = Some Xor
operator_of (ReservedSymbol words.And) = Some And
operator_of (ReservedSymbol words.Mod) = Some Modulo
operator_of (MarkSymbol marks.EqualSign) = Some Equal
operator_of (MarkSymbol marks.LessSign) = Some Less
operator_of (MarkSymbol marks.GreaterSign) = Some Greater
operator_of (MarkSymbol marks.LessEqualSign) = Some LessOrEqual
operator_of (MarkSymbol marks.GreaterEqualSign) = Some GreaterOrEqual
operator_of (MarkSymbol marks.UnequalSign) = Some Unequal
operator_of (MarkSymbol marks.PlusSign) = Some Add
operator_of (MarkSymbol marks.MinusSign) = Some Subtract
operator_of (MarkSymbol marks.Asterisk) = Some Multiply
operator_of (MarkSymbol marks.Slash) = Some Divide
operator_of symbol = None

-- the next symbol, if it is an operator between operands
abbrev pub next_operator : List Symbol → Option BinaryOperator
next_operator [] = None
next_operator (symbol ∷ rest) = operator_of symbol

-- the highest level at which an expression stands
abbrev pub top_level : ExpressionTree → ℕ
top_level (UnaryNode operator operand) = unary_level_of operator
top_level (BinaryNode operator left right) = level_of operator
top_level tree = primary_level

-- whether an operator continues an expression of one level, where the result must be of another
abbrev pub goes_on : ℕ → ℕ → BinaryOperator → Bool
goes_on level top operator = nat_le level (level_of operator) && nat_le (left_level (level_of operator)) top

-- an operator that continues an expression of one level, where the result must be of another
abbrev pub operator_on : ℕ → ℕ → Option BinaryOperator → Option BinaryOperator
operator_on level top None = None
operator_on level top (Some operator) = if goes_on level top operator then Some operator else None

-- the trees of a list of arguments
abbrev pub arguments_of : List ExpressionTree → ArgumentTrees
arguments_of [] = NoArguments
arguments_of (first ∷ others) = MoreArguments first (arguments_of others)

-- [`(` expression {`,` expression} `)`], with this parser of expressions
abbrev pub arguments : ExpressionParser → Parser ArgumentTrees
arguments inner symbols =
    if at_mark marks.LeftParenthesis symbols then (do
      found ← items (inner expression_level) (drop 1 symbols)
      rest ← mark marks.RightParenthesis found.1
      Ok (arguments_of found.0, rest))
    else Ok (NoArguments, symbols)

-- [`.` name [arguments]]
abbrev pub member_of : ExpressionParser → Parser MemberTree
member_of inner symbols =
    if at_mark marks.Period symbols then (do
      member ← name (drop 1 symbols)
      found ← arguments inner member.1
      Ok (MemberOf member.0 found.0, found.1))
    else Ok (NoMember, symbols)

-- [arguments] [`.` name [arguments]], after the name of a reference
abbrev pub reference_after : ExpressionParser → Identifier → Parser ReferenceTree
reference_after inner base symbols = do
  its_arguments ← arguments inner symbols
  its_member ← member_of inner its_arguments.1
  Ok (ReferenceTo base its_arguments.0 its_member.0, its_member.1)

-- name [arguments], after the name of a reference, its arguments and a period
abbrev pub member_after : ExpressionParser → Identifier → ArgumentTrees → Parser ReferenceTree
member_after inner base its_arguments symbols = do
  member ← name symbols
  found ← arguments inner member.1
  Ok (ReferenceTo base its_arguments (MemberOf member.0 found.0), found.1)

-- a reference as an expression, after its name
abbrev pub reference_leaf : ExpressionParser → Identifier → Parser ExpressionTree
reference_leaf inner base symbols = do
  found ← reference_after inner base symbols
  Ok (ReferenceLeaf found.0, found.1)

-- a constant as an expression
abbrev pub constant_leaf : Parser ExpressionTree
constant_leaf symbols = do
  found ← constant symbols
  Ok (ConstantLeaf found.0, found.1)

-- the operand of an operator that stands before it
abbrev pub unary_node : ExpressionParser → UnaryOperator → ℕ → Parser ExpressionTree
unary_node inner operator level symbols = do
  found ← inner level symbols
  Ok (UnaryNode operator found.0, found.1)

-- reference: name [arguments] [`.` name [arguments]]
unfoldable pub reference : ExpressionParser → Parser ReferenceTree
reference inner symbols = do
  base ← name symbols
  reference_after inner base.0 base.1

-- after a period: a reference, or constants in parentheses
unfoldable pub location : ExpressionParser → Parser ExpressionTree
location inner symbols =
    if at_mark marks.LeftParenthesis symbols then (do
      found ← items constant (drop 1 symbols)
      rest ← mark marks.RightParenthesis found.1
      Ok (ListLeaf found.0, rest))
    else (do
      found ← reference inner symbols
      Ok (LocationLeaf found.0, found.1))

-- constants in parentheses, after the opening one
abbrev pub constant_list : Parser ExpressionTree
constant_list symbols = do
  found ← items constant symbols
  rest ← mark marks.RightParenthesis found.1
  Ok (ListLeaf found.0, rest)

-- a reference, after a period
abbrev pub located : ExpressionParser → Parser ExpressionTree
located inner symbols = do
  found ← reference inner symbols
  Ok (LocationLeaf found.0, found.1)

-- `:=` expression `)`
abbrev pub assigned_value : ExpressionParser → Parser ExpressionTree
assigned_value deeper symbols = do
  later ← mark marks.AssignSign symbols
  value ← deeper expression_level later
  rest ← mark marks.RightParenthesis value.1
  Ok (value.0, rest)

-- `:=` expression `)`, after a reference
abbrev pub assigned : ExpressionParser → ExpressionTree → Parser ExpressionTree
assigned deeper (ReferenceLeaf target) symbols = do
  later ← mark marks.AssignSign symbols
  value ← deeper expression_level later
  rest ← mark marks.RightParenthesis value.1
  Ok (AssignmentNode target value.0, rest)
assigned deeper tree symbols = Err Unexpected

-- the rest after an opening parenthesis and an expression
abbrev pub closed : ExpressionParser → ExpressionTree → Parser ExpressionTree
closed deeper tree symbols =
    if at_mark marks.RightParenthesis symbols then Ok (ParenthesizedNode tree, drop 1 symbols)
    else assigned deeper tree symbols

-- after an opening parenthesis: expression `)`, or reference `:=` expression `)`
unfoldable pub parenthesized : ExpressionParser → ExpressionParser → Parser ExpressionTree
parenthesized inner deeper symbols = do
  found ← inner expression_level symbols
  closed deeper found.0 found.1

-- a constant, a reference, a location or an expression in parentheses
unfoldable pub primary : ExpressionParser → ExpressionParser → Parser ExpressionTree
primary inner deeper symbols =
    if at_mark marks.LeftParenthesis symbols then parenthesized inner deeper (drop 1 symbols)
    else (if at_mark marks.Period symbols then location inner (drop 1 symbols)
    else leaf inner (next_name symbols) symbols)
  where
    leaf : ExpressionParser → Option Identifier → Parser ExpressionTree
    leaf inner (Some base) symbols = do
      found ← reference inner symbols
      Ok (ReferenceLeaf found.0, found.1)
    leaf inner None symbols = do
      found ← constant symbols
      Ok (ConstantLeaf found.0, found.1)

-- an operator before its operand, or a primary, at a level
unfoldable pub operand : ExpressionParser → ExpressionParser → ℕ → Parser ExpressionTree
operand inner deeper level symbols =
    if at_word words.Not symbols && nat_le level negation_level then (do
      found ← inner negation_level (drop 1 symbols)
      Ok (UnaryNode Not found.0, found.1))
    else (if at_mark marks.MinusSign symbols && nat_le level sign_level then (do
      found ← inner primary_level (drop 1 symbols)
      Ok (UnaryNode Negate found.0, found.1))
    else primary inner deeper symbols)

-- an operator, its right operand, and the operators after these; the whole takes no more levels than
-- the room
abbrev pub operator_then : ExpressionParser
    → (ExpressionTree → Parser ExpressionTree)
    → ℕ
    → ℕ
    → ExpressionTree
    → Option BinaryOperator
    → Parser ExpressionTree
operator_then inner again room level left None symbols = Ok (left, symbols)
operator_then inner again room level left (Some operator) symbols =
    if goes_on level (top_level left) operator then
    (if nat_lt (expression_height left) room then (do
      right ← inner (suc (level_of operator)) (drop 1 symbols)
      again (BinaryNode operator left right.0) right.1)
    else Err TooDeep)
    else Ok (left, symbols)

-- operators that may stand at a level, with their right operands, after a left operand
abbrev pub operators : ExpressionParser → ℕ → ℕ → ℕ → ExpressionTree → Parser ExpressionTree
operators inner room level zero left symbols = Ok (left, symbols)
operators inner room level (suc count) left symbols =
    operator_then inner (operators inner room level count) room level left (next_operator symbols) symbols

-- operators, as many as there are
unfoldable pub all_operators : ExpressionParser → ℕ → ℕ → ExpressionTree → Parser ExpressionTree
all_operators inner room level left symbols = operators inner room level (length symbols) left symbols

-- an expression at a level, of no more levels than the room
unfoldable mutual
  pub expression : ℕ → ℕ → Parser ExpressionTree
  expression zero level symbols = Err TooDeep
  expression (suc room) level symbols = do
    left ← operand (expression room) (expression_less room) level symbols
    all_operators (expression room) (suc room) level left.0 left.1

  -- an expression of one level less than the room
  pub expression_less : ℕ → ℕ → Parser ExpressionTree
  expression_less zero level symbols = Err TooDeep
  expression_less (suc room) level symbols = expression room level symbols
