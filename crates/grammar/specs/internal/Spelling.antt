-- How expressions are spelled, by recursion on the tree: their symbols, and then the symbols after them.
use Rattle.std.specs.Prelude.{List, ◌∷◌}
use Rattle.words.specs.declared.vocabulary.Mark.TheVariants.{MinusSign, LeftParenthesis, RightParenthesis, Comma, Period, AssignSign}
use Rattle.words.specs.declared.vocabulary.ReservedWord.TheVariants as words
use Rattle.trees.specs.declared.expression.UnaryOperator.{UnaryOperator}
use Rattle.trees.specs.declared.expression.UnaryOperator.TheVariants.{Not, Negate}
use Rattle.grammar.specs.Spelling.{between_commas, constant_symbols, binary_symbol}
use Rattle.grammar.specs.Symbols.{Symbol, NameSymbol, ReservedSymbol, MarkSymbol}
use Rattle.trees.specs.Trees.{ExpressionTree, ConstantLeaf, ReferenceLeaf, LocationLeaf, ListLeaf, ParenthesizedNode, AssignmentNode, UnaryNode, BinaryNode, ReferenceTree, ReferenceTo, MemberTree, NoMember, MemberOf, ArgumentTrees, NoArguments, MoreArguments}

-- the symbol of an operator before its operand
abbrev pub unary_symbol : UnaryOperator → Symbol
unary_symbol Not = ReservedSymbol words.Not
unary_symbol Negate = MarkSymbol MinusSign

abbrev mutual
  -- an expression
  pub expression_symbols : ExpressionTree → List Symbol → List Symbol
  expression_symbols (ConstantLeaf constant) rest = constant_symbols constant rest
  expression_symbols (ReferenceLeaf reference) rest = reference_symbols reference rest
  expression_symbols (LocationLeaf reference) rest = MarkSymbol Period ∷ reference_symbols reference rest
  expression_symbols (ListLeaf constants) rest =
      MarkSymbol Period ∷ MarkSymbol LeftParenthesis
      ∷ between_commas constant_symbols constants (MarkSymbol RightParenthesis ∷ rest)
  expression_symbols (ParenthesizedNode inner) rest =
      MarkSymbol LeftParenthesis ∷ expression_symbols inner (MarkSymbol RightParenthesis ∷ rest)
  expression_symbols (AssignmentNode target value) rest =
      MarkSymbol LeftParenthesis ∷ reference_symbols target
      (MarkSymbol AssignSign ∷ expression_symbols value (MarkSymbol RightParenthesis ∷ rest))
  expression_symbols (UnaryNode operator operand) rest =
      unary_symbol operator ∷ expression_symbols operand rest
  expression_symbols (BinaryNode operator left right) rest =
      expression_symbols left (binary_symbol operator ∷ expression_symbols right rest)

  -- reference: name [arguments] [`.` name [arguments]]
  pub reference_symbols : ReferenceTree → List Symbol → List Symbol
  reference_symbols (ReferenceTo name arguments member) rest =
      NameSymbol name ∷ arguments_symbols arguments (member_of_symbols member rest)

  -- [`.` name [arguments]]
  pub member_of_symbols : MemberTree → List Symbol → List Symbol
  member_of_symbols NoMember rest = rest
  member_of_symbols (MemberOf name arguments) rest =
      MarkSymbol Period ∷ NameSymbol name ∷ arguments_symbols arguments rest

  -- [arguments], where arguments: `(` expression {`,` expression} `)`
  pub arguments_symbols : ArgumentTrees → List Symbol → List Symbol
  arguments_symbols NoArguments rest = rest
  arguments_symbols (MoreArguments first others) rest =
      MarkSymbol LeftParenthesis ∷ expression_symbols first (more_arguments_symbols others rest)

  -- {`,` expression} `)`
  pub more_arguments_symbols : ArgumentTrees → List Symbol → List Symbol
  more_arguments_symbols NoArguments rest = MarkSymbol RightParenthesis ∷ rest
  more_arguments_symbols (MoreArguments first others) rest =
      MarkSymbol Comma ∷ expression_symbols first (more_arguments_symbols others rest)
