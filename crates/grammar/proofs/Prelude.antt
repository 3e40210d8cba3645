-- The names that the proofs of this crate cite, passed on from one place. Declares nothing.
pub use Rattle.std.proofs.Common.{List, [], arith, lit≤, refl, subst, suc, sym, zero, ℕ, ◌+◌, ◌-◌, ◌∷◌, ◌≡◌, ◌≤◌}
pub use Rattle.trees.specs.{Trees.{ArgumentTrees, AssignmentNode, BinaryNode, ConstantLeaf, ExpressionTree, ListLeaf, LocationLeaf, MemberOf, MoreArguments, NoArguments, NoMember, NumberConstant, ParenthesizedNode, ReferenceLeaf, ReferenceTo, ReferenceTree, StringConstant, UnaryNode}, declared.expression.BinaryOperator.{BinaryOperator, TheVariants.{Add, And, Divide, Equal, Greater, GreaterOrEqual, Less, LessOrEqual, Modulo, Multiply, Or, Subtract, Unequal, Xor}}, declared.expression.UnaryOperator.{UnaryOperator, TheVariants.{Negate, Not}}, declared.identifier.Identifier.{Identifier}}
pub use Rattle.grammar.specs.Derivation.{Derives, DerivesArguments, DerivesExpression, DerivesMoreArguments, DerivesReference, DerivesTargets, and_chain, comparison, embedded_assignment, goto, if_then, if_then_else, labelled, last_argument, last_target, list, location, minus, negation, next_argument, next_level, next_statement, next_target, no_arguments, no_declaration, no_statement, null, number, or_chain, parenthesized, reference, some_arguments, string, sum_chain, term_chain, unlabelled, whole, whole_module, with_member}
pub use Rattle.grammar.specs.Forms.{IsNotEmpty, expression_level, level_of, primary_level}
pub use Rattle.grammar.specs.Symbols.{MarkSymbol, NameSymbol, Symbol}
pub use Rattle.grammar.specs.internal.Forms.{AreArguments, IsExpression, IsMember, IsReference, left_level, operand_level_of, unary_level_of}
pub use Rattle.grammar.specs.internal.Spelling.{arguments_symbols, expression_symbols, more_arguments_symbols, reference_symbols, unary_symbol}
