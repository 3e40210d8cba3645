-- The names that the proofs of this crate cite, passed on from one place. Declares nothing.
pub use Rattle.std.proofs.{Common.{Bool, Err, IfSome, List, None, Ok, Option, Result, Some, [], ap, append-nil, append_assoc, arith, drop, false, get_or, if◌then◌else◌, inl, inr, le-leb, le-ltb, leb-true, length, length-drop, lt-ltb, ltb-true, map, max, nat_le, nat_lt, not, refl, rules, subst, suc, sym, true, zero, ℕ, ⊎_elim, ◌&&◌, ◌*◌, ◌++◌, ◌+◌, ◌-◌, ◌<◌, ◌==◌, ◌∙◌, ◌∷◌, ◌≡◌, ◌≢◌, ◌≤◌, ◌⊎◌}, lemmas.Bool.{and_from, and_left, and_parts, cases_lt, eq-eqb, eqb-true, false_from_ne_true, leb-false, lt-leb}, lemmas.List.{map-append, map-id}, lemmas.Result.{err_from_is_err_and}, lemmas.Slice.Eq.{bytes_eq-Decides}}
pub use Rattle.std.specs.{List.{AllByRecursion}, Prelude.{IfOk, IsErrAnd}, Str.{bytes_eq}}
pub use Rattle.failure.specs.{Failure.{IfFault}, declared.Failure.{Failure}}
pub use Rattle.words.specs.{Ordinals.{mark_number, word_number}, Spelling.{Lexeme}, Strings.{unquoted}, declared.vocabulary.Mark.{Mark, TheVariants.{Comma, LeftParenthesis, Period, RightParenthesis}}, declared.vocabulary.ReservedWord.{ReservedWord, TheVariants.{Declare, End, Literally}}}
pub use Rattle.trees.specs.{Trees.{ArgumentTrees, AssignmentNode, AssignmentStatement, AtTree, BinaryNode, CallStatement, CaseStatement, ConstantLeaf, ConstantOrigin, ConstantTree, CountHead, DeclarationTree, DeclarationTrees, DeclareTree, DoStatement, ElementTree, ElseStatement, ElseTree, ExpressionTree, GotoStatement, GroupSubject, HaltStatement, HeadingTree, IfStatement, ItemElement, ItemTree, ItemTypeTree, IterationTree, LabelledStatement, ListLeaf, LiterallyElement, LocationLeaf, LocationOrigin, LoopHeadTree, LoopStatement, MemberOf, MemberTree, ModuleTree, MoreArguments, MoreDeclarations, MoreStatements, NoArguments, NoDeclarations, NoElse, NoMember, NoStatements, NullStatement, NumberConstant, OffsetTree, OriginTree, ParenthesizedNode, ProcedureTree, ReferenceLeaf, ReferenceTo, ReferenceTree, RestrictedTree, ReturnStatement, ScalarItem, SingleSubject, StatementKindTree, StatementTree, StatementTrees, StringConstant, StringTree, StructureItem, SubjectTree, UnaryNode, ValueListTree}, internal.Views.{argument_trees, constant_tree, declaration_tree, declaration_trees, expression_tree, module_tree, offset_tree, reference_tree, statement_tree, statement_trees}, declared.declaration.Dimension.{Dimension, TheVariants.{Count, Implied}}, declared.declaration.Linkage.{Linkage, TheVariants.{External, Public}}, declared.declaration.Member.{Member}, declared.declaration.Offset.{Offset}, declared.declaration.ScalarType.{ScalarType, TheVariants.{Address, Byte}}, declared.declaration.Sign.{Sign, TheVariants.{Minus, Plus}}, declared.declaration.Storage.{Storage, TheVariants.{Data, Initial}}, declared.expression.BinaryOperator.{BinaryOperator, TheVariants.{Add, And, Divide, Equal, Greater, GreaterOrEqual, Less, LessOrEqual, Modulo, Multiply, Or, Subtract, Unequal, Xor}}, declared.expression.Expression.{Expression}, declared.expression.Reference.{Reference}, declared.expression.UnaryOperator.{UnaryOperator, TheVariants.{Negate, Not}}, declared.identifier.Identifier.{Identifier}, declared.identifier.Number.{Number}, declared.identifier.Place.{Place}, declared.module.Module.{Module}, declared.statement.Declaration.{Declaration}, declared.statement.Statement.{Statement}}
pub use Rattle.grammar.proofs.Derivations.{arguments-derived, arguments-spelled, expression-derived, expression-spelled, reference-spelled, targets-derived, targets-spelled}
pub use Rattle.grammar.specs.{Derivation.{Derives, DerivesArguments, DerivesAtMostOne, DerivesButForDepth, DerivesButForEndName, DerivesDeclaration, DerivesDeclarations, DerivesExpression, DerivesHead, DerivesKind, DerivesModule, DerivesReference, DerivesStatement, DerivesStatements, DerivesTargets, assignment as assignment_line, call as call_line, count_by_head, count_head, declare as declare_line, do_case, do_loop, goto as goto_line, halt, halt as halt_line, if_then, if_then_else, labelled, last_target, next_declaration, next_statement, next_target, no_arguments, no_declaration, no_statement, null, procedure as procedure_line, return, return_value as return_value_line, simple_do as simple_do_line, some_arguments, unlabelled, while_head, whole, whole_module as module_line, with_member}, Forms.{IsElement, IsItem, IsItemType, IsNotEmpty, IsSubject, IsValueList, ends_in_open_if, expression_level, is_open_if, level_of, negation_level, primary_level, sign_level}, Nesting.{DeclarationEndsMatch, DeclarationsEndsMatch, IsEndName, KindEndsMatch, ModuleEndsMatch, StatementEndsMatch, StatementsEndsMatch, arguments_height, declaration_height, declarations_height, expression_height, head_height, iteration_height, kind_height, member_height, module_height, reference_height, statement_height, statements_height, targets_height}, Spelling.{at_symbols, base_symbols, between_commas, binary_symbol, constant_symbols, count_symbols, dimension_symbols, element_symbols, ending_symbols, heading_symbols, item_symbols, item_type_symbols, linkage_symbols, member_symbols, more_after_commas, name_symbols, names_symbols, offsets_symbols, optional, origin_symbols, parameters_symbols, reentrant_symbols, restricted_symbols, scalar_symbols, sign_symbol, storage_symbol, subject_symbols, value_list_symbols}, Symbols.{MarkSymbol, NameSymbol, NumberSymbol, PlacedSymbol, ReservedSymbol, SemicolonSymbol, StringSymbol, Symbol, UnknownSymbol, reserved_symbol, symbols_of}, declared.TheConstants.{NESTING_LIMIT}, internal.Forms.{AreArguments, IsExpression, IsMember, IsReference, left_level, operand_level_of, unary_level_of}, internal.Spelling.{arguments_symbols, expression_symbols, member_of_symbols, more_arguments_symbols, reference_symbols}}
pub use Rattle.syntax.specs.declared.fault.Fault.{Fault}
pub use Rattle.syntax.specs.internal.Declarations.{at_of, base, count, dimension, dimension_inside, element_after, element_of, group_element, item_after, item_element, linkage, linkage_of, linkage_then, next_linkage, next_scalar, next_sign, next_storage, offset_then, offsets, origin, parameters, reentrant, reentrant_of, result_of, result_type, scalar, scalar_of, storage_of, structure, subject_of, values_of}
unfoldable pub use Rattle.syntax.specs.internal.Declarations.{all_offsets, at, element, heading, item, item_type, member, names, restricted, subject, value_list}
pub use Rattle.syntax.specs.internal.Expressions.{ExpressionParser, arguments, arguments_of, assigned, closed, constant_leaf, goes_on, member_of, next_operator, operator_of, operator_on, operator_then, operators, reference_leaf, top_level}
unfoldable pub use Rattle.syntax.specs.internal.Expressions.{all_operators, expression, expression_less, location, operand, parenthesized, primary, reference}
pub use Rattle.syntax.specs.internal.Inside.{Makes, after_declarations, after_statements, block_in, declarations_before, kind_inside, next_beginning, statement_inside, statements_before, value}
pub use Rattle.syntax.specs.internal.Lists.{Keeps, Shrinks, after_items, in_parentheses, items, many_items, more_items}
unfoldable pub use Rattle.syntax.specs.internal.Lists.{all_more_items, many}
pub use Rattle.syntax.specs.internal.Reader.{Cause, OtherEndName, Parser, Reading, TooDeep, Unexpected, at_mark, at_word, constant, mark, name, next_constant, next_name, next_semicolon, number, place_of_word, semicolon, string, taken, word, ◌>>=◌}
pub use Rattle.syntax.specs.internal.Results.{Fails, FailsBy, Gives, OrMemory}
pub use Rattle.syntax.specs.internal.Statements.{BlockParser, after_labels, at_semicolon, at_the_end, beginning_at, beginning_of, declarations, declarations_of, end_name, end_of_do, ends_declarations, kind_by, labels_before, module_end, module_head, module_of, otherwise, statement_by, statements, statements_of, step}
unfoldable pub use Rattle.syntax.specs.internal.Statements.{assignment, block, body_of_do, call, case_do, conditional, declaration, declare, declare_or, do_statement, ending, goto, iteration, loop_do, loop_head, procedure, return_value, simple_do, statement, whole_module}
