-- The names that the proofs of this crate cite, passed on from one place. Declares nothing.
pub use Rattle.std.proofs.{Common.{Bool, Err, Global, List, None, Ok, Option, Result, Some, [], ap, append_assoc, arith, codes, drop, false, get_or, length, length-append, map, refl, reverse, rules, subst, sym, true, ℕ, ◌++◌, ◌+◌, ◌<◌, ◌∙◌, ◌∷◌, ◌≡◌, ◌≤◌}, Math.ListN.{drop_of_length-le}, lemmas.List.{append-nil}, lemmas.Slice.Eq.{HasBytesAt, text_from_reads}}
pub use Rattle.std.specs.{List.{flat_map}, Option.{option_or}, Str.{bytes_eq}, declared.boxed.Box.{Box}}
pub use Rattle.failure.specs.{Failure.{IfFault}, declared.Failure.{Failure}}
pub use Rattle.symbols.proofs.Keys.{same_keys}
pub use Rattle.trees.proofs.{Lists.{drop_item}, Views.{declaration_rows_are, row_trees_are, statement_rows_are}}
pub use Rattle.trees.specs.{Trees.{MoreStatements}, internal.Views.{argument_trees, block_declarations, block_statements, declaration_tree, declaration_trees, element_tree, expression_tree, kind_tree, reference_tree, restricted_tree, statement_tree, statement_trees}, declared.declaration.Element.{Element}, declared.declaration.Restricted.{Restricted}, declared.expression.Expression.{Expression}, declared.expression.Reference.{None', Reference, Reference', Some', out-Reference, the_lemmas}, declared.expression.Selector.{Selector}, declared.identifier.Identifier.{Identifier}, declared.identifier.Place.{Place}, declared.statement.Block.{Block, Block', the_lemmas as blocks}, declared.statement.DoCase.{DoCase, DoCase', the_lemmas as cases}, declared.statement.IfThen.{IfThen, IfThen', the_lemmas as ifs}, declared.statement.Loop.{Loop, Loop', the_lemmas as loops}, declared.statement.Procedure.{Procedure, Procedure', the_lemmas as procedures}, declared.statement.Statement.{Statement}}
pub use Rattle.names.specs.Environment.{Here, Names, at_the_start, declared_around, known_in, numbered_from, with_object}
pub use Rattle.names.specs.internal.Events.{Declaration, Event, Seen, Use, declares_label, declares_object, declares_parameter, see_all, see_block, see_cases, see_declaration, see_declarations, see_element, see_kind, see_statement, see_statements, uses_at}
pub use Rattle.names.specs.DeclaredNames.{labels_of}
unfoldable pub use Rattle.names.specs.internal.Events.{declares, in_turn, jumps_to, moves, nothing, see_item, uses_of}
pub use Rattle.names.specs.internal.Uses.{names_in_arguments, names_in_expression, names_in_reference, names_in_restricted}
pub use Rattle.names.specs.declared.entity.Binding.{Binding}
pub use Rattle.names.specs.declared.fault.Fault.{Fault}
pub use Rattle.names.specs.internal.BindingWalks.{Does, FailsBy, Walk, bind_more, bound_name, fault_in, unless}
unfoldable pub use Rattle.names.specs.internal.BindingWalks.{bound_at, gives}
