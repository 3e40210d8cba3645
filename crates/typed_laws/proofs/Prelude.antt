-- The names that the proofs of this crate cite, passed on from one place. Declares nothing.
pub use Rattle.std.proofs.{Common.{Bool, IsSomeAnd, List, None, Ok, Option, Some, [], ap, arith, cond, div-add-mod', false, flat_map, length, length-append, map, min, mod-lt, nat_le, nat_lt, refl, replicate, slice_get, subst, suc, suc-mul, sym, true, zero, zero-mul, ℕ, ◌*◌, ◌++◌, ◌+◌, ◌-◌, ◌<◌, ◌∙◌, ◌∷◌, ◌≡◌, ◌≤◌}, lemmas.Bool.{leb-true}, lemmas.Grind.{flat_map-append}, lemmas.List.{map-append}, lemmas.List.Elements.{All-append, All-cons, All-nil, recursion_from_All}, lemmas.List.Sums.{sum_by-append, sum_by-cons}, lemmas.Option.{none-some, slice_get_within}}
pub use Rattle.std.specs.{List.{AllByRecursion, enumerate_from}, Option.{option_map_or}, Prelude.{All, IfSome, is_none, is_some, not, option_map, slice_set, ◌&&◌}}
pub use Rattle.words.specs.Spelling.{Lexeme}
pub use Rattle.trees.proofs.Lists.{got_first}
pub use Rattle.trees.specs.{Trees.{ArgumentTrees, AssignmentNode, AssignmentStatement, AtTree, BinaryNode, CallStatement, CaseStatement, ConstantLeaf, ConstantOrigin, DeclarationTree, DeclarationTrees, DeclareTree, DoStatement, ElementTree, ElseStatement, ElseTree, ExpressionTree, GotoStatement, HaltStatement, HeadingTree, IfStatement, ItemElement, ItemTree, ItemTypeTree, LabelledStatement, ListLeaf, LiterallyElement, LocationLeaf, LocationOrigin, IterationTree, LoopHeadTree, LoopStatement, MemberOf, MemberTree, ModuleTree, MoreArguments, MoreDeclarations, MoreStatements, NoArguments, NoDeclarations, NoElse, NoMember, NoStatements, NullStatement, OffsetTree, OriginTree, ParenthesizedNode, ProcedureTree, ReferenceLeaf, ReferenceTo, ReferenceTree, RestrictedTree, ReturnStatement, ScalarItem, StatementKindTree, StatementTree, StatementTrees, StringConstant, StringTree, StructureItem, SubjectTree, UnaryNode, ValueListTree}, declared.declaration.Dimension.{Dimension, TheVariants.{Count, Implied}}, declared.declaration.Member.{Member}, declared.declaration.ScalarType.{ScalarType, TheVariants.{Address, Byte}}, declared.declaration.Sign.{Sign, TheVariants.{Minus, Plus}}, declared.identifier.Identifier.{Identifier}, declared.identifier.Number.{Number}, declared.identifier.Place.{Place}}
pub use Rattle.grammar.specs.{Derivation.{Derives, DerivesDeclaration, DerivesDeclarations, DerivesKind, DerivesModule, DerivesStatement, DerivesStatements, assignment, call, declare, do_case, do_loop, goto, halt, if_then, if_then_else, labelled, next_declaration, next_statement, no_declaration, no_statement, null, procedure, return, return_value, simple_do, unlabelled, whole_module}, Forms.{IsElement, IsItem, IsItemType, IsNotEmpty}, Nesting.{IsNestedWithin, arguments_height, declaration_height, declarations_height, else_height, expression_height, head_height, iteration_height, kind_height, member_height, module_height, optional_height, reference_height, statement_height, statements_height, targets_height}, Symbols.{Symbol}}
pub use Rattle.typed_trees.proofs.Counted.{types_count}
pub use Rattle.typed_trees.specs.{Charge.{count_of_arguments, height_of, height_of_arguments, height_of_else, height_of_head, height_of_iteration, height_of_list, height_of_optional, height_of_reference, height_of_statement, height_of_statements, height_of_subscript, height_of_target, height_of_targets}, ExpressionTypes.{type_of}, Frames.{AreParameters, FrameFits, FramesFit, HasParameters, ParametersFit, home_of_parameters}, ObjectParts.{IsInElement, IsPartOf, IsScalarOf}, Sizes.{count_of, has_member, scalars_of_element, scalars_of_elements, scalars_of_member, size_of_element, size_of_member, size_of_object, size_of_scalar}, TypedTrees.{At, BasedOn, CallNode, ConversionNode, Elsewhere, FunctionNode, Home, InConstants, InData, InFrame, InputNode, LabelStatement, ListNode, ListOf, LocationNode, MoveStatement, NoSubscript, Nowhere, NumberNode, ObjectType, PartOf, Placed, ScalarObject, SentTo, ShiftNode, StoredIn, StructureObject, Subscript, TypedArguments, TypedElse, TypedExpression, TypedHead, TypedIteration, TypedList, TypedModule, TypedObject, TypedProcedure, TypedReference, TypedStatement, TypedStatements, TypedTarget, ValueNode}, WellTyped.{HasLocation, IsReturned, IsSeen, IsWellTyped, RefersToLocation, RefersToScalar, Takes, TypesHold, TypesHoldIn, TypesHoldInArguments, TypesHoldInElse, TypesHoldInHead, TypesHoldInIteration, TypesHoldInList, TypesHoldInProcedure, TypesHoldInReference, TypesHoldInStatements, TypesHoldInSubscript, TypesHoldInTarget, TypesHoldInTargets, Within, WithinMain, WithinProcedure, types_of}, declared.limits.TheConstants.{FRAME_LIMIT, OBJECT_LIMIT}, declared.parts.AtAddress.{AtAddress, TheVariants.{AtNumber, AtObject}}, declared.parts.InitialValue.{InitialValue, TheVariants.{ByteValue, LocationValue, WordValue}}, declared.parts.NumberOrigin.TheVariants.{FromDigits, FromMeasure, FromString}, declared.parts.TypedMember.{TypedMember}}
unfoldable pub use Rattle.typed_trees.specs.Charge.{charge_of}
pub use Rattle.typing.proofs.{Jumps.JumpsLaw.{jumps_are_sound}, Kept.{Gives, gives_after, gives_fault, gives_ok, in_turn, is_found, required, then_more}, Parameters.Opening.{Opened, opens_procedure}, Parameters.OwnBlock.{front_or_back}, Parameters.ParametersOfTexts.{Same, assignment_same, call_same, goto_same, head_same, parameters_fit, return_same, value_same}, StatementsBack.{gives_back}, Storage.StorableStatements.{is_storable}, Tables.{Keeps, keeps_append}, Types.TypesOfDeclarations.{heading_procedure}, Types.TypesOfStatements.{frames_are_summed, globals_are_listed, is_well_typed}}
pub use Rattle.typing.specs.{Blocks.{Block, OfProcedure, Owner, Progress, TheModule, is_external, is_external_linkage}, Constants.{moved_by, number_of_characters}, Filling.{ANumber, AsListed, Contents, Elements, Extents, Filled, FromObject, NoArray, OtherModulesToo, Reach, RestrictedValue, ThisModule, address_of, elements_for, enough_elements, place_of_origin}, Items.{TypedItem, base_of, home_in, home_of, home_with_values, is_base, is_data, is_group, is_plain, names_parameter, object_named, place_of_item, place_of_storage, size_of_item, with_typed_object}, Modules.{at_the_beginning, entered, inner_block, module_block}, Procedures.{close_procedure, own_block, parameter_types, procedure_with}, References.{Known, place_of}, Statements.{labels_before, with_here}, internal.Untyped.{GivesBack, bodies_in, bodies_in_declaration, bodies_in_else, bodies_in_kind, bodies_in_statement, bodies_in_statements, nameless, plain_arguments, plain_bodies, plain_else, plain_expression, plain_head, plain_iteration, plain_kind, plain_member, plain_reference, plain_statement, plain_statements, untyped_arguments, untyped_bodies, untyped_else, untyped_expression, untyped_head, untyped_iteration, untyped_kind, untyped_list, untyped_reference, untyped_statements, untyped_subscript, untyped_target}, declared.fault.Cause.TheVariants.{BasedParameter, DeclaredTwice, ExternalContents, ImpliedForGroup, ImpliedWithoutValues, MisplacedAt, MisplacedValues, NoBase, NoVariable, NotByte, ParameterNotScalar, StringNotNumber, TooLarge}, internal.Checks.{Checked, found, require, ◌>>=◌}, internal.ConstantChecks.{number_of_constant, with_offsets}, internal.Expressions.{arguments}, internal.FillingChecks.{at_address, contents, fill, fill_characters, fill_scalar, fill_string, fill_value, restricted_value, static_object}, internal.ItemChecks.{check_linkage, declare_element, declare_elements, declare_item, declare_names, extents_of, member_dimension, object_bound, typed_at, typed_base, typed_contents, typed_item, typed_members, typed_type, with_objects}, internal.ProcedureChecks.{check_body, parameter_objects}, internal.ReferenceChecks.{bound}, internal.StatementChecks.{declare_labels, list_of, without_label}, internal.Typing.{alone, cases, declaration, declarations, else_part, kind, statements}}
unfoldable pub use Rattle.typing.specs.internal.Typing.{typing_of}
pub use Rattle.layout.specs.{Sound.{AddsWord, AtAddsWord, BasesStandBefore, FramesAreReentrant, IsSoundlyTyped}, StartingMemory.{values_in}}
pub use Rattle.typed_laws.specs.internal.Facts.{AreFormed, ElseIsFormed, IsFormed, KindIsFormed, ModuleIsFormed, StatementIsFormed, StatementsAreFormed}
pub use Rattle.typed_laws.specs.internal.Limits.{ChargesFit, HasFewParameters, charge_limit}
