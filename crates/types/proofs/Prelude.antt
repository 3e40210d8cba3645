-- The names that the proofs of this crate cite, passed on from one place. Declares nothing.
pub use Rattle.std.proofs.{Common.{Bool, Err, List, None, Ok, Option, Some, [], ap, append_assoc, arith, drop, false, get_or, if◌then◌else◌, le-leb, leb-true, length, length-append, map, min, nat_le, not, refl, rules, slice_get, slice_set, subst, suc, sym, take, true, unwrap_or, ℕ, ◌++◌, ◌+◌, ◌<◌, ◌||◌, ◌∙◌, ◌∷◌, ◌≡◌, ◌≤◌}, Math.Decide.{dec_le}, Math.Seq.{set-append_seam}, lemmas.Bool.{lt-leb}, lemmas.List.{append-nil, length-map, map-append, map-set}, lemmas.List.Elements.{filter_map-append}, lemmas.Option.{slice_get-map}}
pub use Rattle.std.specs.{List.{AllZip}, Option.{option_map, option_map_or}, Prelude.{filter_map, is_none, is_some, nat_lt, ◌&&◌}}
pub use Rattle.trees.proofs.Lists.{drop_item}
pub use Rattle.trees.specs.{Trees.{DeclarationTrees, HeadingTree, ItemTree, ModuleTree, MoreStatements as MoreTrees, ReferenceTo, ReferenceTree, StatementTree, StatementTrees}, internal.Views.{declaration_trees, element_tree, heading_tree, item_tree, module_tree, reference_tree, statement_tree, statement_trees}, declared.declaration.Member.{Member}, declared.declaration.ScalarType.{ScalarType, TheVariants.{Byte}}, declared.expression.Reference.{None', Reference, Reference', Some', out-Reference, the_lemmas}, declared.identifier.Identifier.{Identifier}, declared.identifier.Place.{Place}, declared.statement.Statement.{Statement as Tree}}
pub use Rattle.names.proofs.TreesOfParts.{case_tree_is, do_tree_is, if_tree_is, loop_tree_is, procedure_is}
pub use Rattle.names.specs.{Environment.{Here, Names, into_body, is_declared_again, with_object, with_procedure}, DeclaredNames.{declared_by}, declared.entity.Entity.{Entity, TheVariants.{Object}}}
pub use Rattle.typed_trees.specs.{Frames.{FramesFit, ParametersFit}, Globals.{ListsGlobals}, Jumps.{JumpsAreSound}, Sizes.{has_member}, Storable.{IsStorable}, TypedTrees.{MoreStatements, NoStatements, TypedList, TypedModule, TypedProcedure, TypedStatement, TypedStatements}, Views.{arguments_view, list_view, module_view, procedure_view, statement_view, statements_view, target_view}, WellTyped.{IsWellTyped}, declared.expression.TypedExpression.{TypedExpression}, declared.limits.TheConstants.{FRAME_LIMIT, OBJECT_LIMIT, PARAMETER_LIMIT}, declared.module.TypedProcedure.{TypedProcedure as Procedure}, declared.parts.GlobalItem.{GlobalItem, TheVariants.{GlobalProcedure}}, declared.parts.TypedMember.{TypedMember}, declared.statement.TypedStatement.{TypedStatement as Statement, TheVariants.{Label}}}
pub use Rattle.typing.proofs.{Jumps.JumpsLaw.{jumps_are_sound}, Kept.{Gives, gives_after, gives_ok, in_turn, then_more}, Loops.{answers_fault, fails_more, leaves_fault, made_ended, made_fails, made_goes_on, state_fails, state_goes_on}, Parameters.{Parameters.{AreNamed, objects_are}, ParametersOfTexts.{Same, parameters_fit}}, StatementsBack.{gives_back}, Storage.StorableStatements.{is_storable}, Tables.{Fits, IsNamed, Keeps, NamesFit, keeps_append, names_known}, Types.TypedLaws.{where_typed}, Types.TypesOfStatements.{frames_are_summed, globals_are_listed, is_well_typed}, Walked.{Holds, object_names, procedure_names}}
pub use Rattle.typing.proofs.{DeclarationsBack.{same_names}, StatementsBack.{declare_labels-fit}}
pub use Rattle.typing.specs.{Blocks.{Block, Progress, declares_parameter, is_external, is_external_linkage, is_public_linkage, is_reentrant, with_global}, Items.{TypedItem, object_named, place_of_item, size_of_item, with_typed_object}, Modules.{at_the_beginning, module_block, module_with}, Procedures.{close_procedure, empty_list, parameter_types, procedure_with, scalar_in_block, scalar_in_elements, with_heading}, References.{place_of}, Statements.{after_labels, labels_before, place_of_targets, places_from, places_of, with_here}, internal.Untyped.{GivesBack}, declared.fault.Cause.TheVariants.{ArgumentCount, BasedParameter, DeclaredTwice, ExternalContents, ImpliedForGroup, ImpliedWithoutValues, MisplacedAt, MisplacedValues, NestedProcedure, NoBase, NoCounter, ParameterNotScalar, TooLarge, ZeroDimension}, declared.fault.Fault.{Fault}, internal.Checks.{Checked, refuse, require, ◌>>=◌}, internal.ItemChecks.{declare_element, declare_elements, declare_item, declare_names, member_dimension, typed_item, typed_members, with_objects}, internal.ProcedureChecks.{check_reentrant, check_visibility, declare_parameters, no_more_parameters, open_procedure, parameter_object, parameter_objects}, internal.Results.{FailsBy, Leaves, fault_in, in_front}, internal.StatementChecks.{declare_labels, list_of, moved}, internal.Typing.{alone, cases, declarations, labelled, statements}}
unfoldable pub use Rattle.typing.specs.internal.Typing.{typing_of}
pub use Rattle.types.specs.internal.Declares.{Declares, Entry, FitsDimension, HasHeading, IsDeclared, ObjectEntry, ProcedureEntry, SaysNothing, declared_object, declared_procedure, entries_in, entries_in_declaration, entries_in_element, entries_in_elements, entries_in_else, entries_in_kind, entries_in_statement, entries_in_statements, entries_of, first_word, member_of, name_in, type_of_item, word_of_home, word_of_item}
pub use Rattle.types.specs.internal.DeclareItems.{fitted_in_turn, fitting_item, item_in_turn, with_names}
pub use Rattle.types.specs.internal.Lists.{Listing, listed_view, statements_after, statements_before, with_label, with_labels, with_statement}
pub use Rattle.types.specs.internal.Views.{block_view, progress_view, typed_item_view}
pub use Rattle.types.specs.internal.Walking.{heading_opened, module_body, names_among, statement_with_labels, targets_for}
