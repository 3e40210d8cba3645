-- The names that the proofs of this crate cite, passed on from one place. Declares nothing.
pub use Rattle.std.proofs.{Common.{Bool, IsSomeAnd, List, None, Ok, Option, Some, [], ap, arith, cond, false, filter_map, find, flat_map, if◌then◌else◌, length, map, nat_le, nat_lt, one-mul, refl, replicate, slice_get, subst, suc, sym, true, zero, zero-add, zip, ℕ, ◌%◌, ◌&&◌, ◌*◌, ◌++◌, ◌+◌, ◌-◌, ◌<◌, ◌==◌, ◌||◌, ◌∙◌, ◌∷◌, ◌≡◌, ◌≢◌, ◌≤◌}, lemmas.Bool.{and_parts, eq-eqb, ltb-true, or_right}, lemmas.Iterator.Adapters.{position_from-zero}, lemmas.List.{length-replicate}, lemmas.List.Elements.{All-append, All-cons, All-from_recursion, All-map, All-nil, All-replicate, All-weaker, recursion_from_All}, lemmas.List.Folds.{list_any-append}, lemmas.List.Sums.{sum_by-cons}, lemmas.Option.{get_or_from_slice_get, none-some, slice_get-map, slice_get_within}}
pub use Rattle.std.specs.{List.{AllByRecursion, cons_option, enumerate_from, list_any, position_from}, Option.{option_and_then, option_map_or}, Prelude.{All, IfSome, count_by, is_none, is_some, not, option_map, slice_index}}
pub use Rattle.mem80.proofs.{Numbers.{remainder_in_memory}, Options.{both_are_none}}
pub use Rattle.mem80.specs.declared.memory.TheConstants.{MEMORY_SIZE}
pub use Rattle.trees.specs.{Trees.{ConstantOrigin, DeclarationTree, DeclarationTrees, DeclareTree, ElementTree, ElseTree, ItemElement, ItemTree, LiterallyElement, LocationOrigin, ModuleTree, MoreDeclarations, NoDeclarations, OffsetTree, OriginTree, ProcedureTree, RestrictedTree, StatementKindTree, StatementTree, StatementTrees, StringConstant, StringTree, SubjectTree, ValueListTree}, declared.declaration.Linkage.{Linkage, TheVariants.{External, Public}}, declared.declaration.ScalarType.{ScalarType, TheVariants.{Address, Byte}}, declared.identifier.Identifier.{Identifier}, declared.identifier.Place.{Place as WordPlace}}
pub use Rattle.names.specs.{Environment.{into_list, is_declared_again}, DeclaredNames.{declared_by, labels_of}, declared.entity.Binding.{Binding, TheVariants.{Declared}}, declared.entity.Entity.TheVariants.{Object, Procedure}}
pub use Rattle.typed_trees.specs.{ExpressionTypes.{type_of}, Frames.{AreParameters, HasParameters, home_of_parameters}, Globals.{ListsGlobals}, Jumps.{BodyIsSound, JumpsAreSound, ListStands}, ObjectParts.{IsPartOf, IsScalar, IsScalarOf}, Sizes.{count_of, scalars_of_element, scalars_of_elements, size_of_element, size_of_object, size_of_scalar}, Storable.{HasPlace, IsStorable}, TypedTrees.{AssignmentNode, AssignmentStatement, At, BasedOn, BinaryNode, CallNode, CallStatement, CaseStatement, ConversionNode, DoStatement, ElseStatement, Elsewhere, FunctionNode, GotoStatement, HaltStatement, Home, IfStatement, InConstants, InData, InFrame, InputNode, LabelStatement, ListNode, ListOf, LocationNode, LoopStatement, MoreArguments, MoreStatements, MoveStatement, NoArguments, NoElse, NoStatements, NoSubscript, Nowhere, NullStatement, NumberNode, ObjectType, PartOf, Placed, ReturnStatement, SentTo, ShiftNode, StoredIn, Subscript, TypedArguments, TypedElse, TypedExpression, TypedHead, TypedIteration, TypedList, TypedModule, TypedObject, TypedProcedure, TypedReference, TypedStatement, TypedStatements, TypedTarget, UnaryNode, ValueNode}, WellTyped.{Counts, HasLocation, IsReturned, IsSeen, IsWellTyped, LiesFor, RefersToLocation, RefersToScalar, Takes, TypesHold, TypesHoldIn, TypesHoldInArguments, TypesHoldInElse, TypesHoldInHead, TypesHoldInIteration, TypesHoldInList, TypesHoldInProcedure, TypesHoldInReference, TypesHoldInStatements, TypesHoldInSubscript, TypesHoldInTarget, TypesHoldInTargets, Within, WithinMain, WithinProcedure, types_of}, declared.limits.TheConstants.{FRAME_LIMIT, OBJECT_LIMIT}, declared.parts.AtAddress.{AtAddress}, declared.parts.InitialValue.{InitialValue, TheVariants.{ByteValue, LocationValue, WordValue}}, declared.parts.Visibility.{Visibility}}
unfoldable pub use Rattle.typed_trees.specs.Charge.{charge_of}
pub use Rattle.typing.proofs.{Kept.{Gives, gives_after, gives_fault, gives_ok, in_turn, is_found, required, then_more}, Parameters.Closing.{at_place}, Parameters.Opening.{opens_procedure}, Parameters.ParametersOfTexts.{Same, assignment_same, call_same, goto_same, head_same, return_same, value_same}, Tables.{keeps_append}}
pub use Rattle.typing.specs.{Blocks.{Block, OfProcedure, Owner, Progress, TheModule, is_external, is_external_linkage, is_module, is_module_level, is_public_linkage}, Constants.{number_of_characters}, Filling.{ANumber, AsListed, Contents, Elements, Extents, Filled, FromObject, NoArray, OtherModulesToo, RestrictedValue, enough_elements, place_of_origin}, Items.{TypedItem, base_of, home_with_values, is_data, is_plain, object_named, place_of_item, place_of_storage, size_of_item, with_typed_object}, Modules.{at_the_beginning, inner_block, module_block}, Procedures.{own_block}, References.{Known, place_of as place_of_word}, Statements.{labels_before, with_here}, declared.fault.Cause.TheVariants.{DeclaredTwice, ExternalContents, MisplacedValues, NoVariable, NotByte, StringNotNumber, TooLarge}, internal.Checks.{Checked, found, require, ◌>>=◌}, internal.ConstantChecks.{number_of_constant, with_offsets}, internal.Expressions.{arguments}, internal.FillingChecks.{contents, fill, fill_characters, fill_scalar, fill_string, fill_value, restricted_value, static_bound, static_object, with_address}, internal.ItemChecks.{check_linkage, declare_element, declare_elements, declare_item, declare_names, extents_of, typed_at, typed_base, typed_contents, typed_item, typed_type, with_objects}, internal.ProcedureChecks.{check_body, parameter_objects}, internal.ReferenceChecks.{bound}, internal.StatementChecks.{declare_labels, list_of, without_label}, internal.Typing.{alone, cases, declaration, declarations, else_part, kind, labelled, statements}}
unfoldable pub use Rattle.typing.specs.internal.Typing.{typing_of}
pub use Rattle.layout.proofs.{Declared.{Decides-declared, Decides-holds, writable_told}, Mains.{main_counted}, Meant.{MeansObject, MeansProcedure, external_object_meant, external_procedure_meant, procedures_agree}, StartingBytes.{starts_as}, Visibilities.{not_external}}
pub use Rattle.layout.specs.{Joined.{DeclaredObject, DeclaredProcedure, InProgram, agree, is_main, is_public_procedure, object_meant, procedure_meant}, Lawful.{HasAddresses, IsLawful}, Placement.{AtPiece, ConstantPiece, EndsInMemory, IsDeclared, IsWritable, ModulePlacement, PieceKind, PlacedPiece, Placement, StaticPiece, holds_byte, is_declared, kind_of, list_piece, object_piece, piece_of, pieces_of_module}, Sound.{IsSoundlyTyped}, StartingMemory.{StartsAs, meant_in, values_in}}
unfoldable pub use Rattle.layout.specs.{StartingMemory.{starting_memory}}
pub use Rattle.meaning.proofs.{AgreementStatements.{later_is_meant}, Kept.{follows_itself, reads_scalar}, KeptCalls.{later_keeps, sets_parameters}, KeptParts.{displacement_keeps, located_keeps, stored_keeps, value_keeps, values_keep}, KeptStatements.{list_keeps, statement_keeps}, LabelPlaces.{rest_at}, Staying.{Stays, body_stays, no_jump}}
pub use Rattle.meaning.specs.{Access.{InMemory, Place, Surroundings, address_of, frame_bytes, home_in, home_of, is_constant, place_in, place_of, read_scalar}, Meaning.{Displacement, Later, based_place, called, callee_in, charged, displaced, displacement, done, done_list, entered, frame_of, is_frame_of, later_by, located, parameters_set, procedure_at, rest_from, stored, value, values}, Outcomes.{Flow, Gave, Jumped, Onward, Outcome, Outside, Program, Returned, State, Stopped, then_do}, Run.{main_done, number_of_main}, declared.reason.Reason.TheVariants.{Stack}, internal.Kept.{Continues, Extra, Follows, Keeps, jump_took, nothing_else}}
pub use Rattle.meaning_laws.specs.internal.Meant.{CallIsMeant, CalleeIsMeant, ChangesWritable, GivesBytes, GivesInMemory, GivesSoMany, HasAddress, HasBytes, HasMain, IsCallee, IsNamed, IsPlaced, IsThere, IsWhole, JumpTakesOne, Leaves, LeavesBytes, LeavesFrame, LeavesMain, LeavesProcedure, LiesThere, ListIsPlaced, ObjectIsMeant, OnlyWritableDiffer, ParametersAreThere, ReferenceIsMeant, VariableIsMeant}
pub use Rattle.meaning_laws.specs.internal.Places.{ArePlaceable, HasDeclaredBytes, IsPlaceable, LiesIfPublic, LocatesObject, LocatesObjects, LocationLies, LocationsLie, ObjectsLie, PublicsLie, StandsForBytes}
