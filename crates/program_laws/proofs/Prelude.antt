-- The names that the proofs of this crate cite, passed on from one place. Declares nothing.
pub use Rattle.std.proofs.{Common.{Bool, List, None, Ok, Option, Some, [], ap, append-nil, ap₂, arith, cond, false, find, get_or, inl, inr, is_some, length, map, min, not, option_map, refl, replicate, subst, suc, sum, sym, take, true, zero, zero-add, zip, ℕ, ⊎_elim, ◌%◌, ◌&&◌, ◌++◌, ◌+◌, ◌-◌, ◌/◌, ◌<◌, ◌||◌, ◌∙◌, ◌∷◌, ◌≡◌, ◌≢◌, ◌≤◌, ◌⊎◌}, lemmas.Bool.{and_parts, cases_lt, eq-eqb, eqb-true, false≢true, leb-true, lt-ltb, ltb-true, or_left, or_right}, lemmas.Iterator.Adapters.{position_from-zero}, lemmas.List.{get_or_push, length-append, length-map, length-replicate, length_push}, lemmas.List.Elements.{All-from_recursion, recursion_from_All}, lemmas.List.Folds.{find_at}, lemmas.List.FromFn.{length-enumerate_from}, lemmas.List.Sums.{sum_by-cons}, lemmas.Option.{get_or_from_slice_get, none-some, same_Some, slice_get-get_or, slice_get-map, slice_get_cases, slice_get_past, slice_get_within}, lemmas.Slice.Eq.{bytes_eq-Decides}}
pub use Rattle.std.specs.{List.{AllByRecursion, cons_option, enumerate_from, list_all, list_any, position_or_len}, Option.{option_and_then, option_map_or}, Prelude.{All, IfSome, IsTrue, bytes_eq, count_by, filter, filter_map, if◌then◌else◌, nat_le, nat_lt, slice_get, slice_index, sum_by, unwrap_or, ◌==◌}}
pub use Rattle.mem80.proofs.{Lists.{got_both, got_numbered}, Numbers.{word_of_high}}
pub use Rattle.mem80.specs.{Memory.{IsMemory, byte_at}, Pieces.{IsLoaded}, declared.memory.TheConstants.{MEMORY_SIZE}}
pub use Rattle.ports.proofs.Beginnings.{begins_itself}
pub use Rattle.ports.specs.{Events.{IsBeginning}, Input.{IsScript}, declared.event.Event.{Event}}
pub use Rattle.typed_trees.specs.{Globals.{IsHereIfPublic, ListsGlobals, global_procedure, is_global, is_shared, shared_object, shared_procedure}, Sizes.{size_of_object}, Storable.{HasPlace, IsStorable}, TypedTrees.{BasedOn, Elsewhere, Home as TypedHome, InConstants, InData, InFrame, ListOf, MoreStatements, NoStatements, Nowhere, Placed, TypedList, TypedModule, TypedObject, TypedProcedure, TypedStatements}, Weight.{constant_bytes}, declared.parts.ConstantItem.{ConstantItem, TheVariants.{ConstantList, ConstantObject}}, declared.parts.GlobalItem.{GlobalItem, TheVariants.{GlobalObject, GlobalProcedure}}, declared.parts.InitialValue.{InitialValue, TheVariants.{ByteValue, LocationValue, WordValue}}, declared.parts.Visibility.{Visibility}}
pub use Rattle.layout.proofs.{Declared.{Decides-declared, writable_told}, Locations.{location_is}, Mains.{main_counted}, Meant.{first_position}, PlacedLocations.{lies_at_location}, Placements.{HoldConstants}, Segments.{constants_length, of_all}, StartingBytes.{starts_as}}
pub use Rattle.layout.specs.{Following.{Bases, address_of_slot, base_of}, Joined.{Global, InProgram, IsJoined, first_found, global_object, global_of, has_statement, is_main, is_public_procedure, object_meant, procedure_meant, public_procedure_in}, Lawful.{HasAddresses, IsLawful, LiesWhereAtSays}, Placement.{ModulePlacement}, Placing.{Plan as PlacingPlan, bases_from, stack_range}, Segments.{After, ExternalName as Named, Location, Places, SegmentByte, SegmentStart, address_of_location, constant_places, data_places, location_by_home, location_of, locations_after}, StartingMemory.{address_in, address_of_object}, Storage.{Storage, bytes_in_data, data_bytes, slot_of_list, storage_with}, declared.slot.Segment.TheVariants.{Data}, declared.slot.Slot.{Slot}}
unfoldable pub use Rattle.layout.specs.{Placing.{placement_by, placing_refusal}, StartingMemory.{starting_memory}}
pub use Rattle.meaning.specs.{Access.{InMemory, Surroundings, address_of as object_address, home_in, home_of}, Meaning.{address_of_list, based_place, callee_in, later_by}, Outcomes.{Ended, Flow, Gave, More, Onward, Outcome, Outside, Program, State as SourceState, Stop, Stopped}, Run.{EndsIn, NeverOutside, Run, main_done, number_of_main, run_of, source_outcome}}
unfoldable pub use Rattle.meaning.specs.Run.{source_run}
pub use Rattle.object_modules.specs.{Displacements.{linked_modules, public_named}, Image.{Image, image_of}, Module.{Fixup, IsObjectModule, ObjectModule, Places as ObjectPlaces, Public, SetByte, is_among, is_page, is_target, is_valid_byte, is_valid_segment, words_are_whole}, Moving.{after_fixup, bytes_resolved, first_byte_moved, moved_after, value_after, value_moved}, Runs.{fixup_at}, declared.segment.Fix.{Fix}, declared.segment.FixKind.{FixKind, TheVariants.{Both, High, Low}}, declared.segment.Segment.{Segment}, declared.segment.Target.{Target, TheVariants.{External, InSegment}}, declared.segment.TheConstants.{SEGMENT_LIMIT}}
unfoldable pub use Rattle.object_modules.specs.Merge.{merge_of}
pub use Rattle.image_laws.proofs.{Images.NoHighs.{NoHighs, assembled_highs, no_high_targets}, Images.Retargeted.{resolved_retargeted}, Images.Starts.{main_starts}, Memory.Addresses.{IsHere, locations_length}, Memory.Lists.{some_within}, Memory.Meanings.{address_meant, found_place, public_lies}, Memory.Modules.{bases_found, begin_length, is_linked, lies_at}, Memory.Starting.{starts_as_its_source}, Merges.Names.{program_has_image}}
pub use Rattle.image_laws.specs.{Names.{HasNames, external_names_in, public_names_in}, Objects.{IsObjectOf}, Segments.{BeginWith, HasPublic, HasSegments, IsPublicAt, IsTarget}, internal.AtPlans.{AreObjectsOf, bases_of, code_lengths_of, plan_of}, internal.InMemory.{StartsAt, address_of_public, piece_base}, internal.Linked.{placed_by}, internal.Names.{HaveImage, HaveNames}, internal.ProgramInMemory.{HaveSegments, IsInMemory, placement_of}}
pub use Rattle.isa8080.specs.{Code.{bytes_of}, State.{HoldBytes, Registers, State, high_byte, low_byte, wrap}, Step.{running}, declared.instr.Instr.TheVariants.{Hlt}, declared.instr.Pair.TheVariants.{Sp}, declared.registers.Status.{Status, TheVariants.{Halted, Illegal, Running}}}
unfoldable pub use Rattle.isa8080.specs.Step.{state_after}
pub use Rattle.asm8080.proofs.{Assemblies.{flags_length}, Fixing.{cells_of_items, fixed_items, row_of, set_of_items}, Kept.{stands_size}, CodeInParts.{bound_in_parts}, Segments.{places_length, set_length}, ItemWords.{item_length}}
pub use Rattle.asm8080.specs.{Assembled.{Assembled, Assembles, fixed_bytes, fixes_of_items, layout_at, place_of, places_of, resolved, set_bytes}, Items.{Assembly, KnowsLabels, Layout, Stands, bytes_of_item, flags_of_items, instruction_with, is_bound, marks, offset_of, size_of, size_of_items, word_of}, Standing.{BytesStand, SetBytesStand}, declared.item.Item.{Item, TheVariants.{Address, Byte, Gap, Mark, Plain, WithWord}}, declared.item.Reference.{Reference, TheVariants.{AtLabel, AtNumber, AtTarget}}, declared.item.WordForm.TheVariants.{LoadPair}}
pub use Rattle.treecode.specs.{internal.Contents.{constant_object, constants_from, content_of, place_from, public_item, public_object, public_procedure, size_of_value, static_object, static_place, variables_from, with_constant, with_gap, with_gap_if_any, with_object}, internal.Homes.{external_name, external_number, external_object, external_procedure, externals_of, home_of_object, homes_from, is_global_procedure, kind_of, number_of_place, place_after}, internal.Known.{known_value, offset_of_list}, internal.Lowered.{AreMoreStatements, AreNoStatements, AreStatements, HasBody, IsList, IsListOf, IsLowered, labels_numbered_in_list}, internal.Nodes.{Nodes, home_at, nodes_of}, internal.Resolved.{HaveOperands, Resolves}, declared.lists.Range.{Range}, declared.module.Content.{Content, TheVariants.{Word}}, declared.module.ExternalName.{ExternalName}, declared.module.PublicName.{PublicName}, declared.module.PublicPlace.{PublicPlace, TheVariants.{Procedure}}, declared.module.TreeModule.{TreeModule}, declared.place.Home.{Home, TheVariants.{Static}}, declared.place.Place.{Place, TheVariants.{Number}}, declared.procedure.ProcedureKind.{ProcedureKind}, declared.procedure.TreeProcedure.{TreeProcedure}}
unfoldable pub use Rattle.treecode.specs.{internal.Contents.{constants_of, publics_of, variables_of}, internal.Homes.{homes_of}}
pub use Rattle.treecode_laws.proofs.{Externals.{Finds, finds_external}, Homes.{any_lies, object_lies}, Lowered.{code_is, data_is, data_length_is}, Operands.{known_gives}, Slots.{data_offset, list_offset}}
pub use Rattle.treecode_laws.specs.{internal.Laid.{IsLaidOut, IsStored}, internal.Places.{IsStatic, KeepWords, location_of_place, name_at, places_of_contents}}
pub use Rattle.frames.proofs.Homes.{earlier_kept}
pub use Rattle.frames.specs.internal.Frames.{HasFrame}
pub use Rattle.steps8080.specs.{internal.Externals.{Extends, entry}, internal.Instructions.{high, low}, internal.Writer.{Written, in_front, known_label, numbered, numbered_reference, place_of_known, place_of_label, stack_end_item}}
pub use Rattle.procedure_laws.specs.{internal.GeneratedModules.{AreCodeOf, ArePublicsOf, AreRoutines, AreTargets, IsAtPlace, IsCodeOf, IsCodeOfMain, IsCodeOfRoutine, IsGenerated, IsMainCode, IsNamed, IsOwnCode, IsProcedureCode, IsPublicOf, IsRoutineCode, IsSegmentOf, all_routines, contents_items, has_main, used_names}, internal.Targets.{retargeted}}
pub use Rattle.code_meaning.proofs.{Lawful.{placement_lies}, Sequences.{both_there}}
pub use Rattle.code_meaning.specs.{internal.Activations.{Activation, IsThere, Loaded, MayChange, Shares}, internal.Holding.{place_at}, Landing.{IsHalted, IsLeft, at_place}}
pub use Rattle.procedure_laws.proofs.{SiteNodes.{have_operands}, NumbersOfTrees.{IsTypedCode, has_types, numbers_of_lowered}}
pub use Rattle.procedure_laws.specs.{internal.CodeContexts.{RoutineIsAt}, ProgramTypes.{HasTypes}}
pub use Rattle.procedure_laws.proofs.{KnownCalls.{calls_known}, OneModule.{does_by_others, module_does}}
pub use Rattle.procedure_laws.specs.{Calls.{Entries}, Main.{ComesTo as Arrived, EndsAs}, internal.Modules.{MainStands, ModuleCode, ModuleLies, ProcedureStands, VariablesAreApart, bare}, OneModule.{AllCallsAreKnown, CallsFollow, ModuleDoes, OtherCallsAreKnown, around_in, in_module}}
pub use Rattle.program_laws.specs.Agreement.{Agrees}
pub use Rattle.program_laws.specs.MemoryAtEnd.{EndsAlike, HoldsAtEnd, MayBeChanged}
pub use Rattle.program_laws.specs.internal.Made.{AreMadeOf, IsMadeOf}
pub use Rattle.program_laws.specs.OneModule.{AreEntered, DoesWhereItLies, LiesInMemory, ShowsProcedures, bases_at, start_place}
pub use Rattle.program_laws.specs.internal.Typed.{AreSoundlyMade, IsSoundlyMade}
pub use Rattle.program_laws.specs.internal.Entering.{ModulesAre, entries_of}
pub use Rattle.program_laws.specs.internal.Layouts.{address_for, module_layout, written_layout}
pub use Rattle.program_laws.specs.internal.Linked.{ModuleIs, layout_of, made_of, public_address, targets_of}
pub use Rattle.program_laws.specs.internal.Performing.{ComesTo, ComesToHalt, Performs}
