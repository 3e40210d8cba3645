-- The names that the proofs of this crate cite, passed on from one place. Declares nothing.
pub use Rattle.std.proofs.{Common.{Bool, Err, List, None, Ok, Option, Some, [], ap, append-nil, append_assoc, arith, cond, false, flat_map, inl, inr, is_some, length, map, option_map, refl, replicate, slice_index, subst, suc, sym, take, true, zero, ℕ, ◌%◌, ◌&&◌, ◌*◌, ◌++◌, ◌+◌, ◌-◌, ◌<◌, ◌||◌, ◌∙◌, ◌∷◌, ◌≡◌, ◌≤◌, ◌⊎◌}, lemmas.Bool.{and_from, and_parts, eq-eqb, eqb-true, false≢true, leb-true}, lemmas.Grind.{flat_map-append}, lemmas.List.{get_or_past, length-append, replicate-append-replicate}, lemmas.List.Elements.{recursion_from_All}, lemmas.List.Sums.{sum_by-cons, sum_by-take-le, take_while-cons}, lemmas.Option.{get_or_from_slice_get, none-some, slice_get_past, unwrap_or-slice_get}}
pub use Rattle.std.specs.{List.{AllByRecursion, cons_option, enumerate_from, list_all, list_any}, Option.{option_and_then, option_map_or}, Prelude.{All, IsSomeAnd, filter_map, if◌then◌else◌, min, nat_le, nat_lt, not, slice_get, slice_index_or, sum_by, take_while, unwrap_or, ◌==◌}}
pub use Rattle.mem80.proofs.Lists.{got_before, got_numbered}
pub use Rattle.mem80.specs.{Memory.{byte_at}, declared.memory.TheConstants.{MEMORY_SIZE}}
pub use Rattle.trees.proofs.Lists.{got_first}
pub use Rattle.trees.specs.{declared.declaration.ScalarType.{ScalarType, TheVariants.{Address, Byte}}, declared.functions.ByteOfValue.TheVariants.{HighByte}, declared.functions.UnaryFunction.{UnaryFunction}, internal.Functions.{byte_taken}}
pub use Rattle.typed_trees.specs.{ExpressionTypes.{type_of}, Globals.{ListsGlobals, global_object, is_shared, shared_object}, Sizes.{size_of_object}, Storable.{HasPlace, IsStorable, LooksAtPlace, LooksBack, bytes_filled, constant_number, numbered_constant, object_in, size_of_value}, TypedTrees.{AssignmentNode, At, BasedOn, BinaryNode, CallNode, ConversionNode, Elsewhere, FunctionNode, Home as TypedHome, InConstants, InData, InFrame, InputNode, ListNode, LocationNode, NoSubscript, Nowhere, NumberNode, PartOf, Placed, ShiftNode, Subscript, TypedExpression, TypedModule, TypedObject, TypedReference, UnaryNode, ValueNode}, Weight.{constant_bytes, size_of_constant}, declared.parts.AtAddress.TheVariants.{AtNumber, AtObject}, declared.parts.ConstantItem.{ConstantItem, TheVariants.{ConstantList, ConstantObject}}, declared.parts.GlobalItem.{GlobalItem, TheVariants.{GlobalObject, GlobalProcedure}}, declared.parts.InitialValue.{InitialValue, TheVariants.{ByteValue, LocationValue, WordValue}}}
pub use Rattle.layout.proofs.{Resolving.{further}, Segments.{constants_length, data_length, of_all}}
pub use Rattle.layout.specs.{Segments.{Absolute, After, Location, Places, SegmentByte, SegmentStart, Target, address_of_location, constant_places, data_places, further_on, location_by_home, location_in, location_of, locations_after, places_by_home, places_in, places_of_bytes, places_of_constant, places_of_location, places_of_object, places_of_value}, StartingMemory.{values_in}, Storage.{Storage, bytes_in_constants, bytes_in_data, constants_before, data_bytes, fits_as_list, fits_as_object, is_list, is_object, slot_of_list, slot_of_object, storage_with}, declared.fault.Fault.TheVariants.{ConstantsTooLarge, DataTooLarge}, declared.slot.Segment.TheVariants.{Code, Data}, declared.slot.Slot.{Slot}, declared.slot.TheConstants.{SEGMENT_LIMIT}}
unfoldable pub use Rattle.layout.specs.Storage.{storage_of}
pub use Rattle.meaning.specs.{Access.{InMemory, InTheFrame, Surroundings, frame_bytes, home_of, is_declared, next_place, place_in, place_of, read_byte, read_scalar}, Meaning.{Later, address_in_memory, address_of_list, based_place, computed, displaced, displacement, located, no_displacement, taken_in, value}, Outcomes.{Ended, Gave, More, Outcome, Outside, Program, State, Stopped, then_do}, Values.{as_type, function_of, result_of, result_of_one, shifted}, declared.reason.Reason.TheVariants.{Byte as UndeclaredByte, Divide}}
pub use Rattle.treecode.proofs.{KeptValues.{known_kept, known_of_node, node_traits}, KnownMeans.{known_value_tells}, SameTraits.{same_of_both}}
pub use Rattle.treecode.specs.{internal.Contents.{constant_object, constants_from, content_of, place_from, public_item, public_object, size_of_value as bytes_of_value, static_object, static_place, variables_from, with_constant, with_gap, with_gap_if_any, with_object}, internal.Homes.{external_from, external_name, external_number, external_object, external_place, externals_of, home_after, home_of_object, homes_from, is_global_object, latest, number_of_place, place_after, place_of_slot}, internal.Known.{known_value, offset_of_list, place_of_part}, internal.Lowered.{IsAbsent, IsBinary, IsCallOf, IsConstantList, IsConversion, IsEmbedded, IsExpression, IsForm, IsFunction, IsIndex, IsInput, IsLocation, IsLowered, IsNode, IsNumber, IsPart, IsReference, IsShift, IsSubscript, IsUnary, IsValue}, internal.Nodes.{Nodes, home_at, nodes_of}, internal.Resolved.{HaveOperands, Resolves}, internal.Traits.{KeepTraits, byte_after, distance_of, free_at, has_immediate, is_direct, is_free_form, is_free_of, is_free_with, is_of_low_byte, is_quiet_form, known_at, known_of, number_at, place_of_reference, quiet_at, reference_is_quiet, reference_stores_nothing, stores_nothing_in_form, storing_nothing_at, subscript_is_quiet, subscript_stores_nothing}, declared.expression.Expression.{Expression}, declared.expression.ExpressionForm.{ExpressionForm}, declared.expression.ExpressionNumber.{ExpressionNumber}, declared.module.Content.{Content, TheVariants.{Gap, Word}}, declared.module.ExternalName.{ExternalName as External, ExternalName}, declared.module.PublicName.{PublicName}, declared.module.TreeModule.{TreeModule}, declared.place.Home.{Home}, declared.place.Place.{Place, TheVariants.{Number}}, declared.reference.Reference.{Reference}, declared.reference.Subscript.{Subscript as IndexNode}, declared.traits.Traits.{Traits}}
unfoldable pub use Rattle.treecode.specs.{internal.Contents.{constants_of, variables_of}, internal.Homes.{homes_of}, internal.Traits.{traits_of}}
pub use Rattle.treecode_laws.specs.internal.Laid.{IsLaidOut, IsStored}
pub use Rattle.treecode_laws.specs.internal.Evaluations.{AddsAtMost, Answer, AreAlike, AreSame, BothOutside, Fails, Found, GoesOutside, IsQuiet, MayStandFor, OnlyAdds, StoresNothing, may_exchange, outcome_of}
pub use Rattle.treecode_laws.specs.internal.Places.{IsHere, IsStatic, KeepWords, KeepsWord, location_of_place, places_of_content, places_of_contents}
pub use Rattle.treecode_laws.specs.internal.Trees.{index_is_quiet, index_stores_nothing, is_quiet, part_is_quiet, part_stores_nothing, stores_nothing}
