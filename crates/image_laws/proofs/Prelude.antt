-- The names that the proofs of this crate cite, passed on from one place. Declares nothing.
pub use Rattle.std.proofs.{Common.{All, Bool, IfSome, List, None, Ok, Option, Some, [], ap, ap₂, arith, cond, false, filter_map, find, flat_map, get_or, if◌then◌else◌, inl, inr, is_some, length, length-append, map, nat_lt, not, option_and_then, option_map, refl, replicate, subst, suc, sum_by, sym, take, true, unwrap_or, zero, ℕ, ⊎_elim, ◌%◌, ◌&&◌, ◌*◌, ◌++◌, ◌+◌, ◌-◌, ◌/◌, ◌<◌, ◌==◌, ◌||◌, ◌∙◌, ◌∷◌, ◌≡◌, ◌≤◌, ◌⊎◌}, lemmas.Bool.{and_parts, cases_lt, eqb-true, le-ltb, lt-ltb, ltb-true, not-false, not-true, or_parts, or_right}, lemmas.Iterator.Adapters.{position_from-zero}, lemmas.List.{length-map, length-replicate, map-append}, lemmas.List.Elements.{All-from_recursion, filter-append, filter_map-append, recursion_from_All}, lemmas.List.Folds.{list_any-append}, lemmas.List.Sums.{sum_by-cons}, lemmas.Option.{get_or_from_slice_get, none-some, same_Some, slice_get-get_or, slice_get-map, slice_get_past, slice_get_within}, lemmas.Slice.Eq.{bytes_eq-Decides}}
pub use Rattle.std.specs.{List.{AllByRecursion, cons_option, enumerate_from, list_all, list_any}, Option.{is_none, option_flatten, option_map_or, option_or}, Prelude.{IsSomeAnd, count_by, filter, slice_get, slice_index, sum, zip}, Str.{bytes_eq}}
pub use Rattle.mem80.proofs.{Lists.{all_append, got_behind, got_both, got_in_front, got_numbered}, Numbers.{one_moved}, Options.{both_are_none, none_before_map, or_none_same}}
pub use Rattle.mem80.specs.{Memory.{byte_at}, Pieces.{IsLoaded}, Range.{IsIn, address_past, ranges_meet}, declared.memory.TheConstants.{MEMORY_SIZE}}
pub use Rattle.typed_trees.specs.{Globals.{IsHereIfPublic, ListsGlobals}, Sizes.{size_of_object}, Storable.{HasPlace, IsStorable, bytes_filled}, TypedTrees.{BasedOn, Elsewhere, Home, InConstants, InData, InFrame, Nowhere, Placed, TypedModule, TypedObject}, declared.parts.InitialValue.{InitialValue, TheVariants.{ByteValue, LocationValue, WordValue}}}
pub use Rattle.layout.proofs.{Declared.{Decides-declared, Decides-holds, writable_not_in_code}, Locations.{location_is}, Mains.{one_is_main}, Meant.{MeansObject, external_object_meant, first_position}, Misplaced.{misplaced_by_name}, PlacedLocations.{AreBases, lies_at_location}, Placements.{module_follows}, Resolving.{addresses, resolved_length, set, starting_bytes}, Segments.{constants_length, data_length, list_resolved, object_resolved, of_all}, StartingBytes.{starts_as}, Sums.{bytes_written}}
pub use Rattle.layout.specs.{Following.{Bases, FollowsBases, LiesInSlot, address_of_slot}, Joined.{Global, InProgram, IsJoined, declared_otherwise, externals_of, first_found, first_repeated, globals_of, in_module, is_main, lacks_public, not_one_main, object_meant, public_object_in, public_twice, publics_of, without_public}, Lawful.{HasAddresses, LiesWhereAtSays}, Placement.{AtPiece, ConstantPiece, EndsInMemory, ModulePlacement, PlacedPiece, StaticPiece, holds_byte, is_constant, is_constant_piece, is_declared, kind_of, list_piece, object_piece, piece_of, pieces_of, pieces_of_module, range_of}, Placing.{ObjectMisplaced, PassesMemory, PassesMemory as PlacingPassesMemory, Plan as PlacingPlan, RangesOverlap, SegmentTooLarge, address_by_home, addresses_after, bases_from, code_range, data_range, is_misplaced, module_placement_by, overlaps, passes_memory, placed_objects, stack_range}, Segments.{Absolute as AtNumber, After, ExternalName, Location, Places, SegmentByte, SegmentStart, Target as ModuleTarget, address_of_location, constant_places, data_places, high_resolved, location_by_home, location_of, locations_after, low_resolved, places_in, resolved_after, value_after as value_later, value_resolved}, StartingMemory.{Contents, Covers, IsAmong, StartsAs, address_in, address_of_object, bytes_of_value, bytes_of_word, contents_of, contents_of_list, contents_of_module, contents_of_object, values_in}, Storage.{bytes_in_data, data_bytes, slot_of_list, slot_of_object, storage_with}, declared.slot.Segment.{Segment as SlotSegment}, declared.slot.Slot.{Slot}}
unfoldable pub use Rattle.layout.specs.{Joined.{join_refusal}, Placing.{placement_by, placing_refusal}, StartingMemory.{starting_memory}}
pub use Rattle.omf80.specs.Records.{first_that_holds}
pub use Rattle.object_modules.proofs.Allowed.{IsAllowed, allowed}
pub use Rattle.object_modules.specs.{Before.{is_empty}, Displacements.{Linked, all_publics, code_end, data_end, displacement_in, gain_in, linked_after, linked_from, linked_modules, public_meant, public_moved, public_named, publics_moved, start_after, start_of, target_kept, target_of_public}, Image.{ExternalLeft, HighByteBroken, Image, NoStart, PageBroken, Plan, SegmentsMeet, at_address, base_of, breaks_page, gain_at, image_of, placed, placed_bytes, range_at}, Merge.{DuplicatePublic, HighByteMoves, NotOneMain, SegmentTooLong, UnresolvedExternal, code_piece, data_piece, is_too_long, joined, joined_after, joined_alignment, last_end, main_modules, places_moved, public_names, repeated_after, some_high_byte_moves, some_segment_is_too_long, unless_refused, unresolved}, Module.{Fixup, IsObjectModule, ObjectModule, Public, SetByte, are_new, begins_word, holds_bytes, is_among, is_movable, is_page, is_plain, is_valid_public, length_of, may_have_publics, places_of, words_are_whole}, Moving.{after_fixup, byte_moved, bytes_resolved, first_byte_moved, fixup_moved, high_target, high_targets, moved, moved_after, second_byte_moved, value_after, value_moved}, Runs.{fixup_at}, declared.segment.Alignment.{Alignment, TheVariants.{Page}}, declared.segment.Fix.{Fix}, declared.segment.FixKind.{FixKind, TheVariants.{Both, High, Low}}, declared.segment.Segment.{Segment, TheVariants.{Absolute, Code, Data, Stack}}, declared.segment.Target.{Target, TheVariants.{External, InSegment}}}
unfoldable pub use Rattle.object_modules.specs.{Image.{image_at, placement_refusal}, Merge.{link_refusal, merge_of}}
pub use Rattle.object_laws.proofs.{Files.Accepted.{public_name}, Merges.FixesOfPlaces.{high_at}, Merges.MergeValid.{IsMerge, ValidLinked, code_ends_all, code_follow, code_pieces, data_ends_all, data_follow, data_pieces, linked_valid, main_of, merge_is, names_from, none_repeated, places_are, unless_ok}, Merges.MovedValid.{Piece, PiecesFollow, end_after, joined_length, moved_length, nothing_whole, whole_append, word_before}, Merges.Moves.{last_place, moved_in_parts, value_stays}, Texts.Groups.{all_halves}}
pub use Rattle.asm8080.specs.{Assembled.{Assembled, Assembles, fixed_bytes, fixes_of_items, layout_at, places_of as code_places, resolved, set_bytes, target_of, with_fix}, Items.{Assembly, Stands, size_of}, Standing.{SetBytesStand}, declared.item.Item.{Item, TheVariants.{Address, Byte, Gap, Mark, Plain, WithWord}}}
pub use Rattle.image_laws.specs.Objects.{IsObjectOf, segment_of}
pub use Rattle.image_laws.specs.Segments.{BeginWith, HasPublic, HasSegments, IsFix, IsPlace, IsPublicAt, IsTarget}
pub use Rattle.image_laws.specs.internal.AtPlans.{AreObjectsOf, BasesAgree, IsAtSlot, LengthsAgree, LengthsRefused, MergeMade, ProgramStands, RangesRefused, SlotsLie, StandsAt, bases_of, code_lengths_of, plan_of, refusal_of_merge}
pub use Rattle.image_laws.specs.internal.Code.{AssembledStands, CodeStands, HasSegment, ItemsOf, ItemsStand, addresses_of, retargeted, with_targets}
pub use Rattle.image_laws.specs.internal.InMemory.{BytesAreLoaded, MainStarts, ModuleStands, ObjectsStand, OthersStay, PublicLies, PublicsLie, RunsAreLoaded, SegmentStands, StartsAt, address_of_public, address_of_target, piece_base, segment_bytes}
pub use Rattle.image_laws.specs.internal.Linked.{IsLinked, placed_by}
pub use Rattle.image_laws.specs.internal.ProgramInMemory.{HaveSegments, IsInMemory, StartsAsItsSource, placement_of}
