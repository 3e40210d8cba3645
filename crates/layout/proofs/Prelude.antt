-- The names that the proofs of this crate cite, passed on from one place. Declares nothing.
pub use Rattle.std.proofs.{Common.{Bool, Decides, Err, IsTrue, List, None, Ok, Option, Result, Some, [], add-one, add_assoc, ap, append-nil, ap₂, arith, cond, drop, eqb, false, flat_map, get_or, if◌then◌else◌, inl, inr, length, map, min, nat_lt, one-add, option_map, refl, replicate, slice_index, slice_set, subst, suc, sym, take, true, vec_items, zero, ℕ, ◌%◌, ◌*◌, ◌++◌, ◌+◌, ◌-◌, ◌/◌, ◌<◌, ◌∙◌, ◌∷◌, ◌≡◌, ◌≢◌, ◌≤◌, ◌⊎◌}, Math.Dec.{eqb-suc-suc, eqb-suc-zero, eqb-zero-suc}, Math.ListN.{drop_of_length-le}, Math.Seq.{drop-cons, take-append_seam}, lemmas.Bool.{and_from, and_parts, cases_lt, eq-eqb, eqb-true, false≢true, le-leb, leb-true, lt-leb, lt-ltb, ltb-false, ltb-true, not-false, or_left, or_parts, or_right}, lemmas.Bool.Decides.{Decides-and, Decides-ltb, nat_tests}, lemmas.Iterator.Adapters.{position_from-zero}, lemmas.List.{append_assoc, get_or-set_other, get_or-set_same, length-append, length-map, length-replicate, length-set}, lemmas.List.Concat.{flat_map-cons, length-flat_map}, lemmas.List.Elements.{All-append, All-cons, All-filter, All-get_or, All-nil, filter-append, filter_map-append, recursion_from_All}, lemmas.List.Folds.{Any-from_list_any, list_any-from_Any}, lemmas.List.Sums.{get_or-le-sum_by, list_all-from_AllPass, sum_by-append, sum_by-cons, take_while-cons}, lemmas.Option.{get_or_from_slice_get, none-some, slice_get-get_or, slice_get_within}, lemmas.Slice.Eq.{bytes_eq-Decides}}
pub use Rattle.std.specs.{List.{AllByRecursion, cons_option, enumerate_from, list_all, list_any, position_from, prefix_len}, Option.{option_map_or, option_or}, Prelude.{All, AllPairs, Contains, IsSomeAnd, Vec, filter, filter_map, find, fold, max, nat_le, not, slice_get, sum, sum_by, take_while, unwrap_or, zip, ◌&&◌, ◌==◌, ◌||◌, ◌↔◌}, Str.{bytes_eq}}
pub use Rattle.mem80.proofs.{Booleans.{or_kept}, Lists.{got_before, got_behind, got_both, got_in_front}, Options.{both_are_none, none_before_map}}
pub use Rattle.mem80.specs.{Memory.{byte_at}, Range.{IsIn, Meets}, declared.memory.TheConstants.{MEMORY_SIZE}, declared.range.Range.{Range}}
pub use Rattle.typed_trees.proofs.Lists.{got_first, some_and}
pub use Rattle.typed_trees.specs.{Globals.{IsHereIfPublic, ListsGlobals, global_object as number_shared, global_procedure as number_seen, is_global, is_shared, shared_object, shared_procedure}, Sizes.{size_of_object}, Storable.{HasPlace, IsStorable, LooksAtPlace, LooksBack, bytes_filled, constant_number, list_in, numbered_constant, numbers_from, object_in, size_of_value}, TypedTrees.{BasedOn, Elsewhere, Home, InConstants, InData, InFrame, Nowhere, Placed, TypedModule, TypedObject, TypedProcedure}, Views.{module_view, object_view}, Weight.{constant_bytes, size_of_constant}, declared.module.TypedObject.{TypedObject as Object}, declared.parts.AtAddress.TheVariants.{AtNumber, AtObject}, declared.parts.ConstantItem.{ConstantItem, TheVariants.{ConstantList, ConstantObject}}, declared.parts.GlobalItem.{GlobalItem, TheVariants.{GlobalObject, GlobalProcedure}}, declared.parts.InitialValue.{InitialValue, TheVariants.{ByteValue, LocationValue, WordValue}}, declared.parts.Visibility.{Visibility, TheVariants.{External, Private, Public}}}
pub use Rattle.layout.specs.Following.{Bases, FollowsBases, FollowsStorage, LiesInSlot, address_of_slot, base_of}
pub use Rattle.layout.specs.Lawful.{AreDisjoint, HasAddresses, IsLawful, LiesByHome, LiesIn, LiesWhereAtSays}
pub use Rattle.layout.specs.Placement.{ConstantPiece, EndsInMemory, IsConstant, IsDeclared, IsOneOf, IsWritable, ModulePlacement, PlacedPiece, Placement, StaticPiece, constant_pieces, has_own_place, holds_byte, is_constant, is_declared, kind_of, list_piece, object_piece, own_pieces, piece_of, pieces_of, pieces_of_module}
pub use Rattle.layout.specs.Segments.{Absolute, After, Location, Places, SegmentByte, SegmentStart, Target, address_of_location, constant_places, data_places, further_on, location_by_home, location_in, location_of, locations_after, places_by_home, places_in, places_of_bytes, places_of_constant, places_of_fixed_word, places_of_location, places_of_object, places_of_value, resolved, resolved_after}
pub use Rattle.layout.specs.StartingMemory.{Contents, Covers, IsAmong, StartsAs, address_of_object, bytes_of_value, bytes_of_word, contents_of, contents_of_list, contents_of_module, contents_of_object, values_in, written}
unfoldable pub use Rattle.layout.specs.StartingMemory.{starting_memory}
pub use Rattle.layout.specs.Storage.{Storage, bytes_in_constants, bytes_in_data, constants_before, constants_fit, data_bytes, fits_as_list, fits_as_object, is_list, is_object, slot_of_list, slot_of_object, storage_with}
unfoldable pub use Rattle.layout.specs.Storage.{storage_of}
pub use Rattle.layout.specs.declared.slot.Segment.TheVariants.{Code, Data}
pub use Rattle.layout.specs.declared.slot.Slot.{Slot}
pub use Rattle.layout.specs.declared.slot.TheConstants.{SEGMENT_LIMIT}
pub use Rattle.layout.specs.internal.Offsets.{HasItsConstants, OffsetTables, list_slots_from, offset_in, offset_or, or_first, put, put_all, put_first, slot_at, slots_from}
