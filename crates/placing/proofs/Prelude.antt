-- The names that the proofs of this crate cite, passed on from one place. Declares nothing.
pub use mathlib.Core.Bool.{or-false, or-true, true≢false}
pub use mathlib.Core.Logic.{inl, inr, ⊎_elim}
pub use Rattle.std.proofs.{Common.{Bool, Decides, List, None, Option, Some, [], add-one, ap, arith, cond, drop, false, get_or, if◌then◌else◌, length, map, max, min, nat_eq, nat_le, not, refl, replicate, set, subst, suc, sym, take, true, vec_items, zero, ℕ, ◌%◌, ◌&&◌, ◌++◌, ◌+◌, ◌-◌, ◌<◌, ◌∙◌, ◌∷◌, ◌≡◌, ◌≤◌}, Math.Bool.{or_assoc}, Math.Decide.{dec_le}, Math.ListN.{drop_of_length-le}, Math.Nat.{mod-eq_of_lt, mod-le}, Math.Seq.{drop-cons, take-append_seam}, lemmas.Bool.{and_from, and_parts, cases_eq, cases_lt, eq-eqb, eqb-false, eqb-true, false_from_ne_true, false≢true, le-leb, leb-true, lt-leb, lt-ltb, ltb-false, ltb-true, not-true, or_left, or_right}, lemmas.Bool.Decides.{nat_tests, same_from_decides}, lemmas.List.{append_assoc, get_or-set_other, get_or-set_same, get_or_append_left, get_or_default, length-append, length-map, length-replicate, length-set, map-append, take_all}, lemmas.List.Concat.{flat_map-cons}, lemmas.List.Elements.{All-from_recursion, filter-append, recursion_from_All}, lemmas.List.Folds.{find-append}, lemmas.List.Kept.{AllPairs-cons}, lemmas.List.Sums.{sum_by-cons, take_while-cons}, lemmas.Option.{get_or_from_slice_get, none-some, slice_get_read, slice_get_within}}
pub use Rattle.std.specs.{List.{AllByRecursion, cons_option, enumerate_from, list_any}, Option.{option_map_or, option_or}, Prelude.{All, AllPairs, Any, IsTrue, filter, filter_map, find, flat_map, fold, nat_lt, option_and_then, option_map, slice_get, slice_index, slice_index_or, sum, sum_by, take_while, zip, ◌==◌, ◌||◌, ◌↔◌, ◌⊎◌}}
pub use Rattle.mem80.proofs.{Booleans.{same_test}, Lists.{all_append, all_both, all_mapped, all_weaker}, Numbers.{at_most_more, first_below}, Options.{both_are_none, none_before_map}}
pub use Rattle.mem80.specs.{Range.{IsIn, Meets}, declared.memory.TheConstants.{MEMORY_SIZE}, declared.plan.Plan.{Plan as CodePlan}, declared.range.Range.{Range}}
pub use Rattle.trees.proofs.Lists.{drop_past, got_first}
pub use Rattle.typed_trees.specs.{Sizes.{size_of_object}, Storable.{IsStorable, LooksBack, constant_number, list_in, numbered_constant, numbers_from, object_in}, TypedTrees.{BasedOn, Elsewhere, Home, InConstants, InData, InFrame, Nowhere, Placed, TypedModule, TypedObject}, Views.{module_view, object_view}, Weight.{constant_bytes, size_of_constant}, declared.module.Typed.{Typed}, declared.parts.AtAddress.{AtAddress, TheVariants.{AtNumber, AtObject}}, declared.parts.ConstantItem.{ConstantItem, TheVariants.{ConstantList, ConstantObject}}}
pub use Rattle.layout.proofs.{Declared.{Decides-one_of}, Misplaced.{misplaced_by_name}, Placements.{addresses_of, range_in_memory, split_addresses}, Ranges.{overlaps_meets}, Slots.{data_push}, Sums.{capped_end, left_first, view_first}}
pub use Rattle.layout.specs.{Following.{Bases, address_of_slot}, Lawful.{AreDisjoint, HasAddresses, IsLawful, LiesByHome, LiesIn, LiesWhereAtSays}, Placement.{AtPiece, ConstantPiece, EndsInMemory, IsOneOf, ModulePlacement, PieceKind, PlacedPiece, Placement, StaticPiece, address_at, has_own_place, holds_byte, is_constant_piece, kind_of, list_piece, object_piece, piece_of, pieces_of, pieces_of_module, range_of}, Placing.{ObjectMisplaced, PassesMemory, Plan, RangesOverlap, SegmentTooLarge, address_by_home, addresses_after, bases_from, code_range, data_range, first_misplaced, has_at, is_misplaced, may_not_lie, module_placement_by, overlapping, overlaps, passes_memory, past_memory, placed_objects, segment_too_large, stack_range}, Storage.{Storage, bytes_in_data, constants_before, data_bytes, is_list, is_object, slot_of_list, slot_of_object, storage_with}, Views.{layout_view}, declared.slot.Layout.{Layout}, declared.slot.Segment.{Segment, TheVariants.{Code, Data}}, declared.slot.Slot.{Slot}, internal.Offsets.{slot_at}}
unfoldable pub use Rattle.layout.specs.Placing.{placement_by, placing_refusal}
pub use Rattle.join.specs.Views.{modules_of}
pub use Rattle.placing.specs.Segments.{HaveStorage, HoldsConstants}
pub use Rattle.placing.specs.Views.{module_placement_view, placement_view, plan_view, refusal_of}
pub use Rattle.placing.specs.declared.table.ByteKind.TheVariants.{Undeclared}
pub use Rattle.placing.specs.declared.placement.ModulePlacement.{ModulePlacement as CodeModulePlacement}
pub use Rattle.placing.specs.internal.Claims.{are_claimed, claim_by_kind, claim_bytes, claim_found, claim_if, claim_lists, claim_modules, claim_objects, claim_pieces, home_fits, may_hold_constants, may_hold_variables, modules_fit, objects_fit}
unfoldable pub use Rattle.placing.specs.internal.Claims.{all_fit, claim_between, claim_module, claim_object, claim_piece, claimed_between, ends_in_memory, is_lawful, is_within, may_lie_at, module_fits, object_fits, ranges_fit, ranges_meet, unclaimed}
pub use Rattle.placing.specs.internal.Placings.{bases_after, bases_view, code_placements, data_sizes, layout_sizes, name_of_misplaced, placements_from, range_refusal}
pub use Rattle.placing.specs.internal.Reaches.{ReachTables, byte_kind, end_of, is_covered, kind_in, no_reaches, raised, reach_below, with_end, with_piece, with_pieces}
unfoldable pub use Rattle.placing.specs.internal.Reaches.{no_ends}
