-- The names that the proofs of this crate cite, passed on from one place. Declares nothing.
pub use mathlib.Core.Bool.{or-false, or_assoc}
pub use Rattle.std.proofs.{Common.{All, Bool, Bor, Err, IsTrue, List, None, Ok, Option, Result, Some, [], add-one, ap, arith, cond, drop, false, filter, filter_map, flat_map, fold, get_or, is_some, length, map, nat_le, nat_lt, not, option_map, refl, replicate, slice_get, subst, suc, sum_by, sym, true, zero, ℕ, ◌%◌, ◌&&◌, ◌++◌, ◌+◌, ◌-◌, ◌<◌, ◌==◌, ◌||◌, ◌∙◌, ◌∷◌, ◌≡◌, ◌≤◌}, Math.ListN.{set}, Math.Seq.{drop-cons}, lemmas.Bool.{and_parts, eq-eqb, eqb-true, le-ltb, leb-true, lt-ltb, ltb-false, ltb-true, ne_eqb, or_from, or_left, or_right}, lemmas.List.{append-nil, append_assoc, at_drop_all, get_or_append_left, length-append, length-map, length-replicate, length-set, map-append, set-append_left}, lemmas.List.Elements.{All-from_recursion, filter_map-append, recursion_from_All}, lemmas.List.Folds.{find_at, list_any-append}, lemmas.List.FromFn.{length-map-range_with_len}, lemmas.Option.{same_Some, slice_get-map, slice_get_past}}
pub use Rattle.std.specs.{List.{AllByRecursion, cons_option, list_all, list_any, position, position_or_len, range_with_len}, Option.{option_and_then, option_flatten, option_map_or, option_or}, Str.{bytes_eq}}
pub use Rattle.object_modules.proofs.{FixesOfRuns.{fixes_step}, StoredRuns.{some_width}}
pub use Rattle.object_modules.specs.{Before.{content_end, is_empty, same_segment}, Displacements.{Linked, Start, all_publics, code_end, data_end, displacement_in, gain_in, linked_after, linked_from, linked_modules, public_named, start_after, start_of, target_kept, target_of_public}, Merge.{DuplicatePublic, HighByteMoves, LinkRefusal, NotOneMain, SegmentTooLong, UnresolvedExternal, is_too_long, joined, joined_after, last_end, main_modules, places_moved, public_names, repeated_after, some_high_byte_moves, some_segment_is_too_long, unless_refused, unresolved}, Module.{Fixup, IsObjectModule, ObjectModule, Places, Public, SetByte, alignment_of, begins_word, is_among, is_page, is_plain, length_of, places_of, width_of, words_are_whole}, Moving.{first_byte_moved, second_byte_moved}, Parts.{Content}, Rules.{fix_end, is_within}, Runs.{bytes_of_run, fixes_of_run, with_run}, Spelling.{FixedContent, set_in}, Stored.{StoredSegment, are_longest}, Text.{Run, fixes_from, runs_from}, internal.Views.{AreKept, module_of_parts, owned_public_view}, Walking.{Walking, places_by}, internal.Walks.{alignment_by, length_by}, declared.object.ModuleParts.{ModuleParts}, declared.public.OwnedPublic.{OwnedPublic}, declared.segment.Alignment.{Alignment}, declared.segment.Alignment.TheVariants.{Byte, Page}, declared.segment.Fix.{Fix}, declared.segment.FixKind.{FixKind}, declared.segment.FixKind.TheVariants.{Both, High, Low}, declared.segment.Segment.{Segment}, declared.segment.Segment.TheVariants.{Absolute, Code, Data, Stack}, declared.segment.Target.{Target}, declared.segment.Target.TheVariants.{External, InSegment}, internal.Joining.{before_fixes, bytes_after, bytes_fixed, fix_kept, fixes_below, fixes_past, place_fixes, run_at, run_end, run_fixed, runs_fixed, with_runs}}
unfoldable pub use Rattle.object_modules.specs.{Merge.{link_refusal, merge_of}, Runs.{fixes_in, runs_of}, internal.Walks.{module_by}}
pub use Rattle.object_laws.proofs.{Booleans.{or_exchanged}, Files.Accepted.{Alike, any_moved}, Merges.FixesOfPlaces.{runs_fixes, target_if_high}, Merges.HighBytes.{gains_part, high_byte_moves, high_moves_by_fixes}, Merges.MergeValid.{later_start, main_of, mains_are, names_from, places_are}, Merges.MergedParts.{AreMerged, merged_code, merged_data, merged_kept, parts_merged}, Merges.MovedValid.{moved_length}, Merges.PiecesByRuns.{AllBelow, AllPast, Apart, below_first, past_append, past_others, runs_apart, runs_placed}, Merges.PiecesJoined.{fixes_with_piece, joined_step, run_placed, runs_with_piece, with_piece}, Merges.PlacesKept.{AllFrom, stored_of}, Merges.RunsJoined.{same_test}, Merges.RunsMoved.{fixed_after, fixes_later, row_of, values_of}}
pub use Rattle.objmod.proofs.{Kept.{found_there, kept_places}, KeptStored.{kept_stored}}
pub use Rattle.objmod.specs.internal.Keeping.{AllFit, ContentsFit, Placed, SegmentFits, fix_at, fix_table, fixes_by_place, is_in, listed, open_run, runs_kept}
pub use Rattle.link_laws.specs.{internal.Building.{AreJoined, AreWithin, HaveTheirFixes, alignment_joined, begins_a_page, end_in, end_joined, piece_fixes, piece_runs, runs_joined, stored_joined}, internal.Growing.{AllFitAt, FitsAt, Grown, Resolved, all_grown, gain_by, grown_by, grown_from, grown_in, grown_over, grown_with, kept_by, moves_by, nothing_grown, part_moves, public_name, resolved_in, with_content}, internal.Passes.{code_after, data_after, externals_of, gathered, missing_in, name_of, one_main}}
