-- The names that the proofs of this crate cite, passed on from one place. Declares nothing.
pub use Rattle.mem80.proofs.{Lists.{all_append, all_both, all_mapped, all_weaker, got_before}, Numbers.{word_of_high}, Options.{both_are_none, none_before_map, option_map_some}, Results.{same_Err, same_Ok}}
pub use Rattle.std.proofs.{Common.{All, Bool, Bor, Err, IfSome, List, None, Ok, Option, Result, Some, [], ap, arith, cond, drop, false, filter_map, find, flat_map, get_or, le_refl, le_trans, length, map, nat_le, nat_lt, not, option_and_then, option_map, refl, replicate, reverse, slice_get, slice_index, slice_set, subst, suc, sum_by, sym, take, take_while, true, true≢false, zero, ℕ, ⊎_elim, ◌%◌, ◌&&◌, ◌*◌, ◌++◌, ◌+◌, ◌-◌, ◌/◌, ◌<◌, ◌==◌, ◌||◌, ◌∙◌, ◌∷◌, ◌≡◌, ◌≤◌}, lemmas.Bool.{and_from, and_left, and_parts, and_right, cases_Bool, cases_lt, cond-false, cond-true, cond_both, eq-eqb, eqb-true, false_from_ne_true, le-leb, le-ltb, leb-true, lt-leb, lt-ltb, ltb-false, ltb-true, ne_eqb, not-false, not-true, not_from_false, not_from_true, or_cases, or_left, or_parts, or_right}, lemmas.Grind.{flat_map-append}, lemmas.List.{append-nil, append_assoc, drop_at, length-append, length-drop, length-map, length-replicate, map-append, reverse-append, reverse-reverse, take_at}, lemmas.List.Elements.{filter_map-append}, lemmas.List.Folds.{find-append, list_all-append, list_any-append}, lemmas.List.FromFn.{length-map-range_with_len}, lemmas.List.Sums.{take_while-cons}, lemmas.Option.{cond_some, get_or_from_slice_get, none-some, option_and_then_some, same_Some, slice_get-map, some_pair_parts}, lemmas.Slice.Eq.{bytes_eq-Decides}}
pub use Rattle.std.specs.{Char.{is_ascii_uppercase}, List.{AllByRecursion, cons_option, list_all, list_any, onto_first, range_with_len}, Option.{option_flatten, option_map_or, option_or}, Str.{bytes_eq}}
pub use Rattle.symbols.specs.Names.{is_name, is_name_character}
pub use Rattle.omf80.proofs.{Conditions.{IsBytes, find_passes, none_holds}, RecordLaws.{Begins, begins}, RecordsAgain.{ReadAgain, read_again}}
pub use Rattle.omf80.specs.{Records.{first_body, first_that_holds, kind_of_type, record_end, type_byte, without_checksum, word_bytes}, declared.kind.RecordKind.{RecordKind}, declared.kind.TheConstants.{BODY_LIMIT}}
unfoldable pub use Rattle.omf80.specs.Records.{record_bytes, record_fault}
pub use Rattle.object_modules.proofs.{FixesOfRuns.{before_append, before_runs_fixes, fixes_step}, MovedBytes.{moved_is_byte}, Options.{none_either_way}, ReadBack.{part_back}, StoredRuns.{map_cond}}
pub use Rattle.object_modules.specs.{Before.{content_end, content_of, definition_names, end_by_content, entries_of, entry_in, externals_of, filled_to, fixes_of, is_empty, is_ended, is_fix_record, latest_content, leading_fixes, length_in, may_come_after, may_follow, names_of, rank_of, same_segment, stated_length_of}, Displacements.{Linked, all_publics, code_end, data_end, displacement_in, gain_in, linked_after, linked_from, linked_modules, public_meant, public_moved, publics_moved, start_after, target_kept, target_of_public}, Merge.{DuplicatePublic, HighByteMoves, LinkRefusal, NotOneMain, SegmentTooLong, UnresolvedExternal, code_piece, data_piece, is_too_long, joined, joined_after, joined_alignment, last_end, main_modules, places_moved, public_names, refusal_of, repeated_after, some_high_byte_moves, some_segment_is_too_long, unless_refused, unresolved}, Module.{Fixup, IsObjectModule, ObjectModule, Places, Public, SetByte, are_new, begins_word, holds_bytes, is_among, is_both, is_movable, is_page, is_plain, is_target, is_valid_byte, is_valid_public, is_valid_segment, length_of, linkage_names, may_have_publics, places_of, width_of, words_are_whole}, Moving.{after_fixup, byte_moved, first_byte_moved, fixup_moved, high_target, high_targets, moved, moved_after, second_byte_moved, value_after, value_moved}, Parts.{Content, ContentPart, Definition, EndOfFilePart, ExternalNamesPart, ExternalReferencesPart, HeaderPart, IntersegmentPart, ModuleEndPart, Part, PublicsPart, Reference, RelocationPart, SegmentEntry, body_of, definition_bytes, fix_kind_number, kind_of_part, listed_name_bytes, name_bytes, part_bytes, reference_bytes, segment_entry_bytes, segment_number}, Reading.{Front, all_in, at_most, definition_in_front, ended_name, first_part, fix_kind_of, header_after_name, listed_name_in_front, name_in_front, references_in, segment_entries_in, segment_of, word_in_front, words_in}, Rules.{are_accepted, are_apart, are_names, ascend_from, fault_from_record, fault_of_record, fit_content, fits_segment, fix_end, is_accepted, is_body, is_other_segment, is_served, is_within, part_fault, share_a_byte}, Runs.{bytes_of_run, fixes_of_run, fixup_at, with_run}, Spelling.{FixedContent, HasFirstFault, IsFileOf, Spells, alignment_in, alignment_with, first_in, fixed_contents, holds_place, name_of_header, places_in, publics_of, set_at, set_in, start_in, start_of_end}, Stored.{IsStored, StoredSegment, are_longest, content_of_run, fixes_ascend, is_in_a_run, places_stored}, Text.{Run, alignment_number, before_runs, bytes_wanted, content_limit, content_parts, contents_of_run, definition_of, external_fix_parts, external_parts, fix_kinds, fix_parts, fixes_from, groups_after, groups_of, header_for, intersegment_parts, offset_for, other_segments, packed, placed_from, public_parts, publics_in_segment, reference_for, relocation_parts, runs_from, segment_parts, text_of, with_publics_in_order}, internal.Views.{AreKept, module_of_parts, owned_public_view}, internal.Walks.{before_parts, parts_within, sound_part}, declared.fault.Fault.{Fault}, declared.fault.Fault.TheVariants.{ContentMisplaced, FixMisplaced, OutOfOrder, WrongAlignment, WrongBody}, declared.object.ModuleParts.{ModuleParts}, declared.segment.Alignment.{Alignment}, declared.segment.Alignment.TheVariants.{Byte, Page}, declared.segment.Fix.{Fix}, declared.segment.FixKind.{FixKind}, declared.segment.FixKind.TheVariants.{Both, High, Low}, declared.segment.Segment.{Segment}, declared.segment.Segment.TheVariants.{Absolute, Code, Data, Stack}, declared.segment.Target.{Target}, declared.segment.Target.TheVariants.{External, InSegment}, declared.segment.TheConstants.{SEGMENT_LIMIT}, internal.Joining.{before_fixes, bytes_after, bytes_fixed, fix_kept, fixes_below, fixes_past, items_moved, place_fixes, run_at, run_displaced, run_end, run_fixed, run_moved, runs_fixed, with_runs}, internal.Judgement.{judged_after, judged_by, judgement_of, module_from}}
unfoldable pub use Rattle.object_modules.specs.{Merge.{link_refusal, merge_of}, Reading.{part_in}, Rules.{fault_at}, Runs.{fixes_in}, Spelling.{module_of}, Text.{written_parts}, internal.Walks.{module_by, parts_from, walk_over}, internal.Judgement.{parts_of}}
