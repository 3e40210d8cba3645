-- The names that the proofs of this crate cite, passed on from one place. Declares nothing.
pub use Rattle.std.proofs.{Common.{Bool, Err, IfNone, IsTrue, List, None, Ok, Option, Result, Some, [], ap, arith, cond, drop, false, flat_map, get_or, is_some, length, nat_le, nat_lt, not, option_and_then, option_map, refl, replicate, reverse, rules, set, slice_index, slice_index_or, subst, suc, sym, take, take_while, true, unwrap_or, zero, ℕ, ◌%◌, ◌&&◌, ◌*◌, ◌++◌, ◌+◌, ◌-◌, ◌/◌, ◌<◌, ◌==◌, ◌||◌, ◌∙◌, ◌∷◌, ◌≡◌, ◌≤◌}, Math.Seq.{take-length}, lemmas.Bool.{and_from, and_parts, and_right, eqb-false, eqb-true, false≢true, le-leb, leb-true, lt-ltb, ltb-true, ne_eqb}, lemmas.Bool.Decides.{nat_tests}, lemmas.Grind.{flat_map-append}, lemmas.List.{append-nil, append_assoc, get_or-set_other, get_or-set_same, length-append, length-drop, length-replicate, length-set, reverse-append}, lemmas.List.Elements.{filter_map-append}, lemmas.List.Folds.{list_any-append}, lemmas.List.Sums.{take_while-cons}, lemmas.Option.{none-some, same_Some, some_pair_parts}}
pub use Rattle.std.specs.{List.{AllByRecursion, filter_map, list_all, list_any}, Option.{option_map_or, option_or}, Str.{bytes_eq}}
pub use Rattle.symbols.specs.Names.{is_name, is_name_character}
pub use Rattle.omf80.proofs.{Conditions.{IsBytes}, Reading.{are_bytes}, RecordsAgain.{read_again}}
pub use Rattle.omf80.specs.{Records.{BeginsWith, Record, first_body, first_that_holds, kind_of_type, record_end, word_bytes}, internal.Views.{record_view}, declared.fault.Fault.{Fault as RecordFault, TheVariants.{Truncated}}, declared.kind.RecordKind.{RecordKind}}
unfoldable pub use Rattle.omf80.specs.Records.{record_fault}
pub use Rattle.object_modules.proofs.{Fronts.{option_map_some}, Options.{none_either_way}}
pub use Rattle.object_modules.specs.{Before.{content_end, content_of, definition_names, end_by_content, entries_of, entry_in, externals_of, filled_to, fixes_of, is_empty, is_ended, is_fix_record, is_header, latest_content, leading_fixes, length_in, may_follow, names_of, rank_of, same_segment, stated_length_of}, Module.{ObjectModule, ObjectModule as ObjectValue, are_new, holds_bytes, is_among, may_have_publics, width_of}, Parts.{Content, ContentPart, Definition, EndOfFilePart, ExternalNamesPart, ExternalReferencesPart, HeaderPart, IntersegmentPart, ModuleEndPart, Part, PublicsPart, Reference, RelocationPart, SegmentEntry, body_of, definition_bytes, fix_kind_number, kind_of_part, listed_name_bytes, part_bytes, reference_bytes, segment_number}, Reading.{Front, all_in, at_most, content_in, definition_in_front, end_of_file_in, external_references_in, first_part, fix_kind_of, header_after_name, header_in, intersegment_in, listed_name_in_front, module_end_in, name_in_front, publics_in, references_in, relocation_in, segment_entries_in, segment_of, words_in}, Rules.{are_accepted, are_apart, are_names, ascend_from, fault_from_record, fault_of_record, fit_content, fits_segment, fix_end, is_accepted, is_body, is_other_segment, is_served, is_within, part_fault, share_a_byte}, Spelling.{HasFirstFault, IsFileOf, Spells, alignment_in, alignment_with, first_in, fixed_contents, name_in, name_of_header, publics_of, start_in, start_of_end}, Walking.{Walking}, internal.Walks.{WalksOver, contents_left, entries_left, externals_left, publics_left}, declared.fault.Fault.{Fault, TheVariants.{ContentMisplaced, FixMisplaced, OutOfOrder, WrongAlignment, WrongBody}}, declared.segment.Fix.{Fix}, declared.segment.FixKind.{FixKind, TheVariants.{Both, High, Low}}, declared.segment.Segment.{Segment, TheVariants.{Absolute, Code, Data, Stack}}, internal.Judgement.{judged_after, judged_by}}
unfoldable pub use Rattle.object_modules.specs.{Reading.{part_in}, Rules.{fault_at}, internal.Walks.{parts_from, walk_over}, internal.Judgement.{parts_of}}
pub use Rattle.object_laws.proofs.{Files.AnyCount.{Shortens, all_unfolds, any_judged, definition_shortens, listed_name_shortens}, Files.FilesAgain.{limit_of}, Files.FrontsAgain.{ReadsAgain, all_again, definition_again, fix_kind_again, listed_name_again, references_again, segment_again, word_of, words_again}, Files.Judged.{JudgesFile, parts_law}, Files.Unique.{no_fault}, Files.FileWalks.{part_first, parts_from_is}}
pub use Rattle.object_laws.proofs.{Booleans.{or_exchanged, or_swap}, BorrowedNames.{among_borrowed}, Files.Contents.{same_is}, Texts.Accepting.{fit_nothing, leading_more}, Texts.Counted.{has_width}}
pub use Rattle.object_reading.specs.internal.Entries.{AreEntries, AreParts, body_where, content_at, content_where, contents_after, definition_at, is_content, is_external_names, is_publics, publics_where}
pub use Rattle.object_reading.specs.internal.Fixes.{AreFixEntries, AreHeadEntries, FixHead, external_fix, fix_head, fix_in_front, fix_where, fixes_after, fixes_in, segment_fix}
pub use Rattle.object_reading.specs.internal.Headers.{entry_at, extents_after, extents_in, extents_with, nothing_said}
pub use Rattle.object_reading.specs.internal.Judging.{IsJudged}
pub use Rattle.object_reading.specs.internal.Marks.{AreMarked, Marked, are_placed, covers, first_mark, is_marked, last_mark, marked_after, marked_with, marks_after, onto, unmarked, with_marks}
unfoldable pub use Rattle.object_reading.specs.internal.Marks.{no_marks}
pub use Rattle.object_reading.specs.internal.NamesJudged.{definition_name_in_front, entry_name, names_in, names_taken}
pub use Rattle.object_reading.specs.internal.Order.{is_over, may_come}
pub use Rattle.object_reading.specs.internal.References.{entries_fit, is_known, target_fits}
pub use Rattle.object_reading.specs.internal.Views.{content_view}
pub use Rattle.object_reading.specs.declared.judgement.header.Header.{Header}
pub use Rattle.object_reading.specs.declared.rules.extents.Extents.{Extents}
pub use Rattle.object_reading.specs.internal.States.{State, Tells, beginning, body_taken, content_taken, end_taken, externals_taken, fits, fixes_placed, fixes_taken, header_named, header_taken, last_taken, publics_taken, record_taken, state_view, then_latest, with_content, with_externals, with_fixes, with_header, with_publics}
