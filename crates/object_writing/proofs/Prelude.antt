-- The names that the proofs of this crate cite, passed on from one place. Declares nothing.
pub use Rattle.std.proofs.{Common.{Bool, IsTrue, List, None, Option, Some, [], ap, arith, cond, drop, false, filter, filter_map, flat_map, get_or, length, map, nat_le, nat_lt, not, option_map, refl, slice_get, subst, suc, sym, take, true, zero, ℕ, ◌&&◌, ◌*◌, ◌++◌, ◌+◌, ◌-◌, ◌<◌, ◌==◌, ◌||◌, ◌∙◌, ◌∷◌, ◌≡◌, ◌≤◌}, KnownBytes.{Appends-nil, Appends-trans}, lemmas.Bool.{and_parts, and_right, cond-false, cond-true, cond_both, eq-eqb, le-ltb, leb-true, lt-ltb, ltb-false, ltb-true, ne_eqb}, lemmas.Grind.{flat_map-append}, lemmas.List.{append-nil, append_assoc, drop-append-le, drop-drop, drop-map, drop_all, drop_at, drop_more, length-append, length-drop, length-map, length-take, take-append-drop, take-append-le, take-map, take_all, take_at, take_rest}, lemmas.Slice.{take-put_mid}}
pub use Rattle.std.specs.{Char.{is_ascii_uppercase}, Io.KnownBytes.{Appends}, List.{cons_option, list_all, onto_first}, Option.{option_map_or}}
pub use Rattle.failure.proofs.WritingLemmas.{beginning_after, on_err}
pub use Rattle.failure.specs.Writing.{AppendsBeginning}
pub use Rattle.omf80.proofs.Writing.{on_err_then, on_ok_then}
pub use Rattle.omf80.specs.{Records.{bytes_of, word_bytes}, declared.kind.RecordKind.{RecordKind}, declared.kind.TheConstants.{BODY_LIMIT}}
pub use Rattle.object_modules.proofs.StoredRuns.{values_again}
pub use Rattle.object_modules.specs.{Before.{is_empty, same_segment}, Module.{Fixup, IsObjectModule, ObjectModule, Places, Public, SetByte, alignment_of, begins_word, is_both, is_page, is_valid_byte, is_valid_segment, length_of, places_of, words_are_whole}, Parts.{EndOfFilePart, ExternalNamesPart, ExternalReferencesPart, IntersegmentPart, ModuleEndPart, Part, PublicsPart, Reference, RelocationPart, SegmentEntry, definition_bytes, fix_kind_number, listed_name_bytes, part_bytes, reference_bytes, segment_entry_bytes, segment_number}, Runs.{fixed_bytes, fixed_run, fixes_of_run, fixup_at}, Text.{Run, bytes_wanted, content_limit, content_parts, contents_of_run, definition_of, external_fix_parts, external_parts, fix_kinds, fix_parts, fixes_from, groups_after, groups_of, header_for, intersegment_parts, offset_for, other_segments, packed, placed_from, public_parts, publics_in_segment, reference_for, relocation_parts, runs_from, segment_parts, text_of}, internal.Views.{owned_public_view}, declared.public.OwnedPublic.{OwnedPublic}, declared.segment.Fix.{Fix}, declared.segment.FixKind.{FixKind, TheVariants.{Both, High, Low}}, declared.segment.Segment.{Segment, TheVariants.{Absolute, Code, Data, Stack}}, declared.segment.Target.{Target, TheVariants.{External, InSegment}}, declared.segment.TheConstants.{SEGMENT_LIMIT}}
unfoldable pub use Rattle.object_modules.specs.{Runs.{fixes_in}, Text.{written_parts}}
pub use Rattle.object_laws.proofs.{Texts.Fixes.{fix_at, fix_found}, Texts.Runs.{InOrder, order_earlier, order_ends, runs_in_order}}
pub use Rattle.object_writing.specs.internal.Contents.{bytes_of_entry, content_text, end_text, header_text, listed_bytes, listed_entry}
pub use Rattle.object_writing.specs.internal.Groups.{Group, empty_group, flushed, flushed_by, group_bytes, last_record, records_of, room_of, with_bytes, with_entry, with_item}
pub use Rattle.object_writing.specs.declared.records.header.SegmentEntry.{SegmentEntry as CodeEntry}
pub use Rattle.object_writing.specs.internal.Cuts.{AreFixesOf, count_before, cut_by, run_text, word_at}
unfoldable pub use Rattle.object_writing.specs.internal.Cuts.{row_text}
pub use Rattle.object_writing.specs.internal.Fixes.{content_part, fix_entry, fixes_text, fixes_to, group_for, kind_text, other_text, others_text}
pub use Rattle.object_writing.specs.internal.Named.{name_entry, owned_entry, public_entry}
pub use Rattle.object_writing.specs.internal.Texts.{names_text, publics_text, rest_text}
