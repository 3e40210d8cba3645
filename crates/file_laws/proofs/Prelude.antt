-- The names that the proofs of this crate cite, passed on from one place. Declares nothing.
pub use Rattle.std.proofs.{Common.{All, Bool, Err, List, None, Ok, Option, Result, Some, [], ap, arith, cond, false, filter_map, flat_map, length, map, nat_le, nat_lt, not, option_and_then, option_map, refl, slice_get, subst, sum_by, sym, true, ℕ, ◌%◌, ◌&&◌, ◌++◌, ◌+◌, ◌-◌, ◌<◌, ◌==◌, ◌||◌, ◌∙◌, ◌∷◌, ◌≡◌, ◌≤◌}, lemmas.Bool.{and_from, and_left, and_parts, and_right, le-leb, le-ltb, lt-leb, lt-ltb, ltb-false, ltb-true}, lemmas.Grind.{same_number_lists}, lemmas.List.{append-nil}, lemmas.List.Elements.{filter-append}, lemmas.List.Sorted.{IsPermutation-append, IsPermutation-cons, IsPermutation-map, IsPermutation-middle, IsPermutation-refl, IsPermutation-sym, IsPermutation-trans}, lemmas.List.Sums.{sum_by-cons}, lemmas.Slice.Eq.{bytes_eq-Decides}}
pub use Rattle.std.specs.{Io.KnownBytes.{Appends}, List.{AllByRecursion, AllZip, cons_option, list_all, list_any}, Option.{option_map_or, option_or}, Prelude.{IsPermutation, filter, find, slice_index}, Str.{bytes_eq}}
pub use Rattle.mem80.specs.{Pieces.{AreLongestRuns, are_runs, byte_in, has_address, has_bytes}, declared.range.Piece.{Piece}}
pub use Rattle.omf80.specs.{Records.{first_that_holds}, declared.kind.TheConstants.{BODY_LIMIT}}
pub use Rattle.object_modules.specs.{Before.{same_segment}, Displacements.{Linked, all_publics, code_end, data_end, gain_in, linked_after, linked_from, linked_modules, public_moved, public_named, publics_moved, target_kept, target_of_public}, Image.{Image, Plan, image_of, placed, symbol_at}, Merge.{DuplicatePublic, HighByteMoves, LinkRefusal, NotOneMain, SegmentTooLong, UnresolvedExternal, code_piece, data_piece, is_too_long, joined, joined_after, joined_alignment, last_end, link_number, main_modules, public_names, refusal_of, repeated_after, some_high_byte_moves, some_segment_is_too_long, unless_refused, unresolved}, Module.{IsObjectModule, ObjectModule, Places, Public, SetByte, is_among, is_valid_public, may_have_publics}, Moving.{high_targets, moved}, Parts.{Definition, EndOfFilePart, ModuleEndPart, Part, PublicsPart, definition_bytes, part_bytes}, Spelling.{Spells}, Text.{definition_of, external_parts, header_for, packed, public_parts, publics_in_segment, segment_parts, text_of, with_publics_in_order}, declared.fault.Fault.{Fault}, declared.segment.Segment.{Segment, TheVariants.{Code, Data, Stack}}, declared.segment.Target.{Target, TheVariants.{External, InSegment}}}
unfoldable pub use Rattle.object_modules.specs.{Image.{image_at, placement_refusal}, Merge.{link_refusal, merge_of}, Text.{written_parts}}
pub use Rattle.object_laws.proofs.{Files.Accepted.{public_name}, Merges.MergeValid.{ValidLinked, by_recursion, linked_valid, main_of, mains_are, merge_is, merge_is_object, names_from, unless_ok}, Texts.WrittenAgain.{text_spells, written_not_refused, written_read}}
pub use Rattle.locate.specs.Locating.{Absolute, IsPlaced}
