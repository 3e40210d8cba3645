-- The names that the proofs of this crate cite, passed on from one place. Declares nothing.
pub use Rattle.std.proofs.{Common.{Bool, Fits, List, None, Option, Some, [], ap, arith, cond, drop, false, filter, find, flat_map, get_or, inl, inr, is_none, length, map, nat_le, nat_lt, not, option_map, refl, replicate, reverse, set, slice_index, slice_index_or, subst, suc, sym, true, w8, zero, ℕ, ◌&&◌, ◌++◌, ◌+◌, ◌-◌, ◌<◌, ◌==◌, ◌^◌, ◌||◌, ◌∙◌, ◌∷◌, ◌≡◌, ◌≢◌, ◌≤◌, ◌⊎◌}, lemmas.Bool.{and_from, and_parts, eq-eqb, eqb-false, eqb-true, le-leb, le-ltb, leb-false, leb-true, lt-leb, lt-ltb, ltb-false, ltb-true, ne_eqb, or_left, or_right}, lemmas.Grind.{common_steps}, lemmas.List.{append-nil, append_assoc, length-append}, lemmas.List.Folds.{list_all-append}, lemmas.Option.{same_Some}}
pub use Rattle.std.specs.{Char.{is_ascii_uppercase, to_ascii_uppercase}, Io.{appended_bytes}, Io.KnownBytes.{Consumes, IsAtEnd}, List.{AllByRecursion, list_all, list_any}}
pub use Rattle.symbols.specs.Names.{is_name, is_name_character, name_of}
pub use Rattle.omf80.proofs.Conditions.{IsBytes, find_passes}
pub use Rattle.object_modules.proofs.{StoredRuns.{Longest, beyond_less, byte_in_run, content_with, found, found_is, run_at, same_over}}
pub use Rattle.object_modules.proofs.StoredRuns.{map_cond}
pub use Rattle.object_modules.specs.{Before.{content_end, end_by_content, entries_of, externals_of, is_empty, is_ended, length_in, stated_length_of}, Module.{Fixup, IsObjectModule, ObjectModule, Public, SetByte, is_both, width_of}, Parts.{Content, ContentPart, EndOfFilePart, ExternalNamesPart, ExternalReferencesPart, HeaderPart, IntersegmentPart, ModuleEndPart, Part, PublicsPart, RelocationPart, SegmentEntry}, Rules.{are_accepted, fix_end, is_within}, Runs.{fixup_at}, Spelling.{FixedContent, HasFirstFault, Spells, fixed_contents, holds_place, set_at, set_in}, Stored.{IsStored, StoredSegment, are_longest, content_of_run, fixes_ascend, is_in_a_run, places_stored}, Text.{Run, text_of, with_publics_in_order}, internal.Views.{AreKept, module_of_parts, owned_public_view}, Walking.{Walking, places_by}, internal.Walks.{WalksOver}, declared.fault.Fault.{Fault}, declared.object.ModuleParts.{ModuleParts}, declared.public.OwnedPublic.{OwnedPublic}, declared.segment.Alignment.{Alignment}, declared.segment.Fix.{Fix}, declared.segment.FixKind.{FixKind, TheVariants.{Both, High, Low}}, declared.segment.Segment.{Segment, TheVariants.{Code, Data}}}
unfoldable pub use Rattle.object_modules.specs.internal.Walks.{module_by, walk_over}
pub use Rattle.object_laws.proofs.{Files.Accepted.{both_fit, no_entries}, Files.Bytes.{InRange, parts_range}, Files.Contents.{Ascend, Follow, contents_ascend}, Files.FixesOfContents.{begins_at, clash, word_at}, Files.Valid.{spelled_is_object}, Files.FileWalks.{module_is}, Texts.ContentsAccepted.{same_self}, Texts.WrittenAgain.{more_not_read, written_read}}
pub use Rattle.objmod.specs.internal.Keeping.{AllFit, Clear, ContentsFit, Opened, Placed, SegmentFits, before_kept, closed_runs, fix_at, fix_table, fixes_by_place, goes_on, is_in, kept_in, kept_segment, listed, nothing_opened, open_run, put_all, put_fix, put_together, runs_kept, with_bytes, with_content, with_fixes}
