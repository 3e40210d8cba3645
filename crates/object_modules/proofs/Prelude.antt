-- The names that the proofs of this crate cite, passed on from one place. Declares nothing.
pub use Rattle.std.proofs.{Common.{Bool, IsTrue, List, None, Option, Some, [], ap, arith, cond, drop, false, find, flat_map, inl, inr, length, map, max, min, nat_le, nat_lt, not, option_map, refl, slice_index, subst, suc, sym, take, true, zero, ℕ, ◌&&◌, ◌*◌, ◌++◌, ◌+◌, ◌-◌, ◌<◌, ◌==◌, ◌||◌, ◌∙◌, ◌∷◌, ◌≡◌, ◌≢◌, ◌≤◌, ◌⊎◌}, lemmas.Bool.{and_parts, eq-eqb, eqb-false, eqb-true, le-leb, le-ltb, leb-true, lt-leb, lt-ltb, ltb-false, ltb-true, ne_eqb, or_parts}, lemmas.List.{append_assoc, length-take, take-append-drop}, lemmas.List.FromFn.{length-map-range_with_len}, lemmas.Option.{cond_some, none-some, option_and_then_some, same_Some, some_pair_parts}}
pub use Rattle.std.specs.{List.{list_all, range_with_len}, Option.{is_none}}
pub use Rattle.mem80.proofs.{ByteLists.{bytes_drop}, Options.{option_map_some}}
pub use Rattle.omf80.proofs.{Conditions.{IsBytes, find_passes, none_holds, word_is}}
pub use Rattle.omf80.specs.{Records.{word_bytes}, declared.kind.RecordKind.{RecordKind}}
pub use Rattle.object_modules.specs.Before.{is_empty, same_segment}
pub use Rattle.object_modules.specs.Module.{Fixup, ObjectModule, SetByte, length_of, places_of, width_of}
pub use Rattle.object_modules.specs.Parts.{ContentPart, EndOfFilePart, ExternalNamesPart, ExternalReferencesPart, HeaderPart, IntersegmentPart, ModuleEndPart, Part, PublicsPart, Reference, RelocationPart, SegmentEntry, body_of, definition_bytes, fix_kind_number, kind_of_part, listed_name_bytes, name_bytes, reference_bytes, segment_entry_bytes, segment_number}
pub use Rattle.object_modules.specs.Spelling.{FixedContent, holds_place, set_at, set_in}
pub use Rattle.object_modules.specs.Stored.{IsStored, StoredSegment, are_longest, content_of_run, fixes_ascend, is_in_a_run, places_stored}
pub use Rattle.object_modules.specs.Text.{Run, before_runs, fixes_from, runs_from}
pub use Rattle.object_modules.specs.declared.segment.FixKind.{FixKind}
pub use Rattle.object_modules.specs.declared.segment.FixKind.TheVariants.{Both, High, Low}
pub use Rattle.object_modules.specs.declared.segment.Segment.{Segment}
pub use Rattle.object_modules.specs.declared.segment.Segment.TheVariants.{Absolute, Code, Data, Stack}
