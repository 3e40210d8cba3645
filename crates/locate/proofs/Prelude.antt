-- The names that the proofs of this crate cite, passed on from one place. Declares nothing.
pub use Rattle.std.proofs.{Common.{All, AllPairs, Bool, Err, List, None, Ok, Option, Result, Some, [], ap, arith, cond, drop, false, filter_map, find, flat_map, get_or, inl, inr, length, map, max, min, nat_le, nat_lt, not, option_map, refl, slice_get, slice_index, subst, suc, sym, take, true, unwrap_or, zero, ℕ, ◌%◌, ◌&&◌, ◌++◌, ◌+◌, ◌-◌, ◌<◌, ◌==◌, ◌||◌, ◌∙◌, ◌∷◌, ◌≡◌, ◌≤◌, ◌⊎◌}, lemmas.Bool.{and_from, and_left, and_parts, and_right, cases_lt, cases_order, eq-eqb, eqb-false, eqb-true, le-leb, le-ltb, leb-false, leb-true, lt-leb, lt-ltb, ltb-true, ne_eqb}, lemmas.List.{drop_all, get_or-append_right, get_or-drop, get_or-take, get_or_append_left, get_or_default, length-append, length-drop, length-take-le}, lemmas.List.Elements.{All-from_recursion, filter_map-append, recursion_from_All}, lemmas.List.Kept.{AllPairs-cons}, lemmas.Option.{none-some, same_Some}}
pub use Rattle.std.specs.{List.{AllByRecursion, cons_option, list_all, list_any}, Option.{is_none, option_and_then, option_flatten, option_map_or, option_or}, Prelude.{IsTrue, if◌then◌else◌, ◌↔◌}}
pub use Rattle.mem80.proofs.{Booleans.{same_test}, Options.{or_none_same}}
pub use Rattle.mem80.specs.{Memory.{IsMemory, with_bytes}, Pieces.{AreApart, AreLongestRuns, AreWritable, EndsInMemory, IsLoaded, are_runs, byte_in, has_address, has_bytes}, Range.{Meets, ranges_meet}, declared.range.Piece.{Piece}, declared.range.Range.{Range}}
pub use Rattle.object_modules.proofs.{Allowed.{allowed}, FixesOfRuns.{before_runs_fixes}, MovedBytes.{moved_is_byte}, Options.{none_either_way}, Pushed.{view_added}}
pub use Rattle.object_modules.specs.{Before.{is_empty}, Image.{ExternalLeft, HighByteBroken, Image, NoStart, PageBroken, PassesMemory, PlacementRefusal, Plan, SegmentsMeet, at_address, base_of, breaks_page, code_range, data_range, gain_at, image_of, passes_memory, placed, placed_bytes, stack_range, symbol_at}, Merge.{unless_refused}, Module.{Fixup, IsObjectModule, ObjectModule, Places, SetByte, is_valid_byte, is_valid_segment, places_of}, Moving.{after_fixup, bytes_resolved, high_target, high_targets, moved_after, value_after, value_moved}, Runs.{bytes_of_run, fixes_of_run}, Text.{Run, before_runs, fixes_from, runs_from}, internal.Views.{owned_public_view}, declared.segment.Fix.{Fix}, declared.segment.FixKind.{FixKind, TheVariants.{Both, High, Low}}, declared.segment.Segment.{Segment, TheVariants.{Code, Data}}, declared.segment.Target.{Target}}
unfoldable pub use Rattle.object_modules.specs.{Image.{image_at, placement_refusal}, Runs.{fixes_in, runs_of}}
pub use Rattle.object_modules.specs.internal.Joining.{before_fixes}
pub use Rattle.locate.specs.Locating.{Absolute, IsPlaced, loaded, plan_view, symbol_view}
pub use Rattle.locate.specs.internal.Fixing.{Carry, Walk, after_first, carry_by, first_at, fixes_after, second_by, value_by, values_from, word_by}
pub use Rattle.locate.specs.internal.Images.{breaks_high, image_pieces, in_turn, segment_pieces}
pub use Rattle.locate.specs.internal.Putting.{LieInMemory, joined, piece_at, piece_of, pieces_from, with_piece, with_pieces}
