-- The names that the proofs of this crate cite, passed on from one place. Declares nothing.
pub use Rattle.std.proofs.{Common.{Err, IsTrue, List, Ok, [], ap, arith, drop, filter_map, length, map, not, refl, rules, slice_get, subst, sym, take, true, ◌++◌, ◌+◌, ◌==◌, ◌∙◌, ◌≡◌, ◌≤◌}}
pub use Rattle.std.specs.{Prelude.{IfOk}, List.{list_any, position}, Option.{option_map}, Str.{bytes_eq}}
pub use Rattle.failure.specs.Failure.{IfFault}
pub use Rattle.symbols.specs.Names.{is_name}
pub use Rattle.object_modules.specs.{Displacements.{Linked, all_publics, linked_modules, public_moved, public_named, start_after, start_of, starts_of}, Merge.{HighByteMoves, SegmentTooLong, main_modules, public_names, some_high_byte_moves, some_segment_is_too_long}, Module.{IsObjectModule, ObjectModule, alignment_of, is_among, length_of}, internal.Views.{owned_public_view}, declared.segment.Segment.TheVariants.{Code, Data}, internal.Joining.{bytes_after, fix_kept, fixes_below, fixes_past}}
unfoldable pub use Rattle.object_modules.specs.Merge.{merge_of}
pub use Rattle.object_laws.proofs.BorrowedNames.{among_borrowed}
pub use Rattle.link_laws.proofs.{AllGrown.{grown_step, high_grown, segment_grown}, Linkings.{by_externals, by_highs, by_lengths, by_names, handed_on, joined_merged, made_kept, made_merged, names_same, none_refused}, ModuleTold.{alignment_kept, length_kept, module_renamed}, FixesWithin.{runs_have_fixes}, NameLoops.{module_added, module_repeats, modules_ended}, NameWalks.{position_borrowed}, PieceByRuns.{code_kept, data_kept, runs_grown_over}, PieceGrown.{piece_grown}, StartLoops.{SoFar, all_fit, all_placed, all_stacks, all_valid, code_too_long, data_too_long, one_more, stack_too_long}}
pub use Rattle.link_laws.specs.{Faults.{refusal_of}, declared.fault.LinkFault.{LinkFault}, internal.Building.{AreWithin, HaveTheirFixes, alignment_joined, end_in, end_joined, starts_in}, internal.Growing.{Resolved, all_grown, gain_by, grown_from, grown_over, kept_by, moves_by, public_name}, internal.Passes.{externals_of, gathered, missing_in, one_main}}
