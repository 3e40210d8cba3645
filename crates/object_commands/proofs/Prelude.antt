-- The names that the proofs of this crate cite, passed on from one place. Declares nothing.
pub use Rattle.std.proofs.{Common.{Bool, Err, IfOk, IfSome, List, None, Ok, OnErr, OnOk, Option, Result, Some, [], add-one, ap, arith, codes, decimal, drop, false, get_or, inl, inr, length, map, nat_lt, option_map, refl, rules, slice_get, subst, suc, sym, take, true, zero, ℕ, ⊎_elim, ◌%◌, ◌++◌, ◌+◌, ◌-◌, ◌/◌, ◌<◌, ◌==◌, ◌^◌, ◌||◌, ◌∙◌, ◌∷◌, ◌≡◌, ◌≤◌, ◌⊎◌}, KnownBytes.{Keeps-refl}, Math.Seq.{drop-cons, take-add, take-length}, lemmas.{Bool.{and_parts, cases_lt, leb-true, ltb-false, or_parts}, Fmt.{hex_byte, hex_one_digit, hex_two_digits}, Grind.{common_steps}, List.{append-nil, append_assoc, length-drop, map-append, take-append-drop, Elements.{All-cons, All-from_recursion}, Kept.{AllPairs-cons}}, Slice.Eq.{bytes_eq-Decides}}}
pub use Rattle.std.specs.{Fmt.{digit_glyph, digits_onto, digits_output, format_spec, styled_digits_output, ◌++?◌}, Io.KnownBytes.{Appends, Keeps}, List.{AllByRecursion, AllZip, flat_map}, Option.{option_flatten, option_or}, Prelude.{if◌then◌else◌, nat_le, not, replicate, slice_index, unwrap_or, ◌&&◌}, Str.{bytes_eq}}
unfoldable pub use Rattle.std.specs.Fmt.{char_count, digits, padded_integral}
pub use Rattle.mem80.proofs.Ranges.{meets_decides}
pub use Rattle.mem80.specs.{Pieces.{AreApart, AreWritable, EndsInMemory, byte_in, range_of}, Range.{IsIn, ranges_meet}, declared.{memory.TheConstants.{MEMORY_SIZE}, plan.Plan.{Plan}, range.{Piece.{Piece}, Range.{Range}}}}
pub use Rattle.omf80.proofs.Conditions.{none_holds}
pub use Rattle.omf80.specs.Records.{first_that_holds}
pub use Rattle.object_modules.specs.{Image.{Image, PassesMemory, PlacementRefusal, SegmentsMeet, Symbol, at_address, code_range, data_range, gain_at, image_of, passes_memory, placed, placed_bytes, placement_number, range_at, stack_range}, Merge.{LinkRefusal, link_number, unless_refused}, Module.{ObjectModule, SetByte, places_of}, Moving.{moved_after}, Numbers.{number_of}, Spelling.{Spells}, Text.{text_of}, declared.{fault.Fault.{Fault, TheVariants.{ContentMisplaced, FixMisplaced, OutOfOrder, Truncated, UnknownType, WrongAlignment, WrongBody, WrongLength, WrongSum}}, segment.{Segment.TheVariants.{Code, Data}, Target.{Target}}}}
unfoldable pub use Rattle.object_modules.specs.Image.{image_at, placement_refusal}
pub use Rattle.link.specs.{Streams.{Merges, WritesMerge}, declared.StreamFault.{StreamFault}, internal.Causes.{HasNoMerge}}
pub use Rattle.locate.proofs.{Pieces.{byte_of_piece, one_more, within}, Tests.{meet_is}}
pub use Rattle.locate.specs.{Locating.{Absolute, IsPlaced, plan_view, refusal_of, symbol_view}, declared.fault.LocateFault.{LocateFault}}
pub use Rattle.hex80.specs.Texts.{BeginsText, WritesText}
pub use Rattle.isa8080.specs.{Code.{Form, One, Three, Two, Unknown, bytes_of, first_instruction, form_of, instruction_of}, Text.{byte_digits}, declared.instr.Instr.{Instr, TheVariants.{Jmp}}}
pub use Rattle.host.proofs.{FilesRead.{stays_on, stops_alone, stops_as, stops_before, stops_last}, LinesPrinted.{is_other, same_line, tells_file, tells_no_file, tells_other}, WritingLemmas.{on_err}}
pub use Rattle.host.specs.{Events.{CountsFailure}, Files.{BeginsFile, ChangesFiles, Directory, GrowsFile, HasFile, KeepsFiles, with_file}, Reading.{HasFiles, StopsAt}, Refusals.{Tells, TellsOther, file_line, memory_line}, Writing.{AppendsBeginning, IsBeginning}, declared.endings.Ending.{Ending}}
unfoldable pub use Rattle.host.specs.Refusals.{TellsRefusal, refusal_line}
pub use Rattle.object_commands.specs.Linking.{KeepsOthers, LinksFiles, MergesTo, StopsLinking, StopsWriting}
pub use Rattle.object_commands.specs.Listing.{AreListed, IsListing, ListsModule, PrintsListing, StopsListing, begins, ends, if_whole, is_named_within, is_whole, label_line, next_piece, no_piece, part_line, shown_text, size_of}
unfoldable pub use Rattle.object_commands.specs.Listing.{part_lines, shown_at}
pub use Rattle.object_commands.specs.Merging.{PlacesMerge, PlacesTexts}
unfoldable pub use Rattle.object_commands.specs.Merging.{RefusesPlacing, TellsNoMerge}
pub use Rattle.object_commands.specs.Placing.{PlacesBytes, PlacesFile, PrintsHex, PrintsPlaces, StopsHex, StopsPlaces, address_digits, jump_meets, jump_piece, jump_range, jump_refusal, pieces_with, places_text, range_line, start_line, symbol_line}
pub use Rattle.object_commands.specs.internal.Listed.{ListsPiece, ListsPieces}
pub use Rattle.object_commands.specs.internal.Merges.{merge_line}
pub use Rattle.object_commands.specs.internal.Rooms.{LeavesRoom}
