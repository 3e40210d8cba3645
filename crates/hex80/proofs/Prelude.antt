-- The names that the proofs of this crate cite, passed on from one place. Declares nothing.
pub use Rattle.std.proofs.{Common.{Bool, Err, List, None, Ok, OnErr, OnOk, Option, Result, Some, [], ap, arith, codes, cond, drop, false, flat_map, get_or, inl, inr, length, map, min, nat_le, nat_lt, not, option_and_then, option_map, refl, replicate, rules, set, slice_index, subst, suc, sum, sym, take, true, zero, ℕ, ◌%◌, ◌&&◌, ◌*◌, ◌++◌, ◌+◌, ◌-◌, ◌/◌, ◌<◌, ◌==◌, ◌||◌, ◌∙◌, ◌∷◌, ◌≡◌, ◌≢◌, ◌≤◌}, KnownBytes.{Appends-nil, Appends-trans}, lemmas.Bool.{and_parts, eq-eqb, eqb-true, le-leb, le-ltb, leb-false, leb-true, lt-leb, lt-ltb, ltb-false, ltb-true, not-false, not-true}, lemmas.Grind.{common_steps}, lemmas.List.{append-nil, append_assoc, drop-drop, drop_all, drop_min, drop_more, get_or-append-add, get_or-append_right, get_or-drop, get_or-replicate, get_or-set_other, get_or-set_same, get_or-take, get_or_append_left, get_or_default, get_or_read, length-append, length-drop, length-replicate, length-set, length-take, replicate-append-replicate, set_at, take-append-drop, take_all, take_at, take_min, take_more, take_more_set, take_rest}, lemmas.List.Concat.{flat_map-append}, lemmas.List.Elements.{All-append, All-from_get_or, All-from_recursion, All-get_or, All-more, All-nil, recursion_from_All}, lemmas.List.Folds.{list_any_at}, lemmas.List.Quantifiers.{all_pairs_push}, lemmas.List.Recursion.{is_sum_by}, lemmas.List.Sorted.{All-permutation, Contains-permutation, IsPermutation-append, IsPermutation-append_comm, IsPermutation-cons, IsPermutation-refl, IsPermutation-sym, IsPermutation-trans, sum_by-IsPermutation}, lemmas.List.Splits.{slice_split_at, slice_split_none}, lemmas.List.Sums.{sum_by_more}, lemmas.Option.{cond_some, none-some, option_and_then_some, same_Some, some_pair_parts}, lemmas.Slice.{take-put_mid}, lemmas.Slice.Eq.{bytes_eq-Decides}}
pub use Rattle.std.specs.{Io.KnownBytes.{Appends}, List.{AllByRecursion, list_all, list_any, onto_first, slice_split, sum_by}, Option.{option_map_or}, Prelude.{All, AllPairs, Contains, IfSome, IsPermutation, filter, find, ◌⊎◌}, Str.{bytes_eq}, Str.Lines.{lines, lines_of_parts, strip_carriage_return}}
pub use Rattle.failure.proofs.WritingLemmas.{beginning_after, on_err}
pub use Rattle.failure.specs.Writing.{AppendsBeginning}
pub use Rattle.mem80.proofs.{ByteLists.{bytes_drop, bytes_take}, Options.{option_map_some}, Ranges.{meets_decides}, Results.{same_Err, same_Ok}, Sums.{adds_up, checksum_below, checksum_is}}
pub use Rattle.mem80.specs.{Pieces.{AreApart, AreWritable, EndsInMemory, byte_in, has_address, has_bytes, pieces_meet, range_of}, Range.{IsIn}, Sums.{checksum_of}, declared.range.Piece.{Piece}}
pub use Rattle.hex80.specs.Lines.{IsTextOf, ascend, data_line, data_line_bytes, digit_of, digits_of, end_line, ended_line, lines_from, lines_of, lines_of_piece, rows_after, rows_of}
pub use Rattle.hex80.specs.Spelling.{HasFirstFault, Spells, are_line_pieces, bytes_in, bytes_of_line, digit_value, fault_of_data, fault_of_line, has_form, is_empty, is_line_piece, piece_in, read_line}
unfoldable pub use Rattle.hex80.specs.Spelling.{fault_at}
pub use Rattle.hex80.specs.declared.fault.Fault.{Fault}
pub use Rattle.hex80.specs.declared.fault.Fault.TheVariants.{BadLine, NoEnd, Overlap, WrongSum}
pub use Rattle.hex80.specs.internal.Judgement.{judged_after, judged_by}
unfoldable pub use Rattle.hex80.specs.internal.Judgement.{judgement_of}
pub use Rattle.hex80.specs.internal.Reading.{Marks, TakesLine, byte_of, line_at, marked_from, piece_at}
unfoldable pub use Rattle.hex80.specs.internal.Reading.{unmarked}
pub use Rattle.hex80.specs.internal.Writing.{AreLinesOf, BeginsLines, Tables, WritesLines, all_bytes, entries, numbered, row_at, slot_lines, with_number, written_line}
unfoldable pub use Rattle.hex80.specs.internal.Writing.{no_numbers}
