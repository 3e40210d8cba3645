-- The names that the proofs of this crate cite, passed on from one place. Declares nothing.
pub use Rattle.std.proofs.{Common.{Bool, Err, List, None, Ok, Option, Result, Some, [], ap, arith, cond, count_by, drop, eqb, false, fold, get_or, inl, inr, length, map, min, not, refl, rules, subst, suc, sym, take, true, zero, ℕ, ◌&&◌, ◌*◌, ◌++◌, ◌+◌, ◌-◌, ◌<◌, ◌==◌, ◌||◌, ◌∙◌, ◌∷◌, ◌≡◌, ◌≢◌, ◌≤◌, ◌⊎◌}, Math.Nat.{le-mul_of_pos_right}, Math.Numerals.{add-one}, Math.Seq.{take-add}, lemmas.Bool.{and_parts, false_from_ne_true, false≢true, not-true}, lemmas.Bool.Decides.{nat_tests}, lemmas.Grind.{common_steps}, lemmas.List.{append-nil, append_assoc, get_or_at, length-drop, length-map, length-take, length_push, map-append, take_all, take_at, take_min, take_more, take_rest}, lemmas.List.Elements.{All-from_recursion, filter-append}, lemmas.List.Folds.{length-prefix_len}, lemmas.List.Sums.{count_by-le-length, length-filter, prefix_len-le-length, sum_by-append}, lemmas.Slice.Eq.{bytes_eq-Decides}}
pub use Rattle.std.specs.{Char.{is_ascii_alphabetic, is_ascii_digit, to_ascii_uppercase}, List.{AllByRecursion, filter, find, list_all, prefix_len, slice_range, starts_with, take_while}, List.Sorted.{IsStrictlyIncreasing}, Option.{option_map_or}, Prelude.{All, IfOk, IsSomeAnd, IsTrue, nat_eq, nat_le, nat_lt}, Str.{bytes_eq}}
pub use Rattle.symbols.specs.{Names.{name_of}, declared.name.TheConstants.{LONGEST_NAME}}
pub use Rattle.words.specs.Characters.{is_blank, is_comment_byte, is_printable, is_word_byte}
pub use Rattle.words.specs.Items.{comment_or_mark, item_at}
pub use Rattle.words.specs.Names.{kind_of_name, name_item, word_in}
unfoldable pub use Rattle.words.specs.Names.{reserved_of, reserved_words}
pub use Rattle.words.specs.Numbers.{base_of, digit_value, number_in, number_item, number_of, number_with, value_of}
pub use Rattle.words.specs.Spelling.{AreSlices, FaultFrom, HasOneReading, IsFirstFault, Lexeme, Spells, SpellsFrom, StartsRise, after_blank, at_end, fault_after_blank, fault_after_word, fault_here, fault_of, lexeme_at, lexeme_of, lexemes_of, line_at, word_then}
pub use Rattle.words.specs.Strings.{comment_end, comment_item, further, string_end, string_item}
pub use Rattle.words.specs.declared.fault.Fault.{Fault}
pub use Rattle.words.specs.declared.items.Cause.{Cause}
pub use Rattle.words.specs.declared.items.Item.{Item}
pub use Rattle.words.specs.declared.items.Item.TheVariants.{Blank, Ending, Spelled, Wrong}
pub use Rattle.words.specs.declared.limits.TheConstants.{GREATEST_NUMBER}
pub use Rattle.words.specs.declared.vocabulary.Kind.{Kind}
pub use Rattle.words.specs.declared.vocabulary.Mark.{Mark}
pub use Rattle.words.specs.internal.Fits.{FitsIn}
