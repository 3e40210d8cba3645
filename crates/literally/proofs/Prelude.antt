-- The names that the proofs of this crate cite, passed on from one place. Declares nothing.
pub use Rattle.std.proofs.{Common.{Bool, Err, IfSome, List, None, Ok, Option, Result, Some, [], add-one, ap, arith, cond, drop, eqb, false, get_or, inl, inr, is_some, length, map, refl, reverse, subst, suc, sym, take, true, zero, ℕ, ◌&&◌, ◌*◌, ◌++◌, ◌+◌, ◌-◌, ◌<◌, ◌||◌, ◌∙◌, ◌∷◌, ◌≡◌, ◌≢◌, ◌≤◌, ◌⊎◌}, Math.Seq.{drop-cons}, lemmas.Bool.{false≢true, or_parts}, lemmas.Bool.Decides.{leb_tells}, lemmas.List.{append-nil, append_assoc, drop_all, length-map, length-reverse, length_push, map-append, reverse-append, take_all, take_rest}, lemmas.Result.{IfOk-weaker, err_from_is_err_and}, lemmas.Slice.Eq.{bytes_eq-Decides}}
pub use Rattle.std.specs.{Char.{is_ascii_alphabetic, is_ascii_digit}, List.{flat_map, fold}, Map.{lookup}, Option.{option_copied, option_map, option_map_or}, Prelude.{nat_lt, slice_index, take_while, ◌==◌}, Str.{bytes_eq}, declared.alloc.Global.{Global}, declared.vec.Vec.{Vec}}
pub use Rattle.symbols.specs.{Names.{name_of}, declared.name.TheConstants.{LONGEST_NAME}}
pub use Rattle.words.proofs.LawsReadings.{one_reading}
pub use Rattle.words.specs.{Characters.{is_blank, is_word_byte}, Items.{item_at}, Marks.{mark_item}, Names.{kind_of_name, name_item}, Spelling.{IsFirstFault, Lexeme, Spells, SpellsFrom, after_blank, lexeme_of, lexemes_of}, Strings.{comment_end, comment_item}, declared.fault.Fault.{Fault as TextFault}, declared.items.Cause.{Cause, TheVariants.{BadCharacter, BadNumber, LongName}}, declared.items.Item.{Item, TheVariants.{Spelled, Wrong}}, declared.vocabulary.Kind.{Kind, TheVariants.{Mark, Name, Number, Reserved, String}}, declared.vocabulary.Mark.{Mark as AMark}, declared.vocabulary.ReservedWord.{ReservedWord}, declared.word.Word.{Word}}
unfoldable pub use Rattle.words.specs.{Marks.{mark_at}, Names.{reserved_of}}
pub use Rattle.literally.specs.Definitions.{definition_by, has_quote, in_force, is_name, is_string, name_before, name_defined, text_if, text_in, text_of}
pub use Rattle.literally.specs.Expansion.{Becomes, Expands, ExpandsFrom, FaultFrom, IsFault, IsSound, IsSoundText, IsTooDeep, ProcessesAtLeast, after_word, at_end, at_string, at_use, bad_text, begins_with_literally, count_passed, deeper, defined_again, depth_passed, fault_after_word, is_defined_again, later_word, no_words, none_yet, quote_in_text, replaced, stays, text_then, too_deep, word_then}
pub use Rattle.literally.specs.declared.fault.Fault.{Fault}
pub use Rattle.literally.specs.declared.fault.Fault.TheVariants.{Count, Text}
pub use Rattle.literally.specs.declared.limits.TheConstants.{DEEPEST, MOST_WORDS}
pub use Rattle.literally.specs.internal.Held.{Agree, AreHeld, IsTextOf, StandsFor, words_for}
pub use Rattle.literally.specs.internal.Steps.{Adds, IsFaultAt}
