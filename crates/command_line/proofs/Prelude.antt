-- The names that the proofs of this crate cite, passed on from one place. Declares nothing.
pub use Rattle.std.proofs.{Common.{Bool, Bor, Err, List, None, Ok, Option, Some, [], ap, append_assoc, arith, codes, drop, false, get_or, inl, inr, is_some, length, lit<, map, refl, rules, slice_index, subst, suc, sym, take, tests, true, zero, ℕ, ◌++◌, ◌+◌, ◌-◌, ◌<◌, ◌^◌, ◌∙◌, ◌∷◌, ◌≡◌, ◌≤◌, ◌⊎◌}, Math.Seq.{take-length}, lemmas.{Bool.{and_parts, and_right, eqb-true, le-leb, le-ltb, leb-true, lt-ltb, ltb-true, Decides.{nat_tests}}, Iterator.{Consumers.{map_from_collect}, Splits.{YieldsList-from_slice_split, YieldsList-from_str_split}}, List.{append-nil}, Slice.Eq.{bytes_eq-Decides}}}
pub use Rattle.std.specs.{Char.{digit_value, is_digit}, List.{AllByRecursion, after_first, before_first, list_all, position_or_len}, Option.{option_map_or}, Prelude.{IfOk, IsErrAnd, Result, encode_utf8, find, fold, if◌then◌else◌, nat_le, nat_lt, not, option_and_then, option_map, slice_get, unwrap_or, ◌&&◌, ◌==◌, ◌||◌}, Str.{bytes_eq, Parse.{AllDigits, IsNumeral, digits_value, without_leading_plus}}}
unfoldable pub use Rattle.std.specs.Str.{chars}
pub use Rattle.failure.specs.{Failure.{IfFault}, declared.Failure.{Failure, TheVariants.{Fault, Memory}}}
pub use Rattle.clap.proofs.{FaultLemmas.{stopped_fault}, WalkLemmas.{first_value-rows, raw_values-rows}}
unfoldable pub use Rattle.clap.proofs.OnLiterals.{clap_on_literals}
pub use Rattle.clap.specs.{Facts.{explicit_source, unwrap_or_range}, Faults.{bundle_fault, bundle_step_fault, check_fault, entered_fault, flag_word_fault, is_simple_and_free, level_fault, long_fault, option_fault, other_fault, positional_fault, react_fault, settle_fault, short_fault, step_fault, stray_fault, turn_fault, use_fault, word_fault}, Kinds.{HasKind, or_else}, Lexer.{long_of, short_of, strip_byte}, Simple.{built, built_leaf, entered, filled, help_rule, help_shape, label_of, names_of, new_shape, rows_at, version_rule, with_index}, Takes.{is_given}, Walk.{Held, Names, Outcome, Step, Waiting, Walk, action_of, after_flag, after_step, answers_to, arg_by_id, arg_by_index, arg_by_long, arg_by_short, at_row, attached_value, bundle, bundle_step, default_rows, done, finished, has_row, idle, is_pending, long_met, long_or_other, more_values, next, nothing_held, option, option_met, option_word, plain, plain_word, positional, reacted, reading_by, refused, rows_after, settled, settled_rows, short_met, short_or_plain, subcommand, subcommand_met, subcommand_or_other, takes_several, takes_values, texts, to_positional, trailing, used, used_by_id, value, waits, walk, walk_from, walked_from, with_default, with_values, without, word_met}, Words.{App, app_of, IsAmong, Kinds, Row, Rule, Shape, Text, fault_of, found_of, is_simple, kind_of, subcommand_name_of, subcommand_of, subcommand_rows_of, with_rule}, declared.{ArgMatches.{ArgMatches}, builder.{action.ArgAction.TheVariants.{Append, Help, Set, SetTrue}, value_parser.Reading.{Reading}}, error.{Error.{Error}, ErrorKind.{ErrorKind, TheVariants.{DisplayHelp, DisplayVersion, OutOfMemory}}}, parser.matches.ValueSource.{ValueSource, TheVariants.{CommandLine}}}}
unfoldable pub use Rattle.clap.specs.{Faults.{defaults_fault, flags_fault, walk_fault}, Walk.{bundle_met, walked}}
pub use Rattle.command_line.specs.Command.{Wanted, compile_app, compile_of, convert_app, convert_of, execute_app, execute_of, explain_app, explain_of, files_of, files_rule, flag_rule, hex_app, is_set, link_app, link_of, list_app, locate_app, located_of, named_in, need_of, place_of, plm_app, program_app, program_of, wanted_by, wanted_of_match, wants_compile, wants_convert, wants_execute, wants_explain, wants_link, wants_need, wants_place, wants_program}
pub use Rattle.command_line.specs.internal.Orders.{Code, Count, DataBase, Fill, Gives, Input, InputFile, IsBare, IsFaultOf, IsOrderOf, Limit, OfPlan, Orders, OrdersCompile, OrdersConvert, OrdersExecute, OrdersExecuteText, OrdersExecuteWatch, OrdersExplain, OrdersFiles, OrdersJump, OrdersLink, OrdersMap, OrdersNeed, OrdersPlace, OrdersPlaceText, OrdersText, OrdersWatch, OutputFile, PlanOption, Stack, StackSize, StartMemory, UntilDry, ValueOption, WatchOption, Where, medium_words, name_of_action, name_of_place_action, option_name, option_words, plan_option_name, usual, usual_convert, usual_execute, usual_place, usual_plan, wanted_in, watch_option_name, watching, with_execute_text, with_plan_text, with_text}
pub use Rattle.command_line.specs.Explained.{is_page_of}
pub use Rattle.command_line.specs.internal.Pages.{page_among}
pub use Rattle.command_line.specs.Settings.{NamedPort, Read, address_of, all_groups, byte_of, bytes_for, bytes_from, file_names, found_in, group_bytes, has_file, has_input, has_name, is_colon, is_decimal, memory_group, names_if, names_in, number_to, output_file, output_files_after, output_files_read, output_of_digits, outputs_in, port_file, port_file_in, port_files_after, port_files_read, port_of_digits, ◌>>=◌}
pub use Rattle.command_line.specs.declared.orders.Action.{Action}
pub use Rattle.command_line.specs.declared.orders.Action.TheVariants.{Interpret, Run}
pub use Rattle.command_line.specs.declared.orders.Order.{Order}
pub use Rattle.command_line.specs.declared.orders.PlaceAction.{PlaceAction}
pub use Rattle.command_line.specs.declared.orders.PlaceAction.TheVariants.{Hex, Listing, Locate, Symbols}
pub use Rattle.command_line.specs.declared.reading.LineFault.{LineFault}
pub use Rattle.command_line.specs.declared.reading.LineFault.TheVariants.{Version, Wrong}
pub use Rattle.command_line.specs.declared.start_memory.MemoryByte.{MemoryByte}
pub use Rattle.command_line.specs.declared.values.InputByte.{InputByte}
pub use Rattle.command_line.specs.internal.Building.{IsLocal, with_argument, with_arguments, with_command, with_commands, with_groups}
pub use Rattle.command_line.specs.internal.Names.{command_in, wanted_of_command, word_of}
pub use Rattle.command_line.specs.declared.names.CommandName.{CommandName}
pub use Rattle.command_line.specs.declared.names.TheConstants.{COMMANDS}
pub use Rattle.command_line.specs.internal.Errors.{IsFailureFor}
pub use Rattle.command_line.specs.internal.Reads.{if_read, in_front}
