-- The names that the proofs of this crate cite, passed on from one place. Declares nothing.
pub use Rattle.std.proofs.{Common.{All, Bool, Bor, Contains, Err, IfSome, List, None, Ok, OnOk, Option, Result, Some, [], add-one, ap, append-nil, append_assoc, arith, codes, cond, decimal, drop, false, get_or, inl, inr, length, length-append, map, option_map, refl, set, subst, suc, sym, take, take_all, true, zero, zip, ℕ, ⊎_elim, ◌++◌, ◌+◌, ◌-◌, ◌<◌, ◌==◌, ◌^◌, ◌∙◌, ◌∷◌, ◌≡◌, ◌≤◌, ◌⊎◌}, KnownBytes.{Appends-trans, Keeps-refl}, Math.{Arith.{lt_of_le-ne}, ListN.{drop_of_length-le}, Seq.{drop-cons, take-length}}, lemmas.{Bool.{agree_below_at, cases_lt, eq-eqb, eqb-false, eqb-true, false_from_ne_true, Decides.{nat_tests}}, Grind.{common_steps, get_or-set_at, same_number_lists}, List.{get_or-replicate, get_or-set_other, length-map, length-replicate, length-set, Sums.{count_by-le-length, length-filter, sum_by-append, sum_by-cons}}, Option.{slice_get-map}, Slice.Eq.{bytes_eq-Decides}}}
pub use Rattle.std.specs.{Fmt.{digits_output, format_spec, styled_digits_output, ◌++?◌}, Io.KnownBytes.{Appends, Keeps}, List.{flat_map}, Option.{option_or}, Prelude.{IfOk, OnErr, String, count_by, filter, if◌then◌else◌, replicate, slice_get, slice_index, slice_set, unwrap_or, ◌||◌}, Str.{bytes_eq}}
unfoldable pub use Rattle.std.specs.Fmt.{digits}
pub use Rattle.mem80.specs.{Memory.{IsMemory, byte_at}, Pieces.{IsLoaded}, declared.{memory.TheConstants.{MEMORY_SIZE}, plan.Plan.{Plan}}}
unfoldable pub use Rattle.mem80.specs.Memory.{zeros}
pub use Rattle.ports.specs.{Events.{AddsEvent, CountsFailure, read_event, write_event}, Input.{AddsByte, input_value, is_read_of, queue_of, reads_of}, declared.event.Event.{Event}}
pub use Rattle.words.proofs.LawsReadings.{one_reading}
pub use Rattle.words.specs.{Spelling.{Lexeme, lexemes_of}, declared.limits.TheConstants.{LONGEST_SOURCE}}
pub use Rattle.literally.proofs.{Failures.{passed_on}, LawsOneExpansion.{not_both}}
pub use Rattle.literally.specs.Expansion.{Expands}
pub use Rattle.convert.specs.{Advice.{advice_view, usual_advice}, Assembly.{Parts, as_it_is, assembled}, Conversion.{IsRefused, no_expansion, no_words}, Includes.{candidates}, Lines.{plain}, Origins.{line_table}, Preparing.{prepared, prepared_notes}, Sources.{note_lines}, Table.{rule_view, table_of_rules}, declared.{advice.Advice.{Advice}, assembly.PlacedNote.{PlacedNote}, includes.Entry.{Entry}, rule.Rule.{Rule}}}
pub use Rattle.typed_trees.specs.{Jumps.{JumpsAreSound}, TypedTrees.{TypedModule}, Views.{module_view, object_view}, declared.module.Typed.{Typed}}
pub use Rattle.typing.specs.declared.fault.Cause.{Cause}
pub use Rattle.layout.specs.{Joined.{IsJoined}, Placement.{ModulePlacement, Placement}}
pub use Rattle.join.specs.{Views.{modules_of}, declared.joined.Joined.{Joined}}
pub use Rattle.placing.specs.{Views.{module_placement_view, placement_view}, declared.placement.{ModulePlacement.{ModulePlacement as CodeModulePlacement}, Placement.{Placement as CodePlacement}}}
pub use Rattle.meaning.specs.{Outcomes.{Stop}, Run.{Run, source_run}}
pub use Rattle.interpreter.specs.Budgets.{StopsBefore, Uses}
pub use Rattle.stack_need.specs.StackNeed.{TellsNeed}
pub use Rattle.object_modules.specs.{Image.{placement_number}, Merge.{link_number}, Module.{ObjectModule}, Text.{text_of}}
pub use Rattle.link_laws.specs.declared.fault.LinkFault.{LinkFault}
pub use Rattle.locate.specs.{Locating.{Absolute}, declared.fault.LocateFault.{LocateFault}}
pub use Rattle.isa8080.proofs.Endings.{state_after_sum, stays_state}
pub use Rattle.isa8080.specs.{Act.{act}, Code.{Form, One, Three, Two, Unknown, form_of}, State.{State, holds, wrap}, Step.{advance, carry_out, next_byte, next_word, step_by}, declared.{instr.{Instr.{Instr, TheVariants.{CallIf, Dcr, In, Inr, JumpIf, Mvi, Out, ReturnIf}}, Operand.TheVariants.{M, Of}}, registers.Status.{Status}}}
unfoldable pub use Rattle.isa8080.specs.Step.{state_after, step_of}
pub use Rattle.cpu8080.specs.{Machine.{Machine}, Runs.{FailsAfter, IsRun}, declared.machine.End.{End}}
pub use Rattle.sources.specs.{Causes.{HasReadCause}, Programs.{AreSourcesOf, IsProgramOf, program_modules, texts_of}, Reading.{IsSourceOf}, declared.{read.ReadFault.{ReadFault, TheVariants.{Expansion, Storage, Syntax, TooLong, Typing, Words}}, sources.TheConstants.{MOST_SOURCES}}}
pub use Rattle.tool.proofs.CompiledLemmas.{passed, past_texts, text_at, within_texts}
pub use Rattle.tool.specs.{Construction.{Construction, IsConstruction}, Execution.{source_of, started}, Faults.{file_of, line_of, name_of, number_of}, Made.{IsCompiledTo}, Sources.{IsInOrder, IsRefusedAlone}, declared.fault.ToolFault.{ToolFault, TheVariants.{Code, Link, Locate, Program, Source, TooManySources}}}
pub use Rattle.command_line.specs.{Command.{CompileWanted, ConvertWanted, ExecuteWanted, ExplainWanted, NeedWanted, PlaceWanted, ProgramWanted, Wanted, wanted_by, wants_compile, wants_convert, wants_execute, wants_explain, wants_link, wants_need, wants_place, wants_program}, internal.Orders.{IsFaultOf, convert_in, execute_in, place_in, program_in, wanted_in}, Settings.{NamedPort, Read, Values, execute_read, file_names, jump_read, only_file, outputs_in, page_read, plan_read, port_file_in, values_in, values_read, ◌>>=◌}, declared.{orders.{Action.{Action, TheVariants.{Interpret, Run as ToRun}}, ConvertOrder.{ConvertOrder}, PlaceAction.{PlaceAction, TheVariants.{Hex, Listing, Symbols}}}, reading.LineFault.{LineFault, TheVariants.{Help, Version, Wrong}}, start_memory.MemoryByte.{MemoryByte}, values.InputByte.{InputByte}}}
pub use Rattle.printing.proofs.RunLemmas.{Made, made_on, none_made, run_on, slice_ends}
pub use Rattle.printing.specs.{Printing.{BeginsRun, PrintsRun, end_word}, Report.{report_of}}
pub use Rattle.host.proofs.{FilesRead.{map_more as looked_more, files_stay, files_stay as unchanged, stays_on, stops_as, stops_before, was_there}, LinesPrinted.{is_other, same_line, tells_file, tells_no_file, tells_other}, WritingLemmas.{beginning_after, on_err}}
pub use Rattle.host.specs.{internal.Endings.{status_of}, Failure.{IfFault}, Files.{ChangesFiles, Directory, FindsFile, HasFile, KeepsFiles, with_file}, Outcome.{Failure, TheVariants.{Fault, Memory}}, Reading.{HasFiles, StopsAt}, Refusals.{Tells, TellsOther, file_line, memory_line, output_line}, Writing.{AppendsBeginning, IsBeginning}, declared.{endings.Ending.{Ending, TheVariants.{Done, Limit, Outside, Refused, Stopped, WrongLine}}, files.FileFault.{FileFault}}}
unfoldable pub use Rattle.host.specs.Refusals.{TellsRefusal, refusal_line}
pub use Rattle.object_commands.proofs.{FilesWritten.{kept_others, kept_then_others, kept_then_stopped, kept_then_written, written_others}, Lines.{hole_is}, Lists.{item_added}}
pub use Rattle.object_commands.specs.{Linking.{KeepsOthers, StopsWriting}, Listing.{PrintsListing, StopsListing}, Merging.{PlacesMerge}, Placing.{address_digits}}
unfoldable pub use Rattle.object_commands.specs.Merging.{RefusesPlacing}
pub use Rattle.clap.specs.{Walk.{texts}, Words.{Kinds, kind_of}, declared.error.ErrorKind.TheVariants.{DisplayHelp, DisplayVersion}}
pub use Rattle.commands.specs.Compiling.{CompilesFile, CompilesTo, StopsCompiling}
pub use Rattle.commands.specs.Converting.{Converts, ConvertsAsWanted, ConvertsByTables, ConvertsByWords, HasNoConversion, IsMistyped, IsModule, IsNoModule, IsPutTogether, StopsSource, TellsAsWanted, TellsByWords, TellsOutput, changed, medium_of, rewritten}
unfoldable pub use Rattle.commands.specs.Converting.{ConvertsFile, ConvertsText, RefusesText}
pub use Rattle.commands.specs.Ends.{GivesInput, bytes_to, machine_status, machine_word, source_status, source_word}
pub use Rattle.commands.specs.Executing.{PrintsExecution, PrintsMerge, StopsImage, StopsRead}
unfoldable pub use Rattle.commands.specs.Executing.{RefusesExecution, RefusesObjects}
pub use Rattle.commands.specs.Explaining.{PrintsPage}
unfoldable pub use Rattle.commands.specs.Explaining.{RefusesPage}
pub use Rattle.commands.specs.Including.{FindsText, IsIncluded, IsLookedUp, IsMissing, Looks, LooksUp, StopsLooking, StopsLookingForNext, after_name, at_name, begun, elsewhere, first_of, found_view, further, here, most_names, nowhere, put_together}
pub use Rattle.commands.specs.InputFiles.{HasInput, bytes_of_file, input_names, ports_of, quiet_ports, with_texts}
pub use Rattle.commands.specs.Map.{map_if, map_line, map_of, map_text, module_text, object_line}
pub use Rattle.commands.specs.Needing.{PrintsNeedOf, RefusesNeedOf}
pub use Rattle.commands.specs.Needs.{HasCause, IsNeedOf, IsNeedText, IsReadable, need_line}
pub use Rattle.commands.specs.Orders.{AsksHelpAtMost, ChangesAsWanted, ChangesByWords, PrintsAsWanted, PrintsByWords, PrintsNeedWanted, QuietAsWanted, QuietByWords, RefusesAsWanted, RefusesNeed, RefusesNoText, RefusesObject, RefusesPlaceText, RunsAsWanted, RunsByWords, StopsAsWanted, StopsByWords, StopsPlaced, TellsObjectText, TellsText, TellsTextByWords, WritesAsWanted, WritesByWords, names_by_words, names_of}
unfoldable pub use Rattle.commands.specs.Orders.{RefusesByWords}
pub use Rattle.commands.specs.OutputFiles.{ByOutputs, ChangesOutputs, Delivers, DeliversRun, KeepsAllBut, Shows, byte_written, bytes_written, dash_bytes, is_dash, is_output, outputs_for, outputs_of, with_output, with_outputs}
pub use Rattle.commands.specs.Printing.{PrintsNeed, StopsNeed, TellsNoNeed}
pub use Rattle.commands.specs.ProgramFaults.{fault_line, fault_place, file_place}
pub use Rattle.commands.specs.RefusedRuns.{LeavesOutputs, StopsOutput, StopsOutputs, StopsShowing}
unfoldable pub use Rattle.commands.specs.RefusedRuns.{RefusesRun, Undelivered}
pub use Rattle.commands.specs.Refusing.{RefusesFiles, RefusesRead, RunsOut}
unfoldable pub use Rattle.commands.specs.Refusing.{RefusesCompiling, RefusesFor, RefusesProgram, RefusesTexts, TellsUnwritten}
pub use Rattle.commands.specs.Running.{BeginsImage, ImageDoes, PrintsBuilt, PrintsFiles, PrintsImage, PrintsProgram, PrintsRead, PrintsTexts, SourceDoes, run_report}
unfoldable pub use Rattle.commands.specs.Running.{StopsBuilt}
pub use Rattle.commands.specs.Showing.{HasShown, PrintsShown, PrintsTextsBy, RefusesShown, RefusesTextsBy, ShowsProgram, takes_object}
pub use Rattle.commands.specs.Standing.{NamesLine, NamesPlace, StandsAt, module_names, no_names, stand_of, with_place}
pub use Rattle.commands.specs.Starting.{IsStart, byte_named}
pub use Rattle.commands.specs.Steps.{CarriesOut, ComesToDry, DoesAsSource, DoesOnMachine, IsWithinInput, PassesInput, UsesBudget, asked_by, last_words}
pub use Rattle.commands.specs.Tables.{BeginsTable, WritesTable}
pub use Rattle.commands.specs.declared.needs.fault.NeedFault.{NeedFault}
pub use Rattle.commands.specs.declared.needs.fault.NeedFault.TheVariants.{Join}
pub use Rattle.commands.specs.declared.converting.{Conversion.{Conversion}, Refusal.{Refusal}}
pub use Rattle.commands.specs.internal.Converting.{ComesOf, IsConvertedTo, IsMadeOf, IsOfForm, IsRefusedAs, RefusesParts, UnlessFault, form_of_fault, table_if, told_line}
unfoldable pub use Rattle.commands.specs.internal.Converting.{ConvertsHeld, PrintsTabled, PrintsTold}
pub use Rattle.commands.specs.internal.InputPorts.{HasMore, IsAtDry, IsLeft, IsPast, ReadsNext, ReadsNothing, StaysWithin, left_at}
pub use Rattle.commands.specs.internal.LineFaults.{IsWrong}
pub use Rattle.commands.specs.internal.Outcomes.{EndsAsSource, EndsOnMachine, EndsRun, told_of}
pub use Rattle.commands.specs.internal.Places.{names_in}
pub use Rattle.commands.specs.internal.Reading.{IsFirstFault, IsOfJoining, IsOfSource, IsUnread}
pub use Rattle.commands.specs.internal.SourceRuns.{RunsSource}
pub use Rattle.commands.specs.internal.RunOrders.{PrintsWith, RefusesWith, first_names, input_texts, output_texts, values_wanted, wanted_run}
pub use Rattle.commands.specs.declared.reports.Outcome.{Outcome}
pub use Rattle.commands.specs.declared.runs.RunOrder.{RunOrder}
pub use Rattle.commands.specs.declared.runs.RunOrder.TheVariants.{Objects, Sources}
