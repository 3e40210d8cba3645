-- The names that the proofs of this crate cite, passed on from one place. Declares nothing.
pub use Rattle.std.proofs.{Common.{Bool, Bor, Err, List, None, Ok, OnOk, Option, Result, Some, [], add-one, ap, append-nil, append_assoc, arith, cond, drop, false, find, if◌then◌else◌, inl, inr, length, map, nat_le, nat_lt, not, option_and_then, option_copied, option_map, refl, replicate, rules, set, slice_get, slice_index, slice_index_or, subst, suc, sym, take, true, unwrap_or, zero, ℕ, ◌&&◌, ◌++◌, ◌+◌, ◌-◌, ◌<◌, ◌==◌, ◌||◌, ◌∙◌, ◌∷◌, ◌≡◌, ◌≤◌, ◌⊎◌}, lemmas.Bool.{and_from, and_parts, eq-eqb, le-leb, lt-ltb, or_from, or_parts}, lemmas.List.{drop_all, drop_at, length-replicate, length-set, map-append}, lemmas.Option.{none-some, same_Some, slice_get_past, slice_get_within}}
pub use Rattle.std.specs.{List.{list_all, slice_range}, Option.{option_flatten, option_map_or}, Prelude.{All, IfNone, IfOk, IfSome, IsTrue, min}, Slice.{IsItemAt}, Str.{bytes_eq}}
pub use Rattle.mem80.proofs.Lists.{take_found, take_whole}
pub use Rattle.symbols.specs.Names.{is_name}
pub use Rattle.trees.proofs.Lists.{drop_found}
pub use Rattle.object_modules.specs.{Module.{Fixup, ObjectModule, Places, Public, SetByte, are_new, begins_word, is_among, is_both, is_movable, is_plain, is_target, is_valid_public, is_valid_segment, words_are_whole}, Rules.{fix_end}, Runs.{fixup_at, with_run}, Stored.{IsStored, are_longest, fixes_ascend, is_in_a_run, places_stored}, Text.{Run, before_runs, runs_from}, internal.Views.{AreKept, owned_public_view}, declared.object.ModuleParts.{ModuleParts}, declared.segment.Fix.{Fix}, declared.segment.FixKind.{FixKind}, declared.segment.Segment.{Segment}, declared.segment.Segment.TheVariants.{Absolute, Code, Data, Stack}, declared.segment.Target.{Target}, declared.segment.Target.TheVariants.{External, InSegment}, declared.segment.TheConstants.{SEGMENT_LIMIT}, internal.Joining.{run_at, with_runs}}
pub use Rattle.isa8080.specs.{Code.{bytes_of}, State.{high_byte, low_byte, wrap}, declared.instr.Instr.{Instr, TheVariants.{Hlt}}, declared.instr.Pair.TheVariants.{Sp}}
pub use Rattle.asm8080.proofs.{CodeInParts.{stands_in_parts}, Segments.{places_length, runs_longest, segment_places_in, set_length, set_well, valid_bytes}}
pub use Rattle.asm8080.specs.{Assembled.{Assembled, Assembles, FitsSegment, IsFinished, fixed_bytes, places_of, segment_of, set_bytes}, Items.{Assembly, Layout, Stands, instruction_with, size_of_items, word_of}, Standing.{BytesStand}, declared.fault.Fault.{Fault as CodeFault}, declared.item.Item.{Item, TheVariants.{Address, Byte, Gap, Mark, Plain, WithWord}}, declared.item.Reference.{Reference, TheVariants.{AtLabel, AtNumber, AtTarget}}, declared.item.WordForm.TheVariants.{LoadPair}}
pub use Rattle.runtime8080.specs.{internal.Routines.{IsRoutine, size_of_routine}, declared.routine.Routine.{Routine, TheVariants.{Divide, Move, Multiply, RotateLeft, RotateRight, ShiftLeftAddress, ShiftLeftByte, ShiftRightAddress, ShiftRightByte}}}
pub use Rattle.treecode.specs.{declared.lists.Range.{Range}, declared.module.Content.{Content}, declared.module.ExternalName.{ExternalName}, declared.module.PublicName.{PublicName}, declared.module.PublicPlace.{PublicPlace, TheVariants.{Object, Procedure}}, declared.module.TreeModule.{TreeModule}, declared.procedure.Parameter.{Parameter}, declared.procedure.ProcedureKind.{ProcedureKind}, declared.procedure.TreeProcedure.{TreeProcedure}, declared.statement.Statement.{Statement, Statement as TreeStatement}, declared.statement.StatementNumber.{StatementNumber}}
pub use Rattle.frames.specs.{internal.Frames.{HasFrame, HasNothing, IsPlanOf, LiesApart}, declared.frame_plan.FramePlan.{FramePlan}}
pub use Rattle.steps8080.proofs.Numbered.{items_stay, use_either, writes_nothing, writes_then}
pub use Rattle.steps8080.specs.{internal.Externals.{AreDifferent, Extends, IsNumbering, entries, entry}, internal.Facts.{no_facts}, internal.Step.{label_after, label_of}, internal.Writer.{Finishes, NumbersNames, Writes, Written, in_front, known_label, numbered, numbered_item, numbered_reference, place_of_known, place_of_label, stack_end_item}, declared.facts.Facts.{Facts}, declared.sites.site.Site.{Site}, declared.step.LabelNumber.{LabelNumber}, declared.step.Step.{Step}, declared.step.Step.TheVariants.{Holds}}
pub use Rattle.exprgen8080.proofs.{CodeLaws.{found_deeper, found_map, found_then, steps_are_code}, Emitting.{are_kept, are_labels_kept, emits_then, has_itself, none_is, none_noted, notes_then}}
pub use Rattle.exprgen8080.specs.{internal.Code.{IsFoundDeep}, internal.Emission.{AreWritten, MarkWritten, NoneWritten, PlainWritten, call_routine, has_routine, index_of_routine, knowing, module_label_of_routine, module_routine_label}, internal.Emitted.{EmitsSteps, HasAll, IsEmpty, NotesCalled}, internal.Labelled.{AreLabelled}, declared.emission.Emission.{Emission}}
unfoldable pub use Rattle.exprgen8080.specs.internal.Code.{code_of_part, code_of_steps}
pub use Rattle.statements8080.specs.{internal.Plans.{PlanAdds, PlanAddsWithLabels}, declared.body.Body.{Body}, declared.plan.Plan.{Plan}, declared.plan.Planned.{Planned}, internal.Adding.{IsAdding}}
pub use Rattle.codegen8080.specs.internal.Driven.{AddsCode, AddsList, AddsPlanned, AddsStatement, AddsStep, here_of}
pub use Rattle.codegen8080.specs.internal.Generated.{AreAllCarriedOut, AreCarriedOut, HoldsNoStatement, IsCarriedOut, IsListCarriedOut, ListCarriedOut, ListPlanned, MoreStatements, NoStatements, NoneCarriedOut, StatementCarriedOut, StatementPlanned, StepCarriedOut, arriving, site_of}
unfoldable pub use Rattle.codegen8080.specs.internal.Generated.{carried_steps, here_after, waiting_after}
pub use Rattle.codegen8080.specs.internal.Labelled.{AreAllLabelled, AreStepsLabelled, IsListLabelled, IsStatementLabelled, LabelledList, LabelledStatement, LabelledStatements, LabelledSteps}
pub use Rattle.codegen8080.specs.internal.Modules.{ArePublicsOf, AreRoutines, AreTargets, IsCodeOfRoutine, IsCodeWritten, IsEndCode, IsEndLabelled, IsFrameOf, IsGenerated, IsMainCode, IsMainLabelled, IsOwnCode, IsProcedureCode, IsProcedureLabelled, IsPublicOf, all_routines, content_items, contents_items, has_main, used_names}
pub use Rattle.codegen8080.specs.internal.Procedures.{entry_labels, entry_steps}
unfoldable pub use Rattle.codegen8080.specs.internal.Procedures.{end_steps, known_at, known_from, popped_at, popped_from}
unfoldable pub use Rattle.codegen8080.specs.internal.Statements.{statement_labels, statement_steps}
pub use Rattle.codegen8080.specs.internal.Targets.{retargeted, with_targets}
pub use Rattle.codegen8080.specs.declared.generator.Generator.{Generator}
pub use Rattle.codegen8080.specs.declared.meeting.Here.{Here}
pub use Rattle.codegen8080.specs.internal.Bodies.{AddsCalled, AddsCodeOfMain, AddsEnd, AddsEntry, AddsMain, AddsOwn, AddsOwnCode, AddsProcedure, AddsProcedures, AddsRoutineIf, AddsRoutines, LabelledCode, LabelledCodeOfMain, LabelledEnd, LabelledProcedure, LabelledProcedures, first_routines, last_routines, next_routines}
pub use Rattle.codegen8080.specs.internal.Carrying.{CarriesOut}
pub use Rattle.codegen8080.specs.internal.Listing.{AreListed, ArePublicsIn, FollowPlaces, HavePlaces, IsMadeOf, IsPlaceAfter, IsPublicIn, used_name}
pub use Rattle.codegen8080.specs.internal.Names.{HasOwnPlace, IsLinkable, IsLinkage, IsOwnPlace, IsPublicHere, Linkage, names_of, names_of_externals, names_of_publics}
pub use Rattle.codegen8080.specs.internal.Segments.{IsKept, KeepsFixes, listed_target, retarget}
