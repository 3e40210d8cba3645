-- The names that the proofs of this crate cite, passed on from one place. Declares nothing.
pub use Rattle.std.proofs.{Common.{Bool, List, None, Option, Result, Some, [], ap, arith, cond, drop, false, get_or, length, map, nat_eq, option_map, refl, replicate, set, subst, suc, sym, true, true≢false, zero, ℕ, ◌%◌, ◌&&◌, ◌++◌, ◌+◌, ◌-◌, ◌<◌, ◌==◌, ◌∙◌, ◌∷◌, ◌≡◌, ◌≤◌}, Math.Dec.{eqb-suc-suc, eqb-suc-zero, eqb-zero-suc}, Math.Seq.{set-append_seam}, lemmas.Iterator.Adapters.{position_from-zero}, lemmas.List.{append-nil, append_assoc, at_drop_all, length-append, map-append}, lemmas.Option.{slice_get-map, slice_get_read}, lemmas.Result.{on_ok_weaker}}
pub use Rattle.std.specs.{List.{enumerate_from, position_from}, Option.{option_and_then, option_map_or}, Prelude.{IfOk, flat_map, slice_get, slice_index}}
pub use Rattle.mem80.proofs.Lists.{all_append}
pub use Rattle.trees.proofs.Lists.{drop_item}
pub use Rattle.trees.specs.declared.declaration.ScalarType.{ScalarType}
pub use Rattle.typed_trees.specs.{TypedTrees.{At, BasedOn, Elsewhere, Home, InConstants, InData, InFrame, LoopStatement, MoreStatements, NoStatements, NoSubscript, Nowhere, PartOf, Placed, Subscript, TypedHead, TypedIteration, TypedList, TypedModule, TypedProcedure, TypedReference, TypedStatements}, Views.{arguments_view, else_view, expression_view, head_view, list_view, module_view, procedure_view, statement_view, statements_view, subscript_view, target_view}, declared.expression.TypedExpression.{TypedExpression}, declared.expression.TypedTarget.{TypedTarget}, declared.module.Typed.{Typed}, declared.module.TypedProcedure.{TypedProcedure as CodeProcedure}, declared.statement.TypedStatement.{TypedStatement as CodeStatement, TypedStatement}}
pub use Rattle.layout.specs.{Joined.{InProgram, is_main}, Placement.{Placement}}
pub use Rattle.placing.specs.Views.{placement_view}
pub use Rattle.meaning.specs.{Access.{address_of, home_of}, Meaning.{procedure_at}, Outcomes.{Program}, Run.{number_of_main}}
pub use Rattle.stack_code.specs.{internal.Code.{Purpose, Site, ToRead, ToWrite, arguments_code, called_code, cases_code, choice_code, count_of_arguments, count_of_statements, else_code, entries_code, expression_code, first_code, index_code, instruction_after, instruction_at, instruction_of_frame, list_code, loop_code, main_code, module_code, parameter_code, parameters_code, part_at, part_code, procedure_code, reference_code, scalar_code, site_of, statement_code, statements_code, step_code, surroundings_at, target_code, targets_code, test_code, value_or, variable_code, whole_in_frame}, internal.Machine.{after_first, is_begin, is_mark}, internal.Program.{AreTablesOf, entry_in, label_in}, declared.instruction.Instruction.{Instruction, TheVariants.{Advance, Begin, Binary, BinaryWith, Call, Case, Convert, Discard, Drop, FrameParameter, Function, Goto, Halt, Input, Jump, JumpUnless, LocateFrame, LoopBack, Mark, Move, Output, Parameter, Push, Read, ReadAt, ReadFrame, Return, Scale, Shift, Step, Sum, Unary, Write, WriteAt, WriteFrame}}, declared.program.Entry.{Entry}, declared.program.ModuleTable.{ModuleTable}, declared.program.StackProgram.{StackProgram}}
unfoldable pub use Rattle.stack_code.specs.internal.Code.{program_code}
pub use Rattle.resolving.specs.{internal.Storage.{storage_by}, internal.Views.{found_view}, declared.publics.Found.{Found}, declared.site.Storage.{Storage, TheVariants.{Base, Frame, Memory}}}
pub use Rattle.stack_compiler.specs.{declared.marking.PartMark.{PartMark}, declared.marking.ProgramMarks.{ProgramMarks}, declared.marking.StackMark.{StackMark}, internal.Marked.{AreMarksOf, AreOfModules, first_place, main_mark, stack_mark}}
pub use Rattle.stack_compiler.specs.internal.Openings.{Opening, closed, holes, opened, opening, passing, with_case}
pub use Rattle.stack_compiler.specs.internal.Rows.{Row, empty_row, entry_begun, first_of, noted, noted_all, padded, row_begun, row_labelled, row_view, started_entry, started_row, updated, with_label}
pub use Rattle.stack_compiler.specs.internal.Sequences.{modules_code_from, procedures_code_from}
pub use Rattle.stack_compiler.specs.internal.Sites.{site_view}
