-- The names that the proofs of this crate cite, passed on from one place. Declares nothing.
pub use Rattle.std.proofs.{Common.{Bool, Err, IfSome, List, None, Ok, OnOk, Option, Result, Some, [], ap, append-nil, append_assoc, arith, drop, false, if◌then◌else◌, inl, inr, is_some, length, nat_le, nat_lt, not, option_and_then, option_map, refl, rules, set, slice_get, slice_index_or, subst, suc, sym, take, true, unwrap_or, zero, ℕ, ◌%◌, ◌&&◌, ◌*◌, ◌++◌, ◌+◌, ◌-◌, ◌/◌, ◌<◌, ◌==◌, ◌||◌, ◌∙◌, ◌∷◌, ◌≡◌, ◌≤◌, ◌⊎◌}, lemmas.Bool.{ltb-true}, lemmas.List.{drop_all, drop_at, take_at}, lemmas.List.Folds.{list_any-append}, lemmas.Option.{none-some, same_Some}}
pub use Rattle.trees.proofs.{Lists.{drop_found}}
pub use Rattle.trees.specs.{declared.declaration.ScalarType.{ScalarType}, declared.declaration.ScalarType.TheVariants.{Address, Byte}, declared.expression.BinaryOperator.{BinaryOperator}, declared.expression.UnaryOperator.{UnaryOperator}, declared.expression.UnaryOperator.TheVariants.{Negate, Not}, internal.Functions.{byte_taken}}
pub use Rattle.typed_trees.specs.{declared.parts.ShiftFunction.{ShiftFunction}, declared.parts.ShiftFunction.TheVariants.{RotateLeft, RotateRight, ShiftLeft, ShiftRight}}
pub use Rattle.isa8080.specs.{declared.instr.Condition.{Condition}, declared.instr.Instr.{Instr}, declared.instr.Instr.TheVariants.{AccumulateImmediate, Dad, Dcr, Dcx, Inr, Inx, MovToMemory, Mvi, Rlc, Rrc}, declared.instr.Operand.TheVariants.{M, Of}, declared.instr.Operation.{Operation}, declared.instr.Operation.TheVariants.{Add, And, Compare, ExclusiveOr, Or, Subtract, SubtractWithBorrow}, declared.instr.Pair.TheVariants.{Bc, Hl}, declared.instr.Register.{Register}, declared.instr.Register.TheVariants.{A, B, D, H, L}}
pub use Rattle.asm8080.specs.{declared.item.Item.{Item}, declared.item.WordForm.TheVariants.{CallTo, LoadA, LoadHl, StoreA, StoreHl}}
pub use Rattle.treecode.specs.{internal.Homes.{location_after}, internal.Nodes.{entry_of, nodes_of}, internal.Queries.{argument, home, inside, place_number, source}, internal.Rising.{ArgumentsAreBelow, NumbersRise, PartsAreBelow, ReferenceIsBelow, SubscriptIsBelow, TargetIsBelow}, declared.expression.Expression.{Expression}, declared.expression.ExpressionForm.{ExpressionForm}, declared.expression.ExpressionNumber.{ExpressionNumber}, declared.lists.Range.{Range}, declared.module.TreeModule.{TreeModule}, declared.place.Location.{Location}, declared.place.Location.TheVariants.{Frame, Static}, declared.place.Place.{Place}, declared.place.Place.TheVariants.{Number}, declared.reference.Reference.{Reference}, declared.reference.Subscript.{Subscript}, declared.reference.Target.{Target}, declared.reference.Target.TheVariants.{Sent, Stored}}
pub use Rattle.steps8080.specs.{internal.Facts.{before, byte_for_l, byte_from_hl, is_at}, internal.Instructions.{clear_a, copy, high, load, low, with_register}, internal.Queries.{base_after, base_of, form_in_memory, high_of, located_at, reference_after, split_form, split_sum, split_whole}, internal.Questions.{agree, mirrored, question_of, relation_by, relation_of_form, relation_with_number}, internal.Step.{Adds, AddsWithLabels, extension_steps, label_after, label_of, repeat_steps}, internal.Widths.{unknown, word_of}, internal.Writer.{Writes, jump_item}, declared.facts.Facts.{Facts}, declared.sites.queries.Base.{Base}, declared.sites.queries.Split.{Split}, declared.sites.questions.Comparison.{Comparison}, declared.sites.questions.Inquiry.{Inquiry}, declared.sites.questions.Inquiry.TheVariants.{Between, WithNumber}, declared.sites.questions.NumberQuestion.{NumberQuestion}, declared.sites.questions.NumberQuestion.TheVariants.{Below, Is, Never}, declared.sites.questions.Question.{Question}, declared.sites.questions.Question.TheVariants.{Equal, LeftBelow, RightBelow}, declared.sites.questions.Relation.{Relation}, declared.sites.site.Site.{Site}, declared.step.LabelNumber.{LabelNumber}, declared.step.Part.{Part}, declared.step.Step.{Step}, declared.step.Step.TheVariants.{CallProcedure}, declared.step.Steps.{Steps}, declared.step.Task.{Task}}
unfoldable pub use Rattle.steps8080.specs.{internal.Queries.{direct, high_in_memory, is_free, is_quiet, keeps, keeps_of_address, known, located, location_of, may_exchange, memory, number, number as number_of, plain_in_memory, same_low_byte, split, split_computed}, internal.Questions.{relation_between, relation_of}, internal.Site.{distance, expression, scalar}, internal.Widths.{direct_word, fits_byte, high_byte_in_memory, is_byte_in_register, is_word_in_hl, low_number, operand_in_memory, power, power_of_two, word_in_memory}}
pub use Rattle.operands8080.specs.{declared.answers.Purpose.{Purpose}, declared.answers.Purpose.TheVariants.{Branch, Value}, declared.answers.Setting.{Setting}, declared.branches.Junction.{Junction}, declared.branches.Shape.{Shape}, declared.branches.Shape.TheVariants.{Joined, Known, Opposite, Other, SameAs, Whatever}, declared.byte_relations.Form.{Form}, declared.byte_relations.Form.TheVariants.{WithE, WithMemory}, declared.byte_relations.Sides.{Sides}, declared.pairs.PairForm.{PairForm}, declared.pairs.PairForm.TheVariants.{LeftKeeps, LeftKnown, RightKeeps, RightKnown}, declared.pairs.PairOrder.{PairOrder}, declared.pairs.PairOrder.TheVariants.{LeftInHl, RightInHl}, declared.relations.Outcome.{Outcome}, declared.stores.Goal.{Goal}, declared.stores.Near.{Near}, declared.stores.Near.TheVariants.{First, Second}, declared.word_relations.Apart.{Apart}, declared.word_relations.Word.{Word as WordRegisters}, declared.word_relations.Words.{Words}, declared.word_relations.Words.TheVariants.{DeAndHl, PlaceAndHl}, internal.Addresses.{addition_steps, address_steps, base_added_steps, base_steps, frame_word_steps, located_steps, location_address_steps, location_word_steps, negated, new_address_steps, number_added_steps, second_steps}, internal.Branches.{branch_labels, branch_part, branch_setting, branch_steps, equality_labels, equality_steps, is_odd, joined_labels, joined_steps, known_branch_steps, other_labels, other_steps, outcome_branch_steps, relation_branch_labels, relation_branch_steps, shape_labels, shape_of_binary, shape_of_form, shape_of_junction, shape_steps, shape_with_number}, internal.ByteRelations.{better_form, byte_is_steps, byte_relation_steps, comparing, exchanged, form_of_equality, form_or_push, in_order, is_zero_steps, known_answer, left_back_steps, may_begin_with, memory_form, number_in_a_steps, pushed_steps, register_form}, internal.Loads.{byte_in_memory_steps, byte_to_l_steps, extended_byte_in_memory_steps, frame_byte_steps, frame_byte_to_l_steps, location_byte_steps, word_in_memory_steps}, internal.Pairs.{form_steps, order_of, pair_form, pair_in_order_steps, pair_order, pair_steps, wish_for_left, wished_steps}, internal.Products.{bit_steps, byte_multiple_steps, byte_product_steps, multiple_steps, product_steps, small_multiple_steps}, internal.Relations.{carry_steps, inquiry_steps, outcome_value_steps, relation_outcome, relation_steps, relation_value_steps, value_setting}, internal.Stores.{address_beside_a_steps, address_beside_de_steps, byte_is_here_steps, goal_of, goal_steps, store_a_at_steps, store_a_steps, store_extended_steps, store_hl_at_steps, store_low_byte_at_steps, store_low_byte_steps, store_near_steps, store_steps, store_word_steps, value_back_steps, word_is_here_steps, word_near}, internal.WordRelations.{apart_of, high_difference_steps, high_steps, in_hl, left_apart, load_a_steps, low_difference_steps, low_steps, masked_form, masked_steps, other_word, place_apart, right_apart, taken_steps, with_place_steps, word_below_steps, word_is_steps, word_number_steps, word_question_steps, word_relation_steps, word_taken_from, words_asked, words_compared, words_of, words_steps}}
unfoldable pub use Rattle.operands8080.specs.{internal.Branches.{shape_of}, internal.ByteRelations.{is_better_exchanged, without_push}, internal.Products.{chain_from, has_bit}, internal.WordRelations.{equality_of_words, masked, operand_apart, word_is_zero_steps}}
pub use Rattle.exprgen8080.specs.{declared.byte_operators.ByteForm.{ByteForm}, declared.byte_operators.ByteForm.TheVariants.{LeftFree, LeftInMemory, Pushed, RightFree, RightInMemory}, declared.byte_operators.Operands.{Operands}, declared.byte_shifts.Shifted.{Shifted}, declared.emission.Emission.{Emission}, declared.word_operators.Simple.{Simple}, internal.Emission.{AreWritten, CallWritten, ChangeWritten, HoldsWritten, IsWritten, JumpWritten, MarkWritten, NoneWritten, PartWritten, PlainWritten, Planned, RoutineWritten, TestWritten, WordWritten, call_items, call_routine, calls_label, has_routine, index_of_routine, knowing, module_label_of_routine, module_routine_label, test_items}, internal.Emitted.{AddsItems, Emits, EmitsSteps, HasAll, IsAlone, NotesCalled, NotesOnly, after_step, step_items}, internal.Labelled.{AreLabelled, IsLabelled}, internal.Marks.{Differ, IsIn, labels_from, marks_of}, internal.Ranks.{AreBelow, arguments_bound, index_bound, part_measure, rank, rank_of_byte, rank_of_word, reference_bound, step_measure, target_bound, type_in}}
unfoldable pub use Rattle.exprgen8080.specs.{internal.ByteOperators.{added_steps, byte_binary_steps, byte_operation_steps, commutes, form_after_right, form_from_register, form_of, form_with_left, form_without_memory, from_number_steps, immediate_steps, in_form_steps, number_of_two, product_byte_steps, quotient_byte_steps, remainder_byte_steps, with_e_steps, with_memory_steps, with_number_steps, with_stack_steps}, internal.ByteShifts.{by_number_steps, byte_routine, byte_shift_steps, byte_shifted_right_steps, count_in_memory_steps, low_byte_shifted_right_steps, middle_byte_steps, operands_steps, right_shift_steps, rotation_steps, shifted_left_steps, turned_right_steps, zero_steps}, internal.Bytes.{byte_form_steps, byte_function_steps, byte_of_two_steps, byte_steps, byte_unary_steps, called_byte_steps, embedded_steps, known_byte_steps, low_of_value_steps}, internal.Calls.{argument_steps, arguments_steps, call_steps, last_argument_steps, pushed_argument_steps, value_task}, internal.Effects.{both_effects_steps, effects_steps, form_effects_steps, reference_effects_steps, subscript_effects_steps}, internal.Forms.{task_labels, task_steps}, internal.Halves.{byte_number_steps, high_byte_steps, low_of_word_steps}, internal.Routines.{computed_product_steps, division_steps, product_order}, internal.WordOperators.{and_with_number_steps, both_halves_steps, computed_logic_steps, difference_steps, exchanged_operand, first_and_simple, half_steps, half_through_a_steps, high_half_steps, is_of_bytes, left_word, logic_steps, logic_with_byte_steps, logic_with_number_steps, logic_with_simple_steps, paired_steps, product_word_steps, quotient_steps, remainder_steps, simple_operand, sum_steps, taken_from_number_steps, with_pair_steps, with_simple, with_word_steps, word_binary_steps}, internal.WordShifts.{computed_count_steps, count_beside_word_steps, half_steps as shifted_half_steps, quarter_steps, shifted_right_little_steps, word_by_number_steps, word_shift_steps, word_shifted_right_steps}, internal.Words.{computed_word_steps, extended_byte_steps, word_form_steps, word_of_two_steps, word_steps, word_unary_steps}}
