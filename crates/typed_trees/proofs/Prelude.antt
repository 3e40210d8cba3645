-- The names that the proofs of this crate cite, passed on from one place. Declares nothing.
pub use Rattle.std.proofs.{Common.{Bool, List, None, Option, Some, [], add-one, ap, arith, cond, drop, false, get_or, if◌then◌else◌, is_some, le-ltb, length, lt-ltb, map, max, min, mul-le-mul_right, mul_comm, nat_lt, not, one-mul, position, refl, slice_get, subst, suc, suc-mul, sum_by, sym, take, true, true≢false, zero, ℕ, ◌*◌, ◌++◌, ◌+◌, ◌<◌, ◌||◌, ◌∙◌, ◌∷◌, ◌≡◌, ◌≤◌}, Math.Decide.{dec_le, dec_lt}, Math.ListN.{drop_of_length-le}, Math.Seq.{drop-cons}, lemmas.Cmp.{nat_list_eq_equiv}, lemmas.List.Elements.{All-from_recursion, All-nil}, lemmas.List.Sums.{sum_by-cons, sum_by_push}, lemmas.Nat.{mul-le}, lemmas.Option.{slice_get-map}}
pub use Rattle.std.specs.{List.{AllByRecursion, position_or_len}, Map.{keys_of, lookup}, Option.{option_map}, Prelude.{IsSomeAnd}, Str.{bytes_eq}}
pub use Rattle.trees.proofs.Lists.{drop_item}
pub use Rattle.trees.specs.{declared.declaration.ScalarType.{ScalarType, TheVariants.{Address, Byte}}, declared.expression.BinaryOperator.TheVariants.{Multiply, Subtract}}
pub use Rattle.typed_trees.specs.Charge.{count_of_arguments, height_of, height_of_arguments, height_of_statement, height_of_statements, height_of_target, height_of_targets}
pub use Rattle.typed_trees.specs.Numbers.{NumbersFit, NumbersFitIfSome, NumbersFitIn, NumbersFitInArguments, NumbersFitInElse, NumbersFitInHead, NumbersFitInModule, NumbersFitInProcedure, NumbersFitInStatements, NumbersFitInSubscript, NumbersFitInTarget, NumbersFitInTargets}
pub use Rattle.typed_trees.specs.ObjectParts.{IsInElement, IsOneOf, IsPartOf, IsScalarIn, IsScalarOf, IsSubscriptOf}
pub use Rattle.typed_trees.specs.Sizes.{after_member, capped, count_of, has_member, member_named, size_of_element, size_of_member, size_of_object, size_of_scalar}
pub use Rattle.typed_trees.specs.TypedTrees.{At, BasedOn, BinaryNode, CallNode, ConversionNode, Home, InData, InFrame, InputNode, ListOf, LocationNode, MoreArguments, MoreStatements, NoArguments, NoStatements, NoSubscript, NumberNode, ObjectType, PartOf, ReturnStatement, ScalarObject, ShiftNode, StructureObject, Subscript, TypedModule, TypedObject, TypedProcedure, TypedReference, ValueNode}
pub use Rattle.typed_trees.specs.Views.{argument_rows, arguments_view, expression_view, head_view, held_else_view, list_view, module_view, procedure_view, statement_rows, statement_view, statements_view, subscript_view, target_view}
pub use Rattle.typed_trees.specs.declared.expression.TypedExpression.{Row_of-TypedExpression, TypedExpression, end_of-TypedExpression, items-the_row-TypedExpression, more_of-TypedExpression}
pub use Rattle.typed_trees.specs.declared.expression.TypedTarget.{TypedTarget}
pub use Rattle.typed_trees.specs.declared.parts.TypedMember.{TypedMember}
pub use Rattle.typed_trees.specs.declared.statement.TypedStatement.{Row_of-TypedStatement, TypedStatement, end_of-TypedStatement, items-the_row-TypedStatement, more_of-TypedStatement}
