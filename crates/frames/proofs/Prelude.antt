-- The names that the proofs of this crate cite, passed on from one place. Declares nothing.
pub use mathlib.Core.Bool.{or-true}
pub use Rattle.std.proofs.{Common.{Bool, IsSomeAnd, List, None, Option, Some, [], ap, arith, cond, drop, false, filter, get_or, if◌then◌else◌, inl, inr, le_trans, length, map, min, mod-eq_of_lt, not, refl, slice_get, slice_index_or, subst, suc, sum_by, sym, take, true, unwrap_or, zero, zero-add, zip, ℕ, ◌%◌, ◌&&◌, ◌*◌, ◌++◌, ◌+◌, ◌-◌, ◌<◌, ◌==◌, ◌||◌, ◌∙◌, ◌∷◌, ◌≡◌, ◌≤◌, ◌⊎◌}, Math.ListN.{drop_of_length-le}, lemmas.Bool.{eq-eqb, eqb-true, false≢true, lt-ltb, ne_eqb, true≢false}, lemmas.List.{get_or_append_left, get_or_push, length-map, length_push}, lemmas.List.Elements.{All-get_or}, lemmas.List.FromFn.{get_or-enumerate_from, length-enumerate_from}, lemmas.List.Sums.{sum_by-cons}, lemmas.Option.{get_or_from_slice_get, none-some, same_Some, slice_get-get_or, slice_get-map, slice_get_within}}
pub use Rattle.std.specs.{List.{enumerate_from}, Option.{option_map_or}, Prelude.{All, Any, option_map}}
pub use Rattle.trees.specs.{declared.declaration.ScalarType.{ScalarType, TheVariants.{Address, Byte}}}
pub use Rattle.typed_trees.specs.{Charge.{height_of_list}, Frames.{AreParameters, FrameFits, FramesFit, HasParameters, IsParameter, ParametersFit, home_of_parameters, is_in_frame}, ObjectParts.{IsScalar}, Sizes.{count_of, size_of_element, size_of_object, size_of_scalar}, TypedTrees.{BasedOn, Elsewhere, Home, Home as TypedHome, InConstants, InData, InFrame, Nowhere, ObjectType, Placed, TypedModule, TypedObject, TypedProcedure}, declared.parts.Visibility.{Visibility}}
unfoldable pub use Rattle.typed_trees.specs.Charge.{charge_of}
pub use Rattle.treecode.specs.{Sound.{TakeBytes}, Storage.{Storage}}
pub use Rattle.treecode.specs.{internal.Homes.{frame_number, frame_position, frame_variable, frame_variables, home_of_object, homes_from, latest, lives_in_frame, numbered_in_frame, parameter_at, parameter_from, parameter_number, parameters_of, place_of_slot}, internal.Lowered.{HasBody, IsLowered, IsProcedure}, internal.Nodes.{Nodes, home_at, nodes_of}, declared.module.TreeModule.{TreeModule}, declared.place.Home.TheVariants.{Frame, Static}, declared.place.Place.TheVariants.{Number}, declared.procedure.FrameVariable.{FrameVariable}, declared.procedure.Parameter.{Parameter}, declared.procedure.TreeProcedure.{TreeProcedure}}
unfoldable pub use Rattle.treecode.specs.internal.Homes.{homes_of}
pub use Rattle.frames.specs.internal.Charges.{IsChargedAs, charge_in}
pub use Rattle.frames.specs.internal.Frames.{HasFrame, HasSize, IsPlanOf, LiesApart, bytes_by_parameter, bytes_of_call, distance_by_parameter, distance_of, parameter_distance, return_distance, return_of, size_in, variable_bytes as bytes_of_frame, variable_bytes, word_distance}
pub use Rattle.frames.specs.declared.frame_plan.FramePlan.{FramePlan}
pub use Rattle.frames.specs.internal.Distances.{IsFound, capped, capped_distance, capped_parameter, distances_from, next_after}
