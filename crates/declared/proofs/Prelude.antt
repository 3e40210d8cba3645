-- The names that the proofs of this crate cite, passed on from one place. Declares nothing.
pub use Rattle.std.proofs.{Common.{Bool, Decides, Err, List, None, Ok, Option, Result, Some, [], ap, arith, cond, drop, eqb, false, get_or, if◌then◌else◌, inl, inr, le-ltb, length, lt-ltb, map, min, nat_lt, refl, replicate, reverse, set, slice_range, subst, suc, sym, take, true, zero, ℕ, ◌%◌, ◌*◌, ◌++◌, ◌+◌, ◌-◌, ◌/◌, ◌<◌, ◌==◌, ◌∙◌, ◌∷◌, ◌≡◌, ◌≢◌, ◌≤◌}, Math.Decide.{dec_le}, Math.Seq.{take-set-lt}, lemmas.Bool.{cases_eq, or_right}, lemmas.Bool.Decides.{Decides-and, Decides-ltb, nat_tests}, lemmas.List.{drop-drop, drop-replicate, drop-set-add, drop-set-lt, drop_at, get_or-set_other, get_or-set_same, get_or_append_left, get_or_past, get_or_push, get_or_read, length-append, length-set, length-take, reverse-append, set_past, take-replicate, take-set-le, take_at, with_items_is}, lemmas.List.Folds.{Any-from_list_any, list_any-from_Any}, lemmas.List.Sums.{sum_by-drop_more}, lemmas.Option.{get_or_from_slice_get, slice_get-get_or, slice_get_within}}
pub use Rattle.std.specs.{List.{list_any}, Option.{option_eq}, Prelude.{filter, nat_le, slice_get, sum_by, ◌||◌}, Vec.{with_items}}
pub use Rattle.mem80.proofs.Booleans.{or_kept}
pub use Rattle.typed_trees.specs.{Sizes.{size_of_member, size_of_object}, TypedTrees.{BasedOn, Elsewhere, Home, InConstants, InData, InFrame, Nowhere, Placed, TypedModule, TypedObject}, Views.{object_view}, declared.parts.TypedMember.{TypedMember}}
pub use Rattle.placing.specs.{internal.Tables.{IsKind, IsTableOf}, Views.{placement_view}, declared.table.ByteKind.{ByteKind, TheVariants.{Undeclared, Writable}}}
pub use Rattle.meaning.specs.{Access.{InMemory, InTheFrame, frame_bytes, is_constant, is_declared, read_byte, read_scalar, write_byte, write_scalar}, Meaning.{frame_of, is_frame_of}, Outcomes.{Gave, Outcome, Outside, Program, State, Stopped, then_do}, declared.reason.Reason.{Reason, TheVariants.{Byte as UndeclaredByte, Constant}}}
pub use Rattle.declared.specs.internal.Access.{Written, byte_read, byte_written, next_address, number_of_bytes, refused, scalar_read, scalar_written, then_write, written}
pub use Rattle.join.specs.Views.{modules_in}
unfoldable pub use Rattle.declared.specs.internal.Access.{is_constant_at, is_declared_at}
pub use Rattle.declared.specs.internal.Frames.{ModuleFrames, current_frame, frame_object, frame_object_by, frame_scalar, frame_with_byte, frame_with_scalar, is_procedure, module_frames, size_in, sizes_in, with_current, zeroed, zeroed_frame}
pub use Rattle.declared.specs.declared.frames.OpenFrame.{OpenFrame}
pub use Rattle.declared.specs.internal.Cuts.{cut, total}
pub use Rattle.declared.specs.internal.Nesting.{AreFrames, AreNested, frames_in, open_frames, sizes_of}
