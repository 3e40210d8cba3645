-- The names that the proofs of this crate cite, passed on from one place. Declares nothing.
pub use Rattle.std.proofs.lemmas.Result.{IfOk-weaker}
pub use Rattle.std.proofs.Common.{Bool, Err, IfOk, List, Ok, Result, Some, [], ap, arith, false, length, refl, slice_get, subst, suc, sym, true, ℕ, ◌+◌, ◌∙◌, ◌∷◌, ◌≡◌, ◌≤◌}
pub use Rattle.std.specs.List.{AllZip}
pub use Rattle.typed_trees.specs.{Numbers.{NumbersFitInModule}, TypedTrees.{TypedModule, TypedProcedure}, Weight.{constant_bytes}}
unfoldable pub use Rattle.typed_trees.specs.Weight.{code_bound}
pub use Rattle.object_modules.specs.{Module.{IsObjectModule, ObjectModule, length_of}, declared.segment.Segment.TheVariants.{Code}}
pub use Rattle.treecode.specs.{internal.Lowered.{IsLowered}, internal.Nodes.{nodes_of}, declared.module.TreeModule.{TreeModule}, declared.procedure.ProcedureKind.{ProcedureKind}, declared.procedure.TreeProcedure.{TreeProcedure}}
pub use Rattle.treecode_laws.proofs.Slots.{stored}
pub use Rattle.treecode_laws.specs.internal.Laid.{IsStored}
pub use Rattle.codegen8080.specs.{internal.Modules.{AreCodeOf, IsCodeOf, IsCodeOfMain, IsGenerated, has_main}, internal.Refusals.{MayRefuse}, declared.fault.Fault.{Fault, TheVariants.{TooLong}}, declared.module.Generated.{Generated}}
pub use Rattle.program_laws.proofs.{Made.{are_storable, as_many_lengths, each_holds_constants, have_image, hold_constants, is_in_memory}, MadePrograms.{are_made, made_program_does, made_program_ends}, Names.{has_names}, Objects.{is_object_of}, OneModule.{generated_does}, Segments.{has_segments}}
pub use Rattle.program_laws.specs.{OneModule.{DoesWhereItLies}, internal.Typed.{AreSoundlyMade, IsSoundlyMade}}
pub use Rattle.measure_laws.proofs.{Bounds.Bounds.{code_is_within_its_bound, segment_is_within_its_bound, too_long_is_past_its_bound}, Heights.Modules.{pushes_within_charges}, Trees.{Bounds.{weight_is}, Constants.{constants_take}}}
pub use Rattle.measure_laws.specs.{internal.Bounds.{size_of_contents}, internal.Sound.{IsSound}, internal.Charges.{PushesWithinCharges}}
unfoldable pub use Rattle.measure_laws.specs.internal.Bounds.{bound_of_tree}
pub use Rattle.generation.specs.Bounded.{KeepsBound}
pub use Rattle.generation.specs.Kept.{KeepsContract}
pub use Rattle.generation.specs.internal.Measured.{IsPastBound, IsWithinBound}
pub use Rattle.generation.specs.internal.Modules.{IsCounted, MakesNone}
unfoldable pub use Rattle.generation.specs.internal.Modules.{OfItsModule}
