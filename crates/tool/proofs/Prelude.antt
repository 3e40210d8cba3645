-- The names that the proofs of this crate cite, passed on from one place. Declares nothing.
pub use Rattle.std.proofs.{Common.{All, Err, List, None, Ok, Option, Result, Some, [], add-one, ap, append-nil, append_assoc, arith, drop, get_or, inl, inr, length, map, refl, rules, subst, suc, sym, zero, zip, ℕ, ⊎_elim, ◌++◌, ◌+◌, ◌<◌, ◌∙◌, ◌∷◌, ◌≡◌, ◌≤◌, ◌⊎◌}, Math.ListN.{drop_of_length-le}, Math.Seq.{drop-cons}, lemmas.Bool.{cases_lt}, lemmas.List.{get_or-map, length-map}, lemmas.List.Elements.{All-cons, All-from_recursion, All-nil}}
pub use Rattle.std.specs.{Io.KnownBytes.{Appends}, List.{AllByRecursion, AllZip}, Prelude.{IsErrAnd}}
pub use Rattle.mem80.proofs.Results.{same_Ok}
pub use Rattle.mem80.specs.{Memory.{IsMemory}, declared.plan.Plan.{Plan}}
pub use Rattle.typed_trees.specs.{Jumps.{JumpsAreSound}, TypedTrees.{TypedModule}, Views.{module_view}, declared.module.Typed.{Typed}}
pub use Rattle.layout.specs.{Joined.{IsJoined}, Lawful.{IsLawful}, Placement.{Placement}, Sound.{IsSoundlyTyped}, Storage.{Storage, storage_with}, Views.{layout_view}, declared.slot.Layout.{Layout}}
unfoldable pub use Rattle.layout.specs.Placing.{placement_by, placing_refusal}
pub use Rattle.placing.specs.{Segments.{HaveStorage}, Views.{plan_view}}
pub use Rattle.object_modules.specs.{Image.{Image, PlacementRefusal, image_of}, Merge.{LinkRefusal}, Module.{IsObjectModule, ObjectModule, length_of}}
unfoldable pub use Rattle.object_modules.specs.Merge.{merge_of}
pub use Rattle.locate.specs.{Loading.{GivesItsImage}, Locating.{Absolute, IsPlaced, loaded}}
pub use Rattle.file_laws.proofs.FileImages.{files_give_the_image}
pub use Rattle.cpu8080.specs.{Machine.{Machine}, Runs.{IsOnlyHalt, IsRun}, declared.machine.End.{End, TheVariants.{Halted}}}
pub use Rattle.generation.proofs.Programs.{keeps_contract, make_the_program, numbers_fit}
pub use Rattle.generation.specs.{Agreement.{Agrees}, Kept.{KeepsContract}, MemoryAtEnd.{EndsAlike, HoldsAtEnd}, internal.Modules.{IsSoundTreeCode, MakesNone}, internal.Typed.{AreSoundlyMade, IsSoundlyMade}, internal.Names.{HaveImage}, internal.Programs.{AreLoaded}}
unfoldable pub use Rattle.generation.specs.internal.Modules.{OfItsModule}
pub use Rattle.sources.specs.{Causes.{HasReadCause}, Programs.{AreSourcesOf, IsPlacedBy, IsProgramOf, program_modules, text_of, texts_of}, Reading.{IsSourceOf}, declared.placed.Placed.{Placed}, declared.read.ReadFault.{ReadFault}}
pub use Rattle.tool.specs.Execution.{HasMemoryOf, IsFaithful, started}
pub use Rattle.tool.specs.Headline.{DoesWhatItSays, EndsWithItsMemory}
unfoldable pub use Rattle.tool.specs.Image.{machine_run}
pub use Rattle.tool.specs.Made.{IsCompiledTo, IsImageOfFiles, IsImageOfObjects, StartsAsItsSource, code_lengths}
pub use Rattle.tool.specs.Sources.{AreWithoutFault, HasCause, HasNoObject, IsInOrder, IsRefusedAlone, IsWithoutFault, sources_before}
pub use Rattle.tool.specs.declared.compiled.Compiled.{Compiled}
pub use Rattle.tool.specs.declared.fault.ToolFault.{ToolFault}
pub use Rattle.tool.specs.declared.fault.ToolFault.TheVariants.{Code, Link, Locate, Program, Source, TooManySources}
pub use Rattle.tool.specs.internal.Compiling.{AreCompiled, HasBuildCause, HasCompileCause, HasGenerationCause, HasSource, HasSourceCause, IsBuiltFrom, IsCompiled, IsNotCompiled, failure_of_code, module_in}
pub use Rattle.tool.specs.internal.Merged.{GivesImageOfObjects}
