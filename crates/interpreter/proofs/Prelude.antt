-- The names that the proofs of this crate cite, passed on from one place. Declares nothing.
pub use Rattle.std.proofs.{Common.{All, Bool, Err, Global, IfErr, IfOk, List, None, Ok, OnErr, Option, Result, Some, [], ap, arith, cond, drop, false, find, flat_map, get_or, length, length-drop, map, min, nat_lt, option_map, position, refl, set, slice_get, subst, suc, sym, true, vec_items, zip, ℕ, ◌++◌, ◌+◌, ◌-◌, ◌<◌, ◌∙◌, ◌∷◌, ◌≡◌, ◌≤◌}, Math.Decide.{dec_le}, Math.ListN.{drop_of_length-le}, lemmas.Iterator.Adapters.{position_from-zero}, lemmas.List.{at_drop_all, at_drop_more, set_past}, lemmas.Option.{slice_get-map, slice_get_read}, lemmas.Slice.Zip.{zip_end}}
pub use Rattle.std.specs.{List.{enumerate_from, position_from}, Option.{option_map_or}, Prelude.{Vec}}
pub use Rattle.mem80.proofs.Results.{if_ok_then}
pub use Rattle.ports.proofs.Beginnings.{begins_itself}
pub use Rattle.typed_trees.specs.{Jumps.{JumpsAreSound}, TypedTrees.{ListOf, TypedList, TypedModule}, Views.{module_view, object_view}, declared.module.Typed.{Typed}, declared.module.TypedObject.{TypedObject as Object}, declared.parts.InitialValue.{InitialValue, TheVariants.{ByteValue}}}
unfoldable pub use Rattle.typed_trees.specs.Charge.{charge_of}
pub use Rattle.layout.specs.{Joined.{is_main}, Placement.{ModulePlacement, Placement}, StartingMemory.{Contents, address_of_object, bytes_of_value, contents_of_list, contents_of_module, contents_of_object, written}}
unfoldable pub use Rattle.layout.specs.StartingMemory.{starting_memory}
pub use Rattle.placing.proofs.Passes.{drop_item, drop_past}
pub use Rattle.placing.specs.{Views.{module_placement_view, placement_view}, declared.placement.ModulePlacement.{ModulePlacement as CodePlacement}}
pub use Rattle.meaning.specs.{Access.{Surroundings, address_of}, Meaning.{done_list, later_by}, Outcomes.{Ended, Flow, Gave, Outcome, Outside, Program, State, Stop, Stopped}, Run.{Run, main_done, number_of_main, run_of}, declared.reason.Reason.TheVariants.{Stack}, internal.Kept.{ComesAfter}}
unfoldable pub use Rattle.meaning.specs.Run.{source_run}
pub use Rattle.stack_code.proofs.Events.{adds_both}
pub use Rattle.resolving.specs.{internal.Views.{program_view, site_view}, declared.site.Site.{Site}}
pub use Rattle.interpreter.specs.internal.Contents.{contents_at, contents_from, module_in, with_all, with_contents}
pub use Rattle.interpreter.specs.internal.MainModules.{found_from, found_view}
