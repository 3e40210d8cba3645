-- The names that the proofs of this crate cite, passed on from one place. Declares nothing.
pub use Rattle.std.proofs.{Common.{Bool, List, None, Option, Some, [], ap, arith, cond, drop, false, get_or, if◌then◌else◌, is_some, length, map, option_map, refl, subst, sym, true, true≢false, ℕ, ◌&&◌, ◌++◌, ◌+◌, ◌<◌, ◌∙◌, ◌∷◌, ◌≡◌, ◌≤◌}, lemmas.Cmp.{nat_list_eq_equiv}, lemmas.Iterator.Adapters.{position_from-zero}, lemmas.List.{at_drop_all}, lemmas.Slice.Eq.{bytes_eq-Decides}}
pub use Rattle.std.specs.{List.{position, position_from}, Map.{lookup}, Option.{option_and_then, option_map_or, option_or}, Prelude.{slice_get}, Str.{bytes_eq}}
pub use Rattle.trees.proofs.Lists.{drop_item}
pub use Rattle.typed_trees.specs.{TypedTrees.{TypedModule}, Views.{module_view, object_view, procedure_view}, declared.module.Typed.{Typed}, declared.module.TypedObject.{TypedObject as CodeObject}, declared.module.TypedProcedure.{TypedProcedure as CodeProcedure}}
pub use Rattle.layout.specs.{Joined.{InProgram, first_found, in_module, is_public_procedure, public_object_in, public_procedure_in}, StartingMemory.{address_in, meant_in}}
pub use Rattle.resolving.specs.internal.PublicNames.{Table, found_at, is_public_object, is_shown_procedure, name_of_object, name_of_procedure, objects_of, procedures_of, public_objects, public_procedures, with_found, with_items, with_modules, with_public}
unfoldable pub use Rattle.resolving.specs.internal.PublicNames.{with_all_objects, with_all_procedures, with_objects, with_procedures}
