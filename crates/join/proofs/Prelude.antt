-- The names that the proofs of this crate cite, passed on from one place. Declares nothing.
pub use Rattle.std.proofs.{Common.{Bool, List, None, Option, Some, [], ap, arith, cond, count_by, drop, false, filter_map, get_or, if◌then◌else◌, is_some, length, map, nat_eq, not, option_map, refl, slice_get, subst, sym, true, true≢false, ℕ, ◌&&◌, ◌++◌, ◌+◌, ◌<◌, ◌==◌, ◌||◌, ◌∙◌, ◌∷◌, ◌≡◌, ◌≤◌}, Math.ListN.{drop_of_length-le}, lemmas.Cmp.{nat_list_eq_equiv}, lemmas.Grind.{common_steps}, lemmas.List.{append-nil, append_assoc, at_drop_all, length-drop}, lemmas.List.Sums.{sum_by-cons}, lemmas.Option.{slice_get_within}, lemmas.Slice.Eq.{bytes_eq-Decides}}
pub use Rattle.std.specs.{List.{filter, find, list_any}, Map.{lookup}, Option.{option_map_or, option_or}, Str.{bytes_eq}}
pub use Rattle.trees.proofs.Lists.{drop_found, drop_item, drop_past}
pub use Rattle.typed_trees.specs.{TypedTrees.{ListOf, TypedModule}, Views.{module_view, statements_view}, declared.module.Typed.{Typed}, declared.parts.TypedMember.{TypedMember}, declared.statement.TypedStatement.{TypedStatement}}
pub use Rattle.layout.specs.Joined.{DeclarationsDiffer, Global, JoinRefusal, NoPublic, NotOneMain, PublicTwice, agree, declared_otherwise, differs_from_public, externals_of, first_repeated, global_of, globals_of, has_statement, is_main, lacks_public, not_one_main, public_named, public_twice, publics_of, same_dimension, same_members, same_parameters, same_scalar, without_public}
unfoldable pub use Rattle.layout.specs.Joined.{join_refusal}
pub use Rattle.join.specs.declared.publics.Publics.{Publics}
pub use Rattle.join.specs.declared.shared.Shared.{Shared}
pub use Rattle.join.specs.internal.PublicTables.{PublicTable, differs_in, entry_view, lacks_in, named_in, no_publics, publics_view, with_publics}
unfoldable pub use Rattle.join.specs.internal.PublicTables.{with_public}
pub use Rattle.join.specs.internal.Shared.{first_external, global_view, globals_view}
