-- The names that the proofs of this crate cite, passed on from one place. Declares nothing.
pub use Rattle.std.proofs.{Common.{Bor, List, [], ap, arith, drop, drop-cons, get_or, length, map, subst, suc, sym, take, ℕ, ◌++◌, ◌+◌, ◌<◌, ◌∙◌, ◌∷◌, ◌≡◌, ◌≤◌}, lemmas.List.{map-append, map_more, take-append-drop}, lemmas.Slice.Zip.{AllZip-long, all_zipped_more}}
pub use Rattle.std.specs.{List.{AllZip, list_all}, Option.{option_map}}
pub use Rattle.symbols.specs.Names.{is_name}
pub use Rattle.object_modules.specs.{Before.{same_segment}, Displacements.{start_of}, Module.{ObjectModule, length_of}, Spelling.{Spells}, internal.Views.{public_view}, Walking.{Walking}, internal.Walks.{HandsOut}, declared.segment.Segment.TheVariants.{Code, Data}}
unfoldable pub use Rattle.object_modules.specs.{internal.Walks.{module_by}}
pub use Rattle.objmod.proofs.ReadParts.{externals_told, name_told, publics_told}
pub use Rattle.objmod.specs.internal.Keeping.{listed, put_all}
pub use Rattle.link_laws.proofs.{ContentsFitAt.{code_fits, data_fits, first_within}, NameWalks.{externals_handed, fits_without_externals, fits_without_publics, name_handed, names_left, public_handed, publics_handed, publics_left}, PieceGrown.{code_grown, data_grown}}
pub use Rattle.link_laws.specs.{internal.Building.{AreWithin}, internal.Growing.{AllFitAt, grown_from, grown_in, public_name}}
