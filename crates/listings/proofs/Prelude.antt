-- The names that the proofs of this crate cite, passed on from one place. Declares nothing.
pub use Rattle.std.proofs.{Common.{All, Bool, Contains, Err, List, None, Ok, OnOk, Option, Result, Some, [], ap, arith, codes, cond, decimal, drop, false, filter, filter_map, flat_map, get_or, if◌then◌else◌, inl, inr, length, map, min, nat_lt, option_map, refl, replicate, slice_get, slice_index, subst, suc, sum_by, sym, take, true, unwrap_or, zero, zip, ℕ, ⊎_elim, ◌%◌, ◌&&◌, ◌++◌, ◌+◌, ◌-◌, ◌/◌, ◌<◌, ◌==◌, ◌^◌, ◌||◌, ◌∙◌, ◌∷◌, ◌≡◌, ◌≤◌}, lemmas.{Bool.{and_parts, cases_lt, eq-eqb, eqb-true, ltb-true, true≢false}, Fmt.{decimal_digit, decimal_step}, Grind.{flat_map-append}, List.{append-nil, append_assoc, drop_all, length-append, length-drop, length-map, length-take, map-append, nil_from_length, take-append-le, take_all, Elements.{All-from_recursion, Contains-append_left, Contains-append_right}, Kept.{AllPairs-cons}}, Option.{none-some, same_Some, slice_get-map}}}
pub use Rattle.std.specs.{Fmt.{digits_output, format_spec, styled_digits_output, ◌++?◌}, Io.KnownBytes.{Appends}, List.{AllByRecursion, AllPairs, cons_option, list_any}, Prelude.{IfOk, IfSome, option_to_list}}
unfoldable pub use Rattle.std.specs.Fmt.{digits}
pub use Rattle.mem80.specs.declared.{memory.TheConstants.{MEMORY_SIZE}, range.Piece.{Piece}}
pub use Rattle.typed_trees.specs.{Sizes.{size_of_object}, TypedTrees.{TypedModule, TypedObject, TypedProcedure}, Views.{module_view, object_view, procedure_view}, Weight.{constant_bytes, size_of_constant}, declared.module.{TypedObject.{TypedObject as CodeObject}, TypedProcedure.{TypedProcedure as CodeProcedure}}}
pub use Rattle.layout.specs.Placement.{ModulePlacement, PieceKind, kind_of}
pub use Rattle.object_modules.specs.{Image.{Symbol, range_at}, Module.{ObjectModule, Public, length_of}, Runs.{fixes_in}, internal.Views.{owned_public_view}, declared.segment.{Fix.{Fix}, Segment.TheVariants.{Code}}}
pub use Rattle.isa8080.proofs.EncodingLemmas.{read_back}
pub use Rattle.isa8080.specs.{Code.{Form, One, Three, Two, Unknown, bytes_of, first_instruction, form_of, instruction_of}, State.{word}, Text.{byte_digits}, declared.instr.Instr.{Instr}}
pub use Rattle.runtime8080.specs.declared.routine.Routine.{Routine}
pub use Rattle.codegen8080.proofs.NewNames.{map_more as map_push}
pub use Rattle.sources.specs.{Programs.{program_modules, texts_of}, declared.sources.Source.{Source}}
pub use Rattle.tool.specs.Construction.{Construction, IsConstruction}
pub use Rattle.object_commands.proofs.Lines.{hole_is}
pub use Rattle.object_commands.specs.{Listing.{part_line}, Placing.{address_digits, range_line}}
pub use Rattle.listings.specs.Listing.{AllThere, IsNoCodeAt, IsShown, ListsModule, Part as ShownPart, ShowsByte, before_lines, byte_among, cell_of, cells_from, cells_in, cells_of, instr_text, is_address_at, lines_of, listed_from, margin, name_line, numbered_line, part_lines, parts_beside, parts_in, parts_text, sizes_text}
unfoldable pub use Rattle.listings.specs.Listing.{byte_in}
pub use Rattle.listings.specs.Names.{AreNamesOf, BeginsInCode, IsCodeName, IsCodeNameAmong, IsInCode, code_address, code_place, is_private, module_symbols, names_in_code, object_symbol, procedure_symbol, procedure_symbols, public_place, public_symbols, routine_names, symbol_of}
pub use Rattle.listings.specs.Programs.{AreListed, ListsProgram, next_module, no_module}
pub use Rattle.listings.specs.Symbols.{AreCodeOf, AreOwnersOf, HasSymbols, HaveSymbols, IsCodeOf, IsOwnerBy, IsOwnerOf, SymbolsOfProgram, is_own, line_if, next_symbols, no_symbols, object_line, procedure_line, procedure_with, source_line}
pub use Rattle.listings.specs.declared.image.Coded.{Coded}
pub use Rattle.listings.specs.declared.named.NameText.{NameText}
pub use Rattle.listings.specs.declared.named.NameText.TheVariants.{Declared}
pub use Rattle.listings.specs.declared.named.Named.{Named}
pub use Rattle.listings.specs.declared.parts.CodeSegment.{CodeSegment}
pub use Rattle.listings.specs.declared.parts.Part.{Part}
pub use Rattle.listings.specs.declared.view.ModuleView.{ModuleView}
pub use Rattle.listings.specs.internal.Adding.{Adds, IsBegun}
pub use Rattle.listings.specs.internal.Modules.{code_text, first_length}
pub use Rattle.listings.specs.internal.Parts.{AddsParts, IsAdding, IsByteAt, IsCodeIn, IsCodePart, IsGood, IsGoodBy, IsKindBy, IsLone, IsNamedBy, IsNoCode, IsPartOf, StepsOver, bytes_shown, cells_if, kept_cells, lined, lines_if, part_view, room_of, text_for}
pub use Rattle.listings.specs.internal.Programs.{AddsNames, AddsNamesSoFar, AreFirstViews, AreViews, Follow, HasNames, IsListingOf, IsNameAmong, IsNameIn, IsPartOfCode, IsViewAt, ListsView, ListsViews, code_size, data_size, next_view, no_view, object_names, object_of, pair_of, placed_of, public_names, text_of, typed_of}
pub use Rattle.listings.specs.internal.Reading.{IsCoded, IsCodedAt, are_there, is_byte}
pub use Rattle.listings.specs.internal.Symbols.{HasLine, HasObjectLines, HasProcedureLines, HasSourceLines, HasSymbolsOf, HaveSymbolsOf, IsPlaceIn, Rises, has_kind, line_of, own_of, owner_text, procedure_names}
pub use Rattle.listings.specs.internal.Views.{name_at, named_view, named_with, routine_name, text_of_name}
