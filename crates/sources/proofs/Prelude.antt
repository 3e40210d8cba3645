-- The names that the proofs of this crate cite, passed on from one place. Declares nothing.
pub use Rattle.std.proofs.{Common.{Bool, Err, List, None, Ok, Result, ap, false, if◌then◌else◌, length, map, nat_le, refl, subst, sym, true, ℕ, ◌∙◌, ◌≡◌, ◌≤◌}, lemmas.List.Elements.{All-cons, All-nil, All-weaker}}
pub use Rattle.typed_trees.specs.{Globals.{ListsGlobals}, TypedTrees.{TypedModule}, Views.{module_view}}
pub use Rattle.layout.specs.{Joined.{IsJoined}, Lawful.{IsLawful}, Sound.{IsSoundlyTyped}, Storage.{Storage, constants_fit, data_bytes, storage_with}, declared.fault.Fault.{Fault, TheVariants.{ConstantsTooLarge, DataTooLarge}}, declared.slot.TheConstants.{SEGMENT_LIMIT}}
unfoldable pub use Rattle.layout.specs.{Placing.{placement_by, placing_refusal}, Storage.{storage_of}}
pub use Rattle.sources.specs.Programs.{AreSourcesOf, IsPlacedBy, program_modules}
pub use Rattle.sources.specs.Reading.{HasTyping, IsSourceOf, IsText}
