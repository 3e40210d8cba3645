-- The names that the proofs of this crate cite, passed on from one place. Declares nothing.
pub use Rattle.std.proofs.{Common.{All, List, Some, [], ap, arith, min, refl, subst, sym, ℕ, ◌+◌, ◌<◌, ◌∷◌, ◌≡◌, ◌≤◌}, lemmas.List.Elements.{All-cons, All-nil}}
pub use Rattle.typed_trees.specs.TypedTrees.{TypedModule}
pub use Rattle.sources.specs.{Programs.{AreSourcesOf, IsProgramOf, program_modules}, Reading.{IsSourceOf}}
pub use Rattle.tool.specs.Construction.{Construction, IsConstruction}
