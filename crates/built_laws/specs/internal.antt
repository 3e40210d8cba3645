-- Definitions that only laws cite.
pub use Rattle.meaning_laws.specs.internal.Defaults
pub use Rattle.meaning_laws.specs.internal.Meant
pub use Rattle.meaning_laws.specs.internal.Places
pub use Rattle.typed_laws.specs.internal.Limits
pub mod BuiltPrograms
