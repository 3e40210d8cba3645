pub use Rattle.object_modules.specs.Merge
pub use Rattle.link_laws.specs.Faults
pub mod Merging
pub mod internal
