pub use Rattle.object_modules.specs.Merge
pub mod Faults
pub mod internal
