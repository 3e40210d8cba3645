pub mod internal
pub use Rattle.object_modules.specs.Walking
