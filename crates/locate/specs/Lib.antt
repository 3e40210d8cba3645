pub use Rattle.object_modules.specs.Image
pub use Rattle.mem80.specs.Pieces
pub mod Locating
pub mod Loading
pub mod internal
