pub use Rattle.layout.specs.Sound
pub use Rattle.layout.specs.Storage
pub mod internal
