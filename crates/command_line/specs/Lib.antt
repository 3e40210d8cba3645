pub use Rattle.failure.specs.Failure
pub mod Command
pub mod Explained
pub mod Settings
pub mod internal
