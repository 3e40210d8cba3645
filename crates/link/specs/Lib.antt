pub use Rattle.link_laws.specs.Faults
pub use Rattle.failure.specs.Writing
pub mod Streams
pub mod internal
