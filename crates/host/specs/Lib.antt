pub use Rattle.failure.specs.declared.Failure as Outcome
pub use Rattle.ports.specs.Events
pub use Rattle.failure.specs.Failure
pub mod Files
pub use Rattle.host.specs.Files
pub use Rattle.failure.specs.Writing
pub mod Reading
pub mod Refusals
pub mod internal
