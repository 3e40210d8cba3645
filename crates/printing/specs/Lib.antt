pub use Rattle.ports.specs.Events
pub use Rattle.failure.specs.Writing
pub mod Report
pub use Rattle.cpu8080.specs.Runs
pub use Rattle.printing.specs.Report
pub mod Printing
pub mod internal
