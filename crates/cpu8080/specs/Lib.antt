pub use Rattle.isa8080.specs.State
pub use Rattle.isa8080.specs.Code
pub use Rattle.isa8080.specs.Act
pub use Rattle.isa8080.specs.Step
pub mod Machine
pub mod Runs
pub mod Table
pub mod internal
