pub use Rattle.statement_laws.specs.ProgramTypes
pub mod Calls
pub mod Main
pub mod OneModule
pub mod internal
