pub use Rattle.program_laws.specs.Agreement
pub use Rattle.program_laws.specs.MemoryAtEnd
pub mod Bounded
pub mod Kept
pub mod ModuleMarks
pub mod internal
