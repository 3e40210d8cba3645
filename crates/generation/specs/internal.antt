-- What object modules of the modules of a program come to, which only proofs and private functions cite.
pub use Rattle.program_laws.specs.internal.Typed
pub use Rattle.image_laws.specs.internal.Names
pub mod Measured
pub mod CodeItems
pub mod Modules
pub mod TreeCode
pub mod Doing
pub mod Programs
