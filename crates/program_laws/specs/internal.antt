-- What only proofs cite.
pub use Rattle.procedure_laws.specs.internal.CodeContexts
pub use Rattle.procedure_laws.specs.internal.Tasks
pub mod Typed
pub mod Made
pub mod Performing
pub mod Layouts
pub mod Linked
pub mod Entering
pub mod KnownValues
