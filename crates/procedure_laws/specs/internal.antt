-- Definitions that only the generator and its laws cite.
pub use Rattle.statement_laws.specs.internal.GeneratedModules
pub use Rattle.statement_laws.specs.internal.CodeContexts
pub use Rattle.statement_laws.specs.internal.Tasks
pub use Rattle.statement_laws.specs.internal.Targets
pub mod Modules
pub mod Contexts
pub mod Procedures
pub mod Premises
