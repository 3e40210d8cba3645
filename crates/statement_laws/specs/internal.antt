-- Definitions that only the generator and its laws cite.
pub use Rattle.codegen8080.specs.internal.Generated
pub use Rattle.codegen8080.specs.internal.Modules as GeneratedModules
pub use Rattle.codegen8080.specs.internal.Procedures as GeneratedProcedures
pub use Rattle.task_laws.specs.internal.Contexts as CodeContexts
pub use Rattle.task_laws.specs.internal.Tasks
pub mod Bodies
pub mod Statements
pub use Rattle.codegen8080.specs.internal.Targets
