pub use Rattle.codegen8080.specs.declared.meeting.Here
pub use Rattle.task_laws.specs.CallingConvention
pub use Rattle.task_laws.specs.ProgramTypes
pub mod internal
