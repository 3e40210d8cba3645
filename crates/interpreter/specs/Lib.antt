pub use Rattle.stack_machine.specs.Ends
pub use Rattle.stack_machine.specs.declared.end.RunFault
pub mod Budgets
pub mod internal
