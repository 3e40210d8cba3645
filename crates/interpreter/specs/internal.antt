pub use Rattle.stack_compiler.specs.declared.marking.StackMark
pub use Rattle.stack_compiler.specs.declared.marking.StackPart
pub use Rattle.stack_compiler.specs.internal.Counted
pub use Rattle.stack_compiler.specs.internal.Marked
pub mod MainModules
pub mod Contents
