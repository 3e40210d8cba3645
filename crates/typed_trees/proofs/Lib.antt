pub use Rattle.trees.proofs.Lists
mod Prelude
pub mod Counted
pub mod Views
pub mod Capped
pub mod MemberTable
pub mod Heights
pub mod WellTypedExamples
pub mod Inside
pub mod Heads
pub mod Everywhere
pub mod Numbers
