pub use Rattle.tool.specs.Headline
pub use Rattle.stack_need.specs.StackNeed
pub mod NeededRoom
pub mod internal
