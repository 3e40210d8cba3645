pub use Rattle.mem80.specs.Sums
pub mod Records
pub mod internal
