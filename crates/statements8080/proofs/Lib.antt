mod Prelude
pub mod Adding
pub mod Jumps
pub mod Targets
