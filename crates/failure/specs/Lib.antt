pub mod Failure
pub mod Writing
