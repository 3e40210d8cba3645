pub mod Statements
pub mod Constants
pub mod Bounds
