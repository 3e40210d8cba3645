pub mod Definitions
pub mod Expansion
pub mod Fault
pub mod internal
