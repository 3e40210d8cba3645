mod Prelude
pub mod Images
pub mod Programs
pub mod Merges
pub mod Memory
