mod Prelude
pub mod PublicsInOrder
pub mod Names
pub mod Merges
pub mod Runs
pub mod FileImages
