mod Prelude
pub mod Explained
