mod Prelude
pub mod Derivations
mod Rows
