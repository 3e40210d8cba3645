pub mod Chains
pub mod internal
