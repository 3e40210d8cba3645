mod Prelude
pub mod PublicNames
pub mod Sites
