mod Prelude
pub mod Keys
pub mod Names
