mod Prelude
pub mod Lists
pub mod Numbering
pub mod TreesOfParts
pub mod BindingWalks
pub mod Loops
pub mod References
