pub mod Names
pub mod Listing
pub mod Programs
pub mod Symbols
pub mod internal
