pub mod Ends
pub mod internal
