pub mod Sharing
pub mod Landing
pub mod internal
