pub mod Events
pub mod Input
pub mod Session
pub mod internal
