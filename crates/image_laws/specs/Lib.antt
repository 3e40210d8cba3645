pub mod internal
pub mod Objects
pub mod Names
pub mod Segments
