pub mod Views
pub mod Segments
pub mod internal
