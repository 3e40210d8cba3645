pub mod GlobalNames
pub mod internal
