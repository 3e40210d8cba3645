pub mod Counter
pub mod internal
pub mod Images
