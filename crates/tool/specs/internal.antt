pub mod Inside
pub mod Compiling
pub mod Merged
