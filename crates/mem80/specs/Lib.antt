pub mod Memory
pub mod Range
pub mod Pieces
pub mod Sums
pub mod internal
