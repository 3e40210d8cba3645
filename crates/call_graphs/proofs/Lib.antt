mod Prelude
pub mod Elements
pub mod Needs
mod Reversed
mod Marks
mod Searching
mod Turns
mod AllBodies
