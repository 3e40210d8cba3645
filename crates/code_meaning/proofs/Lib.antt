mod Prelude
pub mod Numbers
pub mod Outcomes
pub mod Landing
pub mod Standing
pub mod FirstItems
pub mod Halting
pub mod Owning
pub mod Stores
pub mod Pushes
pub mod Access
pub mod ByteResults
pub mod Sequences
pub mod Lawful
pub mod Facts
