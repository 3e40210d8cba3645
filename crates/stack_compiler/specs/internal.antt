-- Cited by other crates, private functions and proofs, and by no contract of the program or of a library.
pub mod Compiled
pub mod Sites
pub mod Purposes
pub mod ObjectParts
pub mod Loops
pub mod Openings
pub mod Sequences
pub mod Rows
pub mod MainCode
pub mod Marked
pub mod Counted
