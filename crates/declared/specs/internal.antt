-- Cited by other crates, private functions and proofs, and by no contract of the program or of a library.
pub mod Frames
pub mod Kinds
pub mod Cuts
pub mod Slots
pub mod Nesting
pub mod Access
