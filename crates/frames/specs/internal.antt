-- Cited by other crates, private functions and proofs, and by no contract of the program or of a library.
pub mod Frames
pub mod Charges
pub mod Calls
pub mod Distances
pub mod Examples
-- The stack that a procedure of a module takes, and the places of its objects there.
pub mod Objects
