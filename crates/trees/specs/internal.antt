-- Cited by other crates, private functions and proofs, and by no contract of the program or of a library.
pub mod Views
pub mod Functions
