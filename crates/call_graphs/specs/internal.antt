-- Cited by other crates, private functions and proofs, and by no contract of the program or of a library.
pub mod Needs
pub mod Views
pub mod Path
pub mod Search
pub mod Searching
