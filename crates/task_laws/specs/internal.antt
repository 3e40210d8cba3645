-- Cited by other crates, private functions and proofs, and by no contract of the program or of a library.
pub mod Conditions
-- Definitions that only the generator and its laws cite.
pub mod Contexts
pub mod Tasks
pub mod Steps
