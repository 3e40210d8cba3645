-- Cited by other crates, private functions and proofs, and by no contract of the program or of a library.
pub mod Example
-- What only private functions and proofs cite.
pub mod Assembling
pub mod Stored
-- What only proofs cite.
pub mod Examples
