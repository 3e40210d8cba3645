-- Cited by other crates, private functions and proofs, and by no contract of the program or of a library.
pub mod Routines
pub mod Moves
-- What only private functions and proofs cite.
pub mod Listings
pub mod Emission
