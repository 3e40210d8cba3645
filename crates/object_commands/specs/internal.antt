-- What only private functions and proofs cite.
pub mod Listed
pub mod Merges
pub mod Rooms
