-- Cited by other crates, private functions and proofs, and by no contract of the program or of a library.
pub mod Runs
-- What only private functions and proofs cite.
pub mod Arguments
pub mod Views
pub mod Next
pub mod Performs
pub mod FrameParts
pub mod Moves
pub mod Opened
