-- Cited by other crates, private functions and proofs, and by no contract of the program or of a library.
pub mod Plans
pub mod Bodies
pub mod SamePlaces
pub mod Counters
-- Definitions that only proofs cite.
pub mod Assignments
pub mod Tests
pub mod Iterations
pub mod Branches
pub mod Cases
pub mod Moves
pub mod Adding
pub mod Finding
