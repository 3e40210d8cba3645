-- Cited by other crates, private functions and proofs, and by no contract of the program or of a library.
pub mod Laid
pub mod Places
-- Expressions that change nothing, and outcomes that may replace each other.
pub mod Trees
pub mod Evaluations
