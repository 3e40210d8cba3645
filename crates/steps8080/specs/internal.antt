-- Cited by other crates, private functions and proofs, and by no contract of the program or of a library.
pub mod Instructions
pub mod Facts
pub mod Step
pub mod Externals
pub mod Writer
pub mod Site
pub mod Queries
pub mod Widths
pub mod Questions
-- Definitions that only private functions and proofs cite.
pub mod Labels
