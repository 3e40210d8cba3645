-- Cited by other crates, private functions and proofs, and by no contract of the program or of a library.
pub mod Contents
pub mod Groups
pub mod Fixes
pub mod Named
pub mod Cuts
pub mod Texts
