-- Cited by other crates, private functions and proofs, and by no contract of the program or of a library.
pub mod Weights
pub mod Sound
pub mod Bounds
-- Definitions that only proofs cite.
pub mod Heights
pub mod Sizes
pub mod Footprints
pub mod Charges
pub mod Steps
pub mod ItemLabels
pub mod Plans
pub mod Fits
