-- What private functions and proofs cite.
pub mod Examples
pub mod Fits
