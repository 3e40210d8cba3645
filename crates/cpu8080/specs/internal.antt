-- What only private functions and proofs cite.
pub mod Finish
pub mod Lines
pub mod PairBytes
pub mod MachineParts
pub mod Tables
