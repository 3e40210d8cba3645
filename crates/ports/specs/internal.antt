-- What only private functions and proofs cite.
pub mod Queues
pub mod Fields
