-- What private functions and proofs cite.
pub mod Examples
pub mod Held
pub mod Keys
pub mod Steps
