-- What proofs of reading speak of.
pub mod Keeping
pub mod Told
