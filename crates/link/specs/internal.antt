-- What proofs of merging files speak of.
pub mod Causes
