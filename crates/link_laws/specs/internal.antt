-- The invariants of the loops of linking.
pub mod Passes
pub mod Building
-- The invariants of the loops over the contents of files.
pub mod Growing
