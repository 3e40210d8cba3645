pub use Rattle.failure.proofs.WritingLemmas
mod Prelude
pub mod LinesPrinted
pub mod FilesRead
