pub use Rattle.symbols.proofs.Keys
pub mod Lists
pub mod Views
pub mod TakenBytes
