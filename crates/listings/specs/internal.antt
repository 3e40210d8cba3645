-- What only private functions and proofs cite.
pub mod Reading
pub mod Parts
pub mod Views
pub mod Marks
pub mod Adding
pub mod Modules
pub mod Programs
pub mod Origins
pub mod Symbols
