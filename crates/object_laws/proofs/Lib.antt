mod Prelude
pub mod Booleans
pub mod BorrowedNames
pub mod Files
pub mod Texts
pub mod Merges
