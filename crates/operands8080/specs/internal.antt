-- Definitions that only the generator and its laws cite.
pub mod Products
pub mod Addresses
pub mod Loads
pub mod Pairs
pub mod Stores
pub mod Answers
pub mod ByteRelations
pub mod WordRelations
pub mod Relations
pub mod Branches
