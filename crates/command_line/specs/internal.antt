pub mod Building
pub mod Errors
pub mod Examples
pub mod Names
pub mod Pages
pub mod Reads
pub mod Orders
