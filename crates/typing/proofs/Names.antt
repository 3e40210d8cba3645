pub mod Meeting
pub mod ChecksWithoutNames
pub mod Bound
pub mod Expressions
pub mod KnownItems
pub mod Structures
pub mod Statements
pub mod Modules
