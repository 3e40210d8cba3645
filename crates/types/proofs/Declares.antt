pub mod DeclaredItems
pub mod Entries
pub mod DeclaredTables
