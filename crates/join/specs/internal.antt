pub mod Shared
pub mod PublicTables
