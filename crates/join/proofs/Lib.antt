mod Prelude
pub mod SameLists
pub mod GlobalLoops
pub mod PublicTables
pub mod MainModules
pub mod Refusals
