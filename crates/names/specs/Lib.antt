pub mod Environment
pub mod BuiltIns
pub mod DeclaredNames
pub mod internal
