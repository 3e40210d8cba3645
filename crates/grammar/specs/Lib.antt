pub mod Symbols
pub mod Spelling
pub mod Forms
pub mod Nesting
pub mod Derivation
pub mod internal
