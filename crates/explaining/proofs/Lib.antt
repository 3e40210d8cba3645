mod Prelude
pub mod Looked
