mod Prelude
pub mod Reading
