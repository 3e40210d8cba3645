mod Prelude
pub mod NeededRoom
pub mod BuiltPrograms
