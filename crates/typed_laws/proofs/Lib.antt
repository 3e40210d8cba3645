mod Prelude
pub mod DeclaredObjects
pub mod TextParts
pub mod Facts
pub mod SameGlobals
pub mod GlobalNames
pub mod Formed
mod Heads
pub mod Heights
pub mod Plain
pub mod Charges
