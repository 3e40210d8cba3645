mod Prelude
pub mod Names
pub mod Calls
pub mod Mains
pub mod Leaving
pub mod Frames
pub mod Changes
pub mod References
pub mod WritableBytes
pub mod Named
pub mod Declared
pub mod Places
pub mod Defaults
pub mod PublicItems
pub mod Locations
pub mod PublicsOfTexts
pub mod Publics
