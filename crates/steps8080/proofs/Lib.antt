mod Prelude
pub mod Labels
pub mod Numbered
pub mod Reached
pub mod Binding
pub mod Refused
pub mod Kept
pub mod SiteTraits
pub mod SiteNames
