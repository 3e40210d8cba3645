pub mod Publics
pub mod Meant
pub mod Named
pub mod Defaults
pub mod Places
