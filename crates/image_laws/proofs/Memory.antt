pub mod Lists
pub mod Bytes
pub mod Addresses
pub mod Modules
pub mod Meanings
pub mod Among
pub mod Objects
pub mod Starting
