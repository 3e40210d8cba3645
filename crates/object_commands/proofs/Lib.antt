mod Prelude
pub mod FilesWritten
pub mod FilesPlaced
pub mod Rooms
pub mod Merged
pub mod Lines
pub mod Lists
pub mod Refused
pub mod Listings
