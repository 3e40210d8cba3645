pub mod Machine
pub mod Rooms
pub mod Dropping
pub mod Modules
