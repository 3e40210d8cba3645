mod Prelude
pub mod Numbers
pub mod Heights
pub mod Agreement
pub mod Machine
pub mod Calls
pub mod Places
pub mod Loads
pub mod Stores
pub mod Ranges
pub mod Words
pub mod Bytes
pub mod Relations
pub mod Branches
pub mod CarriedOut
