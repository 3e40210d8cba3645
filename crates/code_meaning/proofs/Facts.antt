pub mod Places
pub mod Changes
pub mod Stores
pub mod After
pub mod Uses
pub mod Steady
