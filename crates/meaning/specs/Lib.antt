pub mod Values
pub mod Outcomes
pub mod Access
pub mod Meaning
pub mod Run
pub mod internal
