-- A file judged from its front, and worked objects.
pub mod Judgement
pub mod Objects
pub mod Examples
pub mod Spelled
pub mod Faults
pub mod Accepted
pub mod Links
pub mod Placements
pub mod Joining
pub mod Views
pub mod Walks
