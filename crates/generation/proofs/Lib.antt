mod Prelude
pub mod Bounding
pub mod Contract
pub mod Counting
pub mod TreeCode
pub mod Linkable
pub mod Programs
pub mod Doing
pub mod Lying
