pub mod Bases
pub mod Standing
pub mod Lengths
pub mod Judged
pub mod Highs
pub mod Refusals
pub mod Made
