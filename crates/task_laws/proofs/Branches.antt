pub mod Jumps
pub mod Branches
pub mod Conditions
pub mod BranchLaws
