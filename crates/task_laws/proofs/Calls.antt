pub mod Arguments
pub mod Calls
