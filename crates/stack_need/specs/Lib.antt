pub mod Calls
pub mod CallGraph
pub mod StackNeed
pub mod internal
