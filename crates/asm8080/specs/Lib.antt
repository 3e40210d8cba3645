pub mod Standing
pub mod Runs
pub mod Items
pub mod Assembled
pub mod Numbers
pub mod internal
