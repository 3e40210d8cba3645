pub mod Asking
pub mod Ending
