pub mod Fixing
pub mod Putting
pub mod Views
pub mod Images
pub mod Refusing
