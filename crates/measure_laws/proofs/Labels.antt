pub mod Binding
pub mod Lists
pub mod Modules
pub mod Placing
