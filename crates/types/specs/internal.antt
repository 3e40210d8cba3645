pub mod Views
pub mod DeclareItems
pub mod Walking
pub mod Lists
pub mod Declares
