pub mod Following
pub mod Examples
pub mod Laws
