pub mod Growing
pub mod Looking
