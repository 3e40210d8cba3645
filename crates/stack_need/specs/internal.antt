pub mod Within
pub mod Graph
