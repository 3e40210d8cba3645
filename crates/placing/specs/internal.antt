pub mod Placings
pub mod Reaches
pub mod Claims
pub mod Tables
