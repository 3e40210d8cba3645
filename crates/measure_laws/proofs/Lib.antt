mod Prelude
pub mod Footprints
pub mod Heights
pub mod Heads
pub mod Bounds
pub mod Labels
pub mod Trees
