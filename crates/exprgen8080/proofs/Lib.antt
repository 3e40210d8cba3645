mod Prelude
pub mod Arguments
pub mod PlansWithoutLabels
pub mod Ranks
pub mod Marked
pub mod Named
pub mod Emitting
pub mod CodeLaws
